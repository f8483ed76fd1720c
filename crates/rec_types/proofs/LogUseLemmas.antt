-- How a step changes the length of the log and its use.
use Rattle.std.proofs.Common.{◌≡◌, ℕ, ◌+◌, ◌≤◌, ◌<◌, zero, suc, Bool, true, false, cond, if◌then◌else◌, not, ◌&&◌, eqb, nat_lt, List, [], ◌∷◌, ◌++◌, length, filter, refl, sym, ap, ◌∙◌, IsTrue, arith, length-append}
use Rattle.std.proofs.lemmas.Bool.Decides.{nat_tests}
use Rattle.rec_types.specs.History.{Change, live_of, taken_back, live_from, is_taken, is_pending, log_len, undo_last}
use Rattle.rec_types.specs.Kept.{Kept, change_of, history_of, AllBegun}

count_more : (p : Change → Bool) (h : List Change) (c : Change) → length (filter p (h ++ c ∷ [])) ≡ length (filter p h) + cond (p c) 1 0
count_more p [] c = at (p c)
  where
    at : (b : Bool) → length (cond b (c ∷ []) []) ≡ 0 + cond b 1 0
    at true = refl
    at false = refl
count_more p (d ∷ h) c = at (p d) (count_more p h c)
  where
    at : (b : Bool) → length (filter p (h ++ c ∷ [])) ≡ length (filter p h) + cond (p c) 1 0 → length (cond b (d ∷ filter p (h ++ c ∷ [])) (filter p (h ++ c ∷ []))) ≡ length (cond b (d ∷ filter p h) (filter p h)) + cond (p c) 1 0
    at true ih = omega arith
    at false ih = ih

-- a live change adds one record, and may need another
pub log_len-push : (h : List Change) (c : Change) → c.live ≡ true → log_len (h ++ c ∷ []) ≡ log_len h + 1
log_len-push h c live = omega (arith, length-append h (c ∷ []), count_more is_taken h c, ap {B = ℕ} (λ b. cond (not b) 1 0) live)

-- the counts of one more change in front
count_front : (p : Change → Bool) (c : Change) (h : List Change) (b : Bool) → p c ≡ b → length (filter p (c ∷ h)) ≡ cond b 1 0 + length (filter p h)
count_front p c h true is = ap (λ b. length (cond b (c ∷ filter p h) (filter p h))) is ∙ omega arith
count_front p c h false is = ap (λ b. length (cond b (c ∷ filter p h) (filter p h))) is ∙ omega arith

record Counts (is_open : ℕ → Bool) (t : ℕ) (h g : List Change) : Type 0 where
  as_long : length g ≡ length h
  taken : length (filter is_taken g) ≡ length (filter is_taken h) + 1
  pending : length (filter (is_pending is_open) g) + cond (is_open t) 1 0 ≡ length (filter (is_pending is_open) h)

counts-undo_last : (is_open : ℕ → Bool) (t : ℕ) (h : List Change) → 0 < live_from h t zero → Counts is_open t h (undo_last t h)
counts-undo_last is_open t [] some = absurd (omega arith)
counts-undo_last is_open t (c ∷ h) some = at (nat_lt 0 (live_from h t zero)) (live_of t c) refl refl some (counts-undo_last is_open t h)
  where
    live_is : live_of t c ≡ true → (c.live ≡ true) × (c.tx ≡ t)
    live_is is = parts (eqb c.tx t) c.live refl refl is
      where
        parts : (b l : Bool) → eqb c.tx t ≡ b → c.live ≡ l → b && l ≡ true → (c.live ≡ true) × (c.tx ≡ t)
        parts true true same live is = (live, grind (arith, nat_tests))
        parts true false same live is = absurd (cc)
        parts false l same live is = absurd (cc)

    at : (more own : Bool) → nat_lt 0 (live_from h t zero) ≡ more → live_of t c ≡ own → 0 < (if own then suc (live_from h t zero) else live_from h t zero) → (0 < live_from h t zero → Counts is_open t h (undo_last t h)) → Counts is_open t (c ∷ h) (if more then c ∷ undo_last t h else (if own then taken_back c else c) ∷ h)
    at true own more is some ih =
        let later = ih (grind (arith, nat_tests)) in
        record {
          as_long = ap suc later.as_long;
          taken = omega (arith, count_front is_taken c (undo_last t h) (is_taken c) refl, count_front is_taken c h (is_taken c) refl, later.taken);
          pending = omega (arith, count_front (is_pending is_open) c (undo_last t h) (is_pending is_open c) refl, count_front (is_pending is_open) c h (is_pending is_open c) refl, later.pending);
        }
    at false true more is some ih =
        let own = live_is is in
        record {
          as_long = refl;
          taken = omega (arith, count_front is_taken (taken_back c) h true refl, count_front is_taken c h false (ap not own.0));
          pending = omega (arith, count_front (is_pending is_open) (taken_back c) h false refl, count_front (is_pending is_open) c h (is_open t) (ap (λ b. b && is_open c.tx) own.0 ∙ ap is_open own.1));
        }
    at false false more is some ih = absurd (grind (arith, nat_tests))

-- taking a change back makes the log one record longer
pub log_len-undo_last : (t : ℕ) (h : List Change) → 0 < live_from h t zero → log_len (undo_last t h) ≡ log_len h + 1
log_len-undo_last t h some =
    let counts = counts-undo_last (λ _. false) t h some in
    omega (arith, counts.as_long, counts.taken)

fewer_pending : (is_open also_open : ℕ → Bool) (n : ℕ) (cs : List Kept) → ((t : ℕ) → t ≤ n → IsTrue (also_open t) → IsTrue (is_open t)) → AllBegun n cs → length (filter (is_pending also_open) (history_of cs)) ≤ length (filter (is_pending is_open) (history_of cs))
fewer_pending is_open also_open n [] within begun = omega arith
fewer_pending is_open also_open n (c ∷ cs) within begun = at c.live (also_open c.tx) (is_open c.tx) refl refl refl (fewer_pending is_open also_open n cs within begun.1)
  where
    old : ℕ
    old = length (filter (is_pending is_open) (history_of cs))

    new : ℕ
    new = length (filter (is_pending also_open) (history_of cs))

    at : (live also is : Bool) → c.live ≡ live → also_open c.tx ≡ also → is_open c.tx ≡ is → new ≤ old → length (filter (is_pending also_open) (history_of (c ∷ cs))) ≤ length (filter (is_pending is_open) (history_of (c ∷ cs)))
    at live also is live_is also_is is_is ih =
        let front = count_front (is_pending also_open) (change_of c) (history_of cs) (live && also) (λ i. live_is i && also_is i) in
        let back = count_front (is_pending is_open) (change_of c) (history_of cs) (live && is) (λ i. live_is i && is_is i) in
        less live also is also_is is_is front back
      where
        less : (live also is : Bool) → also_open c.tx ≡ also → is_open c.tx ≡ is → length (filter (is_pending also_open) (history_of (c ∷ cs))) ≡ cond (live && also) 1 0 + new → length (filter (is_pending is_open) (history_of (c ∷ cs))) ≡ cond (live && is) 1 0 + old → length (filter (is_pending also_open) (history_of (c ∷ cs))) ≤ length (filter (is_pending is_open) (history_of (c ∷ cs)))
        less true true true also_is is_is front back = omega arith
        less true true false also_is is_is front back = absurd (cc (sym is_is ∙ within c.tx begun.0 also_is))
        less true false is also_is is_is front back = omega arith
        less false also is also_is is_is front back = omega arith
