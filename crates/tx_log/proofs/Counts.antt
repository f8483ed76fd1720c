-- What a change and its taking back do to the length of the log and to the count of pending changes.
use Rattle.std.proofs.Common.{◌≡◌, ℕ, suc, ◌+◌, Bool, true, false, cond, not, eqb, ◌&&◌, List, [], ◌∷◌, ◌++◌, length, map, Option, Some, None, refl, sym, ap, ◌∙◌, arith, length-append}
use Rattle.std.proofs.lemmas.List.{map-append, length-map}
use Rattle.std.specs.List.{filter}
use Rattle.rec_types.specs.History.{Change, is_taken, is_pending, log_len}
use Rattle.rec_types.specs.Kept.{Kept, change_of, history_of, is_own, newest_or, newest_live, undone_or, undone}
use Rattle.tx_log.proofs.Chains.{same_number}
use Rattle.tx_log.proofs.Lives.{first, newest_is, stack_is_lives, dead}
use Rattle.tx_log.specs.Log.{tx_of_record, tells_change, noted, kept_by, kept_of, stack, Undoes, UndoesUnless, AllWritten}
use Rattle.tx_log.specs.declared.log_record.LogRecord.{LogRecord}

-- the history of one more change
pub history-push : (cs : List Kept) (d : Kept) → history_of (cs ++ d ∷ []) ≡ history_of cs ++ change_of d ∷ []
history-push cs d = map-append change_of cs (d ∷ [])

length_case : (o : Option Kept) (b : Bool) (c : Kept) (cs done : List Kept) → length done ≡ length cs → length (undone_or o b c cs done) ≡ suc (length cs)
length_case (Some d) b c cs done e = ap suc e
length_case None true c cs done e = refl
length_case None false c cs done e = refl

-- taking a change back leaves as many changes
pub length-undone : (t : ℕ) (cs : List Kept) → length (undone t cs) ≡ length cs
length-undone t [] = refl
length-undone t (c ∷ cs) = length_case (newest_live t cs) (is_own t c) c cs (undone t cs) (length-undone t cs)

-- how many changes of a history pass a test
abbrev pub count : (Change → Bool) → List Kept → ℕ
count p cs = length (filter p (history_of cs))

-- the same, with one more change
pub count-push : (p : Change → Bool) (cs : List Kept) (d : Kept) → count p (cs ++ d ∷ []) ≡ count p cs + cond (p (change_of d)) 1 0
count-push p [] d = count_single (p (change_of d))
  where
    count_single : (b : Bool) → length (cond b (change_of d ∷ []) []) ≡ 0 + cond b 1 0
    count_single true = refl
    count_single false = refl
count-push p (c ∷ cs) d = count_more (p (change_of c)) (count-push p cs d)
  where
    count_more : (b : Bool) → count p (cs ++ d ∷ []) ≡ count p cs + cond (p (change_of d)) 1 0 → length (cond b (change_of c ∷ filter p (history_of (cs ++ d ∷ []))) (filter p (history_of (cs ++ d ∷ [])))) ≡ length (cond b (change_of c ∷ filter p (history_of cs)) (filter p (history_of cs))) + cond (p (change_of d)) 1 0
    count_more true e = omega (arith, e)
    count_more false e = e

-- a test that answers otherwise once the change is taken back
count_case : (p : Change → Bool) (t : ℕ) (a b : Bool) → ((c : Kept) → is_own t c ≡ true → (p (change_of c) ≡ a) × (p (change_of (dead c)) ≡ b)) → (c : Kept) (cs done : List Kept) → ((d : Kept) → newest_live t cs ≡ Some d → count p done + cond a 1 0 ≡ count p cs + cond b 1 0) → (o : Option Kept) → newest_live t cs ≡ o → (own : Bool) → is_own t c ≡ own → (u : Kept) → newest_or o own c ≡ Some u → count p (undone_or o own c cs done) + cond a 1 0 ≡ count p (c ∷ cs) + cond b 1 0
count_case p t a b at c cs done step (Some d) e own f u g = kept_front (p (change_of c)) (step d e)
  where
    kept_front : (x : Bool) → count p done + cond a 1 0 ≡ count p cs + cond b 1 0 → length (cond x (change_of c ∷ filter p (history_of done)) (filter p (history_of done))) + cond a 1 0 ≡ length (cond x (change_of c ∷ filter p (history_of cs)) (filter p (history_of cs))) + cond b 1 0
    kept_front true h = omega (arith, h)
    kept_front false h = h
count_case p t a b at c cs done step None e true f u g = changed_front (p (change_of (dead c))) (p (change_of c)) a b (at c f).1 (at c f).0
  where
    changed_front : (x y a b : Bool) → x ≡ b → y ≡ a → length (cond x (change_of (dead c) ∷ filter p (history_of cs)) (filter p (history_of cs))) + cond a 1 0 ≡ length (cond y (change_of c ∷ filter p (history_of cs)) (filter p (history_of cs))) + cond b 1 0
    changed_front true true true true h k = refl
    changed_front true true true false h k = absurd (cc)
    changed_front true true false b h k = absurd (cc)
    changed_front true false true b h k = absurd (cc)
    changed_front true false false true h k = omega arith
    changed_front true false false false h k = absurd (cc)
    changed_front false true true true h k = absurd (cc)
    changed_front false true true false h k = omega arith
    changed_front false true false b h k = absurd (cc)
    changed_front false false true b h k = absurd (cc)
    changed_front false false false true h k = absurd (cc)
    changed_front false false false false h k = refl
count_case p t a b at c cs done step None e false f u g = absurd (cc)

-- the same, where a change is taken back that passed before as it should, and passes now as it should
pub count-undone : (p : Change → Bool) (t : ℕ) (a b : Bool) → ((c : Kept) → is_own t c ≡ true → (p (change_of c) ≡ a) × (p (change_of (dead c)) ≡ b)) → (cs : List Kept) (u : Kept) → newest_live t cs ≡ Some u → count p (undone t cs) + cond a 1 0 ≡ count p cs + cond b 1 0
count-undone p t a b at [] u e = absurd (cc)
count-undone p t a b at (c ∷ cs) u e = count_case p t a b at c cs (undone t cs) (λ d f. count-undone p t a b at cs d f) (newest_live t cs) refl (is_own t c) refl u e

and_both : (a b : Bool) → (a && b) ≡ true → (a ≡ true) × (b ≡ true)
and_both true b e = (refl, e)
and_both false b e = absurd (cc)

-- one more change is taken back
pub taken-undone : (t : ℕ) (cs : List Kept) (u : Kept) → newest_live t cs ≡ Some u → count is_taken (undone t cs) ≡ count is_taken cs + 1
taken-undone t cs u e = omega (arith, count-undone is_taken t false true (λ c own. (ap not (and_both (eqb c.tx t) c.live own).1, refl)) cs u e)

-- one live change of the open transactions fewer
pub pending-undone : (is_open : ℕ → Bool) (t : ℕ) (cs : List Kept) (u : Kept) → is_open t ≡ true → newest_live t cs ≡ Some u → count (is_pending is_open) (undone t cs) + 1 ≡ count (is_pending is_open) cs
pending-undone is_open t cs u opened e =
    omega (arith, count-undone (is_pending is_open) t true false (λ c own. (ap (λ b. b && is_open c.tx) (and_both (eqb c.tx t) c.live own).1 ∙ ap is_open (same_number c.tx t (and_both (eqb c.tx t) c.live own).0) ∙ opened, refl)) cs u e)

length-history : (cs : List Kept) → length (history_of cs) ≡ length cs
length-history cs = length-map cs change_of

-- a live change makes the log one record longer
pub log_len-push : (cs : List Kept) (d : Kept) → d.live ≡ true → log_len (history_of (cs ++ d ∷ [])) ≡ log_len (history_of cs) + 1
log_len-push cs d is =
    let taken : count is_taken (cs ++ d ∷ []) ≡ count is_taken cs + cond (not d.live) 1 0 = count-push is_taken cs d in
    let none : ◌≡◌ {A = ℕ} (cond (not d.live) 1 0) 0 = ap (λ (b : Bool). cond (not b) 1 0) is in
    omega (arith, taken, none, length-history (cs ++ d ∷ []), length-history cs, length-append cs (d ∷ []))

-- so does taking one back
pub log_len-undone : (t : ℕ) (cs : List Kept) (u : Kept) → newest_live t cs ≡ Some u → log_len (history_of (undone t cs)) ≡ log_len (history_of cs) + 1
log_len-undone t cs u e = omega (arith, taken-undone t cs u e, length-history (undone t cs), length-history cs, length-undone t cs)

-- ---- the whole log

-- the head of a transaction's stack is its newest live change
pub newest_of_stack : (t : ℕ) (rs us : List LogRecord) (u : LogRecord) → stack t rs ≡ u ∷ us → newest_live t (kept_of rs) ≡ Some (noted u)
newest_of_stack t rs us u e = newest_is t (kept_of rs) ∙ ap first (sym (stack_is_lives t rs) ∙ ap (map noted) e)

undoes_some : (t : ℕ) (rs : List LogRecord) (c : LogRecord) (us : List LogRecord) → stack t rs ≡ us → Undoes c us → log_len (history_of (undone t (kept_of rs))) ≡ log_len (history_of (kept_of rs)) + 1
undoes_some t rs c [] e u = absurd u
undoes_some t rs c (x ∷ us) e u = log_len-undone t (kept_of rs) (noted x) (newest_of_stack t rs us x e)

len_step : (k : Bool) (r : LogRecord) (rs : List LogRecord) → UndoesUnless k r (stack (tx_of_record r) rs) → log_len (history_of (kept_by k r (kept_of rs))) ≡ log_len (history_of (kept_of rs)) + 1
len_step true r rs w = log_len-push (kept_of rs) (noted r) refl
len_step false r rs w = undoes_some (tx_of_record r) rs r (stack (tx_of_record r) rs) refl w

-- the log is as long as its history says
pub log_len_is : (rs : List LogRecord) → AllWritten rs → log_len (history_of (kept_of rs)) ≡ length rs
log_len_is [] w = refl
log_len_is (r ∷ rs) w = omega (arith, len_step (tells_change r) r rs w.0.1, log_len_is rs w.1)
