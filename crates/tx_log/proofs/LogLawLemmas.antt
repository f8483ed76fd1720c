-- A log that is written as it grows keeps the laws of the whole log.
use Rattle.std.proofs.Common.{◌≡◌, ℕ, suc, ◌+◌, ◌<◌, ◌≤◌, Bool, true, false, cond, not, eqb, ◌&&◌, ◌||◌, List, [], ◌∷◌, ◌++◌, length, map, drop, reverse, Option, Some, None, refl, sym, ap, subst, ◌∙◌, arith, eq-eqb, append_assoc, ◌⊎◌, inl, inr}
use Rattle.std.specs.List.{filter, list_any}
use Rattle.std.proofs.lemmas.List.{append-nil, map-append, reverse-append, reverse-reverse, length-reverse}
use Rattle.std.proofs.lemmas.List.Elements.{filter-append}
use Rattle.rec_types.specs.Kept.{Kept, is_own, newest_or, newest_live, undone_or, undone}
use Rattle.tx_log.proofs.Chains.{differs, unequal, same_number, numbered-part}
use Rattle.tx_log.proofs.Counts.{newest_of_stack, log_len_is}
use Rattle.tx_log.proofs.Lives.{dead, eqb_sym, and_false}
use Rattle.tx_log.proofs.LogIndex.{reverse_cons}
use Rattle.tx_log.proofs.PlaceLemmas.{Rises, kept_rises}
use Rattle.tx_log.specs.Log.{lsn_of, prev_of, tx_of_record, key_of_record, back_in, leads_to, tells_change, last_of, noted, kept_by, kept_of, stepped, stack, IsNumbered, Undoes, UndoesUnless, IsWritten, AllWritten}
use Rattle.tx_log.specs.LogLaws.{follows, undoes, change_told, IsChained}
use Rattle.tx_log.specs.declared.log_record.LogRecord.{LogRecord}

-- ---- each record of a list

abbrev Each : (LogRecord → Type 0) → List LogRecord → Type 0
Each P [] = Unit {0}
Each P (r ∷ rs) = P r × Each P rs

each_more : (P Q : LogRecord → Type 0) → ((r : LogRecord) → P r → Q r) → (rs : List LogRecord) → Each P rs → Each Q rs
each_more P Q h [] e = tt
each_more P Q h (r ∷ rs) e = (h r e.0, each_more P Q h rs e.1)

each_both : (P Q R : LogRecord → Type 0) → ((r : LogRecord) → P r → Q r → R r) → (rs : List LogRecord) → Each P rs → Each Q rs → Each R rs
each_both P Q R h [] e f = tt
each_both P Q R h (r ∷ rs) e f = (h r e.0 f.0, each_both P Q R h rs e.1 f.1)

abbrev In : LogRecord → List LogRecord → Type 0
In u [] = ⊥
In u (r ∷ rs) = (r ≡ u) ⊎ In u rs

in_part : (u : LogRecord) (newer older : List LogRecord) → In u (newer ++ u ∷ older)
in_part u [] older = inl refl
in_part u (r ∷ newer) older = inr (in_part u newer older)

in_older : (u r : LogRecord) (newer older : List LogRecord) → In u older → In u (newer ++ r ∷ older)
in_older u r [] older h = inr h
in_older u r (x ∷ newer) older h = inr (in_older u r newer older h)

each_in : (P : LogRecord → Type 0) (u : LogRecord) (rs : List LogRecord) → Each P rs → In u rs → P u
each_in P u [] e h = absurd h
each_in P u (r ∷ rs) e (inl h) = subst P h e.0
each_in P u (r ∷ rs) e (inr h) = each_in P u rs e.1 h

-- ---- numbers

record IsBelow (n : ℕ) (u : LogRecord) : Type 0 where
  prev : prev_of u < lsn_of u
  leads : leads_to u < lsn_of u
  within : lsn_of u ≤ n

below_more : (n : ℕ) (u : LogRecord) → IsBelow n u → IsBelow (suc n) u
below_more n u b = record { prev = b.prev; leads = b.leads; within = (let low = b.within in omega arith) }

all_below : (rs : List LogRecord) → IsNumbered rs → Each (IsBelow (length rs)) rs
all_below [] is = tt
all_below (r ∷ rs) is =
    (record { prev = omega (arith, is.0, is.1); leads = omega (arith, is.0, is.2); within = omega (arith, is.0) }, each_more (IsBelow (length rs)) (IsBelow (suc (length rs))) (below_more (length rs)) rs (all_below rs is.3))

up_to_last : (rs : List LogRecord) (t : ℕ) → IsNumbered rs → Each (λ u. eqb (tx_of_record u) t ≡ true → lsn_of u ≤ last_of t rs) rs
up_to_last [] t is = tt
up_to_last (r ∷ rs) t is = last_case (eqb (tx_of_record r) t) refl (up_to_last rs t is.3)
  where
    last_case : (b : Bool) → eqb (tx_of_record r) t ≡ b → Each (λ u. eqb (tx_of_record u) t ≡ true → lsn_of u ≤ last_of t rs) rs → Each (λ u. eqb (tx_of_record u) t ≡ true → lsn_of u ≤ cond b (lsn_of r) (last_of t rs)) (r ∷ rs)
    last_case true e rest = (λ own. omega arith, each_more (IsBelow (length rs)) (λ u. eqb (tx_of_record u) t ≡ true → lsn_of u ≤ lsn_of r) (λ u b own. let low = b.within in omega (arith, is.0)) rs (all_below rs is.3))
    last_case false e rest = (λ own. absurd (let no : true ≡ false = sym own ∙ e in cc), rest)

-- ---- the update that a compensation names is the only one

-- an update among the records is known by its transaction and its prev
abbrev IsKnown : LogRecord → LogRecord → Type 0
IsKnown w u = tells_change u ≡ true → ((eqb (tx_of_record u) (tx_of_record w)) && (eqb (prev_of u) (prev_of w))) ≡ eqb (lsn_of u) (lsn_of w)

-- older records than the update
known_older : (w u : LogRecord) → IsBelow (prev_of w) u ⊎ (eqb (tx_of_record u) (tx_of_record w) ≡ false) → lsn_of u < lsn_of w → IsKnown w u
known_older w u (inl b) low up =
    ap (λ x. eqb (tx_of_record u) (tx_of_record w) && x) (unequal (prev_of u) (prev_of w) (let p = b.prev in let q = b.within in omega arith)) ∙ and_false (eqb (tx_of_record u) (tx_of_record w)) ∙ sym (unequal (lsn_of u) (lsn_of w) low)
known_older w u (inr other) low up = ap (λ x. x && eqb (prev_of u) (prev_of w)) other ∙ sym (unequal (lsn_of u) (lsn_of w) low)

written_prev : (r : LogRecord) (rs : List LogRecord) → IsWritten r rs → prev_of r ≡ last_of (tx_of_record r) rs
written_prev r rs w = w.0

at_or_other : (w u : LogRecord) (rs : List LogRecord) → prev_of w ≡ last_of (tx_of_record w) rs → IsBelow (length rs) u → (eqb (tx_of_record u) (tx_of_record w) ≡ true → lsn_of u ≤ last_of (tx_of_record w) rs) → IsBelow (prev_of w) u ⊎ (eqb (tx_of_record u) (tx_of_record w) ≡ false)
at_or_other w u rs prev below last = or_case (eqb (tx_of_record u) (tx_of_record w)) refl
  where
    or_case : (b : Bool) → eqb (tx_of_record u) (tx_of_record w) ≡ b → IsBelow (prev_of w) u ⊎ (eqb (tx_of_record u) (tx_of_record w) ≡ false)
    or_case true e = inl (record { prev = below.prev; leads = below.leads; within = (let low = last e in omega arith) })
    or_case false e = inr e

-- the newest record, against an update among the older ones
known_newer : (w r : LogRecord) (rs : List LogRecord) → lsn_of r ≡ length rs + 1 → prev_of r ≡ last_of (tx_of_record r) rs → IsBelow (length rs) w → (eqb (tx_of_record w) (tx_of_record r) ≡ true → lsn_of w ≤ last_of (tx_of_record r) rs) → IsKnown w r
known_newer w r rs is prev below last up = newer_case (eqb (tx_of_record r) (tx_of_record w)) refl
  where
    higher : eqb (lsn_of r) (lsn_of w) ≡ false
    higher = differs (lsn_of r) (lsn_of w) (let low = below.within in omega arith)

    newer_case : (b : Bool) → eqb (tx_of_record r) (tx_of_record w) ≡ b → ((eqb (tx_of_record r) (tx_of_record w)) && (eqb (prev_of r) (prev_of w))) ≡ eqb (lsn_of r) (lsn_of w)
    newer_case true e =
        ap (λ x. eqb (tx_of_record r) (tx_of_record w) && x) (differs (prev_of r) (prev_of w) (let low = last (eqb_sym (tx_of_record w) (tx_of_record r) ∙ e) in let p = below.prev in omega arith)) ∙ and_false (eqb (tx_of_record r) (tx_of_record w)) ∙ sym higher
    newer_case false e = ap (λ x. x && eqb (prev_of r) (prev_of w)) e ∙ sym higher

known_itself : (w : LogRecord) → IsKnown w w
known_itself w up = ap (λ x. x && eqb (prev_of w) (prev_of w)) (eq-eqb (tx_of_record w) (tx_of_record w) refl) ∙ eq-eqb (prev_of w) (prev_of w) refl ∙ sym (eq-eqb (lsn_of w) (lsn_of w) refl)

only_one : (rs : List LogRecord) (w : LogRecord) → IsNumbered rs → AllWritten rs → In w rs → Each (IsKnown w) rs
only_one [] w is written h = absurd h
only_one (r ∷ rs) w is written (inl h) =
    let P : LogRecord → Type 0 = λ v. Each (IsKnown v) (r ∷ rs) in
    subst P h (
      known_itself r,
      each_both (IsBelow (length rs)) (λ u. eqb (tx_of_record u) (tx_of_record r) ≡ true → lsn_of u ≤ last_of (tx_of_record r) rs) (IsKnown r)
          (λ u b last. known_older r u (at_or_other r u rs (written_prev r rs written.0) b last) (let low = b.within in omega (arith, is.0)))
          rs (all_below rs is.3) (up_to_last rs (tx_of_record r) is.3),
    )
only_one (r ∷ rs) w is written (inr h) =
    (known_newer w r rs is.0 (written_prev r rs written.0) (each_in (IsBelow (length rs)) w rs (all_below rs is.3) h) (each_in (λ u. eqb (tx_of_record u) (tx_of_record r) ≡ true → lsn_of u ≤ last_of (tx_of_record r) rs) w rs (up_to_last rs (tx_of_record r) is.3) h), only_one rs w is.3 written.1 h)

-- a record is known by its number
known_number : (rs : List LogRecord) (w : LogRecord) → IsNumbered rs → In w rs → Each (λ u. lsn_of u ≡ lsn_of w → u ≡ w) rs
known_number [] w is h = absurd h
known_number (r ∷ rs) w is (inl h) =
    let lsn_is : lsn_of r ≡ lsn_of w = ap lsn_of h in
    (λ same. h, each_more (IsBelow (length rs)) (λ u. lsn_of u ≡ lsn_of w → u ≡ w) (λ u b same. absurd (let low = b.within in omega (arith, is.0))) rs (all_below rs is.3))
known_number (r ∷ rs) w is (inr h) =
    (λ same. absurd (let low = (each_in (IsBelow (length rs)) w rs (all_below rs is.3) h).within in omega (arith, is.0)), known_number rs w is.3 h)

-- ---- filters

filter_none : (p : LogRecord → Bool) (rs : List LogRecord) → Each (λ u. p u ≡ false) rs → filter p rs ≡ []
filter_none p [] e = refl
filter_none p (r ∷ rs) e = ap (λ (b : Bool). cond b (r ∷ filter p rs) (filter p rs)) e.0 ∙ filter_none p rs e.1

any_none : (p : LogRecord → Bool) (rs : List LogRecord) → Each (λ u. p u ≡ false) rs → list_any p rs ≡ false
any_none p [] e = refl
any_none p (r ∷ rs) e = ap (λ (b : Bool). b || list_any p rs) e.0 ∙ any_none p rs e.1

none_any_case : (p : LogRecord → Bool) (r : LogRecord) (rs : List LogRecord) → (list_any p rs ≡ false → filter p rs ≡ []) → (b : Bool) → (b || list_any p rs) ≡ false → cond b (r ∷ filter p rs) (filter p rs) ≡ []
none_any_case p r rs step true e = absurd (let no : true ≡ false = e in cc)
none_any_case p r rs step false e = step e

none_any : (p : LogRecord → Bool) (rs : List LogRecord) → list_any p rs ≡ false → filter p rs ≡ []
none_any p [] e = refl
none_any p (r ∷ rs) e = none_any_case p r rs (none_any p rs) (p r) e

-- the update alone, among those with its number
alone : (rs : List LogRecord) (w : LogRecord) → IsNumbered rs → tells_change w ≡ true → In w rs → filter (λ u. tells_change u && eqb (lsn_of u) (lsn_of w)) rs ≡ w ∷ []
alone [] w is up h = absurd h
alone (r ∷ rs) w is up (inl h) =
    let lsn_is : lsn_of r ≡ lsn_of w = ap lsn_of h in
    let here : (tells_change r && eqb (lsn_of r) (lsn_of w)) ≡ true = ap (λ x. x && eqb (lsn_of r) (lsn_of w)) (ap tells_change h ∙ up) ∙ eq-eqb (lsn_of r) (lsn_of w) lsn_is in
    let p : LogRecord → Bool = λ u. tells_change u && eqb (lsn_of u) (lsn_of w) in
    let rest : filter p rs ≡ [] = filter_none p rs (each_more (IsBelow (length rs)) (λ u. p u ≡ false) (λ u b. ap (λ x. tells_change u && x) (unequal (lsn_of u) (lsn_of w) (let low = b.within in omega (arith, is.0))) ∙ and_false (tells_change u)) rs (all_below rs is.3)) in
    ap (λ (b : Bool). cond b (r ∷ filter p rs) (filter p rs)) here ∙ ap (λ xs. r ∷ xs) rest ∙ ap (λ x. x ∷ []) h
alone (r ∷ rs) w is up (inr h) =
    let low = (each_in (IsBelow (length rs)) w rs (all_below rs is.3) h).within in
    let p : LogRecord → Bool = λ u. tells_change u && eqb (lsn_of u) (lsn_of w) in
    let passed : p r ≡ false = ap (λ x. tells_change r && x) (differs (lsn_of r) (lsn_of w) (omega (arith, is.0))) ∙ and_false (tells_change r) in
    ap (λ (b : Bool). cond b (r ∷ filter p rs) (filter p rs)) passed ∙ alone rs w is.3 up h

filter_same : (p q : LogRecord → Bool) (rs : List LogRecord) → Each (λ u. p u ≡ q u) rs → filter p rs ≡ filter q rs
filter_same p q [] e = refl
filter_same p q (r ∷ rs) e = ap (λ (b : Bool). cond b (r ∷ filter p rs) (filter p rs)) e.0 ∙ ap (λ xs. cond (q r) (r ∷ xs) xs) (filter_same p q rs e.1)

follows_is : (w u : LogRecord) → IsKnown w u → follows (tx_of_record w) (prev_of w) u ≡ (tells_change u && eqb (lsn_of u) (lsn_of w))
follows_is w u known = follows_case (tells_change u) refl
  where
    follows_case : (b : Bool) → tells_change u ≡ b → (b && (eqb (tx_of_record u) (tx_of_record w) && eqb (prev_of u) (prev_of w))) ≡ (b && eqb (lsn_of u) (lsn_of w))
    follows_case true e = known e
    follows_case false e = refl

followed : (rs : List LogRecord) (w : LogRecord) → IsNumbered rs → AllWritten rs → tells_change w ≡ true → In w rs → filter (follows (tx_of_record w) (prev_of w)) rs ≡ w ∷ []
followed rs w is written up h =
    filter_same (follows (tx_of_record w) (prev_of w)) (λ u. tells_change u && eqb (lsn_of u) (lsn_of w)) rs (each_more (IsKnown w) (λ u. follows (tx_of_record w) (prev_of w) u ≡ (tells_change u && eqb (lsn_of u) (lsn_of w))) (follows_is w) rs (only_one rs w is written h))
    ∙ alone rs w is up h

-- ---- the head of a stack

record IsTop (t : ℕ) (rs : List LogRecord) (w : LogRecord) : Type 0 where
  member : In w rs
  update : tells_change w ≡ true
  own : tx_of_record w ≡ t

stack_own_case : (k : Bool) (t : ℕ) (r : LogRecord) (rs : List LogRecord) → tells_change r ≡ k → Each (λ u. (tells_change u ≡ true) × (tx_of_record u ≡ t) × In u rs) (stack t rs) → (b : Bool) → eqb (tx_of_record r) t ≡ b → Each (λ u. (tells_change u ≡ true) × (tx_of_record u ≡ t) × In u (r ∷ rs)) (cond b (stepped k r (stack t rs)) (stack t rs))
stack_own_case true t r rs kind step true e =
    ((kind, same_number (tx_of_record r) t e, inl refl), each_more (λ u. (tells_change u ≡ true) × (tx_of_record u ≡ t) × In u rs) (λ u. (tells_change u ≡ true) × (tx_of_record u ≡ t) × In u (r ∷ rs)) (λ u h. (h.0, h.1, inr h.2)) (stack t rs) step)
stack_own_case false t r rs kind step true e =
    dropped (stack t rs) (each_more (λ u. (tells_change u ≡ true) × (tx_of_record u ≡ t) × In u rs) (λ u. (tells_change u ≡ true) × (tx_of_record u ≡ t) × In u (r ∷ rs)) (λ u h. (h.0, h.1, inr h.2)) (stack t rs) step)
  where
    dropped : (us : List LogRecord) → Each (λ u. (tells_change u ≡ true) × (tx_of_record u ≡ t) × In u (r ∷ rs)) us → Each (λ u. (tells_change u ≡ true) × (tx_of_record u ≡ t) × In u (r ∷ rs)) (drop 1 us)
    dropped [] h = tt
    dropped (u ∷ us) h = h.1
stack_own_case k t r rs kind step false e = each_more (λ u. (tells_change u ≡ true) × (tx_of_record u ≡ t) × In u rs) (λ u. (tells_change u ≡ true) × (tx_of_record u ≡ t) × In u (r ∷ rs)) (λ u h. (h.0, h.1, inr h.2)) (stack t rs) step

stack_own : (t : ℕ) (rs : List LogRecord) → Each (λ u. (tells_change u ≡ true) × (tx_of_record u ≡ t) × In u rs) (stack t rs)
stack_own t [] = tt
stack_own t (r ∷ rs) = stack_own_case (tells_change r) t r rs refl (stack_own t rs) (eqb (tx_of_record r) t) refl

-- what a compensation names
record IsUndone (rs : List LogRecord) (c w : LogRecord) : Type 0 where
  member : In w rs
  update : tells_change w ≡ true
  own : tx_of_record w ≡ tx_of_record c
  leads : leads_to c ≡ prev_of w
  key : key_of_record c ≡ key_of_record w
  back : back_in c ≡ back_in w
  rest : List LogRecord
  top : stack (tx_of_record c) rs ≡ w ∷ rest

undone_of_stack : (rs us : List LogRecord) (c : LogRecord) → stack (tx_of_record c) rs ≡ us → Each (λ u. (tells_change u ≡ true) × (tx_of_record u ≡ tx_of_record c) × In u rs) us → Undoes c us → (w : LogRecord) × IsUndone rs c w
undone_of_stack rs [] c e h u = absurd u
undone_of_stack rs (w ∷ us) c e h u = (w, record { member = h.0.2; update = h.0.0; own = h.0.1; leads = u.0; key = u.1; back = u.2; rest = us; top = e })

undone_by : (c : LogRecord) (rs : List LogRecord) → IsWritten c rs → tells_change c ≡ false → (w : LogRecord) × IsUndone rs c w
undone_by c rs w down =
    undone_of_stack rs (stack (tx_of_record c) rs) c refl (stack_own (tx_of_record c) rs) (subst (λ k. UndoesUnless k c (stack (tx_of_record c) rs)) down w.1)

-- ---- the changes are the updates, live where no compensation names them

abbrev mark : ℕ → Kept → Kept
mark l c = record c { live = c.live && not (eqb c.lsn l) }

and_true : (b : Bool) → (b && true) ≡ b
and_true true = refl
and_true false = refl

mark_other : (l : ℕ) (c : Kept) → eqb c.lsn l ≡ false → mark l c ≡ c
mark_other l c e = ap (λ (b : Bool). record c { live = b }) (ap (λ x. c.live && not x) e ∙ and_true c.live)

mark_none : (l low : ℕ) (cs : List Kept) (high : ℕ) → Rises low cs high → l ≤ low → map (mark l) cs ≡ cs
mark_none l low [] high is h = refl
mark_none l low (c ∷ cs) high is h =
    λ i. mark_other l c (differs c.lsn l (let up = is.0 in omega arith)) i ∷ mark_none l c.lsn cs high is.1 (let up = is.0 in omega arith) i

newest_above : (t low : ℕ) (cs : List Kept) (high : ℕ) (d : Kept) → Rises low cs high → newest_live t cs ≡ Some d → low < d.lsn
newest_above t low [] high d is e = absurd (cc)
newest_above t low (c ∷ cs) high d is e = above_case (λ x. newest_above t c.lsn cs high x is.1) (newest_live t cs) refl (is_own t c) e
  where
    above_case : ((x : Kept) → newest_live t cs ≡ Some x → c.lsn < x.lsn) → (o : Option Kept) → newest_live t cs ≡ o → (b : Bool) → newest_or o b c ≡ Some d → low < d.lsn
    above_case step (Some x) f b e = let same : x ≡ d = cc in let P : Kept → Type 0 = λ v. low < v.lsn in subst P same (let up = step x f in let h = is.0 in omega arith)
    above_case step None f true e = let same : c ≡ d = cc in let P : Kept → Type 0 = λ v. low < v.lsn in subst P same is.0
    above_case step None f false e = absurd (cc)

undone_marks : (t low : ℕ) (cs : List Kept) (high : ℕ) (d : Kept) → Rises low cs high → newest_live t cs ≡ Some d → undone t cs ≡ map (mark d.lsn) cs
undone_marks t low [] high d is e = refl
undone_marks t low (c ∷ cs) high d is e = marks_case (λ x. undone_marks t c.lsn cs high x is.1) (newest_live t cs) refl (is_own t c) e
  where
    marks_case : ((x : Kept) → newest_live t cs ≡ Some x → undone t cs ≡ map (mark x.lsn) cs) → (o : Option Kept) → newest_live t cs ≡ o → (b : Bool) → newest_or o b c ≡ Some d → undone_or o b c cs (undone t cs) ≡ map (mark d.lsn) (c ∷ cs)
    marks_case step (Some x) f b e =
        let same : x ≡ d = cc in
        let P : Kept → Type 0 = λ v. c ∷ undone t cs ≡ map (mark v.lsn) (c ∷ cs) in
        let here : P x = λ i. sym (mark_other x.lsn c (unequal c.lsn x.lsn (newest_above t c.lsn cs high x is.1 f))) i ∷ step x f i in
        subst P same here
    marks_case step None f true e =
        let same : c ≡ d = cc in
        let P : Kept → Type 0 = λ v. dead c ∷ cs ≡ map (mark v.lsn) (c ∷ cs) in
        let off : (c.live && not (eqb c.lsn c.lsn)) ≡ false = ap (λ x. c.live && not x) (eq-eqb c.lsn c.lsn refl) ∙ and_false c.live in
        let here : P c = λ i. record c { live = sym off i } ∷ sym (mark_none c.lsn c.lsn cs high is.1 (omega arith)) i in
        subst P same here
    marks_case step None f false e = absurd (cc)

map_reverse : {A B : Type 0} (f : A → B) (xs : List A) → map f (reverse xs) ≡ reverse (map f xs)
map_reverse f [] = refl
map_reverse f (x ∷ xs) = ap (map f) (reverse_cons x xs) ∙ map-append f (reverse xs) (x ∷ []) ∙ ap (λ ys. ys ++ f x ∷ []) (map_reverse f xs) ∙ sym (reverse_cons (f x) (map f xs))

reverse_single : {A : Type 0} (b : Bool) (x : A) (xs : List A) → reverse xs ++ cond b (x ∷ []) [] ≡ reverse (cond b (x ∷ xs) xs)
reverse_single true x xs = sym (reverse_cons x xs)
reverse_single false x xs = append-nil (reverse xs)

filter_reverse : (p : LogRecord → Bool) (xs : List LogRecord) → filter p (reverse xs) ≡ reverse (filter p xs)
filter_reverse p [] = refl
filter_reverse p (x ∷ xs) = ap (filter p) (reverse_cons x xs) ∙ filter-append p (reverse xs) (x ∷ []) ∙ ap (λ ys. ys ++ cond (p x) (x ∷ []) []) (filter_reverse p xs) ∙ reverse_single (p x) x (filter p xs)

any_append : (p : LogRecord → Bool) (xs ys : List LogRecord) → list_any p (xs ++ ys) ≡ (list_any p ys || list_any p xs)
any_append p [] ys = sym (or_none (list_any p ys))
  where
    or_none : (b : Bool) → (b || false) ≡ b
    or_none true = refl
    or_none false = refl
any_append p (x ∷ xs) ys = ap (λ b. p x || b) (any_append p xs ys) ∙ or_swap (p x) (list_any p ys) (list_any p xs)
  where
    or_swap : (a b c : Bool) → (a || (b || c)) ≡ (b || (a || c))
    or_swap true true c = refl
    or_swap true false c = refl
    or_swap false b c = refl

any_reverse : (p : LogRecord → Bool) (xs : List LogRecord) → list_any p (reverse xs) ≡ list_any p xs
any_reverse p [] = refl
any_reverse p (x ∷ xs) = ap (list_any p) (reverse_cons x xs) ∙ any_append p (reverse xs) (x ∷ []) ∙ ap (λ b. (p x || false) || b) (any_reverse p xs) ∙ or_right (p x) (list_any p xs)
  where
    or_right : (a b : Bool) → ((a || false) || b) ≡ (a || b)
    or_right true b = refl
    or_right false b = refl

-- a new update isn't named by a record before it
not_named : (r : LogRecord) (rs : List LogRecord) → IsNumbered rs → prev_of r ≡ last_of (tx_of_record r) rs → Each (λ c. undoes r c ≡ false) rs
not_named r rs is prev =
    each_both (IsBelow (length rs)) (λ u. eqb (tx_of_record u) (tx_of_record r) ≡ true → lsn_of u ≤ last_of (tx_of_record r) rs) (λ c. undoes r c ≡ false) (λ c b last. named_case c b last (eqb (tx_of_record r) (tx_of_record c)) refl) rs (all_below rs is) (up_to_last rs (tx_of_record r) is)
  where
    named_case : (c : LogRecord) → IsBelow (length rs) c → (eqb (tx_of_record c) (tx_of_record r) ≡ true → lsn_of c ≤ last_of (tx_of_record r) rs) → (b : Bool) → eqb (tx_of_record r) (tx_of_record c) ≡ b → undoes r c ≡ false
    named_case c below last true e =
        ap (λ x. not (tells_change c) && (eqb (tx_of_record r) (tx_of_record c) && x)) (differs (prev_of r) (leads_to c) (let low = last (eqb_sym (tx_of_record c) (tx_of_record r) ∙ e) in let p = below.leads in omega arith))
        ∙ ap (λ x. not (tells_change c) && x) (and_false (eqb (tx_of_record r) (tx_of_record c))) ∙ and_false (not (tells_change c))
    named_case c below last false e = ap (λ x. not (tells_change c) && (x && eqb (prev_of r) (leads_to c))) e ∙ and_false (not (tells_change c))

map_updates : (f g : LogRecord → Kept) (rs : List LogRecord) → Each (λ u. tells_change u ≡ true → f u ≡ g u) rs → map f (filter tells_change rs) ≡ map g (filter tells_change rs)
map_updates f g [] e = refl
map_updates f g (r ∷ rs) e = updates_case (tells_change r) refl (map_updates f g rs e.1)
  where
    updates_case : (b : Bool) → tells_change r ≡ b → map f (filter tells_change rs) ≡ map g (filter tells_change rs) → map f (cond b (r ∷ filter tells_change rs) (filter tells_change rs)) ≡ map g (cond b (r ∷ filter tells_change rs) (filter tells_change rs))
    updates_case true up rest = λ i. e.0 up i ∷ rest i
    updates_case false up rest = rest

map_twice : {A B C : Type 0} (f : B → C) (g : A → B) (xs : List A) → map f (map g xs) ≡ map (λ x. f (g x)) xs
map_twice f g [] = refl
map_twice f g (x ∷ xs) = ap (λ ys. f (g x) ∷ ys) (map_twice f g xs)

not_or : (a b : Bool) → (not b && not a) ≡ not (a || b)
not_or true true = refl
not_or true false = refl
not_or false true = refl
not_or false false = refl

abbrev ToldBy : List LogRecord → Type 0
ToldBy rs = kept_of rs ≡ reverse (map (change_told rs) (filter tells_change rs))

told_step : (k : Bool) (r : LogRecord) (rs : List LogRecord) → tells_change r ≡ k → IsNumbered (r ∷ rs) → AllWritten (r ∷ rs) → ToldBy rs → kept_by k r (kept_of rs) ≡ reverse (map (change_told (r ∷ rs)) (cond k (r ∷ filter tells_change rs) (filter tells_change rs)))
told_step true r rs kind is written step =
    let ups = filter tells_change rs in
    let none : list_any (undoes r) rs ≡ false = any_none (undoes r) rs (not_named r rs is.3 written.0.0) in
    let here : noted r ≡ change_told (r ∷ rs) r = ap (λ (b : Bool). record (noted r) { live = not b }) (sym (ap (λ b. (not b && ((eqb (tx_of_record r) (tx_of_record r)) && (eqb (prev_of r) (leads_to r)))) || list_any (undoes r) rs) kind ∙ none)) in
    let unnamed : (v : LogRecord) → change_told rs v ≡ change_told (r ∷ rs) v = λ v. ap (λ (b : Bool). record (noted v) { live = not b }) (sym (ap (λ b. (not b && ((eqb (tx_of_record v) (tx_of_record r)) && (eqb (prev_of v) (leads_to r)))) || list_any (undoes v) rs) kind)) in
    ap (λ cs. cs ++ noted r ∷ []) step
    ∙ ap (λ c. reverse (map (change_told rs) ups) ++ c ∷ []) here
    ∙ ap (λ (f : LogRecord → Kept). reverse (map f ups) ++ change_told (r ∷ rs) r ∷ []) (λ i v. unnamed v i)
    ∙ sym (reverse_cons (change_told (r ∷ rs) r) (map (change_told (r ∷ rs)) ups))
told_step false r rs kind is written step =
    let t = tx_of_record r in
    let ups = filter tells_change rs in
    let named = undone_by r rs written.0 kind in
    let w = named.0 in
    let u = named.1 in
    let newest = newest_of_stack t rs u.rest w u.top in
    let one : (v : LogRecord) → IsKnown w v → tells_change v ≡ true → mark (lsn_of w) (change_told rs v) ≡ change_told (r ∷ rs) v = λ v known up.
    let same : (eqb (tx_of_record v) t && eqb (prev_of v) (leads_to r)) ≡ eqb (lsn_of v) (lsn_of w) =
    ap (λ t. eqb (tx_of_record v) t && eqb (prev_of v) (leads_to r)) (sym u.own) ∙ ap (λ n. eqb (tx_of_record v) (tx_of_record w) && eqb (prev_of v) n) u.leads ∙ known up in
    ap (λ (b : Bool). record (noted v) { live = b }) (not_or (eqb (lsn_of v) (lsn_of w)) (list_any (undoes v) rs) ∙ ap (λ x. not (x || list_any (undoes v) rs)) (sym same) ∙ sym (ap (λ b. not ((not b && (eqb (tx_of_record v) t && eqb (prev_of v) (leads_to r))) || list_any (undoes v) rs)) kind)) in
    let all = map_updates (λ v. mark (lsn_of w) (change_told rs v)) (change_told (r ∷ rs)) rs (each_more (IsKnown w) (λ v. tells_change v ≡ true → mark (lsn_of w) (change_told rs v) ≡ change_told (r ∷ rs) v) one rs (only_one rs w is.3 written.1 u.member)) in
    undone_marks t 0 (kept_of rs) (length rs) (noted w) (kept_rises rs is.3) newest
    ∙ ap (map (mark (lsn_of w))) step
    ∙ map_reverse (mark (lsn_of w)) (map (change_told rs) ups)
    ∙ ap reverse (map_twice (mark (lsn_of w)) (change_told rs) ups ∙ all)

told_by : (rs : List LogRecord) → IsNumbered rs → AllWritten rs → ToldBy rs
told_by [] is written = refl
told_by (r ∷ rs) is written = told_step (tells_change r) r rs refl is written (told_by rs is.3 written.1)

-- ---- no update is compensated twice

abbrev EachKept : (Kept → Type 0) → List Kept → Type 0
EachKept P [] = Unit {0}
EachKept P (c ∷ cs) = P c × EachKept P cs

kept_append : (P : Kept → Type 0) (xs ys : List Kept) → EachKept P xs → EachKept P ys → EachKept P (xs ++ ys)
kept_append P [] ys e f = f
kept_append P (x ∷ xs) ys e f = (e.0, kept_append P xs ys e.1 f)

kept_reverse : (P : Kept → Type 0) (xs : List Kept) → EachKept P xs → EachKept P (reverse xs)
kept_reverse P [] e = tt
kept_reverse P (x ∷ xs) e = subst (EachKept P) (sym (reverse_cons x xs)) (kept_append P (reverse xs) (x ∷ []) (kept_reverse P xs e.1) (e.0, tt))

kept_updates : (P : Kept → Type 0) (f : LogRecord → Kept) (rs : List LogRecord) → Each (λ u. P (f u)) rs → EachKept P (map f (filter tells_change rs))
kept_updates P f [] e = tt
kept_updates P f (r ∷ rs) e = updates_case (tells_change r) (kept_updates P f rs e.1)
  where
    updates_case : (b : Bool) → EachKept P (map f (filter tells_change rs)) → EachKept P (map f (cond b (r ∷ filter tells_change rs) (filter tells_change rs)))
    updates_case true rest = (e.0, rest)
    updates_case false rest = rest

newest_each : (P : Kept → Type 0) (t : ℕ) (cs : List Kept) (d : Kept) → EachKept P cs → newest_live t cs ≡ Some d → P d
newest_each P t [] d e h = absurd (cc)
newest_each P t (c ∷ cs) d e h = each_case (λ x. newest_each P t cs x e.1) (newest_live t cs) refl (is_own t c) h
  where
    each_case : ((x : Kept) → newest_live t cs ≡ Some x → P x) → (o : Option Kept) → newest_live t cs ≡ o → (b : Bool) → newest_or o b c ≡ Some d → P d
    each_case step (Some x) f b h = let same : x ≡ d = cc in subst P same (step x f)
    each_case step None f true h = let same : c ≡ d = cc in subst P same e.0
    each_case step None f false h = absurd (cc)

-- the update that is taken back wasn't before
fresh_undo : (c : LogRecord) (rs : List LogRecord) (w : LogRecord) → IsNumbered rs → AllWritten rs → IsUndone rs c w → list_any (undoes w) rs ≡ false
fresh_undo c rs w is written u =
    let P : Kept → Type 0 = λ k. k.lsn ≡ lsn_of w → k.live ≡ not (list_any (undoes w) rs) in
    let each : Each (λ v. P (change_told rs v)) rs = each_more (λ v. lsn_of v ≡ lsn_of w → v ≡ w) (λ v. P (change_told rs v)) (λ v h same. ap (λ x. not (list_any (undoes x) rs)) (h same)) rs (known_number rs w is u.member) in
    let told : EachKept P (kept_of rs) = subst (EachKept P) (sym (told_by rs is written)) (kept_reverse P (map (change_told rs) (filter tells_change rs)) (kept_updates P (change_told rs) rs each)) in
    let live : true ≡ not (list_any (undoes w) rs) = newest_each P (tx_of_record c) (kept_of rs) (noted w) told (newest_of_stack (tx_of_record c) rs u.rest w u.top) refl in
    not_true (list_any (undoes w) rs) live
  where
    not_true : (b : Bool) → true ≡ not b → b ≡ false
    not_true true h = absurd (let no : true ≡ false = h in cc)
    not_true false h = refl

record SameUndo (w c : LogRecord) : Type 0 where
  compensates : tells_change c ≡ false
  tx : tx_of_record w ≡ tx_of_record c
  prev : prev_of w ≡ leads_to c

undo_parts : (w c : LogRecord) → undoes w c ≡ true → SameUndo w c
undo_parts w c e = parts_case (tells_change c) refl (eqb (tx_of_record w) (tx_of_record c)) refl (eqb (prev_of w) (leads_to c)) refl e
  where
    parts_case : (a : Bool) → tells_change c ≡ a → (b : Bool) → eqb (tx_of_record w) (tx_of_record c) ≡ b → (d : Bool) → eqb (prev_of w) (leads_to c) ≡ d → (not a && (b && d)) ≡ true → SameUndo w c
    parts_case false f true g true h e = record { compensates = f; tx = same_number (tx_of_record w) (tx_of_record c) g; prev = same_number (prev_of w) (leads_to c) h }
    parts_case false f true g false h e = absurd (cc)
    parts_case false f false g d h e = absurd (cc)
    parts_case true f b g d h e = absurd (cc)

undone_before : (w c : LogRecord) (rs : List LogRecord) → IsNumbered rs → AllWritten rs → IsWritten c rs → tells_change w ≡ true → In w rs → undoes w c ≡ true → filter (undoes w) rs ≡ []
undone_before w c rs is written own up member e =
    let parts = undo_parts w c e in
    let named = undone_by c rs own parts.compensates in
    let v = named.0 in
    let u = named.1 in
    let known : IsKnown v w = each_in (IsKnown v) w rs (only_one rs v is written u.member) member in
    let both : (eqb (tx_of_record w) (tx_of_record v) && eqb (prev_of w) (prev_of v)) ≡ true =
    ap (λ x. x && eqb (prev_of w) (prev_of v)) (eq-eqb (tx_of_record w) (tx_of_record v) (parts.tx ∙ sym u.own)) ∙ eq-eqb (prev_of w) (prev_of v) (parts.prev ∙ u.leads) in
    let lsn_is : lsn_of w ≡ lsn_of v = same_number (lsn_of w) (lsn_of v) (sym (known up) ∙ both) in
    let same : w ≡ v = each_in (λ x. lsn_of x ≡ lsn_of v → x ≡ v) w rs (known_number rs v is u.member) member lsn_is in
    none_any (undoes w) rs (ap (λ x. list_any (undoes x) rs) same ∙ fresh_undo c rs v is written u)

once_case : (w r : LogRecord) (rs : List LogRecord) → length (filter (undoes w) rs) ≤ 1 → (b : Bool) → (b ≡ true → filter (undoes w) rs ≡ []) → length (cond b (r ∷ filter (undoes w) rs) (filter (undoes w) rs)) ≤ 1
once_case w r rs step true h = let none = ap length (h refl) in omega arith
once_case w r rs step false h = step

update_no_undo : (w r : LogRecord) → tells_change r ≡ true → undoes w r ≡ false
update_no_undo w r up = ap (λ x. not x && ((eqb (tx_of_record w) (tx_of_record r)) && (eqb (prev_of w) (leads_to r)))) up

undone_once : (rs : List LogRecord) (w : LogRecord) → IsNumbered rs → AllWritten rs → tells_change w ≡ true → In w rs → length (filter (undoes w) rs) ≤ 1
undone_once [] w is written up h = absurd h
undone_once (r ∷ rs) w is written up (inl h) =
    let none : filter (undoes r) rs ≡ [] = filter_none (undoes r) rs (not_named r rs is.3 (written_prev r rs written.0)) in
    let own : filter (undoes r) (r ∷ rs) ≡ [] = ap (λ (b : Bool). cond b (r ∷ filter (undoes r) rs) (filter (undoes r) rs)) (update_no_undo r r (ap tells_change h ∙ up)) ∙ none in
    let P : LogRecord → Type 0 = λ x. length (filter (undoes x) (r ∷ rs)) ≤ 1 in
    subst P h (let zero_is = ap length own in omega arith)
undone_once (r ∷ rs) w is written up (inr h) =
    once_case w r rs (undone_once rs w is.3 written.1 up h) (undoes w r) (λ e. undone_before w r rs is.3 written.1 written.0 up h e)

-- ---- the laws

written_part : (newer : List LogRecord) (r : LogRecord) (older : List LogRecord) → AllWritten (newer ++ r ∷ older) → AllWritten (r ∷ older)
written_part [] r older w = w
written_part (x ∷ newer) r older w = written_part newer r older w.1

turned : (records older newer : List LogRecord) (r : LogRecord) → records ≡ older ++ r ∷ newer → reverse records ≡ reverse newer ++ r ∷ reverse older
turned records older newer r e = ap reverse e ∙ reverse-append older (r ∷ newer) ∙ ap (λ xs. xs ++ reverse older) (reverse_cons r newer) ∙ append_assoc (reverse newer) (r ∷ []) (reverse older)

filter_turned : (p : LogRecord → Bool) (records : List LogRecord) → filter p records ≡ reverse (filter p (reverse records))
filter_turned p records = ap (filter p) (sym (reverse-reverse records)) ∙ filter_reverse p (reverse records)

change_turned : (records : List LogRecord) (u : LogRecord) → change_told (reverse records) u ≡ change_told records u
change_turned records u = ap (λ (b : Bool). record (noted u) { live = not b }) (any_reverse (undoes u) records)

-- a log that is written as it grows has the laws of the whole log
pub is_chained : (records : List LogRecord) → IsNumbered (reverse records) → AllWritten (reverse records) → IsChained records (kept_of (reverse records))
is_chained records is written = record {
  numbers = λ older newer r e.
      (let part = numbered-part (reverse newer) r (reverse older) (subst IsNumbered (turned records older newer r e) is) in
      omega (arith, part.0, length-reverse older));
  prevs = λ older newer r e.
      (let part = written_part (reverse newer) r (reverse older) (subst AllWritten (turned records older newer r e) written) in
      written_prev r (reverse older) part.0);
  named = λ older newer c e kind.
      (let cut = turned records older newer c e in
      let part = written_part (reverse newer) c (reverse older) (subst AllWritten cut written) in
      let found = undone_by c (reverse older) part.0 kind in
      let w = found.0 in
      let u = found.1 in
      let member : In w (reverse records) = subst (In w) (sym cut) (in_older w c (reverse newer) (reverse older) u.member) in
      let only : filter (follows (tx_of_record c) (leads_to c)) (reverse records) ≡ w ∷ [] = (λ i. filter (follows (sym u.own i) (u.leads i)) (reverse records)) ∙ followed (reverse records) w is written u.update member in
      (w, filter_turned (follows (tx_of_record c) (leads_to c)) records ∙ ap reverse only, u.key, u.back));
  once = λ older newer u e kind.
      (let cut = turned records older newer u e in
      let member : In u (reverse records) = subst (In u) (sym cut) (in_part u (reverse newer) (reverse older)) in
      let most = undone_once (reverse records) u is written kind member in
      let many : length (filter (undoes u) records) ≡ length (filter (undoes u) (reverse records)) = ap length (filter_turned (undoes u) records) ∙ length-reverse (filter (undoes u) (reverse records)) in
      omega arith);
  told =
      told_by (reverse records) is written
      ∙ sym (map_reverse (change_told (reverse records)) (filter tells_change (reverse records)))
      ∙ ap (map (change_told (reverse records))) (sym (filter_turned tells_change records))
      ∙ ap (λ (f : LogRecord → Kept). map f (filter tells_change records)) (λ i u. change_turned records u i);
  whole = log_len_is (reverse records) written ∙ length-reverse records;
}
