-- Holdings of keys along the changes of a log.
use Rattle.std.proofs.Common.{◌≡◌, ℕ, zero, suc, ◌+◌, ◌-◌, ◌<◌, ◌≤◌, Bool, true, false, cond, not, eqb, ltb, ◌&&◌, ◌||◌, List, [], ◌∷◌, length, drop, Option, Some, None, Result, Ok, Err, OnOk, OnErr, IfSome, option_map, refl, sym, ap, subst, ◌∙◌, arith, eq-eqb}
use Rattle.std.specs.List.{filter, find, list_any}
use Rattle.std.specs.Cmp.Lexicographic.{texts_ties}
use Rattle.rec_types.specs.Contents.{same_key}
use Rattle.rec_types.specs.Kept.{history_of, IsOwned}
use Rattle.std.proofs.lemmas.Bool.Decides.{nat_tests}
use Rattle.rec_types.specs.declared.transaction.TxId.{TxId}
use Rattle.tx_log.proofs.AbsentOwnedLemmas.{without}
use Rattle.tx_log.proofs.Chains.{same_number}
use Rattle.tx_log.proofs.Lives.{lives, stack_is_lives, eqb_sym}
use Rattle.tx_log.proofs.OwnerLemmas.{kept_at, unowned, owned_by, none_other, and_left, and_right}
use Rattle.tx_log.proofs.LogStepLemmas.{find_noted}
use Rattle.tx_log.specs.Holdings.{HoldsKey, same_bytes, Places, holder, live_held, absent_of, live_at, lowered, busy, or_idle, IsHeld}
use Rattle.tx_log.specs.Log.{tx_of_record, key_of_record, old_of, new_of, tells_change, kept_of, stepped, stack, noted}
use Rattle.tx_log.specs.Owners.{owner_of, other_than, says}
use Rattle.tx_log.specs.Walks.{is_at, is_out, absent_at}
use Rattle.tx_log.specs.declared.holding.Holding.{Holding}
use Rattle.tx_log.specs.declared.log_record.LogRecord.{LogRecord}
use Rattle.rec_types.proofs.ContentsLemmas.{same_key-is, same_key-of}

-- two tests of keys are one
pub same_bytes-key : (a b : List ℕ) → same_bytes a b ≡ same_key a b
same_bytes-key a b = texts_ties a b

-- ---- a transaction's live changes at a key

none_found : (k : List ℕ) (us : List LogRecord) → live_at k us ≡ 0 → find (is_at k) us ≡ None
none_found k [] e = refl
none_found k (u ∷ us) e = found_case (is_at k u) e (none_found k us)
  where
    found_case : (b : Bool) → length (cond b (u ∷ filter (is_at k) us) (filter (is_at k) us)) ≡ 0 → (live_at k us ≡ 0 → find (is_at k) us ≡ None) → cond b (Some u) (find (is_at k) us) ≡ None
    found_case true e step = absurd (let no : suc (live_at k us) ≡ 0 = e in omega arith)
    found_case false e step = step e

some_found : (k : List ℕ) (us : List LogRecord) → 0 < live_at k us → (u : LogRecord) × (find (is_at k) us ≡ Some u)
some_found k [] h = absurd (omega arith)
some_found k (u ∷ us) h = found_case (is_at k u) h (some_found k us)
  where
    found_case : (b : Bool) → 0 < length (cond b (u ∷ filter (is_at k) us) (filter (is_at k) us)) → (0 < live_at k us → (v : LogRecord) × (find (is_at k) us ≡ Some v)) → (v : LogRecord) × (cond b (Some u) (find (is_at k) us) ≡ Some v)
    found_case true h step = (u, refl)
    found_case false h step = step h

-- where no change is at a key, none takes it out
pub nothing_absent : (k : List ℕ) (us : List LogRecord) → live_at k us ≡ 0 → absent_at k us ≡ false
nothing_absent k [] e = refl
nothing_absent k (u ∷ us) e = absent_case (is_at k u) e (nothing_absent k us)
  where
    absent_case : (b : Bool) → length (cond b (u ∷ filter (is_at k) us) (filter (is_at k) us)) ≡ 0 → (live_at k us ≡ 0 → absent_at k us ≡ false) → cond b (is_out (says (new_of u) (list_any (is_at k) us) (old_of u)) (absent_at k us)) (absent_at k us) ≡ false
    absent_case true e step = absurd (let no : suc (live_at k us) ≡ 0 = e in omega arith)
    absent_case false e step = step e

some_counted : (n : ℕ) → true ≡ not (eqb (suc n) 0)
some_counted n = ap not (sym (let none : eqb (suc n) 0 ≡ false = grind (arith, nat_tests) in none))

-- a change is at a key where one is counted there
pub any_counted : (k : List ℕ) (us : List LogRecord) → list_any (is_at k) us ≡ not (eqb (live_at k us) 0)
any_counted k [] = refl
any_counted k (u ∷ us) = any_case (is_at k u) (any_counted k us)
  where
    any_case : (b : Bool) → list_any (is_at k) us ≡ not (eqb (live_at k us) 0) → (b || list_any (is_at k) us) ≡ not (eqb (length (cond b (u ∷ filter (is_at k) us) (filter (is_at k) us))) 0)
    any_case true e = some_counted (live_at k us)
    any_case false e = e

-- ---- who the owner is

find_live : (t : ℕ) (rs : List LogRecord) (k : List ℕ) → find (kept_at k) (lives t (kept_of rs)) ≡ option_map noted (find (is_at k) (stack t rs))
find_live t rs k = ap (find (kept_at k)) (sym (stack_is_lives t rs)) ∙ find_noted k (stack t rs)

own_live : (h : Holding) → live_held h.owner.0 (Some h) ≡ h.live
own_live h = ap (λ (b : Bool). cond b h.live 0) (eq-eqb h.owner.0 h.owner.0 refl)

held_owner : (rs : List LogRecord) (is_open : ℕ → Bool) (holds : HoldsKey) (k : List ℕ) (h : Holding) → IsOwned is_open (kept_of rs) → IsHeld rs is_open holds → holds k ≡ Some h → 0 < h.live → owner_of is_open (history_of (kept_of rs)) k ≡ Some h.owner.0
held_owner rs is_open holds k h owned is there some =
    let t = h.owner.0 in
    let opened : is_open t ≡ true = subst (λ (o : Option Holding). IfSome o (λ x. 0 < x.live → is_open x.owner.0 ≡ true)) there (is.owned k) some in
    let many : live_at k (stack t rs) ≡ h.live = is.counted t k opened ∙ ap (live_held t) there ∙ own_live h in
    let f = some_found k (stack t rs) (omega arith) in
    owned_by is_open t k (kept_of rs) (noted f.0) owned opened (find_live t rs k ∙ ap (option_map noted) f.1)

no_live : (o : Option Holding) (t : ℕ) → holder o ≡ None → live_held t o ≡ 0
no_live None t e = refl
no_live (Some h) t e = live_case h.live refl (eqb h.owner.0 t)
  where
    live_case : (n : ℕ) → h.live ≡ n → (b : Bool) → cond b h.live 0 ≡ 0
    live_case zero f true = f
    live_case zero f false = refl
    live_case (suc n) f b = absurd (let up : ltb 0 h.live ≡ true = grind (arith, nat_tests) in let wrong : Some h.owner ≡ None = sym (ap (λ (v : Bool). cond v (Some h.owner) None) up) ∙ e in cc)

no_owner : (rs : List LogRecord) (is_open : ℕ → Bool) (holds : HoldsKey) (k : List ℕ) → IsHeld rs is_open holds → holder (holds k) ≡ None → owner_of is_open (history_of (kept_of rs)) k ≡ None
no_owner rs is_open holds k is none = unowned is_open k (kept_of rs) (λ u opened. find_live u rs k ∙ ap (option_map noted) (none_found k (stack u rs) (is.counted u k opened ∙ no_live (holds k) u none)))

-- what is looked up is the owner
pub holder_is : (rs : List LogRecord) (is_open : ℕ → Bool) (holds : HoldsKey) (k : List ℕ) → IsOwned is_open (kept_of rs) → IsHeld rs is_open holds → option_map (λ t. t.0) (holder (holds k)) ≡ owner_of is_open (history_of (kept_of rs)) k
holder_is rs is_open holds k owned is = holder_case (holds k) refl
  where
    live_case : (h : Holding) → holds k ≡ Some h → (b : Bool) → ltb 0 h.live ≡ b → option_map (λ t. t.0) (cond b (Some h.owner) None) ≡ owner_of is_open (history_of (kept_of rs)) k
    live_case h there true f = sym (held_owner rs is_open holds k h owned is there (grind (arith, nat_tests)))
    live_case h there false f = sym (no_owner rs is_open holds k is (ap holder there ∙ ap (λ (b : Bool). cond b (Some h.owner) None) f))

    holder_case : (o : Option Holding) → holds k ≡ o → option_map (λ t. t.0) (holder o) ≡ owner_of is_open (history_of (kept_of rs)) k
    holder_case None there = sym (no_owner rs is_open holds k is (ap holder there))
    holder_case (Some h) there = live_case h there (ltb 0 h.live) refl

-- ---- a step of one transaction

-- what the step makes of the transaction's live changes, and of what is kept of its key
pub record IsHoldStep (r : LogRecord) (rs : List LogRecord) (is_open : ℕ → Bool) (holds : HoldsKey) (t : ℕ) (k : List ℕ) (w : Option Holding) : Type 0 where
  pub mine : tx_of_record r ≡ t
  pub live_there : live_at k (stepped (tells_change r) r (stack t rs)) ≡ live_held t w
  pub absent_there : absent_at k (stepped (tells_change r) r (stack t rs)) ≡ absent_of t w
  pub live_elsewhere : (q : List ℕ) → same_key k q ≡ false → live_at q (stepped (tells_change r) r (stack t rs)) ≡ live_at q (stack t rs)
  pub absent_elsewhere : (q : List ℕ) → same_key k q ≡ false → absent_at q (stepped (tells_change r) r (stack t rs)) ≡ absent_at q (stack t rs)
  pub others : (u : ℕ) → eqb t u ≡ false → (live_held u w ≡ live_held u (holds k)) × (absent_of u w ≡ absent_of u (holds k))
  pub owned : IfSome w (λ h. 0 < h.live → is_open h.owner.0 ≡ true)
  pub idle_there : IfSome w (λ h. h.live ≡ 0 → h.absent ≡ false)

module _ (r : LogRecord) (rs : List LogRecord) (is_open : ℕ → Bool) (old new : HoldsKey) (t : ℕ) (k : List ℕ) (w : Option Holding) (is : IsHeld rs is_open old) (step : IsHoldStep r rs is_open old t k w) (places : Places old new k w) where
  here : (q : List ℕ) → new q ≡ cond (same_key k q) w (old q)
  here q = places q ∙ ap (λ (b : Bool). cond b w (old q)) (same_bytes-key k q)

  old_at : (q : List ℕ) → same_key k q ≡ true → old k ≡ old q
  old_at q same = ap old (same_key-is k q same)

  counted_case : (u : ℕ) (q : List ℕ) → is_open u ≡ true → (a : Bool) → eqb t u ≡ a → (b : Bool) → same_key k q ≡ b → live_at q (cond a (stepped (tells_change r) r (stack u rs)) (stack u rs)) ≡ live_held u (cond b w (old q))
  counted_case u q opened true f true g =
      (λ i. live_at (sym (same_key-is k q g) i) (stepped (tells_change r) r (stack (sym (same_number t u f) i) rs))) ∙ step.live_there ∙ ap (λ (n : ℕ). live_held n w) (same_number t u f)
  counted_case u q opened true f false g =
      ap (λ (n : ℕ). live_at q (stepped (tells_change r) r (stack n rs))) (sym (same_number t u f)) ∙ step.live_elsewhere q g ∙ ap (λ (n : ℕ). live_at q (stack n rs)) (same_number t u f) ∙ is.counted u q opened
  counted_case u q opened false f true g = is.counted u q opened ∙ ap (live_held u) (sym (old_at q g)) ∙ sym (step.others u f).0
  counted_case u q opened false f false g = is.counted u q opened

  marked_case : (u : ℕ) (q : List ℕ) → is_open u ≡ true → (a : Bool) → eqb t u ≡ a → (b : Bool) → same_key k q ≡ b → absent_at q (cond a (stepped (tells_change r) r (stack u rs)) (stack u rs)) ≡ absent_of u (cond b w (old q))
  marked_case u q opened true f true g =
      (λ i. absent_at (sym (same_key-is k q g) i) (stepped (tells_change r) r (stack (sym (same_number t u f) i) rs))) ∙ step.absent_there ∙ ap (λ (n : ℕ). absent_of n w) (same_number t u f)
  marked_case u q opened true f false g =
      ap (λ (n : ℕ). absent_at q (stepped (tells_change r) r (stack n rs))) (sym (same_number t u f)) ∙ step.absent_elsewhere q g ∙ ap (λ (n : ℕ). absent_at q (stack n rs)) (same_number t u f) ∙ is.marked u q opened
  marked_case u q opened false f true g = is.marked u q opened ∙ ap (absent_of u) (sym (old_at q g)) ∙ sym (step.others u f).1
  marked_case u q opened false f false g = is.marked u q opened

  some_case : (P : Holding → Type 0) (q : List ℕ) → IfSome w P → IfSome (old q) P → (b : Bool) → IfSome (cond b w (old q)) P
  some_case P q this other true = this
  some_case P q this other false = other

  mine_is : (u : ℕ) → eqb (tx_of_record r) u ≡ eqb t u
  mine_is u = ap (λ (n : ℕ). eqb n u) step.mine

  pub held_grown : IsHeld (r ∷ rs) is_open new
  held_grown = record {
    counted = λ u q opened. ap (λ (b : Bool). live_at q (cond b (stepped (tells_change r) r (stack u rs)) (stack u rs))) (mine_is u) ∙ counted_case u q opened (eqb t u) refl (same_key k q) refl ∙ ap (live_held u) (sym (here q));
    marked = λ u q opened. ap (λ (b : Bool). absent_at q (cond b (stepped (tells_change r) r (stack u rs)) (stack u rs))) (mine_is u) ∙ marked_case u q opened (eqb t u) refl (same_key k q) refl ∙ ap (absent_of u) (sym (here q));
    owned = λ q. subst (λ (o : Option Holding). IfSome o (λ h. 0 < h.live → is_open h.owner.0 ≡ true)) (sym (here q)) (some_case (λ h. 0 < h.live → is_open h.owner.0 ≡ true) q step.owned (is.owned q) (same_key k q));
    idle_there = λ q. subst (λ (o : Option Holding). IfSome o (λ h. h.live ≡ 0 → h.absent ≡ false)) (sym (here q)) (some_case (λ h. h.live ≡ 0 → h.absent ≡ false) q step.idle_there (is.idle_there q) (same_key k q));
  }

-- ---- an update

-- where the key is free for the transaction, a live change there is its own
pub mine_alone : (rs : List LogRecord) (is_open : ℕ → Bool) (holds : HoldsKey) (k : List ℕ) (h : Holding) (t : ℕ) → IsOwned is_open (kept_of rs) → IsHeld rs is_open holds → holds k ≡ Some h → other_than t (owner_of is_open (history_of (kept_of rs)) k) ≡ None → 0 < h.live → h.owner.0 ≡ t
mine_alone rs is_open holds k h t owned is there free some = none_other t h.owner.0 (ap (other_than t) (sym (held_owner rs is_open holds k h owned is there some)) ∙ free)

-- what is kept of a key that is free for the transaction
pub own_or_none : (h : Holding) (t : ℕ) → (0 < h.live → h.owner.0 ≡ t) → live_held t (Some h) ≡ h.live
own_or_none h t mine = own_case (eqb h.owner.0 t) refl
  where
    own_case : (b : Bool) → eqb h.owner.0 t ≡ b → cond b h.live 0 ≡ h.live
    own_case true f = refl
    own_case false f = not_mine h.live (λ some. let no : true ≡ false = sym (eq-eqb h.owner.0 t (mine some)) ∙ f in absurd (cc))
      where
        not_mine : (n : ℕ) → (0 < n → ⊥) → 0 ≡ n
        not_mine zero never = refl
        not_mine (suc n) never = absurd (never (omega arith))

-- whether an owned key is out is what its owner's changes say
pub own_absent : (rs : List LogRecord) (is_open : ℕ → Bool) (holds : HoldsKey) (k : List ℕ) (h : Holding) (t : ℕ) → IsHeld rs is_open holds → holds k ≡ Some h → (0 < h.live → h.owner.0 ≡ t) → is_open t ≡ true → h.absent ≡ absent_at k (stack t rs)
own_absent rs is_open holds k h t is there mine opened = own_case (eqb h.owner.0 t) refl
  where
    marked : absent_at k (stack t rs) ≡ cond (eqb h.owner.0 t) h.absent false
    marked = is.marked t k opened ∙ ap (absent_of t) there

    idle_here : h.live ≡ 0 → h.absent ≡ false
    idle_here = subst (λ (o : Option Holding). IfSome o (λ x. x.live ≡ 0 → x.absent ≡ false)) there (is.idle_there k)

    none_live : (n : ℕ) → (0 < n → ⊥) → n ≡ 0
    none_live zero never = refl
    none_live (suc n) never = absurd (never (omega arith))

    own_case : (b : Bool) → eqb h.owner.0 t ≡ b → h.absent ≡ absent_at k (stack t rs)
    own_case true f = sym (marked ∙ ap (λ (b : Bool). cond b h.absent false) f)
    own_case false f =
        idle_here (none_live h.live (λ some. let no : true ≡ false = sym (eq-eqb h.owner.0 t (mine some)) ∙ f in absurd (cc)))
        ∙ sym (marked ∙ ap (λ (b : Bool). cond b h.absent false) f)

other_live : (h : Holding) (t u : ℕ) → (0 < h.live → h.owner.0 ≡ t) → eqb t u ≡ false → live_held u (Some h) ≡ 0
other_live h t u mine apart = other_case h.live refl (eqb h.owner.0 u) refl
  where
    other_case : (n : ℕ) → h.live ≡ n → (b : Bool) → eqb h.owner.0 u ≡ b → cond b h.live 0 ≡ 0
    other_case n f false g = refl
    other_case zero f true g = f
    other_case (suc n) f true g = absurd (let no : true ≡ false = sym (eq-eqb t u (sym (mine (omega arith)) ∙ same_number h.owner.0 u g)) ∙ apart in cc)

other_absent : (h : Holding) (t u : ℕ) → (0 < h.live → h.owner.0 ≡ t) → (h.live ≡ 0 → h.absent ≡ false) → eqb t u ≡ false → absent_of u (Some h) ≡ false
other_absent h t u mine idle_here apart = other_case h.live refl (eqb h.owner.0 u) refl
  where
    other_case : (n : ℕ) → h.live ≡ n → (b : Bool) → eqb h.owner.0 u ≡ b → cond b h.absent false ≡ false
    other_case n f false g = refl
    other_case zero f true g = idle_here f
    other_case (suc n) f true g = absurd (let no : true ≡ false = sym (eq-eqb t u (sym (mine (omega arith)) ∙ same_number h.owner.0 u g)) ∙ apart in cc)

-- a change elsewhere leaves whether a key is out
pub absent_past : (q : List ℕ) (u : LogRecord) (us : List LogRecord) → is_at q u ≡ false → absent_at q (u ∷ us) ≡ absent_at q us
absent_past q u us apart = ap (λ (b : Bool). cond b (is_out (says (new_of u) (list_any (is_at q) us) (old_of u)) (absent_at q us)) (absent_at q us)) apart

-- what is kept of a key after one more change there
pub accepted_hold : (r : LogRecord) (tx : TxId) (key : List ℕ) (rs : List LogRecord) (is_open : ℕ → Bool) (holds : HoldsKey) (h : Holding) (absent : Bool) → tells_change r ≡ true → tx_of_record r ≡ tx.0 → key_of_record r ≡ key → IsHeld rs is_open holds → holds key ≡ Some h → (0 < h.live → h.owner.0 ≡ tx.0) → is_open tx.0 ≡ true → absent ≡ absent_at key (r ∷ stack tx.0 rs) → IsHoldStep r rs is_open holds tx.0 key (Some (record { owner = tx; live = h.live + 1; absent = absent }))
accepted_hold r tx key rs is_open holds h absent up tx_is key_is is there mine opened absent_is =
    let t = tx.0 in
    let us = stack t rs in
    let own : eqb t t ≡ true = eq-eqb t t refl in
    let now : live_at key us ≡ h.live = is.counted t key opened ∙ ap (live_held t) there ∙ own_or_none h t mine in
    let idle_here : h.live ≡ 0 → h.absent ≡ false = subst (λ (o : Option Holding). IfSome o (λ x. x.live ≡ 0 → x.absent ≡ false)) there (is.idle_there key) in
    let elsewhere : (q : List ℕ) → same_key key q ≡ false → is_at q r ≡ false = λ q apart. ap (λ k. same_key k q) key_is ∙ apart in
    record {
      mine = tx_is;
      live_there = ap (λ k. live_at key (stepped k r us)) up ∙ ap (λ (b : Bool). length (cond b (r ∷ filter (is_at key) us) (filter (is_at key) us))) (same_key-of (key_of_record r) key key_is) ∙ (let more : suc (live_at key us) ≡ h.live + 1 = omega (arith, now) in more) ∙ sym (ap (λ (b : Bool). cond b (h.live + 1) 0) own);
      absent_there = ap (λ k. absent_at key (stepped k r us)) up ∙ sym absent_is ∙ sym (ap (λ (b : Bool). cond b absent false) own);
      live_elsewhere = λ q apart. ap (λ k. live_at q (stepped k r us)) up ∙ ap (λ (b : Bool). length (cond b (r ∷ filter (is_at q) us) (filter (is_at q) us))) (elsewhere q apart);
      absent_elsewhere = λ q apart. ap (λ k. absent_at q (stepped k r us)) up ∙ absent_past q r us (elsewhere q apart);
      others = λ u apart. (ap (λ (b : Bool). cond b (h.live + 1) 0) apart ∙ sym (other_live h t u mine apart) ∙ ap (live_held u) (sym there), ap (λ (b : Bool). cond b absent false) apart ∙ sym (other_absent h t u mine idle_here apart) ∙ ap (absent_of u) (sym there));
      owned = λ some. opened;
      idle_there = λ none. absurd (let no : h.live + 1 ≡ 0 = none in omega arith);
    }

-- ---- a compensation

-- what is kept of the key of the newest live change
pub record IsHolding (rs : List LogRecord) (holds : HoldsKey) (t : ℕ) (u : LogRecord) (us : List LogRecord) : Type 0 where
  pub hold : Holding
  pub there : holds (key_of_record u) ≡ Some hold
  pub owner : hold.owner.0 ≡ t
  pub live : hold.live ≡ live_at (key_of_record u) us + 1

-- what is kept of the key of a transaction's newest live change
pub holding_of : (rs : List LogRecord) (is_open : ℕ → Bool) (holds : HoldsKey) (t : ℕ) (u : LogRecord) (us : List LogRecord) → IsHeld rs is_open holds → is_open t ≡ true → stack t rs ≡ u ∷ us → IsHolding rs holds t u us
holding_of rs is_open holds t u us is opened whole = hold_case (holds k) refl
  where
    k : List ℕ
    k = key_of_record u

    many : live_at k (stack t rs) ≡ suc (live_at k us)
    many = ap (live_at k) whole ∙ ap (λ (b : Bool). length (cond b (u ∷ filter (is_at k) us) (filter (is_at k) us))) (same_key-of k k refl)

    own_case : (h : Holding) → holds k ≡ Some h → (b : Bool) → eqb h.owner.0 t ≡ b → cond b h.live 0 ≡ suc (live_at k us) → IsHolding rs holds t u us
    own_case h there true f e = record { hold = h; there = there; owner = same_number h.owner.0 t f; live = omega (arith, e) }
    own_case h there false f e = absurd (omega (arith, e))

    hold_case : (o : Option Holding) → holds k ≡ o → IsHolding rs holds t u us
    hold_case None there = absurd (let no : 0 ≡ suc (live_at k us) = sym (is.counted t k opened ∙ ap (live_held t) there) ∙ many in omega arith)
    hold_case (Some h) there = own_case h there (eqb h.owner.0 t) refl (sym (is.counted t k opened ∙ ap (live_held t) there) ∙ many)

-- what is kept of a key after a change there is taken back
pub compensated_hold : (r : LogRecord) (tx : TxId) (rs : List LogRecord) (is_open : ℕ → Bool) (holds : HoldsKey) (u : LogRecord) (us : List LogRecord) (absent : Bool) (g : IsHolding rs holds tx.0 u us) → tells_change r ≡ false → tx_of_record r ≡ tx.0 → IsHeld rs is_open holds → is_open tx.0 ≡ true → stack tx.0 rs ≡ u ∷ us → absent ≡ absent_at (key_of_record u) us → IsHoldStep r rs is_open holds tx.0 (key_of_record u) (lowered g.hold absent)
compensated_hold r tx rs is_open holds u us absent g down tx_is is opened whole absent_is = record {
  mine = tx_is;
  live_there = ap (live_at k) less ∙ live_case (eqb h.live 1) refl;
  absent_there = ap (absent_at k) less ∙ absent_case (eqb h.live 1) refl;
  live_elsewhere = λ q apart. ap (live_at q) less ∙ sym (ap (λ (b : Bool). length (cond b (u ∷ filter (is_at q) us) (filter (is_at q) us))) apart) ∙ ap (live_at q) (sym whole);
  absent_elsewhere = λ q apart. ap (absent_at q) less ∙ sym (absent_past q u us apart) ∙ ap (absent_at q) (sym whole);
  others = λ v apart. (live_other v apart (eqb h.live 1) ∙ sym (not_its v apart) ∙ ap (live_held v) (sym g.there), absent_other v apart (eqb h.live 1) ∙ sym (not_its_absent v apart) ∙ ap (absent_of v) (sym g.there));
  owned = owned_case (eqb h.live 1);
  idle_there = idle_case (eqb h.live 1) refl;
}
  where
    k : List ℕ
    k = key_of_record u

    h : Holding
    h = g.hold

    t : ℕ
    t = tx.0

    less : stepped (tells_change r) r (stack t rs) ≡ us
    less = ap (λ b. stepped b r (stack t rs)) down ∙ ap (drop 1) whole

    own : eqb h.owner.0 t ≡ true
    own = eq-eqb h.owner.0 t g.owner

    foreign : (v : ℕ) → eqb t v ≡ false → eqb h.owner.0 v ≡ false
    foreign v apart = ap (λ (n : ℕ). eqb n v) g.owner ∙ apart

    live_case : (b : Bool) → eqb h.live 1 ≡ b → live_at k us ≡ live_held t (cond b None (Some (record { owner = h.owner; live = h.live - 1; absent = absent })))
    live_case true f = omega (arith, g.live, same_number h.live 1 f)
    live_case false f = (let n : live_at k us ≡ h.live - 1 = omega (arith, g.live) in n) ∙ sym (ap (λ (b : Bool). cond b (h.live - 1) 0) own)

    absent_case : (b : Bool) → eqb h.live 1 ≡ b → absent_at k us ≡ absent_of t (cond b None (Some (record { owner = h.owner; live = h.live - 1; absent = absent })))
    absent_case true f = nothing_absent k us (omega (arith, g.live, same_number h.live 1 f))
    absent_case false f = sym absent_is ∙ sym (ap (λ (b : Bool). cond b absent false) own)

    live_other : (v : ℕ) → eqb t v ≡ false → (b : Bool) → live_held v (cond b None (Some (record { owner = h.owner; live = h.live - 1; absent = absent }))) ≡ 0
    live_other v apart true = refl
    live_other v apart false = ap (λ (b : Bool). cond b (h.live - 1) 0) (foreign v apart)

    absent_other : (v : ℕ) → eqb t v ≡ false → (b : Bool) → absent_of v (cond b None (Some (record { owner = h.owner; live = h.live - 1; absent = absent }))) ≡ false
    absent_other v apart true = refl
    absent_other v apart false = ap (λ (b : Bool). cond b absent false) (foreign v apart)

    not_its : (v : ℕ) → eqb t v ≡ false → live_held v (Some h) ≡ 0
    not_its v apart = ap (λ (b : Bool). cond b h.live 0) (foreign v apart)

    not_its_absent : (v : ℕ) → eqb t v ≡ false → absent_of v (Some h) ≡ false
    not_its_absent v apart = ap (λ (b : Bool). cond b h.absent false) (foreign v apart)

    owned_case : (b : Bool) → IfSome {T = Holding} (cond b None (Some (record { owner = h.owner; live = h.live - 1; absent = absent }))) (λ x. 0 < x.live → is_open x.owner.0 ≡ true)
    owned_case true = tt
    owned_case false = λ some. ap is_open g.owner ∙ opened

    idle_case : (b : Bool) → eqb h.live 1 ≡ b → IfSome {T = Holding} (cond b None (Some (record { owner = h.owner; live = h.live - 1; absent = absent }))) (λ x. x.live ≡ 0 → x.absent ≡ false)
    idle_case true f = tt
    idle_case false f = λ none. absurd (let one : h.live ≡ 1 = omega (arith, g.live, none) in let no : true ≡ false = sym (eq-eqb h.live 1 one) ∙ f in cc)

-- ---- transactions that begin and end

-- what is kept of keys when a transaction begins
pub held_begun : (rs : List LogRecord) (is_open opened_now : ℕ → Bool) (holds : HoldsKey) (n : ℕ) → IsHeld rs is_open holds → ((t : ℕ) → is_open t ≡ true → t ≤ n) → ((t : ℕ) → eqb (n + 1) t ≡ false → opened_now t ≡ is_open t) → opened_now (n + 1) ≡ true → stack (n + 1) rs ≡ [] → IsHeld rs opened_now holds
held_begun rs is_open opened_now holds n is within same new none = record {
  counted = λ t k opened. count_case t k opened (eqb (n + 1) t) refl;
  marked = λ t k opened. mark_case t k opened (eqb (n + 1) t) refl;
  owned = λ k. owned_case (holds k) (is.owned k);
  idle_there = is.idle_there;
}
  where
    closed : is_open (n + 1) ≡ true → ⊥
    closed h = let low = within (n + 1) h in omega arith

    new_live : (o : Option Holding) → IfSome o (λ h. 0 < h.live → is_open h.owner.0 ≡ true) → 0 ≡ live_held (n + 1) o
    new_live None owned = refl
    new_live (Some h) owned = live_case h.live refl (eqb h.owner.0 (n + 1)) refl
      where
        live_case : (m : ℕ) → h.live ≡ m → (b : Bool) → eqb h.owner.0 (n + 1) ≡ b → 0 ≡ cond b h.live 0
        live_case m f false g = refl
        live_case zero f true g = sym f
        live_case (suc m) f true g = absurd (closed (ap is_open (sym (same_number h.owner.0 (n + 1) g)) ∙ owned (omega arith)))

    new_absent : (o : Option Holding) → IfSome o (λ h. 0 < h.live → is_open h.owner.0 ≡ true) → IfSome o (λ h. h.live ≡ 0 → h.absent ≡ false) → false ≡ absent_of (n + 1) o
    new_absent None owned idle_here = refl
    new_absent (Some h) owned idle_here = absent_case h.live refl (eqb h.owner.0 (n + 1)) refl
      where
        absent_case : (m : ℕ) → h.live ≡ m → (b : Bool) → eqb h.owner.0 (n + 1) ≡ b → false ≡ cond b h.absent false
        absent_case m f false g = refl
        absent_case zero f true g = sym (idle_here f)
        absent_case (suc m) f true g = absurd (closed (ap is_open (sym (same_number h.owner.0 (n + 1) g)) ∙ owned (omega arith)))

    count_case : (t : ℕ) (k : List ℕ) → opened_now t ≡ true → (b : Bool) → eqb (n + 1) t ≡ b → live_at k (stack t rs) ≡ live_held t (holds k)
    count_case t k opened true f = ap (λ (m : ℕ). live_at k (stack m rs)) (sym (same_number (n + 1) t f)) ∙ ap (live_at k) none ∙ new_live (holds k) (is.owned k) ∙ ap (λ (m : ℕ). live_held m (holds k)) (same_number (n + 1) t f)
    count_case t k opened false f = is.counted t k (sym (same t f) ∙ opened)

    mark_case : (t : ℕ) (k : List ℕ) → opened_now t ≡ true → (b : Bool) → eqb (n + 1) t ≡ b → absent_at k (stack t rs) ≡ absent_of t (holds k)
    mark_case t k opened true f = ap (λ (m : ℕ). absent_at k (stack m rs)) (sym (same_number (n + 1) t f)) ∙ ap (absent_at k) none ∙ new_absent (holds k) (is.owned k) (is.idle_there k) ∙ ap (λ (m : ℕ). absent_of m (holds k)) (same_number (n + 1) t f)
    mark_case t k opened false f = is.marked t k (sym (same t f) ∙ opened)

    open_case : (h : Holding) → is_open h.owner.0 ≡ true → (b : Bool) → eqb (n + 1) h.owner.0 ≡ b → opened_now h.owner.0 ≡ true
    open_case h opened true f = ap opened_now (sym (same_number (n + 1) h.owner.0 f)) ∙ new
    open_case h opened false f = same h.owner.0 f ∙ opened

    owned_case : (o : Option Holding) → IfSome o (λ h. 0 < h.live → is_open h.owner.0 ≡ true) → IfSome o (λ h. 0 < h.live → opened_now h.owner.0 ≡ true)
    owned_case None owned = tt
    owned_case (Some h) owned = λ some. open_case h (owned some) (eqb (n + 1) h.owner.0) refl

-- the keys of the live changes are freed
abbrev pub Freed : HoldsKey → HoldsKey → List LogRecord → Type 0
Freed old new us = (q : List ℕ) → new q ≡ cond (list_any (is_at q) us) None (old q)

any_live : (k : List ℕ) (us : List LogRecord) → list_any (is_at k) us ≡ true → 0 < live_at k us
any_live k [] h = absurd (cc)
any_live k (u ∷ us) h = any_case (is_at k u) h (any_live k us)
  where
    any_case : (b : Bool) → (b || list_any (is_at k) us) ≡ true → (list_any (is_at k) us ≡ true → 0 < live_at k us) → 0 < length (cond b (u ∷ filter (is_at k) us) (filter (is_at k) us))
    any_case true h step = omega arith
    any_case false h step = step h

none_live : (k : List ℕ) (us : List LogRecord) → list_any (is_at k) us ≡ false → live_at k us ≡ 0
none_live k [] h = refl
none_live k (u ∷ us) h = none_case (is_at k u) h (none_live k us)
  where
    none_case : (b : Bool) → (b || list_any (is_at k) us) ≡ false → (list_any (is_at k) us ≡ false → live_at k us ≡ 0) → length (cond b (u ∷ filter (is_at k) us) (filter (is_at k) us)) ≡ 0
    none_case true h step = absurd (cc)
    none_case false h step = step h

-- what is kept of keys when a transaction ends and its keys are free
pub held_ended : (rs : List LogRecord) (is_open : ℕ → Bool) (old new : HoldsKey) (t : ℕ) → IsHeld rs is_open old → is_open t ≡ true → Freed old new (stack t rs) → IsHeld rs (without t is_open) new
held_ended rs is_open old new t is opened freed = record {
  counted = λ u k still. count_case u k (still_open u still) (list_any (is_at k) (stack t rs)) refl ∙ ap (live_held u) (sym (freed k));
  marked = λ u k still. mark_case u k (still_open u still) (list_any (is_at k) (stack t rs)) refl ∙ ap (absent_of u) (sym (freed k));
  owned = λ k. subst (λ (o : Option Holding). IfSome o (λ h. 0 < h.live → without t is_open h.owner.0 ≡ true)) (sym (freed k)) (owned_case k (list_any (is_at k) (stack t rs)) refl (old k) refl);
  idle_there = λ k. subst (λ (o : Option Holding). IfSome o (λ h. h.live ≡ 0 → h.absent ≡ false)) (sym (freed k)) (idle_case k (list_any (is_at k) (stack t rs)));
}
  where
    still_open : (u : ℕ) → without t is_open u ≡ true → (is_open u ≡ true) × (eqb t u ≡ false)
    still_open u h = (and_left (is_open u) (not (eqb u t)) h, eqb_sym t u ∙ not_true (eqb u t) (and_right (is_open u) (not (eqb u t)) h))
      where
        not_true : (b : Bool) → not b ≡ true → b ≡ false
        not_true true e = absurd (let no : false ≡ true = e in cc)
        not_true false e = refl

    -- a key with a live change of t is its own
    its : (k : List ℕ) (h : Holding) → old k ≡ Some h → list_any (is_at k) (stack t rs) ≡ true → h.owner.0 ≡ t
    its k h there any = its_case (eqb h.owner.0 t) refl
      where
        many : 0 < live_held t (Some h)
        many = subst (λ (n : ℕ). 0 < n) (is.counted t k opened ∙ ap (live_held t) there) (any_live k (stack t rs) any)

        its_case : (b : Bool) → eqb h.owner.0 t ≡ b → h.owner.0 ≡ t
        its_case true f = same_number h.owner.0 t f
        its_case false f = absurd (let none : live_held t (Some h) ≡ 0 = ap (λ (b : Bool). cond b h.live 0) f in omega (arith, many, none))

    foreign : (k : List ℕ) (u : ℕ) → eqb t u ≡ false → list_any (is_at k) (stack t rs) ≡ true → (o : Option Holding) → old k ≡ o → (live_held u o ≡ 0) × (absent_of u o ≡ false)
    foreign k u apart any None there = (refl, refl)
    foreign k u apart any (Some h) there =
        let other : eqb h.owner.0 u ≡ false = ap (λ (n : ℕ). eqb n u) (its k h there any) ∙ apart in
        (ap (λ (b : Bool). cond b h.live 0) other, ap (λ (b : Bool). cond b h.absent false) other)

    count_case : (u : ℕ) (k : List ℕ) → (is_open u ≡ true) × (eqb t u ≡ false) → (b : Bool) → list_any (is_at k) (stack t rs) ≡ b → live_at k (stack u rs) ≡ live_held u (cond b None (old k))
    count_case u k o true any = is.counted u k o.0 ∙ (foreign k u o.1 any (old k) refl).0
    count_case u k o false any = is.counted u k o.0

    mark_case : (u : ℕ) (k : List ℕ) → (is_open u ≡ true) × (eqb t u ≡ false) → (b : Bool) → list_any (is_at k) (stack t rs) ≡ b → absent_at k (stack u rs) ≡ absent_of u (cond b None (old k))
    mark_case u k o true any = is.marked u k o.0 ∙ (foreign k u o.1 any (old k) refl).1
    mark_case u k o false any = is.marked u k o.0

    not_its : (k : List ℕ) (h : Holding) → old k ≡ Some h → list_any (is_at k) (stack t rs) ≡ false → 0 < h.live → (b : Bool) → eqb h.owner.0 t ≡ b → b ≡ false
    not_its k h there any some true f = absurd (let none : live_held t (Some h) ≡ 0 = ap (live_held t) (sym there) ∙ sym (is.counted t k opened) ∙ none_live k (stack t rs) any in let all : live_held t (Some h) ≡ h.live = ap (λ (b : Bool). cond b h.live 0) f in omega (arith, none, all, some))
    not_its k h there any some false f = refl

    owned_case : (k : List ℕ) (b : Bool) → list_any (is_at k) (stack t rs) ≡ b → (o : Option Holding) → old k ≡ o → IfSome (cond b None (old k)) (λ h. 0 < h.live → without t is_open h.owner.0 ≡ true)
    owned_case k true any o there = tt
    owned_case k false any None there = subst (λ (x : Option Holding). IfSome x (λ h. 0 < h.live → without t is_open h.owner.0 ≡ true)) (sym there) tt
    owned_case k false any (Some h) there = subst (λ (x : Option Holding). IfSome x (λ y. 0 < y.live → without t is_open y.owner.0 ≡ true)) (sym there) (λ some.
        (λ i. subst (λ (x : Option Holding). IfSome x (λ y. 0 < y.live → is_open y.owner.0 ≡ true)) there (is.owned k) some i && not (not_its k h there any some (eqb h.owner.0 t) refl i)))

    idle_case : (k : List ℕ) (b : Bool) → IfSome (cond b None (old k)) (λ h. h.live ≡ 0 → h.absent ≡ false)
    idle_case k true = tt
    idle_case k false = is.idle_there k

-- nothing is held at the beginning
pub held_nothing : (holds : HoldsKey) (is_open : ℕ → Bool) → ((k : List ℕ) → holds k ≡ None) → IsHeld [] is_open holds
held_nothing holds is_open none = record {
  counted = λ t k opened. sym (ap (live_held t) (none k));
  marked = λ t k opened. sym (ap (absent_of t) (none k));
  owned = λ k. subst (λ (o : Option Holding). IfSome o (λ h. 0 < h.live → is_open h.owner.0 ≡ true)) (sym (none k)) tt;
  idle_there = λ k. subst (λ (o : Option Holding). IfSome o (λ h. h.live ≡ 0 → h.absent ≡ false)) (sym (none k)) tt;
}

-- ---- a key that is put in or taken out without a live change

cond_both : {A : Type 0} (b : Bool) (x y z : A) → x ≡ y → z ≡ y → cond b x z ≡ y
cond_both true x y z e f = e
cond_both false x y z e f = f

module _ (rs : List LogRecord) (is_open : ℕ → Bool) (old new : HoldsKey) (k : List ℕ) (w : Option Holding) (is : IsHeld rs is_open old) (places : Places old new k w) (live : (t : ℕ) → live_held t w ≡ live_held t (old k)) (absent : (t : ℕ) → absent_of t w ≡ absent_of t (old k)) (owned_w : IfSome w (λ h. 0 < h.live → is_open h.owner.0 ≡ true)) (idle_w : IfSome w (λ h. h.live ≡ 0 → h.absent ≡ false)) where
  place_case : (P : Option Holding → Type 0) (q : List ℕ) → P w → P (old q) → (b : Bool) → P (cond b w (old q))
  place_case P q this other true = this
  place_case P q this other false = other

  live_case : (t : ℕ) (q : List ℕ) (b : Bool) → same_bytes k q ≡ b → live_held t (cond b w (old q)) ≡ live_held t (old q)
  live_case t q true f = live t ∙ ap (λ (x : List ℕ). live_held t (old x)) (same_key-is k q (sym (same_bytes-key k q) ∙ f))
  live_case t q false f = refl

  absent_case : (t : ℕ) (q : List ℕ) (b : Bool) → same_bytes k q ≡ b → absent_of t (cond b w (old q)) ≡ absent_of t (old q)
  absent_case t q true f = absent t ∙ ap (λ (x : List ℕ). absent_of t (old x)) (same_key-is k q (sym (same_bytes-key k q) ∙ f))
  absent_case t q false f = refl

  pub held_same : IsHeld rs is_open new
  held_same = record {
    counted = λ t q opened. is.counted t q opened ∙ sym (ap (live_held t) (places q) ∙ live_case t q (same_bytes k q) refl);
    marked = λ t q opened. is.marked t q opened ∙ sym (ap (absent_of t) (places q) ∙ absent_case t q (same_bytes k q) refl);
    owned = λ q. subst (λ (o : Option Holding). IfSome o (λ h. 0 < h.live → is_open h.owner.0 ≡ true)) (sym (places q)) (place_case (λ o. IfSome o (λ h. 0 < h.live → is_open h.owner.0 ≡ true)) q owned_w (is.owned q) (same_bytes k q));
    idle_there = λ q. subst (λ (o : Option Holding). IfSome o (λ h. h.live ≡ 0 → h.absent ≡ false)) (sym (places q)) (place_case (λ o. IfSome o (λ h. h.live ≡ 0 → h.absent ≡ false)) q idle_w (is.idle_there q) (same_bytes k q));
  }

busy_live : (o : Option Holding) (t : ℕ) → live_held t (busy o) ≡ live_held t o
busy_live None t = refl
busy_live (Some h) t = busy_case (eqb h.live 0) refl
  where
    zero_case : (b : Bool) (n : ℕ) → n ≡ 0 → 0 ≡ cond b n 0
    zero_case true n e = sym e
    zero_case false n e = refl

    busy_case : (b : Bool) → eqb h.live 0 ≡ b → live_held t (cond b None (Some h)) ≡ live_held t (Some h)
    busy_case true f = zero_case (eqb h.owner.0 t) h.live (same_number h.live 0 f)
    busy_case false f = refl

busy_absent : (o : Option Holding) (t : ℕ) → IfSome o (λ h. h.live ≡ 0 → h.absent ≡ false) → absent_of t (busy o) ≡ absent_of t o
busy_absent None t idle_here = refl
busy_absent (Some h) t idle_here = busy_case (eqb h.live 0) refl
  where
    false_case : (b c : Bool) → c ≡ false → false ≡ cond b c false
    false_case true c e = sym e
    false_case false c e = refl

    busy_case : (b : Bool) → eqb h.live 0 ≡ b → absent_of t (cond b None (Some h)) ≡ absent_of t (Some h)
    busy_case true f = false_case (eqb h.owner.0 t) h.absent (idle_here (same_number h.live 0 f))
    busy_case false f = refl

busy_some : (P : Holding → Type 0) (o : Option Holding) → IfSome o P → IfSome (busy o) P
busy_some P None h = tt
busy_some P (Some x) h = busy_case (eqb x.live 0)
  where
    busy_case : (b : Bool) → IfSome {T = Holding} (cond b None (Some x)) P
    busy_case true = tt
    busy_case false = h

-- a key without a live change may be left out
pub held_busy : (rs : List LogRecord) (is_open : ℕ → Bool) (old new : HoldsKey) (k : List ℕ) → IsHeld rs is_open old → Places old new k (busy (old k)) → IsHeld rs is_open new
held_busy rs is_open old new k is places = held_same rs is_open old new k (busy (old k)) is places (busy_live (old k)) (λ t. busy_absent (old k) t (is.idle_there k)) (busy_some _ (old k) (is.owned k)) (busy_some _ (old k) (is.idle_there k))

idle_live : (o : Option Holding) (t : ℕ) → live_held t (Some (or_idle o)) ≡ live_held t o
idle_live None t = cond_both (eqb 0 t) 0 0 0 refl refl
idle_live (Some h) t = refl

idle_absent : (o : Option Holding) (t : ℕ) → absent_of t (Some (or_idle o)) ≡ absent_of t o
idle_absent None t = cond_both (eqb 0 t) false false false refl refl
idle_absent (Some h) t = refl

idle_owned : (is_open : ℕ → Bool) (o : Option Holding) → IfSome o (λ h. 0 < h.live → is_open h.owner.0 ≡ true) → 0 < (or_idle o).live → is_open (or_idle o).owner.0 ≡ true
idle_owned is_open None h = λ some. absurd (omega (arith, some))
idle_owned is_open (Some x) h = h

idle_none : (o : Option Holding) → IfSome o (λ h. h.live ≡ 0 → h.absent ≡ false) → (or_idle o).live ≡ 0 → (or_idle o).absent ≡ false
idle_none None h = λ none. refl
idle_none (Some x) h = h

-- a key may be put in without a live change
pub held_idle : (rs : List LogRecord) (is_open : ℕ → Bool) (old new : HoldsKey) (k : List ℕ) → IsHeld rs is_open old → Places old new k (Some (or_idle (old k))) → IsHeld rs is_open new
held_idle rs is_open old new k is places = held_same rs is_open old new k (Some (or_idle (old k))) is places (idle_live (old k)) (idle_absent (old k)) (idle_owned is_open (old k) (is.owned k)) (idle_none (old k) (is.idle_there k))

-- what is kept hangs on look-ups alone
pub held_equal : (rs : List LogRecord) (is_open : ℕ → Bool) (old new : HoldsKey) → IsHeld rs is_open old → ((q : List ℕ) → new q ≡ old q) → IsHeld rs is_open new
held_equal rs is_open old new is same = subst (IsHeld rs is_open) (λ i q. sym (same q) i) is

-- the keys of one more change are freed
pub freed_more : (k q : List ℕ) (u : LogRecord) (us : List LogRecord) (x : Option Holding) → key_of_record u ≡ k → cond (list_any (is_at q) us) None (cond (same_bytes k q) None x) ≡ cond (list_any (is_at q) (u ∷ us)) None x
freed_more k q u us x is = ap (λ (b : Bool). cond (list_any (is_at q) us) None (cond b None x)) (same_bytes-key k q ∙ ap (λ (y : List ℕ). same_key y q) (sym is)) ∙ both_case (same_key (key_of_record u) q) (list_any (is_at q) us)
  where
    both_case : (a b : Bool) → cond b None (cond a None x) ≡ cond (a || b) None x
    both_case true true = refl
    both_case true false = refl
    both_case false true = refl
    both_case false false = refl

-- what follows from both answers of a call
pub either_way : {A B P Q G : Type 0} (r : Result A B) → OnOk r P → OnErr r Q → (P → G) → (Q → G) → G
either_way (Ok x) ok err f g = f ok
either_way (Err x) ok err f g = g err
