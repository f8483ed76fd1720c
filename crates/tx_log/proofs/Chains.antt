-- The chain of a transaction passes exactly its updates that aren't taken back.
use Rattle.std.proofs.Common.{◌≡◌, ℕ, ◌+◌, ◌<◌, ◌≤◌, Bool, true, false, cond, eqb, List, [], ◌∷◌, ◌++◌, length, drop, refl, sym, ap, subst, ◌∙◌, arith, eq-eqb}
use Rattle.std.proofs.lemmas.Bool.Decides.{nat_tests}
use Rattle.tx_log.specs.Log.{lsn_of, prev_of, tx_of_record, leads_to, tells_change, last_of, stepped, stack, led, chain, IsNumbered, Undoes, UndoesUnless, IsWritten, AllWritten}
use Rattle.tx_log.specs.declared.log_record.LogRecord.{LogRecord}
use Rattle.tx_log.specs.declared.log_record.LogRecord.TheVariants.{Update, Compensation, Claim, Unclaim}

-- a greater number differs from a smaller one
pub differs : (m n : ℕ) → n < m → eqb m n ≡ false
differs m n h = grind (arith, nat_tests)

-- a smaller number differs from a greater one
pub unequal : (m n : ℕ) → m < n → eqb m n ≡ false
unequal m n h = grind (arith, nat_tests)

-- numbers that are told to be equal are
pub same_number : (m n : ℕ) → eqb m n ≡ true → m ≡ n
same_number m n h = grind (arith, nat_tests)

-- a record above the number isn't on the way down from it
pub chain-skip : (r : LogRecord) (rs : List LogRecord) (n : ℕ) → lsn_of r ≡ length rs + 1 → n ≤ length rs → chain (r ∷ rs) n ≡ chain rs n
chain-skip r rs n is low = ap (λ (b : Bool). cond b (led (tells_change r) r (chain rs (leads_to r))) (chain rs n)) (differs (lsn_of r) n (omega arith))

-- the older records of a numbered log are numbered
pub numbered-part : (newer : List LogRecord) (r : LogRecord) (older : List LogRecord) → IsNumbered (newer ++ r ∷ older) → IsNumbered (r ∷ older)
numbered-part [] r older is = is
numbered-part (x ∷ newer) r older is = numbered-part newer r older is.3

-- the records below one are fewer than all
pub length-part : (newer : List LogRecord) (r : LogRecord) (older : List LogRecord) → length older < length (newer ++ r ∷ older)
length-part [] r older = omega arith
length-part (x ∷ newer) r older = omega (arith, length-part newer r older)

-- the chain from a record's number begins with that record
pub chain-found : (newer : List LogRecord) (r : LogRecord) (older : List LogRecord) (n : ℕ) → IsNumbered (newer ++ r ∷ older) → lsn_of r ≡ n → chain (newer ++ r ∷ older) n ≡ led (tells_change r) r (chain (newer ++ r ∷ older) (leads_to r))
chain-found [] r older n is at =
    ap (λ (b : Bool). cond b (led (tells_change r) r (chain older (leads_to r))) (chain older n)) (eq-eqb (lsn_of r) n at)
    ∙ ap (led (tells_change r) r) (sym (chain-skip r older (leads_to r) is.0 is.2))
chain-found (x ∷ newer) r older n is at =
    let part = numbered-part newer r older is.3 in
    let longer = length-part newer r older in
    chain-skip x (newer ++ r ∷ older) n is.0 (omega (arith, part.0))
    ∙ chain-found newer r older n is.3 at
    ∙ ap (led (tells_change r) r) (sym (chain-skip x (newer ++ r ∷ older) (leads_to r) is.0 (omega (arith, part.2))))

last_case : (r : LogRecord) (rs : List LogRecord) (t : ℕ) → lsn_of r ≡ length rs + 1 → last_of t rs ≤ length rs → (b : Bool) → cond b (lsn_of r) (last_of t rs) ≤ length rs + 1
last_case r rs t is low true = omega arith
last_case r rs t is low false = omega arith

-- a transaction's last record is one of the log's
pub last_of-le : (rs : List LogRecord) (t : ℕ) → IsNumbered rs → last_of t rs ≤ length rs
last_of-le [] t is = omega arith
last_of-le (r ∷ rs) t is = omega (arith, last_case r rs t is.0 (last_of-le rs t is.3) (eqb (tx_of_record r) t))

-- the chain from a number begins with an update and goes on with some others
pub record IsHead (rs : List LogRecord) (n : ℕ) (u : LogRecord) (us : List LogRecord) : Type 0 where
  pub falls : leads_to u < lsn_of u
  pub within : lsn_of u ≤ length rs
  pub low : lsn_of u ≤ n
  pub update : tells_change u ≡ true
  pub tail : chain rs (leads_to u) ≡ us

-- an update or a claim leads to the record before it
pub leads_is_prev : (u : LogRecord) → tells_change u ≡ true → leads_to u ≡ prev_of u
leads_is_prev (Update lsn prev tx key before after) is = refl
leads_is_prev (Compensation lsn prev tx key restored undo_next) is = absurd (cc)
leads_is_prev (Claim lsn prev tx key seen) is = refl
leads_is_prev (Unclaim lsn prev tx key undo_next) is = absurd (cc)

found_case : (k : Bool) (r : LogRecord) (rs : List LogRecord) (n : ℕ) (u : LogRecord) (us : List LogRecord) → tells_change r ≡ k → IsNumbered (r ∷ rs) → ((m : ℕ) → chain rs m ≡ u ∷ us → IsHead rs m u us) → lsn_of r ≡ n → led k r (chain rs (leads_to r)) ≡ u ∷ us → IsHead (r ∷ rs) n u us
found_case true r rs n u us kind is step at e =
    let same : r ≡ u = cc in
    let first : IsHead (r ∷ rs) n r us = record { falls = omega (arith, is.0, is.2); within = omega (arith, is.0); low = omega arith; update = kind; tail = chain-skip r rs (leads_to r) is.0 is.2 ∙ cc } in
    subst (λ v. IsHead (r ∷ rs) n v us) same first
found_case false r rs n u us kind is step at e =
    let below = step (leads_to r) e in
    record { falls = below.falls; within = omega (arith, below.within); low = omega (arith, below.low, is.0, is.2); update = below.update; tail = chain-skip r rs (leads_to u) is.0 (omega (arith, below.falls, below.within)) ∙ below.tail }

head_case : (r : LogRecord) (rs : List LogRecord) (n : ℕ) (u : LogRecord) (us : List LogRecord) → IsNumbered (r ∷ rs) → ((m : ℕ) → chain rs m ≡ u ∷ us → IsHead rs m u us) → (b : Bool) → eqb (lsn_of r) n ≡ b → cond b (led (tells_change r) r (chain rs (leads_to r))) (chain rs n) ≡ u ∷ us → IsHead (r ∷ rs) n u us
head_case r rs n u us is step true test e = found_case (tells_change r) r rs n u us refl is step (same_number _ _ test) e
head_case r rs n u us is step false test e =
    let below = step n e in
    record { falls = below.falls; within = omega (arith, below.within); low = below.low; update = below.update; tail = chain-skip r rs (leads_to u) is.0 (omega (arith, below.falls, below.within)) ∙ below.tail }

-- the first update on the way down, and what follows it
pub chain-head : (rs : List LogRecord) (n : ℕ) (u : LogRecord) (us : List LogRecord) → IsNumbered rs → chain rs n ≡ u ∷ us → IsHead rs n u us
chain-head [] n u us is e = absurd (cc)
chain-head (r ∷ rs) n u us is e = head_case r rs n u us is (λ m. chain-head rs m u us is.3) (eqb (lsn_of r) n) refl e

-- ---- the chain from the newest record of a transaction

undone_rest : (c : LogRecord) (rs : List LogRecord) (n : ℕ) (us : List LogRecord) → IsNumbered rs → chain rs n ≡ us → Undoes c us → chain rs (leads_to c) ≡ drop 1 us
undone_rest c rs n [] is e u = absurd u
undone_rest c rs n (x ∷ us) is e u =
    let head = chain-head rs n x us is e in
    ap (chain rs) (u.0 ∙ sym (leads_is_prev x head.update)) ∙ head.tail

own_step : (k : Bool) (t : ℕ) (r : LogRecord) (rs : List LogRecord) → tells_change r ≡ k → IsNumbered (r ∷ rs) → prev_of r ≡ last_of (tx_of_record r) rs → UndoesUnless k r (stack (tx_of_record r) rs) → chain rs (last_of t rs) ≡ stack t rs → tx_of_record r ≡ t → led k r (chain rs (leads_to r)) ≡ stepped k r (stack t rs)
own_step true t r rs kind is prev tells step own = ap (λ us. r ∷ us) (ap (chain rs) (leads_is_prev r kind ∙ prev ∙ ap (λ x. last_of x rs) own) ∙ step)
own_step false t r rs kind is prev tells step own = undone_rest r rs (last_of t rs) (stack t rs) is.3 step (subst (λ x. Undoes r (stack x rs)) own tells)

stack_case : (t : ℕ) (r : LogRecord) (rs : List LogRecord) → IsNumbered (r ∷ rs) → IsWritten r rs → chain rs (last_of t rs) ≡ stack t rs → (b : Bool) → eqb (tx_of_record r) t ≡ b → chain (r ∷ rs) (cond b (lsn_of r) (last_of t rs)) ≡ cond b (stepped (tells_change r) r (stack t rs)) (stack t rs)
stack_case t r rs is w step true own =
    ap (λ (b : Bool). cond b (led (tells_change r) r (chain rs (leads_to r))) (chain rs (lsn_of r))) (eq-eqb (lsn_of r) (lsn_of r) refl)
    ∙ own_step (tells_change r) t r rs refl is w.0 w.1 step (same_number _ _ own)
stack_case t r rs is w step false own = chain-skip r rs (last_of t rs) is.0 (last_of-le rs t is.3) ∙ step

-- the chain from a transaction's last record is the stack of its live updates
pub chain_is_stack : (t : ℕ) (rs : List LogRecord) → IsNumbered rs → AllWritten rs → chain rs (last_of t rs) ≡ stack t rs
chain_is_stack t [] is w = refl
chain_is_stack t (r ∷ rs) is w = stack_case t r rs is w.0 (chain_is_stack t rs is.3 w.1) (eqb (tx_of_record r) t) refl
