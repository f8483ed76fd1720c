-- One step of a walk along a chain.
use Rattle.std.proofs.Common.{◌≡◌, ℕ, ◌+◌, ◌<◌, ◌≤◌, Bool, true, false, cond, eqb, ltb, List, [], ◌∷◌, length, map, Option, Some, None, option_map, refl, sym, ap, ◌∙◌, arith}
use Rattle.std.proofs.lemmas.Bool.Decides.{nat_tests}
use Rattle.std.specs.List.{filter}
use Rattle.tx_log.proofs.Chains.{chain-head, leads_is_prev, same_number}
use Rattle.tx_log.specs.Log.{lsn_of, prev_of, key_of_record, leads_to, led, tells_change, chain, IsNumbered}
use Rattle.tx_log.specs.Walks.{change_in, link_of, newest_in, is_after}
use Rattle.tx_log.specs.declared.log_record.LogRecord.{LogRecord}
use Rattle.tx_log.specs.declared.undo_chain.LiveChange.{LiveChange}
use Rattle.tx_log.specs.declared.undo_chain.Link.{Link}

-- a step of the walk down a chain: the update there, and what is below
pub record IsStep (rs : List LogRecord) (at : ℕ) (change : LiveChange) : Type 0 where
  pub update : LogRecord
  pub rest : List LogRecord
  pub is : chain rs at ≡ update ∷ rest
  pub told : change_in update ≡ change
  pub tail : chain rs change.prev ≡ rest
  pub falls : change.prev < change.lsn
  pub low : change.lsn ≤ at
  pub within : change.lsn ≤ length rs
  pub kind : tells_change update ≡ true

step_from : (rs us : List LogRecord) (at : ℕ) (change : LiveChange) → IsNumbered rs → chain rs at ≡ us → newest_in us ≡ Some change → IsStep rs at change
step_from rs [] at change is e some = absurd (cc)
step_from rs (u ∷ us) at change is e some =
    let head = chain-head rs at u us is e in
    let told : change_in u ≡ change = cc in
    let prev_is : prev_of u ≡ change.prev = ap (λ (c : LiveChange). c.prev) told in
    let lsn_is : lsn_of u ≡ change.lsn = ap (λ (c : LiveChange). c.lsn) told in
    let leads_is : leads_to u ≡ change.prev = leads_is_prev u head.update ∙ prev_is in
    record {
      update = u;
      rest = us;
      is = e;
      told = told;
      tail = sym (ap (chain rs) leads_is) ∙ head.tail;
      falls = omega (arith, head.falls);
      low = omega (arith, head.low);
      within = omega (arith, head.within);
      kind = head.update;
    }

-- where a newest live change is read, the walk makes that step
pub walk_step : (rs : List LogRecord) (at : ℕ) (change : LiveChange) → IsNumbered rs → newest_in (chain rs at) ≡ Some change → IsStep rs at change
walk_step rs at change is some = step_from rs (chain rs at) at change is refl some

-- the same where the change was read without its records
pub record IsLinked (rs : List LogRecord) (at : ℕ) (link : Link) : Type 0 where
  pub change : LiveChange
  pub step : IsStep rs at change
  pub lsn : change.lsn ≡ link.lsn
  pub prev : change.prev ≡ link.prev
  pub key : change.key ≡ link.key

pub walk_link : (rs : List LogRecord) (at : ℕ) (link : Link) → IsNumbered rs → option_map link_of (newest_in (chain rs at)) ≡ Some link → IsLinked rs at link
walk_link rs at link is some = from (newest_in (chain rs at)) refl
  where
    from : (o : Option LiveChange) → newest_in (chain rs at) ≡ o → IsLinked rs at link
    from None e = absurd (cc (ap (option_map link_of) (sym e) ∙ some))
    from (Some change) e =
        let same : link_of change ≡ link = cc (ap (option_map link_of) (sym e) ∙ some) in
        record {
          change = change;
          step = walk_step rs at change is e;
          lsn = ap (λ (l : Link). l.lsn) same;
          prev = ap (λ (l : Link). l.prev) same;
          key = ap (λ (l : Link). l.key) same;
        }

-- where none is read so, the chain has ended
pub link_end : (rs : List LogRecord) (at : ℕ) → option_map link_of (newest_in (chain rs at)) ≡ None → chain rs at ≡ []
link_end rs at e = from (chain rs at) e
  where
    from : (us : List LogRecord) → option_map link_of (newest_in us) ≡ None → us ≡ []
    from [] e = refl
    from (u ∷ us) e = absurd (cc)

none_left : (us : List LogRecord) → newest_in us ≡ None → us ≡ []
none_left [] e = refl
none_left (u ∷ us) e = absurd (cc)

-- ---- nothing on the way down from s is above s

not_after : (m n : ℕ) → n ≤ m → ltb m n ≡ false
not_after m n h = grind (arith, nat_tests)

low_led : (k : Bool) (r : LogRecord) (rs : List LogRecord) (n s : ℕ) → IsNumbered (r ∷ rs) → ((m : ℕ) → m ≤ s → filter (is_after s) (chain rs m) ≡ []) → lsn_of r ≡ n → n ≤ s → filter (is_after s) (led k r (chain rs (leads_to r))) ≡ []
low_led true r rs n s is step at h =
    let us = filter (is_after s) (chain rs (leads_to r)) in
    ap (λ (b : Bool). cond b (r ∷ us) us) (not_after s (lsn_of r) (omega arith)) ∙ step (leads_to r) (omega (arith, is.0, is.2))
low_led false r rs n s is step at h = step (leads_to r) (omega (arith, is.0, is.2))

low_case : (r : LogRecord) (rs : List LogRecord) (n s : ℕ) → IsNumbered (r ∷ rs) → ((m : ℕ) → m ≤ s → filter (is_after s) (chain rs m) ≡ []) → n ≤ s → (b : Bool) → eqb (lsn_of r) n ≡ b → filter (is_after s) (cond b (led (tells_change r) r (chain rs (leads_to r))) (chain rs n)) ≡ []
low_case r rs n s is step h true e = low_led (tells_change r) r rs n s is step (same_number _ _ e) h
low_case r rs n s is step h false e = step n h

-- below a savepoint's number the chain has nothing to take back
pub chain-low : (rs : List LogRecord) (n s : ℕ) → IsNumbered rs → n ≤ s → filter (is_after s) (chain rs n) ≡ []
chain-low [] n s is h = refl
chain-low (r ∷ rs) n s is h = low_case r rs n s is (λ m. chain-low rs m s is.3) h (eqb (lsn_of r) n) refl

-- a walk that counts stops at the first change that isn't above s
pub stops_at : (rs : List LogRecord) (at : ℕ) (change : LiveChange) (s : ℕ) → IsNumbered rs → IsStep rs at change → change.lsn ≤ s → filter (is_after s) (chain rs at) ≡ []
stops_at rs at change s is step h =
    let us = filter (is_after s) step.rest in
    let lsn_is : lsn_of step.update ≡ change.lsn = ap (λ (c : LiveChange). c.lsn) step.told in
    let low : lsn_of step.update ≤ s = omega arith in
    let under : change.prev ≤ s = omega (arith, step.falls) in
    ap (filter (is_after s)) step.is
    ∙ ap (λ (b : Bool). cond b (step.update ∷ us) us) (not_after s (lsn_of step.update) low)
    ∙ ap (filter (is_after s)) (sym step.tail)
    ∙ chain-low rs change.prev s is under

-- a greater number is above
pub is_above : (m n : ℕ) → m < n → ltb m n ≡ true
is_above m n h = grind (arith, nat_tests)

-- a step above a savepoint's number is one more to take back
pub goes_on : (rs : List LogRecord) (at : ℕ) (change : LiveChange) (s : ℕ) → IsStep rs at change → s < change.lsn → length (filter (is_after s) (chain rs at)) ≡ 1 + length (filter (is_after s) (chain rs change.prev))
goes_on rs at change s step h =
    let us = filter (is_after s) step.rest in
    let lsn_is : lsn_of step.update ≡ change.lsn = ap (λ (c : LiveChange). c.lsn) step.told in
    let up : s < lsn_of step.update = omega arith in
    let first : length (filter (is_after s) (chain rs at)) ≡ length (step.update ∷ us) = ap (λ xs. length (filter (is_after s) xs)) step.is ∙ ap (λ (b : Bool). length (cond b (step.update ∷ us) us)) (is_above s (lsn_of step.update) up) in
    let rest : length (filter (is_after s) (chain rs change.prev)) ≡ length us = ap (λ xs. length (filter (is_after s) xs)) step.tail in
    omega arith

-- every number is above none

all_led : (k : Bool) (r : LogRecord) (us : List LogRecord) → 0 < lsn_of r → filter (is_after 0) us ≡ us → filter (is_after 0) (led k r us) ≡ led k r us
all_led true r us some rest = ap (λ (b : Bool). cond b (r ∷ filter (is_after 0) us) (filter (is_after 0) us)) (is_above 0 (lsn_of r) some) ∙ ap (λ xs. r ∷ xs) rest
all_led false r us some rest = rest

pub chain-all : (rs : List LogRecord) (n : ℕ) → IsNumbered rs → filter (is_after 0) (chain rs n) ≡ chain rs n
chain-all [] n is = refl
chain-all (r ∷ rs) n is = at (eqb (lsn_of r) n) (chain-all rs (leads_to r) is.3) (chain-all rs n is.3)
  where
    at : (b : Bool) → filter (is_after 0) (chain rs (leads_to r)) ≡ chain rs (leads_to r) → filter (is_after 0) (chain rs n) ≡ chain rs n → filter (is_after 0) (cond b (led (tells_change r) r (chain rs (leads_to r))) (chain rs n)) ≡ cond b (led (tells_change r) r (chain rs (leads_to r))) (chain rs n)
    at true below rest = all_led (tells_change r) r (chain rs (leads_to r)) (omega (arith, is.0)) below
    at false below rest = rest

-- the key of a step is the first of the chain's
pub keys_on : (rs : List LogRecord) (at : ℕ) (change : LiveChange) → IsStep rs at change → map key_of_record (chain rs at) ≡ change.key ∷ map key_of_record (chain rs change.prev)
keys_on rs at change step =
    ap (map key_of_record) step.is
    ∙ ap (λ k. k ∷ map key_of_record step.rest) (ap (λ (c : LiveChange). c.key) step.told)
    ∙ ap (λ us. change.key ∷ map key_of_record us) (sym step.tail)

-- the newest change is above the place
pub first_above : (rs : List LogRecord) (at s : ℕ) (change : LiveChange) → IsStep rs at change → s < change.lsn → Some change ≡ newest_in (filter (is_after s) (chain rs at))
first_above rs at s change step up =
    let u = step.update in
    let us = filter (is_after s) step.rest in
    let lsn_is : lsn_of u ≡ change.lsn = ap (λ (c : LiveChange). c.lsn) step.told in
    let up_is : is_after s u ≡ true = is_above s (lsn_of u) (omega arith) in
    ap Some (sym step.told)
    ∙ sym (ap (λ (b : Bool). newest_in (cond b (u ∷ us) us)) up_is)
    ∙ ap (λ xs. newest_in (filter (is_after s) xs)) (sym step.is)
