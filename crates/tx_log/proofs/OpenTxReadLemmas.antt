-- What is read of an open transaction is what its entry in the state says.
use Rattle.std.proofs.Common.{◌≡◌, ℕ, zero, suc, ◌+◌, ◌<◌, ◌≤◌, Bool, true, false, cond, ltb, List, [], ◌∷◌, ◌++◌, length, map, Option, Some, None, option_map, is_some, refl, sym, ap, ◌∙◌, arith, length-append}
use Rattle.std.specs.FinMap as maps
use Rattle.std.specs.List.{filter}
use Rattle.std.specs.Option.{unwrap_or}
use Rattle.std.proofs.lemmas.List.{length-map, append-nil}
use Rattle.rec_types.specs.History.{live_from}
use Rattle.rec_types.specs.declared.transaction.TxId.{TxId}
use Rattle.rec_types.specs.Kept.{Kept, history_of, is_own}
use Rattle.tx_log.proofs.Lives.{first, single, lives, stack_is_lives}
use Rattle.tx_log.proofs.KeptLogLemmas.{tx_of_entry}
use Rattle.tx_log.proofs.OpenTxLemmas.{get-txs_of, found_fits}
use Rattle.tx_log.proofs.PlaceLemmas.{above, kept_rises, live_from-place, newest_from-place}
use Rattle.tx_log.proofs.LogStepLemmas.{chain_of}
use Rattle.tx_log.proofs.WalkSteps.{IsStep, stops_at}
use Rattle.std.proofs.lemmas.Bool.Decides.{nat_tests}
use Rattle.tx_log.specs.Finds.{finding}
use Rattle.tx_log.specs.Fits.{left_above}
use Rattle.tx_log.specs.Log.{kept_of, stack, chain, noted, IsNumbered}
use Rattle.tx_log.specs.LogFields.{IsKept}
use Rattle.tx_log.specs.LogState.{phase_of, undo_of, undo_step, rollback_phase}
use Rattle.tx_log.specs.Places.{place_of_number}
use Rattle.tx_log.specs.OpenTxs.{rollback_at, tx_at, txs_of}
use Rattle.tx_log.specs.Transactions.{Tx, depth_of, live_in, left_in}
use Rattle.tx_log.specs.Walks.{change_in, newest_in, is_after, step_to}
use Rattle.tx_log.specs.declared.log_record.LogRecord.{LogRecord}
use Rattle.tx_log.specs.declared.open_tx.OpenTx.{OpenTx}
use Rattle.tx_log.specs.declared.phase.Rollback.{Rollback}
use Rattle.tx_log.specs.declared.undo_chain.LiveChange.{LiveChange}

-- a transaction that isn't in the map isn't in the state
pub tx_none : (cs : List Kept) (es : List (TxId × OpenTx)) (t : ℕ) → finding es t ≡ None → maps.get (txs_of cs es) t ≡ None
tx_none cs es t none = get-txs_of cs es t ∙ ap (option_map (tx_at t cs)) none

phase_case : (cs : List Kept) (t : ℕ) (s : Option Rollback) (places : List ℕ) → phase_of (record { rollback = rollback_at t cs s; places = places }) ≡ rollback_phase s
phase_case cs t None places = refl
phase_case cs t (Some r) places = refl

-- its phase
pub phase_is : (cs : List Kept) (es : List (TxId × OpenTx)) (t : ℕ) (e : OpenTx) → finding es t ≡ Some e → option_map phase_of (maps.get (txs_of cs es) t) ≡ Some (rollback_phase e.rollback)
phase_is cs es t e found = ap (option_map phase_of) (tx_of_entry cs es t e found) ∙ ap Some (phase_case cs t e.rollback (map (λ s. place_of_number t s cs) e.saves.items))

-- how many savepoints it has
pub depth_is : (cs : List Kept) (es : List (TxId × OpenTx)) (t : ℕ) (e : OpenTx) → finding es t ≡ Some e → depth_of (maps.get (txs_of cs es) t) ≡ length e.saves.items
depth_is cs es t e found = ap depth_of (tx_of_entry cs es t e found) ∙ length-map e.saves.items (λ s. place_of_number t s cs)

live_case : (us : List Kept) (n : ℕ) (b : Bool) (c : Kept) → n ≡ length us → cond b (suc n) n ≡ length (us ++ single b c)
live_case us n true c e = omega (arith, length-append us (c ∷ []))
live_case us n false c e = e ∙ ap length (sym (append-nil us))

live_from_start : (t : ℕ) (cs : List Kept) → live_from (history_of cs) t zero ≡ length (lives t cs)
live_from_start t [] = refl
live_from_start t (c ∷ cs) = live_case (lives t cs) (live_from (history_of cs) t zero) (is_own t c) c (live_from_start t cs)

-- as many live changes as its stack has updates
pub lives_length : (t : ℕ) (rs : List LogRecord) → length (lives t (kept_of rs)) ≡ length (stack t rs)
lives_length t rs = ap length (sym (stack_is_lives t rs)) ∙ length-map (stack t rs) noted

-- how many live changes it has
pub live_is : (rs : List LogRecord) (es : List (TxId × OpenTx)) (begun pending gone t : ℕ) (e : OpenTx) → IsKept rs (finding es) begun pending gone → finding es t ≡ Some e → live_in (history_of (kept_of rs)) t (maps.get (txs_of (kept_of rs) es) t) ≡ e.live
live_is rs es begun pending gone t e kept found =
    ap (live_in (history_of (kept_of rs)) t) (tx_of_entry (kept_of rs) es t e found)
    ∙ live_from_start t (kept_of rs)
    ∙ lives_length t rs
    ∙ sym (found_fits rs begun t (finding es) e kept.fit found).live

-- ---- a rollback under way

filter_noted : (s : ℕ) (us : List LogRecord) → filter (above s) (map noted us) ≡ map noted (filter (is_after s) us)
filter_noted s [] = refl
filter_noted s (u ∷ us) = noted_case (is_after s u) (filter_noted s us)
  where
    noted_case : (b : Bool) → filter (above s) (map noted us) ≡ map noted (filter (is_after s) us) → cond b (noted u ∷ filter (above s) (map noted us)) (filter (above s) (map noted us)) ≡ map noted (cond b (u ∷ filter (is_after s) us) (filter (is_after s) us))
    noted_case true e = ap (λ xs. noted u ∷ xs) e
    noted_case false e = e

above_is : (rs : List LogRecord) (t s : ℕ) → filter (above s) (lives t (kept_of rs)) ≡ map noted (filter (is_after s) (stack t rs))
above_is rs t s = ap (filter (above s)) (sym (stack_is_lives t rs)) ∙ filter_noted s (stack t rs)

-- without a rollback nothing is left to take back
pub left_none : (cs : List Kept) (es : List (TxId × OpenTx)) (t : ℕ) (e : OpenTx) → finding es t ≡ Some e → e.rollback ≡ None → left_in (history_of cs) t (maps.get (txs_of cs es) t) ≡ 0
left_none cs es t e found stage =
    ap (left_in (history_of cs) t) (tx_of_entry cs es t e found)
    ∙ ap (λ (s : Option Rollback). left_in (history_of cs) t (Some (record { rollback = rollback_at t cs s; places = map (λ k. place_of_number t k cs) e.saves.items }))) stage

-- how much a rollback has left
pub left_is : (rs : List LogRecord) (es : List (TxId × OpenTx)) (begun pending gone t : ℕ) (r : Rollback) (e : OpenTx) → IsKept rs (finding es) begun pending gone → finding es t ≡ Some e → e.rollback ≡ Some r → left_in (history_of (kept_of rs)) t (maps.get (txs_of (kept_of rs) es) t) ≡ length (filter (is_after r.to) (stack t rs))
left_is rs es begun pending gone t r e kept found stage =
    let cs = kept_of rs in
    ap (left_in (history_of cs) t) (tx_of_entry cs es t e found)
    ∙ ap (λ (s : Option Rollback). left_in (history_of cs) t (Some (record { rollback = rollback_at t cs s; places = map (λ k. place_of_number t k cs) e.saves.items }))) stage
    ∙ live_from-place t r.to cs (length rs) (kept_rises rs kept.numbered)
    ∙ ap length (above_is rs t r.to)
    ∙ length-map (filter (is_after r.to) (stack t rs)) noted

-- the stored number
pub left_stored : (rs : List LogRecord) (es : List (TxId × OpenTx)) (begun pending gone t : ℕ) (e : OpenTx) → IsKept rs (finding es) begun pending gone → finding es t ≡ Some e → e.left ≡ left_in (history_of (kept_of rs)) t (maps.get (txs_of (kept_of rs) es) t)
left_stored rs es begun pending gone t e kept found = left_case e.rollback refl
  where
    left_case : (s : Option Rollback) → e.rollback ≡ s → e.left ≡ left_in (history_of (kept_of rs)) t (maps.get (txs_of (kept_of rs) es) t)
    left_case None f = (found_fits rs begun t (finding es) e kept.fit found).left ∙ ap (left_above (stack t rs)) f ∙ sym (left_none (kept_of rs) es t e found f)
    left_case (Some r) f = (found_fits rs begun t (finding es) e kept.fit found).left ∙ ap (left_above (stack t rs)) f ∙ sym (left_is rs es begun pending gone t r e kept found f)

-- what is read of a transaction, open or not
pub phase_read : (cs : List Kept) (es : List (TxId × OpenTx)) (t : ℕ) (found : Option OpenTx) → finding es t ≡ found → option_map (λ (e : OpenTx). rollback_phase e.rollback) found ≡ option_map phase_of (maps.get (txs_of cs es) t)
phase_read cs es t None is = sym (ap (option_map phase_of) (tx_none cs es t is))
phase_read cs es t (Some e) is = sym (phase_is cs es t e is)

pub depth_read : (cs : List Kept) (es : List (TxId × OpenTx)) (t : ℕ) (found : Option OpenTx) → finding es t ≡ found → unwrap_or (option_map (λ (e : OpenTx). length e.saves.items) found) 0 ≡ depth_of (maps.get (txs_of cs es) t)
depth_read cs es t None is = sym (ap depth_of (tx_none cs es t is))
depth_read cs es t (Some e) is = sym (depth_is cs es t e is)

pub live_read : (rs : List LogRecord) (es : List (TxId × OpenTx)) (begun pending gone t : ℕ) (found : Option OpenTx) → IsKept rs (finding es) begun pending gone → finding es t ≡ found → unwrap_or (option_map (λ (e : OpenTx). e.live) found) 0 ≡ live_in (history_of (kept_of rs)) t (maps.get (txs_of (kept_of rs) es) t)
live_read rs es begun pending gone t None kept is = sym (ap (live_in (history_of (kept_of rs)) t) (tx_none (kept_of rs) es t is))
live_read rs es begun pending gone t (Some e) kept is = sym (live_is rs es begun pending gone t e kept is)

pub left_read : (rs : List LogRecord) (es : List (TxId × OpenTx)) (begun pending gone t : ℕ) (found : Option OpenTx) → IsKept rs (finding es) begun pending gone → finding es t ≡ found → unwrap_or (option_map (λ (e : OpenTx). e.left) found) 0 ≡ left_in (history_of (kept_of rs)) t (maps.get (txs_of (kept_of rs) es) t)
left_read rs es begun pending gone t None kept is = sym (ap (left_in (history_of (kept_of rs)) t) (tx_none (kept_of rs) es t is))
left_read rs es begun pending gone t (Some e) kept is = left_stored rs es begun pending gone t e kept is

-- without a rollback nothing is taken back next
pub undo_none : (cs : List Kept) (es : List (TxId × OpenTx)) (t : ℕ) (e : OpenTx) → finding es t ≡ Some e → e.rollback ≡ None → undo_of cs t (maps.get (txs_of cs es) t) ≡ None
undo_none cs es t e found stage =
    ap (undo_of cs t) (tx_of_entry cs es t e found)
    ∙ ap (λ (s : Option Rollback). undo_of cs t (Some (record { rollback = rollback_at t cs s; places = map (λ k. place_of_number t k cs) e.saves.items }))) stage

-- what a rollback takes back next
pub undo_is : (rs : List LogRecord) (es : List (TxId × OpenTx)) (begun pending gone t : ℕ) (r : Rollback) (e : OpenTx) → IsKept rs (finding es) begun pending gone → finding es t ≡ Some e → e.rollback ≡ Some r → undo_of (kept_of rs) t (maps.get (txs_of (kept_of rs) es) t) ≡ first (map noted (filter (is_after r.to) (stack t rs)))
undo_is rs es begun pending gone t r e kept found stage =
    let cs = kept_of rs in
    ap (undo_of cs t) (tx_of_entry cs es t e found)
    ∙ ap (λ (s : Option Rollback). undo_of cs t (Some (record { rollback = rollback_at t cs s; places = map (λ k. place_of_number t k cs) e.saves.items }))) stage
    ∙ newest_from-place t r.to cs (length rs) (kept_rises rs kept.numbered)
    ∙ ap first (above_is rs t r.to)

-- the newest of some changes is the next undo step
pub undo_case : (us : List LogRecord) → option_map step_to (newest_in us) ≡ option_map undo_step (first (map noted us))
undo_case [] = refl
undo_case (u ∷ us) = refl

-- ---- a change that is to be taken back

undo_some_case : (cs : List Kept) (t : ℕ) (o : Option Tx) → is_some (undo_of cs t o) ≡ true → is_some o ≡ true
undo_some_case cs t None h = absurd (let no : false ≡ true = h in cc)
undo_some_case cs t (Some tx) h = refl

-- a transaction that has something to take back is open
pub open_of_undo : (cs : List Kept) (es : List (TxId × OpenTx)) (t : ℕ) → is_some (undo_of cs t (maps.get (txs_of cs es) t)) ≡ true → is_some (finding es t) ≡ true
open_of_undo cs es t h = some_entry (finding es t) (ap is_some (sym (get-txs_of cs es t)) ∙ undo_some_case cs t (maps.get (txs_of cs es) t) h)
  where
    some_entry : (o : Option OpenTx) → is_some (option_map (tx_at t cs) o) ≡ true → is_some o ≡ true
    some_entry None h = h
    some_entry (Some e) h = refl

-- the way down from the newest record leads along the live changes
pub entry_chain : (rs : List LogRecord) (es : List (TxId × OpenTx)) (begun pending gone t : ℕ) (e : OpenTx) → IsKept rs (finding es) begun pending gone → finding es t ≡ Some e → chain rs e.last ≡ stack t rs
entry_chain rs es begun pending gone t e kept found = chain_of rs t e.last kept.numbered kept.written (found_fits rs begun t (finding es) e kept.fit found).last

-- the newest of them is the head of the chain
undo_head_case : (rs : List LogRecord) (at to : ℕ) (us : List LogRecord) → IsNumbered rs → chain rs at ≡ us → is_some (first (map noted (filter (is_after to) us))) ≡ true → (change : LiveChange) × (Some change ≡ newest_in us)
undo_head_case rs at to [] is e h = absurd (let no : false ≡ true = h in cc)
undo_head_case rs at to (u ∷ us) is e h = (change_in u, refl)

-- what it takes back next is the head of its chain
pub undo_head : (rs : List LogRecord) (es : List (TxId × OpenTx)) (begun pending gone t : ℕ) (e : OpenTx) → IsKept rs (finding es) begun pending gone → finding es t ≡ Some e → is_some (undo_of (kept_of rs) t (maps.get (txs_of (kept_of rs) es) t)) ≡ true → is_some (newest_in (chain rs e.last)) ≡ true
undo_head rs es begun pending gone t e kept found h = rollback_case e.rollback refl
  where
    rollback_case : (s : Option Rollback) → e.rollback ≡ s → is_some (newest_in (chain rs e.last)) ≡ true
    rollback_case None f = absurd (let no : true ≡ false = sym h ∙ ap is_some (undo_none (kept_of rs) es t e found f) in cc)
    rollback_case (Some r) f =
        let head = undo_head_case rs e.last r.to (chain rs e.last) kept.numbered refl (ap (λ us. is_some (first (map noted (filter (is_after r.to) us)))) (entry_chain rs es begun pending gone t e kept found) ∙ ap is_some (sym (undo_is rs es begun pending gone t r e kept found f)) ∙ h) in
        ap is_some (sym head.1)

above_case : (rs : List LogRecord) (at to : ℕ) (change : LiveChange) → IsNumbered rs → (step : IsStep rs at change) → is_some (first (map noted (filter (is_after to) (chain rs at)))) ≡ true → (b : Bool) → ltb to change.lsn ≡ b → first (map noted (filter (is_after to) (chain rs at))) ≡ Some (noted step.update)
above_case rs at to change is step h true up =
    let u = step.update in
    let us = filter (is_after to) step.rest in
    let up_is : is_after to u ≡ true = ap (λ (c : LiveChange). ltb to c.lsn) step.told ∙ up in
    ap (λ xs. first (map noted (filter (is_after to) xs))) step.is ∙ ap (λ (b : Bool). first (map noted (cond b (u ∷ us) us))) up_is
above_case rs at to change is step h false up =
    let low : change.lsn ≤ to = grind (arith, nat_tests) in
    absurd (let no : true ≡ false = sym h ∙ ap (λ xs. is_some (first (map noted xs))) (stops_at rs at change to is step low) in cc)

-- and what is read there is the step
pub undo_told : (rs : List LogRecord) (es : List (TxId × OpenTx)) (begun pending gone t : ℕ) (e : OpenTx) (change : LiveChange) → IsKept rs (finding es) begun pending gone → finding es t ≡ Some e → is_some (undo_of (kept_of rs) t (maps.get (txs_of (kept_of rs) es) t)) ≡ true → (step : IsStep rs e.last change) → undo_of (kept_of rs) t (maps.get (txs_of (kept_of rs) es) t) ≡ Some (noted step.update)
undo_told rs es begun pending gone t e change kept found h step = rollback_case e.rollback refl
  where
    rollback_case : (s : Option Rollback) → e.rollback ≡ s → undo_of (kept_of rs) t (maps.get (txs_of (kept_of rs) es) t) ≡ Some (noted step.update)
    rollback_case None f = absurd (let no : true ≡ false = sym h ∙ ap is_some (undo_none (kept_of rs) es t e found f) in cc)
    rollback_case (Some r) f =
        let told = undo_is rs es begun pending gone t r e kept found f ∙ ap (λ us. first (map noted (filter (is_after r.to) us))) (sym (entry_chain rs es begun pending gone t e kept found)) in
        told ∙ above_case rs e.last r.to change kept.numbered step (ap is_some (sym told) ∙ h) (ltb r.to change.lsn) refl

left_case : (rs : List LogRecord) (t : ℕ) (us : List LogRecord) → is_some (first (map noted us)) ≡ true → 0 < length us
left_case rs t [] h = absurd (let no : false ≡ true = h in cc)
left_case rs t (u ∷ us) h = omega arith

-- where something is to be taken back, the stored number isn't zero
pub left_some : (rs : List LogRecord) (es : List (TxId × OpenTx)) (begun pending gone t : ℕ) (e : OpenTx) → IsKept rs (finding es) begun pending gone → finding es t ≡ Some e → is_some (undo_of (kept_of rs) t (maps.get (txs_of (kept_of rs) es) t)) ≡ true → 0 < e.left
left_some rs es begun pending gone t e kept found h = rollback_case e.rollback refl
  where
    left_is_here : (s : Option Rollback) → e.rollback ≡ s → e.left ≡ left_above (stack t rs) s
    left_is_here s f = (found_fits rs begun t (finding es) e kept.fit found).left ∙ ap (left_above (stack t rs)) f

    rollback_case : (s : Option Rollback) → e.rollback ≡ s → 0 < e.left
    rollback_case None f = absurd (let no : true ≡ false = sym h ∙ ap is_some (undo_none (kept_of rs) es t e found f) in cc)
    rollback_case (Some r) f =
        let some = left_case rs t (filter (is_after r.to) (stack t rs)) (ap is_some (sym (undo_is rs es begun pending gone t r e kept found f)) ∙ h) in
        omega (arith, some, left_is_here (Some r) f)

above_one : (rs : List LogRecord) (at to : ℕ) (change : LiveChange) → IsNumbered rs → (step : IsStep rs at change) → is_some (first (map noted (filter (is_after to) (chain rs at)))) ≡ true → (b : Bool) → ltb to change.lsn ≡ b → length (filter (is_after to) (step.update ∷ step.rest)) ≡ length (filter (is_after to) step.rest) + 1
above_one rs at to change is step h true up =
    let u = step.update in
    let us = filter (is_after to) step.rest in
    let up_is : is_after to u ≡ true = ap (λ (c : LiveChange). ltb to c.lsn) step.told ∙ up in
    ap (λ (b : Bool). length (cond b (u ∷ us) us)) up_is ∙ (omega arith)
above_one rs at to change is step h false up =
    let low : change.lsn ≤ to = grind (arith, nat_tests) in
    absurd (let no : true ≡ false = sym h ∙ ap (λ xs. is_some (first (map noted xs))) (stops_at rs at change to is step low) in cc)

-- the newest live change is one of those that are to be taken back
pub undo_above : (rs : List LogRecord) (es : List (TxId × OpenTx)) (begun pending gone t : ℕ) (e : OpenTx) (change : LiveChange) → IsKept rs (finding es) begun pending gone → finding es t ≡ Some e → is_some (undo_of (kept_of rs) t (maps.get (txs_of (kept_of rs) es) t)) ≡ true → (step : IsStep rs e.last change) → left_above (step.update ∷ step.rest) e.rollback ≡ left_above step.rest e.rollback + 1
undo_above rs es begun pending gone t e change kept found h step = rollback_case e.rollback refl
  where
    rollback_case : (s : Option Rollback) → e.rollback ≡ s → left_above (step.update ∷ step.rest) s ≡ left_above step.rest s + 1
    rollback_case None f = absurd (let no : true ≡ false = sym h ∙ ap is_some (undo_none (kept_of rs) es t e found f) in cc)
    rollback_case (Some r) f =
        let told = undo_is rs es begun pending gone t r e kept found f ∙ ap (λ us. first (map noted (filter (is_after r.to) us))) (sym (entry_chain rs es begun pending gone t e kept found)) in
        above_one rs e.last r.to change kept.numbered step (ap is_some (sym told) ∙ h) (ltb r.to change.lsn) refl
