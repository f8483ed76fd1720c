-- What is kept of the key that a change is made at, or taken back at.
use Rattle.std.proofs.Common.{◌≡◌, ℕ, ◌+◌, ◌<◌, ◌≤◌, Bool, true, false, suc, cond, not, eqb, ◌||◌, List, [], ◌∷◌, length, reverse, Option, Some, None, IfSome, is_some, refl, sym, ap, subst, ◌∙◌, arith}
use Rattle.std.specs.List.{filter, list_any}
use Rattle.std.proofs.lemmas.List.{length-reverse}
use Rattle.rec_types.specs.Kept.{history_of}
use Rattle.rec_types.specs.declared.transaction.TxId.{TxId}
use Rattle.tx_log.proofs.HoldingLemmas.{any_counted, held_grown, accepted_hold, compensated_hold, IsHoldStep, IsHolding, holding_of, mine_alone, own_absent, own_or_none}
use Rattle.tx_log.proofs.HoldSteps.{held_put, busy_placed, busy_now, lowered_busy}
use Rattle.tx_log.proofs.KeptLogLemmas.{stack-le}
use Rattle.tx_log.proofs.OpenTxLemmas.{opens_is}
use Rattle.tx_log.proofs.OpenTxReadLemmas.{entry_chain}
use Rattle.tx_log.proofs.WalkSteps.{IsStep}
use Rattle.tx_log.specs.Finds.{Txs, finding, PutsAt}
use Rattle.tx_log.specs.Holdings.{HoldsKey, holdings_in, HeldAt, Places, lowered, live_held, live_at, IsHeld, AllBusy}
use Rattle.tx_log.specs.Log.{tx_of_record, key_of_record, old_of, new_of, tells_change, kept_of, stack, chain}
use Rattle.tx_log.specs.LogFields.{room_in, log_state_of, IsTxLog}
use Rattle.tx_log.specs.LogState.{LogState, open_in, history_in}
use Rattle.tx_log.specs.OpenTxs.{opens}
use Rattle.tx_log.specs.Owners.{holder_of, says}
use Rattle.tx_log.proofs.LogStepLemmas.{IsChangeOf}
use Rattle.rec_types.proofs.ContentsLemmas.{same_key-of}
use Rattle.std.specs.Option.{unwrap_or}
use Rattle.tx_log.specs.Walks.{is_at, is_out, absent_at}
use Rattle.tx_log.specs.declared.holding.Holding.{Holding}
use Rattle.tx_log.specs.declared.log_record.LogRecord.{LogRecord}
use Rattle.tx_log.specs.declared.log.TxLog.TheInside.{Inside}
use Rattle.tx_log.specs.declared.open_tx.OpenTx.{OpenTx}
use Rattle.tx_log.specs.declared.undo_chain.LiveChange.{LiveChange}

live_le : (k : List ℕ) (us : List LogRecord) → live_at k us ≤ length us
live_le k [] = omega arith
live_le k (u ∷ us) = le_case (is_at k u) (live_le k us)
  where
    le_case : (b : Bool) → live_at k us ≤ length us → length (cond b (u ∷ filter (is_at k) us) (filter (is_at k) us)) ≤ suc (length us)
    le_case true h = omega arith
    le_case false h = omega arith

-- the key that has room stands at the place
pub record IsRoom (l : Inside) (key : List ℕ) (place : ℕ) : Type 0 where
  pub over : l.over ≡ Some key
  pub stands : HeldAt l.holdings key place

-- a key that has room has a place
pub room_placed : (room_at : Option ℕ) (over : Option (List ℕ)) (key : List ℕ) → room_in room_at over ≡ Some key → is_some room_at ≡ true
room_placed None over key room = absurd (cc)
room_placed (Some i) over key room = refl

-- it stands there
pub room_held : (l : Inside) → IsTxLog l → (s : LogState) → log_state_of l ≡ s → (key : List ℕ) (place : ℕ) → l.room_at ≡ Some place → s.room ≡ Some key → IsRoom l key place
room_held l is s view key place at room =
    let over : l.over ≡ Some key = ap (λ (o : Option ℕ). room_in o l.over) (sym at) ∙ ap (λ (x : LogState). x.room) view ∙ room in
    let placed = subst (λ (o : Option ℕ). IfSome o (λ i. IfSome l.over (λ k. HeldAt l.holdings k i))) at is.reserved in
    record { over = over; stands = subst (λ (o : Option (List ℕ)). IfSome o (λ k. HeldAt l.holdings k place)) over placed }

-- what is kept of the key that has room
pub record IsFree (l : Inside) (t : ℕ) (key : List ℕ) (e : OpenTx) (hold : Holding) : Type 0 where
  pub mine : 0 < hold.live → hold.owner.0 ≡ t
  pub lacks : hold.absent ≡ absent_at key (chain (reverse l.records.items) e.last)
  pub some : list_any (is_at key) (chain (reverse l.records.items) e.last) ≡ not (eqb hold.live 0)
  pub whole : chain (reverse l.records.items) e.last ≡ stack t (reverse l.records.items)
  pub few : hold.live ≤ length l.records.items

-- a key that nobody else holds, with room in the map
pub free_key : (l : Inside) → IsTxLog l → (s : LogState) → log_state_of l ≡ s → (t : ℕ) (key : List ℕ) (e : OpenTx) (place : ℕ) (room : IsRoom l key place) → holder_of (open_in s) (history_in s) t key ≡ None → finding l.txs.entries t ≡ Some e → IsFree l t key e room.stands.hold
free_key l is s view t key e place room free found =
    let rs = reverse l.records.items in
    let is_open = opens (finding l.txs.entries) in
    let holds = holdings_in l.holdings in
    let kept = is.log_kept in
    let opened : is_open t ≡ true = ap is_some found in
    let hold = room.stands.hold in
    let there : holds key ≡ Some hold = room.stands.there in
    let alone : holder_of is_open (history_of (kept_of rs)) t key ≡ None = ap (λ (o : ℕ → Bool). holder_of o (history_of (kept_of rs)) t key) (sym (opens_is (kept_of rs) l.txs.entries)) ∙ ap (λ (x : LogState). holder_of (open_in x) (history_in x) t key) view ∙ free in
    let mine : 0 < hold.live → hold.owner.0 ≡ t = mine_alone rs is_open holds key hold t kept.owned is.holding there alone in
    let many : live_at key (stack t rs) ≡ hold.live = is.holding.counted t key opened ∙ ap (live_held t) there ∙ own_or_none hold t mine in
    let whole : chain rs e.last ≡ stack t rs = entry_chain rs l.txs.entries l.begun l.pending l.gone t e kept found in
    record {
      mine = mine;
      lacks = own_absent rs is_open holds key hold t is.holding there mine opened ∙ ap (absent_at key) (sym whole);
      some = ap (list_any (is_at key)) whole ∙ any_counted key (stack t rs) ∙ ap (λ (n : ℕ). not (eqb n 0)) many;
      whole = whole;
      few = omega (arith, many, live_le key (stack t rs), stack-le t rs, length-reverse l.records.items);
    }

-- the holdings after an update
pub record AreHeld (rs : List LogRecord) (txs : Txs) (holds : HoldsKey) (over : Option (List ℕ)) : Type 0 where
  pub holding : IsHeld rs (opens txs) holds
  pub busy_keys : AllBusy holds over

-- whether a key is out after one change more, as it is read
pub will_be : (after : Option (Option (List ℕ))) (before : Option (List ℕ)) (n : ℕ) (some was : Bool) → some ≡ not (eqb n 0) → cond (is_some after || eqb n 0) (not (is_some (unwrap_or after before))) was ≡ is_out (says after some before) was
will_be (Some w) before n some was is = refl
will_be None before n some was is = at (eqb n 0) is
  where
    at : (b : Bool) → some ≡ not b → cond b (not (is_some before)) was ≡ is_out (says None some before) was
    at true e = ap (λ x. is_out (says None x before) was) (sym e)
    at false e = ap (λ x. is_out (says None x before) was) (sym e)

-- as the record of the change says
pub will_be_told : (r : LogRecord) (lsn prev : ℕ) (tx : TxId) (key : List ℕ) (before : Option (List ℕ)) (after : Option (Option (List ℕ))) (us : List LogRecord) → IsChangeOf r lsn prev tx key before after → is_out (says after (list_any (is_at key) us) before) (absent_at key us) ≡ absent_at key (r ∷ us)
will_be_told r lsn prev tx key before after us is =
    (λ i. is_out (says (sym is.told i).after (list_any (is_at key) us) (sym is.told i).before) (absent_at key us))
    ∙ sym (ap (λ (b : Bool). cond b (is_out (says (new_of r) (list_any (is_at key) us) (old_of r)) (absent_at key us)) (absent_at key us)) (same_key-of (key_of_record r) key is.key_is))

-- what is kept of keys after a change
pub accepted_keys : (r : LogRecord) (l : Inside) → IsTxLog l → (tx : TxId) (key : List ℕ) (e new : OpenTx) (place : ℕ) (room : IsRoom l key place) → IsFree l tx.0 key e room.stands.hold → (txs_new : Txs) (holds_new : HoldsKey) (lsn prev : ℕ) (before : Option (List ℕ)) (after : Option (Option (List ℕ))) (absent : Bool) → IsChangeOf r lsn prev tx key before after → finding l.txs.entries tx.0 ≡ Some e → PutsAt (finding l.txs.entries) txs_new tx.0 (Some new) → absent ≡ absent_at key (r ∷ chain (reverse l.records.items) e.last) → Places (holdings_in l.holdings) holds_new key (Some (record { owner = tx; live = room.stands.hold.live + 1; absent = absent })) → AreHeld (r ∷ reverse l.records.items) txs_new holds_new None
accepted_keys r l is tx key e new place room free txs_new holds_new lsn prev before after absent told found puts absent_is places =
    let rs = reverse l.records.items in
    let txs = finding l.txs.entries in
    let w : Option Holding = Some (record { owner = tx; live = room.stands.hold.live + 1; absent = absent }) in
    let step = accepted_hold r tx key rs (opens txs) (holdings_in l.holdings) room.stands.hold absent told.up told.tx_is told.key_is is.holding room.stands.there free.mine (ap is_some found) (absent_is ∙ ap (λ us. absent_at key (r ∷ us)) free.whole) in
    let grown = held_grown r rs (opens txs) (holdings_in l.holdings) holds_new tx.0 key w is.holding step places in
    record {
      holding = held_put (r ∷ rs) txs txs_new holds_new tx.0 e new puts found grown;
      busy_keys = busy_now (holdings_in l.holdings) holds_new key _ l.over room.over places (omega arith) is.busy_keys;
    }

-- the key of the change that is to be taken back
pub record IsKeyOf (l : Inside) (t : ℕ) (change : LiveChange) (u : LogRecord) (us : List LogRecord) : Type 0 where
  pub whole : stack t (reverse l.records.items) ≡ u ∷ us
  pub key : key_of_record u ≡ change.key
  pub hold : IsHolding (reverse l.records.items) (holdings_in l.holdings) t u us
  pub there : holdings_in l.holdings change.key ≡ Some hold.hold
  pub lacks : hold.hold.absent ≡ absent_at change.key (u ∷ us)

-- the key of the change that is taken back next
pub key_of_change : (l : Inside) → IsTxLog l → (t : ℕ) (e : OpenTx) (change : LiveChange) → finding l.txs.entries t ≡ Some e → (step : IsStep (reverse l.records.items) e.last change) → IsKeyOf l t change step.update step.rest
key_of_change l is t e change found step =
    let rs = reverse l.records.items in
    let whole : stack t rs ≡ step.update ∷ step.rest = sym (entry_chain rs l.txs.entries l.begun l.pending l.gone t e is.log_kept found) ∙ step.is in
    let key : key_of_record step.update ≡ change.key = ap (λ (c : LiveChange). c.key) step.told in
    let hold = holding_of rs (opens (finding l.txs.entries)) (holdings_in l.holdings) t step.update step.rest is.holding (ap is_some found) whole in
    let there : holdings_in l.holdings change.key ≡ Some hold.hold = ap (holdings_in l.holdings) (sym key) ∙ hold.there in
    record { whole = whole; key = key; hold = hold; there = there; lacks = own_absent rs (opens (finding l.txs.entries)) (holdings_in l.holdings) change.key hold.hold t is.holding there (λ _. hold.owner) (ap is_some found) ∙ ap (absent_at change.key) whole }

-- what is kept of keys after a change is taken back
pub compensated_keys : (r : LogRecord) (l : Inside) → IsTxLog l → (tx : TxId) (e new : OpenTx) (change : LiveChange) (u : LogRecord) (us : List LogRecord) (at : IsKeyOf l tx.0 change u us) (txs_new : Txs) (holds_new : HoldsKey) (absent : Bool) → tells_change r ≡ false → tx_of_record r ≡ tx.0 → finding l.txs.entries tx.0 ≡ Some e → PutsAt (finding l.txs.entries) txs_new tx.0 (Some new) → absent ≡ absent_at change.key us → Places (holdings_in l.holdings) holds_new change.key (lowered at.hold.hold absent) → AreHeld (r ∷ reverse l.records.items) txs_new holds_new l.over
compensated_keys r l is tx e new change u us at txs_new holds_new absent down tx_is found puts absent_is places =
    let rs = reverse l.records.items in
    let txs = finding l.txs.entries in
    let w = lowered at.hold.hold absent in
    let own = compensated_hold r tx rs (opens txs) (holdings_in l.holdings) u us absent at.hold down tx_is is.holding (ap is_some found) at.whole (absent_is ∙ ap (λ k. absent_at k us) (sym at.key)) in
    let step : IsHoldStep r rs (opens txs) (holdings_in l.holdings) tx.0 change.key w = subst (λ k. IsHoldStep r rs (opens txs) (holdings_in l.holdings) tx.0 k w) at.key own in
    let grown = held_grown r rs (opens txs) (holdings_in l.holdings) holds_new tx.0 change.key w is.holding step places in
    record {
      holding = held_put (r ∷ rs) txs txs_new holds_new tx.0 e new puts found grown;
      busy_keys = busy_placed (holdings_in l.holdings) holds_new change.key w l.over places (lowered_busy at.hold.hold (live_at (key_of_record u) us) absent at.hold.live) is.busy_keys;
    }
