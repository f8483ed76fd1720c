-- The state that a log stands for, along its changes.
use Rattle.std.proofs.Common.{◌≡◌, ℕ, ◌+◌, true, List, [], ◌∷◌, ◌++◌, length, reverse, Option, Some, None, option_map, refl, sym, ap, subst, ◌∙◌}
use Rattle.std.specs.FinMap as maps
use Rattle.std.specs.Ordering.{nat_cmp}
use Rattle.std.specs.Cmp.Lexicographic.{slice_cmp}
use Rattle.std.proofs.lemmas.List.{length-reverse}
use Rattle.rec_types.specs.History.{log_len}
use Rattle.rec_types.specs.Kept.{history_of, undone}
use Rattle.rec_types.specs.LimitBounds.{Bounds}
use Rattle.rec_types.specs.declared.transaction.TxId.{TxId}
use Rattle.tx_log.proofs.LogIndex.{reverse-push}
use Rattle.tx_log.proofs.LogStepLemmas.{IsChangeOf, IsBackOf}
use Rattle.tx_log.specs.Finds.{Txs, finding}
use Rattle.tx_log.specs.Log.{lsn_of, key_of_record, back_in, change_record, back_record, kept_by, noted, last_of, record_at, kept_of, AllWritten}
use Rattle.tx_log.specs.LogFields.{IsKept, HasUndoRoom}
use Rattle.tx_log.specs.LogState.{LogState, update_in, undo_in, prev_in, compensations_of, compensations_in}
use Rattle.tx_log.specs.Walks.{change_in}
use Rattle.tx_log.specs.declared.undo_chain.LiveChange.{LiveChange}
use Rattle.tx_log.specs.OpenTxs.{txs_of}
use Rattle.tx_log.specs.declared.log_record.LogRecord.{LogRecord}
use Rattle.tx_log.specs.declared.open_tx.OpenTx.{OpenTx}
use Rattle.tx_log.proofs.Counts.{log_len_is}

-- the state that records and open transactions stand for
abbrev pub state : List LogRecord → List (TxId × OpenTx) → ℕ → Bounds → Option (List ℕ) → LogState
state records es begun limits room = record {
  records = records;
  changes = kept_of (reverse records);
  txs = txs_of (kept_of (reverse records)) es;
  begun = begun;
  limits = limits;
  room = room;
}

-- an empty log is kept
pub kept_empty : (rs : List LogRecord) (es : List (TxId × OpenTx)) → rs ≡ [] → es ≡ [] → IsKept rs (finding es) 0 0 0
kept_empty [] [] rs_is es_is = record {
  numbered = tt;
  written = tt;
  fit = λ t. tt;
  known = tt;
  all_begun = tt;
  owned = tt;
  pending_is = refl;
  absent_is = sym (maps.len-empty (slice_cmp nat_cmp) (List ℕ));
}
kept_empty [] (e ∷ es) rs_is es_is = absurd (cc)
kept_empty (r ∷ rs) es rs_is es_is = absurd (cc)

-- the state after one change more
pub accept_state : (r : LogRecord) (records records_new : List LogRecord) (es es_new : List (TxId × OpenTx)) (begun : ℕ) (limits : Bounds) (room : Option (List ℕ)) (lsn prev : ℕ) (tx : TxId) (key : List ℕ) (before : Option (List ℕ)) (after : Option (Option (List ℕ))) → r ≡ change_record lsn prev tx key before after → IsChangeOf r lsn prev tx key before after → AllWritten (reverse records) → records_new ≡ records ++ r ∷ [] → lsn ≡ length records + 1 → prev ≡ last_of tx.0 (reverse records) → txs_of (kept_of (r ∷ reverse records)) es_new ≡ txs_of (kept_of (reverse records)) es → state records_new es_new begun limits None ≡ record (state records es begun limits room) { records = records ++ update_in (state records es begun limits room) tx key before after ∷ []; changes = kept_of (reverse records) ++ record { lsn = log_len (history_of (kept_of (reverse records))) + 1; tx = tx.0; key = key; before = before; after = after; live = true } ∷ []; room = None }
accept_state r records records_new es es_new begun limits room lsn prev tx key before after made is w pushed lsn_is prev_is txs_is =
    let rs = reverse records in
    let turned : reverse records_new ≡ r ∷ rs = ap reverse pushed ∙ reverse-push records r in
    let r_is : r ≡ update_in (state records es begun limits room) tx key before after = made ∙ (λ i. change_record (lsn_is i) (prev_is i) tx key before after) in
    let len_is : lsn ≡ log_len (history_of (kept_of rs)) + 1 = lsn_is ∙ ap (λ n. n + 1) (sym (log_len_is rs w ∙ length-reverse records)) in
    let changes_are : kept_of (reverse records_new) ≡ kept_of rs ++ record { lsn = log_len (history_of (kept_of rs)) + 1; tx = tx.0; key = key; before = before; after = after; live = true } ∷ [] =
    ap kept_of turned ∙ ap (λ k. kept_by k r (kept_of rs)) is.up ∙ ap (λ c. kept_of rs ++ c ∷ []) is.told ∙ ap (λ (n : ℕ). kept_of rs ++ record { lsn = n; tx = tx.0; key = key; before = before; after = after; live = true } ∷ []) len_is in
    let records_are = pushed ∙ ap (λ x. records ++ x ∷ []) r_is in
    let txs_are = ap (λ xs. txs_of (kept_of xs) es_new) turned ∙ txs_is in
    λ i. record { records = records_are i; changes = changes_are i; txs = txs_are i; begun = begun; limits = limits; room = None }

-- what is kept hangs on the records alone
pub kept_turned : (xs ys : List LogRecord) (txs : Txs) (begun pending gone : ℕ) → xs ≡ ys → IsKept ys txs begun pending gone → IsKept xs txs begun pending gone
kept_turned xs ys txs begun pending gone same kept = subst (λ (zs : List LogRecord). IsKept zs txs begun pending gone) (sym same) kept

-- the state after one change is taken back
pub compensate_state : (r : LogRecord) (records records_new : List LogRecord) (es es_new : List (TxId × OpenTx)) (begun : ℕ) (limits : Bounds) (room : Option (List ℕ)) (lsn prev : ℕ) (tx : TxId) (key : List ℕ) (back : Option (Option (List ℕ))) (undo_next : ℕ) → IsBackOf r lsn prev tx key back undo_next → records_new ≡ records ++ r ∷ [] → r ∷ [] ≡ compensations_in (state records es begun limits room) tx → txs_of (kept_of (r ∷ reverse records)) es_new ≡ txs_of (kept_of (reverse records)) es → state records_new es_new begun limits None ≡ record (state records es begun limits room) { records = records ++ compensations_in (state records es begun limits room) tx; changes = undone tx.0 (kept_of (reverse records)); room = None }
compensate_state r records records_new es es_new begun limits room lsn prev tx key back undo_next is pushed told txs_is =
    let turned : reverse records_new ≡ r ∷ reverse records = ap reverse pushed ∙ reverse-push records r in
    let records_are = pushed ∙ ap (λ xs. records ++ xs) told in
    let changes_are : kept_of (reverse records_new) ≡ undone tx.0 (kept_of (reverse records)) = ap kept_of turned ∙ ap (λ k. kept_by k r (kept_of (reverse records))) is.down ∙ ap (λ v. undone v (kept_of (reverse records))) is.tx_is in
    let txs_are = ap (λ xs. txs_of (kept_of xs) es_new) turned ∙ txs_is in
    λ i. record { records = records_are i; changes = changes_are i; txs = txs_are i; begun = begun; limits = limits; room = None }

-- what the record tells of the change that is taken back
pub told_compensation : (s : LogState) (tx : TxId) (lsn prev : ℕ) (change : LiveChange) (u : LogRecord) → lsn ≡ length s.records + 1 → prev ≡ last_of tx.0 (reverse s.records) → undo_in s tx.0 ≡ Some (noted u) → change_in u ≡ change → record_at s.records (lsn_of u) ≡ Some u → back_record lsn prev tx change.key (option_map (λ _. change.before) change.after) change.prev ∷ [] ≡ compensations_in s tx
told_compensation s tx lsn prev change u lsn_is prev_is undo told found =
    (λ i. back_record (lsn_is i) (prev_is i) tx (sym told i).key (option_map (λ _. (sym told i).before) (sym told i).after) (sym told i).prev ∷ [])
    ∙ ap (λ (o : Option LogRecord). back_record (length s.records + 1) (last_of tx.0 (reverse s.records)) tx (key_of_record u) (back_in u) (prev_in o) ∷ []) (sym found)
    ∙ ap (compensations_of s tx) (sym undo)

-- the room is used up
pub unroomed : (length pending capacity : ℕ) (room_at : Option ℕ) → HasUndoRoom length pending capacity room_at → HasUndoRoom length pending capacity None
unroomed length pending capacity room_at r = record { held = r.held; spare = tt }
