use Rattle.std.proofs.Common.{rules, ◌≡◌, ℕ, ◌≤◌, List, map, reverse, option_map, sym, ap, subst, ◌∙◌}
use Rattle.std.specs.List.{filter}
use Rattle.std.proofs.lemmas.List.{length-reverse}
use Rattle.tx_log.proofs.KeptLogLemmas.{sized}
use Rattle.tx_log.proofs.OpenTxReadLemmas.{entry_chain, undo_is, undo_none, undo_case, tx_none}
use Rattle.tx_log.proofs.Lives.{first}
use Rattle.tx_log.specs.Log.{kept_of, chain, noted}
use Rattle.tx_log.specs.LogState.{LogState, undo_in, undo_of, undo_step}
use Rattle.tx_log.specs.Walks.{is_after}
use Rattle.tx_log.specs.declared.log_record.LogRecord.{LogRecord}
use Rattle.tx_log.proofs.log.TxLog.next_undo.Goals as goal
use Rattle.tx_log.proofs.log.TxLog.next_undo.Goals.{In-Some-rollback}

-- the transaction's live changes that the rollback is to take back, read from its chain
module _ (c : In-Some-rollback) where
  abbrev above : List LogRecord
  above = filter (is_after c.in-Some-rollback.rollback.to) (chain (reverse c.self.inside.records.items) c.in-Some.open_tx.now.last)

  answer_is : option_map undo_step (first (map noted above)) ≡ option_map undo_step (undo_in c.args.self.now c.args.tx.0)
  answer_is =
      let l = c.self.inside in
      let t = c.args.tx.0 in
      let e = c.in-Some.open_tx.now in
      let found = sym c.in-Some.ensures in
      ap (λ us. option_map undo_step (first (map noted (filter (is_after c.in-Some-rollback.rollback.to) us)))) (entry_chain (reverse l.records.items) l.txs.entries l.begun l.pending l.gone t e c.self.invariant.log_kept found)
      ∙ ap (option_map undo_step) (sym (undo_is (reverse l.records.items) l.txs.entries l.begun l.pending l.gone t c.in-Some-rollback.rollback e c.self.invariant.log_kept found c.in-Some-rollback.is))
      ∙ ap (λ (s : LogState). option_map undo_step (undo_in s t)) c.self.view_is

pub returns-in_default : goal.returns-in_default
returns-in_default c =
    let l = c.self.inside in
    let t = c.args.tx.0 in
    let cs = kept_of (reverse l.records.items) in
    let none = sym c.in_default.ensures in
    sym (ap (λ o. option_map undo_step (undo_of cs t o)) (tx_none cs l.txs.entries t none)) ∙ ap (λ (s : LogState). option_map undo_step (undo_in s t)) c.self.view_is

pub newest_above-requires : goal.newest_above-requires
newest_above-requires c =
    let l = c.self.inside in
    let t = c.args.tx.0 in
    let found = sym c.in-Some.ensures in
    let size = sized (reverse l.records.items) l.txs.entries l.begun l.pending l.gone t c.in-Some.open_tx.now c.self.invariant.log_kept found in record {
      numbered = search rules;
      marked = search rules;
      within = subst (λ (n : ℕ). c.in-Some.open_tx.now.last ≤ n) (length-reverse l.records.items) size.last;
    }

pub returns-in_default-rollback : goal.returns-in_default-rollback
returns-in_default-rollback c =
    let l = c.self.inside in
    let t = c.args.tx.0 in
    let found = sym c.in-Some.ensures in
    sym (ap (option_map undo_step) (undo_none (kept_of (reverse l.records.items)) l.txs.entries t c.in-Some.open_tx.now found c.in_default-rollback.is)) ∙ ap (λ (s : LogState). option_map undo_step (undo_in s t)) c.self.view_is

pub returns : goal.returns
returns c =
    let place = (goal.at.returns c).In-Some-rollback in
    c.newest_above.ensures ∙ undo_case (above place) ∙ answer_is place
