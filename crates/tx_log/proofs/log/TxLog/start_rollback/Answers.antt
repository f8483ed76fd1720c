use Rattle.std.proofs.Common.{rules, ◌≡◌, Option, Some, ℕ, ◌≤◌, length, take, reverse, sym, ap, subst, ◌∙◌}
use Rattle.tx_log.proofs.KeptLogLemmas.{active_open, kept_now, sized, some_of}
use Rattle.tx_log.proofs.StageLemmas.{IsMove, moved_tx, moved_log, moved_view, up_to_take, up_to_place, rolling_is, short_take}
use Rattle.tx_log.proofs.PlaceOf.{read_at}
use Rattle.tx_log.proofs.OpenTxLemmas.{found_fits}
use Rattle.tx_log.proofs.OpenTxReadLemmas.{depth_is, entry_chain}
use Rattle.tx_log.specs.Finds.{finding}
use Rattle.tx_log.specs.Log.{kept_of, stack}
use Rattle.tx_log.specs.LogState.{LogState, tx_in, rolling_to}
use Rattle.tx_log.specs.Transactions.{depth_of, place_of_savepoint}
use Rattle.std.specs.List.{filter}
use Rattle.std.proofs.lemmas.List.{length-reverse}
use Rattle.tx_log.specs.Walks.{is_after}
use Rattle.tx_log.specs.declared.phase.Rollback.{Rollback}
use Rattle.tx_log.specs.declared.open_tx.OpenTx.{OpenTx}
use Rattle.tx_log.proofs.log.TxLog.start_rollback.Goals as goal

pub place_of-at-requires : goal.place_of-at-requires
place_of-at-requires c = active_open c.self.inside _ c.args.tx.0 c.self.view_is c.requires.active

pub save_at-to-requires : goal.save_at-to-requires
save_at-to-requires c =
    let l = c.self.inside in
    let t = c.args.tx.0 in
    let e = c.index.result.now in
    let found = read_at l.txs t c.place_of-at.result e c.place_of-at.ensures.stands c.index.ensures in
    subst (λ (n : ℕ). c.args.n ≤ n) (ap (λ (s : LogState). depth_of (tx_in s t)) (sym c.self.view_is) ∙ depth_is (kept_of (reverse l.records.items)) l.txs.entries t e found) c.requires.within

pub count_changes-left-requires-clause-walk : goal.count_changes-left-requires-clause-walk
count_changes-left-requires-clause-walk c =
    let l = c.self.inside in
    let t = c.args.tx.0 in
    let e = c.index-open_tx.result.now in
    let found = read_at l.txs t c.place_of-at.result e c.place_of-at.ensures.stands c.index-open_tx.ensures in
    let size = sized (reverse l.records.items) l.txs.entries l.begun l.pending l.gone t e c.self.invariant.log_kept found in record {
      numbered = search rules;
      marked = search rules;
      within = subst (λ (n : ℕ). e.last ≤ n) (length-reverse l.records.items) size.last;
    }

pub count_changes-left-requires-clause-live : goal.count_changes-left-requires-clause-live
count_changes-left-requires-clause-live c =
    let l = c.self.inside in
    let t = c.args.tx.0 in
    let e = c.index-open_tx.result.now in
    let found = read_at l.txs t c.place_of-at.result e c.place_of-at.ensures.stands c.index-open_tx.ensures in
    (found_fits (reverse l.records.items) l.begun t (finding l.txs.entries) e c.self.invariant.log_kept.fit found).live
    ∙ ap length (sym (entry_chain (reverse l.records.items) l.txs.entries l.begun l.pending l.gone t e c.self.invariant.log_kept found))

-- the transaction's entry, where the rollback goes back to, and what it is to take back
module _ (c : goal.After-self-2-1) where
  entry : finding c.self.inside.txs.entries c.args.tx.0 ≡ Some c.index_mut-open_tx.result.now
  entry = read_at c.self.inside.txs c.args.tx.0 c.place_of-at.result c.index_mut-open_tx.result.now c.place_of-at.ensures.stands c.index_mut-open_tx.ensures.value

  to_is : c.save_at-to.result ≡ place_of_savepoint c.index_mut-open_tx.result.now.saves.items c.args.n
  to_is =
      let l = c.self.inside in
      let t = c.args.tx.0 in
      let e = c.index_mut-open_tx.result.now in
      let d = c.index.result.now in
      let other = read_at l.txs t c.place_of-at.result d c.place_of-at.ensures.stands c.index.ensures in
      c.save_at-to.ensures ∙ ap (λ (x : OpenTx). place_of_savepoint x.saves.items c.args.n) (some_of d e (sym other ∙ entry))

  left_is : c.count_changes-left.result ≡ length (filter (is_after c.save_at-to.result) (stack c.args.tx.0 (reverse c.self.inside.records.items)))
  left_is =
      let l = c.self.inside in
      let t = c.args.tx.0 in
      let e = c.index-open_tx.result.now in
      let found = read_at l.txs t c.place_of-at.result e c.place_of-at.ensures.stands c.index-open_tx.ensures in
      c.count_changes-left.ensures
      ∙ ap (λ us. length (filter (is_after c.save_at-to.result) us)) (entry_chain (reverse l.records.items) l.txs.entries l.begun l.pending l.gone t e c.self.invariant.log_kept found)

pub invariant_of-self : goal.invariant_of-self
invariant_of-self c =
    let l = c.self.inside in
    let rs = reverse l.records.items in
    let t = c.args.tx.0 in
    let e = c.index_mut-open_tx.result.now in
    let fits = found_fits rs l.begun t (finding l.txs.entries) e c.self.invariant.log_kept.fit (entry c) in
    let w = c.turn_back.new.self in
    let rollback : Option Rollback = Some (record { to = c.save_at-to.result; ends = c.args.ends }) in
    let move : IsMove rs t rollback c.count_changes-left.result (take c.args.n e.saves.items) = record { remaining = left_is c; saves = up_to_take c.args.n (length rs) e.saves.items fits.saves; depth = short_take c.args.n 32 e.saves.items fits.depth; rollback = subst (λ (k : ℕ). k ≤ length rs) (sym (to_is c)) (up_to_place (length rs) e.saves.items c.args.n fits.saves) } in
    moved_log l t c.place_of-at.result e w rollback c.count_changes-left.result (take c.args.n e.saves.items) c.self.invariant (entry c) c.place_of-at.ensures.stands c.turn_back.ensures move

pub returns-clause-after : goal.returns-clause-after
returns-clause-after c =
    let l = c.self.inside in
    let rs = reverse l.records.items in
    let t = c.args.tx.0 in
    let e = c.index_mut-open_tx.result.now in
    let w = c.turn_back.new.self in
    let there = ap (λ k. moved_tx (kept_of rs) t (Some (record { to = k; ends = c.args.ends })) (take c.args.n e.saves.items)) (to_is c) in
    moved_view l t c.place_of-at.result e w (Some (record { to = c.save_at-to.result; ends = c.args.ends })) c.count_changes-left.result (take c.args.n e.saves.items) (λ s ps. rolling_to ps c.args.n c.args.ends) (entry c) c.place_of-at.ensures.stands c.turn_back.ensures (there ∙ rolling_is rs t c.args.n c.args.ends e.saves.items c.self.invariant.log_kept.numbered) _ c.self.view_is

pub returns-clause-kept : goal.returns-clause-kept
returns-clause-kept c = kept_now c.self.inside c.self.invariant _ c.self.view_is
