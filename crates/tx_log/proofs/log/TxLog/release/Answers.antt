use Rattle.std.proofs.Common.{Some, ◌≡◌, ◌-◌, None, length, take, reverse, ap, ◌∙◌}
use Rattle.tx_log.proofs.KeptLogLemmas.{active_open, active_calm, kept_now}
use Rattle.tx_log.proofs.StageLemmas.{moved, IsMove, moved_log, moved_view, up_to_take, kept_saves, short_take}
use Rattle.tx_log.proofs.PlaceOf.{read_at}
use Rattle.tx_log.proofs.OpenTxLemmas.{found_fits}
use Rattle.tx_log.specs.Finds.{finding}
use Rattle.tx_log.specs.Fits.{left_above}
use Rattle.tx_log.specs.Log.{stack}
use Rattle.tx_log.specs.LogState.{active_with}
use Rattle.tx_log.proofs.log.TxLog.release.Goals as goal

-- the transaction's entry, and what it becomes
module _ (c : goal.After-self-2-1) where
  entry : finding c.self.inside.txs.entries c.args.tx.0 ≡ Some c.index_mut-open_tx.result.now
  entry = read_at c.self.inside.txs c.args.tx.0 c.place_of-at.result c.index_mut-open_tx.result.now c.place_of-at.ensures.stands c.index_mut-open_tx.ensures.value

  calm : c.index_mut-open_tx.result.now.rollback ≡ None
  calm = active_calm c.self.inside _ c.args.tx.0 c.index_mut-open_tx.result.now c.self.view_is c.requires.active entry

  new_is : c.keep_saves.new.self ≡ (let e = c.index_mut-open_tx.result.now in moved e None e.left (take (c.args.n - 1) e.saves.items))
  new_is = c.keep_saves.ensures ∙ ap (λ s. let e = c.index_mut-open_tx.result.now in moved e s e.left (take (c.args.n - 1) e.saves.items)) calm

pub place_of-at-requires : goal.place_of-at-requires
place_of-at-requires c = active_open c.self.inside _ c.args.tx.0 c.self.view_is c.requires.active

pub invariant_of-self : goal.invariant_of-self
invariant_of-self c =
    let l = c.self.inside in
    let rs = reverse l.records.items in
    let t = c.args.tx.0 in
    let e = c.index_mut-open_tx.result.now in
    let fits = found_fits rs l.begun t (finding l.txs.entries) e c.self.invariant.log_kept.fit (entry c) in
    let w = c.keep_saves.new.self in
    let move : IsMove rs t None e.left (take (c.args.n - 1) e.saves.items) = record { remaining = fits.left ∙ ap (left_above (stack t rs)) (calm c); saves = up_to_take (c.args.n - 1) (length rs) e.saves.items fits.saves; depth = short_take (c.args.n - 1) 32 e.saves.items fits.depth; rollback = tt } in
    moved_log l t c.place_of-at.result e w None e.left (take (c.args.n - 1) e.saves.items) c.self.invariant (entry c) c.place_of-at.ensures.stands (new_is c) move

pub returns-clause-after : goal.returns-clause-after
returns-clause-after c =
    let l = c.self.inside in
    let rs = reverse l.records.items in
    let t = c.args.tx.0 in
    let e = c.index_mut-open_tx.result.now in
    let w = c.keep_saves.new.self in
    moved_view l t c.place_of-at.result e w None e.left (take (c.args.n - 1) e.saves.items) (λ s ps. active_with (take (c.args.n - 1) ps)) (entry c) c.place_of-at.ensures.stands (new_is c) (kept_saves rs t (c.args.n - 1) e.saves.items) _ c.self.view_is

pub returns-clause-kept : goal.returns-clause-kept
returns-clause-kept c = kept_now c.self.inside c.self.invariant _ c.self.view_is
