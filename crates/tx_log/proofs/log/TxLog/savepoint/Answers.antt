use Rattle.std.proofs.Common.{Some, ◌≡◌, ℕ, ◌+◌, ◌<◌, ◌≤◌, ◌∷◌, [], ◌++◌, None, length, reverse, sym, ap, subst, ◌∙◌, arith, length-append}
use Rattle.rec_types.specs.History.{own_count}
use Rattle.tx_log.proofs.Chains.{last_of-le}
use Rattle.tx_log.proofs.KeptLogLemmas.{active_open, active_calm, kept_now}
use Rattle.tx_log.proofs.StageLemmas.{moved, IsMove, moved_log, moved_view, up_to_push, saved_is}
use Rattle.tx_log.proofs.PlaceOf.{read_at}
use Rattle.tx_log.proofs.OpenTxLemmas.{found_fits}
use Rattle.tx_log.proofs.OpenTxReadLemmas.{depth_is}
use Rattle.tx_log.specs.Finds.{finding}
use Rattle.tx_log.specs.Fits.{left_above}
use Rattle.tx_log.specs.Log.{stack, kept_of}
use Rattle.tx_log.specs.LogState.{LogState, tx_in, history_in, active_with}
use Rattle.tx_log.specs.Transactions.{depth_of, most_savepoints}
use Rattle.tx_log.proofs.log.TxLog.savepoint.Goals as goal

-- the transaction's entry, and what it becomes
module _ (c : goal.After-self-2-1) where
  entry : finding c.self.inside.txs.entries c.args.tx.0 ≡ Some c.index_mut-open_tx.result.now
  entry = read_at c.self.inside.txs c.args.tx.0 c.place_of-at.result c.index_mut-open_tx.result.now c.place_of-at.ensures.stands c.index_mut-open_tx.ensures.value

  calm : c.index_mut-open_tx.result.now.rollback ≡ None
  calm = active_calm c.self.inside _ c.args.tx.0 c.index_mut-open_tx.result.now c.self.view_is c.requires.active entry

  new_is : c.save.new.self ≡ (let e = c.index_mut-open_tx.result.now in moved e None e.left (e.saves.items ++ e.last ∷ []))
  new_is = c.save.ensures ∙ ap (λ s. let e = c.index_mut-open_tx.result.now in moved e s e.left (e.saves.items ++ e.last ∷ [])) calm

pub place_of-at-requires : goal.place_of-at-requires
place_of-at-requires c = active_open c.self.inside _ c.args.tx.0 c.self.view_is c.requires.active

pub save-requires : goal.save-requires
save-requires c =
    let l = c.self.inside in
    let rs = reverse l.records.items in
    let t = c.args.tx.0 in
    let e = c.index_mut-open_tx.result.now in
    let found = read_at l.txs t c.place_of-at.result e c.place_of-at.ensures.stands c.index_mut-open_tx.ensures.value in
    subst (λ (n : ℕ). n < most_savepoints) (ap (λ (s : LogState). depth_of (tx_in s t)) (sym c.self.view_is) ∙ depth_is (kept_of rs) l.txs.entries t e found) c.requires.room

pub returns-clause-number : goal.returns-clause-number
returns-clause-number c =
    let l = c.self.inside in
    let t = c.args.tx.0 in
    let e = c.index.result.now in
    let found = read_at l.txs t c.place_of-at.result e c.place_of-at.ensures.stands c.index.ensures in
    ap (λ n. n + 1) (c.len.ensures.value ∙ sym (depth_is (kept_of (reverse l.records.items)) l.txs.entries t e found) ∙ ap (λ (s : LogState). depth_of (tx_in s t)) c.self.view_is)

pub invariant_of-self : goal.invariant_of-self
invariant_of-self c =
    let l = c.self.inside in
    let rs = reverse l.records.items in
    let t = c.args.tx.0 in
    let e = c.index_mut-open_tx.result.now in
    let fits = found_fits rs l.begun t (finding l.txs.entries) e c.self.invariant.log_kept.fit (entry c) in
    let w = c.save.new.self in
    let last_low : e.last ≤ length rs = (let at = fits.last in omega (arith, last_of-le rs t c.self.invariant.log_kept.numbered)) in
    let depth_now : length e.saves.items < most_savepoints = subst (λ (n : ℕ). n < most_savepoints) (ap (λ (s : LogState). depth_of (tx_in s t)) (sym c.self.view_is) ∙ depth_is (kept_of rs) l.txs.entries t e (entry c)) c.requires.room in
    let longer : length (e.saves.items ++ e.last ∷ []) ≤ most_savepoints = omega (arith, length-append e.saves.items (e.last ∷ [])) in
    let move : IsMove rs t None e.left (e.saves.items ++ e.last ∷ []) = record { remaining = fits.left ∙ ap (left_above (stack t rs)) (calm c); saves = up_to_push (length rs) e.saves.items e.last last_low fits.saves; depth = longer; rollback = tt } in
    moved_log l t c.place_of-at.result e w None e.left (e.saves.items ++ e.last ∷ []) c.self.invariant (entry c) c.place_of-at.ensures.stands (new_is c) move

pub returns-clause-after : goal.returns-clause-after
returns-clause-after c =
    let l = c.self.inside in
    let rs = reverse l.records.items in
    let t = c.args.tx.0 in
    let e = c.index_mut-open_tx.result.now in
    let fits = found_fits rs l.begun t (finding l.txs.entries) e c.self.invariant.log_kept.fit (entry c) in
    let w = c.save.new.self in
    moved_view l t c.place_of-at.result e w None e.left (e.saves.items ++ e.last ∷ []) (λ s ps. active_with (ps ++ own_count (history_in s) t ∷ [])) (entry c) c.place_of-at.ensures.stands (new_is c) (saved_is rs t e.last e.saves.items c.self.invariant.log_kept.numbered fits.last) _ c.self.view_is

pub returns-clause-kept : goal.returns-clause-kept
returns-clause-kept c = kept_now c.self.inside c.self.invariant _ c.self.view_is
