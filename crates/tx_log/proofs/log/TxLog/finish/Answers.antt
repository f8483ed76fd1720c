use Rattle.std.proofs.Common.{◌≡◌, None, reverse, refl, sym, ap, subst, ◌∙◌}
use Rattle.std.specs.FinMap as maps
use Rattle.tx_log.proofs.EndLemmas.{finished_ends, finished_goes}
use Rattle.tx_log.proofs.OpenTxReadLemmas.{left_stored}
use Rattle.tx_log.proofs.KeptLogLemmas.{open_of_tx, kept_now}
use Rattle.tx_log.proofs.StageLemmas.{IsMove, moved_log, moved_view}
use Rattle.tx_log.proofs.OpenTxLemmas.{found_fits}
use Rattle.tx_log.proofs.PlaceOf.{read_at}
use Rattle.tx_log.specs.Finds.{finding}
use Rattle.tx_log.specs.LogFields.{log_state_of}
use Rattle.tx_log.specs.Log.{kept_of}
use Rattle.tx_log.specs.LogState.{LogState, IsRolling, with_txs, open_in, phase_in, tx_in, history_in, active_with, finished}
use Rattle.tx_log.specs.Transactions.{left_in}
use Rattle.tx_log.specs.declared.open_tx.OpenTx.{OpenTx}
use Rattle.tx_log.proofs.log.TxLog.finish.Goals as goal
use Rattle.tx_log.proofs.EndLemmas.{rolling_open}

pub place_of-at-requires : goal.place_of-at-requires
place_of-at-requires c =
    let l = c.self.inside in
    let t = c.args.tx.0 in
    open_of_tx (kept_of (reverse l.records.items)) l.txs.entries t (ap (λ (s : LogState). open_in s t) c.self.view_is ∙ rolling_open (tx_in c.args.self.now t) c.requires.rolling)

pub close-requires : goal.close-requires
close-requires c = rolling_open (tx_in c.args.self.now c.args.tx.0) c.requires.rolling

-- the entry without its rollback
abbrev active_again : OpenTx → OpenTx
active_again e = record e { rollback = None }

pub invariant_of-self : goal.invariant_of-self
invariant_of-self c =
    let l = c.self.inside in
    let rs = reverse l.records.items in
    let t = c.args.tx.0 in
    let e = c.index_mut-open_tx.result.now in
    let found = read_at l.txs t c.place_of-at.result e c.place_of-at.ensures.stands c.index_mut-open_tx.ensures.value in
    let fits = found_fits rs l.begun t (finding l.txs.entries) e c.self.invariant.log_kept.fit found in
    let w = active_again e in
    let nothing : e.left ≡ 0 = left_stored rs l.txs.entries l.begun l.pending l.gone t e c.self.invariant.log_kept found ∙ ap (λ (s : LogState). left_in (history_in s) t (tx_in s t)) c.self.view_is ∙ c.requires.done in
    let move : IsMove rs t None e.left (e.saves.items) = record { remaining = nothing; saves = fits.saves; depth = fits.depth; rollback = tt } in
    moved_log l t c.place_of-at.result e w None e.left (e.saves.items) c.self.invariant found c.place_of-at.ensures.stands refl move

pub returns-then-is_ending-clause-after : goal.returns-then-is_ending-clause-after
returns-then-is_ending-clause-after c =
    let l = c.self.inside in
    let t = c.args.tx.0 in
    let e = c.index.result.now in
    let found = read_at l.txs t c.place_of-at.result e c.place_of-at.ensures.stands c.index.ensures in
    let rolling = subst (λ (s : LogState). IsRolling (phase_in s t)) (sym c.self.view_is) c.requires.rolling in
    let ends = sym c.is_ending.ensures ∙ c.if-is_ending.true in
    let gone : finished c.args.self.now.txs t (tx_in c.args.self.now t) ≡ maps.remove c.args.self.now.txs t =
    subst (λ (s : LogState). finished s.txs t (tx_in s t) ≡ maps.remove s.txs t) c.self.view_is
    (finished_ends (kept_of (reverse l.records.items)) l.txs.entries t e found rolling ends) in
    c.close.ensures.after ∙ ap (with_txs c.args.self.now) (sym gone)

pub returns-clause-after : goal.returns-clause-after
returns-clause-after c =
    let l = c.self.inside in
    let t = c.args.tx.0 in
    let e = c.index_mut-open_tx.result.now in
    let d = c.index.result.now in
    let found = read_at l.txs t c.place_of-at.result e c.place_of-at.ensures.stands c.index_mut-open_tx.ensures.value in
    let read = read_at l.txs t c.place_of-at.result d c.place_of-at.ensures.stands c.index.ensures in
    let rolling = subst (λ (s : LogState). IsRolling (phase_in s t)) (sym c.self.view_is) c.requires.rolling in
    let goes = sym c.is_ending.ensures ∙ c.if-is_ending.false in
    moved_view l t c.place_of-at.result e (active_again e) None e.left e.saves.items (λ s ps. active_with ps) found c.place_of-at.ensures.stands refl refl _ refl
    ∙ ap (with_txs (log_state_of l)) (sym (finished_goes (kept_of (reverse l.records.items)) l.txs.entries t d read rolling goes))
    ∙ ap (λ (s : LogState). with_txs s (finished s.txs t (tx_in s t))) c.self.view_is

pub returns-clause-kept : goal.returns-clause-kept
returns-clause-kept c = kept_now c.self.inside c.self.invariant _ c.self.view_is
