use Rattle.std.proofs.Common.{reverse, refl, sym, ap, ◌∙◌, arith}
use Rattle.std.proofs.lemmas.List.{length-reverse}
use Rattle.std.specs.FinMap as maps
use Rattle.tx_log.specs.LogState.{LogState}
use Rattle.tx_log.specs.LogFields.{log_state_of}
use Rattle.tx_log.specs.Log.{kept_of}
use Rattle.tx_log.proofs.KeptLogLemmas.{is_log}
use Rattle.tx_log.proofs.OpenCount.{len-txs_of, len-begun}
use Rattle.tx_log.proofs.log.TxLog.open_count.Goals as goal

pub returns : goal.returns
returns c =
    let l = c.self.inside in
    let rs = reverse l.records.items in
    omega (arith, c.len.ensures.len, sym (len-txs_of (kept_of rs) l.txs.entries c.len.ensures.unique) ∙ ap (λ (s : LogState). maps.len s.txs) c.self.view_is)

pub overflow_cast-result : goal.overflow_cast-result
overflow_cast-result c =
    let l = c.self.inside in
    let rs = reverse l.records.items in
    let counted = len-txs_of (kept_of rs) l.txs.entries c.len.ensures.unique in
    let few = len-begun (log_state_of l) (is_log (log_state_of l) rs l.txs.entries l.pending l.gone c.self.invariant.log_kept (omega (arith, c.self.invariant.bounded.fits, length-reverse l.records.items)) c.self.invariant.bounded.within refl refl) in
    omega (arith, c.len.ensures.len, counted, few, c.self.invariant.bounded.within, c.self.invariant.bounded.most_begins)
