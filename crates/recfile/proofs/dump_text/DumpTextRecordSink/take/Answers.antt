use Rattle.std.proofs.Common.{refl, sym, subst}
use Rattle.std.proofs.lemmas.Result.{err_from_is_err_and}
use Rattle.recfile.specs.Spelled.{IsOfText}
use Rattle.recfile.proofs.SpelledLemmas.{stops_unspelled}
use Rattle.recfile.proofs.dump_text.DumpTextRecordSink.take.Goals as goal

pub returns-in_err-push_line : goal.returns-in_err-push_line
returns-in_err-push_line g c =
    let p = err_from_is_err_and c.from_residual.result c.from_residual.ensures.1 in
    rw p.1 (stops_unspelled c.args.self.now (g.W.Write.contents c.args.out.now) (c.args.key.now, c.args.bytes.now) p.0 (subst IsOfText (sym p.2) refl))
