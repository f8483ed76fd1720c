use Rattle.std.proofs.Common.{not, refl, ap, sym, subst, ◌∙◌}
use Rattle.std.proofs.lemmas.Result.{err_from_is_err_and}
use Rattle.recfile.specs.Spelled.{IsOfText}
use Rattle.recfile.proofs.SpelledLemmas.{foot_in_part}
use Rattle.recfile.proofs.dump_text.DumpText.end.Goals as goal

pub returns-in_err-extend_from_slice-clause-stops : goal.returns-in_err-extend_from_slice-clause-stops
returns-in_err-extend_from_slice-clause-stops g c =
    let p = err_from_is_err_and c.from_residual.result c.from_residual.ensures.1 in
    rw p.1 (subst IsOfText (sym p.2) refl, foot_in_part c.args.self.now.form (g.W.Write.contents c.args.out.now) c.args.self.now.waiting.items (c.is_none.ensures ∙ ap not c.if-is_none.true))
