use Rattle.std.proofs.Common.{ℕ, Result, Err, MatchResult, sym, ap, subst, ◌∙◌}
use Rattle.std.proofs.lemmas.Result.{err_from_is_err_and}
use Rattle.command_text.specs.Script.{lines_of}
use Rattle.record_file.specs.Runs.{seen_as}
use Rattle.recfile.specs.declared.script.RunFault.{RunFault}
use Rattle.recfile.specs.Shell.{StopsAtLine}
use Rattle.recfile.proofs.ShellLemmas.{AllAnswered, stops_last, answered_last, answered_none}
use Rattle.recfile.proofs.shell.answer_last.Goals as goal

pub returns-then-is_new-clause-answered : goal.returns-then-is_new-clause-answered
returns-then-is_new-clause-answered g c held old taken so_far = answered_none c.args.strict held (g.W.CountedWrite.held c.args.writer.now) old (seen_as g.K.Keeper.keeps g.T.TableState c.args.file.now) taken c.args.part.now c.args.counts c.is_new.result so_far c.is_new.ensures.some c.if-is_new.true

pub returns-in_err-answer_line-clause-answered : goal.returns-in_err-answer_line-clause-answered
returns-in_err-answer_line-clause-answered g c held old taken so_far =
    let told = err_from_is_err_and c.from_residual.result c.from_residual.ensures.1 in
    subst (λ (r : Result ℕ RunFault). MatchResult r (AllAnswered c.args.strict held (g.W.CountedWrite.held c.answer_line.new.writer) old taken (seen_as g.K.Keeper.keeps g.T.TableState c.answer_line.new.file)) (StopsAtLine c.args.strict held (g.W.CountedWrite.held c.answer_line.new.writer) old (seen_as g.K.Keeper.keeps g.T.TableState c.answer_line.new.file) (lines_of taken))) (sym (told.1 ∙ ap Err told.2))
    (stops_last c.args.strict held (g.W.CountedWrite.held c.args.writer.now) (g.W.CountedWrite.held c.answer_line.new.writer) old _ _ taken c.args.part.now c.args.counts c.answer_line.new.counts c.end-said.result c.in_err-answer_line.field-0.0 c.is_new.result so_far c.is_new.ensures.some c.if-is_new.false c.end-said.ensures.said c.in_err-answer_line.ensures.stops c.answer_line.ensures.done c.answer_line.ensures.lines)

pub returns-clause-answered : goal.returns-clause-answered
returns-clause-answered g c held old taken so_far = answered_last c.args.strict held (g.W.CountedWrite.held c.args.writer.now) (g.W.CountedWrite.held c.answer_line.new.writer) old _ _ taken c.args.part.now c.args.counts c.answer_line.new.counts c.end-said.result c.is_new.result so_far c.is_new.ensures.some c.if-is_new.false c.end-said.ensures.said c.in_ok-answer_line.ensures.answered c.answer_line.ensures.done
