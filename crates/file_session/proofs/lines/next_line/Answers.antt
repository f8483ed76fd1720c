use Rattle.std.proofs.Common.{sym}
use Rattle.file_session.proofs.ScriptCutLemmas.{lines_cut, lines_whole}
use Rattle.file_session.proofs.lines.next_line.Goals as goal

pub returns-in-Some-clause-cut : goal.returns-in-Some-clause-cut
returns-in-Some-clause-cut c = lines_cut c.args.text.now c.in-Some.at (sym c.in-Some.ensures)

pub returns-in-None-clause-cut : goal.returns-in-None-clause-cut
returns-in-None-clause-cut c = lines_whole c.args.text.now c.requires (sym c.in-None.ensures)
