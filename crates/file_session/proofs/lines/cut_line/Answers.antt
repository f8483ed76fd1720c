use Rattle.std.proofs.Common.{sym}
use Rattle.file_session.proofs.ScriptCutLemmas.{cut_at, no_cut}
use Rattle.file_session.proofs.lines.cut_line.Goals as goal

pub returns-in-Some : goal.returns-in-Some
returns-in-Some c = cut_at c.args.text.now c.in-Some.at (sym c.in-Some.ensures)

pub returns-in-None : goal.returns-in-None
returns-in-None c = no_cut c.args.text.now (sym c.in-None.ensures)
