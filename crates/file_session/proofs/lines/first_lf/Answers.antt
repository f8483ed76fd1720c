use Rattle.file_session.proofs.ScriptCutLemmas.{first_found}
use Rattle.file_session.proofs.lines.first_lf.Goals as goal

pub returns : goal.returns
returns c = first_found c.args.text.now c.memchr.result c.memchr.ensures
