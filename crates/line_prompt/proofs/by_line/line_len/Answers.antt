use Rattle.line_prompt.proofs.LineLemmas.{through_some, through_all}
use Rattle.line_prompt.proofs.by_line.line_len.Goals as goal

pub returns-in-Some-clause-line : goal.returns-in-Some-clause-line
returns-in-Some-clause-line c = through_some c.args.bytes.now c.in-Some.at c.in-Some.ensures

pub returns-in-None-clause-line : goal.returns-in-None-clause-line
returns-in-None-clause-line c = through_all c.args.bytes.now c.in-None.ensures
