use Rattle.std.proofs.Common.{length, subst, sym}
use Rattle.line_prompt.specs.ByLine.{IsWithinOneLine}
use Rattle.line_prompt.proofs.LineLemmas.{IsWithinOneLine-through}
use Rattle.line_prompt.proofs.by_line.ByLine.read_line.Goals as goal

pub returns-clause-one_line : goal.returns-clause-one_line
returns-clause-one_line g c by_line =
    subst IsWithinOneLine (sym (c.give.ensures.line by_line)) (IsWithinOneLine-through c.fill.new.self (length c.give.new.to))
