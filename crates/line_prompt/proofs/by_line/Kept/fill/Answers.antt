use Rattle.line_prompt.proofs.LineLemmas.{KeepsFirstLine-end}
use Rattle.line_prompt.proofs.by_line.Kept.fill.Goals as goal

pub returns-then-not-branch-clause-line : goal.returns-then-not-branch-clause-line
returns-then-not-branch-clause-line g c line =
    KeepsFirstLine-end c.read_more.new.self (g.R.Read.remaining c.read_more.new.lines) c.read_more.ensures.room (c.in_ok-read_more.ensures.end c.if-not-branch.true)
