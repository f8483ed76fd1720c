use Rattle.std.proofs.Common.{◌-◌, length}
use Rattle.std.specs.Io.KnownBytes.{Keeps, prepend_known}
use Rattle.line_prompt.proofs.by_line.Kept.fill.Given as goal

-- what is kept and what is left below are all that there was
abbrev pub invariant-loop-self : goal.invariant-loop-self
invariant-loop-self g l = Keeps (prepend_known l.fn.self (g.R.Read.remaining l.fn.lines)) (prepend_known l.self (g.R.Read.remaining l.lines))

abbrev pub decreases-loop-self : goal.decreases-loop-self
decreases-loop-self g l = 4096 - length l.self
