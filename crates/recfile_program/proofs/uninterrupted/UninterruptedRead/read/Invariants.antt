use Rattle.std.specs.Io.KnownBytes.{Keeps}
use Rattle.recfile_program.proofs.uninterrupted.UninterruptedRead.read.Given as goal

-- only calls that failed were made
abbrev pub invariant-loop : goal.invariant-loop
invariant-loop g l = Keeps (g.S.Read.remaining l.fn.self.stream) (g.S.Read.remaining l.self.stream)
