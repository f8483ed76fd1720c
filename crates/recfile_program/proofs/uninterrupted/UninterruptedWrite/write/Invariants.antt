use Rattle.std.specs.Io.KnownBytes.{Keeps}
use Rattle.recfile_program.proofs.uninterrupted.UninterruptedWrite.write.Given as goal

-- only calls that failed were made
abbrev pub invariant-loop : goal.invariant-loop
invariant-loop g l = Keeps (g.S.Write.contents l.fn.self.stream) (g.S.Write.contents l.self.stream)
