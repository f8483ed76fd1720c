use Rattle.std.proofs.Common.{arith, subst}
use Rattle.std.proofs.lemmas.Grind.{common_steps}
use Rattle.std.proofs.lemmas.List.Elements.{All-more}
use Rattle.command_text.specs.Units.{CanBeWritten}
use Rattle.command_text.proofs.unit.push_writes.Goals as goal

pub loop-write-preserved : goal.loop-write-preserved
loop-write-preserved c = record {
  text = grind (arith, common_steps);
  can = All-more CanBeWritten c.args.writes.now c.loop-write.write-index c.write-item.result c.loop-write-test.true c.loop-write.invariant.can (subst CanBeWritten c.write-item.is c.in_ok-push_write.ensures.can);
}
