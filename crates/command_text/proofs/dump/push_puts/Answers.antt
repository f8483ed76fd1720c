use Rattle.std.proofs.Common.{ℕ, List, ap, arith, subst, ◌∙◌}
use Rattle.std.proofs.lemmas.Grind.{common_steps}
use Rattle.std.proofs.lemmas.List.Elements.{All-more}
use Rattle.command_text.specs.Dump.{CanBePut}
use Rattle.command_text.proofs.dump.push_puts.Goals as goal

pub loop-entry-preserved : goal.loop-entry-preserved
loop-entry-preserved c = record {
  text = grind (arith, common_steps);
  puts = All-more CanBePut c.args.records.now c.loop-entry.entry-index c.entry-item.result c.loop-entry-test.true c.loop-entry.invariant.puts (subst CanBePut (ap (λ (r : List ℕ). let e : List ℕ × List ℕ = (c.entry-item.result.0, r) in e) c.bytes.ensures.value ∙ c.entry-item.is) c.in_ok-push_put.ensures.put);
}
