use Rattle.std.proofs.Common.{ap, sym, ◌∙◌}
use Rattle.std.specs.Ordering.{is_eq, nat_cmp}
use Rattle.std.specs.Cmp.{unsigned_ties}
use Rattle.std.specs.Cmp.Lexicographic.{lists_ties}
use Rattle.rec_types.proofs.key.KeyPartialEq.eq.Goals as goal

-- keys are equal where neither is below the other
pub returns : goal.returns
returns c = c.is_eq.ensures ∙ ap is_eq c.cmp.ensures ∙ sym (lists_ties nat_cmp unsigned_ties c.args.self.now c.args.other.now)
