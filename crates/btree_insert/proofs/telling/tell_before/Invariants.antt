use Rattle.std.proofs.Common.{◌≡◌, ◌≤◌, take, reverse}
use Rattle.btree_node.specs.Reading.{count_at}
use Rattle.btree_node.specs.Spelling.{spelling, CanStand}
use Rattle.btree_node.specs.declared.node.Node.{Node}
use Rattle.btree_insert.proofs.TellingLemmas.{ToldTo}
use Rattle.btree_insert.proofs.telling.tell_before.Given as goal

-- those from here on were told
abbrev pub invariant-loop-at : goal.invariant-loop-at
invariant-loop-at g l = record {
  within : l.at ≤ count_at l.page;
  told : (m : Node) → CanStand m l.order → l.page ≡ spelling m l.order → ToldTo (λ xs. g.K.RecordSink.told l.initial.sink l.initial.out xs l.sink l.out) (reverse (take l.gap m.elements.items)) (reverse (take l.at m.elements.items));
}

abbrev pub decreases-loop-at : goal.decreases-loop-at
decreases-loop-at g l = l.at
