use Rattle.std.proofs.Common.{◌≡◌, ◌≤◌, ◌-◌, drop}
use Rattle.btree_node.specs.Reading.{count_at}
use Rattle.btree_node.specs.Spelling.{spelling, CanStand}
use Rattle.btree_node.specs.declared.node.Node.{Node}
use Rattle.btree_insert.proofs.TellingLemmas.{ToldTo}
use Rattle.btree_insert.proofs.telling.tell_behind.Given as goal

-- those up to here were told
abbrev pub invariant-loop-at : goal.invariant-loop-at
invariant-loop-at g l = record {
  within : l.at ≤ count_at l.page;
  told : (m : Node) → CanStand m l.order → l.page ≡ spelling m l.order → ToldTo (λ xs. g.K.RecordSink.told l.initial.sink l.initial.out xs l.sink l.out) (drop l.gap m.elements.items) (drop l.at m.elements.items);
}

abbrev pub decreases-loop-at : goal.decreases-loop-at
decreases-loop-at g l = l.count - l.at
