use Rattle.std.proofs.Common.{◌<◌}
use Rattle.std.specs.List.{All}
use Rattle.btree_node.specs.Layout.{second_layout}
use Rattle.btree_node.specs.Reading.{sons_at}
use Rattle.btree_node.proofs.node_page.sons_are_set.Given as goal

abbrev pub invariant-loop-j : goal.invariant-loop-j
invariant-loop-j l = All (λ son. 0 < son) (sons_at second_layout l.fn.k l.page l.j)
