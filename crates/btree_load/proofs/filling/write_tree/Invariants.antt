use Rattle.std.proofs.Common.{length, IsTrue, Ok}
use Rattle.btree_node.specs.declared.node.NodeKind.TheVariants.{Inner}
use Rattle.btree_load.specs.Filling.{FillsStore, KeepsLength, written_pages}
use Rattle.btree_load.specs.Rows.{wide, IsWide}
use Rattle.btree_load.specs.Trees.{HasLevels}
use Rattle.btree_load.proofs.TreeLemmas.{Rows}
use Rattle.btree_load.proofs.filling.write_tree.Given as goal

abbrev pub decreases-loop-alloc : goal.decreases-loop-alloc
decreases-loop-alloc g l = length l.row.between.items

abbrev pub invariant-loop-alloc : goal.invariant-loop-alloc
invariant-loop-alloc g l = record {
  stands : IsWide (wide Inner l.row.between.items l.row.sons.items);
  rows : IsTrue (g.S.StoreState.steady l.fn.store) → Rows l.k (written_pages g.S.StoreState l.count l.store) (wide Inner l.row.between.items l.row.sons.items) l.records;
  room : HasLevels g.S.StoreState l.k l.count (length l.row.between.items) l.store;
  same : KeepsLength g.S.StoreState l.fn.store l.store;
  fills : FillsStore {A = Unit {0}} g.S.StoreState l.fn.store (Ok tt) l.store;
}
