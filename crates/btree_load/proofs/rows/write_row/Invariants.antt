use Rattle.std.proofs.Common.{◌≡◌, ◌+◌, ◌-◌, ◌≤◌, ◌⊎◌, ℕ, List, length, IsTrue, Ok}
use Rattle.btree_node.specs.Lists.{Element}
use Rattle.btree_load.specs.Filling.{FillsStore, KeepsLength, written_pages}
use Rattle.btree_load.specs.Rows.{wide, NodeStandsFor}
use Rattle.btree_load.proofs.RowLemmas.{Progress, IsFront, Fullness}
use Rattle.btree_load.proofs.rows.write_row.Given as goal

abbrev pub invariant-loop-at : goal.invariant-loop-at
invariant-loop-at g l = record {
  within : l.at ≤ length l.elements;
  enough : l.at ≡ 0 ⊎ (l.at + l.k ≤ length l.elements);
  front : IsFront l.at (wide l.kind l.elements l.sons) l.row.sons.items l.row.between.items;
  full : Fullness l.k (length l.elements) l.at (length l.row.between.items);
  count : l.count ≡ l.fn.count + length l.row.between.items;
  same : KeepsLength g.S.StoreState l.fn.store l.store;
  progress : IsTrue (g.S.StoreState.steady l.fn.store) → (least h : ℕ) (es : List Element) (us : List ℕ) → least ≤ l.k → least ≤ length l.elements
      → NodeStandsFor l.k (written_pages g.S.StoreState l.fn.count l.fn.store) h (wide l.kind l.elements l.sons) es us → Progress l.k (written_pages g.S.StoreState l.count l.store) least h l.at (wide l.kind l.elements l.sons) l.row.sons.items l.row.between.items es;
  fills : FillsStore {A = Unit {0}} g.S.StoreState l.fn.store (Ok tt) l.store;
}

abbrev pub decreases-loop-at : goal.decreases-loop-at
decreases-loop-at g l = length l.elements - l.at
