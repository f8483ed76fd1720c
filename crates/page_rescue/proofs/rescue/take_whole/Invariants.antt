use Rattle.std.proofs.Common.{ℕ}
use Rattle.std.specs.Prelude.{IsTrue}
use Rattle.page_store.specs.StoreCalls.{StaysStore}
use Rattle.page_rescue.specs.Rescue.{GrowsBy, HasPagesBelow, IsInPages}
use Rattle.page_rescue.proofs.rescue.take_whole.Given as goal

-- the pages so far
abbrev pub invariant-loop-n : goal.invariant-loop-n
invariant-loop-n g l = record {
  stays : StaysStore g.S.StoreState l.fn.store l.store;
  grows : IsTrue (g.S.StoreState.steady l.fn.store) → GrowsBy (IsInPages (g.S.StoreState.pages l.fn.store)) l.fn.table.contents l.table.contents;
  has : IsTrue (g.S.StoreState.steady l.fn.store) → IsTrue l.complete → HasPagesBelow l.n l.table.contents (g.S.StoreState.pages l.fn.store);
}
