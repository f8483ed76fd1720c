use Rattle.std.proofs.Common.{ℕ, ◌+◌, ◌-◌, ◌*◌, ◌≤◌, List, IsTrue}
use Rattle.page_store.specs.PageMap.{at}
use Rattle.btree_node.specs.Lists.{Element}
use Rattle.btree_insert.specs.Edits.{Reads}
use Rattle.btree_insert.specs.PageTrees.{Holds}
use Rattle.btree_insert.proofs.TellingLemmas.{ToldUpto, no_fault}
use Rattle.btree_insert.proofs.telling.tell_beside.Given as goal

-- those up to the gap were told, and for each that is left there is a way down left
abbrev pub invariant-loop-left : goal.invariant-loop-left
invariant-loop-left g l = record {
  within : l.left ≤ l.tree.count + 1;
  told : IsTrue l.initial.pages.steady → (es : List Element) (us : List ℕ) → Holds (at l.initial.pages.pages) l.tree es us → ToldUpto (λ xs. g.K.RecordSink.told l.initial.sink l.initial.out xs l.sink l.out) l.side l.from l.gap es l.left;
  some : (xs : List Element) × g.K.RecordSink.told l.initial.sink l.initial.out xs l.sink l.out;
  reading : Reads (l.tree.height * (l.tree.count + 1 - l.left)) l.initial.pages no_fault l.pages;
}

abbrev pub decreases-loop-left : goal.decreases-loop-left
decreases-loop-left g l = l.left
