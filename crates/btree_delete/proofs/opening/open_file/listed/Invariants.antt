use Rattle.std.proofs.Common.{◌≡◌, ℕ, ◌<◌, ◌≤◌, true}
use Rattle.std.specs.BTreeSet.{contains}
use Rattle.std.specs.Ordering.{nat_cmp}
use Rattle.page_store.specs.PageMap.{is_freed}
use Rattle.btree_delete.proofs.opening.open_file.listed.Given as goal

abbrev pub invariant-loop-n : goal.invariant-loop-n
invariant-loop-n l = record {
  some : (q : ℕ) → is_freed l.list.items q ≡ true → contains nat_cmp l.free q ≡ true;
  all : (q : ℕ) → 1 ≤ q → q < l.n-counter → contains nat_cmp l.free q ≡ true → is_freed l.list.items q ≡ true;
}
