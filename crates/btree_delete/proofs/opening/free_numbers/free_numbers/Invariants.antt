use Rattle.std.proofs.Common.{◌≡◌, ℕ, ◌≤◌, drop, take}
use Rattle.std.specs.BTreeSet.{contains, btree_set_len}
use Rattle.std.specs.Ordering.{nat_cmp}
use Rattle.btree_delete.specs.Survey.{unreached}
use Rattle.btree_delete.proofs.FreeNumberLemmas.{is_free_below}
use Rattle.btree_delete.proofs.opening.free_numbers.free_numbers.Given as goal

abbrev pub invariant-loop-n : goal.invariant-loop-n
invariant-loop-n l = record {
  from : 1 ≤ l.n;
  free : (q : ℕ) → contains nat_cmp l.free q ≡ is_free_below l.reached l.n q;
  count : btree_set_len l.free ≡ unreached (drop 1 (take l.n l.reached));
}
