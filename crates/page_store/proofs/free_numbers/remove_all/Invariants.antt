use Rattle.std.proofs.Common.{◌≡◌, ℕ, ◌&&◌, not, take}
use Rattle.std.specs.BTreeSet.{contains}
use Rattle.std.specs.Ordering.{nat_cmp}
use Rattle.page_store.specs.PageMap.{is_freed}
use Rattle.page_store.proofs.free_numbers.remove_all.Given as goal

abbrev pub invariant-loop-n : goal.invariant-loop-n
invariant-loop-n l =
    (q : ℕ) → contains nat_cmp l.free q ≡ (contains nat_cmp l.fn.free q && not (is_freed (take l.n-index l.numbers) q))
