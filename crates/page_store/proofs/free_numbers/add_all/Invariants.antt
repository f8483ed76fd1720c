use Rattle.std.proofs.Common.{◌≡◌, ℕ, ◌||◌, take}
use Rattle.std.specs.BTreeSet.{contains}
use Rattle.std.specs.Ordering.{nat_cmp}
use Rattle.page_store.specs.PageMap.{is_freed}
use Rattle.page_store.proofs.free_numbers.add_all.Given as goal

abbrev pub invariant-loop-i : goal.invariant-loop-i
invariant-loop-i l =
    (q : ℕ) → contains nat_cmp l.free q ≡ (contains nat_cmp l.fn.free q || is_freed (take l.i l.numbers) q)
