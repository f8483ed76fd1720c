use Rattle.std.proofs.Common.{◌≡◌, ℕ, false}
use Rattle.page_store.specs.PageMap.{at, is_freed}
use Rattle.page_store.specs.Overlaid.{slots_of}
use Rattle.page_store.proofs.slot.drop_pages.Given as goal

abbrev pub invariant-loop-n : goal.invariant-loop-n
invariant-loop-n l =
    (q : ℕ) → is_freed l.numbers q ≡ false → at (slots_of l.changed.items) q ≡ at (slots_of l.fn.changed.items) q
