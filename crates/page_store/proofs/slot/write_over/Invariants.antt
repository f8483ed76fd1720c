use Rattle.std.proofs.Common.{◌≡◌, ℕ, ◌&&◌, not, take}
use Rattle.std.specs.BTreeSet.{contains}
use Rattle.std.specs.Ordering.{nat_cmp}
use Rattle.page_store.specs.PageMap.{is_written}
use Rattle.page_store.specs.Overlaid.{slots_of}
use Rattle.page_store.specs.Slots.{put_slots}
use Rattle.page_store.proofs.slot.write_over.Given as goal

abbrev pub invariant-loop-n : goal.invariant-loop-n
invariant-loop-n l = record {
  slots : slots_of l.changed.items ≡ put_slots (slots_of l.fn.changed.items) (take l.n-index l.writes);
  free : (q : ℕ) → contains nat_cmp l.free q ≡ (contains nat_cmp l.fn.free q && not (is_written (take l.n-index l.writes) q));
}
