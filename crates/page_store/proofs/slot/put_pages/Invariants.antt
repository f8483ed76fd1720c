use Rattle.std.proofs.Common.{◌≡◌, vec_len}
use Rattle.page_store.specs.Overlaid.{slots_of}
use Rattle.page_store.specs.Slots.{bytes_in, put_slots}
use Rattle.page_store.proofs.slot.put_pages.Given as goal

abbrev pub invariant-loop-n : goal.invariant-loop-n
invariant-loop-n l = record {
  can_next : (goal.iterator-loop-n).can_next l.n-iterator;
  is_finite : (goal.iterator-loop-n).is_finite l.n-iterator;
  len : vec_len l.changed ≡ vec_len l.fn.changed;
  slots : slots_of l.changed.items ≡ put_slots (slots_of l.fn.changed.items) (bytes_in l.yielded);
}
