use Rattle.std.proofs.Common.{◌≡◌, ℕ, ◌+◌, vec_len}
use Rattle.page_store.specs.PageMap.{at}
use Rattle.page_store.specs.Overlaid.{slots_of}
use Rattle.page_store.proofs.slot.make_slots.Given as goal

abbrev pub invariant-loop : goal.invariant-loop
invariant-loop l = record {
  same : (n : ℕ) → at (slots_of l.changed.items) n ≡ at (slots_of l.fn.changed.items) n;
  long : vec_len l.changed ≡ l.len + l.counter;
}
