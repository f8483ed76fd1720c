use Rattle.std.proofs.Common.{take}
use Rattle.page_store.specs.Overlaid.{slots_of}
use Rattle.page_store.specs.Slots.{bytes_in, AreTheNew}
use Rattle.page_store.proofs.slot.boxed.Given as goal

abbrev pub invariant-loop-n : goal.invariant-loop-n
invariant-loop-n l = AreTheNew (slots_of l.changed) (take l.n-index l.writes) (bytes_in l.pages.items)
