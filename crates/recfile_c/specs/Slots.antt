-- A file behind a pointer that says nothing of it.
use Rattle.std.specs.Prelude.{Option, Some, None}
use Rattle.std.specs.Coded.{Coded, coded_option}
use Rattle.std.specs.Box.Ownership.{box_owns}
use Rattle.std.specs.contracts.impls.GlobalAllocator.TheImpl.{ghosts}
use base.Fml.{Fml, ftrue}
use denote.RawPtr.{Ptr}
use Rattle.recfile_c.specs.contracts.held.Held as held
use Rattle.recfile_c.specs.declared.held.Held.{Held}

abbrev pub coded_slot : Coded (Option Held)
coded_slot = coded_option held.the_row.coded

-- the memory of the file, where there is one
abbrev pub slot_owns : Ptr → Option Held → Fml
slot_owns p None = ftrue
slot_owns p (Some x) = box_owns (ghosts.dealloc_token (record { memory = record { seal = tt } })) held.the_row p x
