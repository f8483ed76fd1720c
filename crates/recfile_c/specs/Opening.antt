-- Opening and closing a handle.
use Rattle.std.specs.Prelude.{◌≡◌, ℤ, pos, [], Option, Some, None, Result, Ok, Err}
use Rattle.std.specs.FinMap as maps
use Rattle.std.specs.declared.boxed.Box.{Box}
use Rattle.rec_types.specs.LimitBounds.{Bounds}
use Rattle.rec_types.specs.declared.limits.LimitFault.{LimitFault}
use Rattle.rec_types.specs.Calls.{no_calls}
use Rattle.record_file.specs.Abstract.{new_file}
use Rattle.recfile_c.specs.declared.file_table.FileTable.TheVariants.{Memory}
use Rattle.recfile_c.specs.declared.held.Held.{Held}
use Rattle.recfile_c.specs.declared.held.Held.TheVariants.{Open}
use Rattle.recfile_c.specs.Outcomes.{ok, memory, not_closed, limits_outcome}
use Rattle.recfile_c.specs.Calls.{FileState}

-- an empty file in memory, in which nothing was begun
abbrev pub memory_file : Bounds → FileState
memory_file limits = record { table = Memory (record { contents = maps.empty; limit = limits.records; refusals = 0; calls = no_calls }); file = new_file maps.empty limits; log = [] }

-- the file is open, and nothing was listed
abbrev pub IsOpened : FileState → Held → Type 0
IsOpened file (Open s) = (s.file ≡ file) × (s.entries.items ≡ []) × (s.keys.items ≡ [])
IsOpened file held = ⊥

abbrev pub MakesMemory : Result Bounds LimitFault → Result Held ℤ → Type 0
MakesMemory (Ok limits) (Ok held) = IsOpened (memory_file limits) held
MakesMemory (Ok limits) (Err status) = status ≡ pos memory
MakesMemory (Err fault) (Ok held) = ⊥
MakesMemory (Err fault) (Err status) = status ≡ (limits_outcome fault).status

-- what lies in a box
abbrev pub unboxed : {Z : Type 0} → Result (Box Held Z) ℤ → Result Held ℤ
unboxed (Ok b) = Ok b.value
unboxed (Err status) = Err status

-- it lies in the box, or memory was refused
abbrev pub MakesBox : {Z : Type 0} → Held → Result (Box Held Z) ℤ → Type 0
MakesBox held (Ok b) = b.value ≡ held
MakesBox held (Err status) = status ≡ pos memory

-- A handle that is closed is opened, or stays closed; any other stays as it was.
abbrev pub OpensHandle : (Result Held ℤ → Type 0) → ℤ → Option Held → Option Held → Type 0
OpensHandle makes status (Some old) new = (status ≡ pos not_closed) × (new ≡ Some old)
OpensHandle makes status None (Some new) = (status ≡ pos ok) × makes (Ok new)
OpensHandle makes status None None = makes (Err status)
