-- The calls of a run's reader and writer.
use Rattle.std.specs.Prelude.{◌≡◌, ◌<◌, ℕ, Bool, true, false, ◌||◌, Result, Ok, Err}
use Rattle.recfile.specs.declared.script.ScriptFault.{ScriptFault}
use Rattle.recfile.specs.declared.script.ScriptFault.TheVariants as faults
use Rattle.recfile.specs.declared.script.RunFault.{RunFault}
use Rattle.recfile.specs.declared.script.RunFault.TheVariants.{Script, Refused, Flush}

-- how many reads were made, whether one of them failed, and whether a write failed or took no byte
pub record CallsMade : Type 0 where
  pub reads : ℕ
  pub read_failed : Bool
  pub write_failed : Bool

-- a ledger of this name, cut into so many parts, begins on a blank page of that name and as many parts
abbrev pub IsBlankFor : ℕ → ℕ → ℕ → ℕ → Type 0
IsBlankFor blank_name blank_parts name parts = (blank_name ≡ name) × (blank_parts ≡ parts) × (0 < parts)

-- none was made
abbrev pub no_call : CallsMade
no_call = record { reads = 0; read_failed = false; write_failed = false }

abbrev pub is_read_fault : ScriptFault → Bool
is_read_fault faults.ReadFault = true
is_read_fault faults.ScriptTooLong = false
is_read_fault (faults.WriteFault done) = false
is_read_fault (faults.Memory done) = false

abbrev pub is_write : ScriptFault → Bool
is_write faults.ReadFault = false
is_write faults.ScriptTooLong = false
is_write (faults.WriteFault done) = true
is_write (faults.Memory done) = false

-- whether the answer is ReadFault
abbrev pub read_fault : {A : Type 0} → Result A ScriptFault → Bool
read_fault (Ok x) = false
read_fault (Err fault) = is_read_fault fault

-- whether it is WriteFault
abbrev pub write_fault : {A : Type 0} → Result A ScriptFault → Bool
write_fault (Ok x) = false
write_fault (Err fault) = is_write fault

abbrev pub run_read_fault : {A : Type 0} → Result A RunFault → Bool
run_read_fault (Ok x) = false
run_read_fault (Err (Script fault)) = is_read_fault fault
run_read_fault (Err (Refused line)) = false
run_read_fault (Err Flush) = false

abbrev pub run_write_fault : {A : Type 0} → Result A RunFault → Bool
run_write_fault (Ok x) = false
run_write_fault (Err (Script fault)) = is_write fault
run_write_fault (Err (Refused line)) = false
run_write_fault (Err Flush) = false

-- ReadFault and WriteFault are answered exactly where a read or a write failed
pub record TellsFailed (old : CallsMade) (read_fault write_fault : Bool) (new : CallsMade) : Type 0 where
  pub read : new.read_failed ≡ (read_fault || old.read_failed)
  pub written : new.write_failed ≡ (write_fault || old.write_failed)
