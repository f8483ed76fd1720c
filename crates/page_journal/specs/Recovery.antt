-- Which faults a recovery answers.
use Rattle.std.specs.Prelude.{◌≡◌, Bool, true, false, Result, Ok, Err}
use Rattle.rec_types.specs.Table.{counted}
use Rattle.page_journal.specs.Files.{Files, Belongs}
use Rattle.page_journal.specs.declared.disk_state.DiskState.{Ghosts}
use Rattle.page_journal.specs.declared.recovery_fault.RecoveryFault.{RecoveryFault}
use Rattle.page_journal.specs.declared.recovery_fault.RecoveryFault.TheVariants.{Device, BadJournal}

-- whether the fault is that a call of the disk failed
abbrev pub is_device_fault : RecoveryFault → Bool
is_device_fault Device = true
is_device_fault BadJournal = false

-- whether a call of the disk failed
abbrev pub is_recovery_device : {X : Type 0} → Result X RecoveryFault → Bool
is_recovery_device (Ok x) = false
is_recovery_device (Err fault) = is_device_fault fault

-- the side file is of another file
abbrev pub IsForeign : Files → Type 0
IsForeign f = Belongs f → ⊥

-- what is left of the calls of a recovery, of which the last may have failed
pub record RecoveryLeaves {D : Type 0} (g : Ghosts D) (old : D) (answer : Result (Unit {0}) RecoveryFault) (new : D) : Type 0 where
  pub steady : g.steady new ≡ g.steady old
  pub began : g.began new ≡ g.began old
  pub failures : g.failures new ≡ counted (g.failures old) (is_recovery_device answer)
