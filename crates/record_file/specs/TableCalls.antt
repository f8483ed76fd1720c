-- What a call of a file does to its table beside its step.
use Rattle.std.specs.Prelude.{◌≡◌, ℕ, List, Option, IsTrue}
use Rattle.rec_types.specs.Contents.{Contents, set_to}
use Rattle.tx_log.specs.declared.phase.UndoStep.{UndoStep}
use Rattle.tx_log.specs.declared.phase.UndoStep.TheVariants.{Restore, Unclaim}
use Rattle.rec_types.specs.Table.{counted}
use Rattle.rec_types.specs.declared.table_state.TableState.{Ghosts}
use Rattle.record_file.specs.Abstract.{OpenFile, Tells}
use Rattle.record_file.specs.Outside.{by_device, TellsDamage}
use Rattle.record_file.specs.declared.fault.Cause.{Cause}

-- what an undo step makes of the contents: a claim's leaves them
abbrev pub undone_by : Contents → UndoStep → Contents
undone_by m (Restore key before) = set_to m key before
undone_by m (Unclaim key) = m

abbrev pub step_key : UndoStep → List ℕ
step_key (Restore key before) = key
step_key (Unclaim key) = key

-- a call that may change records, and the log with them: the opening contents stay; the cause is what came from outside and ended it
pub record ChangesTable {T : Type 0} (t : Ghosts T) (old : OpenFile T) (cause : Option Cause) (new : OpenFile T) : Type 0 where
  pub told : Tells (t.sound old.table) (t.contents old.table) old.log (t.contents new.table) new.log
  pub soundness : t.sound new.table ≡ t.sound old.table
  pub origin : t.origin new.table ≡ t.origin old.table
  pub opening : IsTrue (t.sound old.table) → new.file.opening ≡ old.file.opening
  pub device : t.device_failures new.table ≡ counted (t.device_failures old.table) (by_device cause)
  pub damages : TellsDamage (t.damages old.table) cause (t.damages new.table)

-- a table that tells the same, but of what it was made of
pub record SameTable {T : Type 0} (t : Ghosts T) (old new : T) : Type 0 where
  pub contents : t.contents new ≡ t.contents old
  pub limit : t.record_limit new ≡ t.record_limit old
  pub soundness : t.sound new ≡ t.sound old
  pub device : t.device_failures new ≡ t.device_failures old
  pub memory : t.memory_refusals new ≡ t.memory_refusals old
  pub damages : t.damages new ≡ t.damages old
  pub calls : t.calls new ≡ t.calls old

-- frames of a call on a file

abbrev pub KeepsOrigin : {T : Type 0} → Ghosts T → OpenFile T → OpenFile T → Type 0
KeepsOrigin t old new = t.origin new.table ≡ t.origin old.table

abbrev pub KeepsTable : {T : Type 0} → OpenFile T → OpenFile T → Type 0
KeepsTable old new = new.table ≡ old.table

abbrev pub LeavesLog : {T : Type 0} → OpenFile T → OpenFile T → Type 0
LeavesLog old new = new.log ≡ old.log
