-- Which refusal the fault of each call is, and which of them have a cause outside the file.
use Rattle.std.specs.Prelude.{Bool, true, false, Option, Some, None, Result, Ok, Err}
use Rattle.tx_log.specs.declared.phase.BeginFault.{BeginFault}
use Rattle.tx_log.specs.declared.phase.BeginFault.TheVariants as begin_faults
use Rattle.record_file.specs.declared.fault.Cause.{Cause}
use Rattle.record_file.specs.declared.fault.Cause.TheVariants as causes
use Rattle.record_file.specs.declared.fault.Stop.{Stop}
use Rattle.record_file.specs.declared.fault.PutFault.{PutFault}
use Rattle.record_file.specs.declared.fault.PutFault.TheVariants as put_faults
use Rattle.record_file.specs.declared.fault.ClaimFault.{ClaimFault}
use Rattle.record_file.specs.declared.fault.ClaimFault.TheVariants as claim_faults
use Rattle.record_file.specs.declared.fault.RemoveFault.{RemoveFault}
use Rattle.record_file.specs.declared.fault.RemoveFault.TheVariants as remove_faults
use Rattle.record_file.specs.declared.fault.GetFault.{GetFault}
use Rattle.record_file.specs.declared.fault.GetFault.TheVariants as get_faults
use Rattle.record_file.specs.declared.fault.SavepointFault.{SavepointFault}
use Rattle.record_file.specs.declared.fault.SavepointFault.TheVariants as savepoint_faults
use Rattle.record_file.specs.declared.fault.ReleaseFault.{ReleaseFault}
use Rattle.record_file.specs.declared.fault.ReleaseFault.TheVariants as release_faults
use Rattle.record_file.specs.declared.fault.RollbackToFault.{RollbackToFault}
use Rattle.record_file.specs.declared.fault.RollbackToFault.TheVariants as rollback_faults
use Rattle.record_file.specs.declared.fault.AbortFault.{AbortFault}
use Rattle.record_file.specs.declared.fault.AbortFault.TheVariants as abort_faults
use Rattle.record_file.specs.declared.fault.ResumeFault.{ResumeFault}
use Rattle.record_file.specs.declared.fault.ResumeFault.TheVariants as resume_faults
use Rattle.record_file.specs.declared.fault.CommitFault.{CommitFault}
use Rattle.record_file.specs.declared.fault.CommitFault.TheVariants as commit_faults
use Rattle.record_file.specs.declared.fault.CommittedFault.{CommittedFault}
use Rattle.record_file.specs.declared.fault.CommittedFault.TheVariants as committed_faults
use Rattle.record_file.specs.declared.fault.EntriesFault.{EntriesFault}
use Rattle.record_file.specs.declared.fault.EntriesFault.TheVariants as entries_faults
use Rattle.record_file.specs.declared.fault.KeysOfFault.{KeysOfFault}
use Rattle.record_file.specs.declared.fault.KeysOfFault.TheVariants as keys_faults
use Rattle.record_file.specs.declared.fault.ChangesFault.{ChangesFault}
use Rattle.record_file.specs.declared.fault.ChangesFault.TheVariants as changes_faults
use Rattle.record_file.specs.declared.fault.StatusFault.{StatusFault}
use Rattle.record_file.specs.declared.fault.StatusFault.TheVariants as status_faults
use Rattle.tx_log.specs.declared.refusal.LookRefusal.{LookRefusal}
use Rattle.tx_log.specs.declared.refusal.LookRefusal.TheVariants as look_refusals
use Rattle.tx_log.specs.declared.refusal.ChangeRefusal.{ChangeRefusal}
use Rattle.tx_log.specs.declared.refusal.ChangeRefusal.TheVariants as change_refusals
use Rattle.record_file.specs.declared.refusal.Refusal.{Refusal}
use Rattle.record_file.specs.declared.refusal.Refusal.TheVariants as refusals

abbrev pub begin_refusal : BeginFault → Refusal
begin_refusal begin_faults.BeginsSpent = refusals.BeginsSpent
begin_refusal begin_faults.Memory = refusals.Failed causes.Memory

abbrev pub put_refusal : PutFault → Refusal
put_refusal put_faults.NoSuchTx = refusals.NoSuchTx
put_refusal put_faults.Rolling = refusals.Rolling
put_refusal (put_faults.Held owner) = refusals.Held owner
put_refusal put_faults.LogFull = refusals.LogFull
put_refusal put_faults.Device = refusals.Failed causes.Device
put_refusal (put_faults.Damaged page) = refusals.Failed (causes.Damaged page)
put_refusal put_faults.Full = refusals.Full
put_refusal put_faults.Memory = refusals.Failed causes.Memory

abbrev pub claim_refusal : ClaimFault → Refusal
claim_refusal claim_faults.NoSuchTx = refusals.NoSuchTx
claim_refusal claim_faults.Rolling = refusals.Rolling
claim_refusal (claim_faults.Held owner) = refusals.Held owner
claim_refusal claim_faults.LogFull = refusals.LogFull
claim_refusal claim_faults.Device = refusals.Failed causes.Device
claim_refusal (claim_faults.Damaged page) = refusals.Failed (causes.Damaged page)
claim_refusal claim_faults.Full = refusals.Full
claim_refusal claim_faults.Memory = refusals.Failed causes.Memory

abbrev pub remove_refusal : RemoveFault → Refusal
remove_refusal remove_faults.NoSuchTx = refusals.NoSuchTx
remove_refusal remove_faults.Rolling = refusals.Rolling
remove_refusal (remove_faults.Held owner) = refusals.Held owner
remove_refusal remove_faults.LogFull = refusals.LogFull
remove_refusal remove_faults.Device = refusals.Failed causes.Device
remove_refusal (remove_faults.Damaged page) = refusals.Failed (causes.Damaged page)
remove_refusal remove_faults.Absent = refusals.Absent
remove_refusal remove_faults.Memory = refusals.Failed causes.Memory

abbrev pub get_refusal : GetFault → Refusal
get_refusal get_faults.NoSuchTx = refusals.NoSuchTx
get_refusal get_faults.Rolling = refusals.Rolling
get_refusal (get_faults.Held owner) = refusals.Held owner
get_refusal get_faults.Device = refusals.Failed causes.Device
get_refusal (get_faults.Damaged page) = refusals.Failed (causes.Damaged page)

abbrev pub savepoint_refusal : SavepointFault → Refusal
savepoint_refusal savepoint_faults.NoSuchTx = refusals.NoSuchTx
savepoint_refusal savepoint_faults.Rolling = refusals.Rolling
savepoint_refusal savepoint_faults.TooDeep = refusals.TooDeep

abbrev pub release_refusal : ReleaseFault → Refusal
release_refusal release_faults.NoSuchTx = refusals.NoSuchTx
release_refusal release_faults.Rolling = refusals.Rolling
release_refusal release_faults.NoSuchSave = refusals.NoSuchSave

abbrev pub rollback_refusal : RollbackToFault → Refusal
rollback_refusal rollback_faults.NoSuchTx = refusals.NoSuchTx
rollback_refusal rollback_faults.Rolling = refusals.Rolling
rollback_refusal rollback_faults.NoSuchSave = refusals.NoSuchSave
rollback_refusal (rollback_faults.Stopped undone left cause) = refusals.Stopped undone left cause

abbrev pub abort_refusal : AbortFault → Refusal
abort_refusal abort_faults.NoSuchTx = refusals.NoSuchTx
abort_refusal abort_faults.Rolling = refusals.Rolling
abort_refusal (abort_faults.Stopped undone left cause) = refusals.Stopped undone left cause

abbrev pub resume_refusal : ResumeFault → Refusal
resume_refusal resume_faults.NoSuchTx = refusals.NoSuchTx
resume_refusal resume_faults.NotRolling = refusals.NotRolling
resume_refusal (resume_faults.Stopped undone left cause) = refusals.Stopped undone left cause

abbrev pub commit_refusal : CommitFault → Refusal
commit_refusal commit_faults.NoSuchTx = refusals.NoSuchTx
commit_refusal commit_faults.Rolling = refusals.Rolling

abbrev pub committed_refusal : CommittedFault → Refusal
committed_refusal committed_faults.Device = refusals.Failed causes.Device
committed_refusal (committed_faults.Damaged page) = refusals.Failed (causes.Damaged page)

abbrev pub entries_refusal : EntriesFault → Refusal
entries_refusal entries_faults.Device = refusals.Failed causes.Device
entries_refusal (entries_faults.Damaged page) = refusals.Failed (causes.Damaged page)
entries_refusal entries_faults.Memory = refusals.Failed causes.Memory

abbrev pub keys_of_refusal : KeysOfFault → Refusal
keys_of_refusal keys_faults.NoSuchTx = refusals.NoSuchTx
keys_of_refusal keys_faults.Memory = refusals.Failed causes.Memory

abbrev pub changes_refusal : ChangesFault → Refusal
changes_refusal changes_faults.NoSuchTx = refusals.NoSuchTx
changes_refusal changes_faults.Rolling = refusals.Rolling
changes_refusal changes_faults.Memory = refusals.Failed causes.Memory

abbrev pub status_refusal : StatusFault → Refusal
status_refusal status_faults.NoSuchTx = refusals.NoSuchTx

-- what the log refuses a call at a key for, before the call tells of it

abbrev pub look_refusal : LookRefusal → Refusal
look_refusal look_refusals.NoSuchTx = refusals.NoSuchTx
look_refusal look_refusals.Rolling = refusals.Rolling
look_refusal (look_refusals.Held owner) = refusals.Held owner

abbrev pub change_refusal : ChangeRefusal → Refusal
change_refusal change_refusals.NoSuchTx = refusals.NoSuchTx
change_refusal change_refusals.Rolling = refusals.Rolling
change_refusal (change_refusals.Held owner) = refusals.Held owner
change_refusal change_refusals.LogFull = refusals.LogFull

-- a stop, before a call tells of it
abbrev pub stop_refusal : Stop → Refusal
stop_refusal stop = refusals.Stopped stop.undone stop.left stop.cause

-- what a call was refused for, where it was
abbrev pub refusal_by : {A F : Type 0} → (F → Refusal) → Result A F → Option Refusal
refusal_by refusal_of (Ok answer) = None
refusal_by refusal_of (Err fault) = Some (refusal_of fault)

-- what came from outside the file, where something did
abbrev pub cause_in_refusal : Refusal → Option Cause
cause_in_refusal (refusals.Failed cause) = Some cause
cause_in_refusal (refusals.Stopped undone left cause) = Some cause
cause_in_refusal refusal = None

-- what came from outside and ended a call
abbrev pub cause_by : {A F : Type 0} → (F → Refusal) → Result A F → Option Cause
cause_by refusal_of (Ok answer) = None
cause_by refusal_of (Err fault) = cause_in_refusal (refusal_of fault)

-- a refusal of a call at a key that the file alone decides
abbrev pub by_file : Refusal → Bool
by_file refusals.NoSuchTx = true
by_file refusals.Rolling = true
by_file (refusals.Held owner) = true
by_file refusals.LogFull = true
by_file refusal = false
