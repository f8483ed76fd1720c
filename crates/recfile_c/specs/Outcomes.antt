-- What a call answers to C: its status, and what the status carries.
use Rattle.std.specs.Prelude.{ℕ, pos, Result, Ok, Err}
use Rattle.btree_delete.specs.declared.opening.open_fault.OpenFault.{OpenFault}
use Rattle.btree_delete.specs.declared.opening.open_fault.OpenFault.TheVariants as open_faults
use Rattle.btree_delete.specs.declared.table.tree_table.CreateFault.{CreateFault}
use Rattle.btree_delete.specs.declared.table.tree_table.CreateFault.TheVariants as create_faults
use Rattle.rec_types.specs.declared.key.KeyFault.{KeyFault}
use Rattle.rec_types.specs.declared.key.KeyFault.TheVariants.{Empty, TooLong}
use Rattle.rec_types.specs.declared.limits.LimitFault.{LimitFault}
use Rattle.rec_types.specs.declared.limits.LimitFault.TheVariants.{Records, Log, Begins}
use Rattle.record_file.specs.declared.fault.Cause.{Cause}
use Rattle.record_file.specs.declared.fault.Cause.TheVariants as causes
use Rattle.record_file.specs.declared.refusal.Refusal.{Refusal}
use Rattle.record_file.specs.declared.refusal.Refusal.TheVariants as refusals
use Rattle.recfile_c.specs.declared.outcome.Outcome.{Outcome}

-- the statuses

abbrev pub ok : ℕ
ok = 0

abbrev pub closed : ℕ
closed = 1

abbrev pub empty_key : ℕ
empty_key = 2

abbrev pub long_key : ℕ
long_key = 3

abbrev pub long_record : ℕ
long_record = 4

abbrev pub begins_spent : ℕ
begins_spent = 5

abbrev pub no_such_tx : ℕ
no_such_tx = 6

abbrev pub rolling : ℕ
rolling = 7

abbrev pub not_rolling : ℕ
not_rolling = 8

abbrev pub held : ℕ
held = 9

abbrev pub log_full : ℕ
log_full = 10

abbrev pub device : ℕ
device = 11

abbrev pub damaged : ℕ
damaged = 12

abbrev pub full : ℕ
full = 13

abbrev pub absent : ℕ
absent = 14

abbrev pub too_deep : ℕ
too_deep = 15

abbrev pub no_such_save : ℕ
no_such_save = 16

abbrev pub stopped : ℕ
stopped = 17

abbrev pub memory : ℕ
memory = 18

abbrev pub no_such_entry : ℕ
no_such_entry = 19

abbrev pub not_closed : ℕ
not_closed = 20

abbrev pub bad_records : ℕ
bad_records = 21

abbrev pub bad_log : ℕ
bad_log = 22

abbrev pub bad_begins : ℕ
bad_begins = 23

abbrev pub still_open : ℕ
still_open = 24

abbrev pub bad_length : ℕ
bad_length = 25

abbrev pub bad_magic : ℕ
bad_magic = 26

abbrev pub bad_version : ℕ
bad_version = 27

abbrev pub bad_order : ℕ
bad_order = 28

abbrev pub not_clean : ℕ
not_clean = 29

abbrev pub bad_header : ℕ
bad_header = 30

abbrev pub wrong_count : ℕ
wrong_count = 31

abbrev pub too_many_records : ℕ
too_many_records = 32

-- a status that carries nothing
abbrev pub just : ℕ → Outcome
just status = record { status = pos status; owner = 0; page = 0; undone = 0; left = 0; cause = pos ok }

-- bytes that are no key
abbrev pub key_outcome : KeyFault → Outcome
key_outcome Empty = just empty_key
key_outcome TooLong = just long_key

-- numbers that are no limits
abbrev pub limits_outcome : LimitFault → Outcome
limits_outcome Records = just bad_records
limits_outcome Log = just bad_log
limits_outcome Begins = just bad_begins

-- transactions that have not ended
abbrev pub still_open_by : ℕ → Outcome
still_open_by count = record (just still_open) { left = count }

-- a damaged page
abbrev pub at_page : ℕ → Outcome
at_page n = record (just damaged) { page = n }

-- why a file was not opened
abbrev pub open_outcome : OpenFault → Outcome
open_outcome open_faults.Device = just device
open_outcome open_faults.BadLength = just bad_length
open_outcome open_faults.BadMagic = just bad_magic
open_outcome (open_faults.BadVersion version) = record (just bad_version) { page = version }
open_outcome open_faults.BadOrder = just bad_order
open_outcome open_faults.NotClean = just not_clean
open_outcome open_faults.BadHeader = just bad_header
open_outcome (open_faults.Damaged n) = at_page n
open_outcome open_faults.WrongCount = just wrong_count
open_outcome open_faults.TooManyRecords = just too_many_records
open_outcome open_faults.Memory = just memory

-- why no file was made
abbrev pub create_outcome : CreateFault → Outcome
create_outcome create_faults.BadOrder = just bad_order
create_outcome create_faults.Device = just device
create_outcome create_faults.NotEmpty = just bad_length

-- why a device or memory failed
abbrev pub cause_outcome : Cause → Outcome
cause_outcome causes.Device = just device
cause_outcome (causes.Damaged n) = at_page n
cause_outcome causes.Memory = just memory

-- why a call did nothing, or how far a rollback came that was stopped, and why it was
abbrev pub refusal_outcome : Refusal → Outcome
refusal_outcome refusals.BeginsSpent = just begins_spent
refusal_outcome refusals.NoSuchTx = just no_such_tx
refusal_outcome refusals.Rolling = just rolling
refusal_outcome refusals.NotRolling = just not_rolling
refusal_outcome (refusals.Held t) = record (just held) { owner = t.0 }
refusal_outcome refusals.LogFull = just log_full
refusal_outcome refusals.Full = just full
refusal_outcome refusals.Absent = just absent
refusal_outcome refusals.TooDeep = just too_deep
refusal_outcome refusals.NoSuchSave = just no_such_save
refusal_outcome (refusals.Failed cause) = cause_outcome cause
refusal_outcome (refusals.Stopped undone left cause) =
    record (cause_outcome cause) { status = pos stopped; undone = undone; left = left; cause = (cause_outcome cause).status }

-- the outcome of a call
abbrev pub outcome_by : {A F : Type 0} → (F → Refusal) → Result A F → Outcome
outcome_by refusal_of (Ok answer) = just ok
outcome_by refusal_of (Err fault) = refusal_outcome (refusal_of fault)
