-- The log of a session. A list of its records that is called rs stands newest first.
use Rattle.std.specs.Prelude.{◌≡◌, ℕ, ◌+◌, ◌≤◌, zero, suc, Bool, true, false, ◌==◌, if◌then◌else◌, List, [], ◌∷◌, ◌++◌, length, drop, Option, Some, None, option_map}
use Rattle.std.specs.List.{slice_get}
use Rattle.rec_types.specs.Kept.{Kept, undone}
use Rattle.rec_types.specs.declared.transaction.TxId.{TxId}
use Rattle.tx_log.specs.declared.log_record.LogRecord.{LogRecord}
use Rattle.tx_log.specs.declared.log_record.LogRecord.TheVariants.{Update, Compensation, Claim, Unclaim}

abbrev pub lsn_of : LogRecord → ℕ
lsn_of (Update lsn prev tx key before after) = lsn
lsn_of (Compensation lsn prev tx key restored undo_next) = lsn
lsn_of (Claim lsn prev tx key seen) = lsn
lsn_of (Unclaim lsn prev tx key undo_next) = lsn

abbrev pub prev_of : LogRecord → ℕ
prev_of (Update lsn prev tx key before after) = prev
prev_of (Compensation lsn prev tx key restored undo_next) = prev
prev_of (Claim lsn prev tx key seen) = prev
prev_of (Unclaim lsn prev tx key undo_next) = prev

abbrev pub tx_of_record : LogRecord → ℕ
tx_of_record (Update lsn prev tx key before after) = tx.0
tx_of_record (Compensation lsn prev tx key restored undo_next) = tx.0
tx_of_record (Claim lsn prev tx key seen) = tx.0
tx_of_record (Unclaim lsn prev tx key undo_next) = tx.0

abbrev pub key_of_record : LogRecord → List ℕ
key_of_record (Update lsn prev tx key before after) = key
key_of_record (Compensation lsn prev tx key restored undo_next) = key
key_of_record (Claim lsn prev tx key seen) = key
key_of_record (Unclaim lsn prev tx key undo_next) = key

-- what stood at the key before an update or a claim, and what stands there after a compensation
abbrev pub old_of : LogRecord → Option (List ℕ)
old_of (Update lsn prev tx key before after) = before
old_of (Compensation lsn prev tx key restored undo_next) = restored
old_of (Claim lsn prev tx key seen) = seen
old_of (Unclaim lsn prev tx key undo_next) = None

-- what the record wrote at the key, where it wrote there
abbrev pub new_of : LogRecord → Option (Option (List ℕ))
new_of (Update lsn prev tx key before after) = Some after
new_of (Compensation lsn prev tx key restored undo_next) = Some restored
new_of (Claim lsn prev tx key seen) = None
new_of (Unclaim lsn prev tx key undo_next) = None

-- what taking back an update or a claim writes at the key, and what a compensation or an unclaim wrote there
abbrev pub back_in : LogRecord → Option (Option (List ℕ))
back_in r = option_map (λ _. old_of r) (new_of r)

-- where the undo of the transaction goes on below the record
abbrev pub leads_to : LogRecord → ℕ
leads_to (Update lsn prev tx key before after) = prev
leads_to (Compensation lsn prev tx key restored undo_next) = undo_next
leads_to (Claim lsn prev tx key seen) = prev
leads_to (Unclaim lsn prev tx key undo_next) = undo_next

-- the record tells of a change, and not of one that is taken back
abbrev pub tells_change : LogRecord → Bool
tells_change (Update lsn prev tx key before after) = true
tells_change (Compensation lsn prev tx key restored undo_next) = false
tells_change (Claim lsn prev tx key seen) = true
tells_change (Unclaim lsn prev tx key undo_next) = false

-- the record of a change, and of one that is taken back
abbrev pub change_record : ℕ → ℕ → TxId → List ℕ → Option (List ℕ) → Option (Option (List ℕ)) → LogRecord
change_record lsn prev tx key before None = Claim lsn prev tx key before
change_record lsn prev tx key before (Some after) = Update lsn prev tx key before after

abbrev pub back_record : ℕ → ℕ → TxId → List ℕ → Option (Option (List ℕ)) → ℕ → LogRecord
back_record lsn prev tx key None undo_next = Unclaim lsn prev tx key undo_next
back_record lsn prev tx key (Some restored) undo_next = Compensation lsn prev tx key restored undo_next

-- the record with the number, in a log that stands oldest first
abbrev pub record_at : List LogRecord → ℕ → Option LogRecord
record_at records zero = None
record_at records (suc n) = slice_get records n

-- the number of the newest record of the transaction, and 0 where there is none
abbrev pub last_of : ℕ → List LogRecord → ℕ
last_of t [] = 0
last_of t (r ∷ rs) = if tx_of_record r == t then lsn_of r else last_of t rs

-- the change that an update or a claim tells of
abbrev pub noted : LogRecord → Kept
noted r = record { lsn = lsn_of r; tx = tx_of_record r; key = key_of_record r; before = old_of r; after = new_of r; live = true }

-- what the record makes of the changes before it: it adds its own, or takes back the newest live one of its transaction
abbrev pub kept_by : Bool → LogRecord → List Kept → List Kept
kept_by true r cs = cs ++ noted r ∷ []
kept_by false r cs = undone (tx_of_record r) cs

-- The changes, oldest first.
abbrev pub kept_of : List LogRecord → List Kept
kept_of [] = []
kept_of (r ∷ rs) = kept_by (tells_change r) r (kept_of rs)

abbrev pub stepped : Bool → LogRecord → List LogRecord → List LogRecord
stepped true r us = r ∷ us
stepped false r us = drop 1 us

-- the updates and claims of the transaction that aren't taken back, newest first
abbrev pub stack : ℕ → List LogRecord → List LogRecord
stack t [] = []
stack t (r ∷ rs) = if tx_of_record r == t then stepped (tells_change r) r (stack t rs) else stack t rs

abbrev pub led : Bool → LogRecord → List LogRecord → List LogRecord
led true r us = r ∷ us
led false r us = us

-- the updates and claims that are met on the way down from the record with the number
abbrev pub chain : List LogRecord → ℕ → List LogRecord
chain [] n = []
chain (r ∷ rs) n = if lsn_of r == n then led (tells_change r) r (chain rs (leads_to r)) else chain rs n

-- the records are numbered from 1, and point below themselves
abbrev pub IsNumbered : List LogRecord → Type 0
IsNumbered [] = Unit {0}
IsNumbered (r ∷ rs) = (lsn_of r ≡ length rs + 1) × (prev_of r ≤ length rs) × (leads_to r ≤ length rs) × IsNumbered rs

-- what a compensation or an unclaim tells of the newest change that isn't taken back
abbrev pub Undoes : LogRecord → List LogRecord → Type 0
Undoes c [] = ⊥
Undoes c (u ∷ us) = (leads_to c ≡ prev_of u) × (key_of_record c ≡ key_of_record u) × (back_in c ≡ back_in u)

abbrev pub UndoesUnless : Bool → LogRecord → List LogRecord → Type 0
UndoesUnless true r us = Unit {0}
UndoesUnless false r us = Undoes r us

-- what a record tells of those before it
abbrev pub IsWritten : LogRecord → List LogRecord → Type 0
IsWritten r rs = (prev_of r ≡ last_of (tx_of_record r) rs) × UndoesUnless (tells_change r) r (stack (tx_of_record r) rs)

abbrev pub AllWritten : List LogRecord → Type 0
AllWritten [] = Unit {0}
AllWritten (r ∷ rs) = IsWritten r rs × AllWritten rs
