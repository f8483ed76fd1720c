-- What an answer has, and else nothing.
use Rattle.std.specs.Prelude.{◌≡◌, ℕ, ℤ, List, Option, Some, None, Result, Ok, Err}
use Rattle.rec_types.specs.declared.transaction.TxId.{TxId}
use Rattle.record_file.specs.declared.fault.StatusFault.{StatusFault}
use Rattle.record_file.specs.declared.fault.Status.{Status}
use Rattle.recfile_c.specs.declared.outcome.Outcome.{Outcome}
use Rattle.recfile_c.specs.declared.shown.TxStatus.{TxStatus}
use Rattle.recfile_c.specs.Shown.{status_shown, no_status}

abbrev pub found_in : {E : Type 0} → Result (Option (List ℕ)) E → Option (List ℕ)
found_in (Ok found) = found
found_in (Err fault) = None

abbrev pub taken_in : {E : Type 0} → Result (List ℕ) E → Option (List ℕ)
taken_in (Ok taken) = Some taken
taken_in (Err fault) = None

abbrev pub number_in : {E : Type 0} → Result ℕ E → ℕ
number_in (Ok n) = n
number_in (Err fault) = 0

abbrev pub begun_in : {E : Type 0} → Result TxId E → ℕ
begun_in (Ok t) = t.0
begun_in (Err fault) = 0

abbrev pub TellsStatus : Result Status StatusFault → TxStatus → Type 0
TellsStatus (Ok status) told = status_shown told ≡ status
TellsStatus (Err fault) told = told ≡ no_status

-- a status is the one that is told beside it
abbrev pub IsStatusOf : ℤ → Outcome → Type 0
IsStatusOf status told = status ≡ told.status
