-- What the log allows at a key: what it refuses a look and a change of a transaction for, the earlier before the later.
use Rattle.std.specs.Prelude.{ℕ, ◌+◌, nat_lt, Bool, if◌then◌else◌, List, Option, Some, None, Result, Ok, Err}
use Rattle.tx_log.specs.LogState.{LogState, open_in, history_in, phase_in, use_in}
use Rattle.tx_log.specs.Owners.{holder_of}
use Rattle.tx_log.specs.declared.phase.Phase.{Phase}
use Rattle.tx_log.specs.declared.phase.Phase.TheVariants as phases
use Rattle.tx_log.specs.declared.refusal.LookRefusal.{LookRefusal}
use Rattle.tx_log.specs.declared.refusal.LookRefusal.TheVariants as look_refusals
use Rattle.tx_log.specs.declared.refusal.ChangeRefusal.{ChangeRefusal}
use Rattle.tx_log.specs.declared.refusal.ChangeRefusal.TheVariants as change_refusals

-- another transaction that owns the key refuses it
abbrev pub holder_refusal : Option ℕ → Option LookRefusal
holder_refusal None = None
holder_refusal (Some owner) = Some (look_refusals.Held (record { 0 = owner }))

-- the transaction has to be open, and active; `more` is what else a look is refused for
abbrev pub phase_refusal : Option LookRefusal → Option Phase → Option LookRefusal
phase_refusal more None = Some look_refusals.NoSuchTx
phase_refusal more (Some (phases.Rolling ends)) = Some look_refusals.Rolling
phase_refusal more (Some phases.Active) = more

-- what a look of the transaction at the key is refused for
abbrev pub look_refusal_in : LogState → ℕ → List ℕ → Option LookRefusal
look_refusal_in s t x = phase_refusal (holder_refusal (holder_of (open_in s) (history_in s) t x)) (phase_in s t)

-- what refuses a look refuses a change
abbrev pub as_change_refusal : LookRefusal → ChangeRefusal
as_change_refusal look_refusals.NoSuchTx = change_refusals.NoSuchTx
as_change_refusal look_refusals.Rolling = change_refusals.Rolling
as_change_refusal (look_refusals.Held owner) = change_refusals.Held owner

-- and a full log, where a look is allowed
abbrev pub room_refusal : Bool → Option LookRefusal → Option ChangeRefusal
room_refusal full None = if full then Some change_refusals.LogFull else None
room_refusal full (Some refusal) = Some (as_change_refusal refusal)

-- the log has no room for a change and for taking it back
abbrev pub is_log_full : LogState → Bool
is_log_full s = nat_lt s.limits.log_records (use_in s + 2)

-- what a change of the transaction at the key is refused for
abbrev pub change_refusal_in : LogState → ℕ → List ℕ → Option ChangeRefusal
change_refusal_in s t x = room_refusal (is_log_full s) (look_refusal_in s t x)

-- allowed exactly where nothing refuses it
abbrev pub unless_refused : {F : Type 0} → Option F → Result Unit F
unless_refused None = Ok tt
unless_refused (Some refusal) = Err refusal
