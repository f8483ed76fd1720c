-- What the log refuses a call at a key for is what the file does.
use Rattle.std.proofs.Common.{◌≡◌, ℕ, ◌+◌, nat_lt, Bool, true, false, ◌&&◌, if◌then◌else◌, List, Option, Some, None, refl}
use Rattle.rec_types.specs.Contents.{Contents}
use Rattle.tx_log.specs.LogRefusals.{look_refusal_in, change_refusal_in, holder_refusal, phase_refusal, room_refusal, unless_refused}
use Rattle.tx_log.specs.LogState.{LogState, open_in, history_in, phase_in}
use Rattle.tx_log.specs.Owners.{holder_of}
use Rattle.tx_log.specs.declared.phase.Phase.{Phase}
use Rattle.tx_log.specs.declared.phase.Phase.TheVariants.{Active, Rolling}
use Rattle.record_file.specs.Abstract.{file_of, use_of}
use Rattle.record_file.specs.Refusals.{look_refusal, change_refusal, refusal_by}
use Rattle.record_file.specs.Steps.{active_refusal, held_refusal, key_refusal}
use Rattle.record_file.specs.declared.refusal.Refusal.TheVariants as refusals

-- of a look
pub look_refused_alike : (log : LogState) (m : Contents) (t : ℕ) (x : List ℕ) → refusal_by look_refusal (unless_refused (look_refusal_in log t x)) ≡ key_refusal false (file_of log m) t x
look_refused_alike log m t x = at (phase_in log t) (holder_of (open_in log) (history_in log) t x)
  where
    at : (p : Option Phase) (h : Option ℕ) → refusal_by look_refusal (unless_refused (phase_refusal (holder_refusal h) p)) ≡ active_refusal (held_refusal false (file_of log m) h) p
    at None h = refl
    at (Some (Rolling ends)) h = refl
    at (Some Active) None = refl
    at (Some Active) (Some owner) = refl

-- of a change
pub change_refused_alike : (log : LogState) (m : Contents) (t : ℕ) (x : List ℕ) → refusal_by change_refusal (unless_refused (change_refusal_in log t x)) ≡ key_refusal true (file_of log m) t x
change_refused_alike log m t x = at (phase_in log t) (holder_of (open_in log) (history_in log) t x)
  where
    room : (b : Bool) → refusal_by change_refusal (unless_refused (room_refusal b None)) ≡ if true && b then Some refusals.LogFull else None
    room true = refl
    room false = refl

    at : (p : Option Phase) (h : Option ℕ) → refusal_by change_refusal (unless_refused (room_refusal (nat_lt log.limits.log_records (use_of (file_of log m) + 2)) (phase_refusal (holder_refusal h) p))) ≡ active_refusal (held_refusal true (file_of log m) h) p
    at None h = refl
    at (Some (Rolling ends)) h = refl
    at (Some Active) None = room (nat_lt log.limits.log_records (use_of (file_of log m) + 2))
    at (Some Active) (Some owner) = refl
