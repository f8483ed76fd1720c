-- Changes that aren't taken back, as they are met along a chain.
use Rattle.std.specs.Prelude.{ℕ, Bool, false, not, nat_lt, if◌then◌else◌, List, [], ◌∷◌, Option, Some, None, is_some, option_map}
use Rattle.std.specs.List.{list_any}
use Rattle.rec_types.specs.Contents.{same_key}
use Rattle.tx_log.specs.Log.{lsn_of, prev_of, key_of_record, old_of, new_of}
use Rattle.tx_log.specs.LogState.{step_of}
use Rattle.tx_log.specs.Owners.{says}
use Rattle.tx_log.specs.declared.phase.UndoStep.{UndoStep}
use Rattle.tx_log.specs.declared.log_record.LogRecord.{LogRecord}
use Rattle.tx_log.specs.declared.undo_chain.LiveChange.{LiveChange}
use Rattle.tx_log.specs.declared.undo_chain.Link.{Link}

abbrev pub change_in : LogRecord → LiveChange
change_in u = record { lsn = lsn_of u; prev = prev_of u; key = key_of_record u; before = old_of u; after = new_of u }

abbrev pub newest_in : List LogRecord → Option LiveChange
newest_in [] = None
newest_in (u ∷ us) = Some (change_in u)

-- a change without its records
abbrev pub link_of : LiveChange → Link
link_of c = record { lsn = c.lsn; prev = c.prev; key = c.key }

-- what a rollback does to take a change back
abbrev pub step_to : LiveChange → UndoStep
step_to c = step_of c.key (option_map (λ _. c.before) c.after)

abbrev pub is_at : List ℕ → LogRecord → Bool
is_at x u = same_key (key_of_record u) x

abbrev pub is_after : ℕ → LogRecord → Bool
is_after s u = nat_lt s (lsn_of u)

-- whether a key is out after a change there, where others there were live or not, and left it out or not
abbrev pub is_out : Option (Option (List ℕ)) → Bool → Bool
is_out None was = was
is_out (Some w) was = not (is_some w)

-- whether the changes, newest first, leave the key without a record
abbrev pub absent_at : List ℕ → List LogRecord → Bool
absent_at k [] = false
absent_at k (u ∷ us) = if is_at k u then is_out (says (new_of u) (list_any (is_at k) us) (old_of u)) (absent_at k us) else absent_at k us

-- what stood at a key before the oldest of the changes there, which stand newest first, or what was found before
abbrev pub oldest_at : List ℕ → List LogRecord → Option (Option (List ℕ)) → Option (Option (List ℕ))
oldest_at k [] found = found
oldest_at k (u ∷ us) found = oldest_at k us (if is_at k u then Some (old_of u) else found)
