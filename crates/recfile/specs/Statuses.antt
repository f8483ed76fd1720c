-- What the status of a session tells.
use Rattle.std.specs.Prelude.{ℕ, Bool, if◌then◌else◌}

-- 4 where a transaction couldn't be ended, else 1 for a fault of the file, else 3 where the script had a fault or a
-- refusal ended it, else 0
abbrev pub exit_status_of : Bool → Bool → Bool → ℕ
exit_status_of end_stopped file_fault script_fault = if end_stopped then 4 else (if file_fault then 1 else (if script_fault then 3 else 0))
