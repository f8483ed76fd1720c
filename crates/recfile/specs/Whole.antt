-- What was read of a script.
use Rattle.std.specs.Prelude.{◌≡◌, ℕ, ◌+◌, ◌≤◌, true, false, List, [], length, Option}
use Rattle.std.specs.FinMap as maps
use Rattle.std.specs.Io.KnownBytes.{Consumes, IsAtEnd}
use Rattle.rec_types.specs.LimitBounds.{Bounds}
use Rattle.rec_types.specs.Calls.{no_calls}
use Rattle.rec_types.specs.Table.{no_damage}
use Rattle.record_file.specs.Abstract.{new_file}
use Rattle.record_file.specs.Runs.{Seen}

-- the bytes of the longest script
abbrev pub longest_script : ℕ
longest_script = 1048576

-- the script is all that a reader had, and is no longer than that
abbrev pub IsWhole : Option (List ℕ) → Option (List ℕ) → List ℕ → Type 0
IsWhole left leaves script = Consumes left leaves script × IsAtEnd leaves × (length script ≤ longest_script)

-- one byte more than that was taken
abbrev pub IsTooLong : Option (List ℕ) → Option (List ℕ) → Type 0
IsTooLong left leaves = (taken : List ℕ) × Consumes left leaves taken × (length taken ≡ longest_script + 1)

-- no more than so many bytes were taken
abbrev pub TakesAtMost : Option (List ℕ) → Option (List ℕ) → ℕ → Type 0
TakesAtMost left leaves most = (taken : List ℕ) × Consumes left leaves taken × (length taken ≤ most)

-- an empty file in memory, with these limits, in which nothing was begun
abbrev pub empty_file : Bounds → Seen
empty_file limits = record {
  file = new_file maps.empty limits;
  log = [];
  records = maps.empty;
  sound = true;
  failures = 0;
  refusals = 0;
  damages = no_damage;
  calls = no_calls;
  logged = false;
  commits = [];
  doubt = [];
}
