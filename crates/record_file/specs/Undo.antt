-- What a run's calls answered of the records that stood before their changes, and the files that a
-- run starts from.
use Rattle.std.specs.Prelude.{◌≡◌, ℕ, ◌≤◌, true, false, List, [], ◌∷◌, Option, Some, None, Ok, IsTrue}
use Rattle.std.specs.FinMap as maps
use Rattle.rec_types.specs.History.{Change}
use Rattle.record_file.specs.Abstract.{new_file}
use Rattle.record_file.specs.Runs.{Called, Event, Seen, Put, Claim, Remove}

-- A sound table with no more records than the limit, over which nothing was begun.
pub record Starts (s : Seen) : Type 0 where
  pub sound : IsTrue s.sound
  pub file : s.file ≡ new_file s.records s.file.limits
  pub log : s.log ≡ []
  pub within : maps.len s.records ≤ s.file.limits.records

-- the old record that an accepted put, removal or claim answered
abbrev pub old_record : Called → Option (Option (List ℕ))
old_record (Put t x r (Ok before)) = Some before
old_record (Claim t x (Ok seen)) = Some seen
old_record (Remove t x (Ok before)) = Some (Some before)
old_record called = None

abbrev pub with_first : Option (Option (List ℕ)) → List (Option (List ℕ)) → List (Option (List ℕ))
with_first None later = later
with_first (Some first) later = first ∷ later

-- The old records that the accepted changes of a run answered, in order: the n-th is that of the
-- history's n-th change.
abbrev pub old_records : List Event → List (Option (List ℕ))
old_records [] = []
old_records (e ∷ es) = with_first (old_record e.called) (old_records es)

-- a live change of transaction t that wrote record [r] at key [x]
abbrev pub wrote : ℕ → ℕ → ℕ → Change
wrote t x r = record { tx = t; key = x ∷ []; after = Some (Some (r ∷ [])); live = true }

-- a live claim of transaction t at key [x]
abbrev pub claimed : ℕ → ℕ → Change
claimed t x = record { tx = t; key = x ∷ []; after = None; live = true }

-- a call to which nothing came from outside
abbrev pub quiet : Called → Event
quiet called = record { called = called; failed = false; refused = false }
