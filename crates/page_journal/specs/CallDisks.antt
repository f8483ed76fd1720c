-- What a disk of calls keeps, and what a crash leaves of a front of its calls.
use Rattle.std.specs.Prelude.{ℕ, ◌≤◌, true, List, [], ◌∷◌, ◌++◌, length}
use Rattle.rec_types.specs.Table.{counted}
use Rattle.page_journal.specs.Files.{Files}
use Rattle.page_journal.specs.Fates.{first_calls}
use Rattle.page_journal.specs.History.{History, MayLeave}
use Rattle.page_journal.specs.declared.disk_call.DiskCall.{DiskCall}

-- the files at first, the calls that were handed out and those that weren't yet, the newest of which stands first, and how many calls failed
pub record Recorded : Type 0 where
  pub first : Files
  pub past : List DiskCall
  pub calls : List DiskCall
  pub failures : ℕ

-- all calls
abbrev pub all_calls : Recorded → List DiskCall
all_calls r = r.calls ++ r.past

abbrev pub recorded_history : Recorded → History
recorded_history r = record { first = r.first; calls = r.calls ++ r.past; failures = r.failures }

-- a disk over these files
abbrev pub recorded_over : Files → Recorded
recorded_over files = record { first = files; past = []; calls = []; failures = 0 }

-- one changing call more
abbrev pub recorded_more : Recorded → DiskCall → Recorded
recorded_more r call = record { first = r.first; past = r.past; calls = call ∷ r.calls; failures = r.failures }

-- all of them were handed out
abbrev pub handed_out : Recorded → Recorded
handed_out r = record { first = r.first; past = r.calls ++ r.past; calls = []; failures = r.failures }

-- one failure more
abbrev pub recorded_failure : Recorded → Recorded
recorded_failure r = record { first = r.first; past = r.past; calls = r.calls; failures = counted r.failures true }

-- Whoever carries calls out one after another and stops where one fails: when k of them are done, and the next one or a part of it is or isn't, a crash leaves what the first k calls may leave or the first k + 1; a sync that is cut off leaves what there was before it. So this says it of every such crash from the t-th call on: it leaves files that have P.
abbrev pub EachFrontLeaves : Files → List DiskCall → ℕ → (Files → Type 0) → Type 0
EachFrontLeaves first calls t P = (k : ℕ) → t ≤ k → k ≤ length calls → (c : Files) → MayLeave first (first_calls k calls) c → P c
