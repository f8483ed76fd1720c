-- Files and calls that the laws show things by.
use Rattle.std.specs.Prelude.{ℕ, Bool, false, List, [], ◌∷◌, None, Some, Vec}
use Rattle.std.specs.declared.alloc.Global.{Global}
use Rattle.page_journal.specs.Files.{PageFile, SideFile, Files, no_commits}
use Rattle.page_journal.specs.Steps.{nothing_kept}
use Rattle.page_journal.specs.Sums.{sum_start, sum_on}
use Rattle.page_journal.specs.FileEvents as events
use Rattle.page_journal.specs.FileEvents.{Noted, FileHistory}
use Rattle.page_store.specs.declared.step.Step.{Step}
use Rattle.page_store.specs.declared.step.Step.TheVariants as steps
use Rattle.page_journal.specs.declared.disk_call.DiskCall.{DiskCall}
use Rattle.page_journal.specs.declared.disk_call.DiskCall.TheVariants.{Write, Start, Keep, SyncFresh, Name, SyncNames, Commits}
use Rattle.page_journal.specs.declared.commit_call.CommitCall.TheVariants as commits

-- a file of two pages, whose bytes are not spelt
abbrev pub pages_of_two : ℕ → ℕ → PageFile
pages_of_two a b = record { pages = (a ∷ []) ∷ (b ∷ []) ∷ []; tail = 0 }

-- it, with no side file
abbrev pub without_side_file : PageFile → Files
without_side_file main = record { main = main; fresh = nothing_kept 0; side = None; commits = no_commits }

abbrev pub old_file : PageFile
old_file = pages_of_two 1 2

-- page 1 as it was
abbrev pub page_1_kept : SideFile
page_1_kept = record { long = 2; rest = None; pages = (1, 2 ∷ []) ∷ [] }

-- a page of four bytes, and a file of two such
abbrev pub word : ℕ → List ℕ
word a = 0 ∷ 0 ∷ 0 ∷ a ∷ []

abbrev pub words : ℕ → ℕ → List (List ℕ)
words a b = word a ∷ word b ∷ []

-- its page 1 as it was, and the sum over its page 0
abbrev pub word_kept : SideFile
word_kept = record { long = 2; rest = Some (sum_on sum_start (word 1)); pages = (1, word 2) ∷ [] }

-- page 1 written over, and a page added
abbrev pub page_1_written_over : List (List ℕ)
page_1_written_over = (1 ∷ []) ∷ (9 ∷ []) ∷ (8 ∷ []) ∷ []

-- page 0 written over, too
abbrev pub both_written : List (List ℕ)
both_written = (7 ∷ []) ∷ (9 ∷ []) ∷ []

-- page 0 written and then page 1: the newest call stands first
abbrev pub both_writes : List DiskCall
both_writes = Write 1 (9 ∷ []) ∷ Write 0 (7 ∷ []) ∷ []

-- both pages kept in a side file that the device keeps
abbrev pub side_made : List DiskCall
side_made = SyncFresh ∷ Keep 1 (2 ∷ []) ∷ Keep 0 (1 ∷ []) ∷ Start 2 sum_start ∷ []

-- which then gets the name, and the device keeps that
abbrev pub side_named : List DiskCall
side_named = SyncNames ∷ Name ∷ side_made

-- the same with a side file that the device doesn't keep
abbrev pub named_early : List DiskCall
named_early = SyncNames ∷ Name ∷ Keep 1 (2 ∷ []) ∷ Keep 0 (1 ∷ []) ∷ Start 2 sum_start ∷ []

-- a log of these bytes that the device keeps, which then gets the name, and the device keeps that
abbrev pub log_made : Vec ℕ Global → List DiskCall
log_made bytes = SyncNames ∷ Commits commits.Name ∷ Commits commits.SyncFresh ∷ Commits (commits.Start bytes) ∷ []

-- the same with a log that the device doesn't keep
abbrev pub log_named_early : Vec ℕ Global → List DiskCall
log_named_early bytes = SyncNames ∷ Commits commits.Name ∷ Commits (commits.Start bytes) ∷ []

-- a file beside which a log has these bytes
abbrev pub with_log : PageFile → List ℕ → Files
with_log main bytes = record { main = main; fresh = nothing_kept 0; side = None; commits = record { fresh = []; log = Some bytes } }

-- a side file that has another page 0
abbrev pub bad_side : Files
bad_side = record { main = old_file; fresh = nothing_kept 0; side = Some (record { long = 2; rest = None; pages = (0, 5 ∷ []) ∷ [] }); commits = no_commits }

-- the page that is kept is written, and one is added
abbrev pub page_1_steps : List Step
page_1_steps = steps.SetPages 3 ∷ steps.Write 1 (9 ∷ []) ∷ steps.Sync ∷ []

-- and the other page, too
abbrev pub both_steps : List Step
both_steps = steps.Write 0 (7 ∷ []) ∷ page_1_steps

-- a write of page 0 and a sync of which is said whether it failed, as a disk in files notes them, the newest first
abbrev pub noted_write_and_sync : Bool → List Noted
noted_write_and_sync failed = record { failed = failed; call = events.Sync } ∷ record { failed = false; call = events.Write 0 (7 ∷ []) } ∷ []

-- and then a write of page 1
abbrev pub three_noted : Bool → List Noted
three_noted failed = record { failed = false; call = events.Write 1 (9 ∷ []) } ∷ noted_write_and_sync failed

-- a disk in files that noted these calls over the old file, and counted a failure
abbrev pub noted_over : List Noted → FileHistory
noted_over calls = record { first = without_side_file old_file; calls = calls; failures = 1 }
