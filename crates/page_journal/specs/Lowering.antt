-- The calls of the system that calls of a disk are, in bytes.
use Rattle.std.specs.Prelude.{ℕ, ◌+◌, ◌*◌, ◌==◌, List, [], ◌∷◌, ◌++◌, Some, cond}
use Rattle.commit_paper.specs.Text.{zeros}
use Rattle.rec_types.specs.Widths.{page_width}
use Rattle.page_journal.specs.SideBytes.{Tally, first_tally, tally_more, tally_header, entry_bytes, header_width}
use Rattle.page_journal.specs.declared.commit_call.CommitCall.{CommitCall}
use Rattle.page_journal.specs.declared.commit_call.CommitCall.TheVariants as commits
use Rattle.page_journal.specs.declared.disk_call.DiskCall.{DiskCall}
use Rattle.page_journal.specs.declared.disk_call.DiskCall.TheVariants as calls
use Rattle.page_journal.specs.declared.system_call.CallFile.{CallFile}
use Rattle.page_journal.specs.declared.system_call.CallFile.TheVariants.{Main, FreshSide, Side, FreshLog, Log}
use Rattle.page_journal.specs.declared.system_call.SystemCall.{SystemCall}
use Rattle.page_journal.specs.declared.system_call.SystemCall.TheVariants as systems

-- a call of the system
pub data Sys : Type 0 where
  WriteAt : CallFile → ℕ → List ℕ → Sys
  SetLength : CallFile → ℕ → Sys
  Make : CallFile → Sys
  SetMode : CallFile → Sys
  Rename : CallFile → CallFile → Sys
  Unlink : CallFile → Sys
  Sync : CallFile → Sys
  SyncData : CallFile → Sys
  SyncFolder : Sys

-- what the program's value says
abbrev pub sys_of : SystemCall → Sys
sys_of (systems.Write file at bytes) = WriteAt file at bytes.items
sys_of (systems.SetLength file n) = SetLength file n
sys_of (systems.Make file) = Make file
sys_of (systems.SetMode file) = SetMode file
sys_of (systems.Rename file other) = Rename file other
sys_of (systems.Unlink file) = Unlink file
sys_of (systems.Sync file) = Sync file
sys_of (systems.SyncData file) = SyncData file
sys_of systems.SyncFolder = SyncFolder

-- how many pages the file has, how many bytes behind them, and the side file that is being made
pub record Lowered : Type 0 where
  pub pages : ℕ
  pub tail : ℕ
  pub tally : Tally

-- a tail is cut off before a file is made longer, so that new pages are zero
abbrev pub tail_cut : Lowered → List Sys
tail_cut l = cond (l.tail == 0) [] (SetLength Main (l.pages * page_width) ∷ [])

abbrev pub lowered_commit : CommitCall → List Sys
lowered_commit (commits.Start bytes) = Make FreshLog ∷ WriteAt FreshLog 0 bytes.items ∷ []
lowered_commit commits.SyncFresh = Sync FreshLog ∷ SetMode FreshLog ∷ []
lowered_commit commits.Name = Rename FreshLog Log ∷ []
lowered_commit commits.Remove = Unlink Log ∷ []
lowered_commit (commits.Lengthen at n) = SetLength Log at ∷ WriteAt Log at (zeros n) ∷ []
lowered_commit (commits.Write at bytes) = WriteAt Log at bytes.items ∷ []
lowered_commit commits.Sync = SyncData Log ∷ []

abbrev pub lowered_call : Lowered → DiskCall → List Sys
lowered_call l (calls.Write n page) = WriteAt Main (n * page_width) page ∷ []
lowered_call l (calls.Grow n) = tail_cut l ++ SetLength Main (n * page_width) ∷ []
lowered_call l (calls.Cut n) = SetLength Main (n * page_width) ∷ []
lowered_call l calls.Sync = Sync Main ∷ []
lowered_call l (calls.Start long rest) = Make FreshSide ∷ []
lowered_call l (calls.Keep n page) = WriteAt FreshSide (header_width l.tally.rest + 4100 * l.tally.kept) (entry_bytes n page) ∷ []
lowered_call l calls.SyncFresh = WriteAt FreshSide 0 (tally_header l.tally) ∷ Sync FreshSide ∷ SetMode FreshSide ∷ []
lowered_call l calls.Name = Rename FreshSide Side ∷ []
lowered_call l calls.Remove = Unlink Side ∷ []
lowered_call l calls.SyncNames = SyncFolder ∷ []
lowered_call l (calls.Commits call) = lowered_commit call

-- what is known then
abbrev pub lowered_next : Lowered → DiskCall → Lowered
lowered_next l (calls.Write n page) = l
lowered_next l (calls.Grow n) = record { pages = n; tail = 0; tally = l.tally }
lowered_next l (calls.Cut n) = record { pages = n; tail = 0; tally = l.tally }
lowered_next l calls.Sync = l
lowered_next l (calls.Start long rest) = record { pages = l.pages; tail = l.tail; tally = first_tally long (Some rest) }
lowered_next l (calls.Keep n page) = record { pages = l.pages; tail = l.tail; tally = tally_more l.tally n (entry_bytes n page) }
lowered_next l calls.SyncFresh = l
lowered_next l calls.Name = l
lowered_next l calls.Remove = l
lowered_next l calls.SyncNames = l
lowered_next l (calls.Commits call) = l
