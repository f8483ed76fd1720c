-- What a disk in files notes of what it did. What its files are as reads see them, and what a crash leaves of them, follows from that.
use Rattle.std.specs.Prelude.{◌≡◌, ◌⊎◌, ℕ, ◌+◌, ◌-◌, ◌≤◌, ◌==◌, Bool, true, false, List, [], ◌∷◌, ◌++◌, Some, None, if◌then◌else◌, option_map, is_some, length, take, drop, slice_set, slice_index}
use mathlib.Core.Logic.{inl, inr}
use Rattle.std.proofs.Math.Nat.{not-suc-le_self}
use Rattle.page_store.specs.Blank.{blanks}
use Rattle.commit_paper.specs.Text.{zeros}
use Rattle.commit_paper.specs.Steps.{Lengthens, Inks}
use Rattle.page_journal.specs.Files.{Files, SideFile, no_commits}
use Rattle.page_journal.specs.Steps.{nothing_kept, begun, kept_more, bytes_over, zeroed, TornAt, GrowsUpTo, CutsTo, Fresh, Names, RemovesSide, FreshLog, NamesLog, RemovesLog, ChangesLog, KeepsLog, InCommits}

-- a changing call
pub data FileCall : Type 0 where
  Write : ℕ → List ℕ → FileCall
  Grow : ℕ → FileCall
  Cut : ℕ → FileCall
  CutTail : FileCall
  Sync : FileCall
  Start : ℕ → ℕ → FileCall
  Keep : ℕ → List ℕ → FileCall
  SyncFresh : FileCall
  Name : FileCall
  Remove : FileCall
  SyncNames : FileCall
  StartLog : List ℕ → ℕ → FileCall
  SyncFreshLog : FileCall
  NameLog : FileCall
  RemoveLog : FileCall
  LengthenLog : ℕ → ℕ → FileCall
  WriteLog : ℕ → List ℕ → FileCall
  SyncLog : FileCall

-- a call that was made, and whether it failed
pub record Noted : Type 0 where
  pub failed : Bool
  pub call : FileCall

-- the file was opened with so many pages and that tail; its calls count from now on; or a call
pub data FileEvent : Type 0 where
  Opened : ℕ → ℕ → FileEvent
  BegunAgain : FileEvent
  Called : Bool → FileCall → FileEvent

-- the kinds of calls by number
abbrev pub call_by_numbers : ℕ → ℕ → ℕ → List ℕ → FileCall
call_by_numbers kind a b bytes =
    if kind == 2 then Write a bytes
    else if kind == 3 then Grow a
    else if kind == 4 then Cut a
    else if kind == 19 then CutTail
    else if kind == 5 then Sync
    else if kind == 6 then Start a b
    else if kind == 7 then Keep a bytes
    else if kind == 8 then SyncFresh
    else if kind == 9 then Name
    else if kind == 10 then Remove
    else if kind == 11 then SyncNames
    else if kind == 12 then StartLog bytes a
    else if kind == 13 then SyncFreshLog
    else if kind == 14 then NameLog
    else if kind == 15 then RemoveLog
    else if kind == 16 then LengthenLog a b
    else if kind == 17 then WriteLog a bytes
    else SyncLog

-- what numbers and bytes say: the kind, two more numbers, and 1 where a call failed
abbrev pub event_by_numbers : List ℕ → List ℕ → FileEvent
event_by_numbers numbers bytes =
    if slice_index numbers 0 == 0 then Opened (slice_index numbers 1) (slice_index numbers 2)
    else if slice_index numbers 0 == 1 then BegunAgain
    else Called (slice_index numbers 3 == 1) (call_by_numbers (slice_index numbers 0) (slice_index numbers 1) (slice_index numbers 2) bytes)

-- what the files were when a disk was opened that has so many pages and that tail; and what stands after a call that failed, as the i-th, where anything may: no clause says what these are
unfoldable pub unknown_side : ℕ → SideFile
unknown_side i = nothing_kept 0

unfoldable pub unknown_bytes : ℕ → List ℕ
unknown_bytes i = []

-- of bytes that were to be written over others, which of them are there
unfoldable pub unknown_mix : ℕ → List ℕ → List ℕ → List ℕ
unknown_mix i olds news = olds

unfoldable pub files_found : ℕ → ℕ → Files
files_found pages tail = record { main = record { pages = blanks pages; tail = tail }; fresh = nothing_kept 0; side = None; commits = no_commits }

-- the files after a call that is done
abbrev pub noted_done : FileCall → Files → Files
noted_done (Write n page) f = record f { main = record { pages = slice_set f.main.pages n page; tail = f.main.tail } }
noted_done (Grow n) f = record f { main = record { pages = f.main.pages ++ blanks (n - length f.main.pages); tail = 0 } }
noted_done (Cut n) f = record f { main = record { pages = take n f.main.pages; tail = 0 } }
noted_done CutTail f = record f { main = record { pages = f.main.pages; tail = 0 } }
noted_done Sync f = f
noted_done (Start long rest) f = record f { fresh = begun long rest }
noted_done (Keep n page) f = record f { fresh = kept_more f.fresh n page }
noted_done SyncFresh f = f
noted_done Name f = record f { fresh = nothing_kept 0; side = Some f.fresh }
noted_done Remove f = record f { side = None }
noted_done SyncNames f = f
noted_done (StartLog head room) f = record f { commits = record f.commits { fresh = head ++ zeros room } }
noted_done SyncFreshLog f = f
noted_done NameLog f = record f { commits = record { fresh = []; log = Some f.commits.fresh } }
noted_done RemoveLog f = record f { commits = record f.commits { log = None } }
noted_done (LengthenLog at n) f = record f { commits = record f.commits { log = option_map (zeroed at n) f.commits.log } }
noted_done (WriteLog at bytes) f = record f { commits = record f.commits { log = option_map (bytes_over at bytes) f.commits.log } }
noted_done SyncLog f = f

-- after one that failed, as the i-th: what may be anything then is unknown, and what is done at once or not at all isn't done
abbrev pub noted_failed : ℕ → FileCall → Files → Files
noted_failed i (Write n page) f = record f { main = record { pages = slice_set f.main.pages n (unknown_bytes i); tail = f.main.tail } }
noted_failed i (Grow n) f = f
noted_failed i (Cut n) f = f
noted_failed i CutTail f = f
noted_failed i Sync f = f
noted_failed i (Start long rest) f = record f { fresh = unknown_side i }
noted_failed i (Keep n page) f = record f { fresh = unknown_side i }
noted_failed i SyncFresh f = f
noted_failed i Name f = record f { fresh = unknown_side i }
noted_failed i Remove f = f
noted_failed i SyncNames f = f
noted_failed i (StartLog head room) f = record f { commits = record f.commits { fresh = unknown_bytes i } }
noted_failed i SyncFreshLog f = f
noted_failed i NameLog f = f
noted_failed i RemoveLog f = f
noted_failed i (LengthenLog at n) f = record f { commits = record f.commits { log = option_map (λ old. take at old ++ unknown_bytes i) f.commits.log } }
noted_failed i (WriteLog at bytes) f = record f { commits = record f.commits { log = option_map (λ old. take at old ++ unknown_mix i (take (length bytes) (drop at old)) bytes ++ drop (at + length bytes) old) f.commits.log } }
noted_failed i SyncLog f = f

-- the tail is anything, and nothing else has changed
pub record CutsTail (d c : Files) : Type 0 where
  pub pages : c.main.pages ≡ d.main.pages
  pub fresh : c.fresh ≡ d.fresh
  pub side : c.side ≡ d.side
  pub commits : c.commits ≡ d.commits

-- what a crash may make of a call that was tried: it is done, not done or torn
abbrev pub noted_tried : FileCall → Files → Files → Type 0
noted_tried (Write n page) d c = TornAt n d c
noted_tried (Grow n) d c = GrowsUpTo n d c
noted_tried (Cut n) d c = CutsTo n d c
noted_tried CutTail d c = CutsTail d c
noted_tried Sync d c = c ≡ d
noted_tried (Start long rest) d c = Fresh d c
noted_tried (Keep n page) d c = Fresh d c
noted_tried SyncFresh d c = c ≡ d
noted_tried Name d c = Names d c
noted_tried Remove d c = RemovesSide d c
noted_tried SyncNames d c = c ≡ d
noted_tried (StartLog head room) d c = InCommits FreshLog d c
noted_tried SyncFreshLog d c = c ≡ d
noted_tried NameLog d c = InCommits NamesLog d c
noted_tried RemoveLog d c = InCommits RemovesLog d c
noted_tried (LengthenLog at n) d c = InCommits (ChangesLog (Lengthens at)) d c
noted_tried (WriteLog at bytes) d c = InCommits (ChangesLog (Inks at bytes)) d c
noted_tried SyncLog d c = c ≡ d

-- what the device keeps at a call that succeeded, where reads see the files seen
abbrev pub noted_keeps : FileCall → Files → Files → Type 0
noted_keeps (Write n page) seen c = Unit {0}
noted_keeps (Grow n) seen c = Unit {0}
noted_keeps (Cut n) seen c = Unit {0}
noted_keeps CutTail seen c = Unit {0}
noted_keeps Sync seen c = c.main ≡ seen.main
noted_keeps (Start long rest) seen c = Unit {0}
noted_keeps (Keep n page) seen c = Unit {0}
noted_keeps SyncFresh seen c = c.fresh ≡ seen.fresh
noted_keeps Name seen c = Unit {0}
noted_keeps Remove seen c = Unit {0}
noted_keeps SyncNames seen c = (is_some c.side ≡ is_some seen.side) × (is_some c.commits.log ≡ is_some seen.commits.log)
noted_keeps (StartLog head room) seen c = Unit {0}
noted_keeps SyncFreshLog seen c = c.commits.fresh ≡ seen.commits.fresh
noted_keeps NameLog seen c = Unit {0}
noted_keeps RemoveLog seen c = Unit {0}
noted_keeps (LengthenLog at n) seen c = Unit {0}
noted_keeps (WriteLog at bytes) seen c = Unit {0}
noted_keeps SyncLog seen c = KeepsLog seen.commits c.commits

-- as reads see it
abbrev pub after_noted : ℕ → Bool → FileCall → Files → Files
after_noted i false call f = noted_done call f
after_noted i true call f = noted_failed i call f

-- as a crash leaves it
abbrev pub noted_leads : Bool → FileCall → Files → Files → Files → Type 0
noted_leads false call seen d c = noted_tried call d c × noted_keeps call seen c
noted_leads true call seen d c = noted_tried call d c

-- the files after these calls, the newest of which stands first
abbrev pub all_noted : Files → List Noted → Files
all_noted first [] = first
all_noted first (made ∷ earlier) = after_noted (length earlier) made.failed made.call (all_noted first earlier)

-- what a crash after these calls may leave
abbrev pub NotedMayLeave : Files → List Noted → Files → Type 0
NotedMayLeave first [] c = c ≡ first
NotedMayLeave first (made ∷ earlier) c = (d : Files) × NotedMayLeave first earlier d × noted_leads made.failed made.call (all_noted first earlier) d c

-- what a crash after the first t of these calls or later might have left
abbrev pub NotedLeftSince : Files → List Noted → ℕ → Files → Type 0
NotedLeftSince first [] t c = NotedMayLeave first [] c
NotedLeftSince first (made ∷ earlier) t c = NotedMayLeave first (made ∷ earlier) c ⊎ ((t ≤ length earlier) × NotedLeftSince first earlier t c)

-- the files at first, and each call since then
pub record Since : Type 0 where
  pub first : Files
  pub calls : List Noted

-- what the events make of that
abbrev pub since_then : Since → FileEvent → Since
since_then s (Opened pages tail) = record { first = files_found pages tail; calls = [] }
since_then s BegunAgain = record { first = all_noted s.first s.calls; calls = [] }
since_then s (Called failed call) = record { first = s.first; calls = record { failed = failed; call = call } ∷ s.calls }

abbrev pub since : List FileEvent → Since
since [] = record { first = files_found 0 0; calls = [] }
since (event ∷ earlier) = since_then (since earlier) event

-- what reads see
abbrev pub seen_by : List FileEvent → Files
seen_by events = all_noted (since events).first (since events).calls

-- what contracts see of a disk in files
pub record FileHistory : Type 0 where
  pub first : Files
  pub calls : List Noted
  pub failures : ℕ

abbrev pub history : List FileEvent → ℕ → FileHistory
history events failures = record { first = (since events).first; calls = (since events).calls; failures = failures }

-- whether a call leaves the length of the file
abbrev pub keeps_length : FileCall → Bool
keeps_length (Write n page) = true
keeps_length (Grow n) = false
keeps_length (Cut n) = false
keeps_length CutTail = false
keeps_length Sync = true
keeps_length (Start long rest) = true
keeps_length (Keep n page) = true
keeps_length SyncFresh = true
keeps_length Name = true
keeps_length Remove = true
keeps_length SyncNames = true
keeps_length (StartLog head room) = true
keeps_length SyncFreshLog = true
keeps_length NameLog = true
keeps_length RemoveLog = true
keeps_length (LengthenLog at n) = true
keeps_length (WriteLog at bytes) = true
keeps_length SyncLog = true

-- one call more
abbrev pub with_noted : FileHistory → Bool → FileCall → FileHistory
with_noted h failed call = record { first = h.first; calls = record { failed = failed; call = call } ∷ h.calls; failures = h.failures }

-- what holds of outcomes, for the laws of a disk
pub noted_left_now : (first : Files) (calls : List Noted) (t : ℕ) (c : Files) → NotedMayLeave first calls c → NotedLeftSince first calls t c
noted_left_now first [] t c left = left
noted_left_now first (call ∷ earlier) t c left = inl left

pub only_noted_left_now : (first : Files) (calls : List Noted) (c : Files) → NotedLeftSince first calls (length calls) c → NotedMayLeave first calls c
only_noted_left_now first [] c left = left
only_noted_left_now first (call ∷ earlier) c (inl left) = left
only_noted_left_now first (call ∷ earlier) c (inr was) = absurd (not-suc-le_self (length earlier) was.0)
