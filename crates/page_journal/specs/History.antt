-- What a disk in memory keeps: what was there at first, and each changing call since then. What a crash leaves follows from that.
use Rattle.std.specs.Prelude.{◌≡◌, ◌⊎◌, ℕ, ◌-◌, ◌≤◌, List, [], ◌∷◌, ◌++◌, true, Some, None, option_map, is_some, length, take, slice_set, Result, OnErr}
use mathlib.Core.Logic.{inl, inr}
use Rattle.std.proofs.Math.Nat.{not-suc-le_self}
use Rattle.rec_types.specs.Table.{counted}
use Rattle.page_store.specs.Blank.{blanks}
use Rattle.commit_paper.specs.Steps.{Lengthens, Inks}
use Rattle.page_journal.specs.Files.{CommitFiles, Files}
use Rattle.page_journal.specs.Steps.{nothing_kept, begun, kept_more, bytes_over, zeroed, TornAt, GrowsUpTo, CutsTo, Fresh, Names, RemovesSide, FreshLog, NamesLog, RemovesLog, ChangesLog, KeepsLog, InCommits}
use Rattle.page_journal.specs.declared.commit_call.CommitCall.{CommitCall}
use Rattle.page_journal.specs.declared.commit_call.CommitCall.TheVariants as calls
use Rattle.page_journal.specs.declared.disk_call.DiskCall.{DiskCall}
use Rattle.page_journal.specs.declared.disk_call.DiskCall.TheVariants.{Write, Grow, Cut, Sync, Start, Keep, SyncFresh, Name, Remove, SyncNames, Commits}

-- the logs of commits after a call on them that is done
abbrev pub commits_done : CommitCall → CommitFiles → CommitFiles
commits_done (calls.Start bytes) f = record f { fresh = bytes.items }
commits_done calls.SyncFresh f = f
commits_done calls.Name f = record { fresh = []; log = Some f.fresh }
commits_done calls.Remove f = record f { log = None }
commits_done (calls.Lengthen at n) f = record f { log = option_map (zeroed at n) f.log }
commits_done (calls.Write at bytes) f = record f { log = option_map (bytes_over at bytes.items) f.log }
commits_done calls.Sync f = f

-- what it may lead to, as of the other calls
abbrev pub commits_lead : CommitCall → CommitFiles → CommitFiles → CommitFiles → Type 0
commits_lead (calls.Start bytes) seen d c = FreshLog d c
commits_lead calls.SyncFresh seen d c = (c ≡ d) × (c.fresh ≡ seen.fresh)
commits_lead calls.Name seen d c = NamesLog d c
commits_lead calls.Remove seen d c = RemovesLog d c
commits_lead (calls.Lengthen at n) seen d c = ChangesLog (Lengthens at) d c
commits_lead (calls.Write at bytes) seen d c = ChangesLog (Inks at bytes.items) d c
commits_lead calls.Sync seen d c = (c ≡ d) × KeepsLog seen c

-- the files after a call that is done
abbrev pub done : DiskCall → Files → Files
done (Write n page) f = record f { main = record { pages = slice_set f.main.pages n page; tail = f.main.tail } }
done (Grow n) f = record f { main = record { pages = f.main.pages ++ blanks (n - length f.main.pages); tail = 0 } }
done (Cut n) f = record f { main = record { pages = take n f.main.pages; tail = 0 } }
done Sync f = f
done (Start long rest) f = record f { fresh = begun long rest }
done (Keep n page) f = record f { fresh = kept_more f.fresh n page }
done SyncFresh f = f
done Name f = record f { fresh = nothing_kept 0; side = Some f.fresh }
done Remove f = record f { side = None }
done SyncNames f = f
done (Commits call) f = record f { commits = commits_done call f.commits }

-- what a call may lead to where a crash may leave d and reads see the files seen: the call is done, not done or torn, and a sync leaves out what isn't seen
abbrev pub leads : DiskCall → Files → Files → Files → Type 0
leads (Write n page) seen d c = TornAt n d c
leads (Grow n) seen d c = GrowsUpTo n d c
leads (Cut n) seen d c = CutsTo n d c
leads Sync seen d c = (c ≡ d) × (c.main ≡ seen.main)
leads (Start long rest) seen d c = Fresh d c
leads (Keep n page) seen d c = Fresh d c
leads SyncFresh seen d c = (c ≡ d) × (c.fresh ≡ seen.fresh)
leads Name seen d c = Names d c
leads Remove seen d c = RemovesSide d c
leads SyncNames seen d c = (c ≡ d) × (is_some c.side ≡ is_some seen.side) × (is_some c.commits.log ≡ is_some seen.commits.log)
leads (Commits call) seen d c = InCommits (commits_lead call seen.commits) d c

-- the files after these calls, the newest of which stands first
abbrev pub all_done : Files → List DiskCall → Files
all_done first [] = first
all_done first (call ∷ earlier) = done call (all_done first earlier)

-- what a crash after these calls may leave
abbrev pub MayLeave : Files → List DiskCall → Files → Type 0
MayLeave first [] c = c ≡ first
MayLeave first (call ∷ earlier) c = (d : Files) × MayLeave first earlier d × leads call (all_done first earlier) d c

-- what a crash after the first t of these calls or later might have left
abbrev pub LeftSince : Files → List DiskCall → ℕ → Files → Type 0
LeftSince first [] t c = MayLeave first [] c
LeftSince first (call ∷ earlier) t c = MayLeave first (call ∷ earlier) c ⊎ ((t ≤ length earlier) × LeftSince first earlier t c)

-- the files at first, the calls, the newest of which stands first, and how many calls failed
pub record History : Type 0 where
  pub first : Files
  pub calls : List DiskCall
  pub failures : ℕ

-- one changing call more
abbrev pub with_call : History → DiskCall → History
with_call h call = record { first = h.first; calls = call ∷ h.calls; failures = h.failures }

-- what holds of outcomes of a disk in memory, for its laws
pub left_now : (first : Files) (calls : List DiskCall) (t : ℕ) (c : Files) → MayLeave first calls c → LeftSince first calls t c
left_now first [] t c left = left
left_now first (call ∷ earlier) t c left = inl left

pub only_left_now : (first : Files) (calls : List DiskCall) (c : Files) → LeftSince first calls (length calls) c → MayLeave first calls c
only_left_now first [] c left = left
only_left_now first (call ∷ earlier) c (inl left) = left
only_left_now first (call ∷ earlier) c (inr was) = absurd (not-suc-le_self (length earlier) was.0)

-- one failure more
abbrev pub failed_more : History → History
failed_more h = record { first = h.first; calls = h.calls; failures = counted h.failures true }

-- a fault leaves all
abbrev pub StaysOnErr : {A E S : Type 0} → Result A E → S → S → Type 0
StaysOnErr answer old new = OnErr answer (new ≡ old)
