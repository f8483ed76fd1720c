-- What a crash at any moment leaves.
use Rattle.std.specs.Prelude.{◌≡◌, ◌⊎◌, ℕ, ◌<◌, ◌≤◌, Bool, true, false, List, Option, Some, None, Result, OnOk, length, All, slice_get, slice_index_or}
use Rattle.page_journal.specs.Files.{PageFile, SideFile, CommitFiles, Files, Agree, IsOf, Belongs, is_kept, recovered, restored, put_back}
use Rattle.page_journal.specs.declared.disk_state.DiskState.{Ghosts}

-- A crash at any moment since old leaves files that have P.
pub record LeavesOnly {D : Type 0} (g : Ghosts D) (P : Files → Type 0) (old new : D) : Type 0 where
  pub later : g.moment old ≤ g.moment new
  pub each : (c : Files) → g.left_since new (g.moment old) c → P c
  -- for a run that began earlier
  pub before : (t : ℕ) (c : Files) → t ≤ g.moment old → g.left_since new t c → g.left_since old t c ⊎ P c

-- this is the file, and no side file has the name, as reads see it and in each outcome of a crash
pub record IsSettled {D : Type 0} (g : Ghosts D) (main : PageFile) (disk : D) : Type 0 where
  pub seen : (g.seen disk).main ≡ main
  pub no_side : (g.seen disk).side ≡ None
  pub crash : (c : Files) → g.may_leave disk c → (c.main ≡ main) × (c.side ≡ None)

-- this side file of the base has the name, and the file is the base but for pages that it keeps, as reads see it and in each outcome of a crash
pub record IsSealed {D : Type 0} (g : Ghosts D) (kept : SideFile) (base : List (List ℕ)) (disk : D) : Type 0 where
  pub own : IsOf kept base
  pub side : (g.seen disk).side ≡ Some kept
  pub main : Agree kept base (g.seen disk).main.pages
  pub crash : (c : Files) → g.may_leave disk c → (c.side ≡ Some kept) × Agree kept base c.main.pages

-- after a restart, what reads see is what the device keeps
abbrev pub IsAtRest : {D : Type 0} → Ghosts D → D → Type 0
IsAtRest g disk = (c : Files) → g.may_leave disk c → (c.main ≡ (g.seen disk).main) × (c.side ≡ (g.seen disk).side) × (c.commits.log ≡ (g.seen disk).commits.log)

-- The files are what they were, and count as those of a disk that was just opened.
pub record BeginsAgain {D : Type 0} (g : Ghosts D) (old new : D) : Type 0 where
  pub seen : g.seen new ≡ g.seen old
  pub steady : g.steady new ≡ g.steady old
  pub began : g.seen new ≡ g.began new
  pub rest : IsAtRest g new
  pub moment : g.moment new ≡ 0

-- a part of the files is that of an outcome of a crash then
abbrev pub HasPartOf : {D P : Type 0} → Ghosts D → (Files → P) → D → Files → Type 0
HasPartOf g part old c = (d : Files) × g.may_leave old d × (part c ≡ part d)

-- calls that leave a part of the files as reads see it, and as a crash leaves it
pub record LeavesPart {D P : Type 0} (g : Ghosts D) (part : Files → P) (old new : D) : Type 0 where
  pub seen : part (g.seen new) ≡ part (g.seen old)
  pub now : (c : Files) → g.may_leave new c → HasPartOf g part old c
  pub time : LeavesOnly g (HasPartOf g part old) old new

-- the logs of commits, and all else
abbrev pub logs_of : Files → CommitFiles
logs_of f = f.commits

abbrev pub pages_of : Files → PageFile × (SideFile × Option SideFile)
pages_of f = (f.main, (f.fresh, f.side))

-- calls that leave the logs of commits
abbrev pub LeavesLogs : {D : Type 0} → Ghosts D → D → D → Type 0
LeavesLogs g old new = LeavesPart g logs_of old new

-- calls that leave all else
abbrev pub LeavesPages : {D : Type 0} → Ghosts D → D → D → Type 0
LeavesPages g old new = LeavesPart g pages_of old new

-- the files stand for this file: it is what an opening makes of them
abbrev pub FilesStandFor : PageFile → Files → Type 0
FilesStandFor main c = Belongs c × (recovered c ≡ main)

-- the files stand for what these stood for, and for nothing where these didn't
abbrev pub StandsAs : Files → Files → Type 0
StandsAs old c = (Belongs old → Belongs c) × (recovered c ≡ recovered old)

-- the files stand for the one or the other
abbrev pub StandsForEither : PageFile → PageFile → Files → Type 0
StandsForEither old new c = FilesStandFor old c ⊎ FilesStandFor new c

-- a page that may be written over: it is kept, or past the old end
abbrev pub MayWrite : SideFile → ℕ → Type 0
MayWrite kept n = (is_kept kept.pages n ≡ true) ⊎ (kept.long ≤ n)

-- those of its pages that are marked are kept, and no others
abbrev pub KeepsMarked : List Bool → SideFile → Type 0
KeepsMarked marks kept = (n : ℕ) → n < length marks → is_kept kept.pages n ≡ slice_index_or marks n false

-- the old length, and pages as they are in the file
pub record Gathered (pages : List (List ℕ)) (fresh : SideFile) : Type 0 where
  pub long : fresh.long ≡ length pages
  pub pages_there : All (λ (p : ℕ × List ℕ). slice_get pages p.0 ≡ Some p.1) fresh.pages

-- the old pages are put back over what was there, and the side file stays
pub record PutsBack {D E : Type 0} (g : Ghosts D) (kept : SideFile) (base : List (List ℕ)) (result : Result (Unit {0}) E) (old new : D) : Type 0 where
  pub sealed : IsSealed g kept base new
  pub time : LeavesOnly g (FilesStandFor (restored kept base)) old new
  pub put : OnOk result ((g.seen new).main.pages ≡ put_back kept.pages (g.seen old).main.pages)
