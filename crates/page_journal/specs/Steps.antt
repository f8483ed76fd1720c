-- What a call may do to the files, and what a crash may leave of it.
use Rattle.std.specs.Prelude.{◌≡◌, ◌≢◌, ◌⊎◌, Bool, true, is_some, ℕ, ◌≤◌, ◌+◌, List, [], ◌∷◌, ◌++◌, Option, Some, None, Result, Err, OnOk, length, take, drop, slice_get, slice_set}
use Rattle.rec_types.specs.Table.{counted}
use Rattle.page_store.specs.StoreFaults.{is_failed}
use Rattle.page_store.specs.declared.store_fault.StoreFault.{StoreFault}
use Rattle.page_store.specs.declared.store_fault.StoreFault.TheVariants.{Memory}
use Rattle.commit_paper.specs.Text.{zeros}
use Rattle.page_journal.specs.Files.{SideFile, CommitFiles, Files}
use Rattle.page_journal.specs.declared.disk_state.DiskState.{Ghosts}
use Rattle.page_journal.specs.declared.side_shape.SideShape.{SideShape}

-- a side file with no page, which says nothing of the others
abbrev pub nothing_kept : ℕ → SideFile
nothing_kept long = record { long = long; rest = None; pages = [] }

-- a side file with no page yet, and what the sum over the others is
abbrev pub begun : ℕ → ℕ → SideFile
begun long rest = record { long = long; rest = Some rest; pages = [] }

-- a side file with one page more
abbrev pub kept_more : SideFile → ℕ → List ℕ → SideFile
kept_more kept n page = record { long = kept.long; rest = kept.rest; pages = kept.pages ++ (n, page) ∷ [] }

-- how many pages the file had, how many of them a side file has, and the sum over the others
abbrev pub side_shape : Option SideFile → Option SideShape
side_shape None = None
side_shape (Some kept) = Some (record { long = kept.long; kept = length kept.pages; rest = kept.rest })

-- the i-th old page of a side file with its number
abbrev pub kept_at : Option SideFile → ℕ → Option (ℕ × List ℕ)
kept_at None i = None
kept_at (Some kept) i = slice_get kept.pages i

-- nothing happens
abbrev pub Nothing : Files → Files → Type 0
Nothing d c = c ≡ d

-- page n has any bytes: the write is done, not done or torn
pub record TornAt (n : ℕ) (d c : Files) : Type 0 where
  pub page : List ℕ
  pub main : c.main ≡ record { pages = slice_set d.main.pages n page; tail = d.main.tail }
  pub fresh : c.fresh ≡ d.fresh
  pub side : c.side ≡ d.side
  pub commits : c.commits ≡ d.commits

-- the file is longer, at most by so much; what is added is anything
pub record GrowsUpTo (n : ℕ) (d c : Files) : Type 0 where
  pub more : List (List ℕ)
  pub pages : c.main.pages ≡ d.main.pages ++ more
  pub fits : length d.main.pages ≤ n → length c.main.pages ≤ n
  pub fresh : c.fresh ≡ d.fresh
  pub side : c.side ≡ d.side
  pub commits : c.commits ≡ d.commits

-- the file is shorter, and no shorter than so much
pub record CutsTo (n : ℕ) (d c : Files) : Type 0 where
  pub to : ℕ
  pub least : n ≤ to
  pub pages : c.main.pages ≡ take to d.main.pages
  pub fresh : c.fresh ≡ d.fresh
  pub side : c.side ≡ d.side
  pub commits : c.commits ≡ d.commits

-- the side file that is being made is anything
pub record Fresh (d c : Files) : Type 0 where
  pub main : c.main ≡ d.main
  pub side : c.side ≡ d.side
  pub commits : c.commits ≡ d.commits

-- the side file that was made has the name, with whatever it has then, or it doesn't
pub record Names (d c : Files) : Type 0 where
  pub main : c.main ≡ d.main
  pub side : (c.side ≡ d.side) ⊎ (c.side ≡ Some d.fresh)
  pub commits : c.commits ≡ d.commits

-- no side file has the name any more, or it stays as it was
pub record RemovesSide (d c : Files) : Type 0 where
  pub main : c.main ≡ d.main
  pub side : (c.side ≡ d.side) ⊎ (c.side ≡ None)
  pub commits : c.commits ≡ d.commits

-- the log of commits that is being made is anything
abbrev pub FreshLog : CommitFiles → CommitFiles → Type 0
FreshLog d c = c.log ≡ d.log

-- the log that was made has the name, with whatever it has then, or it doesn't
abbrev pub NamesLog : CommitFiles → CommitFiles → Type 0
NamesLog d c = (c.log ≡ d.log) ⊎ (c.log ≡ Some d.fresh)

-- no log has the name any more, or it stays as it was
abbrev pub RemovesLog : CommitFiles → CommitFiles → Type 0
RemovesLog d c = (c.log ≡ d.log) ⊎ (c.log ≡ None)

-- the bytes of a log of that name, where there is one, do a step
abbrev pub OnLog : (List ℕ → List ℕ → Type 0) → Option (List ℕ) → Option (List ℕ) → Type 0
OnLog step None new = new ≡ None
OnLog step (Some old) new = (bytes : List ℕ) × (new ≡ Some bytes) × step old bytes

-- and nothing else of the logs changes
abbrev pub ChangesLog : (List ℕ → List ℕ → Type 0) → CommitFiles → CommitFiles → Type 0
ChangesLog step d c = (c.fresh ≡ d.fresh) × OnLog step d.log c.log

-- a log of that name, where there is one, has the bytes that are seen
abbrev pub KeepsLog : CommitFiles → CommitFiles → Type 0
KeepsLog seen c = (c.log ≡ None) ⊎ (c.log ≡ seen.log)

-- these bytes over what stands at a place
abbrev pub bytes_over : ℕ → List ℕ → List ℕ → List ℕ
bytes_over at bytes old = take at old ++ bytes ++ drop (at + length bytes) old

-- so many zeros from a place on, whatever there was
abbrev pub zeroed : ℕ → ℕ → List ℕ → List ℕ
zeroed at n old = take at old ++ zeros n

-- the logs of commits do a step, and all else stays
pub record InCommits (step : CommitFiles → CommitFiles → Type 0) (d c : Files) : Type 0 where
  pub main : c.main ≡ d.main
  pub fresh : c.fresh ≡ d.fresh
  pub side : c.side ≡ d.side
  pub commits : step d.commits c.commits

-- What a call does is a step, as reads see it; each outcome of a crash is an earlier one after that step, and time goes on.
pub record Does {D : Type 0} (g : Ghosts D) (step : Files → Files → Type 0) (old new : D) : Type 0 where
  pub seen : step (g.seen old) (g.seen new)
  pub steady : g.steady new ≡ g.steady old
  pub began : g.began new ≡ g.began old
  pub crash : (c : Files) → g.may_leave new c → (d : Files) × g.may_leave old d × step d c
  pub later : g.moment old ≤ g.moment new
  pub nothing_else : (t : ℕ) (c : Files) → t ≤ g.moment old → g.left_since new t c → g.left_since old t c ⊎ g.may_leave new c
  pub keeps : (t : ℕ) (c : Files) → t ≤ g.moment old → g.left_since old t c → g.left_since new t c

-- a call that changes nothing, and takes outcomes of a crash away at most
abbrev pub Stays : {D : Type 0} → Ghosts D → D → D → Type 0
Stays g old new = Does g Nothing old new

-- a disk gives back what it took as it did before
abbrev pub StaysSteady : {D : Type 0} → Ghosts D → D → D → Type 0
StaysSteady g old new = g.steady new ≡ g.steady old

-- it was opened over the same files
abbrev pub StaysBegun : {D : Type 0} → Ghosts D → D → D → Type 0
StaysBegun g old new = g.began new ≡ g.began old

-- the one fault is Failed, and it is counted
pub record CountsFault {D A : Type 0} (g : Ghosts D) (old : D) (answer : Result A StoreFault) (new : D) : Type 0 where
  pub failures : g.failures new ≡ counted (g.failures old) (is_failed answer)
  pub no_memory : answer ≢ Err Memory

-- no failure is counted either
abbrev pub StaysUncounted : {D : Type 0} → Ghosts D → D → D → Type 0
StaysUncounted g old new = StaysSteady g old new × StaysBegun g old new × (g.failures new ≡ g.failures old)

-- a call of the disk does a step, and its fault is counted
abbrev pub CallDoes : {D A : Type 0} → Ghosts D → (Files → Files → Type 0) → D → Result A StoreFault → D → Type 0
CallDoes g step old answer new = Does g step old new × CountsFault g old answer new

-- a call that appends to the log of commits does a step; its fault is that of the commit alone, and isn't counted
abbrev pub AppendDoes : {D A : Type 0} → Ghosts D → (Files → Files → Type 0) → D → Result A StoreFault → D → Type 0
AppendDoes g step old answer new = Does g step old new × (g.failures new ≡ g.failures old) × (answer ≢ Err Memory)

-- whether a side file has the name that an opening looks for, and whether a log of commits has
abbrev pub names_of : Files → Bool × Bool
names_of f = (is_some f.side, is_some f.commits.log)

-- a call that was made has its moment: there is one more, counted in 64 bits
abbrev pub HasMoment : {D A : Type 0} → Ghosts D → D → Result A StoreFault → D → Type 0
HasMoment g old answer new = OnOk answer (counted (g.moment old) true ≤ g.moment new)

-- a call of the disk has the device keep a part of the files, and does nothing else
abbrev pub CallSyncs : {D A P : Type 0} → Ghosts D → (Files → P) → D → Result A StoreFault → D → Type 0
CallSyncs g part old answer new =
    OnOk answer ((c : Files) → g.may_leave new c → part c ≡ part (g.seen old)) × Stays g old new × CountsFault g old answer new × HasMoment g old answer new

-- what is left of several calls of the disk, of which the last may have failed
abbrev pub CallsLeave : {D A : Type 0} → Ghosts D → D → Result A StoreFault → D → Type 0
CallsLeave g old answer new = StaysSteady g old new × CountsFault g old answer new × StaysBegun g old new
