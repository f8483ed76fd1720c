-- What putting a page file right leaves, that a stop left with a side file or a log of commits beside it.
use Rattle.std.specs.Prelude.{◌≡◌, ◌≢◌, ◌⊎◌, ℕ, None, Result, Ok, Err, IsSome, IsTrue, IfErr, OnOk}
use Rattle.std.specs.Result.{is_err}
use Rattle.rec_types.specs.Contents.{Contents}
use Rattle.rec_types.specs.LimitBounds.{most_records}
use Rattle.rec_types.specs.Table.{counted}
use Rattle.page_journal.specs.Files.{Files, Belongs, recovered}
use Rattle.page_journal.specs.Crash.{BeginsAgain, IsAtRest, IsSettled, StandsAs}
use Rattle.page_journal.specs.Logging.{HasNoLog}
use Rattle.page_journal.specs.declared.disk_state.DiskState.{Ghosts}
use Rattle.file_session.specs.Beside.{IsSettledWith, IsSettlingFault, IsUnput, LeavesFiles}
use Rattle.file_session.specs.Opened.{CanBeOpened, IsFirstOrOutside}
use Rattle.file_session.specs.FileFaults.{is_device_answer}
use Rattle.file_session.specs.Closing.{CountsClosing, IsOutsideDisk}
use Rattle.file_session.specs.LogOver.{Finds}
use Rattle.file_session.specs.declared.file_fault.FileFault.{FileFault}
use Rattle.file_session.specs.declared.file_fault.FileFault.TheVariants.{BadCommits}

-- An opening finds these records in what a crash leaves, at any moment since the disk was opened.
abbrev pub KeepsFinding : {D : Type 0} → Ghosts D → ℕ → Contents → D → Type 0
KeepsFinding g order records disk = (c : Files) → g.left_since disk 0 c → Finds order records c

-- the file is what it was for an opening, and the log beside it, if there is one
abbrev pub KeepsAll : {D : Type 0} → Ghosts D → Files → D → Type 0
KeepsAll g old disk = (c : Files) → g.left_since disk 0 c → LeavesFiles old c

-- the records that an opening finds in files, in a tree of some order
abbrev pub FindsAny : Files → Type 0
FindsAny c = (order : ℕ) × (records : Contents) × Finds order records c

-- why a file with a log beside it isn't put right: its first check that fails, or it is closed and the log isn't put over it
abbrev pub IsUnsettledOver : Files → FileFault → Type 0
IsUnsettledOver files fault =
    IsFirstOrOutside (recovered files).pages (recovered files).tail most_records fault
    ⊎ (CanBeOpened (recovered files).pages (recovered files).tail most_records × IsUnput (FindsAny files) fault)

-- why files aren't put right: a fault from outside, a side file of another file, or of files that belong together one of the file with its log
abbrev pub IsUnsettled : Files → FileFault → Type 0
IsUnsettled files fault = IsOutsideDisk files fault ⊎ (IsSome files.commits.log × Belongs files × IsUnsettledOver files fault)

-- A disk that was just opened was put right, or a fault stopped that. Where an opening finds records in its files, it finds
-- them in what any crash of this leaves, and at the end the file has them by itself; nothing but a fault from outside, or
-- too many records, stops that. Where it finds none, the files stay what they were for an opening.
pub record PutsRight {D : Type 0} (g : Ghosts D) (old : D) (answer : Result (Unit {0}) FileFault) (new : D) : Type 0 where
  pub kept : IsTrue (g.steady old) → (order : ℕ) → (records : Contents) → Finds order records (g.began old) → KeepsFinding g order records new
  pub settled : IsTrue (g.steady old) → (order : ℕ) → (records : Contents) → Finds order records (g.began old) → OnOk answer (IsSettledWith g order records new)
  pub found : IsTrue (g.steady old) → (order : ℕ) → (records : Contents) → Finds order records (g.began old) → IfErr answer IsSettlingFault
  -- a log that was put over the file is one of it
  pub logged : IsTrue (g.steady old) → (g.began old).commits.log ≢ None → OnOk answer (FindsAny (g.began old))
  -- without a log the file isn't looked into
  pub alone : IsTrue (g.steady old) → (g.began old).commits.log ≡ None → OnOk answer (IsSettled g (recovered (g.began old)) new × KeepsAll g (g.began old) new)
  pub bad_commits : IsTrue (g.steady old) → answer ≡ Err BadCommits → KeepsAll g (g.began old) new
  -- where it finds none, the files stand for what they stood for, and the log stays
  pub unfound : IsTrue (g.steady old) → (FindsAny (g.began old) → ⊥) → (c : Files) → g.left_since new 0 c → StandsAs (g.began old) c × (c.commits.log ≡ (g.began old).commits.log)
  pub fault : IsTrue (g.steady old) → IfErr answer (IsUnsettled (g.began old))
  pub bare : IsTrue (g.steady old) → OnOk answer (IsSettled g (g.seen new).main new × HasNoLog g new)
  pub failures : CountsClosing (g.failures old) (is_err answer) (is_device_answer answer) (g.failures new)
  -- without a log no closing is taken back
  pub once : IsTrue (g.steady old) → (g.began old).commits.log ≡ None → g.failures new ≡ counted (g.failures old) (is_device_answer answer)
  pub steady : OnOk answer (g.steady new ≡ g.steady old)

-- The disk that was opened at a path was put right, and counts as one that was just opened.
pub record SettlesAt {D : Type 0} (g : Ghosts D) (At : Files → Type 0) (disk : D) : Type 0 where
  pub opened : D
  pub found : IsTrue (g.steady opened) → At (g.began opened)
  pub settled : D
  pub right : PutsRight g opened (Ok tt) settled
  pub again : BeginsAgain g settled disk
  pub unfailed : g.failures disk ≡ 0

-- a disk that was just opened, beside which stands no log of commits
pub record IsJustSettled {D : Type 0} (g : Ghosts D) (disk : D) : Type 0 where
  pub rest : IsAtRest g disk
  pub began : g.seen disk ≡ g.began disk
  pub moment : g.moment disk ≡ 0
  pub alone : IsTrue (g.steady disk) → (g.began disk).commits.log ≡ None
