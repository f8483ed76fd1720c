-- What beginning a log of commits beside a page file leaves.
use Rattle.std.specs.Prelude.{◌≡◌, ◌⊎◌, ℕ, true, [], ◌∷◌, None}
use Rattle.page_store.specs.Opening.{Opening}
use Rattle.page_journal.specs.Files.{Belongs, Files, recovered}
use Rattle.page_journal.specs.Crash.{StandsAs, FilesStandFor}
use Rattle.page_journal.specs.Logging.{SaysNoneOr}
use Rattle.file_session.specs.Beside.{LeavesOpening}
use Rattle.file_session.specs.Opened.{CanBeOpened}
use Rattle.file_session.specs.Closing.{opening_file}
use Rattle.file_session.specs.LogOver.{head_line}

-- a log was begun beside the file that a store was opened over, in which no commit is yet
pub record IsBegunBeside (opening : Opening) : Type 0 where
  pub logged : opening.logged ≡ true
  pub commits : opening.commits ≡ (head_line (opening_file opening) ∷ []) ∷ []
  pub doubt : opening.doubt ≡ []

-- files that belong together, and stand for a closed file of no more than so many records
abbrev pub StandForClosed : ℕ → Files → Type 0
StandForClosed limit files = Belongs files × CanBeOpened (recovered files).pages (recovered files).tail limit

-- where the file isn't opened: it stays what it was, and the log beside it, or that was taken away
abbrev pub LeavesUnread : Opening → Files → Type 0
LeavesUnread opening c = LeavesOpening opening c ⊎ (FilesStandFor (opening_file opening) c × (c.commits.log ≡ None))

-- with no log, or with one in which no commit is
abbrev pub LeavesUnbegun : Files → Files → Type 0
LeavesUnbegun old c = FilesStandFor (recovered old) c × SaysNoneOr ((head_line (recovered old) ∷ []) ∷ []) c

abbrev pub StandsUnbegun : Files → Files → Type 0
StandsUnbegun old c = StandsAs old c × SaysNoneOr ((head_line (recovered old) ∷ []) ∷ []) c
