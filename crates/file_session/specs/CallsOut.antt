-- What stands on a device once all calls that were handed out are carried out.
use Rattle.std.specs.Prelude.{◌≡◌, ℕ, None}
use Rattle.rec_types.specs.Contents.{Contents}
use Rattle.page_journal.specs.Files.{Files}
use Rattle.page_journal.specs.Crash.{StandsAs}
use Rattle.page_journal.specs.History.{MayLeave}
use Rattle.page_journal.specs.CallDisks.{Recorded}
use Rattle.file_session.specs.Closing.{HasRecords}
use Rattle.file_session.specs.LogOver.{HoldsRecords}

-- whatever a crash then makes of it, the file is closed and has these records, in a tree of this order, with no side file beside it
abbrev pub LastsWith : ℕ → Contents → Recorded → Type 0
LastsWith order records disk = (c : Files) → MayLeave disk.first disk.past c → HasRecords order records c.main × (c.side ≡ None)

-- nor a log of commits, and it has no more records than a file may have
abbrev pub LastsAlone : ℕ → Contents → Recorded → Type 0
LastsAlone order records disk = (c : Files) → MayLeave disk.first disk.past c → HoldsRecords order records c.main × (c.side ≡ None) × (c.commits.log ≡ None)

-- files that stand for what these stood for, with the log that stood beside them
abbrev pub StandsWithLog : Files → Files → Type 0
StandsWithLog old c = StandsAs old c × (c.commits.log ≡ old.commits.log)
