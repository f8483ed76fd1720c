-- What stands beside a page file.
use Rattle.std.specs.Prelude.{◌≡◌, Some, None}
use Rattle.page_journal.specs.Files.{SideFile, Files, Belongs}
use Rattle.page_journal.specs.Recovery.{IsForeign}
use Rattle.page_journal.specs.declared.beside.Beside.{Beside}
use Rattle.page_journal.specs.declared.beside.Beside.TheVariants.{Nothing, OldPages, Stray}

-- what stands beside the page file of these files
abbrev pub StandsBeside : Files → Beside → Type 0
StandsBeside files Nothing = files.side ≡ None
StandsBeside files OldPages = (kept : SideFile) × (files.side ≡ Some kept) × Belongs files
StandsBeside files Stray = IsForeign files
