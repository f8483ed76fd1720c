use Rattle.std.proofs.Common.{rules}
use Rattle.recfile_c.specs.Steps.{pages_after}
use Rattle.recfile_c.proofs.Journals.{other_pages}
use Rattle.recfile_c.proofs.journal.JournalStoreStore.write.Goals as goal

pub returns-clause-other_pages : goal.returns-clause-other_pages
returns-clause-other_pages c =
    other_pages c.note-2.result (pages_after c.args.self.now) (pages_after c.note-2.new.self) c.args.n c.args.from.now c.note-2.ensures.carried c.note-2.ensures.same

pub returns-clause-page : goal.returns-clause-page
returns-clause-page c = search rules

pub returns-clause-changes : goal.returns-clause-changes
returns-clause-changes c = search rules
