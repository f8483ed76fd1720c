use Rattle.std.proofs.Common.{◌≡◌, refl, rules}
use Rattle.page_journal.specs.Files.{Files}
use Rattle.page_journal.specs.Steps.{TornAt}
use Rattle.page_journal.specs.FileEvents.{Write}
use Rattle.std.specs.Prelude.{slice_set}
use Rattle.page_journal.proofs.MemDiskLemmas.{torn_none}
use Rattle.page_journal.proofs.FileDiskLemmas.{call_does, call_seen, writes, does_none}
use Rattle.page_journal.proofs.file_disk.FileDiskDisk.write.Goals as goal

pub returns-clause-does : goal.returns-clause-does
returns-clause-does g c = call_does _ (TornAt c.args.n) (Write c.args.n c.args.from.now) c.made.result _ c.args.self.now c.made.new.self (writes c.args.n c.args.from.now) c.made.ensures.notes c.made.ensures.fault c.in_ok-begin_change.ensures.counts

pub returns-clause-page : goal.returns-clause-page
returns-clause-page g c = call_seen (Write c.args.n c.args.from.now) (λ (f h : Files). h.main.pages ≡ slice_set f.main.pages c.args.n c.args.from.now) c.made.result _ c.args.self.now c.made.new.self c.made.ensures.notes c.in_ok-begin_change.ensures.counts (λ f. refl)

pub returns-in_err-begin_change-clause-does : goal.returns-in_err-begin_change-clause-does
returns-in_err-begin_change-clause-does g c = (does_none _ (TornAt c.args.n) c.args.self.now c.begin_change.new.self _ (λ d. torn_none c.args.n d) c.begin_change.ensures.counts, search rules)
