use Rattle.std.proofs.Common.{◌≡◌, ◌∙◌, refl, rules}
use Rattle.page_journal.specs.Files.{Files}
use Rattle.page_journal.specs.Steps.{Fresh, begun}
use Rattle.page_journal.specs.FileEvents.{Start}
use Rattle.page_journal.proofs.FileDiskLemmas.{call_does, call_seen, starts, does_none}
use Rattle.page_journal.proofs.file_disk.FileDiskDisk.start.Goals as goal

pub returns-clause-does : goal.returns-clause-does
returns-clause-does g c = call_does _ (Fresh) (Start c.args.long c.args.rest) c.made.result _ c.args.self.now c.made.new.self (starts c.args.long c.args.rest) c.made.ensures.notes c.made.ensures.fault (c.self.view_is ∙ c.in_ok-begin_change.ensures.counts)

pub returns-clause-fresh : goal.returns-clause-fresh
returns-clause-fresh g c = call_seen (Start c.args.long c.args.rest) (λ (f h : Files). h.fresh ≡ begun c.args.long c.args.rest) c.made.result _ c.args.self.now c.made.new.self c.made.ensures.notes (c.self.view_is ∙ c.in_ok-begin_change.ensures.counts) (λ f. refl)

pub returns-in_err-begin_change-clause-does : goal.returns-in_err-begin_change-clause-does
returns-in_err-begin_change-clause-does g c = (does_none _ (Fresh) c.args.self.now c.begin_change.new.self _ (λ d. record { main = refl; side = refl; commits = refl }) c.begin_change.ensures.counts, search rules)
