use Rattle.std.proofs.Common.{◌≡◌, ◌∙◌, refl, rules, ◌++◌}
use Rattle.page_journal.specs.Files.{Files}
use Rattle.page_journal.specs.Steps.{InCommits, FreshLog}
use Rattle.page_journal.specs.FileEvents.{StartLog}
use Rattle.commit_paper.specs.Text.{zeros}
use Rattle.page_journal.proofs.FileDiskLemmas.{call_does, call_seen, starts_log, does_none}
use Rattle.page_journal.proofs.file_disk.FileDiskDisk.start_log.Goals as goal

pub returns-clause-does : goal.returns-clause-does
returns-clause-does g c = call_does _ (InCommits FreshLog) (StartLog c.args.head.now c.args.room) c.made.result _ c.args.self.now c.made.new.self (starts_log c.args.head.now c.args.room) c.made.ensures.notes c.made.ensures.fault (c.self.view_is ∙ c.in_ok-begin_change.ensures.counts)

pub returns-clause-made : goal.returns-clause-made
returns-clause-made g c = call_seen (StartLog c.args.head.now c.args.room) (λ (f h : Files). h.commits.fresh ≡ c.args.head.now ++ zeros c.args.room) c.made.result _ c.args.self.now c.made.new.self c.made.ensures.notes (c.self.view_is ∙ c.in_ok-begin_change.ensures.counts) (λ f. refl)

pub returns-in_err-begin_change-clause-does : goal.returns-in_err-begin_change-clause-does
returns-in_err-begin_change-clause-does g c = (does_none _ (InCommits FreshLog) c.args.self.now c.begin_change.new.self _ (λ d. record { main = refl; fresh = refl; side = refl; commits = refl }) c.begin_change.ensures.counts, search rules)
