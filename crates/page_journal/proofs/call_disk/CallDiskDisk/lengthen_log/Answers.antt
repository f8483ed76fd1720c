use Rattle.std.proofs.Common.{rules}
use Rattle.commit_paper.specs.Steps.{Lengthens}
use Rattle.page_journal.specs.Steps.{ChangesLog}
use Rattle.page_journal.specs.declared.commit_call.CommitCall.TheVariants.{Lengthen}
use Rattle.page_journal.specs.declared.disk_call.DiskCall.TheVariants.{Commits}
use Rattle.page_journal.proofs.CommitFateLemmas.{zeroed_log, same_log}
use Rattle.page_journal.proofs.CallDiskLemmas.{call_append_does, call_uncounted}
use Rattle.page_journal.proofs.call_disk.CallDiskDisk.lengthen_log.Goals as goal

pub returns-clause-does : goal.returns-clause-does
returns-clause-does c = (call_append_does c.note_append.result c.args.self.now c.note_append.new.self (ChangesLog (Lengthens c.args.at)) (Lengthen c.args.at c.args.n) c.note_append.ensures.ok c.note_append.ensures.err (zeroed_log c.args.at c.args.n) (λ seen d e changes. changes) (same_log c.args.at), call_uncounted (Commits (Lengthen c.args.at c.args.n)) c.note_append.result c.args.self.now c.note_append.new.self c.note_append.ensures.ok c.note_append.ensures.err, search rules)
