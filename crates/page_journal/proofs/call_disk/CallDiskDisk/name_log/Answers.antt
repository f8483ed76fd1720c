use Rattle.std.proofs.Common.{inl, inr, refl, rules}
use Rattle.page_journal.specs.Steps.{NamesLog}
use Rattle.page_journal.specs.declared.commit_call.CommitCall.TheVariants.{Name}
use Rattle.page_journal.proofs.CallDiskLemmas.{call_commits_do}
use Rattle.page_journal.proofs.call_disk.CallDiskDisk.name_log.Goals as goal

pub returns-clause-does : goal.returns-clause-does
returns-clause-does c = (call_commits_do c.note.result c.args.self.now c.note.new.self NamesLog Name c.note.ensures.ok c.note.ensures.err (λ f. inr refl) (λ seen d e names. names) (λ d. inl refl), search rules)
