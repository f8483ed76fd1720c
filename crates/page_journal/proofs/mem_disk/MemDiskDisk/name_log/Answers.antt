use Rattle.std.proofs.Common.{inl, inr, refl, rules}
use Rattle.page_journal.specs.Steps.{NamesLog}
use Rattle.page_journal.specs.declared.commit_call.CommitCall.TheVariants.{Name}
use Rattle.page_journal.proofs.MemDiskLemmas.{commits_do}
use Rattle.page_journal.proofs.mem_disk.MemDiskDisk.name_log.Goals as goal

pub returns-clause-does : goal.returns-clause-does
returns-clause-does c = (commits_do NamesLog Name c.note.result c.args.self.now c.note.new.self c.note.ensures.ok c.note.ensures.err (λ f. inr refl) (λ seen d e names. names) (λ d. inl refl), search rules)
