use Rattle.std.proofs.Common.{inl, inr, refl, rules}
use Rattle.page_journal.specs.Steps.{RemovesLog}
use Rattle.page_journal.specs.declared.commit_call.CommitCall.TheVariants.{Remove}
use Rattle.page_journal.proofs.MemDiskLemmas.{commits_do}
use Rattle.page_journal.proofs.mem_disk.MemDiskDisk.remove_log.Goals as goal

pub returns-clause-does : goal.returns-clause-does
returns-clause-does c = (commits_do RemovesLog Remove c.note.result c.args.self.now c.note.new.self c.note.ensures.ok c.note.ensures.err (λ f. inr refl) (λ seen d e removes. removes) (λ d. inl refl), search rules)
