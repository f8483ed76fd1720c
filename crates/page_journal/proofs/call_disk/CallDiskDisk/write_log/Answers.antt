use Rattle.std.proofs.Common.{◌≡◌, ◌∙◌, ℕ, List, rules, subst}
use Rattle.std.proofs.lemmas.List.{append-nil}
use Rattle.commit_paper.specs.Steps.{Inks}
use Rattle.page_journal.specs.Steps.{Does, InCommits, ChangesLog}
use Rattle.page_journal.specs.declared.commit_call.CommitCall.TheVariants.{Write}
use Rattle.page_journal.specs.declared.disk_call.DiskCall.TheVariants.{Commits}
use Rattle.page_journal.proofs.CommitFateLemmas.{written_log, unwritten_log}
use Rattle.page_journal.proofs.CallDiskLemmas.{call_ghosts, call_append_does, call_append_not, call_uncounted}
use Rattle.page_journal.proofs.call_disk.CallDiskDisk.write_log.Goals as goal

pub returns-in-Ok-clause-does : goal.returns-in-Ok-clause-does
returns-in-Ok-clause-does c =
    let at = c.args.at in
    let same : c.in-Ok.bytes.items ≡ c.args.bytes.now = c.in-Ok.ensures ∙ append-nil c.args.bytes.now in (
      subst (λ (bytes : List ℕ). Does call_ghosts (InCommits (ChangesLog (Inks at bytes))) c.args.self.now c.note_append.new.self) same
          (call_append_does c.note_append.result c.args.self.now c.note_append.new.self (ChangesLog (Inks at c.in-Ok.bytes.items)) (Write at c.in-Ok.bytes) c.note_append.ensures.ok c.note_append.ensures.err (written_log at c.in-Ok.bytes.items) (λ seen d e changes. changes) (unwritten_log at c.in-Ok.bytes.items)),
      call_uncounted (Commits (Write at c.in-Ok.bytes)) c.note_append.result c.args.self.now c.note_append.new.self c.note_append.ensures.ok c.note_append.ensures.err,
      search rules,
    )

pub returns-in-Err-clause-does : goal.returns-in-Err-clause-does
returns-in-Err-clause-does c = (call_append_not (ChangesLog (Inks c.args.at c.args.bytes.now)) c.args.self.now (unwritten_log c.args.at c.args.bytes.now), search rules, search rules)
