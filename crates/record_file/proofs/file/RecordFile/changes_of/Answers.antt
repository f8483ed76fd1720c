use Rattle.std.proofs.Common.{rules, ◌≡◌, ℕ, List, Option, ap, ◌∙◌}
use Rattle.tx_log.specs.Written.{own, writes}
use Rattle.record_file.specs.Durable.{overlay}
use Rattle.record_file.proofs.CommitLemmas.{writes-replay}
use Rattle.record_file.proofs.file.RecordFile.changes_of.Goals as goal

pub returns-in_ok-changes_of-in-Some-Active-clause-keeps : goal.returns-in_ok-changes_of-in-Some-Active-clause-keeps
returns-in_ok-changes_of-in-Some-Active-clause-keeps g c = λ m.
    let is : c.in_ok-changes_of-in-Some-Active.field-0.items ≡ writes (own c.args.tx.0 c.args.self.now.file.history) = search rules in
    ap (λ (es : List (List ℕ × Option (List ℕ))). overlay m es) is ∙ writes-replay m (own c.args.tx.0 c.args.self.now.file.history)
