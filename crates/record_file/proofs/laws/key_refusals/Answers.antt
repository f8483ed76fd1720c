use Rattle.std.proofs.Common.{ℕ, ◌+◌, ◌<◌, ◌≡◌, true, false, nat_lt, if◌then◌else◌, Some, None, ap, ◌∙◌, arith}
use Rattle.std.proofs.lemmas.Bool.Decides.{nat_tests}
use Rattle.record_file.specs.Abstract.{use_of}
use Rattle.record_file.specs.Steps.{active_refusal, held_refusal}
use Rattle.record_file.specs.declared.refusal.Refusal.TheVariants.{LogFull}
use Rattle.record_file.proofs.laws.key_refusals.Goals as goal

above : (a b : ℕ) → a < b → nat_lt a b ≡ true
above a b lt = grind (arith, nat_tests)

pub returns-clause-held : goal.returns-clause-held
returns-clause-held c = λ f t owner x changes active held. ap (active_refusal _) active ∙ ap (held_refusal changes f) held

pub returns-clause-full : goal.returns-clause-full
returns-clause-full c = λ f t x active free over. (
  ap (active_refusal _) active ∙ ap (held_refusal true f) free ∙ ap (λ b. if b then Some LogFull else None) (above f.limits.log_records (use_of f + 2) over),
  ap (active_refusal _) active ∙ ap (held_refusal false f) free,
)
