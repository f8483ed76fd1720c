use Rattle.std.proofs.Common.{refl, inl, inr}
use Rattle.tx_log.proofs.RemainingLemmas.{part_use, none_taken}
use Rattle.tx_log.proofs.laws.a_part_uses_no_more.Goals as goal

pub returns-clause-uses : goal.returns-clause-uses
returns-clause-uses c = part_use

pub returns-clause-part : goal.returns-clause-part
returns-clause-part c = inr (inl (refl, refl, tt))

pub returns-clause-of_two : goal.returns-clause-of_two
returns-clause-of_two c = refl

pub returns-clause-of_one : goal.returns-clause-of_one
returns-clause-of_one c = refl

pub returns-clause-taken : goal.returns-clause-taken
returns-clause-taken c = none_taken _ _ refl
