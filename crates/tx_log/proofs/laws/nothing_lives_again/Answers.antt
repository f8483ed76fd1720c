use Rattle.std.proofs.Common.{refl}
use Rattle.tx_log.proofs.RemainingLemmas.{leaves-undo_last, leaves-take_back, leaves-take_newest}
use Rattle.tx_log.proofs.laws.nothing_lives_again.Goals as goal

pub returns-clause-newest : goal.returns-clause-newest
returns-clause-newest c = leaves-undo_last

pub returns-clause-from : goal.returns-clause-from
returns-clause-from c = leaves-take_back

pub returns-clause-newest_from : goal.returns-clause-newest_from
returns-clause-newest_from c = leaves-take_newest

pub returns-clause-example : goal.returns-clause-example
returns-clause-example c = (refl, λ live. absurd (cc live), (refl, λ live. live, tt))

pub returns-clause-again : goal.returns-clause-again
returns-clause-again c = λ leaves. absurd (cc (leaves.1 refl))
