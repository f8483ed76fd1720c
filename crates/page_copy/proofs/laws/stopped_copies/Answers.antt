use Rattle.page_copy.proofs.CopyingLemmas.{all_copied, front_of, never_first}
use Rattle.page_copy.proofs.laws.stopped_copies.Goals as goal

pub returns-clause-all : goal.returns-clause-all
returns-clause-all c pages some = all_copied pages

pub returns-clause-fronts : goal.returns-clause-fronts
returns-clause-fronts c = front_of

pub returns-clause-first_first : goal.returns-clause-first_first
returns-clause-first_first c = never_first
