use Rattle.std.proofs.Common.{refl}
use Rattle.page_store.proofs.TryLemmas.{tries_part_way, tries_then_all}
use Rattle.page_store.proofs.laws.tries_of_a_writing_back.Goals as goal

pub returns : goal.returns
returns c = record { fronts = tries_part_way; again = tries_then_all; example = refl }
