use Rattle.std.proofs.Common.{sym, ap, ◌∙◌}
use Rattle.std.specs.FinMap as maps
use Rattle.rec_types.specs.Sorted.{SortedState}
use Rattle.rec_types.proofs.HashedLemmas.{at_hash}
use Rattle.rec_types.proofs.sorted_table.SortedTableTable.get.Goals as goal

pub returns-clause-value : goal.returns-clause-value
returns-clause-value c = λ _. c.get.ensures ∙ sym (at_hash c.self.inside.records c.args.key.now) ∙ ap (λ (s : SortedState). maps.get s.contents c.args.key.now) c.self.view_is
