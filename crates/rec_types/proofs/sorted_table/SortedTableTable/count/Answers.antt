use Rattle.std.proofs.Common.{sym, ap, ◌∙◌}
use Rattle.std.specs.FinMap as maps
use Rattle.rec_types.specs.Sorted.{SortedState}
use Rattle.rec_types.proofs.HashedLemmas.{len_hashed}
use Rattle.rec_types.proofs.sorted_table.SortedTableTable.count.Goals as goal

pub returns-clause-value : goal.returns-clause-value
returns-clause-value c = λ _. c.len.ensures ∙ sym (len_hashed c.self.inside.records c.self.invariant.unique) ∙ ap (λ (s : SortedState). maps.len s.contents) c.self.view_is
