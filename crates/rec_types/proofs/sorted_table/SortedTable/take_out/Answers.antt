use Rattle.std.proofs.Common.{None, Ok, true, is_some, sym, ap, ◌∙◌}
use Rattle.std.proofs.lemmas.Bool.{false≢true}
use Rattle.std.specs.FinMap as maps
use Rattle.rec_types.specs.Calls.{with_set}
use Rattle.rec_types.specs.Contents.{set_to}
use Rattle.rec_types.specs.Sorted.{SortedState}
use Rattle.rec_types.proofs.HashedLemmas.{at_hash, updated}
use Rattle.rec_types.proofs.MapLemmas.{fewer}
use Rattle.rec_types.proofs.sorted_table.SortedTable.take_out.Goals as goal

pub invariant_of-self : goal.invariant_of-self
invariant_of-self c = record {
  unique = c.swap_remove.ensures.unique;
  within = fewer (is_some c.swap_remove.result) _ _ _ c.swap_remove.ensures.len c.self.invariant.within;
  limited = c.self.invariant.limited;
  ordered = λ wrong. absurd (false≢true wrong);
}

pub returns-clause-value : goal.returns-clause-value
returns-clause-value c = ap Ok (c.swap_remove.ensures.value ∙ sym (at_hash c.self.inside.records c.args.key.now) ∙ ap (λ (s : SortedState). maps.get s.contents c.args.key.now) c.self.view_is)

pub returns-clause-after : goal.returns-clause-after
returns-clause-after c =
    let contents = updated c.self.inside.records c.swap_remove.new.self c.args.key.now None c.swap_remove.ensures.updates ∙ ap (λ (s : SortedState). set_to s.contents c.args.key.now None) c.self.view_is in
    let limit = ap (λ (s : SortedState). s.limit) c.self.view_is in
    let refusals = ap (λ (s : SortedState). s.refusals) c.self.view_is in
    let calls = c.note_set.ensures ∙ ap (λ (s : SortedState). with_set s.calls true (Ok c.swap_remove.result)) c.self.view_is in
    λ i. record { contents = contents i; limit = limit i; refusals = refusals i; calls = calls i }
