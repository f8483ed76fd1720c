use Rattle.std.proofs.lemmas.Bool.Decides.{nat_tests}
use Rattle.std.proofs.Common.{◌≡◌, length, Some, Ok, Err, true, false, refl, is_none, nat_le, ◌&&◌, sym, ap, ◌∙◌, arith}
use Rattle.std.specs.FinMap as maps
use Rattle.rec_types.specs.Calls.{with_set}
use Rattle.rec_types.specs.Contents.{set_to}
use Rattle.rec_types.specs.Table.{counted}
use Rattle.rec_types.specs.declared.table.TableFault.TheVariants.{Memory}
use Rattle.std.specs.Map.{keys_of}
use Rattle.rec_types.specs.Sorted.{Pairs, SortedState}
use Rattle.rec_types.proofs.HashedLemmas.{at_hash, updated, len_hashed}
use Rattle.rec_types.proofs.KeyPlaceLemmas.{first_stays}
use Rattle.rec_types.proofs.MapLemmas.{fits}
use Rattle.rec_types.proofs.sorted_table.SortedTable.put.Goals as goal

pub invariant_of-self : goal.invariant_of-self
invariant_of-self c = record {
  unique = c.insert.ensures.unique;
  within =
      let limits = ap (λ (s : SortedState). s.limit) c.self.view_is in
      let counts = sym (len_hashed c.self.inside.records c.self.invariant.unique) ∙ ap (λ (s : SortedState). maps.len s.contents) c.self.view_is in
      let stood = c.in-Ok.ensures.old ∙ sym (at_hash c.self.inside.records c.args.key) ∙ ap (λ (s : SortedState). maps.get s.contents c.args.key) c.self.view_is in
      fits c.self.inside.limit (length c.self.inside.records) (length c.insert.new.self) c.in-Ok.before c.in-Ok.ensures.len
      ((λ i. nat_le (limits i) (counts i) && is_none (stood i)) ∙ c.requires)
      c.self.invariant.within;
  limited = c.self.invariant.limited;
  ordered = λ on. first_stays (keys_of c.self.inside.records) (keys_of c.insert.new.self) c.self.inside.places.items c.args.key c.in-Ok.before c.in-Ok.ensures.keys c.in-Ok.ensures.last (c.self.invariant.ordered on);
}

pub returns-in-Ok-clause-value : goal.returns-in-Ok-clause-value
returns-in-Ok-clause-value c = c.in-Ok.ensures.old ∙ sym (at_hash c.self.inside.records c.args.key) ∙ ap (λ (s : SortedState). maps.get s.contents c.args.key) c.self.view_is

pub returns-in-Ok-clause-ok : goal.returns-in-Ok-clause-ok
returns-in-Ok-clause-ok c =
    let contents = updated c.self.inside.records c.insert.new.self c.args.key (Some c.args.value.now) c.in-Ok.ensures.updates ∙ ap (λ (s : SortedState). set_to s.contents c.args.key (Some c.args.value.now)) c.self.view_is in
    let limit = ap (λ (s : SortedState). s.limit) c.self.view_is in
    let refusals = ap (λ (s : SortedState). s.refusals) c.self.view_is in
    let calls = c.note_set.ensures ∙ ap (λ (s : SortedState). with_set s.calls false (Ok c.in-Ok.before)) c.self.view_is in
    λ i. record { contents = contents i; limit = limit i; refusals = refusals i; calls = calls i }

pub returns-in-Err-clause-memory : goal.returns-in-Err-clause-memory
returns-in-Err-clause-memory c = (refl, sym (ap (λ (s : SortedState). maps.get s.contents c.args.key) c.self.view_is) ∙ at_hash c.self.inside.records c.args.key ∙ c.in-Err.ensures.absent)

pub returns-in-Err-clause-err : goal.returns-in-Err-clause-err
returns-in-Err-clause-err c =
    let contents = ap (λ (es : Pairs). maps.from_entries es) c.in-Err.ensures.err ∙ ap (λ (s : SortedState). s.contents) c.self.view_is in
    let limit = ap (λ (s : SortedState). s.limit) c.self.view_is in
    let more : c.saturating_add-self-inside.result ≡ counted c.self.inside.refusals true = grind (arith, nat_tests, c.self.ranges) in
    let refusals = more ∙ ap (λ (s : SortedState). counted s.refusals true) c.self.view_is in
    let calls = c.note_set-in-Err.ensures ∙ ap (λ (s : SortedState). with_set s.calls false (Err Memory)) c.self.view_is in
    λ i. record { contents = contents i; limit = limit i; refusals = refusals i; calls = calls i }
