use Rattle.std.proofs.Common.{ℕ, ◌≡◌, ◌<◌, List, [], length, Some, sym, ap, ◌∙◌, arith}
use Rattle.std.proofs.lemmas.Cmp.{nat_list_eq_equiv}
use Rattle.std.proofs.lemmas.List.{get_or_default}
use Rattle.std.proofs.lemmas.Map.Entries.{lookup_from_place}
use Rattle.std.specs.Map.Iter.{deref_pair}
use Rattle.std.specs.Option.{option_map}
use Rattle.rec_types.specs.Slots.{record_in}
use Rattle.rec_types.specs.Sorted.{pair_at}
use Rattle.rec_types.specs.declared.slot.Slot.{Slot}
use Rattle.rec_types.proofs.SinkLemmas.{told_pair}
use Rattle.rec_types.proofs.SlotLemmas.{pair_seen}
use Rattle.rec_types.proofs.compact_map.CompactMap.tell_at.Goals as goal

pub index-requires : goal.index-requires
index-requires g c =
    let there = c.self.invariant.in_place.within c.unwrap.result.0.now c.in-Long.at
    (lookup_from_place nat_list_eq_equiv c.self.inside.slots.entries c.args.index c.unwrap.result.0.now c.unwrap.result.1.now c.self.invariant.unique (sym c.get_index.ensures.entry ∙ ap (option_map deref_pair) c.unwrap.ensures) ∙ ap (λ (s : Slot). Some s) c.in-Long.is) in
    omega (arith, there, c.self.inside.long.ok.0)

pub returns-in-Short : goal.returns-in-Short
returns-in-Short g c =
    let seen = pair_seen c.self.inside.slots.entries c.self.inside.long.items c.args.self.now c.args.index c.unwrap.result.0.now c.unwrap.result.1.now c.self.view_is (sym c.get_index.ensures.entry ∙ ap (option_map deref_pair) c.unwrap.ensures) in
    let is : (c.unwrap.result.0.now, c.bytes.result.now) ≡ pair_at c.args.self.now c.args.index =
    ap (λ (r : List ℕ). let p : List ℕ × List ℕ = (c.unwrap.result.0.now, r) in p) (c.bytes.ensures.value ∙ ap (record_in c.self.inside.long.items) (sym c.in-Short.is)) ∙ seen in
    told_pair (λ es. g.K.RecordSink.told c.args.sink.now c.args.out.now es c.take.new.self c.take.new.out) (λ es fault. g.K.RecordSink.stops c.args.sink.now c.args.out.now es fault c.take.new.self c.take.new.out)
    (c.unwrap.result.0.now, c.bytes.result.now) (pair_at c.args.self.now c.args.index) c.take.result is c.take.ensures

pub returns-in-Long : goal.returns-in-Long
returns-in-Long g c =
    let there : c.in-Long.at < length c.self.inside.long.items = c.self.invariant.in_place.within c.unwrap.result.0.now c.in-Long.at
    (lookup_from_place nat_list_eq_equiv c.self.inside.slots.entries c.args.index c.unwrap.result.0.now c.unwrap.result.1.now c.self.invariant.unique (sym c.get_index.ensures.entry ∙ ap (option_map deref_pair) c.unwrap.ensures) ∙ ap (λ (s : Slot). Some s) c.in-Long.is) in
    let seen = pair_seen c.self.inside.slots.entries c.self.inside.long.items c.args.self.now c.args.index c.unwrap.result.0.now c.unwrap.result.1.now c.self.view_is (sym c.get_index.ensures.entry ∙ ap (option_map deref_pair) c.unwrap.ensures) in
    let is : (c.unwrap.result.0.now, c.bytes-in-Long.result.now) ≡ pair_at c.args.self.now c.args.index =
    ap (λ (r : List ℕ). let p : List ℕ × List ℕ = (c.unwrap.result.0.now, r) in p) c.bytes-in-Long.ensures.value
    ∙ ap (λ (p : List ℕ × List ℕ). let q : List ℕ × List ℕ = (c.unwrap.result.0.now, p.1) in q) (c.index.ensures ∙ get_or_default c.self.inside.long.items c.in-Long.at c.index.result.now ([], []) there)
    ∙ ap (λ (s : Slot). let q : List ℕ × List ℕ = (c.unwrap.result.0.now, record_in c.self.inside.long.items s) in q) (sym c.in-Long.is)
    ∙ seen in
    told_pair (λ es. g.K.RecordSink.told c.args.sink.now c.args.out.now es c.take-in-Long.new.self c.take-in-Long.new.out) (λ es fault. g.K.RecordSink.stops c.args.sink.now c.args.out.now es fault c.take-in-Long.new.self c.take-in-Long.new.out)
    (c.unwrap.result.0.now, c.bytes-in-Long.result.now) (pair_at c.args.self.now c.args.index) c.take-in-Long.result is c.take-in-Long.ensures
