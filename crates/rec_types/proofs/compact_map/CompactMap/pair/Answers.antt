use Rattle.std.proofs.Common.{ℕ, ◌<◌, List, [], length, Some, sym, ap, ◌∙◌, arith}
use Rattle.std.proofs.lemmas.Cmp.{nat_list_eq_equiv}
use Rattle.std.proofs.lemmas.List.{get_or_default}
use Rattle.std.proofs.lemmas.Map.Entries.{lookup_from_place}
use Rattle.std.specs.Map.Iter.{deref_pair}
use Rattle.std.specs.Option.{option_map}
use Rattle.rec_types.specs.Slots.{record_in}
use Rattle.rec_types.specs.declared.slot.Slot.{Slot}
use Rattle.rec_types.proofs.SlotLemmas.{pair_seen}
use Rattle.rec_types.proofs.compact_map.CompactMap.pair.Goals as goal

pub index-requires : goal.index-requires
index-requires c =
    let there = c.self.invariant.in_place.within c.unwrap.result.0.now c.in-Long.at
    (lookup_from_place nat_list_eq_equiv c.self.inside.slots.entries c.args.index c.unwrap.result.0.now c.unwrap.result.1.now c.self.invariant.unique (sym c.get_index.ensures.entry ∙ ap (option_map deref_pair) c.unwrap.ensures) ∙ ap (λ (s : Slot). Some s) c.in-Long.is) in
    omega (arith, there, c.self.inside.long.ok.0)

pub returns-in-Long : goal.returns-in-Long
returns-in-Long c =
    let there : c.in-Long.at < length c.self.inside.long.items = c.self.invariant.in_place.within c.unwrap.result.0.now c.in-Long.at
    (lookup_from_place nat_list_eq_equiv c.self.inside.slots.entries c.args.index c.unwrap.result.0.now c.unwrap.result.1.now c.self.invariant.unique (sym c.get_index.ensures.entry ∙ ap (option_map deref_pair) c.unwrap.ensures) ∙ ap (λ (s : Slot). Some s) c.in-Long.is) in
    ap (λ (p : List ℕ × List ℕ). let q : List ℕ × List ℕ = (c.unwrap.result.0.now, p.1) in q) (c.index.ensures ∙ get_or_default c.self.inside.long.items c.in-Long.at c.index.result.now ([], []) there)
    ∙ ap (λ (s : Slot). let q : List ℕ × List ℕ = (c.unwrap.result.0.now, record_in c.self.inside.long.items s) in q) (sym c.in-Long.is)
    ∙ pair_seen c.self.inside.slots.entries c.self.inside.long.items c.args.self.now c.args.index c.unwrap.result.0.now c.unwrap.result.1.now c.self.view_is (sym c.get_index.ensures.entry ∙ ap (option_map deref_pair) c.unwrap.ensures)
