use Rattle.std.proofs.Common.{◌<◌, List, ℕ, [], Some, length, sym, ap, ◌∙◌, arith}
use Rattle.std.specs.Option.{option_map}
use Rattle.std.proofs.lemmas.List.{get_or_default}
use Rattle.rec_types.specs.Slots.{record_in}
use Rattle.rec_types.specs.declared.slot.Slot.{Slot}
use Rattle.rec_types.proofs.SlotLemmas.{record_seen}
use Rattle.rec_types.proofs.compact_map.CompactMap.get.Goals as goal

pub returns-in-Some-Short : goal.returns-in-Some-Short
returns-in-Some-Short c =
    let found = sym c.in-Some-Short.ensures.value ∙ ap (λ (s : Slot). Some s) c.in-Some-Short.field-0-is in
    ap Some c.record.ensures
    ∙ ap (option_map (record_in c.self.inside.long.items)) (sym found)
    ∙ record_seen c.self.inside.slots.entries c.self.inside.slots.entries c.self.inside.long.items c.self.inside.long.items c.args.self.now c.self.view_is c.args.key.now

pub index-requires : goal.index-requires
index-requires c =
    let there = c.self.invariant.in_place.within c.args.key.now c.in-Some-Long.at (sym c.in-Some-Long.ensures.value ∙ ap (λ (s : Slot). Some s) c.in-Some-Long.field-0-is) in
    omega (arith, there, c.self.inside.long.ok.0)

pub returns-in-Some-Long : goal.returns-in-Some-Long
returns-in-Some-Long c =
    let long = c.self.inside.long.items in
    let found = sym c.in-Some-Long.ensures.value ∙ ap (λ (s : Slot). Some s) c.in-Some-Long.field-0-is in
    let within : c.in-Some-Long.at < length long = c.self.invariant.in_place.within c.args.key.now c.in-Some-Long.at found in
    ap (λ (e : List ℕ × List ℕ). Some e.1) (c.index.ensures ∙ get_or_default long c.in-Some-Long.at c.index.result.now ([], []) within)
    ∙ ap (option_map (record_in long)) (sym found)
    ∙ record_seen c.self.inside.slots.entries c.self.inside.slots.entries long long c.args.self.now c.self.view_is c.args.key.now

pub returns-in-None : goal.returns-in-None
returns-in-None c =
    ap (option_map (record_in c.self.inside.long.items)) c.in-None.ensures.value
    ∙ record_seen c.self.inside.slots.entries c.self.inside.slots.entries c.self.inside.long.items c.self.inside.long.items c.args.self.now c.self.view_is c.args.key.now
