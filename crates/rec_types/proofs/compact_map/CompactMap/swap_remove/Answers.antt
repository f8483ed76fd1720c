use Rattle.std.proofs.Common.{None, is_some, refl, sym, ap, ◌∙◌}
use Rattle.rec_types.specs.Slots.{short_in, slot_at}
use Rattle.rec_types.proofs.MapLemmas.{fewer}
use Rattle.rec_types.proofs.SlotLemmas.{changed, changed_records, change_seen, distinct_seen, record_seen, short_read}
use Rattle.rec_types.proofs.compact_map.CompactMap.swap_remove.Goals as goal

-- a long record
pub returns-in-Some-clause-value : goal.returns-in-Some-clause-value
returns-in-Some-clause-value c = c.take_long.ensures.value ∙ record_seen c.self.inside.slots.entries c.self.inside.slots.entries c.self.inside.long.items c.self.inside.long.items c.args.self.now c.self.view_is c.args.key.now

pub returns-in-Some-clause-updates : goal.returns-in-Some-clause-updates
returns-in-Some-clause-updates c = change_seen c.self.inside.slots.entries c.take_long.new.slots.entries c.self.inside.long.items c.take_long.new.long.items c.args.self.now c.self.view_is c.args.key.now None c.take_long.ensures.updates

pub returns-in-Some-clause-unique : goal.returns-in-Some-clause-unique
returns-in-Some-clause-unique c = distinct_seen c.self.inside.slots.entries c.take_long.new.slots.entries c.self.inside.long.items c.take_long.new.long.items c.args.self.now c.self.view_is c.take_long.ensures.unique

-- a short one, or none
pub invariant_of-self-2 : goal.invariant_of-self-2
invariant_of-self-2 c = record {
  unique = c.swap_remove.ensures.unique;
  in_place = changed (slot_at c.self.inside.slots.entries) (slot_at c.swap_remove.new.self.entries) c.self.inside.long.items c.args.key.now None c.self.invariant.in_place (sym c.long_place.ensures ∙ c.in_default.is) refl c.swap_remove.ensures.updates.0;
  room = fewer (is_some c.swap_remove.result) _ _ _ c.swap_remove.ensures.len c.self.invariant.room;
}

pub returns-clause-value : goal.returns-clause-value
returns-clause-value c =
    c.short_record.ensures ∙ ap short_in c.swap_remove.ensures.value
    ∙ short_read c.self.inside.long.items (slot_at c.self.inside.slots.entries c.args.key.now) (sym c.long_place.ensures ∙ c.in_default.is)
    ∙ record_seen c.self.inside.slots.entries c.self.inside.slots.entries c.self.inside.long.items c.self.inside.long.items c.args.self.now c.self.view_is c.args.key.now

pub returns-clause-updates : goal.returns-clause-updates
returns-clause-updates c = change_seen c.self.inside.slots.entries c.swap_remove.new.self.entries c.self.inside.long.items c.self.inside.long.items c.args.self.now c.self.view_is c.args.key.now None
    (changed_records (slot_at c.self.inside.slots.entries) (slot_at c.swap_remove.new.self.entries) c.self.inside.long.items c.args.key.now None c.swap_remove.ensures.updates.0)

pub returns-clause-unique : goal.returns-clause-unique
returns-clause-unique c = distinct_seen c.self.inside.slots.entries c.swap_remove.new.self.entries c.self.inside.long.items c.self.inside.long.items c.args.self.now c.self.view_is c.swap_remove.ensures.unique
