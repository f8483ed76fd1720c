use Rattle.std.proofs.Common.{◌≡◌, ℕ, ◌≤◌, cond, List, [], ◌∷◌, ◌++◌, length, set, Option, Some, is_some, vec_capacity, length-append, refl, sym, ap, subst, ◌∙◌, arith}
use Rattle.std.specs.Map.{lookup}
use Rattle.std.specs.Option.{option_map}
use Rattle.rec_types.specs.Slots.{AreInPlace, Slots, pairs_in, record_in, slot_at}
use Rattle.rec_types.specs.Sorted.{Pairs, same_bytes}
use Rattle.rec_types.specs.declared.slot.Slot.TheVariants.{Short, Long}
use Rattle.rec_types.proofs.SlotLemmas.{changed, changed_records, change_seen, distinct_seen, found_place, keys_seen, last_seen, length-pairs_in, length_seen, lengthened, lengthened_records, no_more_places, none_seen, none_short, on_err, record_seen, replaced, replaced_records, room_after, short_read, short_some}
use Rattle.rec_types.proofs.compact_map.CompactMap.insert.Goals as goal
use Rattle.rec_types.proofs.compact_map.CompactMap.insert.Goals.{After-len}

-- a long record stands there
pub put_long-requires : goal.put_long-requires
put_long-requires c = c.self.invariant.in_place.within c.args.key c.in-Some.at (found_place (slot_at c.self.inside.slots.entries c.args.key) c.in-Some.at (sym c.long_place.ensures ∙ c.in-Some.is))

pub invariant_of-self : goal.invariant_of-self
invariant_of-self c = record {
  unique = c.self.invariant.unique;
  in_place = subst (λ (long : Pairs). AreInPlace (slot_at c.self.inside.slots.entries) long) (sym c.put_long.ensures.items) (replaced (slot_at c.self.inside.slots.entries) c.self.inside.long.items c.args.key c.args.«record».now c.in-Some.at c.self.invariant.in_place (found_place (slot_at c.self.inside.slots.entries c.args.key) c.in-Some.at (sym c.long_place.ensures ∙ c.in-Some.is)));
  room = subst (λ (n : ℕ). length c.self.inside.slots.entries ≤ n) (sym c.put_long.ensures.room) c.self.invariant.room;
}

pub returns-in-Some-clause-old : goal.returns-in-Some-clause-old
returns-in-Some-clause-old c =
    let at_k = found_place (slot_at c.self.inside.slots.entries c.args.key) c.in-Some.at (sym c.long_place.ensures ∙ c.in-Some.is) in
    ap (λ (r : List ℕ). Some r) c.put_long.ensures.value
    ∙ ap (option_map (record_in c.self.inside.long.items)) (sym at_k) ∙ record_seen c.self.inside.slots.entries c.self.inside.slots.entries c.self.inside.long.items c.self.inside.long.items c.args.self.now c.self.view_is c.args.key

pub returns-in-Some-clause-updates : goal.returns-in-Some-clause-updates
returns-in-Some-clause-updates c = λ q.
    ap (λ (long : Pairs). lookup (same_bytes q) (pairs_in c.self.inside.slots.entries long)) c.put_long.ensures.items
    ∙ change_seen c.self.inside.slots.entries c.self.inside.slots.entries c.self.inside.long.items (set c.self.inside.long.items c.in-Some.at (c.args.key, c.args.«record».now)) c.args.self.now c.self.view_is c.args.key (Some c.args.«record».now) (replaced_records (slot_at c.self.inside.slots.entries) c.self.inside.long.items c.args.key c.args.«record».now c.in-Some.at c.self.invariant.in_place (found_place (slot_at c.self.inside.slots.entries c.args.key) c.in-Some.at (sym c.long_place.ensures ∙ c.in-Some.is))) q

pub returns-in-Some-clause-keys : goal.returns-in-Some-clause-keys
returns-in-Some-clause-keys c = λ _. keys_seen c.self.inside.slots.entries c.self.inside.slots.entries c.self.inside.long.items _ c.args.self.now c.self.view_is refl

pub returns-in-Some-clause-unique : goal.returns-in-Some-clause-unique
returns-in-Some-clause-unique c = distinct_seen c.self.inside.slots.entries c.self.inside.slots.entries c.self.inside.long.items _ c.args.self.now c.self.view_is c.self.invariant.unique

-- no room for a new key
pub returns-then-not-make_room-clause-absent : goal.returns-then-not-make_room-clause-absent
returns-then-not-make_room-clause-absent c = none_seen c.self.inside.slots.entries c.self.inside.slots.entries c.self.inside.long.items c.self.inside.long.items c.args.self.now c.self.view_is c.args.key (c.make_room.ensures.refused c.if-not-make_room.true)

pub returns-then-not-make_room-clause-unique : goal.returns-then-not-make_room-clause-unique
returns-then-not-make_room-clause-unique c = distinct_seen c.self.inside.slots.entries c.self.inside.slots.entries c.self.inside.long.items c.make_room.new.long.items c.args.self.now c.self.view_is c.self.invariant.unique

pub returns-in_err-before-clause-absent : goal.returns-in_err-before-clause-absent
returns-in_err-before-clause-absent c = on_err c.from_residual.result (none_seen c.self.inside.slots.entries c.self.inside.slots.entries c.self.inside.long.items c.self.inside.long.items c.args.self.now c.self.view_is c.args.key c.in_err-before.ensures.err.1)

pub returns-in_err-before-clause-unique : goal.returns-in_err-before-clause-unique
returns-in_err-before-clause-unique c = distinct_seen c.self.inside.slots.entries c.put_slot.new.slots.entries c.self.inside.long.items c.make_room.new.long.items c.args.self.now c.self.view_is c.put_slot.ensures.unique

-- a short record is put
pub invariant_of-self-then-is_short : goal.invariant_of-self-then-is_short
invariant_of-self-then-is_short c = record {
  unique = c.put_slot.ensures.unique;
  in_place = subst (λ (long : Pairs). AreInPlace (slot_at c.put_slot.new.slots.entries) long) (sym c.make_room.ensures.items)
      (changed (slot_at c.self.inside.slots.entries) (slot_at c.put_slot.new.slots.entries) c.self.inside.long.items c.args.key (Some (Short c.of-short.result)) c.self.invariant.in_place (sym c.long_place.ensures ∙ c.in_default.is) refl c.in_ok-before.ensures.updates);
  room = room_after (vec_capacity c.make_room.new.long) (length c.self.inside.slots.entries) (length c.put_slot.new.slots.entries) (slot_at c.self.inside.slots.entries c.args.key) (slot_at c.self.inside.slots.entries c.args.key) refl c.in_ok-before.ensures.len (c.make_room.ensures.made c.if-not-make_room.false);
}

pub returns-then-is_short-clause-old : goal.returns-then-is_short-clause-old
returns-then-is_short-clause-old c =
    c.in_ok-before.ensures.old
    ∙ short_read c.self.inside.long.items (slot_at c.self.inside.slots.entries c.args.key) (sym c.long_place.ensures ∙ c.in_default.is) ∙ record_seen c.self.inside.slots.entries c.self.inside.slots.entries c.self.inside.long.items c.self.inside.long.items c.args.self.now c.self.view_is c.args.key

pub returns-then-is_short-clause-updates : goal.returns-then-is_short-clause-updates
returns-then-is_short-clause-updates c = change_seen c.self.inside.slots.entries c.put_slot.new.slots.entries c.self.inside.long.items c.make_room.new.long.items c.args.self.now c.self.view_is c.args.key (Some c.args.«record».now) (λ q.
    ap (λ (long : Pairs). option_map (record_in long) (slot_at c.put_slot.new.slots.entries q)) c.make_room.ensures.items
    ∙ changed_records (slot_at c.self.inside.slots.entries) (slot_at c.put_slot.new.slots.entries) c.self.inside.long.items c.args.key (Some (Short c.of-short.result)) c.in_ok-before.ensures.updates q
    ∙ ap (λ (r : List ℕ). cond (same_bytes c.args.key q) (Some r) (option_map (record_in c.self.inside.long.items) (slot_at c.self.inside.slots.entries q))) c.of-short.ensures)

pub returns-then-is_short-clause-last : goal.returns-then-is_short-clause-last
returns-then-is_short-clause-last c = λ none. last_seen c.self.inside.slots.entries c.put_slot.new.slots.entries c.self.inside.long.items c.make_room.new.long.items c.args.self.now c.self.view_is c.args.key
    (c.in_ok-before.ensures.last (none_short (slot_at c.self.inside.slots.entries c.args.key) (sym c.long_place.ensures ∙ c.in_default.is) (sym c.in_ok-before.ensures.old ∙ none)))

pub returns-then-is_short-clause-keys : goal.returns-then-is_short-clause-keys
returns-then-is_short-clause-keys c = λ some. keys_seen c.self.inside.slots.entries c.put_slot.new.slots.entries c.self.inside.long.items c.make_room.new.long.items c.args.self.now c.self.view_is
    (c.in_ok-before.ensures.keys (short_some (slot_at c.self.inside.slots.entries c.args.key) (ap (λ (o : Option (List ℕ)). is_some o) (sym c.in_ok-before.ensures.old) ∙ some)))

pub returns-then-is_short-clause-len : goal.returns-then-is_short-clause-len
returns-then-is_short-clause-len c = length_seen c.self.inside.slots.entries c.put_slot.new.slots.entries c.self.inside.long.items c.make_room.new.long.items c.args.self.now c.self.view_is (slot_at c.self.inside.slots.entries c.args.key) c.in_ok-before.before
    c.in_ok-before.ensures.len
    (c.in_ok-before.ensures.old ∙ short_read c.self.inside.long.items (slot_at c.self.inside.slots.entries c.args.key) (sym c.long_place.ensures ∙ c.in_default.is))

pub returns-then-is_short-clause-unique : goal.returns-then-is_short-clause-unique
returns-then-is_short-clause-unique c = distinct_seen c.self.inside.slots.entries c.put_slot.new.slots.entries c.self.inside.long.items c.make_room.new.long.items c.args.self.now c.self.view_is c.put_slot.ensures.unique

-- a long record is put

module _ (c : After-len) where
  place_is : c.len.result ≡ length c.self.inside.long.items
  place_is = c.len.ensures ∙ c.make_room.new.long.ok.0 ∙ ap (λ (long : Pairs). length long) c.make_room.ensures.items

  few : length c.self.inside.long.items ≤ length c.args.self.now
  few = omega (arith, no_more_places c.self.inside.slots.entries c.self.inside.long.items c.self.invariant.in_place, length-pairs_in c.self.inside.slots.entries c.self.inside.long.items, ap (λ (es : Pairs). length es) c.self.view_is)

  module _ (left : Slots) (puts : (q : List ℕ) → slot_at left q ≡ cond (same_bytes c.args.key q) (Some (Long c.len.result)) (slot_at c.self.inside.slots.entries q)) where
    named : (q : List ℕ) → slot_at left q ≡ cond (same_bytes c.args.key q) (Some (Long (length c.self.inside.long.items))) (slot_at c.self.inside.slots.entries q)
    named q = puts q ∙ ap (λ n. cond (same_bytes c.args.key q) (Some (Long n)) (slot_at c.self.inside.slots.entries q)) place_is

    after : AreInPlace (slot_at left) (c.self.inside.long.items ++ (c.args.key, c.args.«record».now) ∷ [])
    after = lengthened (slot_at c.self.inside.slots.entries) (slot_at left) c.self.inside.long.items c.args.key c.args.«record».now c.self.invariant.in_place (sym c.long_place.ensures ∙ c.in_default.is) named

    read_after : (q : List ℕ) → option_map (record_in (c.self.inside.long.items ++ (c.args.key, c.args.«record».now) ∷ [])) (slot_at left q) ≡ cond (same_bytes c.args.key q) (Some c.args.«record».now) (option_map (record_in c.self.inside.long.items) (slot_at c.self.inside.slots.entries q))
    read_after = lengthened_records (slot_at c.self.inside.slots.entries) (slot_at left) c.self.inside.long.items c.args.key c.args.«record».now c.self.invariant.in_place (sym c.long_place.ensures ∙ c.in_default.is) named

pub overflow_cast-len : goal.overflow_cast-len
overflow_cast-len c =
    let here = (goal.at.overflow_cast-len c).After-len in
    omega (arith, place_is here, few here, c.requires)

pub returns-in_err-before-2-clause-absent : goal.returns-in_err-before-2-clause-absent
returns-in_err-before-2-clause-absent c = on_err c.from_residual-in_err-before-2.result (none_seen c.self.inside.slots.entries c.self.inside.slots.entries c.self.inside.long.items c.self.inside.long.items c.args.self.now c.self.view_is c.args.key c.in_err-before-2.ensures.err.1)

pub returns-in_err-before-2-clause-unique : goal.returns-in_err-before-2-clause-unique
returns-in_err-before-2-clause-unique c = distinct_seen c.self.inside.slots.entries c.put_slot-2.new.slots.entries c.self.inside.long.items c.make_room.new.long.items c.args.self.now c.self.view_is c.put_slot-2.ensures.unique

pub push_reserved-requires : goal.push_reserved-requires
push_reserved-requires c =
    let here = (goal.at.push_reserved-requires c).After-len in
    let count = no_more_places c.put_slot-2.new.slots.entries (c.self.inside.long.items ++ (c.args.key, c.args.«record».now) ∷ []) (after here c.put_slot-2.new.slots.entries c.in_ok-before-2.ensures.updates) in
    let room = room_after (vec_capacity c.make_room.new.long) (length c.self.inside.slots.entries) (length c.put_slot-2.new.slots.entries) (slot_at c.self.inside.slots.entries c.args.key) (slot_at c.self.inside.slots.entries c.args.key) refl c.in_ok-before-2.ensures.len (c.make_room.ensures.made c.if-not-make_room.false) in
    omega (arith, count, room, length-append {A = List ℕ × List ℕ}, c.make_room.new.long.ok.0, ap (λ (long : Pairs). length long) c.make_room.ensures.items)

pub invariant_of-self-2 : goal.invariant_of-self-2
invariant_of-self-2 c =
    let here = (goal.at.invariant_of-self-2 c).After-len in
    record {
      unique = c.put_slot-2.ensures.unique;
      in_place = subst (λ (long : Pairs). AreInPlace (slot_at c.put_slot-2.new.slots.entries) long) (sym (c.push_reserved.ensures.items ∙ ap (λ (long : Pairs). long ++ (c.args.key, c.args.«record».now) ∷ []) c.make_room.ensures.items)) (after here c.put_slot-2.new.slots.entries c.in_ok-before-2.ensures.updates);
      room = subst (λ n. length c.put_slot-2.new.slots.entries ≤ n) (sym c.push_reserved.ensures.capacity) (room_after (vec_capacity c.make_room.new.long) (length c.self.inside.slots.entries) (length c.put_slot-2.new.slots.entries) (slot_at c.self.inside.slots.entries c.args.key) (slot_at c.self.inside.slots.entries c.args.key) refl c.in_ok-before-2.ensures.len (c.make_room.ensures.made c.if-not-make_room.false));
    }

pub returns-clause-old : goal.returns-clause-old
returns-clause-old c =
    c.in_ok-before-2.ensures.old
    ∙ short_read c.self.inside.long.items (slot_at c.self.inside.slots.entries c.args.key) (sym c.long_place.ensures ∙ c.in_default.is) ∙ record_seen c.self.inside.slots.entries c.self.inside.slots.entries c.self.inside.long.items c.self.inside.long.items c.args.self.now c.self.view_is c.args.key

pub returns-clause-updates : goal.returns-clause-updates
returns-clause-updates c =
    let here = (goal.at.returns-clause-updates c).After-len in
    change_seen c.self.inside.slots.entries c.put_slot-2.new.slots.entries c.self.inside.long.items c.push_reserved.new.self.items c.args.self.now c.self.view_is c.args.key (Some c.args.«record».now) (λ q.
    ap (λ (long : Pairs). option_map (record_in long) (slot_at c.put_slot-2.new.slots.entries q)) (c.push_reserved.ensures.items ∙ ap (λ (long : Pairs). long ++ (c.args.key, c.args.«record».now) ∷ []) c.make_room.ensures.items)
    ∙ read_after here c.put_slot-2.new.slots.entries c.in_ok-before-2.ensures.updates q)

pub returns-clause-last : goal.returns-clause-last
returns-clause-last c = λ none. last_seen c.self.inside.slots.entries c.put_slot-2.new.slots.entries c.self.inside.long.items c.push_reserved.new.self.items c.args.self.now c.self.view_is c.args.key
    (c.in_ok-before-2.ensures.last (none_short (slot_at c.self.inside.slots.entries c.args.key) (sym c.long_place.ensures ∙ c.in_default.is) (sym c.in_ok-before-2.ensures.old ∙ none)))

pub returns-clause-keys : goal.returns-clause-keys
returns-clause-keys c = λ some. keys_seen c.self.inside.slots.entries c.put_slot-2.new.slots.entries c.self.inside.long.items c.push_reserved.new.self.items c.args.self.now c.self.view_is
    (c.in_ok-before-2.ensures.keys (short_some (slot_at c.self.inside.slots.entries c.args.key) (ap (λ (o : Option (List ℕ)). is_some o) (sym c.in_ok-before-2.ensures.old) ∙ some)))

pub returns-clause-len : goal.returns-clause-len
returns-clause-len c = length_seen c.self.inside.slots.entries c.put_slot-2.new.slots.entries c.self.inside.long.items c.push_reserved.new.self.items c.args.self.now c.self.view_is (slot_at c.self.inside.slots.entries c.args.key) c.in_ok-before-2.before
    c.in_ok-before-2.ensures.len
    (c.in_ok-before-2.ensures.old ∙ short_read c.self.inside.long.items (slot_at c.self.inside.slots.entries c.args.key) (sym c.long_place.ensures ∙ c.in_default.is))

pub returns-clause-unique : goal.returns-clause-unique
returns-clause-unique c = distinct_seen c.self.inside.slots.entries c.put_slot-2.new.slots.entries c.self.inside.long.items c.push_reserved.new.self.items c.args.self.now c.self.view_is c.put_slot-2.ensures.unique
