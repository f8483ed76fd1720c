use Rattle.std.proofs.Common.{◌≡◌, ℕ, ◌+◌, ◌-◌, ◌<◌, false, true, [], length, Option, Some, None, is_some, MutBor, ap, sym, ◌∙◌, arith}
use Rattle.std.specs.Option.{option_copied_mut}
use Rattle.std.proofs.lemmas.Bool.{false≢true}
use Rattle.rec_types.specs.Slots.{slot_at}
use Rattle.rec_types.specs.Sorted.{pair_at}
use Rattle.rec_types.specs.declared.slot.Slot.{Slot}
use Rattle.rec_types.specs.declared.slot.Slot.TheVariants.{Long}
use Rattle.rec_types.proofs.SlotLemmas.{Taken, key_read, moved, moved_found, moved_records, last_taken, last_taken_records}
use Rattle.rec_types.proofs.compact_map.take_long.Goals as goal
use Rattle.rec_types.proofs.compact_map.take_long.Goals.{After-swap_remove-slot}

module _ (c : After-swap_remove-slot) where
  taken : Taken (slot_at c.args.slots.now.entries) (slot_at c.swap_remove-slot.new.self.entries) c.args.long.now.items c.swap_remove-record.new.self.items c.args.key.now c.args.at
  taken = record {
    is = c.requires.in_place;
    at_k = c.requires.at;
    takes = c.swap_remove-slot.ensures.updates.0;
    less = omega (arith, c.swap_remove-record.ensures.len, c.args.long.now.ok.0, c.swap_remove-record.new.self.ok.0);
    moves = λ further.
        c.swap_remove-record.ensures.by_index.0 ([], []) (omega (arith, further, c.args.long.now.ok.0))
        ∙ ap (λ (n : ℕ). pair_at c.args.long.now.items (n - 1)) c.args.long.now.ok.0;
    stay = λ i ne further. c.swap_remove-record.ensures.by_index.1 i ([], []) (λ e. false≢true (ne e)) (omega (arith, further, c.args.long.now.ok.0));
  }

-- the last record goes to the place
pub returns-in-Some-clause-in_place : goal.returns-in-Some-clause-in_place
returns-in-Some-clause-in_place c =
    let change = taken (goal.at.returns-in-Some-clause-in_place c).After-swap_remove-slot in
    let further : c.args.at + 1 < length c.args.long.now.items = omega (arith, c.if-at-len.true, c.len.ensures, c.swap_remove-record.ensures.len, c.args.long.now.ok.0) in
    let key = key_read c.swap_remove-record.new.self.items c.args.at c.index.result.now (omega (arith, change.less, further)) c.index.ensures in
    let found = moved_found _ _ _ _ _ _ change c.index.result.now.0 further key in
    moved _ _ _ _ _ _ change c.index.result.now.0 further key _ ((c.get_mut.follows.holds (Long c.args.at)).3 (ap (λ (o : Option Slot). is_some o) found)).0

pub returns-in-Some-clause-updates : goal.returns-in-Some-clause-updates
returns-in-Some-clause-updates c =
    let change = taken (goal.at.returns-in-Some-clause-updates c).After-swap_remove-slot in
    let further : c.args.at + 1 < length c.args.long.now.items = omega (arith, c.if-at-len.true, c.len.ensures, c.swap_remove-record.ensures.len, c.args.long.now.ok.0) in
    let key = key_read c.swap_remove-record.new.self.items c.args.at c.index.result.now (omega (arith, change.less, further)) c.index.ensures in
    let found = moved_found _ _ _ _ _ _ change c.index.result.now.0 further key in
    moved_records _ _ _ _ _ _ change c.index.result.now.0 further key _ ((c.get_mut.follows.holds (Long c.args.at)).3 (ap (λ (o : Option Slot). is_some o) found)).0

-- its key is found
not_lost : (o : Option (MutBor Slot)) (s : Option Slot) (i : ℕ) → option_copied_mut o ≡ s → s ≡ Some (Long i) → o ≡ None → false ≡ true
not_lost o s i read here lost = ap (λ (x : Option Slot). is_some x) (sym (ap option_copied_mut lost) ∙ read ∙ here)

pub returns-in_default-clause-updates : goal.returns-in_default-clause-updates
returns-in_default-clause-updates c =
    let change = taken (goal.at.returns-in_default-clause-updates c).After-swap_remove-slot in
    let further : c.args.at + 1 < length c.args.long.now.items = omega (arith, c.if-at-len.true, c.len.ensures, c.swap_remove-record.ensures.len, c.args.long.now.ok.0) in
    let key = key_read c.swap_remove-record.new.self.items c.args.at c.index.result.now (omega (arith, change.less, further)) c.index.ensures in
    absurd (false≢true (not_lost c.get_mut.result _ _ c.get_mut.ensures.value (moved_found _ _ _ _ _ _ change c.index.result.now.0 further key) c.in_default.is))

pub returns-in_default-clause-in_place : goal.returns-in_default-clause-in_place
returns-in_default-clause-in_place c =
    let change = taken (goal.at.returns-in_default-clause-in_place c).After-swap_remove-slot in
    let further : c.args.at + 1 < length c.args.long.now.items = omega (arith, c.if-at-len.true, c.len.ensures, c.swap_remove-record.ensures.len, c.args.long.now.ok.0) in
    let key = key_read c.swap_remove-record.new.self.items c.args.at c.index.result.now (omega (arith, change.less, further)) c.index.ensures in
    absurd (false≢true (not_lost c.get_mut.result _ _ c.get_mut.ensures.value (moved_found _ _ _ _ _ _ change c.index.result.now.0 further key) c.in_default.is))

-- it was the last
pub returns-else-at-len-clause-updates : goal.returns-else-at-len-clause-updates
returns-else-at-len-clause-updates c = last_taken_records _ _ _ _ _ _ (taken (goal.at.returns-else-at-len-clause-updates c).After-swap_remove-slot)
    (omega (arith, c.if-at-len.false, c.len.ensures, c.swap_remove-record.ensures.len, c.args.long.now.ok.0, c.requires.in_place.within c.args.key.now c.args.at c.requires.at))

pub returns-else-at-len-clause-in_place : goal.returns-else-at-len-clause-in_place
returns-else-at-len-clause-in_place c = last_taken _ _ _ _ _ _ (taken (goal.at.returns-else-at-len-clause-in_place c).After-swap_remove-slot)
    (omega (arith, c.if-at-len.false, c.len.ensures, c.swap_remove-record.ensures.len, c.args.long.now.ok.0, c.requires.in_place.within c.args.key.now c.args.at c.requires.at))
