-- Where the records of a compact map stand: short ones in the slots of their keys, and the others in a list beside their keys.
use Rattle.std.specs.Prelude.{◌≡◌, ℕ, ◌<◌, List, length, map, Option, Some, None}
use Rattle.std.specs.Map.{lookup}
use Rattle.rec_types.specs.Sorted.{Pairs, pair_at, same_bytes}
use Rattle.rec_types.specs.declared.slot.Slot.{Slot}
use Rattle.rec_types.specs.declared.slot.Slot.TheVariants.{Short, Long}

-- the keys with their slots
abbrev pub Slots : Type 0
Slots = List (List ℕ × Slot)

-- the record of a slot
abbrev pub record_in : Pairs → Slot → List ℕ
record_in long (Short bytes) = bytes
record_in long (Long at) = (pair_at long at).1

-- the record of a slot that has it itself
abbrev pub short_in : Option Slot → Option (List ℕ)
short_in None = None
short_in (Some (Short bytes)) = Some bytes
short_in (Some (Long at)) = None

-- the place that a slot names
abbrev pub place_of : Option Slot → Option ℕ
place_of None = None
place_of (Some (Short bytes)) = None
place_of (Some (Long at)) = Some at

-- the keys with their records
abbrev pub pairs_in : Slots → Pairs → Pairs
pairs_in slots long = map (λ e. (e.0, record_in long e.1)) slots

-- the slot of the key
abbrev pub slot_at : Slots → List ℕ → Option Slot
slot_at slots key = lookup (same_bytes key) slots

-- each place that a slot names has the slot's key, and each place is named by the slot of its key
pub record AreInPlace (slot_of : List ℕ → Option Slot) (long : Pairs) : Type 0 where
  pub within : (key : List ℕ) (at : ℕ) → slot_of key ≡ Some (Long at) → at < length long
  pub placed : (key : List ℕ) (at : ℕ) → slot_of key ≡ Some (Long at) → (pair_at long at).0 ≡ key
  pub named : (at : ℕ) → at < length long → slot_of (pair_at long at).0 ≡ Some (Long at)
