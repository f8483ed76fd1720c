-- The record nearest to a gap on a side of it, among records in the order of their keys.
use Rattle.std.specs.Prelude.{◌≡◌, ◌⊎◌, ℕ, zero, suc, Bool, true, false, not, List, [], ◌∷◌, ◌++◌, take, drop, reverse, Option, Some, None, if◌then◌else◌}
use Rattle.std.specs.FinMap as maps
use Rattle.std.specs.Ordering.{nat_cmp, is_lt}
use Rattle.std.specs.Cmp.Lexicographic.{slice_cmp}
use Rattle.std.specs.declared.cmp.Ordering.TheVariants.{Less}
use Rattle.rec_types.specs.Contents.{Contents}
use Rattle.rec_types.specs.Sorted.{Pairs}
use Rattle.rec_types.specs.declared.gap.Gap.{Gap}
use Rattle.rec_types.specs.declared.gap.Gap.TheVariants as gaps
use Rattle.rec_types.specs.declared.side.Side.{Side}
use Rattle.rec_types.specs.declared.side.Side.TheVariants.{After, Before}

-- one key is below another
abbrev pub is_key_below : List ℕ → List ℕ → Bool
is_key_below low high = is_lt (slice_cmp nat_cmp low high)

-- whether a key lies left of the gap
abbrev pub is_left : Gap → List ℕ → Bool
is_left gaps.Start key = false
is_left (gaps.Before from) key = is_key_below key from
is_left (gaps.Behind from) key = not (is_key_below from key)
is_left gaps.End key = true

-- the first record whose key doesn't lie left, or what was passed before where there is none
abbrev pub first_right : (List ℕ → Bool) → Pairs → Option (List ℕ × List ℕ) → Option (List ℕ × List ℕ)
first_right left [] passed = passed
first_right left (e ∷ es) passed = if left e.0 then first_right left es passed else Some e

-- the last record before the first whose key doesn't lie left, or what was passed before where there is none
abbrev pub last_left : (List ℕ → Bool) → Pairs → Option (List ℕ × List ℕ) → Option (List ℕ × List ℕ)
last_left left [] passed = passed
last_left left (e ∷ es) passed = if left e.0 then last_left left es (Some e) else passed

-- the record next to the gap, on a side of it
abbrev pub nearest : Side → (List ℕ → Bool) → Pairs → Option (List ℕ × List ℕ) → Option (List ℕ × List ℕ)
nearest After left es passed = first_right left es passed
nearest Before left es passed = last_left left es passed

-- the record nearest to a gap on a side of it, with its key
unfoldable pub beside : Side → Contents → Gap → Option (List ℕ × List ℕ)
beside side m gap = nearest side (is_left gap) (maps.entries m) None

-- the records from the first on whose key doesn't lie left, before those that were passed
abbrev pub all_right : (List ℕ → Bool) → Pairs → Pairs → Pairs
all_right left [] passed = passed
all_right left (e ∷ es) passed = if left e.0 then all_right left es passed else (e ∷ es) ++ passed

-- the records before the first whose key doesn't lie left, the last of them first, before those that were passed
abbrev pub all_left : (List ℕ → Bool) → Pairs → Pairs → Pairs
all_left left [] passed = passed
all_left left (e ∷ es) passed = if left e.0 then all_left left es (e ∷ passed) else passed

-- the records on a side of the gap, the nearest first, before those that were passed
abbrev pub in_turn : Side → (List ℕ → Bool) → Pairs → Pairs → Pairs
in_turn After left es passed = all_right left es passed
in_turn Before left es passed = all_left left es passed

-- what was passed, as a list
abbrev pub listed_one : Option (List ℕ × List ℕ) → Pairs
listed_one None = []
listed_one (Some e) = e ∷ []

-- all records on a side of a gap, the nearest first
unfoldable pub all_beside : Side → Contents → Gap → Pairs
all_beside side m gap = in_turn side (is_left gap) (maps.entries m) []

-- so many records lie left of the gap, and the next doesn't
abbrev pub IsGap : (List ℕ → Bool) → Pairs → ℕ → Type 0
IsGap left [] i = i ≡ 0
IsGap left (e ∷ es) zero = left e.0 ≡ false
IsGap left (e ∷ es) (suc i) = (left e.0 ≡ true) × IsGap left es i

-- the record that stands behind a gap, or what was passed before
abbrev pub behind_gap : Pairs → ℕ → Option (List ℕ × List ℕ) → Option (List ℕ × List ℕ)
behind_gap [] i passed = passed
behind_gap (e ∷ es) zero passed = Some e
behind_gap (e ∷ es) (suc i) passed = behind_gap es i passed

-- the record that stands before a gap, or what was passed before
abbrev pub before_gap : Pairs → ℕ → Option (List ℕ × List ℕ) → Option (List ℕ × List ℕ)
before_gap [] i passed = passed
before_gap (e ∷ es) zero passed = passed
before_gap (e ∷ es) (suc i) passed = before_gap es i (Some e)

abbrev pub at_gap : Side → Pairs → ℕ → Option (List ℕ × List ℕ) → Option (List ℕ × List ℕ)
at_gap After es i passed = behind_gap es i passed
at_gap Before es i passed = before_gap es i passed

-- the records on a side of a gap that so many lie left of, the nearest first
abbrev pub from_gap : Side → Pairs → ℕ → Pairs
from_gap After es i = drop i es
from_gap Before es i = reverse (take i es)

-- ---- the same in the words of a finite map

-- one key comes before another
abbrev pub IsKeyBelow : List ℕ → List ℕ → Type 0
IsKeyBelow low high = slice_cmp nat_cmp low high ≡ Less

-- a key lies on a side of a gap
abbrev pub LiesBeside : Side → Gap → List ℕ → Type 0
LiesBeside After gaps.Start key = Unit {0}
LiesBeside After (gaps.Before from) key = (key ≡ from) ⊎ IsKeyBelow from key
LiesBeside After (gaps.Behind from) key = IsKeyBelow from key
LiesBeside After gaps.End key = ⊥
LiesBeside Before gaps.Start key = ⊥
LiesBeside Before (gaps.Before from) key = IsKeyBelow key from
LiesBeside Before (gaps.Behind from) key = (key ≡ from) ⊎ IsKeyBelow key from
LiesBeside Before gaps.End key = Unit {0}

-- going to that side, one key comes before another
abbrev pub ComesFirst : Side → List ℕ → List ℕ → Type 0
ComesFirst After one other = IsKeyBelow one other
ComesFirst Before one other = IsKeyBelow other one

-- a record that stands on a side of a gap, where no other lies between
pub record StandsNext (side : Side) (m : Contents) (gap : Gap) (e : List ℕ × List ℕ) : Type 0 where
  pub stands : maps.get m e.0 ≡ Some e.1
  pub lies : LiesBeside side gap e.0
  pub next : (k : List ℕ) → LiesBeside side gap k → ComesFirst side k e.0 → maps.get m k ≡ None

-- the next record on a side of a gap, or that there is none on that side
abbrev pub IsNextBeside : Side → Contents → Gap → Option (List ℕ × List ℕ) → Type 0
IsNextBeside side m gap None = (k : List ℕ) → LiesBeside side gap k → maps.get m k ≡ None
IsNextBeside side m gap (Some e) = StandsNext side m gap e

-- ---- a walk

-- the gap past a key, going to that side
abbrev pub gap_past : Side → List ℕ → Gap
gap_past After key = gaps.Behind key
gap_past Before key = gaps.Before key

-- what is found by going on from a gap, at most so often, each time from the gap past the key that was found
abbrev pub walk_on : (Gap → Option (List ℕ × List ℕ)) → Side → ℕ → Gap → Pairs
walk_on next side zero gap = []
walk_on next side (suc n) gap = elim (next gap) [ None ↦ [] | Some e ↦ e ∷ walk_on next side n (gap_past side e.0) ]

abbrev pub walked : Side → Contents → ℕ → Gap → Pairs
walked side m n gap = walk_on (beside side m) side n gap

-- records by example, at the keys a, ab and b
abbrev pub at_a_ab_and_b : Contents
at_a_ab_and_b = maps.from_sorted ((97 ∷ [], 120 ∷ []) ∷ (97 ∷ 98 ∷ [], []) ∷ (98 ∷ [], 121 ∷ []) ∷ [])
