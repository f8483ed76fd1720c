-- Keys put in order by their places.
use Rattle.std.specs.Prelude.{ℕ, List, [], ◌∷◌, ◌≤◌, length, map, take, slice_index_or}
use Rattle.std.specs.Cmp.Lexicographic.{slice_cmp}
use Rattle.std.specs.List.{range_with_len}
use Rattle.std.specs.List.Sorted.{IsPermutation, IsSorted}
use Rattle.std.specs.Ordering.{nat_cmp}

abbrev pub key_at : List (List ℕ) → ℕ → List ℕ
key_at keys place = slice_index_or keys place []

-- the places are all those of the keys, each once, in the order of the keys
pub record IsOrderOf (keys : List (List ℕ)) (places : List ℕ) : Type 0 where
  pub all : IsPermutation (range_with_len 0 (length keys)) places
  pub sorted : IsSorted (slice_cmp nat_cmp) (map (key_at keys) places)

-- the places are those of the first keys, as many as there are places, in the order of the keys
pub record IsOrderOfFirst (keys : List (List ℕ)) (places : List ℕ) : Type 0 where
  pub few : length places ≤ length keys
  pub order : IsOrderOf (take (length places) keys) places

-- b, a and ab
abbrev pub three : List (List ℕ)
three = (98 ∷ []) ∷ (97 ∷ []) ∷ (97 ∷ 98 ∷ []) ∷ []

-- so few that each has a place of 32 bits
abbrev pub HavePlaces : List (List ℕ) → Type 0
HavePlaces keys = length keys ≤ 4294967296
