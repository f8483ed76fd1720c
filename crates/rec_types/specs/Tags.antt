-- Keys told by numbers.
use Rattle.std.specs.Prelude.{ℕ, ◌+◌, ◌*◌, ◌/◌, ◌%◌, List, [], ◌∷◌}
use Rattle.byteorder.specs.Endian.{big_number}

-- the first 44 bits of a key, with zeros behind a shorter key, and behind them the key's place
abbrev pub tag_of : ℕ → List ℕ → ℕ
tag_of place key = big_number 8 key / 1048576 * 1048576 + place

abbrev pub tags_from : ℕ → List (List ℕ) → List ℕ
tags_from place [] = []
tags_from place (key ∷ keys) = tag_of place key ∷ tags_from (place + 1) keys

-- the place of the key of which a tag tells
abbrev pub place_in : ℕ → ℕ
place_in tag = tag % 1048576
