-- Contents that grow by example.
use Rattle.std.specs.Prelude.{ℕ, List, [], ◌∷◌, Some}
use Rattle.std.specs.FinMap as maps
use Rattle.rec_types.specs.Contents.{Contents, set_to}

-- the keys a and b
abbrev pub a : List ℕ
a = 97 ∷ []

abbrev pub key_b : List ℕ
key_b = 98 ∷ []

-- the records x and y
abbrev pub x : List ℕ
x = 120 ∷ []

abbrev pub y : List ℕ
y = 121 ∷ []

-- x at a, and y at a
abbrev pub x_at_a : Contents
x_at_a = set_to maps.empty a (Some x)

abbrev pub y_at_a : Contents
y_at_a = set_to maps.empty a (Some y)

-- x at a, and y at b
abbrev pub x_and_y : Contents
x_and_y = set_to x_at_a key_b (Some y)
