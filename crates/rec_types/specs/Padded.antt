-- Bytes in a field of a fixed width: the bytes, and then zeros.
use Rattle.std.specs.Prelude.{◌≡◌, ℕ, ◌<◌, ◌≤◌, ◌-◌, List, ◌++◌, length, replicate, slice_index}

unfoldable pub padded : ℕ → List ℕ → List ℕ
padded width bytes = bytes ++ replicate (width - length bytes) 0

-- each byte from a place on is zero
abbrev pub IsZeroFrom : ℕ → List ℕ → Type 0
IsZeroFrom len bytes = (i : ℕ) → len ≤ i → slice_index bytes i ≡ 0

-- each is a byte
abbrev pub AreBytes : List ℕ → Type 0
AreBytes xs = (i : ℕ) → slice_index xs i < 256
