-- The length of a front.
use Rattle.std.specs.Prelude.{◌≡◌, ℕ, ◌≤◌, List, length, take}
use Rattle.std.proofs.Common.{arith}
use Rattle.std.proofs.lemmas.List.{length-take-le}

pub length_taken : (width len : ℕ) (bytes : List ℕ) → len ≤ width → length bytes ≡ width → length (take len bytes) ≡ len
length_taken width len bytes fits whole = length-take-le len bytes (omega arith)
