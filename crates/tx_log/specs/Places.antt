-- The place of a savepoint in the history, read off the number of the newest record at that time.
use Rattle.std.specs.Prelude.{ℕ, suc, ◌&&◌, ◌==◌, nat_le, if◌then◌else◌, List, [], ◌∷◌}
use Rattle.rec_types.specs.Kept.{Kept}

-- how many changes of the transaction have a number of at most s
abbrev pub place_of_number : ℕ → ℕ → List Kept → ℕ
place_of_number t s [] = 0
place_of_number t s (c ∷ cs) = if (c.tx == t) && nat_le c.lsn s then suc (place_of_number t s cs) else place_of_number t s cs
