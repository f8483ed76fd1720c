-- How many calls of a store were made.
use Rattle.std.specs.Prelude.{◌≡◌, ℕ, ◌+◌, ◌≤◌, Bool, true, zero, suc, if◌then◌else◌}
use Rattle.rec_types.specs.Table.{counted}

-- a number counted so many times
abbrev pub counted_times : ℕ → ℕ → ℕ
counted_times old zero = old
counted_times old (suc calls) = counted (counted_times old calls) true

-- a number counted at least once and at most so many times
abbrev pub CountedUpTo : ℕ → ℕ → ℕ → Type 0
CountedUpTo most old new = (calls : ℕ) × (1 ≤ calls) × (calls ≤ most) × (new ≡ counted_times old calls)

-- how many of the numbers below n pass the test
abbrev pub how_many : (ℕ → Bool) → ℕ → ℕ
how_many test zero = 0
how_many test (suc n) = if test n then how_many test n + 1 else how_many test n
