-- What one read of lines gives.
use Rattle.std.specs.Prelude.{◌≡◌, ℕ, List, [], ◌∷◌, ◌++◌, Option, IfSome, take}
use Rattle.std.specs.Io.{StopsAt}
use Rattle.std.specs.Io.BufRead.{take_through}

-- the bytes have an LF nowhere but at their end
abbrev pub IsWithinOneLine : List ℕ → Type 0
IsWithinOneLine bytes = StopsAt bytes 10

-- the first line of the bytes, with its LF, as much of it as one read gives
abbrev pub first_line_part : List ℕ → List ℕ
first_line_part bytes = take 4096 (take_through 10 bytes)

-- whatever follows the bytes, what one read gives is their own first line
abbrev pub HasFirstLine : List ℕ → Type 0
HasFirstLine bytes = (rest : List ℕ) → first_line_part (bytes ++ rest) ≡ take_through 10 bytes

-- where the bytes that are left are known, what one read gives of them is the first line of those that are kept
abbrev pub KeepsFirstLine : List ℕ → Option (List ℕ) → Type 0
KeepsFirstLine kept left = IfSome left (λ bytes. first_line_part bytes ≡ take_through 10 kept)

-- where the bytes that are left are known, a read gave their first line, as much of it as there was room for
abbrev pub GivesFirstLine : Option (List ℕ) → ℕ → List ℕ → Type 0
GivesFirstLine left room given = IfSome left (λ bytes. given ≡ take room (first_line_part bytes))

-- the lines a and b
abbrev pub lines_a_and_b : List ℕ
lines_a_and_b = 97 ∷ 10 ∷ 98 ∷ 10 ∷ []
