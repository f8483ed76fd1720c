-- Ending by example: transactions 1 and 3 are open, 2 has committed.
use Rattle.std.specs.Prelude.{ℕ, Bool, true, false, List, [], ◌∷◌, Option, Some, None}
use Rattle.rec_types.specs.History.{Change}

abbrev pub change : ℕ → ℕ → Option (List ℕ) → Bool → Change
change t key after live = record { tx = t; key = key ∷ []; after = Some after; live = live }

-- transaction 1 put a record at key 97 and took that at 99 out, which was taken back; 2 and 3 put one each
abbrev pub four_changes : List Change
four_changes =
    change 1 97 (Some (120 ∷ [])) true ∷ change 2 98 (Some (121 ∷ [])) true ∷ change 1 99 None false ∷ change 3 100 (Some (122 ∷ [])) true ∷ []

-- once 1 and 3 have ended
abbrev pub two_taken_back : List Change
two_taken_back =
    change 1 97 (Some (120 ∷ [])) false ∷ change 2 98 (Some (121 ∷ [])) true ∷ change 1 99 None false ∷ change 3 100 (Some (122 ∷ [])) false ∷ []
