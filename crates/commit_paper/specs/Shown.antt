-- What the bytes of a log show.
use Rattle.std.specs.Prelude.{◌≡◌, ◌⊎◌, ℕ, List, [], ◌∷◌, ◌++◌}
use Rattle.commit_paper.specs.Text.{units_of, log_text, zeros}

-- the units, then so many zeros, and anything behind them
pub record Shows (units : List (List (List ℕ))) (room : ℕ) (bytes : List ℕ) : Type 0 where
  pub junk : List ℕ
  pub spelt : bytes ≡ log_text units ++ zeros room ++ junk

-- these units, with one more or without it
abbrev pub IsBeforeOrAfter : List (List (List ℕ)) → List (List ℕ) → List ℕ → Type 0
IsBeforeOrAfter units unit bytes = (units_of bytes ≡ units) ⊎ (units_of bytes ≡ units ++ unit ∷ [])
