-- What taking back leaves of a history, and its parts.
use Rattle.std.specs.Prelude.{◌≡◌, ◌⊎◌, ℕ, true, false, List, [], ◌∷◌, Some, None, IsTrue}
use Rattle.rec_types.specs.History.{Change}

-- the same changes, of which none is live that was taken back
abbrev pub LosesLives : List Change → List Change → Type 0
LosesLives [] [] = Unit {0}
LosesLives [] (d ∷ g) = ⊥
LosesLives (c ∷ h) [] = ⊥
LosesLives (c ∷ h) (d ∷ g) = (d ≡ record c { live = d.live }) × (IsTrue d.live → IsTrue c.live) × LosesLives h g

-- some of the live changes of a history, in its order
abbrev pub IsPart : List Change → List Change → Type 0
IsPart [] h = Unit {0}
IsPart (d ∷ p) [] = ⊥
IsPart (d ∷ p) (c ∷ h) = ((d ≡ c) × IsTrue c.live × IsPart p h) ⊎ IsPart (d ∷ p) h

-- a change of transaction t that took key [x] out, live and taken back
abbrev pub out_of : ℕ → ℕ → Change
out_of t x = record { tx = t; key = x ∷ []; after = Some None; live = true }

abbrev pub taken_back_at : ℕ → ℕ → Change
taken_back_at t x = record { tx = t; key = x ∷ []; after = Some None; live = false }
