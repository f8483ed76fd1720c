-- What a store may do to its pages when it is made longer.
use Rattle.std.specs.Prelude.{◌≡◌, ℕ, ◌≤◌, List, ◌++◌, length}

-- the old pages stand first, and there are at most n
abbrev pub GrowsTo : ℕ → List (List ℕ) → List (List ℕ) → Type 0
GrowsTo n old new = (more : List (List ℕ)) × (new ≡ old ++ more) × (length new ≤ n)
