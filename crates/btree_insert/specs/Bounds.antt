-- What all levels above a page say of its keys.
use Rattle.std.specs.Prelude.{ℕ, zero, suc, List, [], ◌∷◌, Option, Some, None}
use Rattle.btree_node.specs.Lists.{Element, Each, Below, Ascends}
use Rattle.btree_insert.specs.declared.bounds.Bounds.{Bounds}

-- the key is above the low bound, if there is one
abbrev pub Over : Option (List ℕ) → List ℕ → Type 0
Over None key = Unit {0}
Over (Some low) key = Below low key

-- the key is below the high bound, if there is one
abbrev pub Under : Option (List ℕ) → List ℕ → Type 0
Under None key = Unit {0}
Under (Some high) key = Below key high

-- each key is strictly between the bounds
pub record AreWithin (bounds : Bounds) (es : List Element) : Type 0 where
  pub over : Each (λ e. Over bounds.low e.0) es
  pub under : Each (λ e. Under bounds.high e.0) es

-- ascending keys strictly between the bounds
pub record Between (bounds : Bounds) (es : List Element) : Type 0 where
  pub ascends : Ascends es
  pub within : AreWithin bounds es

-- no bounds: those of a root
abbrev pub unbounded : Bounds
unbounded = record { low = None; high = None }

-- the key before son i, if there is one
abbrev pub low_at : List Element → ℕ → Option (List ℕ) → Option (List ℕ)
low_at [] i low = low
low_at (e ∷ es) zero low = low
low_at (e ∷ es) (suc i) low = low_at es i (Some e.0)

-- the key behind son i, if there is one
abbrev pub high_at : List Element → ℕ → Option (List ℕ) → Option (List ℕ)
high_at [] i high = high
high_at (e ∷ es) zero high = Some e.0
high_at (e ∷ es) (suc i) high = high_at es i high

-- what stands below son i of a page is bounded by the keys on its two sides
abbrev pub son_bounds : List Element → ℕ → Bounds → Bounds
son_bounds es i bounds = record { low = low_at es i bounds.low; high = high_at es i bounds.high }
