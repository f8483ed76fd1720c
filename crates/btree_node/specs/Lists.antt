-- Keys with their records, in ascending order.
use Rattle.std.specs.Prelude.{◌≡◌, ℕ, suc, ◌<◌, ◌≤◌, List, [], ◌∷◌, length, take, drop, slice_index_or}
use Rattle.std.specs.Ordering.{nat_cmp}
use Rattle.std.specs.Cmp.Lexicographic.{slice_cmp}
use Rattle.std.specs.declared.cmp.Ordering.TheVariants.{Less}

-- a key with its record, each as its bytes
abbrev pub Element : Type 0
Element = List ℕ × List ℕ

-- P holds of each element of a list
abbrev pub Each : {X : Type 0} → (X → Type 0) → List X → Type 0
Each P [] = Unit {0}
Each P (x ∷ xs) = P x × Each P xs

-- the order of keys: by bytes, a proper prefix first
unfoldable pub Below : List ℕ → List ℕ → Type 0
Below low high = slice_cmp nat_cmp low high ≡ Less

-- each key is below all later ones
abbrev pub Ascends : List Element → Type 0
Ascends [] = Unit {0}
Ascends (e ∷ es) = Each (λ later. Below e.0 later.0) es × Ascends es

-- the key stands at place i, between smaller and greater keys
pub record IsAt (es : List Element) (key : List ℕ) (i : ℕ) : Type 0 where
  pub within : i < length es
  pub below : Each (λ e. Below e.0 key) (take i es)
  pub here : (d : Element) → (slice_index_or es i d).0 ≡ key
  pub above : Each (λ e. Below key e.0) (drop (suc i) es)

-- the key would stand at place i: i keys are smaller, the others are greater
pub record IsPlace (es : List Element) (key : List ℕ) (i : ℕ) : Type 0 where
  pub within : i ≤ length es
  pub below : Each (λ e. Below e.0 key) (take i es)
  pub above : Each (λ e. Below key e.0) (drop i es)
