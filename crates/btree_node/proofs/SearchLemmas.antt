-- What one comparison says of ascending keys.
use Rattle.std.proofs.Common.{◌≡◌, ℕ, zero, suc, ◌<◌, List, [], ◌∷◌, length, get_or, take, drop, ap, ◌∙◌, subst, arith}
use Rattle.std.proofs.lemmas.List.{get_or_default}
use Rattle.btree_node.specs.Lists.{Element, Each, Below, Ascends, IsAt}
use Rattle.btree_node.proofs.ElementOrderLemmas.{Each_at, Each-map, Below-trans}

-- the keys before a place are below its key
pub before : (xs : List Element) (m : ℕ) (d : Element) → Ascends xs → m < length xs → Each (λ e. Below e.0 (get_or xs m d).0) (take m xs)
before [] m d up low = absurd (omega arith)
before (a ∷ xs) zero d up low = tt
before (a ∷ xs) (suc m) d up low =
    (Each_at (λ later. Below a.0 later.0) xs m (get_or xs m d) up.0 (omega arith) (get_or_default xs m d (get_or xs m d) (omega arith)), before xs m d up.1 (omega arith))

-- the keys behind a place are above its key
pub behind : (xs : List Element) (m : ℕ) (d : Element) → Ascends xs → m < length xs → Each (λ e. Below (get_or xs m d).0 e.0) (drop (suc m) xs)
behind [] m d up low = absurd (omega arith)
behind (a ∷ xs) zero d up low = up.0
behind (a ∷ xs) (suc m) d up low = behind xs m d up.1 (omega arith)

-- a key at a place that is smaller: so are those before it
pub below_to : (xs : List Element) (key : List ℕ) (m : ℕ) (d : Element) → Ascends xs → m < length xs → Below (get_or xs m d).0 key → Each (λ e. Below e.0 key) (take (suc m) xs)
below_to [] key m d up low smaller = absurd (omega arith)
below_to (a ∷ xs) key zero d up low smaller = (smaller, tt)
below_to (a ∷ xs) key (suc m) d up low smaller =
    let next = Each_at (λ later. Below a.0 later.0) xs m (get_or xs m d) up.0 (omega arith) (get_or_default xs m d (get_or xs m d) (omega arith)) in
    (Below-trans a.0 (get_or xs m d).0 key next smaller, below_to xs key m d up.1 (omega arith) smaller)

-- one that is greater: so are those behind it
pub above_from : (xs : List Element) (key : List ℕ) (m : ℕ) (d : Element) → Ascends xs → m < length xs → Below key (get_or xs m d).0 → Each (λ e. Below key e.0) (drop m xs)
above_from [] key m d up low greater = absurd (omega arith)
above_from (a ∷ xs) key zero d up low greater =
    (greater, Each-map (λ later. Below a.0 later.0) (λ e. Below key e.0) xs (λ e above. Below-trans key a.0 e.0 greater above) up.0)
above_from (a ∷ xs) key (suc m) d up low greater = above_from xs key m d up.1 (omega arith) greater

-- the key itself
pub found_at : (xs : List Element) (key : List ℕ) (m : ℕ) (d : Element) → Ascends xs → m < length xs → (get_or xs m d).0 ≡ key → IsAt xs key m
found_at xs key m d up low here = record {
  within = low;
  below = subst (λ k. Each (λ e. Below e.0 k) (take m xs)) here (before xs m d up low);
  here = λ e. ap (λ x. x.0) (get_or_default xs m e d low) ∙ here;
  above = subst (λ k. Each (λ e. Below k e.0) (drop (suc m) xs)) here (behind xs m d up low);
}
