-- What holds of each element, and ascending keys.
use Rattle.std.proofs.lemmas.List.{take_all, take_more, get_or_default}
use Rattle.std.proofs.Common.{◌≡◌, ℕ, zero, suc, ◌+◌, ◌-◌, ◌<◌, ◌≤◌, List, [], ◌∷◌, ◌++◌, length, get_or, take, ap, sym, ◌∙◌, subst, arith}
use Rattle.std.specs.Ordering.{nat_cmp, ordering_reverse}
use Rattle.std.specs.declared.cmp.Ordering.TheVariants.{Greater}
use Rattle.std.specs.Cmp.Lexicographic.{slice_cmp}
use Rattle.std.proofs.lemmas.Cmp.{nat_list_cmp_total}
use Rattle.btree_node.specs.declared.node.NodeKind.{NodeKind}
use Rattle.btree_node.specs.declared.node.NodeKind.TheVariants.{Leaf, Inner}
use Rattle.btree_node.specs.Lists.{Element, Each, Below, Ascends}
use Rattle.btree_node.specs.Spelling.{SonsFit}

-- an element of the list, as a read gives it
pub Each_at : {X : Type 0} (P : X → Type 0) (xs : List X) (i : ℕ) (x : X) → Each P xs → i < length xs → x ≡ get_or xs i x → P x
Each_at P [] i x each low is = absurd (omega arith)
Each_at P (y ∷ ys) zero x each low is = subst P (sym is) each.0
Each_at P (y ∷ ys) (suc i) x each low is = Each_at P ys i x each.1 (omega arith) is

-- what holds of both parts holds of the whole
pub Each-append : {X : Type 0} (P : X → Type 0) (xs ys : List X) → Each P xs → Each P ys → Each P (xs ++ ys)
Each-append P [] ys front back = back
Each-append P (x ∷ xs) ys front back = (front.0, Each-append P xs ys front.1 back)

-- what holds of the whole holds of the first part
pub Each-left : {X : Type 0} (P : X → Type 0) (xs ys : List X) → Each P (xs ++ ys) → Each P xs
Each-left P [] ys each = tt
Each-left P (x ∷ xs) ys each = (each.0, Each-left P xs ys each.1)

-- and of the second
pub Each-right : {X : Type 0} (P : X → Type 0) (xs ys : List X) → Each P (xs ++ ys) → Each P ys
Each-right P [] ys each = each
Each-right P (x ∷ xs) ys each = Each-right P xs ys each.1

-- what follows from P for each element
pub Each-map : {X : Type 0} (P Q : X → Type 0) (xs : List X) → ((x : X) → P x → Q x) → Each P xs → Each Q xs
Each-map P Q [] follows each = tt
Each-map P Q (x ∷ xs) follows each = (follows x each.0, Each-map P Q xs follows each.1)

-- what holds at each index
pub Each_from : {X : Type 0} (P : X → Type 0) (xs : List X) → ((i : ℕ) (d : X) → i < length xs → P (get_or xs i d)) → Each P xs
Each_from P [] at = tt
Each_from P (x ∷ xs) at = (at 0 x (omega arith), Each_from P xs (λ i d low. at (suc i) d (omega arith)))

-- below what is below is below
pub Below-trans : (x y z : List ℕ) → Below x y → Below y z → Below x z
unfolding Below
Below-trans x y z low high = nat_list_cmp_total.trans x y z low high

-- the first part of ascending elements ascends
pub Ascends-left : (xs ys : List Element) → Ascends (xs ++ ys) → Ascends xs
Ascends-left [] ys up = tt
Ascends-left (x ∷ xs) ys up = (Each-left (λ later. Below x.0 later.0) xs ys up.0, Ascends-left xs ys up.1)

-- and the second
pub Ascends-right : (xs ys : List Element) → Ascends (xs ++ ys) → Ascends ys
Ascends-right [] ys up = up
Ascends-right (x ∷ xs) ys up = Ascends-right xs ys up.1

-- one more key above the last
pub Ascends-push : (xs : List Element) (x y : Element) → Ascends (xs ++ x ∷ []) → Below x.0 y.0 → Ascends ((xs ++ x ∷ []) ++ y ∷ [])
Ascends-push [] x y up above = ((above, tt), (tt, tt))
Ascends-push (z ∷ xs) x y up above =
    let last = Each-right (λ later. Below z.0 later.0) xs (x ∷ []) up.0 in
    (Each-append (λ later. Below z.0 later.0) (xs ++ x ∷ []) (y ∷ []) up.0 (Below-trans z.0 x.0 y.0 last.0 above, tt), Ascends-push xs x y up.1 above)

-- an inner node has the most sons
pub sons_most : (kind : NodeKind) (count : ℕ) (sons : List ℕ) → SonsFit kind count sons → length sons ≤ count + 1
sons_most Leaf count sons fit = omega (arith, ap length fit)
sons_most Inner count sons fit = omega (arith, fit.0)

-- one more key in the order of a loop
pub Ascends-more : (xs : List Element) (i : ℕ) (d e : Element) → 1 ≤ i → i < length xs → Ascends (take i xs) → Below (get_or xs (i - 1) d).0 (get_or xs i e).0 → Ascends (take (i + 1) xs)
Ascends-more xs zero d e some low up above = absurd (omega arith)
Ascends-more xs (suc j) d e some low up above =
    let one_more : suc j ≡ j + 1 = omega arith in
    let one_less : j ≡ suc j - 1 = omega arith in
    let x = get_or xs (suc j - 1) d in
    let y = get_or xs (suc j) e in
    let last : take (suc j) xs ≡ take j xs ++ x ∷ [] =
    ap (λ n. take n xs) one_more ∙ take_more xs j d (omega arith) ∙ ap (λ (n : ℕ). take j xs ++ get_or xs n d ∷ []) one_less in
    let next : take (suc j + 1) xs ≡ (take j xs ++ x ∷ []) ++ y ∷ [] =
    take_more xs (suc j) e low ∙ ap (λ (front : List Element). front ++ y ∷ []) last in
    subst Ascends (sym next) (Ascends-push (take j xs) x y (subst Ascends last up) above)

-- a first key, and one more above the last of a list of known length
pub ascends_first : (xs : List Element) (e : Element) → length xs ≡ 0 → Ascends (xs ++ e ∷ [])
ascends_first [] e none = (tt, tt)
ascends_first (x ∷ xs) e none = absurd (omega (arith, none))

-- one more element above the last
pub ascends_last : (xs : List Element) (i : ℕ) (d e : Element) → 1 ≤ i → length xs ≡ i → Ascends xs → Below (get_or xs (i - 1) d).0 e.0 → Ascends (xs ++ e ∷ [])
ascends_last xs i d e some size up above =
    let j = i - 1 in
    let whole : length xs ≡ j + 1 = omega (arith, some, size) in
    let last : xs ≡ take j xs ++ get_or xs j d ∷ [] = sym (take_all (j + 1) xs (omega (arith, whole))) ∙ take_more xs j d (omega (arith, whole)) in
    subst (λ (ys : List Element). Ascends (ys ++ e ∷ [])) (sym last) (Ascends-push (take j xs) (get_or xs j d) e (subst Ascends last up) above)

neighbours : (xs : List Element) (j : ℕ) (d e : Element) → Ascends xs → suc j < length xs → Below (get_or xs j d).0 (get_or xs (suc j) e).0
neighbours [] j d e up low = absurd (omega arith)
neighbours (a ∷ xs) zero d e up low = Each_at (λ later. Below a.0 later.0) xs 0 (get_or xs 0 e) up.0 (omega arith) (get_or_default xs 0 e (get_or xs 0 e) (omega arith))
neighbours (a ∷ xs) (suc j) d e up low = neighbours xs j d e up.1 (omega arith)

-- neighbours in the order
pub Ascends-neighbours : (xs : List Element) (i : ℕ) (d e : Element) → 1 ≤ i → i < length xs → Ascends xs → Below (get_or xs (i - 1) d).0 (get_or xs i e).0
Ascends-neighbours xs zero d e some low up = absurd (omega arith)
Ascends-neighbours xs (suc j) d e some low up =
    let one_less : j ≡ suc j - 1 = omega arith in
    subst (λ (n : ℕ). Below (get_or xs n d).0 (get_or xs (suc j) e).0) one_less (neighbours xs j d e up low)

-- a comparison the other way
pub Below-flip : (x y : List ℕ) → slice_cmp nat_cmp x y ≡ Greater → Below y x
unfolding Below
Below-flip x y greater = nat_list_cmp_total.antisymm y x ∙ ap ordering_reverse greater
