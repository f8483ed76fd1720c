-- The halves of a node that is cut can stand.
use Rattle.std.proofs.Common.{◌≡◌, ℕ, suc, ◌+◌, ◌*◌, ◌<◌, ◌≤◌, List, ◌∷◌, ◌++◌, length, get_or, take, drop, ap, sym, ◌∙◌, subst, arith}
use Rattle.std.proofs.lemmas.List.{take-append-drop, drop_more, length-take, length-drop}
use Rattle.btree_node.specs.declared.layout.Layout.{Layout}
use Rattle.btree_node.specs.declared.node.Node.{Node}
use Rattle.btree_node.specs.declared.node.NodeKind.{NodeKind}
use Rattle.btree_node.specs.declared.node.NodeKind.TheVariants.{Leaf, Inner}
use Rattle.btree_node.specs.Cut.{left_of, right_of}
use Rattle.btree_node.specs.Lists.{Element, Each, Ascends}
use Rattle.btree_node.specs.Spelling.{ElementFits, IsSon, SonsFit, CanStandIn}
use Rattle.btree_node.proofs.ElementOrderLemmas.{Each-left, Each-right, Ascends-left, Ascends-right}

-- what holds of each element holds of the first ones
pub Each-take : {X : Type 0} (P : X → Type 0) (n : ℕ) (xs : List X) → Each P xs → Each P (take n xs)
Each-take P n xs each = Each-left P (take n xs) (drop n xs) (subst (Each P) (sym (take-append-drop n xs)) each)

-- and of the others
pub Each-drop : {X : Type 0} (P : X → Type 0) (n : ℕ) (xs : List X) → Each P xs → Each P (drop n xs)
Each-drop P n xs each = Each-right P (take n xs) (drop n xs) (subst (Each P) (sym (take-append-drop n xs)) each)

-- the first of ascending elements ascend
pub Ascends-take : (n : ℕ) (xs : List Element) → Ascends xs → Ascends (take n xs)
Ascends-take n xs up = Ascends-left (take n xs) (drop n xs) (subst Ascends (sym (take-append-drop n xs)) up)

-- and so do the others
pub Ascends-drop : (n : ℕ) (xs : List Element) → Ascends xs → Ascends (drop n xs)
Ascends-drop n xs up = Ascends-right (take n xs) (drop n xs) (subst Ascends (sym (take-append-drop n xs)) up)

-- a list around one of its elements
pub around : {X : Type 0} (cut : ℕ) (xs : List X) (d : X) → cut < length xs → xs ≡ take cut xs ++ get_or xs cut d ∷ drop (suc cut) xs
around cut xs d low =
    let next : cut + 1 ≡ suc cut = omega arith in
    sym (take-append-drop cut xs) ∙ ap (λ rest. take cut xs ++ rest) (drop_more xs cut d low ∙ ap (λ n. get_or xs cut d ∷ drop n xs) next)

left_sons : (kind : NodeKind) (cut count : ℕ) (sons : List ℕ) → cut < count → SonsFit kind count sons → SonsFit kind cut (take (suc cut) sons)
left_sons Leaf cut count sons low fit = ap (take (suc cut)) fit
left_sons Inner cut count sons low fit = (omega (arith, length-take (suc cut) sons, fit.0), Each-take IsSon (suc cut) sons fit.1)

right_sons : (kind : NodeKind) (cut count rest : ℕ) (sons : List ℕ) → cut + (rest + 1) ≡ count → SonsFit kind count sons → SonsFit kind rest (drop (suc cut) sons)
right_sons Leaf cut count rest sons sum fit = ap (drop (suc cut)) fit
right_sons Inner cut count rest sons sum fit = (omega (arith, length-drop (suc cut) sons, fit.0), Each-drop IsSon (suc cut) sons fit.1)

-- the left of a cut
pub left_stands : (layout : Layout) (cut k : ℕ) (n : Node) → 0 < cut → cut ≤ 2 * k → cut < length n.elements.items
    → Each (ElementFits layout) n.elements.items → Ascends n.elements.items → SonsFit n.kind (length n.elements.items) n.sons.items → CanStandIn layout (left_of cut n) k
left_stands layout cut k n some most low fit up sons =
    let size : length (take cut n.elements.items) ≡ cut = omega (arith, length-take cut n.elements.items) in
    record {
      some = omega arith;
      most = omega arith;
      fit = Each-take (ElementFits layout) cut n.elements.items fit;
      ascends = Ascends-take cut n.elements.items up;
      sons = subst (λ c. SonsFit n.kind c (take (suc cut) n.sons.items)) (sym size) (left_sons n.kind cut (length n.elements.items) n.sons.items low sons);
    }

-- the right of a cut
pub right_stands : (layout : Layout) (cut rest k : ℕ) (n : Node) → cut + (rest + 1) ≡ length n.elements.items → 0 < rest → rest ≤ 2 * k
    → Each (ElementFits layout) n.elements.items → Ascends n.elements.items → SonsFit n.kind (length n.elements.items) n.sons.items → CanStandIn layout (right_of cut n) k
right_stands layout cut rest k n sum some most fit up sons =
    let size : length (drop (suc cut) n.elements.items) ≡ rest = omega (arith, length-drop (suc cut) n.elements.items) in
    record {
      some = omega arith;
      most = omega arith;
      fit = Each-drop (ElementFits layout) (suc cut) n.elements.items fit;
      ascends = Ascends-drop (suc cut) n.elements.items up;
      sons = subst (λ c. SonsFit n.kind c (drop (suc cut) n.sons.items)) (sym size) (right_sons n.kind cut (length n.elements.items) rest n.sons.items sum sons);
    }
