-- Two brothers that are distributed.
use Rattle.std.proofs.Common.{◌≡◌, ℕ, suc, ◌+◌, ◌-◌, ◌*◌, ◌<◌, ◌≤◌, List, [], ◌∷◌, ◌++◌, length, get_or, take, drop, min, ap, sym, ◌∙◌, subst, append_assoc, arith, length-append}
use Rattle.std.proofs.lemmas.List.{take_min, drop_min, take-take, take-append-drop}
use Rattle.std.proofs.Math.Seq.{take-append-add, drop-append-add}
use Rattle.btree_node.specs.declared.node.Node.{Node}
use Rattle.btree_node.specs.declared.node.NodeKind.{NodeKind}
use Rattle.btree_node.specs.declared.node.NodeKind.TheVariants.{Leaf, Inner}
use Rattle.btree_node.specs.Cut.{left_of, right_of}
use Rattle.btree_node.specs.Joined.{joined, keys_of_both, half_of_both, AreBrothers}
use Rattle.btree_node.specs.Layout.{second_layout}
use Rattle.btree_node.specs.Lists.{Element, Each}
use Rattle.btree_node.specs.Spelling.{ElementFits, IsSon, SonsFit, CanStand}
use Rattle.btree_node.proofs.SplitLemmas.{around, left_stands, right_stands}
use Rattle.btree_node.proofs.ElementOrderLemmas.{Each-append}

-- a list that is filled up to a length from the next one
pub filled : {X : Type 0} (count : ℕ) (xs ys : List X) → length xs ≤ count → xs ++ take (min (count - length xs) (length ys)) ys ≡ take count (xs ++ ys)
filled count xs ys short =
    let sum : length xs + (count - length xs) ≡ count = omega arith in
    ap (λ rest. xs ++ rest) (take_min (count - length xs) ys) ∙ sym (take-append-add xs ys (count - length xs)) ∙ ap (λ n. take n (xs ++ ys)) sum

-- and what is left of the next one
pub left_over : {X : Type 0} (count : ℕ) (xs ys : List X) → length xs ≤ count → drop (min (count - length xs) (length ys)) ys ≡ drop count (xs ++ ys)
left_over count xs ys short =
    let sum : length xs + (count - length xs) ≡ count = omega arith in
    drop_min (count - length xs) ys ∙ sym (drop-append-add xs ys (count - length xs)) ∙ ap (λ n. drop n (xs ++ ys)) sum

-- a list behind the element that was put at the end of the one before it
one_list : (l r pushed : List Element) (middle : Element) → pushed ≡ l ++ middle ∷ [] → pushed ++ r ≡ l ++ middle ∷ r
one_list l r pushed middle push = ap (λ xs. xs ++ r) push ∙ append_assoc l (middle ∷ []) r

-- the left of two distributed nodes, once its last element is taken off
pub distributed_left : (left : Node) (middle : Element) (right : Node) (count half : ℕ) (pushed more elements : List Element) (sons : List ℕ)
    → count ≡ suc half → pushed ≡ left.elements.items ++ middle ∷ []
    → more ≡ take count (pushed ++ right.elements.items) → elements ≡ take half more → sons ≡ take count (left.sons.items ++ right.sons.items)
    → record { kind = left.kind; elements = record { items = elements }; sons = record { items = sons } } ≡ left_of half (joined left middle right)
distributed_left left middle right count half pushed more elements sons next push cut_more cut_elements cut_sons =
    let front : elements ≡ take half (left.elements.items ++ middle ∷ right.elements.items) =
    cut_elements ∙ ap (take half) cut_more ∙ take-take half count (pushed ++ right.elements.items) (omega arith)
    ∙ ap (take half) (one_list left.elements.items right.elements.items pushed middle push) in
    let sons_front : sons ≡ take (suc half) (left.sons.items ++ right.sons.items) = cut_sons ∙ ap (λ n. take n (left.sons.items ++ right.sons.items)) next in
    λ i. record { kind = left.kind; elements = record { items = front i }; sons = record { items = sons_front i } }

-- the right of two distributed nodes
pub distributed_right : (left : Node) (middle : Element) (right : Node) (count half : ℕ) (pushed elements : List Element) (sons : List ℕ)
    → left.kind ≡ right.kind → count ≡ suc half → pushed ≡ left.elements.items ++ middle ∷ []
    → elements ≡ drop count (pushed ++ right.elements.items) → sons ≡ drop count (left.sons.items ++ right.sons.items)
    → record { kind = right.kind; elements = record { items = elements }; sons = record { items = sons } } ≡ right_of half (joined left middle right)
distributed_right left middle right count half pushed elements sons kind next push cut_elements cut_sons =
    let behind : elements ≡ drop (suc half) (left.elements.items ++ middle ∷ right.elements.items) =
    cut_elements ∙ ap (λ n. drop n (pushed ++ right.elements.items)) next
    ∙ ap (drop (suc half)) (one_list left.elements.items right.elements.items pushed middle push) in
    let sons_behind : sons ≡ drop (suc half) (left.sons.items ++ right.sons.items) = cut_sons ∙ ap (λ n. drop n (left.sons.items ++ right.sons.items)) next in
    λ i. record { kind = sym kind i; elements = record { items = behind i }; sons = record { items = sons_behind i } }

-- a node that is cut around an element is whole with it
pub cut_whole : (half : ℕ) (n a b : Node) (x : Element) → half < length n.elements.items
    → a ≡ left_of half n → ((d : Element) → x ≡ get_or n.elements.items half d) → b ≡ right_of half n → joined a x b ≡ n
cut_whole half n a b x low is_left is_middle is_right =
    let elements : take half n.elements.items ++ x ∷ drop (suc half) n.elements.items ≡ n.elements.items =
    ap (λ y. take half n.elements.items ++ y ∷ drop (suc half) n.elements.items) (is_middle x) ∙ sym (around half n.elements.items x low) in
    let sons : take (suc half) n.sons.items ++ drop (suc half) n.sons.items ≡ n.sons.items = take-append-drop (suc half) n.sons.items in
    let halves : joined a x b ≡ joined (left_of half n) x (right_of half n) = λ i. joined (is_left i) x (is_right i) in
    let same : joined (left_of half n) x (right_of half n) ≡ n = λ i. record { kind = n.kind; elements = record { items = elements i }; sons = record { items = sons i } } in
    halves ∙ same

sons_of_both : (kind : NodeKind) (l r count : ℕ) (ls rs : List ℕ) → count ≡ l + (1 + r) → SonsFit kind l ls → SonsFit kind r rs → SonsFit kind count (ls ++ rs)
sons_of_both Leaf l r count ls rs sum left right = ap (λ xs. xs ++ rs) left ∙ right
sons_of_both Inner l r count ls rs sum left right =
    (omega (arith, left.0, right.0, length-append ls rs), Each-append IsSon ls rs left.1 right.1)

-- the joined node has the sons that fit its keys
joined_sons : (left : Node) (middle : Element) (right : Node) → AreBrothers left middle right
    → SonsFit left.kind (length (joined left middle right).elements.items) (joined left middle right).sons.items
joined_sons left middle right brothers =
    sons_of_both left.kind (length left.elements.items) (length right.elements.items) _ left.sons.items right.sons.items
    (omega (arith, length-append left.elements.items (middle ∷ right.elements.items)))
    brothers.left_sons
    (subst (λ kind. SonsFit kind (length right.elements.items) right.sons.items) (sym brothers.kind) brothers.right_sons)

-- distributed nodes can stand
pub distributed_stand : (k : ℕ) (left : Node) (middle : Element) (right a b : Node) → 1 ≤ k → AreBrothers left middle right
    → length left.elements.items ≤ 2 * k → length right.elements.items ≤ 2 * k → 2 * k ≤ keys_of_both left right
    → a ≡ left_of (half_of_both left right) (joined left middle right) → b ≡ right_of (half_of_both left right) (joined left middle right)
    → Each (ElementFits second_layout) (joined left middle right).elements.items → CanStand a k × CanStand b k
distributed_stand k left middle right a b some brothers left_most right_most many is_left is_right fit =
    let size = length-append left.elements.items (middle ∷ right.elements.items) in
    let sons = joined_sons left middle right brothers in
    let half = half_of_both left right in (
      subst (λ n. CanStand n k) (sym is_left) (left_stands second_layout half k (joined left middle right) (omega arith) (omega arith) (omega (arith, size)) fit brothers.ascends sons),
      subst (λ n. CanStand n k) (sym is_right)
          (right_stands second_layout half (keys_of_both left right - half) k (joined left middle right) (omega (arith, size)) (omega arith) (omega arith) fit brothers.ascends sons),
    )
