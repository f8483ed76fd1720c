-- Pages that hold a tree, and pages that hold none.
use Rattle.std.proofs.Common.{◌≡◌, ℕ, zero, suc, ◌^◌, ◌<◌, ◌≤◌, ⊎_elim, inl, Option, Some, List, [], ◌∷◌, ◌++◌, refl, ap, sym, ◌∙◌, subst, arith}
use Rattle.btree_node.specs.declared.layout.Layout.{Layout}
use Rattle.btree_node.specs.declared.node.Node.{Node}
use Rattle.btree_node.specs.declared.node.NodeKind.TheVariants.{Leaf, Inner}
use Rattle.btree_node.specs.Layout.{second_layout}
use Rattle.btree_node.specs.Lists.{Element, Below, Ascends}
use Rattle.btree_node.specs.Spelling.{spelling_in, CanStandIn, CanStand, ElementFits, IsSon}
use Rattle.btree_node.proofs.ElementOrderLemmas.{Ascends-right}
use Rattle.page_store.specs.PageMap.{PageMap, at}
use Rattle.btree_insert.specs.Examples.{ax, by, cz, dv, ew, page_of, tree_of, three_pages, uneven_pages, shared_pages, equal_pages}
use Rattle.btree_insert.specs.Inserted.{leaf_of, root_of}
use Rattle.btree_insert.specs.PageTrees.{IsIn, Apart, Spells, Fan, TreeIn, TreeAt, HoldsIn, Holds}
use Rattle.btree_insert.proofs.DistinctPageLemmas.{spells_one, irreflexive}
use Rattle.btree_insert.proofs.Membership.{Apart-across}

fits : (layout : Layout) (x y : ℕ) → 1 ≤ layout.record_width → ElementFits layout (x ∷ [], y ∷ [])
fits layout x y wide = record { key_some = omega arith; key_most = omega arith; record_most = omega (arith, wide) }

leaf_in : (layout : Layout) (x y : ℕ) → 1 ≤ layout.record_width → CanStandIn layout (leaf_of (x ∷ [], y ∷ [])) 1
leaf_in layout x y wide = record { some = omega arith; most = omega arith; fit = (fits layout x y wide, tt); ascends = (tt, tt); sons = refl }

root_in : (layout : Layout) (l x y r : ℕ) → 1 ≤ layout.record_width → IsSon l → IsSon r → CanStandIn layout (root_of l (x ∷ [], y ∷ []) r) 1
root_in layout l x y r wide left right = record { some = omega arith; most = omega arith; fit = (fits layout x y wide, tt); ascends = (tt, tt); sons = (refl, (left, (right, tt))) }

leaf_stands : (x y : ℕ) → CanStand (leaf_of (x ∷ [], y ∷ [])) 1
leaf_stands x y = leaf_in second_layout x y (omega arith)

root_stands : (l x y r : ℕ) → IsSon l → IsSon r → CanStand (root_of l (x ∷ [], y ∷ []) r) 1
root_stands l x y r left right = root_in second_layout l x y r (omega arith) left right

is_son : (s : ℕ) → 0 < s → s < 2 ^ 32 → IsSon s
is_son s some most = record { some = some; most = most }

abbrev PageList : Type 0
PageList = List (Option (List ℕ))

leaf_tree : (layout : Layout) (pages : PageMap) (p x y : ℕ) → 1 ≤ layout.record_width → pages p ≡ Some (spelling_in layout (leaf_of (x ∷ [], y ∷ [])) 1) → TreeIn layout 1 pages 1 1 p ((x ∷ [], y ∷ []) ∷ []) (p ∷ [])
leaf_tree layout pages p x y wide is = (leaf_of (x ∷ [], y ∷ []), [], record { page = is; stands = leaf_in layout x y wide }, omega arith, (refl, refl, refl), refl)

a_below_b : Below (97 ∷ []) (98 ∷ [])
unfolding Below
a_below_b = refl

a_below_c : Below (97 ∷ []) (99 ∷ [])
unfolding Below
a_below_c = refl

b_below_c : Below (98 ∷ []) (99 ∷ [])
unfolding Below
b_below_c = refl

three_apart : Apart (3 ∷ 1 ∷ 2 ∷ [])
three_apart = (
  λ is. ⊎_elim (λ (e : 3 ≡ 1). absurd (omega (arith, e))) (λ later. ⊎_elim (λ (e : 3 ≡ 2). absurd (omega (arith, e))) (λ none. none) later) is,
  (λ is. ⊎_elim (λ (e : 1 ≡ 2). absurd (omega (arith, e))) (λ none. none) is, (λ none. none, tt)),
)

-- three pages of a layout hold a tree
pub three_hold_in : (layout : Layout) (pages : PageMap) → 1 ≤ layout.record_width → pages 1 ≡ Some (spelling_in layout (leaf_of ax) 1) → pages 2 ≡ Some (spelling_in layout (leaf_of cz) 1) → pages 3 ≡ Some (spelling_in layout (root_of 1 by 2) 1)
    → HoldsIn layout pages (tree_of 3 2 3 3) (ax ∷ by ∷ cz ∷ []) (3 ∷ 1 ∷ 2 ∷ [])
three_hold_in layout pages wide left right root = record {
  tree = (
    root_of 1 by 2,
    1 ∷ 2 ∷ [],
    record { page = root; stands = root_in layout 1 98 121 2 wide (is_son 1 (omega arith) (omega arith)) (is_son 2 (omega arith) (omega arith)) },
    omega arith,
    (refl, (ax ∷ [], cz ∷ [], 1 ∷ [], 2 ∷ [], leaf_tree layout pages 1 97 120 wide left, leaf_tree layout pages 2 99 122 wide right, refl, refl)),
    refl,
  );
  ascends = ((a_below_b, (a_below_c, tt)), ((b_below_c, tt), (tt, tt)));
  apart = three_apart;
  count = refl;
  used = refl;
}

pub three_hold : Holds (at three_pages) (tree_of 3 2 3 3) (ax ∷ by ∷ cz ∷ []) (3 ∷ 1 ∷ 2 ∷ [])
three_hold = three_hold_in second_layout (at three_pages) (omega arith) refl refl refl

spelled : (ps : PageList) (p : ℕ) (n m : Node) → at ps p ≡ page_of m → CanStand m 1 → Spells 1 (at ps) p n → n ≡ m
spelled ps p n m is stands here = spells_one 1 (at ps) (omega arith) p n m here (record { page = is; stands = stands })

leaf_or_inner : Leaf ≡ Inner → ⊥
leaf_or_inner is = absurd (cc)

-- an inner page heads no tree of height 1
no_leaf : (ps : PageList) (p least : ℕ) (m : Node) (es : List Element) (us : List ℕ) → at ps p ≡ page_of m → CanStand m 1 → m.kind ≡ Inner → TreeAt 1 (at ps) least 1 p es us → ⊥
no_leaf ps p least m es us is stands inner (n, below, spells, some, body, us_is) =
    leaf_or_inner (sym body.0 ∙ ap (λ (x : Node). x.kind) (spelled ps p n m is stands spells) ∙ inner)

-- a leaf heads none above it
no_inner : (ps : PageList) (p least h : ℕ) (m : Node) (es : List Element) (us : List ℕ) → at ps p ≡ page_of m → CanStand m 1 → m.kind ≡ Leaf → TreeAt 1 (at ps) least (suc (suc h)) p es us → ⊥
no_inner ps p least h m es us is stands leaf (n, below, spells, some, body, us_is) =
    leaf_or_inner (sym leaf ∙ ap (λ (x : Node). x.kind) (sym (spelled ps p n m is stands spells)) ∙ body.0)

-- the two sons of a root with one key
record Two (ps : PageList) (h l : ℕ) (e : Element) (r p : ℕ) (es : List Element) (us : List ℕ) : Type 0 where
  xs : List Element
  ys : List Element
  here : List ℕ
  rest : List ℕ
  left : TreeAt 1 (at ps) 1 (suc h) l xs here
  right : TreeAt 1 (at ps) 1 (suc h) r ys rest
  es_is : es ≡ xs ++ e ∷ ys
  us_is : us ≡ p ∷ (here ++ rest)

two_sons : (ps : PageList) (h l : ℕ) (e : Element) (r p least : ℕ) (es : List Element) (us : List ℕ) → at ps p ≡ page_of (root_of l e r) → CanStand (root_of l e r) 1 → TreeAt 1 (at ps) least (suc (suc h)) p es us → Two ps h l e r p es us
two_sons ps h l e r p least es us is stands (n, below, spells, some, body, us_is) =
    let fan = subst (λ (x : Node). Fan (TreeAt 1 (at ps) 1 (suc h)) x.sons.items x.elements.items es below) (spelled ps p n (root_of l e r) is stands spells) body.1 in
    of_fan fan
  where
    of_fan : Fan (TreeAt 1 (at ps) 1 (suc h)) (l ∷ (r ∷ [])) (e ∷ []) es below → Two ps h l e r p es us
    of_fan (xs, ys, here, rest, first, more, es_is, below_is) = record {
      xs = xs;
      ys = ys;
      here = here;
      rest = rest;
      left = first;
      right = more;
      es_is = es_is;
      us_is = us_is ∙ ap (λ vs. p ∷ vs) below_is;
    }

uneven_root : CanStand (root_of 3 dv 4) 1
uneven_root = root_stands 3 100 118 4 (is_son 3 (omega arith) (omega arith)) (is_son 4 (omega arith) (omega arith))

-- the leaves at two depths
pub uneven_hold : (height count used : ℕ) (es : List Element) (us : List ℕ) → Holds (at uneven_pages) (tree_of 5 height count used) es us → ⊥
uneven_hold zero count used es us holds = absurd (omega (arith, holds.tree.0))
uneven_hold (suc zero) count used es us holds = no_leaf uneven_pages 5 1 (root_of 3 dv 4) es us refl uneven_root refl holds.tree
uneven_hold (suc (suc zero)) count used es us holds =
    let two = two_sons uneven_pages 0 3 dv 4 5 1 es us refl uneven_root holds.tree in
    no_leaf uneven_pages 3 1 (root_of 1 by 2) two.xs two.here refl (root_stands 1 98 121 2 (is_son 1 (omega arith) (omega arith)) (is_son 2 (omega arith) (omega arith))) refl two.left
uneven_hold (suc (suc (suc h))) count used es us holds =
    let two = two_sons uneven_pages (suc h) 3 dv 4 5 1 es us refl uneven_root holds.tree in
    no_inner uneven_pages 4 1 h (leaf_of ew) two.ys two.rest refl (leaf_stands 101 119) refl two.right

head_in : (ps : PageList) (h p : ℕ) (es : List Element) (us : List ℕ) → TreeAt 1 (at ps) 1 (suc h) p es us → IsIn p us
head_in ps h p es us (n, below, spells, some, body, us_is) = subst (IsIn p) (sym us_is) (inl refl)

shared_root : CanStand (root_of 1 by 1) 1
shared_root = root_stands 1 98 121 1 (is_son 1 (omega arith) (omega arith)) (is_son 1 (omega arith) (omega arith))

-- a page reached twice
pub shared_hold : (height count used : ℕ) (es : List Element) (us : List ℕ) → Holds (at shared_pages) (tree_of 3 height count used) es us → ⊥
shared_hold zero count used es us holds = absurd (omega (arith, holds.tree.0))
shared_hold (suc zero) count used es us holds = no_leaf shared_pages 3 1 (root_of 1 by 1) es us refl shared_root refl holds.tree
shared_hold (suc (suc h)) count used es us holds =
    let two = two_sons shared_pages h 1 by 1 3 1 es us refl shared_root holds.tree in
    Apart-across 1 two.here two.rest (subst Apart two.us_is holds.apart).1 (head_in shared_pages h 1 two.xs two.here two.left) (head_in shared_pages h 1 two.ys two.rest two.right)

equal_root : CanStand (root_of 1 by 2) 1
equal_root = root_stands 1 98 121 2 (is_son 1 (omega arith) (omega arith)) (is_son 2 (omega arith) (omega arith))

leaf_elements : (ps : PageList) (p : ℕ) (m : Node) (es : List Element) (us : List ℕ) → at ps p ≡ page_of m → CanStand m 1 → TreeAt 1 (at ps) 1 1 p es us → es ≡ m.elements.items
leaf_elements ps p m es us is stands (n, below, spells, some, body, us_is) = body.1 ∙ ap (λ (x : Node). x.elements.items) (spelled ps p n m is stands spells)

-- a key that stands twice
pub equal_hold : (height count used : ℕ) (es : List Element) (us : List ℕ) → Holds (at equal_pages) (tree_of 3 height count used) es us → ⊥
equal_hold zero count used es us holds = absurd (omega (arith, holds.tree.0))
equal_hold (suc zero) count used es us holds = no_leaf equal_pages 3 1 (root_of 1 by 2) es us refl equal_root refl holds.tree
equal_hold (suc (suc zero)) count used es us holds =
    let two = two_sons equal_pages 0 1 by 2 3 1 es us refl equal_root holds.tree in
    let ys_is = leaf_elements equal_pages 2 (leaf_of by) two.ys two.rest refl (leaf_stands 98 121) two.right in
    let up = Ascends-right two.xs (by ∷ (by ∷ [])) (subst Ascends (two.es_is ∙ ap (λ (zs : List Element). two.xs ++ by ∷ zs) ys_is) holds.ascends) in
    irreflexive (98 ∷ []) up.0.0
equal_hold (suc (suc (suc h))) count used es us holds =
    let two = two_sons equal_pages (suc h) 1 by 2 3 1 es us refl equal_root holds.tree in
    no_inner equal_pages 2 1 h (leaf_of by) two.ys two.rest refl (leaf_stands 98 121) refl two.right
