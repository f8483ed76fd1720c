-- Trees in pages are the trees of the class.
use Rattle.std.proofs.Common.{◌≡◌, ℕ, zero, suc, ◌+◌, ◌≤◌, Some, None, List, [], ◌∷◌, ◌++◌, length, refl, ap, sym, ◌∙◌, subst, arith, append-nil}
use Rattle.btree_node.specs.Lists.{Element, Each, Ascends}
use Rattle.btree_node.proofs.ElementOrderLemmas.{Each-right}
use Rattle.page_store.specs.PageMap.{PageMap}
use Rattle.btree_insert.specs.declared.bounds.Bounds.{Bounds}
use Rattle.btree_insert.specs.declared.tree.Tree.{Tree}
use Rattle.btree_insert.specs.Bounds.{Over, Under, Between}
use Rattle.btree_insert.specs.Classes.{BTree, between_trees, in_order, Filled, Sides, Ordered, InClass, AllStand, Stands, StandsFor}
use Rattle.btree_insert.specs.PageTrees.{Fan, TreeAt, RootAt, Holds}
use Rattle.btree_insert.proofs.BoundLemmas.{Between-left, Between-right, Between-all}
use Rattle.btree_insert.proofs.ReachLemmas.{Between-join}

-- sons that stand for trees make a fan
to_fan : (X : Type 0) (tree : ℕ → List Element → List ℕ → Type 0) (elements : X → List Element) (stands : ℕ → X → List ℕ → Type 0) (fill : X → Type 0) → ((s : ℕ) (t : X) (us : List ℕ) → fill t → stands s t us → tree s (elements t) us)
    → (sons : List ℕ) (els : List Element) (ts : List X) (us : List ℕ) → length ts ≡ length els + 1 → Each fill ts → AllStand stands sons ts us → Fan tree sons els (between_trees elements els ts) us
to_fan X tree elements stands fill at [] els [] us size filled all = absurd (omega arith)
to_fan X tree elements stands fill at [] els (t ∷ ts) us size filled all = absurd all
to_fan X tree elements stands fill at (s ∷ ss) els [] us size filled all = absurd all
to_fan X tree elements stands fill at (s ∷ []) [] (t ∷ []) us size filled (here, rest, first, more, us_is) =
    subst (tree s (elements t)) (sym (us_is ∙ ap (λ vs. here ++ vs) more ∙ append-nil here)) (at s t here filled.0 first)
to_fan X tree elements stands fill at (s ∷ (r ∷ ss)) [] (t ∷ []) us size filled (here, rest, first, more, us_is) = absurd more
to_fan X tree elements stands fill at (s ∷ ss) [] (t ∷ (u ∷ ts)) us size filled all = absurd (omega arith)
to_fan X tree elements stands fill at (s ∷ []) (e ∷ els) (t ∷ []) us size filled all = absurd (omega arith)
to_fan X tree elements stands fill at (s ∷ []) (e ∷ els) (t ∷ (u ∷ ts)) us size filled (here, rest, first, more, us_is) = absurd more
to_fan X tree elements stands fill at (s ∷ (r ∷ ss)) (e ∷ els) (t ∷ ts) us size filled (here, rest, first, more, us_is) =
    (elements t, between_trees elements els ts, here, rest, at s t here filled.0 first, to_fan X tree elements stands fill at (r ∷ ss) els ts rest (omega arith) filled.1 more, refl, us_is)

to_tree : (k : ℕ) (pages : PageMap) (least h p : ℕ) (t : BTree (suc h)) (us : List ℕ) → Filled k least (suc h) t → Stands k pages (suc h) p t us → TreeAt k pages least (suc h) p (in_order (suc h) t) us
to_tree k pages least zero p t us filled (n, spells, kind, t_is, us_is) =
    (n, [], spells, subst (λ (xs : List Element). least ≤ length xs) t_is filled.0, (kind, t_is, refl), us_is)
to_tree k pages least (suc h) p t us filled (n, below, spells, kind, t_is, all, us_is) =
    let tree = TreeAt k pages k (suc h) in
    let fan = to_fan (BTree (suc h)) tree (in_order (suc h)) (λ s u vs. Stands k pages (suc h) s u vs) (Filled k k (suc h)) (λ s u vs fill stands. to_tree k pages k h s u vs fill stands) n.sons.items t.0 t.1 below filled.2 filled.3 all in (
      n,
      below,
      spells,
      subst (λ (xs : List Element). least ≤ length xs) t_is filled.0,
      (kind, subst (λ (xs : List Element). Fan tree n.sons.items xs (between_trees (in_order (suc h)) t.0 t.1) below) t_is fan),
      us_is,
    )

-- a fan gives the trees
record Grove (X : Type 0) (elements : X → List Element) (stands : ℕ → X → List ℕ → Type 0) (fill : X → Type 0) (sons : List ℕ) (els es : List Element) (us : List ℕ) : Type 0 where
  ts : List X
  size : length ts ≡ length els + 1
  filled : Each fill ts
  all : AllStand stands sons ts us
  es_is : between_trees elements els ts ≡ es

to_grove : (X : Type 0) (tree : ℕ → List Element → List ℕ → Type 0) (elements : X → List Element) (stands : ℕ → X → List ℕ → Type 0) (fill : X → Type 0)
    → ((s : ℕ) (xs : List Element) (us : List ℕ) → tree s xs us → (t : X) × fill t × stands s t us × (elements t ≡ xs))
    → (sons : List ℕ) (els es : List Element) (us : List ℕ) → Fan tree sons els es us → Grove X elements stands fill sons els es us
to_grove X tree elements stands fill at [] els es us fan = absurd fan
to_grove X tree elements stands fill at (s ∷ []) [] es us fan =
    let (t, filled, here, is) = at s es us fan in
    record { ts = t ∷ []; size = refl; filled = (filled, tt); all = (us, [], here, refl, sym (append-nil us)); es_is = is }
to_grove X tree elements stands fill at (s ∷ []) (e ∷ els) es us fan = absurd fan
to_grove X tree elements stands fill at (s ∷ (r ∷ ss)) [] es us fan = absurd fan
to_grove X tree elements stands fill at (s ∷ (r ∷ ss)) (e ∷ els) es us (xs, ys, here, rest, first, more, es_is, us_is) =
    let (t, filled, stand, is) = at s xs here first in
    let grove = to_grove X tree elements stands fill at (r ∷ ss) els ys rest more in
    record {
      ts = t ∷ grove.ts;
      size = omega (arith, grove.size);
      filled = (filled, grove.filled);
      all = (here, rest, stand, grove.all, us_is);
      es_is = ap (λ zs. zs ++ e ∷ between_trees elements els grove.ts) is ∙ ap (λ zs. xs ++ e ∷ zs) grove.es_is ∙ sym es_is;
    }

from_tree : (k : ℕ) (pages : PageMap) (least h p : ℕ) (es : List Element) (us : List ℕ) → TreeAt k pages least (suc h) p es us → (t : BTree (suc h)) × Filled k least (suc h) t × Stands k pages (suc h) p t us × (in_order (suc h) t ≡ es)
from_tree k pages least zero p es us (n, below, spells, least_is, (kind, es_is, below_is), us_is) =
    (n.elements.items, (least_is, spells.stands.most), (n, spells, kind, refl, us_is ∙ ap (λ vs. p ∷ vs) below_is), sym es_is)
from_tree k pages least (suc h) p es us (n, below, spells, least_is, (kind, fan), us_is) =
    let grove = to_grove (BTree (suc h)) (TreeAt k pages k (suc h)) (in_order (suc h)) (λ s u vs. Stands k pages (suc h) s u vs) (Filled k k (suc h)) (λ s xs vs tree. from_tree k pages k h s xs vs tree) n.sons.items n.elements.items es below fan in
    ((n.elements.items, grove.ts), (least_is, spells.stands.most, grove.size, grove.filled), (n, below, spells, kind, refl, grove.all, us_is), grove.es_is)

sides_between : (X : Type 0) (tree : Bounds → X → Type 0) (elements : X → List Element) → ((b : Bounds) (t : X) → tree b t → Between b (elements t)) → (b : Bounds) (els : List Element) (ts : List X) → Sides tree b els ts → Between b (between_trees elements els ts)
sides_between X tree elements at b els [] sides = absurd sides
sides_between X tree elements at b [] (t ∷ []) sides = at b t sides
sides_between X tree elements at b [] (t ∷ (u ∷ ts)) sides = absurd sides
sides_between X tree elements at b (e ∷ els) (t ∷ ts) (first, over, under, more) =
    Between-join b (elements t) e (between_trees elements els ts) over under (at (record { low = b.low; high = Some e.0 }) t first) (sides_between X tree elements at (record { low = Some e.0; high = b.high }) els ts more)

-- trees in the order of the class have their elements in order
ordered_between : (h : ℕ) (b : Bounds) (t : BTree (suc h)) → Ordered b (suc h) t → Between b (in_order (suc h) t)
ordered_between zero b t ordered = ordered
ordered_between (suc h) b t ordered = sides_between (BTree (suc h)) (λ c u. Ordered c (suc h) u) (in_order (suc h)) (λ c u inner. ordered_between h c u inner) b t.0 t.1 ordered

between_sides : (X : Type 0) (tree : Bounds → X → Type 0) (elements : X → List Element) (fill : X → Type 0) → ((b : Bounds) (t : X) → fill t → Between b (elements t) → tree b t) → (b : Bounds) (els : List Element) (ts : List X) → length ts ≡ length els + 1 → Each fill ts
    → Between b (between_trees elements els ts) → Sides tree b els ts
between_sides X tree elements fill at b els [] size filled between = absurd (omega arith)
between_sides X tree elements fill at b [] (t ∷ []) size filled between = at b t filled.0 between
between_sides X tree elements fill at b [] (t ∷ (u ∷ ts)) size filled between = absurd (omega arith)
between_sides X tree elements fill at b (e ∷ els) (t ∷ ts) size filled between =
    let rest = between_trees elements els ts in (
      at (record { low = b.low; high = Some e.0 }) t filled.0 (Between-left b (elements t) e rest between),
      (Each-right (λ x. Over b.low x.0) (elements t) (e ∷ rest) between.within.over).0,
      (Each-right (λ x. Under b.high x.0) (elements t) (e ∷ rest) between.within.under).0,
      between_sides X tree elements fill at (record { low = Some e.0; high = b.high }) els ts (omega arith) filled.1 (Between-right b (elements t) e rest between),
    )

between_ordered : (k least h : ℕ) (b : Bounds) (t : BTree (suc h)) → Filled k least (suc h) t → Between b (in_order (suc h) t) → Ordered b (suc h) t
between_ordered k least zero b t filled between = between
between_ordered k least (suc h) b t filled between =
    between_sides (BTree (suc h)) (λ c u. Ordered c (suc h) u) (in_order (suc h)) (Filled k k (suc h)) (λ c u fill inner. between_ordered k k h c u fill inner) b t.0 t.1 filled.2 filled.3 between

lists_of : (k : ℕ) (pages : PageMap) (h p : ℕ) (t : BTree h) (us : List ℕ) → InClass k h t → Stands k pages h p t us → RootAt k pages h p (in_order h t) us × Ascends (in_order h t)
lists_of k pages zero p t us class stands = ((stands.0, refl, stands.1), tt)
lists_of k pages (suc h) p t us class stands = (to_tree k pages 1 h p t us class.filled stands, (ordered_between h (record { low = None; high = None }) t class.ordered).ascends)

-- what the pages stand for, as lists
pub to_lists : (pages : PageMap) (tree : Tree) (t : BTree tree.height) (us : List ℕ) → StandsFor pages tree t us → Holds pages tree (in_order tree.height t) us
to_lists pages tree t us is =
    let lists = lists_of tree.order pages tree.height tree.root t us is.in_class is.stands in
    record { tree = lists.0; ascends = lists.1; apart = is.apart; count = is.count; used = is.used }

class_of : (k : ℕ) (pages : PageMap) (h p : ℕ) (es : List Element) (us : List ℕ) → RootAt k pages h p es us → Ascends es → (t : BTree h) × InClass k h t × Stands k pages h p t us × (in_order h t ≡ es)
class_of k pages zero p es us tree up = (tt, record { filled = tt; ordered = tt }, (tree.0, tree.2), sym tree.1)
class_of k pages (suc h) p es us tree up =
    let (t, filled, stands, is) = from_tree k pages 1 h p es us tree in
    (t, record { filled = filled; ordered = between_ordered k 1 h (record { low = None; high = None }) t filled (Between-all (in_order (suc h) t) (subst Ascends (sym is) up)) }, stands, is)

-- and the lists as a tree of the class
pub to_class : (pages : PageMap) (tree : Tree) (es : List Element) (us : List ℕ) → Holds pages tree es us → (t : BTree tree.height) × StandsFor pages tree t us × (in_order tree.height t ≡ es)
to_class pages tree es us holds =
    let (t, class, stands, is) = class_of tree.order pages tree.height tree.root es us holds.tree holds.ascends in
    (t, record { in_class = class; stands = stands; apart = holds.apart; count = holds.count ∙ ap length (sym is); used = holds.used }, is)
