-- A deletion that changes one page.
use Rattle.std.proofs.Common.{◌≡◌, ℕ, suc, ◌<◌, ◌≤◌, ◌++◌, [], ◌∷◌, List, Some, length, refl, ap, sym, ◌∙◌, subst, arith}
use Rattle.std.specs.List.{remove}
use Rattle.std.proofs.lemmas.List.Edits.{length-remove}
use Rattle.page_store.specs.PageMap.{PageMap, at, after}
use Rattle.btree_node.specs.declared.node.Node.{Node}
use Rattle.btree_node.specs.declared.node.NodeKind.TheVariants.{Leaf}
use Rattle.btree_node.specs.Lists.{Element, IsAt}
use Rattle.btree_node.specs.Spelling.{CanStand}
use Rattle.btree_insert.specs.declared.bounds.Bounds.{Bounds}
use Rattle.btree_insert.specs.Bounds.{Between, unbounded}
use Rattle.btree_insert.specs.Growth.{WritesAs}
use Rattle.btree_insert.specs.PageTrees.{TreeAt, Apart, kind_of_level}
use Rattle.btree_insert.proofs.BoundLemmas.{Between-all}
use Rattle.btree_insert.proofs.HeadNodeLemmas.{Top}
use Rattle.btree_insert.proofs.SonsAroundLemmas.{Focus}
use Rattle.btree_delete.specs.Treatment.{element_at, son_number}
use Rattle.btree_delete.specs.Shrinking.{MayBeUnderfull, Drops, Whole}
use Rattle.btree_delete.specs.Subtrees.{head_page}
use Rattle.btree_delete.specs.PagesLeft.{pages_freed}
use Rattle.btree_delete.proofs.DeletionLemmas.{drop_leaf, drop_whole}
use Rattle.btree_delete.proofs.UnderfullNodeLemmas.{leaf_without}

-- a leaf with two keys or more may lose one

pub leaf_less : (k : ℕ) (n m : Node) (i : ℕ) → CanStand n k → n.kind ≡ Leaf → i < length n.elements.items → 1 < length n.elements.items → m.kind ≡ n.kind → m.elements.items ≡ remove n.elements.items i → m.sons.items ≡ n.sons.items → CanStand m k
leaf_less k n m i can leaf low two kind_is els_is sons_is =
    let whole : MayBeUnderfull k 1 unbounded n = record { kind = leaf; most = can.most; fit = can.fit; ascends = can.ascends; within = (Between-all n.elements.items can.ascends).within; sons = can.sons } in
    let left = leaf_without k unbounded n m i leaf low whole kind_is els_is sons_is in
    record {
      some = omega (arith, ap length els_is, length-remove n.elements.items i low, two);
      most = left.most;
      fit = left.fit;
      ascends = left.ascends;
      sons = left.sons;
    }

-- a leaf with a key to spare may lose one

pub drop_one : (k : ℕ) (old : PageMap) (ws ws2 : List (ℕ × List ℕ)) (fs : List ℕ) (least level h p : ℕ) (es : List Element) (us : List ℕ) (b : Bounds) (n : Node) (i : ℕ) (key x : List ℕ) → level ≡ 1 → h ≡ 0 → 1 ≤ k → least ≤ k → ws ≡ [] → fs ≡ [] → Apart us → Between b es → Top k old least level h p es us b n
    → CanStand n k → IsAt n.elements.items key i → k < length n.elements.items → WritesAs k p n (remove n.elements.items i) ws ws2 → x ≡ (element_at n i).1
    → Drops (head_page k least h p) (pages_freed old (after old ws2 fs) 0 (length fs)) es us key (Some (Whole (key, x)))
drop_one k old ws ws2 fs least level h p es us b n i key x level_is h_is order low no_writes none_freed apart between head can place spare wrote x_is =
    let e = element_at n i in
    let leaf : n.kind ≡ Leaf = head.kind ∙ ap kind_of_level level_is in
    let whole : MayBeUnderfull k 1 b n = record { kind = leaf; most = can.most; fit = can.fit; ascends = can.ascends; within = head.within; sons = can.sons } in
    let left = leaf_without k b n wrote.node i leaf place.within whole wrote.kind wrote.elements wrote.sons in
    let size = ap length wrote.elements in
    let is : e ≡ (key, x) = λ j. (place.here ([], []) j, sym x_is j) in
    let done = drop_leaf k old ws ws2 fs least level h p es us b b n wrote.node i e (Whole e) [] h_is order low no_writes none_freed apart between head
    (subst (λ (l : ℕ). MayBeUnderfull k l b wrote.node) (sym level_is) left) can.ascends place.within refl wrote.kind wrote.elements (refl, omega (arith, size, length-remove n.elements.items i place.within, spare), wrote.written) in
    subst (λ (y : Element). Drops (head_page k least h p) (pages_freed old (after old ws2 fs) 0 (length fs)) es us y.0 (Some (Whole y))) is done.drops

-- what goes below a son goes below the page

pub drop_son : (k : ℕ) (old : PageMap) (ws : List (ℕ × List ℕ)) (fs : List ℕ) (least height h p : ℕ) (es : List Element) (us : List ℕ) (b : Bounds) (n : Node) (i : ℕ) (e : Element) (key : List ℕ) → Apart us → (head : Top k old least height (suc h) p es us b n)
    → (at : Focus (TreeAt k old k (suc h)) (TreeAt k (after old ws fs) k (suc h)) (λ q. after old ws fs q ≡ old q) n.sons.items n.elements.items es head.below key i b)
    → Drops (head_page k k h (son_number n i)) (pages_freed old (after old ws fs) 0 (length fs)) at.xs at.mine key (Some (Whole e)) → Drops (head_page k least (suc h) p) (pages_freed old (after old ws fs) 0 (length fs)) es us key (Some (Whole e))
drop_son k old ws fs least height h p es us b n i e key apart head at drops =
    (drop_whole k old ws fs least height h p es us b n i e [] ([] ++ p ∷ []) key apart head at (record { drops = drops; unvisited = λ q unvisited _. unvisited })).drops
