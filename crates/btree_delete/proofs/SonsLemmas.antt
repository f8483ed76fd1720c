-- The sons of a page, where one of them is underfull and not written.
use Rattle.std.proofs.Common.{◌≡◌, ℕ, zero, suc, ◌⊎◌, inl, inr, List, [], ◌∷◌, ◌++◌, refl, ap, sym, ◌∙◌, subst, append_assoc, false}
use Rattle.page_store.specs.PageMap.{PageMap}
use Rattle.btree_node.specs.declared.node.Node.{Node}
use Rattle.btree_node.specs.Joined.{joined}
use Rattle.btree_node.specs.Lists.{Element, Each}
use Rattle.btree_node.proofs.ElementOrderLemmas.{Each-map}
use Rattle.btree_insert.specs.PageTrees.{IsIn, Apart, Fan, Body, TreeAt}
use Rattle.btree_insert.proofs.SonsAroundLemmas.{Stands}
use Rattle.btree_insert.proofs.ChangedTreeLemmas.{tree_move}
use Rattle.btree_insert.proofs.Membership.{Apart-across}
use Rattle.btree_insert.proofs.HeadNodeLemmas.{head_each}
use Rattle.btree_delete.specs.Tidy.{is_visited}

-- what a brother's page is: another than the underfull son's, as it was, and not visited
pub record IsBeside (old mid : PageMap) (visited : List ℕ) (s q : ℕ) : Type 0 where
  pub other : q ≡ s → ⊥
  pub same : mid q ≡ old q
  pub unvisited : is_visited visited q ≡ false

-- a son: a tree beside the underfull son, or that one, with its node
abbrev pub Kin : ℕ → PageMap → PageMap → List ℕ → ℕ → ℕ → Node → Stands
Kin k old mid visited h s node t xs us =
    (IsBeside old mid visited s t × TreeAt k mid k (suc h) t xs us) ⊎ ((t ≡ s) × (below : List ℕ) × Body (TreeAt k mid k h) h node xs below × (us ≡ t ∷ below))

-- a tree whose pages are beside the underfull son's
pub kin_move : (k : ℕ) (old mid : PageMap) (visited : List ℕ) (h s : ℕ) (node : Node) (t : ℕ) (xs : List Element) (us : List ℕ) → TreeAt k old k (suc h) t xs us → Each (IsBeside old mid visited s) us → Kin k old mid visited h s node t xs us
kin_move k old mid visited h s node t xs us tree beside =
    inl (head_each (IsBeside old mid visited s) k old k (suc h) t xs us tree beside, tree_move k old mid k (suc h) t xs us tree (Each-map (IsBeside old mid visited s) (λ q. mid q ≡ old q) us (λ q is. is.same) beside))

-- the underfull son
pub kin_underfull : (k : ℕ) (old mid : PageMap) (visited : List ℕ) (h s : ℕ) (node : Node) (t : ℕ) (xs : List Element) (below : List ℕ) → t ≡ s → Body (TreeAt k mid k h) h node xs below → Kin k old mid visited h s node t xs (t ∷ below)
kin_underfull k old mid visited h s node t xs below is body = inr (is, below, body, refl)

-- pages that are as they were before a page was treated, and not the underfull son's
pub record IsKept (mid new : PageMap) (s q : ℕ) : Type 0 where
  pub other : q ≡ s → ⊥
  pub same : new q ≡ mid q

-- a son whose pages are kept is a tree
pub kin_kept : (k : ℕ) (old mid new : PageMap) (visited : List ℕ) (h s : ℕ) (node : Node) (t : ℕ) (xs : List Element) (us : List ℕ) → Kin k old mid visited h s node t xs us → Each (IsKept mid new s) us → TreeAt k new k (suc h) t xs us
kin_kept k old mid new visited h s node t xs us (inl (beside, tree)) kept =
    tree_move k mid new k (suc h) t xs us tree (Each-map (IsKept mid new s) (λ q. new q ≡ mid q) us (λ q is. is.same) kept)
kin_kept k old mid new visited h s node t xs us (inr (is, below, body, us_is)) kept =
    absurd ((subst (Each (IsKept mid new s)) us_is kept).0.other is)

-- a page with a node, and what stands below it
abbrev pub Part : ℕ → PageMap → ℕ → ℕ → Node → List Element → List ℕ → Type 0
Part k pages h t n xs us = (below : List ℕ) × Body (TreeAt k pages k h) h n xs below × (us ≡ t ∷ below)

-- each son's page is one of its tree's
pub kin_head : (k : ℕ) (old mid : PageMap) (visited : List ℕ) (h s : ℕ) (node : Node) (t : ℕ) (xs : List Element) (us : List ℕ) → Kin k old mid visited h s node t xs us → IsIn t us
kin_head k old mid visited h s node t xs us (inl (beside, (n, below, spells, least_is, body, us_is))) = subst (IsIn t) (sym us_is) (inl refl)
kin_head k old mid visited h s node t xs us (inr (is, below, body, us_is)) = subst (IsIn t) (sym us_is) (inl refl)

-- the son at the place of the underfull one is it
pub kin_is_underfull : (k : ℕ) (old mid : PageMap) (visited : List ℕ) (h s : ℕ) (node : Node) (t : ℕ) (xs : List Element) (us : List ℕ) → t ≡ s → Kin k old mid visited h s node t xs us → Part k mid h t node xs us
kin_is_underfull k old mid visited h s node t xs us is (inl (beside, tree)) = absurd (beside.other is)
kin_is_underfull k old mid visited h s node t xs us is (inr (same, below, body, us_is)) = (below, body, us_is)

-- any other is a tree beside it
pub kin_is_beside : (k : ℕ) (old mid : PageMap) (visited : List ℕ) (h s : ℕ) (node : Node) (t : ℕ) (xs : List Element) (us : List ℕ) → (t ≡ s → ⊥) → Kin k old mid visited h s node t xs us → IsBeside old mid visited s t × TreeAt k mid k (suc h) t xs us
kin_is_beside k old mid visited h s node t xs us other (inl is) = is
kin_is_beside k old mid visited h s node t xs us other (inr (same, below, body, us_is)) = absurd (other same)

-- two lists of numbers that differ
pub across : (left right : List ℕ) (p q : ℕ) → Apart (left ++ right) → IsIn p left → IsIn q right → p ≡ q → ⊥
across left right p q apart front back same = Apart-across q left right apart (subst (λ (x : ℕ). IsIn x left) same front) back

-- a fan under equal lists
pub fan_same : (tree : Stands) (sons sons2 : List ℕ) (els els2 es es2 : List Element) (us : List ℕ) → sons2 ≡ sons → els2 ≡ els → es2 ≡ es → Fan tree sons els es us → Fan tree sons2 els2 es2 us
fan_same tree sons sons2 els els2 es es2 us sons_is els_is es_is fan =
    subst (λ (ss : List ℕ). Fan tree ss els2 es2 us) (sym sons_is) (subst (λ (xs : List Element). Fan tree sons xs es2 us) (sym els_is) (subst (λ (zs : List Element). Fan tree sons els zs us) (sym es_is) fan))

-- the joined bodies of two nodes
fan_join : (tree : Stands) (s1 : List ℕ) (l1 xs : List Element) (u1 s2 : List ℕ) (l2 ys : List Element) (u2 : List ℕ) (m : Element) → Fan tree s1 l1 xs u1 → Fan tree s2 l2 ys u2 → Fan tree (s1 ++ s2) (l1 ++ m ∷ l2) (xs ++ m ∷ ys) (u1 ++ u2)
fan_join tree [] l1 xs u1 s2 l2 ys u2 m left right = absurd left
fan_join tree (s ∷ []) [] xs u1 [] l2 ys u2 m left right = absurd right
fan_join tree (s ∷ []) [] xs u1 (t ∷ ts) l2 ys u2 m left right = (xs, ys, u1, u2, left, right, refl, refl)
fan_join tree (s ∷ []) (e ∷ l1) xs u1 s2 l2 ys u2 m left right = absurd left
fan_join tree (s ∷ (t ∷ ss)) [] xs u1 s2 l2 ys u2 m left right = absurd left
fan_join tree (s ∷ (t ∷ ss)) (e ∷ l1) xs u1 s2 l2 ys u2 m (zs, ws, here, rest, first, more, es_is, us_is) right = (
  zs,
  ws ++ m ∷ ys,
  here,
  rest ++ u2,
  first,
  fan_join tree (t ∷ ss) l1 ws rest s2 l2 ys u2 m more right,
  ap (λ es. es ++ m ∷ ys) es_is ∙ append_assoc zs (e ∷ ws) (m ∷ ys),
  ap (λ us. us ++ u2) us_is ∙ append_assoc here rest u2,
)

-- what stands below two brothers stands below them joined
pub body_join : (tree : Stands) (h : ℕ) (L R : Node) (m : Element) (xs ys : List Element) (u1 u2 : List ℕ) → Body tree h L xs u1 → Body tree h R ys u2 → Body tree h (joined L m R) (xs ++ m ∷ ys) (u1 ++ u2)
body_join tree zero L R m xs ys u1 u2 (kind, es_is, us_is) (kind2, es_is2, us_is2) =
    (kind, (λ i. es_is i ++ m ∷ es_is2 i), ap (λ us. us ++ u2) us_is ∙ us_is2)
body_join tree (suc h) L R m xs ys u1 u2 (kind, fan) (kind2, fan2) =
    (kind, fan_join tree L.sons.items L.elements.items xs u1 R.sons.items R.elements.items ys u2 m fan fan2)
