-- A tree in pages that changed, and a page that is cut in two.
use Rattle.std.proofs.Common.{◌≡◌, ℕ, zero, suc, ◌+◌, ◌*◌, ◌<◌, ◌≤◌, Some, None, List, [], ◌∷◌, ◌++◌, length, get_or, take, drop, refl, ap, sym, ◌∙◌, subst, arith, append_assoc}
use Rattle.btree_node.specs.declared.layout.Layout.{Layout}
use Rattle.btree_node.specs.declared.node.Node.{Node}
use Rattle.btree_node.specs.Cut.{left_of, right_of}
use Rattle.btree_node.specs.Layout.{second_layout}
use Rattle.btree_node.specs.Lists.{Element, Each, Below, Ascends}
use Rattle.btree_node.specs.Spelling.{spelling_in, CanStand}
use Rattle.btree_node.proofs.ElementOrderLemmas.{Each-append, Each-map, Ascends-right}
use Rattle.btree_node.proofs.SplitLemmas.{around, left_stands, right_stands}
use Rattle.page_store.specs.PageMap.{PageMap}
use Rattle.btree_insert.specs.Growth.{MayBeOverfull}
use Rattle.btree_insert.specs.PageTrees.{Spells, Fan, Body, TreeOf, TreeIn, TreeAt}
use Rattle.btree_insert.proofs.SonsAroundLemmas.{Stands, fan_move}
use Rattle.btree_insert.proofs.HeadNodeLemmas.{fan_each}
use Rattle.btree_insert.proofs.PagesAroundLemmas.{InUse}

-- what a page spells by one of two it spells by the other
abbrev pub Respells : (ℕ → Node → Type 0) → (ℕ → Node → Type 0) → ℕ → Type 0
Respells spells spells2 q = (n : Node) → spells q n → spells2 q n

-- a tree of which each page spells its node otherwise
pub tree_respelt : (spells spells2 : ℕ → Node → Type 0) (fill least h p : ℕ) (es : List Element) (us : List ℕ) → TreeOf spells fill least h p es us → Each (Respells spells spells2) us → TreeOf spells2 fill least h p es us
tree_respelt spells spells2 fill least zero p es us tree each = absurd tree
tree_respelt spells spells2 fill least (suc zero) p es us (n, below, spelled, least_is, body, us_is) each =
    let here = subst (Each (Respells spells spells2)) us_is each in
    (n, below, here.0 n spelled, least_is, body, us_is)
tree_respelt spells spells2 fill least (suc (suc h)) p es us (n, below, spelled, least_is, body, us_is) each =
    let here = subst (Each (Respells spells spells2)) us_is each in (
      n,
      below,
      here.0 n spelled,
      least_is,
      (body.0, fan_move (TreeOf spells fill fill (suc h)) (TreeOf spells2 fill fill (suc h)) (Respells spells spells2) (λ s xs vs tree there. tree_respelt spells spells2 fill fill (suc h) s xs vs tree there) n.sons.items n.elements.items es below body.1 here.1),
      us_is,
    )

-- a tree whose pages are as they were
pub tree_move : (k : ℕ) (old new : PageMap) (least h p : ℕ) (es : List Element) (us : List ℕ) → TreeAt k old least h p es us → Each (λ q. new q ≡ old q) us → TreeAt k new least h p es us
tree_move k old new least h p es us tree same =
    tree_respelt (Spells k old) (Spells k new) k least h p es us tree (Each-map (λ q. new q ≡ old q) (Respells (Spells k old) (Spells k new)) us (λ q is n spelled. record { page = is ∙ spelled.page; stands = spelled.stands }) same)

-- what stands below a node stands where its pages are the same
pub body_move : (k : ℕ) (old new : PageMap) (h : ℕ) (n : Node) (es : List Element) (us : List ℕ) → Body (TreeAt k old k h) h n es us → Each (λ q. new q ≡ old q) us → Body (TreeAt k new k h) h n es us
body_move k old new zero n es us body same = body
body_move k old new (suc h) n es us body same =
    (body.0, fan_move (TreeAt k old k (suc h)) (TreeAt k new k (suc h)) (λ q. new q ≡ old q) (λ s xs vs tree same_here. tree_move k old new k (suc h) s xs vs tree same_here) n.sons.items n.elements.items es us body.1 same)

-- what holds of the pages of each son holds of all
pub fan_pages : (P : ℕ → Type 0) (tree : Stands) → ((s : ℕ) (xs : List Element) (us : List ℕ) → tree s xs us → Each P us) → (sons : List ℕ) (els es : List Element) (us : List ℕ) → Fan tree sons els es us → Each P us
fan_pages P tree at [] els es us fan = absurd fan
fan_pages P tree at (s ∷ []) [] es us fan = at s es us fan
fan_pages P tree at (s ∷ []) (e ∷ els) es us fan = absurd fan
fan_pages P tree at (s ∷ (t ∷ ss)) [] es us fan = absurd fan
fan_pages P tree at (s ∷ (t ∷ ss)) (e ∷ els) es us (xs, ys, here, rest, first, more, es_is, us_is) =
    subst (Each P) (sym us_is) (Each-append P here rest (at s xs here first) (fan_pages P tree at (t ∷ ss) els ys rest more))

none_or_some : (page : List ℕ) → Some page ≡ None → ⊥
none_or_some page is = (cc)

in_use_here : (pages : PageMap) (p : ℕ) (page : List ℕ) → pages p ≡ Some page → pages p ≡ None → ⊥
in_use_here pages p page some none = none_or_some page (sym some ∙ none)

-- the pages of a tree are in use
pub in_use_in : (layout : Layout) (k : ℕ) (pages : PageMap) (least h p : ℕ) (es : List Element) (us : List ℕ) → TreeIn layout k pages least h p es us → InUse pages us
in_use_in layout k pages least zero p es us tree = absurd tree
in_use_in layout k pages least (suc zero) p es us (n, below, spells, least_is, body, us_is) =
    subst (InUse pages) (sym (us_is ∙ ap (λ vs. p ∷ vs) body.2)) (in_use_here pages p (spelling_in layout n k) spells.page, tt)
in_use_in layout k pages least (suc (suc h)) p es us (n, below, spells, least_is, body, us_is) =
    subst (InUse pages) (sym us_is) (
      in_use_here pages p (spelling_in layout n k) spells.page,
      fan_pages (λ q. pages q ≡ None → ⊥) (TreeIn layout k pages k (suc h)) (λ s xs vs tree. in_use_in layout k pages k (suc h) s xs vs tree) n.sons.items n.elements.items es below body.1,
    )

pub in_use : (k : ℕ) (pages : PageMap) (least h p : ℕ) (es : List Element) (us : List ℕ) → TreeAt k pages least h p es us → InUse pages us
in_use k pages least h p es us tree = in_use_in second_layout k pages least h p es us tree

-- the keys of a page ascend as those of its tree do
pub fan_ascends : (tree : Stands) (sons : List ℕ) (els es : List Element) (us : List ℕ) → Fan tree sons els es us → Ascends es → Ascends els
fan_ascends tree [] els es us fan up = absurd fan
fan_ascends tree (s ∷ []) [] es us fan up = tt
fan_ascends tree (s ∷ []) (e ∷ els) es us fan up = absurd fan
fan_ascends tree (s ∷ (t ∷ ss)) [] es us fan up = absurd fan
fan_ascends tree (s ∷ (t ∷ ss)) (e ∷ els) es us (xs, ys, here, rest, first, more, es_is, us_is) up =
    let later = Ascends-right xs (e ∷ ys) (subst Ascends es_is up) in
    (fan_each (λ y. Below e.0 y.0) tree (t ∷ ss) els ys rest more later.0, fan_ascends tree (t ∷ ss) els ys rest more later.1)

-- a body cut at one of its keys
pub record CutBody (tree : Stands) (h : ℕ) (left right : Node) (x : Element) (es : List Element) (us : List ℕ) : Type 0 where
  pub xs : List Element
  pub ys : List Element
  pub before : List ℕ
  pub behind : List ℕ
  pub left_body : Body tree h left xs before
  pub right_body : Body tree h right ys behind
  pub es_is : es ≡ xs ++ x ∷ ys
  pub us_is : us ≡ before ++ behind

-- sons and the keys between them, cut in two around a key
pub record CutFan (tree : Stands) (lsons : List ℕ) (lels : List Element) (rsons : List ℕ) (rels : List Element) (x : Element) (es : List Element) (us : List ℕ) : Type 0 where
  pub xs : List Element
  pub ys : List Element
  pub before : List ℕ
  pub behind : List ℕ
  pub left_fan : Fan tree lsons lels xs before
  pub right_fan : Fan tree rsons rels ys behind
  pub es_is : es ≡ xs ++ x ∷ ys
  pub us_is : us ≡ before ++ behind

-- they may be cut at any key
pub fan_cut : (tree : Stands) (sons : List ℕ) (els es : List Element) (us : List ℕ) (c : ℕ) (x : Element) → Fan tree sons els es us → c < length els → x ≡ get_or els c x
    → CutFan tree (take (suc c) sons) (take c els) (drop (suc c) sons) (drop (suc c) els) x es us
fan_cut tree [] els es us c x fan low is = absurd fan
fan_cut tree (s ∷ []) [] es us c x fan low is = absurd (omega arith)
fan_cut tree (s ∷ []) (e ∷ els) es us c x fan low is = absurd fan
fan_cut tree (s ∷ (t ∷ ss)) [] es us c x fan low is = absurd fan
fan_cut tree (s ∷ (t ∷ ss)) (e ∷ els) es us zero x (xs, ys, here, rest, first, more, es_is, us_is) low is = record {
  xs = xs;
  ys = ys;
  before = here;
  behind = rest;
  left_fan = first;
  right_fan = more;
  es_is = es_is ∙ ap (λ y. xs ++ y ∷ ys) (sym is);
  us_is = us_is;
}
fan_cut tree (s ∷ (t ∷ ss)) (e ∷ els) es us (suc c) x (xs, ys, here, rest, first, more, es_is, us_is) low is =
    let sub = fan_cut tree (t ∷ ss) els ys rest c x more (omega arith) is in
    record {
      xs = xs ++ e ∷ sub.xs;
      ys = sub.ys;
      before = here ++ sub.before;
      behind = sub.behind;
      left_fan = (xs, sub.xs, here, sub.before, first, sub.left_fan, refl, refl);
      right_fan = sub.right_fan;
      es_is = es_is ∙ ap (λ zs. xs ++ e ∷ zs) sub.es_is ∙ sym (append_assoc xs (e ∷ sub.xs) (x ∷ sub.ys));
      us_is = us_is ∙ ap (λ vs. here ++ vs) sub.us_is ∙ sym (append_assoc here sub.before sub.behind);
    }

-- what stands below a node, cut with it
pub body_cut : (tree : Stands) (h : ℕ) (n : Node) (es : List Element) (us : List ℕ) (c : ℕ) (x : Element) → Body tree h n es us → c < length n.elements.items → x ≡ get_or n.elements.items c x
    → CutBody tree h (left_of c n) (right_of c n) x es us
body_cut tree zero n es us c x (kind, es_is, us_is) low is = record {
  xs = take c n.elements.items;
  ys = drop (suc c) n.elements.items;
  before = [];
  behind = [];
  left_body = (kind, refl, refl);
  right_body = (kind, refl, refl);
  es_is = es_is ∙ around c n.elements.items x low ∙ ap (λ y. take c n.elements.items ++ y ∷ drop (suc c) n.elements.items) (sym is);
  us_is = us_is;
}
body_cut tree (suc h) n es us c x (kind, fan) low is =
    let cut = fan_cut tree n.sons.items n.elements.items es us c x fan low is in
    record {
      xs = cut.xs;
      ys = cut.ys;
      before = cut.before;
      behind = cut.behind;
      left_body = (kind, cut.left_fan);
      right_body = (kind, cut.right_fan);
      es_is = cut.es_is;
      us_is = cut.us_is;
    }

-- a loose node that is not too large
pub may_be_overfull_stands : (k : ℕ) (n : Node) → MayBeOverfull k n → length n.elements.items ≤ 2 * k → CanStand n k
may_be_overfull_stands k n may_be_overfull few = record { some = may_be_overfull.some; most = few; fit = may_be_overfull.fit; ascends = may_be_overfull.ascends; sons = may_be_overfull.sons }

-- the halves of one that is too large by a key
pub left_half : (k : ℕ) (n : Node) → 1 ≤ k → length n.elements.items ≡ 2 * k + 1 → MayBeOverfull k n → CanStand (left_of k n) k
left_half k n some full may_be_overfull = left_stands second_layout k k n (omega arith) (omega arith) (omega arith) may_be_overfull.fit may_be_overfull.ascends may_be_overfull.sons

-- the right half of a node with a key too many can stand
pub right_half : (k : ℕ) (n : Node) → 1 ≤ k → length n.elements.items ≡ 2 * k + 1 → MayBeOverfull k n → CanStand (right_of k n) k
right_half k n some full may_be_overfull = right_stands second_layout k k k n (omega arith) (omega arith) (omega arith) may_be_overfull.fit may_be_overfull.ascends may_be_overfull.sons
