-- In a tree whose keys ascend no page is reached twice: its first key would stand twice.
use Rattle.std.proofs.Common.{◌≡◌, ℕ, zero, suc, ◌<◌, ◌≤◌, ⊎_elim, Some, None, List, [], ◌∷◌, ◌++◌, length, get_or, unwrap_or, refl, ap, sym, ◌∙◌, subst, arith}
use Rattle.std.proofs.lemmas.Cmp.{nat_list_cmp_total, tied_itself}
use Rattle.btree_node.specs.declared.layout.Layout.{Layout}
use Rattle.btree_node.specs.declared.node.Node.{Node}
use Rattle.btree_node.specs.Layout.{second_layout}
use Rattle.btree_node.specs.Lists.{Element, Each, Below, Ascends}
use Rattle.btree_node.specs.Spelling.{spelling_in}
use Rattle.btree_node.proofs.DecodeLemmas.{reads, node_reads}
use Rattle.btree_node.proofs.ElementOrderLemmas.{Ascends-left, Ascends-right, Below-trans, Each-right}
use Rattle.page_store.specs.PageMap.{PageMap}
use Rattle.btree_insert.specs.declared.bounds.Bounds.{Bounds}
use Rattle.btree_insert.specs.declared.tree.Tree.{Tree}
use Rattle.btree_insert.specs.Bounds.{Over, Under, Between, unbounded}
use Rattle.btree_insert.specs.Growth.{IsWithin}
use Rattle.btree_insert.specs.PageTrees.{IsIn, Apart, SpellsIn, Spells, Fan, Body, TreeOf}
use Rattle.btree_insert.specs.Reached.{Adds, IsThere}
use Rattle.btree_insert.proofs.BoundLemmas.{Between-all, Between-left, Between-right}
use Rattle.btree_insert.proofs.SonsAroundLemmas.{Stands}
use Rattle.btree_insert.proofs.Membership.{in_either, Apart-append}
use Rattle.btree_insert.proofs.PlaceLemmas.{over_trans, under_trans}
use Rattle.btree_insert.proofs.HeadNodeLemmas.{body_each}

-- what pages spell: one node at most
abbrev pub IsOne : (ℕ → Node → Type 0) → Type 0
IsOne spells = (p : ℕ) (n m : Node) → spells p n → spells p m → n ≡ m

-- a page of a layout spells at most one node
pub one_in : (layout : Layout) (k : ℕ) (pages : PageMap) → k ≤ 16 → IsOne (SpellsIn layout k pages)
one_in layout k pages small p n m here there =
    let page = spelling_in layout n k in
    let same : page ≡ spelling_in layout m k = ap (λ o. unwrap_or o []) (sym here.page ∙ there.page) in
    sym (node_reads layout k page n (reads layout k page n small here.stands refl)) ∙ node_reads layout k page m (reads layout k page m small there.stands same)

pub spells_one : (k : ℕ) (pages : PageMap) → k ≤ 16 → IsOne (Spells k pages)
spells_one k pages small = one_in second_layout k pages small

-- no key is below itself
pub irreflexive : (x : List ℕ) → Below x x → ⊥
unfolding Below
irreflexive x below = absurd (cc (sym (tied_itself nat_list_cmp_total x) ∙ below))

-- a page of a tree: its first key is within all bounds of the tree
record PageIn (spells : ℕ → Node → Type 0) (q : ℕ) (es : List Element) : Type 0 where
  n : Node
  e : Element
  rest : List Element
  spelled : spells q n
  items : n.elements.items ≡ e ∷ rest
  within : (b : Bounds) → Between b es → IsWithin b e.0

page_left : (spells : ℕ → Node → Type 0) (q : ℕ) (es xs : List Element) (m : Element) (ys : List Element) → es ≡ xs ++ m ∷ ys → PageIn spells q xs → PageIn spells q es
page_left spells q es xs m ys es_is page = record {
  n = page.n;
  e = page.e;
  rest = page.rest;
  spelled = page.spelled;
  items = page.items;
  within = λ b between.
      let split = subst (Between b) es_is between in
      let here = page.within (record { low = b.low; high = Some m.0 }) (Between-left b xs m ys split) in
      (here.0, under_trans b.high m.0 page.e.0 (Each-right (λ x. Under b.high x.0) xs (m ∷ ys) split.within.under).0 here.1);
}

page_right : (spells : ℕ → Node → Type 0) (q : ℕ) (es xs : List Element) (m : Element) (ys : List Element) → es ≡ xs ++ m ∷ ys → PageIn spells q ys → PageIn spells q es
page_right spells q es xs m ys es_is page = record {
  n = page.n;
  e = page.e;
  rest = page.rest;
  spelled = page.spelled;
  items = page.items;
  within = λ b between.
      let split = subst (Between b) es_is between in
      let here = page.within (record { low = Some m.0; high = b.high }) (Between-right b xs m ys split) in
      (over_trans b.low m.0 page.e.0 (Each-right (λ x. Over b.low x.0) xs (m ∷ ys) split.within.over).0 here.0, here.1);
}

fan_page : (spells : ℕ → Node → Type 0) (tree : Stands) → ((s : ℕ) (xs : List Element) (us : List ℕ) → tree s xs us → (q : ℕ) → IsIn q us → PageIn spells q xs) → (sons : List ℕ) (els es : List Element) (us : List ℕ) → Fan tree sons els es us → (q : ℕ) → IsIn q us → PageIn spells q es
fan_page spells tree at [] els es us fan q is = absurd fan
fan_page spells tree at (s ∷ []) [] es us fan q is = at s es us fan q is
fan_page spells tree at (s ∷ []) (m ∷ els) es us fan q is = absurd fan
fan_page spells tree at (s ∷ (t ∷ ss)) [] es us fan q is = absurd fan
fan_page spells tree at (s ∷ (t ∷ ss)) (m ∷ els) es us (xs, ys, here, rest, first, more, es_is, us_is) q is =
    ⊎_elim (λ front. page_left spells q es xs m ys es_is (at s xs here first q front)) (λ back. page_right spells q es xs m ys es_is (fan_page spells tree at (t ∷ ss) els ys rest more q back))
    (in_either q here rest (subst (IsIn q) us_is is))

first_of : (els : List Element) → 0 < length els → (e : Element) × (rest : List Element) × (els ≡ e ∷ rest)
first_of [] some = absurd (omega arith)
first_of (e ∷ els) some = (e, els, refl)

-- the page at the head
head_page : (spells : ℕ → Node → Type 0) (tree : Stands) (h q p : ℕ) (n : Node) (es : List Element) (us : List ℕ) → spells p n → 0 < length n.elements.items → Body tree h n es us → q ≡ p → PageIn spells q es
head_page spells tree h q p n es us spelled some body is =
    let (e, rest, items) = first_of n.elements.items some in
    record {
      n = n;
      e = e;
      rest = rest;
      spelled = subst (λ (x : ℕ). spells x n) (sym is) spelled;
      items = items;
      within = λ b between. (
        (subst (Each (λ x. Over b.low x.0)) items (body_each (λ x. Over b.low x.0) tree h n es us body between.within.over)).0,
        (subst (Each (λ x. Under b.high x.0)) items (body_each (λ x. Under b.high x.0) tree h n es us body between.within.under)).0,
      );
    }

tree_page : (spells : ℕ → Node → Type 0) (h p : ℕ) (es : List Element) (us : List ℕ) → TreeOf spells 1 1 h p es us → (q : ℕ) → IsIn q us → PageIn spells q es
tree_page spells zero p es us tree q is = absurd tree
tree_page spells (suc zero) p es us (n, below, spelled, some, body, us_is) q is =
    ⊎_elim (λ (here : q ≡ p). head_page spells (TreeOf spells 1 1 zero) zero q p n es below spelled some body here) (λ there. absurd (subst (IsIn q) body.2 there)) (subst (IsIn q) us_is is)
tree_page spells (suc (suc h)) p es us (n, below, spelled, some, body, us_is) q is =
    ⊎_elim (λ (here : q ≡ p). head_page spells (TreeOf spells 1 1 (suc h)) (suc h) q p n es below spelled some body here)
    (λ there. fan_page spells (TreeOf spells 1 1 (suc h)) (λ s xs vs tree r at. tree_page spells (suc h) s xs vs tree r at) n.sons.items n.elements.items es below body.1 q there)
    (subst (IsIn q) us_is is)

same_first : (n m : Node) (e f : Element) (es fs : List Element) → n ≡ m → n.elements.items ≡ e ∷ es → m.elements.items ≡ f ∷ fs → e ≡ f
same_first n m e f es fs is here there = ap (λ (xs : List Element). get_or xs 0 e) (sym here ∙ ap (λ (x : Node). x.elements.items) is ∙ there)

-- pages on the two sides of an element
across : (spells : ℕ → Node → Type 0) → IsOne spells → (q : ℕ) (xs : List Element) (m : Element) (ys : List Element) → Ascends (xs ++ m ∷ ys) → PageIn spells q xs → PageIn spells q ys → ⊥
across spells one q xs m ys up front back =
    let all = Between-all (xs ++ m ∷ ys) up in
    let low = front.within (record { low = None; high = Some m.0 }) (Between-left unbounded xs m ys all) in
    let high = back.within (record { low = Some m.0; high = None }) (Between-right unbounded xs m ys all) in
    let same = same_first front.n back.n front.e back.e front.rest back.rest (one q front.n back.n front.spelled back.spelled) front.items back.items in
    irreflexive front.e.0 (Below-trans front.e.0 m.0 front.e.0 low.1 (subst (λ (x : Element). Below m.0 x.0) (sym same) high.0))

fan_apart : (spells : ℕ → Node → Type 0) → IsOne spells → (tree : Stands) → ((s : ℕ) (xs : List Element) (us : List ℕ) → tree s xs us → (q : ℕ) → IsIn q us → PageIn spells q xs) → ((s : ℕ) (xs : List Element) (us : List ℕ) → tree s xs us → Ascends xs → Apart us)
    → (sons : List ℕ) (els es : List Element) (us : List ℕ) → Fan tree sons els es us → Ascends es → Apart us
fan_apart spells one tree at apart [] els es us fan up = absurd fan
fan_apart spells one tree at apart (s ∷ []) [] es us fan up = apart s es us fan up
fan_apart spells one tree at apart (s ∷ []) (m ∷ els) es us fan up = absurd fan
fan_apart spells one tree at apart (s ∷ (t ∷ ss)) [] es us fan up = absurd fan
fan_apart spells one tree at apart (s ∷ (t ∷ ss)) (m ∷ els) es us (xs, ys, here, rest, first, more, es_is, us_is) up =
    let split = subst Ascends es_is up in
    subst Apart (sym us_is) (Apart-append here rest (apart s xs here first (Ascends-left xs (m ∷ ys) split))
    (fan_apart spells one tree at apart (t ∷ ss) els ys rest more (Ascends-right xs (m ∷ ys) split).1)
    (λ q front back. across spells one q xs m ys split (at s xs here first q front) (fan_page spells tree at (t ∷ ss) els ys rest more q back)))

-- the page of a fan's own elements is not below it
fan_off : (spells : ℕ → Node → Type 0) → IsOne spells → (tree : Stands) → ((s : ℕ) (xs : List Element) (us : List ℕ) → tree s xs us → (q : ℕ) → IsIn q us → PageIn spells q xs)
    → (sons : List ℕ) (els es : List Element) (us : List ℕ) → Fan tree sons els es us → Ascends es → (p : ℕ) (n : Node) → spells p n → n.elements.items ≡ els → 0 < length els → IsIn p us → ⊥
fan_off spells one tree at [] els es us fan up p n spelled items some is = absurd fan
fan_off spells one tree at (s ∷ []) [] es us fan up p n spelled items some is = absurd (omega arith)
fan_off spells one tree at (s ∷ []) (m ∷ els) es us fan up p n spelled items some is = absurd fan
fan_off spells one tree at (s ∷ (t ∷ ss)) [] es us fan up p n spelled items some is = absurd fan
fan_off spells one tree at (s ∷ (t ∷ ss)) (m ∷ els) es us (xs, ys, here, rest, first, more, es_is, us_is) up p n spelled items some is =
    let all = Between-all (xs ++ m ∷ ys) (subst Ascends es_is up) in
    ⊎_elim
    (λ front. let page = at s xs here first p front in
    let same = same_first n page.n m page.e els page.rest (one p n page.n spelled page.spelled) items page.items in
    irreflexive m.0 (subst (λ (x : Element). Below x.0 m.0) (sym same) (page.within (record { low = None; high = Some m.0 }) (Between-left unbounded xs m ys all)).1))
    (λ back. let page = fan_page spells tree at (t ∷ ss) els ys rest more p back in
    let same = same_first n page.n m page.e els page.rest (one p n page.n spelled page.spelled) items page.items in
    irreflexive m.0 (subst (λ (x : Element). Below m.0 x.0) (sym same) (page.within (record { low = Some m.0; high = None }) (Between-right unbounded xs m ys all)).0))
    (in_either p here rest (subst (IsIn p) us_is is))

-- a tree in order has no page twice
pub tree_apart : (spells : ℕ → Node → Type 0) → IsOne spells → (h p : ℕ) (es : List Element) (us : List ℕ) → TreeOf spells 1 1 h p es us → Ascends es → Apart us
tree_apart spells one zero p es us tree up = absurd tree
tree_apart spells one (suc zero) p es us (n, below, spelled, some, body, us_is) up = subst Apart (sym (us_is ∙ ap (λ vs. p ∷ vs) body.2)) (λ none. none, tt)
tree_apart spells one (suc (suc h)) p es us (n, below, spelled, some, body, us_is) up =
    let at : (s : ℕ) (xs : List Element) (vs : List ℕ) → TreeOf spells 1 1 (suc h) s xs vs → (q : ℕ) → IsIn q vs → PageIn spells q xs = λ s xs vs tree q is. tree_page spells (suc h) s xs vs tree q is in
    subst Apart (sym us_is) (
      λ is. fan_off spells one (TreeOf spells 1 1 (suc h)) at n.sons.items n.elements.items es below body.1 up p n spelled refl some is,
      fan_apart spells one (TreeOf spells 1 1 (suc h)) at (λ s xs vs tree later. tree_apart spells one (suc h) s xs vs tree later) n.sons.items n.elements.items es below body.1 up,
    )

-- what a walk from the root has told
pub walked_there : (k : ℕ) (pages : PageMap) (t : Tree) (told : List Element → Type 0) (left' : ℕ) → k ≤ 16 → (walked : Adds (TreeOf (Spells k pages) 1 1 t.height t.root) unbounded told t.used left') → IsThere (Spells k pages) t walked.es
walked_there k pages t told left' small adds = record {
  us = adds.us;
  tree = adds.here;
  ascends = adds.between.ascends;
  apart = tree_apart (Spells k pages) (spells_one k pages small) t.height t.root adds.es adds.us adds.here adds.between.ascends;
  used = omega (arith, adds.fewer);
}
