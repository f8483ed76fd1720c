-- What a call on a son's page says, in the words of the caller.
use Rattle.std.proofs.Common.{◌≡◌, ◌+◌, ◌-◌, ◌<◌, ◌≤◌, ℕ, suc, false, Option, Some, None, IsTrue, List, [], ◌∷◌, ◌++◌, length, refl, ap, sym, ◌∙◌, subst, arith}
use Rattle.std.proofs.lemmas.List.{get_or_default}
use Rattle.page_store.specs.PageMap.{PageMap, at, after}
use Rattle.page_store.specs.PagesView.{PagesView}
use Rattle.btree_node.specs.declared.node.Node.{Node}
use Rattle.btree_node.specs.declared.node.NodeKind.TheVariants.{Inner}
use Rattle.btree_node.specs.Lists.{Element, Each, Ascends, IsPlace}
use Rattle.btree_insert.specs.declared.bounds.Bounds.{Bounds}
use Rattle.btree_insert.specs.Bounds.{Between}
use Rattle.btree_insert.specs.Contents.{lookup_in, set_in}
use Rattle.btree_insert.specs.PageTrees.{IsIn, Apart, TreeAt, Body, Spells}
use Rattle.btree_insert.proofs.SonsAroundLemmas.{Stands, Focus, focus}
use Rattle.btree_insert.proofs.HeadNodeLemmas.{Top}
use Rattle.btree_insert.proofs.VisitedLemmas.{unvisited_below, apart_below}
use Rattle.btree_delete.specs.declared.deletion.subtree.Subtree.{Subtree}
use Rattle.btree_delete.specs.Shrinking.{MayBeUnderfull, RemovesBelow, StaysUnvisited, sought, Removal}
use Rattle.btree_delete.specs.Tidy.{is_visited, visits}
use Rattle.btree_delete.specs.Treatment.{element_at, son_number}
use Rattle.btree_delete.specs.Subtrees.{head_page, son_tree, left_bounds}
use Rattle.btree_delete.specs.PagesLeft.{pages_freed}
use Rattle.btree_delete.proofs.BrotherPairLemmas.{Next, next}
use Rattle.btree_delete.proofs.DeletionLemmas.{is_at, each_mid}
use Rattle.btree_delete.proofs.DeletionStepLemmas.{AskRight, AskLeft, Broken}
use Rattle.btree_delete.proofs.FirstElementLemmas.{tree_some, sought_place, sought_below}

-- what a caller knows of a son
pub record Known (k : ℕ) (ps : List (Option (List ℕ))) (level s : ℕ) (xs : List Element) (mine m : List ℕ) (b : Bounds) : Type 0 where
  pub tree : TreeAt k (at ps) k level s xs mine
  pub between : Between b xs
  pub apart : Apart mine
  pub unvisited : Each (λ u. is_visited m u ≡ false) mine

-- the same, in the words of the call
pub known_there : (ps ps2 : List (Option (List ℕ))) (t t2 : Subtree) (g : ℕ) (xs : List Element) (mine m m2 : List ℕ) → ps2 ≡ ps → t2 ≡ t → m2 ≡ m → t.height ≡ suc g → Known t.order ps (suc g) t.page xs mine m t.bounds → Known t2.order ps2 t2.height t2.page xs mine m2 t2.bounds
known_there ps ps2 t t2 g xs mine m m2 ps_is t_is m_is height_is known =
    subst (λ (x : Subtree). Known x.order ps2 x.height x.page xs mine m2 x.bounds) (sym t_is)
    (subst (λ (x : List (Option (List ℕ))). Known t.order x t.height t.page xs mine m2 t.bounds) (sym ps_is)
    (subst (λ (x : List ℕ). Known t.order ps t.height t.page xs mine x t.bounds) (sym m_is)
    (subst (λ (x : ℕ). Known t.order ps x t.page xs mine m t.bounds) (sym height_is) known)))

-- what the call took out, in the words of the caller
pub removed_here : (ps ps2 : List (Option (List ℕ))) (ws : List (ℕ × List ℕ)) (fs : List ℕ) (t t2 : Subtree) (g : ℕ) (xs : List Element) (mine m m2 visited key key2 : List ℕ) (r r2 : Option Removal) → ps2 ≡ ps → t2 ≡ t → m2 ≡ m → t.height ≡ suc g → key2 ≡ key → r ≡ r2
    → RemovesBelow (head_page t2.order t2.order (t2.height - 1) t2.page) (pages_freed (at ps2) (after (at ps2) ws fs) 0 (length fs)) xs mine (visits m2 visited) key2 r → RemovesBelow (head_page t.order t.order g t.page) (pages_freed (at ps) (after (at ps) ws fs) 0 (length fs)) xs mine (visits m visited) key r2
removed_here ps ps2 ws fs t t2 g xs mine m m2 visited key key2 r r2 ps_is t_is m_is height_is key_is r_is removed =
    let low_is : t.height - 1 ≡ g = omega (arith, height_is) in
    subst (λ (x : List (Option (List ℕ))). RemovesBelow (head_page t.order t.order g t.page) (pages_freed (at x) (after (at x) ws fs) 0 (length fs)) xs mine (visits m visited) key r2) ps_is
    (subst (λ (x : List ℕ). RemovesBelow (head_page t.order t.order g t.page) (pages_freed (at ps2) (after (at ps2) ws fs) 0 (length fs)) xs mine (visits x visited) key r2) m_is
    (subst (λ (x : ℕ). RemovesBelow (head_page t.order t.order x t.page) (pages_freed (at ps2) (after (at ps2) ws fs) 0 (length fs)) xs mine (visits m2 visited) key r2) low_is
    (subst (λ (x : List ℕ). RemovesBelow (head_page t.order t.order (t.height - 1) t.page) (pages_freed (at ps2) (after (at ps2) ws fs) 0 (length fs)) xs mine (visits m2 visited) x r2) key_is
    (subst (λ (x : Option Removal). RemovesBelow (head_page t.order t.order (t.height - 1) t.page) (pages_freed (at ps2) (after (at ps2) ws fs) 0 (length fs)) xs mine (visits m2 visited) key2 x) r_is
    (subst (λ (x : Subtree). RemovesBelow (head_page x.order x.order (x.height - 1) x.page) (pages_freed (at ps2) (after (at ps2) ws fs) 0 (length fs)) xs mine (visits m2 visited) key2 r) t_is removed)))))

-- what a deletion answers below the head of a tree
abbrev pub Removing : Subtree → PagesView → List ℕ → (ℕ → List Element → List ℕ → Type 0) → Type 0
Removing t pages visited X =
    IsTrue pages.steady → (least : ℕ) (es : List Element) (us : List ℕ) → least ≤ t.order → TreeAt t.order (at pages.pages) least t.height t.page es us → Between t.bounds es → Apart us → Each (λ u. is_visited visited u ≡ false) us → X least es us

-- the same of the node at the head
abbrev pub RemovingHere : Subtree → PagesView → List ℕ → Node → (ℕ → List Element → List ℕ → Type 0) → Type 0
RemovingHere t pages visited n X =
    IsTrue pages.steady → (least : ℕ) (es : List Element) (us below : List ℕ) → least ≤ t.order → Spells t.order (at pages.pages) t.page n → least ≤ length n.elements.items → Body (TreeAt t.order (at pages.pages) t.order (t.height - 1)) (t.height - 1) n es below
    → us ≡ t.page ∷ below → Between t.bounds es → Apart us → Each (λ u. is_visited visited u ≡ false) below → X least es us

-- a tree below a son, as the caller and as a call on it know it
pub record Called (t t2 : Subtree) (pages pages2 : PagesView) (visited visited2 : List ℕ) (h : ℕ) (xs : List Element) (mine : List ℕ) : Type 0 where
  pub tree_is : t2 ≡ t
  pub pages_is : pages2.pages ≡ pages.pages
  pub visited_is : visited2 ≡ visited
  pub height_is : t.height ≡ suc h
  pub steady : IsTrue pages2.steady
  pub known : Known t.order pages.pages (suc h) t.page xs mine visited t.bounds

-- what the call answers
pub answered : (t t2 : Subtree) (pages pages2 : PagesView) (visited visited2 : List ℕ) (h : ℕ) (xs : List Element) (mine : List ℕ) (X : ℕ → List Element → List ℕ → Type 0) → Called t t2 pages pages2 visited visited2 h xs mine → Removing t2 pages2 visited2 X → X t2.order xs mine
answered t t2 pages pages2 visited visited2 h xs mine X called removing =
    let there = known_there pages.pages pages2.pages t t2 h xs mine visited visited2 called.pages_is called.tree_is called.visited_is called.height_is called.known in
    removing called.steady t2.order xs mine (omega arith) there.tree there.between there.apart there.unvisited

-- what the call took out
pub called_removed : (t t2 : Subtree) (pages pages2 : PagesView) (visited visited2 visited3 : List ℕ) (h : ℕ) (xs : List Element) (mine : List ℕ) (ws : List (ℕ × List ℕ)) (fs : List ℕ) (key : Option (List ℕ)) (sought_key : List ℕ) (r r2 : Option Removal)
    → Called t t2 pages pages2 visited visited2 h xs mine → sought key xs ≡ sought_key → r ≡ r2
    → Removing t2 pages2 visited2 (λ least es us. RemovesBelow (head_page t2.order least (t2.height - 1) t2.page) (pages_freed (at pages2.pages) (after (at pages2.pages) ws fs) 0 (length fs)) es us (visits visited2 visited3) (sought key es) r)
    → RemovesBelow (head_page t.order t.order h t.page) (pages_freed (at pages.pages) (after (at pages.pages) ws fs) 0 (length fs)) xs mine (visits visited visited3) sought_key r2
called_removed t t2 pages pages2 visited visited2 visited3 h xs mine ws fs key sought_key r r2 called key_is r_is removing =
    removed_here pages.pages pages2.pages ws fs t t2 h xs mine visited visited2 visited3 sought_key (sought key xs) r r2 called.pages_is called.tree_is called.visited_is called.height_is key_is r_is
    (answered t t2 pages pages2 visited visited2 h xs mine (λ least es us. RemovesBelow (head_page t2.order least (t2.height - 1) t2.page) (pages_freed (at pages2.pages) (after (at pages2.pages) ws fs) 0 (length fs)) es us (visits visited2 visited3) (sought key es) r) called removing)

-- the son below which a key is taken out, and the call on it
pub record CalledSon (t t2 : Subtree) (pages pages2 : PagesView) (visited visited2 : List ℕ) (key : Option (List ℕ)) (least : ℕ) (es : List Element) (us : List ℕ) (n : Node) (i h : ℕ) (new : Stands) (Same : ℕ → Type 0) : Type 0 where
  pub head : Top t.order (at pages.pages) least t.height (suc h) t.page es us t.bounds n
  pub son : Focus (TreeAt t.order (at pages.pages) t.order (suc h)) new Same n.sons.items n.elements.items es head.below (sought key es) i t.bounds
  pub us_is : us ≡ t.page ∷ (son.upre ++ (son.mine ++ son.upost))
  pub some : 0 < length son.xs
  pub key_is : sought key son.xs ≡ sought key es
  pub called : Called (son_tree t n i) t2 pages pages2 (visited ++ t.page ∷ []) visited2 h son.xs son.mine

pub called_son : (t t2 : Subtree) (pages pages2 : PagesView) (visited visited2 : List ℕ) (key : Option (List ℕ)) (least : ℕ) (es : List Element) (us : List ℕ) (n : Node) (i h : ℕ) (new : Stands) (Same : ℕ → Type 0)
    → ((s : ℕ) (xs : List Element) (vs : List ℕ) → TreeAt t.order (at pages.pages) t.order (suc h) s xs vs → Each Same vs → new s xs vs)
    → 1 ≤ t.order → t.height - 1 ≡ suc h → Top t.order (at pages.pages) least t.height (t.height - 1) t.page es us t.bounds n → Ascends n.elements.items → ((given : List ℕ) → key ≡ Some given → IsPlace n.elements.items given i) → (key ≡ None → i ≡ 0)
    → t2 ≡ son_tree t n i → pages2.pages ≡ pages.pages → IsTrue pages2.steady → visited2 ≡ visited ++ t.page ∷ [] → Between t.bounds es → Apart us → Each (λ u. is_visited visited u ≡ false) us
    → CalledSon t t2 pages pages2 visited visited2 key least es us n i h new Same
called_son t t2 pages pages2 visited visited2 key least es us n i h new Same move order up first ascends found is_first tree_is pages_is steady visited_is between apart unvisited =
    let P = at pages.pages in
    let head = subst (λ (x : ℕ). Top t.order P least t.height x t.page es us t.bounds n) up first in
    let place = sought_place t.order P h n es head.below key i order head.body ascends between.ascends found is_first in
    let son = focus (TreeAt t.order P t.order (suc h)) new Same move n.sons.items n.elements.items es head.below (sought key es) i t.bounds head.body.1 between place in
    let us_is = head.us_is ∙ ap (λ vs. t.page ∷ vs) son.us_is in
    let some = tree_some t.order P t.order (suc h) (son_number n i) son.xs son.mine order order son.here in
    record {
      head = head;
      son = son;
      us_is = us_is;
      some = some;
      key_is = sought_below key es son.pre son.xs son.post son.es_is some son.below;
      called = record {
        tree_is = tree_is;
        pages_is = pages_is;
        visited_is = visited_is;
        height_is = up;
        steady = steady;
        known = record {
          tree = son.here;
          between = son.between;
          apart = apart_below t.page us son.upre son.mine son.upost us_is apart;
          unvisited = unvisited_below visited t.page us son.upre son.mine son.upost us_is apart unvisited;
        };
      };
    }

-- the son behind an element that is taken out, and the call on it
pub record CalledNext (t t2 : Subtree) (pages : PagesView) (visited : List ℕ) (least : ℕ) (es : List Element) (us below : List ℕ) (n : Node) (i h : ℕ) (new : Stands) (Same : ℕ → Type 0) : Type 0 where
  pub head : Top t.order (at pages.pages) least t.height (suc h) t.page es us t.bounds n
  pub son : Next (TreeAt t.order (at pages.pages) t.order (suc h)) new Same n.sons.items n.elements.items es head.below (element_at n i).0 i t.bounds (element_at n i)
  pub us_is : us ≡ t.page ∷ (son.upre ++ (son.mine ++ son.upost))
  pub some : 0 < length son.xs
  pub unvisited : Each (λ u. is_visited visited u ≡ false) head.below
  pub called : Called (son_tree t n (suc i)) t2 pages pages visited visited h son.xs son.mine

pub called_next : (t t2 : Subtree) (pages : PagesView) (visited : List ℕ) (least : ℕ) (es : List Element) (us below : List ℕ) (n : Node) (i h : ℕ) (new : Stands) (Same : ℕ → Type 0)
    → ((s : ℕ) (xs : List Element) (vs : List ℕ) → TreeAt t.order (at pages.pages) t.order (suc h) s xs vs → Each Same vs → new s xs vs)
    → 1 ≤ t.order → t.height - 1 ≡ suc h → MayBeUnderfull t.order t.height t.bounds n → i < length n.elements.items → t2 ≡ son_tree t n (i + 1) → IsTrue pages.steady
    → Spells t.order (at pages.pages) t.page n → least ≤ length n.elements.items → Body (TreeAt t.order (at pages.pages) t.order (t.height - 1)) (t.height - 1) n es below → us ≡ t.page ∷ below → Between t.bounds es → Apart us → Each (λ u. is_visited visited u ≡ false) below
    → CalledNext t t2 pages visited least es us below n i h new Same
called_next t t2 pages visited least es us below n i h new Same move order up node place tree_is steady spells least_is body head_is between apart unvisited =
    let P = at pages.pages in
    let inner = subst (λ (x : ℕ). Body (TreeAt t.order P t.order x) x n es below) up body in
    let head : Top t.order P least t.height (suc h) t.page es us t.bounds n = record { below = below; spells = spells; least_is = least_is; kind = node.kind; within = node.within; body = inner; us_is = head_is } in
    let here = get_or_default n.elements.items i ([], []) (element_at n i) place in
    let son = next (TreeAt t.order P t.order (suc h)) new Same move n.sons.items n.elements.items es below (element_at n i).0 i t.bounds (element_at n i) inner.1 between (is_at n.elements.items i node.ascends place) here in
    let us_is = head_is ∙ ap (λ vs. t.page ∷ vs) son.us_is in
    record {
      head = head;
      son = son;
      us_is = us_is;
      some = tree_some t.order P t.order (suc h) (son_number n (suc i)) son.xs son.mine order order son.here;
      unvisited = unvisited;
      called = record {
        tree_is = tree_is ∙ ap (son_tree t n) (omega arith);
        pages_is = refl;
        visited_is = refl;
        height_is = up;
        steady = steady;
        known = record {
          tree = son.here;
          between = son.between;
          apart = apart_below t.page us son.upre son.mine son.upost us_is apart;
          unvisited = each_mid (λ u. is_visited visited u ≡ false) below son.upre son.mine son.upost son.us_is unvisited;
        };
      };
    }

-- the question about a brother, in the words of the caller
pub asked_right : (X : Subtree → Node → Type 0) (t t2 : Subtree) (ps ps2 : List (Option (List ℕ))) (visited : List ℕ) (F : Node) (i : ℕ) → t2 ≡ t → ps2 ≡ ps → AskRight t2.order (at ps2) (t2.height - 1) visited t2.bounds F i (X t2) → AskRight t.order (at ps) (t.height - 1) visited t.bounds F i (X t)
asked_right X t t2 ps ps2 visited F i tree_is ps_is asked =
    subst (λ (x : List (Option (List ℕ))). AskRight t.order (at x) (t.height - 1) visited t.bounds F i (X t)) ps_is
    (subst (λ (x : Subtree). AskRight x.order (at ps2) (x.height - 1) visited x.bounds F i (X x)) tree_is asked)

pub asked_left : (X : Subtree → ℕ → Node → Type 0) (t t2 : Subtree) (ps ps2 : List (Option (List ℕ))) (visited : List ℕ) (F : Node) (i : ℕ) → t2 ≡ t → ps2 ≡ ps → AskLeft t2.order (at ps2) (t2.height - 1) visited t2.bounds F i (X t2) → AskLeft t.order (at ps) (t.height - 1) visited t.bounds F i (X t)
asked_left X t t2 ps ps2 visited F i tree_is ps_is asked =
    subst (λ (x : List (Option (List ℕ))). AskLeft t.order (at x) (t.height - 1) visited t.bounds F i (X t)) ps_is
    (subst (λ (x : Subtree). AskLeft x.order (at ps2) (x.height - 1) visited x.bounds F i (X x)) tree_is asked)

-- a page below whose son an element was taken out, which left the son underfull
pub record BelowShort (t : Subtree) (old : PageMap) (ws : List (ℕ × List ℕ)) (fs : List ℕ) (key : Option (List ℕ)) (es : List Element) (us : List ℕ) (n : Node) (i h : ℕ) (e : Element) (son : Node) (visited visited2 : List ℕ) : Type 0 where
  pub broken : Broken t.order old (after old ws fs) visited2 0 (length fs) h t.page (son_number n i) son n (set_in (sought key es) None es) us
  pub value : lookup_in (sought key es) es ≡ Some e.1
  pub key_is : e.0 ≡ sought key es
  pub between : Between (left_bounds key e t.bounds) (set_in (sought key es) None es)
  pub inner : n.kind ≡ Inner
  pub mine : List ℕ
  pub head_in : IsIn t.page us
  pub mine_in : (q : ℕ) → IsIn q mine → IsIn q us
  pub unvisited : StaysUnvisited (visited ++ t.page ∷ []) visited2 mine

-- the same of the son behind an element, which the next greater one took the place of
pub record BehindShort (t : Subtree) (old : PageMap) (ws : List (ℕ × List ℕ)) (fs : List ℕ) (es : List Element) (us : List ℕ) (n m : Node) (i h : ℕ) (son : Node) (visited visited2 : List ℕ) : Type 0 where
  pub broken : Broken t.order old (after old ws fs) visited2 0 (length fs) h t.page (son_number n (suc i)) son m (set_in (element_at n i).0 None es) us
  pub value : lookup_in (element_at n i).0 es ≡ Some (element_at n i).1
  pub between : Between t.bounds (set_in (element_at n i).0 None es)
  pub inner : n.kind ≡ Inner
  pub mine : List ℕ
  pub mine_in : (q : ℕ) → IsIn q mine → IsIn q us
  pub unvisited : StaysUnvisited visited visited2 mine
