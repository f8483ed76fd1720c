-- What taking the first element out below a page comes to.
use Rattle.std.proofs.Common.{◌≡◌, ℕ, zero, suc, ◌<◌, ◌≤◌, Option, Some, None, List, [], ◌∷◌, ◌++◌, length, length-append, refl, ap, sym, ◌∙◌, subst, arith, false}
use Rattle.page_store.specs.PageMap.{PageMap}
use Rattle.btree_node.specs.declared.node.Node.{Node}
use Rattle.btree_node.specs.Lists.{Element, Each, Below, Ascends, IsPlace}
use Rattle.btree_node.proofs.ElementOrderLemmas.{Each-map, Each-right, Below-trans}
use Rattle.btree_node.specs.Spelling.{IsElement}
use Rattle.btree_insert.specs.declared.bounds.Bounds.{Bounds}
use Rattle.btree_insert.specs.Bounds.{Between, son_bounds}
use Rattle.btree_insert.specs.Contents.{lookup_in, set_in}
use Rattle.btree_insert.specs.Growth.{IsWithin}
use Rattle.btree_insert.specs.PageTrees.{IsIn, Fan, Body, TreeAt}
use Rattle.btree_insert.proofs.DistinctPageLemmas.{irreflexive}
use Rattle.btree_insert.proofs.ElementMapLemmas.{lookup-here}
use Rattle.btree_insert.proofs.Membership.{each_in, in_each}
use Rattle.btree_delete.specs.declared.deletion.subtree.Subtree.{Subtree}
use Rattle.btree_delete.specs.Treatment.{element_at}
use Rattle.btree_delete.specs.Shrinking.{MayBeUnderfull, UnderfullGoesUp, MayGoUp, LeavesTree, RemovesBelow, StaysUnvisited, gone, sought, Removal}
use Rattle.btree_delete.specs.Subtrees.{behind_element, left_bounds, head_page}
use Rattle.btree_delete.specs.Tidy.{is_visited, visits, done_so_far}
use Rattle.btree_delete.specs.PagesLeft.{pages_freed}
use Rattle.btree_delete.proofs.ElementRemovalLemmas.{remove-here, remove-between_bounds, between_behind}
use Rattle.btree_delete.proofs.UnderfullNodeLemmas.{behind_may_be_underfull, first_son_bounds}
use Rattle.btree_delete.proofs.EditLemmas.{unvisited_push}

-- a page that was visited now is none of those below it
pub more_visited : (visited : List ℕ) (p : ℕ) (us : List ℕ) → (IsIn p us → ⊥) → Each (λ u. is_visited visited u ≡ false) us → Each (λ u. is_visited (visited ++ p ∷ []) u ≡ false) us
more_visited visited p us out unvisited =
    each_in (λ u. is_visited (visited ++ p ∷ []) u ≡ false) us (λ u is. unvisited_push visited p u (in_each (λ x. is_visited visited x ≡ false) us u unvisited is) (λ e. out (subst (λ (x : ℕ). IsIn x us) e is)))

-- the first element was taken out below page p, and the rest is left
pub record Takes (k : ℕ) (old new : PageMap) (lo hi least h p : ℕ) (es : List Element) (us visited visited2 : List ℕ) (g : Removal) : Type 0 where
  pub rest : List Element
  pub first : es ≡ gone g ∷ rest
  pub leaves : LeavesTree (head_page k least h p) (pages_freed old new lo hi) us rest g
  pub unvisited : StaysUnvisited visited visited2 us

-- a record that is there
abbrev record_of : Option (List ℕ) → List ℕ
record_of None = []
record_of (Some r) = r

-- where no key was given, the first element went
pub took_of : (k : ℕ) (old new : PageMap) (lo hi least h p : ℕ) (es : List Element) (us visited visited2 : List ℕ) (g : Removal) → 0 < length es → RemovesBelow (head_page k least h p) (pages_freed old new lo hi) es us (visits visited visited2) (sought None es) (Some g) → Takes k old new lo hi least h p es us visited visited2 g
took_of k old new lo hi least h p [] us visited visited2 g some removed = absurd (omega arith)
took_of k old new lo hi least h p (x ∷ es) us visited visited2 g some removed =
    let value_is : x.1 ≡ (gone g).1 = ap record_of (sym (lookup-here x.0 [] x es tt refl) ∙ removed.drops.1) in
    record {
      rest = es;
      first = λ i. (sym removed.drops.0 i, value_is i) ∷ es;
      leaves = subst (λ (zs : List Element). LeavesTree (head_page k least h p) (pages_freed old new lo hi) us zs g) (remove-here x.0 [] x es tt refl) removed.drops.2;
      unvisited = removed.unvisited;
    }

-- a tree has an element
pub tree_some : (k : ℕ) (pages : PageMap) (least h p : ℕ) (es : List Element) (us : List ℕ) → 1 ≤ k → 1 ≤ least → TreeAt k pages least h p es us → 0 < length es
tree_some k pages least zero p es us order some tree = absurd tree
tree_some k pages least (suc h) p es us order some (n, below, spells, least_is, body, us_is) = body_some h n below (omega (arith, some, least_is)) body
  where
    fan_some : (tree : ℕ → List Element → List ℕ → Type 0) (sons : List ℕ) (els xs : List Element) (vs : List ℕ) → 0 < length els → Fan tree sons els xs vs → 0 < length xs
    fan_some tree [] els xs vs low fan = absurd fan
    fan_some tree (s ∷ []) [] xs vs low fan = absurd (omega arith)
    fan_some tree (s ∷ []) (e ∷ els) xs vs low fan = absurd fan
    fan_some tree (s ∷ (t ∷ ss)) [] xs vs low fan = absurd fan
    fan_some tree (s ∷ (t ∷ ss)) (e ∷ els) xs vs low (ys, zs, here, rest, first, more, xs_is, vs_is) = subst (λ (ws : List Element). 0 < length ws) (sym xs_is) (longer ys)
      where
        longer : (ys : List Element) → 0 < length (ys ++ e ∷ zs)
        longer [] = omega arith
        longer (y ∷ ys) = omega arith

    body_some : (h : ℕ) (n : Node) (below : List ℕ) → 0 < length n.elements.items → Body (TreeAt k pages k h) h n es below → 0 < length es
    body_some zero n below low body = subst (λ (xs : List Element). 0 < length xs) (sym body.1) low
    body_some (suc h) n below low body = fan_some (TreeAt k pages k (suc h)) n.sons.items n.elements.items es below low body.1

-- the first key of a page is that of its first son
first_place : (k : ℕ) (pages : PageMap) (h : ℕ) (sons : List ℕ) (els es : List Element) (us : List ℕ) → 1 ≤ k → Fan (TreeAt k pages k (suc h)) sons els es us → Ascends els → Ascends es → Each (λ e. Below (sought None es) e.0) els
first_place k pages h [] els es us order fan up all_up = absurd fan
first_place k pages h (s ∷ []) [] es us order fan up all_up = tt
first_place k pages h (s ∷ []) (e ∷ els) es us order fan up all_up = absurd fan
first_place k pages h (s ∷ (t ∷ ss)) [] es us order fan up all_up = absurd fan
first_place k pages h (s ∷ (t ∷ ss)) (e ∷ els) es us order (xs, ys, here, rest, first, more, es_is, us_is) up all_up =
    let low : Below (sought None es) e.0 = subst (λ (zs : List Element). Below (sought None zs) e.0) (sym es_is) (before xs (tree_some k pages k (suc h) s xs here order order first) (subst Ascends es_is all_up)) in
    (low, Each-map (λ (later : Element). Below e.0 later.0) (λ later. Below (sought None es) later.0) els (λ later over. Below-trans (sought None es) e.0 later.0 low over) up.0)
  where
    before : (zs : List Element) → 0 < length zs → Ascends (zs ++ e ∷ ys) → Below (sought None (zs ++ e ∷ ys)) e.0
    before [] some up = absurd (omega arith)
    before (z ∷ zs) some up = (Each-right (λ (later : Element). Below z.0 later.0) zs (e ∷ ys) up.0).0

-- the place of the key that goes, in an inner page
pub sought_place : (k : ℕ) (pages : PageMap) (h : ℕ) (n : Node) (es : List Element) (us : List ℕ) (key : Option (List ℕ)) (i : ℕ) → 1 ≤ k → Body (TreeAt k pages k (suc h)) (suc h) n es us → Ascends n.elements.items → Ascends es
    → ((given : List ℕ) → key ≡ Some given → IsPlace n.elements.items given i) → (key ≡ None → i ≡ 0) → IsPlace n.elements.items (sought key es) i
sought_place k pages h n es us (Some given) i order body up all_up found first = found given refl
sought_place k pages h n es us None i order body up all_up found first =
    subst (IsPlace n.elements.items (sought None es)) (sym (first refl)) (record {
      within = omega arith;
      below = tt;
      above = first_place k pages h n.sons.items n.elements.items es us order body.1 up all_up;
    })

-- the son is asked for the same key
pub sought_below : (key : Option (List ℕ)) (es pre xs post : List Element) → es ≡ pre ++ (xs ++ post) → 0 < length xs → Each (λ e. Below e.0 (sought key es)) pre → sought key xs ≡ sought key es
sought_below (Some given) es pre xs post es_is some below = refl
sought_below None es [] [] post es_is some below = absurd (omega arith)
sought_below None es [] (x ∷ xs) post es_is some below = sym (ap (sought None) es_is)
sought_below None es (y ∷ pre) xs post es_is some below = absurd (irreflexive y.0 (subst (λ (key : List ℕ). Below y.0 key) (ap (sought None) es_is) below.0))

-- the bounds of what is left
pub left_between : (key : Option (List ℕ)) (e : Element) (b : Bounds) (es : List Element) → 0 < length es → e.0 ≡ sought key es → Between b es → Between (left_bounds key e b) (set_in (sought key es) None es)
left_between (Some given) e b es some is between = remove-between_bounds b given es between
left_between None e b [] some is between = absurd (omega arith)
left_between None e b (x ∷ es) some is between =
    subst (λ (zs : List Element). Between (behind_element e b) zs) (sym (remove-here x.0 [] x es tt refl)) (subst (λ (key : List ℕ). Between (record { low = Some key; high = b.high }) es) (sym is) (between_behind b x es between))

-- a node without what went is within the bounds of what is left
pub left_may_be_underfull : (key : Option (List ℕ)) (k height i : ℕ) (b : Bounds) (n : Node) (e : Element) → (key ≡ None → i ≡ 0) → MayBeUnderfull k height b n → IsWithin (son_bounds n.elements.items i b) e.0 → MayBeUnderfull k height (left_bounds key e b) n
left_may_be_underfull (Some given) k height i b n e first may_be_underfull within = may_be_underfull
left_may_be_underfull None k height i b n e first may_be_underfull within = behind_may_be_underfull k height b n e may_be_underfull (subst (λ (j : ℕ). IsWithin (son_bounds n.elements.items j b) e.0) (first refl) within)

-- the bounds of a son of what is left
pub left_son : (key : Option (List ℕ)) (els : List Element) (i : ℕ) (b : Bounds) (e : Element) → (key ≡ None → i ≡ 0) → left_bounds key e (son_bounds els i b) ≡ son_bounds els i (left_bounds key e b)
left_son (Some given) els i b e first = refl
left_son None els i b e first = subst (λ (j : ℕ). behind_element e (son_bounds els j b) ≡ son_bounds els j (behind_element e b)) (sym (first refl)) (sym (first_son_bounds els b e))

-- the element that goes from a page stands there under the key
pub sought_here : (k : ℕ) (pages : PageMap) (h : ℕ) (n : Node) (es : List Element) (us : List ℕ) (key : Option (List ℕ)) (i : ℕ) → Body (TreeAt k pages k h) h n es us → ((given : List ℕ) → key ≡ Some given → (element_at n i).0 ≡ given) → (key ≡ None → i ≡ 0) → (key ≡ None → h ≡ 0)
    → (element_at n i).0 ≡ sought key es
sought_here k pages h n es us (Some given) i body found first low = found given refl
sought_here k pages (suc h) n es us None i body found first low = absurd (omega (arith, low refl))
sought_here k pages zero n es us None i body found first low = ap (λ (j : ℕ). (element_at n j).0) (first refl) ∙ ap (sought None) (sym body.1)

-- only a given key may be absent
pub sought_none : (key : Option (List ℕ)) (es : List Element) → (key ≡ None → ⊥) → ((given : List ℕ) → key ≡ Some given → lookup_in given es ≡ None) → lookup_in (sought key es) es ≡ None
sought_none (Some given) es some none = none given refl
sought_none None es some none = absurd (some refl)

-- a tree with an element in a part has one
pub some_around : (es pre xs post : List Element) → es ≡ pre ++ (xs ++ post) → 0 < length xs → 0 < length es
some_around es pre xs post es_is some = omega (arith, ap length es_is, length-append pre (xs ++ post), length-append xs post, some)

-- what goes up behind an element
pub goes_left : (key : Option (List ℕ)) (k height n : ℕ) (b : Bounds) (e : Element) (ws : List (ℕ × List ℕ)) (fs : List ℕ) (g : Removal) → UnderfullGoesUp k height b n ws fs g → (key ≡ None → UnderfullGoesUp k height (behind_element e b) n ws fs g) → UnderfullGoesUp k height (left_bounds key e b) n ws fs g
goes_left (Some given) k height n b e ws fs g goes first = goes
goes_left None k height n b e ws fs g goes first = first refl

-- the parts of what went up from a son
pub record WentUp (k height : ℕ) (b : Bounds) (key : Option (List ℕ)) (n : ℕ) (ws : List (ℕ × List ℕ)) (fs : List ℕ) (g : Removal) : Type 0 where
  pub fits : IsElement (gone g)
  pub within : IsWithin b (gone g).0
  pub goes : UnderfullGoesUp k height (left_bounds key (gone g) b) n ws fs g

-- what a call on the same tree hands up
pub went_up : (t t2 : Subtree) (key : Option (List ℕ)) (ws : List (ℕ × List ℕ)) (fs : List ℕ) (r : Option Removal) (g : Removal) → t2 ≡ t → r ≡ Some g → MayGoUp t2 key (done_so_far ws fs) r → WentUp t.order t.height t.bounds key t.page ws fs g
went_up t t2 key ws fs r g t_is r_is up =
    let (fits, within, goes) = subst (MayGoUp t key (done_so_far ws fs)) r_is (subst (λ (x : Subtree). MayGoUp x key (done_so_far ws fs) r) t_is up) in
    record { fits = fits; within = within; goes = goes }
