-- What a look-up and a walk have gone through.
use Rattle.std.proofs.Common.{◌≡◌, ℕ, suc, ◌+◌, ◌<◌, inl, inr, Result, Ok, Err, Option, Some, None, List, [], ◌∷◌, ◌++◌, length, get_or, drop, refl, ap, sym, ◌∙◌, subst, arith, length-append}
use Rattle.std.specs.Prelude.{IfOk, OnOk, MatchResult}
use Rattle.btree_node.specs.declared.node.Node.{Node}
use Rattle.btree_node.specs.Lists.{Element, Each, Below, Ascends, IsAt, IsPlace}
use Rattle.btree_node.proofs.ElementOrderLemmas.{Each-append, Each-map, Below-trans}
use Rattle.page_store.specs.PageMap.{PageMap}
use Rattle.btree_insert.specs.declared.bounds.Bounds.{Bounds}
use Rattle.btree_insert.specs.Bounds.{Over, Under, AreWithin, Between, son_bounds, unbounded}
use Rattle.btree_insert.specs.PageTrees.{Spells, Fan, TreeOf, kind_of_level}
use Rattle.btree_insert.specs.Reached.{Leads, LeadsFrom, Adds}
use Rattle.btree_insert.proofs.SonsAroundLemmas.{Stands}
use Rattle.btree_insert.proofs.PlaceLemmas.{over_trans, under_trans}
use Rattle.btree_insert.proofs.HeadNodeLemmas.{kind_above}

-- what follows from a value of an answer
pub if_ok : {X E : Type 0} (r : Result X E) (P Q : X → Type 0) → ((x : X) → P x → Q x) → IfOk r P → IfOk r Q
if_ok (Ok x) P Q follows is = follows x is
if_ok (Err e) P Q follows is = tt

pub match_ok : {X E : Type 0} (r : Result X E) (P Q : X → Type 0) (F : E → Type 0) → ((x : X) → P x → Q x) → MatchResult r P F → MatchResult r Q F
match_ok (Ok x) P Q F follows is = follows x is
match_ok (Err e) P Q F follows is = is

-- what follows from an answer
pub on_ok : {X E : Type 0} (r : Result X E) (P Q : Type 0) → (P → Q) → OnOk r P → OnOk r Q
on_ok (Ok x) P Q follows is = follows is
on_ok (Err e) P Q follows is = tt

-- the key stands in the page
pub leads_here : (spells : ℕ → Node → Type 0) (key : List ℕ) (height h p : ℕ) (b : Bounds) (n : Node) (i : ℕ) (found : Option (List ℕ)) → suc h ≡ height → spells p n → n.kind ≡ kind_of_level height → AreWithin b n.elements.items
    → IsAt n.elements.items key i → ((d : Element) → found ≡ Some (get_or n.elements.items i d).1) → Leads spells key height p b found
leads_here spells key height h p b n i found is spelled kind within place found_is =
    subst (λ x. Leads spells key x p b found) is (n, spelled, kind ∙ ap kind_of_level (sym is), within, i, inl (place, found_is))

-- the key is not in the leaf
pub leads_nowhere : (spells : ℕ → Node → Type 0) (key : List ℕ) (height p : ℕ) (b : Bounds) (n : Node) (i : ℕ) → height ≡ 1 → spells p n → n.kind ≡ kind_of_level height → AreWithin b n.elements.items
    → IsPlace n.elements.items key i → Leads spells key height p b None
leads_nowhere spells key height p b n i is spelled kind within place =
    subst (λ x. Leads spells key x p b None) (sym is) (n, spelled, kind ∙ ap kind_of_level is, within, i, inr (place, refl))

-- a son leads on
pub leads_on : (spells : ℕ → Node → Type 0) (key : List ℕ) (height h p : ℕ) (b : Bounds) (n : Node) (i : ℕ) (found : Option (List ℕ)) → suc (suc h) ≡ height → spells p n → n.kind ≡ kind_of_level height → AreWithin b n.elements.items
    → IsPlace n.elements.items key i → Leads spells key (suc h) (get_or n.sons.items i 0) (son_bounds n.elements.items i b) found → Leads spells key height p b found
leads_on spells key height h p b n i found is spelled kind within place on =
    subst (λ x. Leads spells key x p b found) is (n, spelled, kind ∙ ap kind_of_level (sym is), within, i, inr (place, on))

-- an empty tree leads to nothing
pub leads_from_none : (spells : ℕ → Node → Type 0) (key : List ℕ) (height root : ℕ) → height ≡ 0 → LeadsFrom spells key height root None
leads_from_none spells key height root is = subst (λ x. LeadsFrom spells key x root None) (sym is) refl

-- a tree leads where its root leads
pub leads_from : (spells : ℕ → Node → Type 0) (key : List ℕ) (height h root : ℕ) (found : Option (List ℕ)) → suc h ≡ height → Leads spells key height root unbounded found → LeadsFrom spells key height root found
leads_from spells key height h root found is leads =
    subst (λ x. LeadsFrom spells key x root found) is (subst (λ x. Leads spells key x root unbounded found) (sym is) leads)

-- elements below a key, the key, and those above it ascend
pub ascends_join : (xs : List Element) (m : Element) (ys : List Element) → Ascends xs → Each (λ x. Below x.0 m.0) xs → Each (λ y. Below m.0 y.0) ys → Ascends ys → Ascends (xs ++ m ∷ ys)
ascends_join [] m ys front under over back = (over, back)
ascends_join (x ∷ xs) m ys front under over back = (
  Each-append (λ later. Below x.0 later.0) xs (m ∷ ys) front.0 (under.0, Each-map (λ (y : Element). Below m.0 y.0) (λ y. Below x.0 y.0) ys (λ y above. Below-trans x.0 m.0 y.0 under.0 above) over),
  ascends_join xs m ys front.1 under.1 over back,
)

-- elements on the two sides of one
pub Between-join : (b : Bounds) (xs : List Element) (m : Element) (ys : List Element) → Over b.low m.0 → Under b.high m.0 → Between (record { low = b.low; high = Some m.0 }) xs → Between (record { low = Some m.0; high = b.high }) ys → Between b (xs ++ m ∷ ys)
Between-join b xs m ys over under front back = record {
  ascends = ascends_join xs m ys front.ascends front.within.under back.within.over back.ascends;
  within = record {
    over = Each-append (λ x. Over b.low x.0) xs (m ∷ ys) front.within.over (over, Each-map (λ (y : Element). Below m.0 y.0) (λ y. Over b.low y.0) ys (λ y above. over_trans b.low m.0 y.0 over above) back.within.over);
    under = Each-append (λ x. Under b.high x.0) xs (m ∷ ys) (Each-map (λ (x : Element). Below x.0 m.0) (λ x. Under b.high x.0) xs (λ x below. under_trans b.high m.0 x.0 under below) front.within.under) (under, back.within.under);
  };
}

-- a leaf's elements were told
pub adds_leaf : (spells : ℕ → Node → Type 0) (height p : ℕ) (b : Bounds) (n : Node) (told : List Element → Type 0) (left left' : ℕ) → height ≡ 1 → spells p n → n.kind ≡ kind_of_level height → 0 < length n.elements.items → Ascends n.elements.items → AreWithin b n.elements.items
    → told n.elements.items → left' + 1 ≡ left → Adds (TreeOf spells 1 1 height p) b told left left'
adds_leaf spells height p b n told left left' is spelled kind some up within took left_is = record {
  es = n.elements.items;
  us = p ∷ [];
  here = subst (λ x. TreeOf spells 1 1 x p n.elements.items (p ∷ [])) (sym is) (n, [], spelled, some, (kind ∙ ap kind_of_level is, refl, refl), refl);
  between = record { ascends = up; within = within };
  added = took;
  fewer = left_is;
}

-- the elements below an inner page were told
pub adds_inner : (spells : ℕ → Node → Type 0) (height h p : ℕ) (b : Bounds) (n : Node) (told : List Element → Type 0) (left one_less left' : ℕ) → suc (suc h) ≡ height → spells p n → n.kind ≡ kind_of_level height → 0 < length n.elements.items → one_less + 1 ≡ left
    → Adds (Fan (TreeOf spells 1 1 (suc h)) n.sons.items n.elements.items) b told one_less left' → Adds (TreeOf spells 1 1 height p) b told left left'
adds_inner spells height h p b n told left one_less left' is spelled kind some left_is adds = record {
  es = adds.es;
  us = p ∷ adds.us;
  here = subst (λ x. TreeOf spells 1 1 x p adds.es (p ∷ adds.us)) is (n, adds.us, spelled, some, (kind ∙ ap kind_of_level (sym is) ∙ kind_above (suc (suc h)) (λ one. absurd (omega (arith, one))), adds.here), refl);
  between = adds.between;
  added = adds.added;
  fewer = omega (arith, adds.fewer);
}

-- a fan of one son
pub last_fan : (tree : Stands) (sons : List ℕ) (els es : List Element) (us : List ℕ) → length els ≡ 0 → length sons ≡ length els + 1 → tree (get_or sons 0 0) es us → Fan tree sons els es us
last_fan tree [] els es us none size here = absurd (omega arith)
last_fan tree (s ∷ []) [] es us none size here = here
last_fan tree (s ∷ []) (e ∷ els) es us none size here = absurd (omega arith)
last_fan tree (s ∷ (t ∷ ss)) els es us none size here = absurd (omega arith)

-- a fan of a first son, the element behind it and the others
pub more_fan : (tree : Stands) (sons : List ℕ) (els xs ys : List Element) (x : Element) (us vs : List ℕ) → 0 < length els → length sons ≡ length els + 1 → x ≡ get_or els 0 x → tree (get_or sons 0 0) xs us → Fan tree (drop 1 sons) (drop 1 els) ys vs → Fan tree sons els (xs ++ x ∷ ys) (us ++ vs)
more_fan tree [] els xs ys x us vs some size is first more = absurd (omega arith)
more_fan tree (s ∷ ss) [] xs ys x us vs some size is first more = absurd (omega arith)
more_fan tree (s ∷ []) (e ∷ els) xs ys x us vs some size is first more = absurd (omega arith)
more_fan tree (s ∷ (t ∷ ss)) (e ∷ els) xs ys x us vs some size is first more = (xs, ys, us, vs, first, more, ap (λ (y : Element). xs ++ y ∷ ys) is, refl)

-- the first element of a page is within its bounds
pub head_within : (b : Bounds) (els : List Element) (x : Element) → 0 < length els → x ≡ get_or els 0 x → Between b els → (Over b.low x.0) × (Under b.high x.0)
head_within b [] x some is between = absurd (omega arith)
head_within b (e ∷ els) x some is between = (subst (λ (y : Element). Over b.low y.0) (sym is) between.within.over.0, subst (λ (y : Element). Under b.high y.0) (sym is) between.within.under.0)

-- those below the first son, an element, and those below the other sons
pub adds_more : (tree : Stands) (sons : List ℕ) (els : List Element) (x : Element) (b : Bounds) (first second all : List Element → Type 0) (l0 l1 l2 : ℕ) → 0 < length els → length sons ≡ length els + 1 → x ≡ get_or els 0 x → Between b els
    → Adds (tree (get_or sons 0 0)) (record { low = b.low; high = Some x.0 }) first l0 l1 → ((xs ys : List Element) → first xs → second ys → all (xs ++ x ∷ ys)) → Adds (Fan tree (drop 1 sons) (drop 1 els)) (record { low = Some x.0; high = b.high }) second l1 l2
    → Adds (Fan tree sons els) b all l0 l2
adds_more tree sons els x b first second all l0 l1 l2 some size is between front join back =
    let bounds = head_within b els x some is between in
    record {
      es = front.es ++ x ∷ back.es;
      us = front.us ++ back.us;
      here = more_fan tree sons els front.es back.es x front.us back.us some size is front.here back.here;
      between = Between-join b front.es x back.es bounds.0 bounds.1 front.between back.between;
      added = join front.es back.es front.added back.added;
      fewer = omega (arith, front.fewer, back.fewer, length-append front.us back.us);
    }

-- the other elements of a page are between its first one and the bounds
pub rest_within : (b : Bounds) (els : List Element) (x : Element) → 0 < length els → x ≡ get_or els 0 x → Between b els → Between (record { low = Some x.0; high = b.high }) (drop 1 els)
rest_within b [] x some is between = absurd (omega arith)
rest_within b (e ∷ els) x some is between = record {
  ascends = between.ascends.1;
  within = record {
    over = subst (λ (y : Element). Each (λ later. Below y.0 later.0) els) (sym is) between.ascends.0;
    under = between.within.under.1;
  };
}

-- what a call says of a son, in the words of the caller
pub leads_below : (k : ℕ) (pages pages2 : PageMap) (key : List ℕ) (low h q s : ℕ) (b b2 : Bounds) (found : Option (List ℕ)) → pages2 ≡ pages → low ≡ suc h → q ≡ s → b2 ≡ b → Leads (Spells k pages2) key low q b2 found → Leads (Spells k pages) key (suc h) s b found
leads_below k pages pages2 key low h q s b b2 found pages_is low_is q_is b_is leads =
    subst (λ (x : PageMap). Leads (Spells k x) key (suc h) s b found) pages_is
    (subst (λ (x : ℕ). Leads (Spells k pages2) key x s b found) low_is
    (subst (λ (x : ℕ). Leads (Spells k pages2) key low x b found) q_is (subst (λ (x : Bounds). Leads (Spells k pages2) key low q x found) b_is leads)))

-- the elements below a page that were told
pub adds_below : (k : ℕ) (pages pages2 : PageMap) (low h : ℕ) (sons sons2 : List ℕ) (els els2 : List Element) (b : Bounds) (told : List Element → Type 0) (left left' : ℕ) → pages2 ≡ pages → low ≡ h → sons2 ≡ sons → els2 ≡ els
    → Adds (Fan (TreeOf (Spells k pages2) 1 1 low) sons2 els2) b told left left' → Adds (Fan (TreeOf (Spells k pages) 1 1 h) sons els) b told left left'
adds_below k pages pages2 low h sons sons2 els els2 b told left left' pages_is low_is sons_is els_is adds =
    subst (λ (x : PageMap). Adds (Fan (TreeOf (Spells k x) 1 1 h) sons els) b told left left') pages_is
    (subst (λ (x : ℕ). Adds (Fan (TreeOf (Spells k pages2) 1 1 x) sons els) b told left left') low_is
    (subst (λ (x : List ℕ). Adds (Fan (TreeOf (Spells k pages2) 1 1 low) x els) b told left left') sons_is
    (subst (λ (x : List Element). Adds (Fan (TreeOf (Spells k pages2) 1 1 low) sons2 x) b told left left') els_is adds)))
