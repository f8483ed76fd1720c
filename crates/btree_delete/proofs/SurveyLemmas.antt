-- What a walk that looks at each page once has seen.
use Rattle.std.proofs.Common.{◌≡◌, ℕ, zero, suc, ◌+◌, ◌-◌, ◌<◌, ◌≤◌, ◌⊎◌, inl, inr, Bool, true, false, Option, Some, None, Result, Ok, Err, MatchResult, List, [], ◌∷◌, ◌++◌, length, get_or, set, drop, refl, ap, sym, ◌∙◌, subst, arith, length-append}
use Rattle.std.proofs.lemmas.List.{get_or_default}
use Rattle.rec_types.specs.Table.{counted}
use Rattle.page_store.specs.PageMap.{PageMap}
use Rattle.page_store.specs.Calls.{counted_times}
use Rattle.btree_node.specs.declared.node.Node.{Node}
use Rattle.btree_node.specs.declared.node.NodeKind.TheVariants.{Leaf, Inner}
use Rattle.btree_node.specs.Lists.{Element}
use Rattle.btree_insert.specs.declared.bounds.Bounds.{Bounds}
use Rattle.btree_insert.specs.Bounds.{Over, Under, AreWithin, Between}
use Rattle.btree_insert.specs.PageTrees.{SpellsIn, Body, TreeIn}
use Rattle.btree_node.specs.declared.layout.Layout.{Layout}
use Rattle.btree_insert.proofs.BoundLemmas.{Between-left, Between-right}
use Rattle.btree_insert.proofs.ReachLemmas.{Between-join, last_fan, more_fan, head_within}
use Rattle.btree_insert.proofs.HeadNodeLemmas.{body_each}
use Rattle.btree_insert.proofs.SonsLemmas.{fan_last, fan_first}
use Rattle.btree_delete.specs.Survey.{SeenSoFar, mark, AreUnvisited, unreached, seen_past, below_page, below_sons, Sound, Surveyed, allowed}

-- one more page was reached
pub unreached_set : (bits : List Bool) (n : ℕ) → get_or bits n true ≡ false → unreached (set bits n true) + 1 ≡ unreached bits
unreached_set [] n is = absurd (cc)
unreached_set (true ∷ bits) zero is = absurd (cc)
unreached_set (false ∷ bits) zero is = omega arith
unreached_set (true ∷ bits) (suc n) is = unreached_set bits n is
unreached_set (false ∷ bits) (suc n) is = let rest = unreached_set bits n is in omega arith

-- marking two lists of pages, one after the other
pub mark-append : (us vs : List ℕ) (bits : List Bool) → mark (us ++ vs) bits ≡ mark vs (mark us bits)
mark-append [] vs bits = refl
mark-append (u ∷ us) vs bits = mark-append us vs (set bits u true)

-- the first of two unvisited lists is unvisited
pub unvisited-left : (us vs : List ℕ) (bits : List Bool) → AreUnvisited (us ++ vs) bits → AreUnvisited us bits
unvisited-left [] vs bits unvisited = tt
unvisited-left (u ∷ us) vs bits unvisited = (unvisited.0, unvisited-left us vs (set bits u true) unvisited.1)

-- the second is, once the first is marked
pub unvisited-right : (us vs : List ℕ) (bits : List Bool) → AreUnvisited (us ++ vs) bits → AreUnvisited vs (mark us bits)
unvisited-right [] vs bits unvisited = unvisited
unvisited-right (u ∷ us) vs bits unvisited = unvisited-right us vs (set bits u true) unvisited.1

-- and both together are
pub unvisited-append : (us vs : List ℕ) (bits : List Bool) → AreUnvisited us bits → AreUnvisited vs (mark us bits) → AreUnvisited (us ++ vs) bits
unvisited-append [] vs bits front back = back
unvisited-append (u ∷ us) vs bits front back = (front.0, unvisited-append us vs (set bits u true) front.1 back)

-- one call counted first or last
pub counted_before : (n calls : ℕ) → counted_times (counted n true) calls ≡ counted (counted_times n calls) true
counted_before n zero = refl
counted_before n (suc calls) = ap (λ (x : ℕ). counted x true) (counted_before n calls)

counted_both : (n a b : ℕ) → counted_times n (a + b) ≡ counted_times (counted_times n a) b
counted_both n a zero = ap (counted_times n) (same a)
  where
    same : (a : ℕ) → a + 0 ≡ a
    same a = omega arith
counted_both n a (suc b) = ap (counted_times n) (next a b) ∙ ap (λ (x : ℕ). counted x true) (counted_both n a b)
  where
    next : (a b : ℕ) → a + suc b ≡ suc (a + b)
    next a b = omega arith

-- the trees below two neighbours, with the key between them
abbrev pub with_key : SeenSoFar → SeenSoFar
with_key s = record s { keys = s.keys + 1 }

add_up : (k : ℕ) (xs : List Element) (e : Element) (ys : List Element) → k + length (xs ++ e ∷ ys) ≡ ((k + length xs) + 1) + length ys
add_up k xs e ys = let size = length-append xs (e ∷ ys) in omega arith

after_both : (level : ℕ) (xs : List Element) (e : Element) (ys : List Element) (us vs : List ℕ) (s : SeenSoFar) → seen_past level (xs ++ e ∷ ys) (us ++ vs) s ≡ seen_past level ys vs (with_key (seen_past level xs us s))
after_both level xs e ys us vs s = λ i. record {
  reached = mark-append us vs s.reached i;
  leaf = Some level;
  keys = add_up s.keys xs e ys i;
}

leaf_one : (leaf : Option ℕ) (first level : ℕ) → leaf ≡ Some first → (leaf ≡ None) ⊎ (leaf ≡ Some level) → first ≡ level
leaf_one leaf first level is (inl none) = absurd (cc)
leaf_one leaf first level is (inr some) = let same : Some first ≡ Some level = sym is ∙ some in some_one first level same
  where
    some_one : (x y : ℕ) → Some x ≡ Some y → x ≡ y
    some_one x y same = cc

-- what is seen with a leaf at a level and its keys
abbrev pub with_leaf : ℕ → ℕ → SeenSoFar → SeenSoFar
with_leaf level keys s = record { reached = s.reached; leaf = Some level; keys = s.keys + keys }

-- a leaf was gone through
pub leaf_found : (layout : Layout) (k : ℕ) (pages : PageMap) (least left p : ℕ) (b : Bounds) (n : Node) (old reached new : SeenSoFar) (reads reads' : ℕ) → SpellsIn layout k pages p n → n.kind ≡ Leaf → least ≤ length n.elements.items → AreWithin b n.elements.items
    → get_or old.reached p true ≡ false → reached ≡ record old { reached = set old.reached p true } → (reached.leaf ≡ None) ⊎ (reached.leaf ≡ Some left)
    → new ≡ record { reached = reached.reached; leaf = Some left; keys = reached.keys + length n.elements.items } → reads' ≡ counted reads true
    → Surveyed (below_page layout k pages least p) (allowed left b) old new reads reads'
leaf_found layout k pages least left p b n old reached new reads reads' spelled kind some within unvisited reached_is leaf new_is read = record {
  h = 0;
  level = left;
  es = n.elements.items;
  us = p ∷ [];
  sound = record {
    stands = (n, [], spelled, some, (kind, refl, refl), refl);
    levels = omega arith;
    between = record { ascends = spelled.stands.ascends; within = within };
    unvisited = (unvisited, tt);
    leaf = subst (λ (s : SeenSoFar). (s.leaf ≡ None) ⊎ (s.leaf ≡ Some left)) reached_is leaf;
  };
  is = new_is ∙ ap (with_leaf left (length n.elements.items)) reached_is;
  read = read;
}

-- an inner page was gone through
pub inner_found : (layout : Layout) (k : ℕ) (pages : PageMap) (least left p : ℕ) (b : Bounds) (n : Node) (old reached new : SeenSoFar) (reads reads1 reads' : ℕ) → SpellsIn layout k pages p n → n.kind ≡ Inner → least ≤ length n.elements.items → 0 < left
    → get_or old.reached p true ≡ false → reached ≡ record old { reached = set old.reached p true } → reads1 ≡ counted reads true
    → Surveyed (below_sons layout k pages n.sons.items n.elements.items) (allowed (left - 1) b) reached new reads1 reads' → Surveyed (below_page layout k pages least p) (allowed left b) old new reads reads'
inner_found layout k pages least left p b n old reached new reads reads1 reads' spelled kind some room unvisited reached_is one sub = record {
  h = suc sub.h;
  level = sub.level;
  es = sub.es;
  us = p ∷ sub.us;
  sound = record {
    stands = (n, sub.us, spelled, some, (kind, sub.sound.stands), refl);
    levels = omega (arith, sub.sound.levels);
    between = sub.sound.between;
    unvisited = (unvisited, subst (λ (s : SeenSoFar). AreUnvisited sub.us s.reached) reached_is sub.sound.unvisited);
    leaf = subst (λ (s : SeenSoFar). (s.leaf ≡ None) ⊎ (s.leaf ≡ Some sub.level)) reached_is sub.sound.leaf;
  };
  is = sub.is ∙ ap (λ (s : SeenSoFar). seen_past sub.level sub.es sub.us s) reached_is;
  read = sub.read ∙ ap (λ (r : ℕ). counted_times r (length sub.us)) one ∙ counted_before reads (length sub.us);
}

-- the page at the head of a tree
pub record Head (layout : Layout) (k : ℕ) (pages : PageMap) (least left p : ℕ) (b : Bounds) (old : SeenSoFar) (h level : ℕ) (es : List Element) (us : List ℕ) (n : Node) : Type 0 where
  pub below : List ℕ
  pub spells : SpellsIn layout k pages p n
  pub some : least ≤ length n.elements.items
  pub within : AreWithin b n.elements.items
  pub body : Body (TreeIn layout k pages k h) h n es below
  pub us_is : us ≡ p ∷ below
  pub here : get_or old.reached p true ≡ false
  pub rest : AreUnvisited below (set old.reached p true)

-- the node at the head of a tree that a survey goes through
pub head : (layout : Layout) (k : ℕ) (pages : PageMap) (least left p : ℕ) (b : Bounds) (old : SeenSoFar) (h level : ℕ) (es : List Element) (us : List ℕ) → Sound (below_page layout k pages least p) (allowed left b) old h level es us
    → (n : Node) × Head layout k pages least left p b old h level es us n
head layout k pages least left p b old h level es us sound =
    let (n, below, spells, some, body, us_is) = sound.stands in
    let unvisited = subst (λ (vs : List ℕ). AreUnvisited vs old.reached) us_is sound.unvisited in (
      n,
      record {
        below = below;
        spells = spells;
        some = some;
        within = record {
          over = body_each (λ e. Over b.low e.0) (TreeIn layout k pages k h) h n es below body sound.between.within.over;
          under = body_each (λ e. Under b.high e.0) (TreeIn layout k pages k h) h n es below body sound.between.within.under;
        };
        body = body;
        us_is = us_is;
        here = unvisited.0;
        rest = unvisited.1;
      },
    )

-- what a leaf comes to
pub leaf_exact : (layout : Layout) (k : ℕ) (pages : PageMap) (least left p : ℕ) (b : Bounds) (n : Node) (old : SeenSoFar) (h level : ℕ) (es : List Element) (us : List ℕ) → n.kind ≡ Leaf → Sound (below_page layout k pages least p) (allowed left b) old h level es us → Head layout k pages least left p b old h level es us n
    → (level ≡ left) × (es ≡ n.elements.items) × (us ≡ p ∷ [])
leaf_exact layout k pages least left p b n old zero level es us kind sound top = (omega (arith, sound.levels), top.body.1, top.us_is ∙ ap (λ vs. p ∷ vs) top.body.2)
leaf_exact layout k pages least left p b n old (suc h) level es us kind sound top = absurd (let same = sym kind ∙ top.body.0 in cc)

-- what is seen after a leaf
pub leaf_after : (level left p : ℕ) (n : Node) (es : List Element) (us : List ℕ) (old reached new : SeenSoFar) → level ≡ left → es ≡ n.elements.items → us ≡ p ∷ [] → reached ≡ record old { reached = set old.reached p true }
    → new ≡ record { reached = reached.reached; leaf = Some left; keys = reached.keys + length n.elements.items } → new ≡ seen_past level es us old
leaf_after level left p n es us old reached new level_is es_is us_is reached_is new_is =
    new_is ∙ ap (with_leaf left (length n.elements.items)) reached_is
    ∙ ap (λ (l : ℕ). seen_past l n.elements.items (p ∷ []) old) (sym level_is) ∙ ap (λ (xs : List Element). seen_past level xs (p ∷ []) old) (sym es_is) ∙ ap (λ (vs : List ℕ). seen_past level es vs old) (sym us_is)

-- what the sons of an inner page come to
pub record Down (layout : Layout) (k : ℕ) (pages : PageMap) (left p : ℕ) (b : Bounds) (n : Node) (old reached : SeenSoFar) (h level : ℕ) (es : List Element) (us : List ℕ) : Type 0 where
  pub below : List ℕ
  pub h1 : ℕ
  pub some : 0 < left
  pub sound : Sound (below_sons layout k pages n.sons.items n.elements.items) (allowed (left - 1) b) reached h1 level es below
  pub back : (new : SeenSoFar) → new ≡ seen_past level es below reached → new ≡ seen_past level es us old

-- an inner page whose sons were gone through
pub inner_exact : (layout : Layout) (k : ℕ) (pages : PageMap) (least left p : ℕ) (b : Bounds) (n : Node) (old reached : SeenSoFar) (h level : ℕ) (es : List Element) (us : List ℕ) → n.kind ≡ Inner → reached ≡ record old { reached = set old.reached p true }
    → Sound (below_page layout k pages least p) (allowed left b) old h level es us → Head layout k pages least left p b old h level es us n → Down layout k pages left p b n old reached h level es us
inner_exact layout k pages least left p b n old reached zero level es us kind reached_is sound top = absurd (let same = sym kind ∙ top.body.0 in cc)
inner_exact layout k pages least left p b n old reached (suc h) level es us kind reached_is sound top = record {
  below = top.below;
  h1 = h;
  some = omega (arith, sound.levels);
  sound = record {
    stands = top.body.1;
    levels = omega (arith, sound.levels);
    between = sound.between;
    unvisited = subst (λ (s : SeenSoFar). AreUnvisited top.below s.reached) (sym reached_is) top.rest;
    leaf = subst (λ (s : SeenSoFar). (s.leaf ≡ None) ⊎ (s.leaf ≡ Some level)) (sym reached_is) sound.leaf;
  };
  back = λ new is. is ∙ ap (λ (s : SeenSoFar). seen_past level es top.below s) reached_is ∙ ap (λ (vs : List ℕ). seen_past level es vs old) (sym top.us_is);
}

-- the last son was gone through
pub last_found : (layout : Layout) (k : ℕ) (pages : PageMap) (left : ℕ) (b : Bounds) (sons : List ℕ) (els : List Element) (old new : SeenSoFar) (reads reads' : ℕ) → length els ≡ 0 → length sons ≡ length els + 1
    → Surveyed (below_page layout k pages k (get_or sons 0 0)) (allowed left b) old new reads reads' → Surveyed (below_sons layout k pages sons els) (allowed left b) old new reads reads'
last_found layout k pages left b sons els old new reads reads' none size sub = record {
  h = sub.h;
  level = sub.level;
  es = sub.es;
  us = sub.us;
  sound = record {
    stands = last_fan (TreeIn layout k pages k (suc sub.h)) sons els sub.es sub.us none size sub.sound.stands;
    levels = sub.sound.levels;
    between = sub.sound.between;
    unvisited = sub.sound.unvisited;
    leaf = sub.sound.leaf;
  };
  is = sub.is;
  read = sub.read;
}

-- the last son gone through
pub last_exact : (layout : Layout) (k : ℕ) (pages : PageMap) (left : ℕ) (b : Bounds) (sons : List ℕ) (els : List Element) (old : SeenSoFar) (h level : ℕ) (es : List Element) (us : List ℕ) → length els ≡ 0
    → Sound (below_sons layout k pages sons els) (allowed left b) old h level es us → Sound (below_page layout k pages k (get_or sons 0 0)) (allowed left b) old h level es us
last_exact layout k pages left b sons els old h level es us none sound = record {
  stands = fan_last (TreeIn layout k pages k (suc h)) sons els es us none sound.stands;
  levels = sound.levels;
  between = sound.between;
  unvisited = sound.unvisited;
  leaf = sound.leaf;
}

-- the first son, the key behind it and the other sons were gone through
pub more_found : (layout : Layout) (k : ℕ) (pages : PageMap) (left : ℕ) (b : Bounds) (sons : List ℕ) (els : List Element) (x : Element) (old first second new : SeenSoFar) (r0 r1 r2 : ℕ) → 0 < length els → length sons ≡ length els + 1 → x ≡ get_or els 0 x → Between b els
    → Surveyed (below_page layout k pages k (get_or sons 0 0)) (allowed left (record { low = b.low; high = Some x.0 })) old first r0 r1 → second ≡ record first { keys = first.keys + 1 }
    → Surveyed (below_sons layout k pages (drop 1 sons) (drop 1 els)) (allowed left (record { low = Some x.0; high = b.high })) second new r1 r2 → Surveyed (below_sons layout k pages sons els) (allowed left b) old new r0 r2
more_found layout k pages left b sons els x old first second new r0 r1 r2 some size x_is between front one back =
    let bounds = head_within b els x some x_is between in
    let leaf_is : second.leaf ≡ Some front.level = ap (λ (s : SeenSoFar). s.leaf) one ∙ ap (λ (s : SeenSoFar). s.leaf) front.is in
    let level_is : front.level ≡ back.level = leaf_one second.leaf front.level back.level leaf_is back.sound.leaf in
    let h_is : front.h ≡ back.h = omega (arith, level_is, front.sound.levels, back.sound.levels) in
    let second_is : second ≡ with_key (seen_past back.level front.es front.us old) = one ∙ ap with_key (front.is ∙ ap (λ (l : ℕ). seen_past l front.es front.us old) level_is) in
    record {
      h = back.h;
      level = back.level;
      es = front.es ++ x ∷ back.es;
      us = front.us ++ back.us;
      sound = record {
        stands = more_fan (TreeIn layout k pages k (suc back.h)) sons els front.es back.es x front.us back.us some size x_is (subst (λ (y : ℕ). TreeIn layout k pages k (suc y) (get_or sons 0 0) front.es front.us) h_is front.sound.stands) back.sound.stands;
        levels = back.sound.levels;
        between = Between-join b front.es x back.es bounds.0 bounds.1 front.sound.between back.sound.between;
        unvisited = unvisited-append front.us back.us old.reached front.sound.unvisited (subst (λ (s : SeenSoFar). AreUnvisited back.us s.reached) second_is back.sound.unvisited);
        leaf = subst (λ (l : ℕ). (old.leaf ≡ None) ⊎ (old.leaf ≡ Some l)) level_is front.sound.leaf;
      };
      is = back.is ∙ ap (λ (s : SeenSoFar). seen_past back.level back.es back.us s) second_is ∙ sym (after_both back.level front.es x back.es front.us back.us old);
      read = back.read ∙ ap (λ (r : ℕ). counted_times r (length back.us)) front.read ∙ sym (counted_both r0 (length front.us) (length back.us)) ∙ ap (counted_times r0) (both_long front.us back.us);
    }
  where
    both_long : (us vs : List ℕ) → length us + length vs ≡ length (us ++ vs)
    both_long us vs = let size = length-append us vs in omega arith

-- the first son of several, and the others
pub record Apiece (layout : Layout) (k : ℕ) (pages : PageMap) (left : ℕ) (b : Bounds) (sons : List ℕ) (els : List Element) (x : Element) (old : SeenSoFar) (h level : ℕ) (es : List Element) (us : List ℕ) : Type 0 where
  pub xs : List Element
  pub ys : List Element
  pub here : List ℕ
  pub rest : List ℕ
  pub first : Sound (below_page layout k pages k (get_or sons 0 0)) (allowed left (record { low = b.low; high = Some x.0 })) old h level xs here
  pub more : (reached second : SeenSoFar) → reached ≡ seen_past level xs here old → second ≡ record reached { keys = reached.keys + 1 }
      → Sound (below_sons layout k pages (drop 1 sons) (drop 1 els)) (allowed left (record { low = Some x.0; high = b.high })) second h level ys rest
  pub back : (reached second new : SeenSoFar) → reached ≡ seen_past level xs here old → second ≡ record reached { keys = reached.keys + 1 } → new ≡ seen_past level ys rest second → new ≡ seen_past level es us old

-- one more son gone through, and those behind it
pub more_exact : (layout : Layout) (k : ℕ) (pages : PageMap) (left : ℕ) (b : Bounds) (sons : List ℕ) (els : List Element) (x : Element) (old : SeenSoFar) (h level : ℕ) (es : List Element) (us : List ℕ) → 0 < length els → x ≡ get_or els 0 x
    → Sound (below_sons layout k pages sons els) (allowed left b) old h level es us → Apiece layout k pages left b sons els x old h level es us
more_exact layout k pages left b sons els x old h level es us some x_is sound =
    let one = fan_first (TreeIn layout k pages k (suc h)) sons els es us some sound.stands in
    let es_is = one.es_is x x_is in
    let between = subst (Between b) es_is sound.between in
    let unvisited = subst (λ (vs : List ℕ). AreUnvisited vs old.reached) one.us_is sound.unvisited in
    record {
      xs = one.xs;
      ys = one.ys;
      here = one.here;
      rest = one.rest;
      first = record {
        stands = one.first;
        levels = sound.levels;
        between = Between-left b one.xs x one.ys between;
        unvisited = unvisited-left one.here one.rest old.reached unvisited;
        leaf = sound.leaf;
      };
      more = λ reached second reached_is second_is. record {
        stands = one.more;
        levels = sound.levels;
        between = Between-right b one.xs x one.ys between;
        unvisited = subst (λ (s : SeenSoFar). AreUnvisited one.rest s.reached) (sym (second_is ∙ ap with_key reached_is)) (unvisited-right one.here one.rest old.reached unvisited);
        leaf = inr (ap (λ (s : SeenSoFar). s.leaf) second_is ∙ ap (λ (s : SeenSoFar). s.leaf) reached_is);
      };
      back = λ reached second new reached_is second_is new_is.
          new_is ∙ ap (λ (s : SeenSoFar). seen_past level one.ys one.rest s) (second_is ∙ ap with_key reached_is) ∙ sym (after_both level one.xs x one.ys one.here one.rest old)
          ∙ ap (λ (zs : List Element). seen_past level zs (one.here ++ one.rest) old) (sym es_is) ∙ ap (λ (vs : List ℕ). seen_past level es vs old) (sym one.us_is);
    }

-- what a call says of sons, in the words of the caller
pub sons_found : (layout : Layout) (k : ℕ) (pages pages2 : PageMap) (sons sons2 : List ℕ) (els els2 : List Element) (left : ℕ) (b : Bounds) (old new : SeenSoFar) (r r' : ℕ) → pages2 ≡ pages → sons2 ≡ sons → els2 ≡ els
    → Surveyed (below_sons layout k pages2 sons2 els2) (allowed left b) old new r r' → Surveyed (below_sons layout k pages sons els) (allowed left b) old new r r'
sons_found layout k pages pages2 sons sons2 els els2 left b old new r r' pages_is sons_is els_is sub =
    subst (λ (x : PageMap). Surveyed (below_sons layout k x sons els) (allowed left b) old new r r') pages_is
    (subst (λ (x : List ℕ). Surveyed (below_sons layout k pages2 x els) (allowed left b) old new r r') sons_is (subst (λ (x : List Element). Surveyed (below_sons layout k pages2 sons2 x) (allowed left b) old new r r') els_is sub))

-- sons said another way
pub sons_sound : (layout : Layout) (k : ℕ) (pages pages2 : PageMap) (sons sons2 : List ℕ) (els els2 : List Element) (left : ℕ) (b : Bounds) (old : SeenSoFar) (h level : ℕ) (es : List Element) (us : List ℕ) → pages2 ≡ pages → sons2 ≡ sons → els2 ≡ els
    → Sound (below_sons layout k pages sons els) (allowed left b) old h level es us → Sound (below_sons layout k pages2 sons2 els2) (allowed left b) old h level es us
sons_sound layout k pages pages2 sons sons2 els els2 left b old h level es us pages_is sons_is els_is sub =
    subst (λ (x : PageMap). Sound (below_sons layout k x sons2 els2) (allowed left b) old h level es us) (sym pages_is)
    (subst (λ (x : List ℕ). Sound (below_sons layout k pages x els2) (allowed left b) old h level es us) (sym sons_is) (subst (λ (x : List Element). Sound (below_sons layout k pages sons x) (allowed left b) old h level es us) (sym els_is) sub))

-- what follows from an answer
pub match_ok : {E : Type 0} (r : Result (Unit {0}) E) (A B : Type 0) (F : E → Type 0) → (A → B) → MatchResult r (λ _. A) F → MatchResult r (λ _. B) F
match_ok (Ok x) A B F follows is = follows is
match_ok (Err e) A B F follows is = is

-- a flag that reads false is of a page that wasn't reached
pub not_reached : (bits : List Bool) (n : ℕ) (r : Bool) → n < length bits → r ≡ get_or bits n r → r ≡ false → get_or bits n true ≡ false
not_reached bits n r low is no_one = get_or_default bits n true r low ∙ sym is ∙ no_one
