-- One son of a page and what stands beside it.
use Rattle.std.proofs.Common.{◌≡◌, ℕ, zero, suc, ◌<◌, Some, List, [], ◌∷◌, ◌++◌, length, get_or, set, refl, ap, sym, ◌∙◌, subst, arith, append_assoc, append-nil}
use Rattle.std.specs.List.{insert}
use Rattle.btree_node.specs.Lists.{Element, Each, Below, Ascends, IsAt, IsPlace}
use Rattle.btree_node.proofs.ElementOrderLemmas.{Each-append, Each-left, Each-right, Each-map, Below-trans, Ascends-right}
use Rattle.btree_insert.specs.declared.bounds.Bounds.{Bounds}
use Rattle.btree_insert.specs.Bounds.{Between, son_bounds}
use Rattle.btree_insert.specs.PageTrees.{Fan}
use Rattle.btree_insert.proofs.BoundLemmas.{Ascends-before, Between-left, Between-right}

-- what a page number stands for, by elements and page numbers
abbrev pub Stands : Type 1
Stands = ℕ → List Element → List ℕ → Type 0

-- a fan is carried from one family to another son by son
pub fan_move : (tree new : Stands) (Same : ℕ → Type 0) → ((s : ℕ) (xs : List Element) (us : List ℕ) → tree s xs us → Each Same us → new s xs us)
    → (sons : List ℕ) (els es : List Element) (us : List ℕ) → Fan tree sons els es us → Each Same us → Fan new sons els es us
fan_move tree new Same move [] els es us fan same = absurd fan
fan_move tree new Same move (s ∷ []) [] es us fan same = move s es us fan same
fan_move tree new Same move (s ∷ []) (e ∷ els) es us fan same = absurd fan
fan_move tree new Same move (s ∷ (t ∷ ss)) [] es us fan same = absurd fan
fan_move tree new Same move (s ∷ (t ∷ ss)) (e ∷ els) es us (xs, ys, here, rest, first, more, es_is, us_is) same =
    let apart = subst (Each Same) us_is same in
    (xs, ys, here, rest, move s xs here first (Each-left Same here rest apart), fan_move tree new Same move (t ∷ ss) els ys rest more (Each-right Same here rest apart), es_is, us_is)

-- the place of a key among the elements of a page, its son, and what stands before and behind it
pub record Focus (tree new : Stands) (Same : ℕ → Type 0) (sons : List ℕ) (els es : List Element) (us : List ℕ) (key : List ℕ) (i : ℕ) (b : Bounds) : Type 0 where
  pub xs : List Element
  pub mine : List ℕ
  pub pre : List Element
  pub post : List Element
  pub upre : List ℕ
  pub upost : List ℕ
  pub within : i < length sons
  pub here : tree (get_or sons i 0) xs mine
  pub es_is : es ≡ pre ++ (xs ++ post)
  pub us_is : us ≡ upre ++ (mine ++ upost)
  pub below : Each (λ e. Below e.0 key) pre
  pub above : Each (λ e. Below key e.0) post
  pub between : Between (son_bounds els i b) xs
  pub keep : Each Same upre → Each Same upost → (ys : List Element) (vs : List ℕ) → new (get_or sons i 0) ys vs → Fan new sons els (pre ++ (ys ++ post)) (upre ++ (vs ++ upost))
  pub split : Each Same upre → Each Same upost → (ys : List Element) (vs : List ℕ) (e : Element) (r : ℕ) (zs : List Element) (ws : List ℕ) → new (get_or sons i 0) ys vs → new r zs ws
      → Fan new (insert sons (suc i) r) (insert els i e) (pre ++ ((ys ++ e ∷ zs) ++ post)) (upre ++ ((vs ++ ws) ++ upost))

-- nothing behind a son's elements and pages
pub nil2 : (new : Stands) (s : ℕ) (ys : List Element) (vs : List ℕ) → new s ys vs → new s (ys ++ []) (vs ++ [])
nil2 new s ys vs is =
    subst (λ (ws : List ℕ). new s (ys ++ []) ws) (sym (append-nil vs)) (subst (λ (zs : List Element). new s zs vs) (sym (append-nil ys)) is)

regroup_split : (ys : List Element) (e : Element) (zs : List Element) (x : Element) (rest : List Element) → (ys ++ e ∷ zs) ++ x ∷ rest ≡ ys ++ e ∷ (zs ++ x ∷ rest)
regroup_split ys e zs x rest = append_assoc ys (e ∷ zs) (x ∷ rest)

-- elements grouped another way
pub regroup_pre : (xs : List Element) (e : Element) (pre mid : List Element) → (xs ++ e ∷ pre) ++ mid ≡ xs ++ e ∷ (pre ++ mid)
regroup_pre xs e pre mid = append_assoc xs (e ∷ pre) mid

above_rest : (key : List ℕ) (e : Element) (ys : List Element) → Below key e.0 → Each (λ later. Below e.0 later.0) ys → Each (λ x. Below key x.0) ys
above_rest key e ys above up = Each-map (λ (later : Element). Below e.0 later.0) (λ later. Below key later.0) ys (λ later over. Below-trans key e.0 later.0 above over) up

-- a key above an element is above those below it
pub below_rest : (key : List ℕ) (e : Element) (xs : List Element) → Below e.0 key → Each (λ x. Below x.0 e.0) xs → Each (λ x. Below x.0 key) xs
below_rest key e xs below up = Each-map (λ (x : Element). Below x.0 e.0) (λ x. Below x.0 key) xs (λ x under. Below-trans x.0 e.0 key under below) up

-- one son among the others, by the place of a key
pub focus : (tree new : Stands) (Same : ℕ → Type 0) → ((s : ℕ) (xs : List Element) (us : List ℕ) → tree s xs us → Each Same us → new s xs us)
    → (sons : List ℕ) (els es : List Element) (us : List ℕ) (key : List ℕ) (i : ℕ) (b : Bounds) → Fan tree sons els es us → Between b es → IsPlace els key i → Focus tree new Same sons els es us key i b
focus tree new Same move [] els es us key i b fan between place = absurd fan
focus tree new Same move (s ∷ []) (e ∷ els) es us key i b fan between place = absurd fan
focus tree new Same move (s ∷ (t ∷ ss)) [] es us key i b fan between place = absurd fan
focus tree new Same move (s ∷ []) [] es us key (suc i) b fan between place = absurd (omega (arith, place.within))
focus tree new Same move (s ∷ []) [] es us key zero b fan between place = record {
  xs = es;
  mine = us;
  pre = [];
  post = [];
  upre = [];
  upost = [];
  within = omega arith;
  here = fan;
  es_is = sym (append-nil es);
  us_is = sym (append-nil us);
  below = tt;
  above = tt;
  between = between;
  keep = λ _ _ ys vs is. nil2 new s ys vs is;
  split = λ _ _ ys vs e r zs ws left right. (ys, zs, vs, ws, left, right, append-nil (ys ++ e ∷ zs), append-nil (vs ++ ws));
}
focus tree new Same move (s ∷ (t ∷ ss)) (e ∷ els) es us key zero b (xs, ys, here, rest, first, more, es_is, us_is) between place =
    let bounded = subst (Between b) es_is between in
    let up = Ascends-right xs (e ∷ ys) bounded.ascends in
    record {
      xs = xs;
      mine = here;
      pre = [];
      post = e ∷ ys;
      upre = [];
      upost = rest;
      within = omega arith;
      here = first;
      es_is = es_is;
      us_is = us_is;
      below = tt;
      above = (place.above.0, above_rest key e ys place.above.0 up.0);
      between = Between-left b xs e ys bounded;
      keep = λ _ same zs vs is. (zs, ys, vs, rest, is, fan_move tree new Same move (t ∷ ss) els ys rest more same, refl, refl);
      split = λ _ same zs vs x r ws ts left right.
          (zs, ws ++ e ∷ ys, vs, ts ++ rest, left, (ws, ys, ts, rest, right, fan_move tree new Same move (t ∷ ss) els ys rest more same, refl, refl), regroup_split zs x ws e ys, append_assoc vs ts rest);
    }
focus tree new Same move (s ∷ (t ∷ ss)) (e ∷ els) es us key (suc i) b (xs, ys, here, rest, first, more, es_is, us_is) between place =
    let bounded = subst (Between b) es_is between in
    let inner : IsPlace els key i = record { within = omega (arith, place.within); below = place.below.1; above = place.above } in
    let sub = focus tree new Same move (t ∷ ss) els ys rest key i (record { low = Some e.0; high = b.high }) more (Between-right b xs e ys bounded) inner in
    record {
      xs = sub.xs;
      mine = sub.mine;
      pre = xs ++ e ∷ sub.pre;
      post = sub.post;
      upre = here ++ sub.upre;
      upost = sub.upost;
      within = omega (arith, sub.within);
      here = sub.here;
      es_is = es_is ∙ ap (λ zs. xs ++ e ∷ zs) sub.es_is ∙ sym (regroup_pre xs e sub.pre (sub.xs ++ sub.post));
      us_is = us_is ∙ ap (λ vs. here ++ vs) sub.us_is ∙ sym (append_assoc here sub.upre (sub.mine ++ sub.upost));
      below = Each-append (λ x. Below x.0 key) xs (e ∷ sub.pre) (below_rest key e xs place.below.0 (Ascends-before xs e ys bounded.ascends)) (place.below.0, sub.below);
      above = sub.above;
      between = sub.between;
      keep = λ before behind zs vs is. (
        xs,
        sub.pre ++ (zs ++ sub.post),
        here,
        sub.upre ++ (vs ++ sub.upost),
        move s xs here first (Each-left Same here sub.upre before),
        sub.keep (Each-right Same here sub.upre before) behind zs vs is,
        regroup_pre xs e sub.pre (zs ++ sub.post),
        append_assoc here sub.upre (vs ++ sub.upost),
      );
      split = λ before behind zs vs x r ws ts left right. (
        xs,
        sub.pre ++ ((zs ++ x ∷ ws) ++ sub.post),
        here,
        sub.upre ++ ((vs ++ ts) ++ sub.upost),
        move s xs here first (Each-left Same here sub.upre before),
        sub.split (Each-right Same here sub.upre before) behind zs vs x r ws ts left right,
        regroup_pre xs e sub.pre ((zs ++ x ∷ ws) ++ sub.post),
        append_assoc here sub.upre ((vs ++ ts) ++ sub.upost),
      );
    }

-- an element of a page, and what stands before and behind it
pub record Spot (tree new : Stands) (Same : ℕ → Type 0) (sons : List ℕ) (els es : List Element) (us : List ℕ) (key : List ℕ) (i : ℕ) (x : Element) : Type 0 where
  pub pre : List Element
  pub post : List Element
  pub es_is : es ≡ pre ++ x ∷ post
  pub below : Each (λ e. Below e.0 key) pre
  pub put : Each Same us → (y : Element) → Fan new sons (set els i y) (pre ++ y ∷ post) us

-- one element among the others, by its place
pub spot : (tree new : Stands) (Same : ℕ → Type 0) → ((s : ℕ) (xs : List Element) (us : List ℕ) → tree s xs us → Each Same us → new s xs us)
    → (sons : List ℕ) (els es : List Element) (us : List ℕ) (key : List ℕ) (i : ℕ) (x : Element) → Fan tree sons els es us → Ascends es → IsAt els key i → x ≡ get_or els i x → Spot tree new Same sons els es us key i x
spot tree new Same move [] els es us key i x fan up place is = absurd fan
spot tree new Same move (s ∷ []) (e ∷ els) es us key i x fan up place is = absurd fan
spot tree new Same move (s ∷ []) [] es us key i x fan up place is = absurd (omega (arith, place.within))
spot tree new Same move (s ∷ (t ∷ ss)) [] es us key i x fan up place is = absurd fan
spot tree new Same move (s ∷ (t ∷ ss)) (e ∷ els) es us key zero x (xs, ys, here, rest, first, more, es_is, us_is) up place is =
    let up2 = subst Ascends es_is up in
    let key_is : e.0 ≡ key = place.here e in
    record {
      pre = xs;
      post = ys;
      es_is = es_is ∙ ap (λ y. xs ++ y ∷ ys) (sym is);
      below = subst (λ (k : List ℕ). Each (λ y. Below y.0 k) xs) key_is (Ascends-before xs e ys up2);
      put = λ same y.
          let apart = subst (Each Same) us_is same in
          (xs, ys, here, rest, move s xs here first (Each-left Same here rest apart), fan_move tree new Same move (t ∷ ss) els ys rest more (Each-right Same here rest apart), refl, us_is);
    }
spot tree new Same move (s ∷ (t ∷ ss)) (e ∷ els) es us key (suc i) x (xs, ys, here, rest, first, more, es_is, us_is) up place is =
    let up2 = subst Ascends es_is up in
    let inner : IsAt els key i = record { within = omega (arith, place.within); below = place.below.1; here = λ d. place.here d; above = place.above } in
    let sub = spot tree new Same move (t ∷ ss) els ys rest key i x more (Ascends-right xs (e ∷ ys) up2).1 inner is in
    record {
      pre = xs ++ e ∷ sub.pre;
      post = sub.post;
      es_is = es_is ∙ ap (λ zs. xs ++ e ∷ zs) sub.es_is ∙ sym (regroup_pre xs e sub.pre (x ∷ sub.post));
      below = Each-append (λ y. Below y.0 key) xs (e ∷ sub.pre) (below_rest key e xs place.below.0 (Ascends-before xs e ys up2)) (place.below.0, sub.below);
      put = λ same y.
          let apart = subst (Each Same) us_is same in
          (xs, sub.pre ++ y ∷ sub.post, here, rest, move s xs here first (Each-left Same here rest apart), sub.put (Each-right Same here rest apart) y, regroup_pre xs e sub.pre (y ∷ sub.post), us_is);
    }
