-- The first son of a page, and two sons that stand side by side.
use Rattle.std.proofs.Common.{◌≡◌, ℕ, zero, suc, ◌<◌, Some, List, [], ◌∷◌, ◌++◌, length, get_or, set, refl, ap, sym, ◌∙◌, subst, arith, append_assoc, append-nil}
use Rattle.std.specs.List.{remove}
use Rattle.btree_node.specs.Lists.{Element, Each, Below, IsAt}
use Rattle.btree_node.proofs.ElementOrderLemmas.{Each-append, Each-left, Each-right}
use Rattle.btree_insert.specs.declared.bounds.Bounds.{Bounds}
use Rattle.btree_insert.specs.Bounds.{Between, high_at, son_bounds}
use Rattle.btree_insert.specs.PageTrees.{Fan}
use Rattle.btree_insert.proofs.BoundLemmas.{low_first, Ascends-before, Between-left, Between-right}
use Rattle.btree_insert.proofs.SonsAroundLemmas.{Stands, fan_move, nil2, regroup_pre, below_rest}

-- the first son and what stands behind it. Another son may take its place.
pub record First (tree new : Stands) (Same : ℕ → Type 0) (s : ℕ) (ss : List ℕ) (els es : List Element) (us : List ℕ) (b : Bounds) : Type 0 where
  pub xs : List Element
  pub mine : List ℕ
  pub post : List Element
  pub upost : List ℕ
  pub here : tree s xs mine
  pub es_is : es ≡ xs ++ post
  pub us_is : us ≡ mine ++ upost
  pub between : Between (record { low = b.low; high = high_at els 0 b.high }) xs
  pub keep : Each Same upost → (r : ℕ) (zs : List Element) (vs : List ℕ) → new r zs vs → Fan new (r ∷ ss) els (zs ++ post) (vs ++ upost)

-- the first son among its brothers, and the key behind it
pub fan_first : (tree new : Stands) (Same : ℕ → Type 0) → ((s : ℕ) (xs : List Element) (us : List ℕ) → tree s xs us → Each Same us → new s xs us)
    → (s : ℕ) (ss : List ℕ) (els es : List Element) (us : List ℕ) (b : Bounds) → Fan tree (s ∷ ss) els es us → Between b es → First tree new Same s ss els es us b
fan_first tree new Same move s [] (e ∷ els) es us b fan between = absurd fan
fan_first tree new Same move s (t ∷ ss) [] es us b fan between = absurd fan
fan_first tree new Same move s [] [] es us b fan between = record {
  xs = es;
  mine = us;
  post = [];
  upost = [];
  here = fan;
  es_is = sym (append-nil es);
  us_is = sym (append-nil us);
  between = between;
  keep = λ _ r zs vs is. nil2 new r zs vs is;
}
fan_first tree new Same move s (t ∷ ss) (e ∷ els) es us b (xs, ys, here, rest, first, more, es_is, us_is) between = record {
  xs = xs;
  mine = here;
  post = e ∷ ys;
  upost = rest;
  here = first;
  es_is = es_is;
  us_is = us_is;
  between = Between-left b xs e ys (subst (Between b) es_is between);
  keep = λ same r zs vs is. (zs, ys, vs, rest, is, fan_move tree new Same move (t ∷ ss) els ys rest more same, refl, refl);
}

-- bounds of the son behind the first element
next_bounds : (els : List Element) (e : Element) (b : Bounds) (xs : List Element) → Between (record { low = Some e.0; high = high_at els 0 b.high }) xs → Between (son_bounds (e ∷ els) 1 b) xs
next_bounds els e b xs is =
    subst (λ low. Between (record { low = low; high = high_at els 0 b.high }) xs) (sym (low_first els (Some e.0))) is

-- sons j and j + 1 with the element between them. They can become one son, or others can take their places around another element.
pub record Pair (tree new : Stands) (Same : ℕ → Type 0) (sons : List ℕ) (els es : List Element) (us : List ℕ) (j : ℕ) (b : Bounds) : Type 0 where
  pub xs : List Element
  pub ys : List Element
  pub lefts : List ℕ
  pub rights : List ℕ
  pub pre : List Element
  pub post : List Element
  pub upre : List ℕ
  pub upost : List ℕ
  pub left : tree (get_or sons j 0) xs lefts
  pub right : tree (get_or sons (suc j) 0) ys rights
  pub es_is : es ≡ pre ++ ((xs ++ get_or els j ([], []) ∷ ys) ++ post)
  pub us_is : us ≡ upre ++ ((lefts ++ rights) ++ upost)
  pub left_between : Between (son_bounds els j b) xs
  pub right_between : Between (son_bounds els (suc j) b) ys
  pub one : Each Same upre → Each Same upost → (zs : List Element) (vs : List ℕ) → new (get_or sons j 0) zs vs → Fan new (remove sons (suc j)) (remove els j) (pre ++ (zs ++ post)) (upre ++ (vs ++ upost))
  pub two : Each Same upre → Each Same upost → (zs : List Element) (vs : List ℕ) (m : Element) (ws : List Element) (ts : List ℕ) → new (get_or sons j 0) zs vs → new (get_or sons (suc j) 0) ws ts
      → Fan new sons (set els j m) (pre ++ ((zs ++ m ∷ ws) ++ post)) (upre ++ ((vs ++ ts) ++ upost))

-- two sons side by side among the others, and the key between them
pub pair : (tree new : Stands) (Same : ℕ → Type 0) → ((s : ℕ) (xs : List Element) (us : List ℕ) → tree s xs us → Each Same us → new s xs us)
    → (sons : List ℕ) (els es : List Element) (us : List ℕ) (j : ℕ) (b : Bounds) → Fan tree sons els es us → Between b es → j < length els → Pair tree new Same sons els es us j b
pair tree new Same move [] els es us j b fan between low = absurd fan
pair tree new Same move (s ∷ []) (e ∷ els) es us j b fan between low = absurd fan
pair tree new Same move (s ∷ []) [] es us j b fan between low = absurd (omega arith)
pair tree new Same move (s ∷ (t ∷ ss)) [] es us j b fan between low = absurd fan
pair tree new Same move (s ∷ (t ∷ ss)) (e ∷ els) es us zero b (xs, ys, here, rest, first, more, es_is, us_is) between low =
    let bounded = subst (Between b) es_is between in
    let f = fan_first tree new Same move t ss els ys rest (record { low = Some e.0; high = b.high }) more (Between-right b xs e ys bounded) in
    record {
      xs = xs;
      ys = f.xs;
      lefts = here;
      rights = f.mine;
      pre = [];
      post = f.post;
      upre = [];
      upost = f.upost;
      left = first;
      right = f.here;
      es_is = es_is ∙ ap (λ zs. xs ++ e ∷ zs) f.es_is ∙ sym (append_assoc xs (e ∷ f.xs) f.post);
      us_is = us_is ∙ ap (λ vs. here ++ vs) f.us_is ∙ sym (append_assoc here f.mine f.upost);
      left_between = Between-left b xs e ys bounded;
      right_between = next_bounds els e b f.xs f.between;
      one = λ _ same zs vs is. f.keep same s zs vs is;
      two = λ _ same zs vs m ws ts left right. (zs, ws ++ f.post, vs, ts ++ f.upost, left, f.keep same t ws ts right, append_assoc zs (m ∷ ws) f.post, append_assoc vs ts f.upost);
    }
pair tree new Same move (s ∷ (t ∷ ss)) (e ∷ els) es us (suc j) b (xs, ys, here, rest, first, more, es_is, us_is) between low =
    let bounded = subst (Between b) es_is between in
    let sub = pair tree new Same move (t ∷ ss) els ys rest j (record { low = Some e.0; high = b.high }) more (Between-right b xs e ys bounded) (omega (arith, low)) in
    let mid = sub.xs ++ get_or els j ([], []) ∷ sub.ys in
    record {
      xs = sub.xs;
      ys = sub.ys;
      lefts = sub.lefts;
      rights = sub.rights;
      pre = xs ++ e ∷ sub.pre;
      post = sub.post;
      upre = here ++ sub.upre;
      upost = sub.upost;
      left = sub.left;
      right = sub.right;
      es_is = es_is ∙ ap (λ zs. xs ++ e ∷ zs) sub.es_is ∙ sym (regroup_pre xs e sub.pre (mid ++ sub.post));
      us_is = us_is ∙ ap (λ vs. here ++ vs) sub.us_is ∙ sym (append_assoc here sub.upre ((sub.lefts ++ sub.rights) ++ sub.upost));
      left_between = sub.left_between;
      right_between = sub.right_between;
      one = λ before behind zs vs is. (
        xs,
        sub.pre ++ (zs ++ sub.post),
        here,
        sub.upre ++ (vs ++ sub.upost),
        move s xs here first (Each-left Same here sub.upre before),
        sub.one (Each-right Same here sub.upre before) behind zs vs is,
        regroup_pre xs e sub.pre (zs ++ sub.post),
        append_assoc here sub.upre (vs ++ sub.upost),
      );
      two = λ before behind zs vs m ws ts left right. (
        xs,
        sub.pre ++ ((zs ++ m ∷ ws) ++ sub.post),
        here,
        sub.upre ++ ((vs ++ ts) ++ sub.upost),
        move s xs here first (Each-left Same here sub.upre before),
        sub.two (Each-right Same here sub.upre before) behind zs vs m ws ts left right,
        regroup_pre xs e sub.pre ((zs ++ m ∷ ws) ++ sub.post),
        append_assoc here sub.upre ((vs ++ ts) ++ sub.upost),
      );
    }

-- an element of a page, the son behind it, and what stands on both sides. Another element may take its place.
pub record Next (tree new : Stands) (Same : ℕ → Type 0) (sons : List ℕ) (els es : List Element) (us : List ℕ) (key : List ℕ) (i : ℕ) (b : Bounds) (x : Element) : Type 0 where
  pub xs : List Element
  pub mine : List ℕ
  pub pre : List Element
  pub post : List Element
  pub upre : List ℕ
  pub upost : List ℕ
  pub here : tree (get_or sons (suc i) 0) xs mine
  pub es_is : es ≡ pre ++ x ∷ (xs ++ post)
  pub us_is : us ≡ upre ++ (mine ++ upost)
  pub below : Each (λ e. Below e.0 key) pre
  pub between : Between (son_bounds els (suc i) b) xs
  pub keep : Each Same upre → Each Same upost → (y : Element) (zs : List Element) (vs : List ℕ) → new (get_or sons (suc i) 0) zs vs → Fan new sons (set els i y) (pre ++ y ∷ (zs ++ post)) (upre ++ (vs ++ upost))

-- the son behind a key that stands in the node
pub next : (tree new : Stands) (Same : ℕ → Type 0) → ((s : ℕ) (xs : List Element) (us : List ℕ) → tree s xs us → Each Same us → new s xs us)
    → (sons : List ℕ) (els es : List Element) (us : List ℕ) (key : List ℕ) (i : ℕ) (b : Bounds) (x : Element) → Fan tree sons els es us → Between b es → IsAt els key i → x ≡ get_or els i x → Next tree new Same sons els es us key i b x
next tree new Same move [] els es us key i b x fan between place is = absurd fan
next tree new Same move (s ∷ []) (e ∷ els) es us key i b x fan between place is = absurd fan
next tree new Same move (s ∷ []) [] es us key i b x fan between place is = absurd (omega (arith, place.within))
next tree new Same move (s ∷ (t ∷ ss)) [] es us key i b x fan between place is = absurd fan
next tree new Same move (s ∷ (t ∷ ss)) (e ∷ els) es us key zero b x (xs, ys, here, rest, first, more, es_is, us_is) between place is =
    let bounded = subst (Between b) es_is between in
    let f = fan_first tree new Same move t ss els ys rest (record { low = Some e.0; high = b.high }) more (Between-right b xs e ys bounded) in
    record {
      xs = f.xs;
      mine = f.mine;
      pre = xs;
      post = f.post;
      upre = here;
      upost = f.upost;
      here = f.here;
      es_is = es_is ∙ ap (λ y. xs ++ y ∷ ys) (sym is) ∙ ap (λ zs. xs ++ x ∷ zs) f.es_is;
      us_is = us_is ∙ ap (λ vs. here ++ vs) f.us_is;
      below = subst (λ (k : List ℕ). Each (λ y. Below y.0 k) xs) (place.here e) (Ascends-before xs e ys bounded.ascends);
      between = next_bounds els e b f.xs f.between;
      keep = λ before behind y zs vs new_is. (xs, zs ++ f.post, here, vs ++ f.upost, move s xs here first before, f.keep behind t zs vs new_is, refl, refl);
    }
next tree new Same move (s ∷ (t ∷ ss)) (e ∷ els) es us key (suc i) b x (xs, ys, here, rest, first, more, es_is, us_is) between place is =
    let bounded = subst (Between b) es_is between in
    let inner : IsAt els key i = record { within = omega (arith, place.within); below = place.below.1; here = λ d. place.here d; above = place.above } in
    let sub = next tree new Same move (t ∷ ss) els ys rest key i (record { low = Some e.0; high = b.high }) x more (Between-right b xs e ys bounded) inner is in
    record {
      xs = sub.xs;
      mine = sub.mine;
      pre = xs ++ e ∷ sub.pre;
      post = sub.post;
      upre = here ++ sub.upre;
      upost = sub.upost;
      here = sub.here;
      es_is = es_is ∙ ap (λ zs. xs ++ e ∷ zs) sub.es_is ∙ sym (regroup_pre xs e sub.pre (x ∷ (sub.xs ++ sub.post)));
      us_is = us_is ∙ ap (λ vs. here ++ vs) sub.us_is ∙ sym (append_assoc here sub.upre (sub.mine ++ sub.upost));
      below = Each-append (λ y. Below y.0 key) xs (e ∷ sub.pre) (below_rest key e xs place.below.0 (Ascends-before xs e ys bounded.ascends)) (place.below.0, sub.below);
      between = sub.between;
      keep = λ before behind y zs vs new_is. (
        xs,
        sub.pre ++ y ∷ (zs ++ sub.post),
        here,
        sub.upre ++ (vs ++ sub.upost),
        move s xs here first (Each-left Same here sub.upre before),
        sub.keep (Each-right Same here sub.upre before) behind y zs vs new_is,
        regroup_pre xs e sub.pre (y ∷ (zs ++ sub.post)),
        append_assoc here sub.upre (vs ++ sub.upost),
      );
    }
