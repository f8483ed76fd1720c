-- A row of pages that is written from the left.
use Rattle.std.proofs.Common.{◌≡◌, ℕ, zero, suc, ◌+◌, ◌-◌, ◌*◌, ◌<◌, ◌≤◌, ◌⊎◌, inl, inr, ⊎_elim, List, [], ◌∷◌, ◌++◌, length, get_or, take, drop, refl, ap, sym, ◌∙◌, subst, arith, append_assoc, length-append}
use Rattle.std.proofs.lemmas.List.{take_all, length-take-le, length-drop}
use Rattle.std.proofs.lemmas.Bool.{cases_lt}
use Rattle.std.proofs.lemmas.List.{get_or-drop}
use Rattle.btree_node.specs.declared.node.Node.{Node}
use Rattle.btree_node.specs.declared.node.NodeKind.{NodeKind}
use Rattle.btree_node.specs.declared.node.NodeKind.TheVariants.{Leaf, Inner}
use Rattle.btree_node.specs.Cut.{left_of, right_of}
use Rattle.btree_node.specs.Lists.{Element, Each, Below, Ascends}
use Rattle.btree_node.specs.Spelling.{spelling, IsElement, IsSon, SonsFit, CanStand}
use Rattle.btree_node.proofs.ElementOrderLemmas.{Each-append, Each-left, Each-right}
use Rattle.btree_node.proofs.SplitLemmas.{around, Each-take, Each-drop, Ascends-take, Ascends-drop}
use Rattle.btree_insert.specs.PageTrees.{Fan, TreeAt}
use Rattle.btree_insert.proofs.ChangedTreeLemmas.{body_cut}
use Rattle.btree_delete.specs.CleanFile.{in_file}
use Rattle.page_store.specs.declared.store_state.StoreState.{Ghosts}
use Rattle.btree_load.specs.Filling.{HasPages, KeepsLength}
use Rattle.btree_load.proofs.ShapeLemmas.{same_pages}
use Rattle.btree_load.specs.Rows.{HasLevelRoom, wide, from, IsWide, NodeStandsFor, IsRow, AreFewest, TakesShare}
use Rattle.btree_load.proofs.FanLemmas.{Front, front_push, front_end, front_map, new_page, tree_before, body_before}

-- what stands behind what stands behind
pub drop_drop : {X : Type 0} (i j : ℕ) (xs : List X) → drop j (drop i xs) ≡ drop (i + j) xs
drop_drop zero j xs =
    let is : j ≡ 0 + j = omega arith in
    ap (λ m. drop m xs) is
drop_drop {X} (suc i) zero [] =
    let is : suc i ≡ suc i + 0 = omega arith in
    ap (λ m. drop {A = X} m []) is
drop_drop {X} (suc i) (suc j) [] =
    let is : suc (i + suc j) ≡ suc i + suc j = omega arith in
    ap (λ m. drop {A = X} m []) is
drop_drop (suc i) j (x ∷ xs) =
    let is : suc (i + j) ≡ suc i + j = omega arith in
    drop_drop i j xs ∙ ap (λ m. drop m (x ∷ xs)) is

-- the rest behind a page and the element behind it
right_is : (at size : ℕ) (n : Node) → right_of size (from at n) ≡ from (at + (size + 1)) n
right_is at size n =
    let next : at + suc size ≡ at + (size + 1) = omega arith in
    λ i. record {
      kind = n.kind;
      elements = record { items = (drop_drop at (suc size) n.elements.items ∙ ap (λ m. drop m n.elements.items) next) i };
      sons = record { items = (drop_drop at (suc size) n.sons.items ∙ ap (λ m. drop m n.sons.items) next) i };
    }

rest_sons : (kind : NodeKind) (at count : ℕ) (sons : List ℕ) → at ≤ count → SonsFit kind count sons → SonsFit kind (count - at) (drop at sons)
rest_sons Leaf zero count sons low fit = fit
rest_sons Leaf (suc at) count sons low fit = ap (drop (suc at)) fit
rest_sons Inner at count sons low fit = (omega (arith, length-drop at sons, fit.0), Each-drop IsSon at sons fit.1)

-- the rest is as wide
pub rest_wide : (at : ℕ) (n : Node) → at ≤ length n.elements.items → IsWide n → IsWide (from at n)
rest_wide at n low is = record {
  ascends = Ascends-drop at n.elements.items is.ascends;
  sons = subst (λ c. SonsFit n.kind c (drop at n.sons.items)) (sym (length-drop at n.elements.items)) (rest_sons n.kind at (length n.elements.items) n.sons.items low is.sons);
}

-- a page of the first elements can stand
pub page_stands : (k at size : ℕ) (n : Node) → Each IsElement (take size (drop at n.elements.items)) → 0 < size → size ≤ 2 * k → at + size < length n.elements.items → IsWide n → CanStand (left_of size (from at n)) k
page_stands k at size n fit some most low is =
    let rest = rest_wide at n (omega (arith, low)) is in
    let long : length (drop at n.elements.items) ≡ length n.elements.items - at = length-drop at n.elements.items in
    let taken : length (take size (drop at n.elements.items)) ≡ size = length-take-le size (drop at n.elements.items) (omega (arith, long, low)) in
    record {
      some = omega (arith, taken, some);
      most = omega (arith, taken, most);
      fit = fit;
      ascends = Ascends-take size (drop at n.elements.items) rest.ascends;
      sons = subst (λ c. SonsFit n.kind c (take (suc size) (drop at n.sons.items))) (sym taken) (first_sons n.kind size (length (drop at n.elements.items)) (drop at n.sons.items) (omega (arith, long, low)) rest.sons);
    }
  where
    first_sons : (kind : NodeKind) (cut count : ℕ) (sons : List ℕ) → cut < count → SonsFit kind count sons → SonsFit kind cut (take (suc cut) sons)
    first_sons Leaf cut count sons below sons_fit = ap (take (suc cut)) sons_fit
    first_sons Inner cut count sons below sons_fit = (omega (arith, length-take-le (suc cut) sons (omega (arith, sons_fit.0, below))), Each-take IsSon (suc cut) sons sons_fit.1)

all_sons : (kind : NodeKind) (size : ℕ) (sons : List ℕ) → SonsFit kind size sons → take (suc size) sons ≡ sons
all_sons Leaf size sons fit = ap (take (suc size)) fit ∙ sym fit
all_sons Inner size sons fit = take_all (suc size) sons (omega (arith, fit.0))

-- a page of all that is left
all_left : (at size : ℕ) (n : Node) → at + size ≡ length n.elements.items → IsWide n → left_of size (from at n) ≡ from at n
all_left at size n whole is =
    let long : length (drop at n.elements.items) ≡ size = omega (arith, length-drop at n.elements.items) in
    let rest = rest_wide at n (omega arith) is in
    λ i. record {
      kind = n.kind;
      elements = record { items = take_all size (drop at n.elements.items) (omega (arith, long)) i };
      sons = record { items = all_sons n.kind size (drop at n.sons.items) (subst (λ c. SonsFit n.kind c (drop at n.sons.items)) long rest.sons) i };
    }

pub last_stands : (k at size : ℕ) (n : Node) → Each IsElement (take size (drop at n.elements.items)) → 0 < size → size ≤ 2 * k → at + size ≡ length n.elements.items → IsWide n → CanStand (left_of size (from at n)) k
last_stands k at size n fit some most whole is =
    let long : length (drop at n.elements.items) ≡ size = omega (arith, whole, length-drop at n.elements.items) in
    let rest = rest_wide at n (omega (arith, whole)) is in
    subst (λ (m : Node). CanStand m k) (sym (all_left at size n whole is)) (record {
      some = omega (arith, long, some);
      most = omega (arith, long, most);
      fit = subst (Each IsElement) (take_all size (drop at n.elements.items) (omega (arith, long))) fit;
      ascends = rest.ascends;
      sons = rest.sons;
    })

-- how far a row is: trees with an element behind each, and what is left
pub record Progress (k : ℕ) (stored : List (List ℕ)) (least h at : ℕ) (n : Node) (sons : List ℕ) (between : List Element) (es : List Element) : Type 0 where
  pub done : List Element
  pub ys : List Element
  pub gone : List ℕ
  pub vs : List ℕ
  pub front : Front (TreeAt k (in_file stored) least (suc h)) sons between done gone
  pub rest : NodeStandsFor k stored h (from at n) ys vs
  pub es_is : es ≡ done ++ ys

pub row_begins : (k : ℕ) (stored : List (List ℕ)) (least h : ℕ) (kind : NodeKind) (els es between : List Element) (sons us made : List ℕ) → made ≡ [] → between ≡ [] → NodeStandsFor k stored h (wide kind els sons) es us → Progress k stored least h 0 (wide kind els sons) made between es
row_begins k stored least h kind els es between sons us made none_made none_between stands = record {
  done = [];
  ys = es;
  gone = [];
  vs = us;
  front = subst (λ (ss : List ℕ). Front (TreeAt k (in_file stored) least (suc h)) ss between [] []) (sym none_made) (subst (λ (bs : List Element). Front (TreeAt k (in_file stored) least (suc h)) [] bs [] []) (sym none_between) (refl, refl));
  rest = stands;
  es_is = refl;
}

-- the tree of a page that was added
pub page_tree : (k : ℕ) (stored : List (List ℕ)) (least h : ℕ) (n : Node) (es : List Element) (us : List ℕ) → 0 < length stored → CanStand n k → least ≤ length n.elements.items → NodeStandsFor k stored h n es us
    → TreeAt k (in_file (stored ++ spelling n k ∷ [])) least (suc h) (length stored) es (length stored ∷ us)
page_tree k stored least h n es us some stands least_is body =
    (n, us, record { page = new_page stored (spelling n k) some; stands = stands }, least_is, body_before k stored (spelling n k ∷ []) h n es us body, refl)

-- a page more, with the element behind it
step_here : (k least h at size : ℕ) (stored : List (List ℕ)) (n : Node) (sons : List ℕ) (between es : List Element) (x : Element) → CanStand (left_of size (from at n)) k → 0 < length stored → least ≤ size → at + size < length n.elements.items → x ≡ get_or n.elements.items (at + size) x
    → Progress k stored least h at n sons between es → Progress k (stored ++ spelling (left_of size (from at n)) k ∷ []) least h (at + (size + 1)) n (sons ++ length stored ∷ []) (between ++ x ∷ []) es
step_here k least h at size stored n sons between es x stands some least_is low x_is p =
    let r = from at n in
    let page = left_of size r in
    let more = spelling page k ∷ [] in
    let long : length r.elements.items ≡ length n.elements.items - at = length-drop at n.elements.items in
    let here : x ≡ get_or r.elements.items size x = x_is ∙ sym (get_or-drop at n.elements.items size x) in
    let cut = body_cut (TreeAt k (in_file stored) k h) h r p.ys p.vs size x p.rest (omega (arith, long)) here in
    let taken : length (take size r.elements.items) ≡ size = length-take-le size r.elements.items (omega (arith, long)) in
    let tree = page_tree k stored least h page cut.xs cut.before some stands (omega (arith, taken)) cut.left_body in
    let kept = front_map (TreeAt k (in_file stored) least (suc h)) (TreeAt k (in_file (stored ++ more)) least (suc h)) (λ s xs vs t. tree_before k stored more least (suc h) s xs vs t) sons between p.done p.gone p.front in
    record {
      done = p.done ++ (cut.xs ++ x ∷ []);
      ys = cut.ys;
      gone = p.gone ++ length stored ∷ cut.before;
      vs = cut.behind;
      front = front_push (TreeAt k (in_file (stored ++ more)) least (suc h)) sons between p.done p.gone (length stored) x cut.xs (length stored ∷ cut.before) kept tree;
      rest = body_before k stored more h (from (at + (size + 1)) n) cut.ys cut.behind (subst (λ (m : Node). NodeStandsFor k stored h m cut.ys cut.behind) (right_is at size n) cut.right_body);
      es_is = p.es_is ∙ ap (λ zs. p.done ++ zs) (cut.es_is ∙ sym (append_assoc cut.xs (x ∷ []) cut.ys)) ∙ sym (append_assoc p.done (cut.xs ++ x ∷ []) cut.ys);
    }

pub row_step : (k least h at size q : ℕ) (stored new : List (List ℕ)) (n : Node) (sons : List ℕ) (between es : List Element) (x : Element) → CanStand (left_of size (from at n)) k → 0 < length stored → new ≡ stored ++ spelling (left_of size (from at n)) k ∷ [] → q ≡ length stored → least ≤ size → at + size < length n.elements.items → x ≡ get_or n.elements.items (at + size) x
    → Progress k stored least h at n sons between es → Progress k new least h (at + (size + 1)) n (sons ++ q ∷ []) (between ++ x ∷ []) es
row_step k least h at size q stored new n sons between es x stands some new_is q_is least_is low x_is p =
    subst (λ (ps : List (List ℕ)). Progress k ps least h (at + (size + 1)) n (sons ++ q ∷ []) (between ++ x ∷ []) es) (sym new_is)
    (subst (λ (m : ℕ). Progress k (stored ++ spelling (left_of size (from at n)) k ∷ []) least h (at + (size + 1)) n (sons ++ m ∷ []) (between ++ x ∷ []) es) (sym q_is)
    (step_here k least h at size stored n sons between es x stands some least_is low x_is p))

-- the last page, of all that is left
end_here : (k least h at size : ℕ) (stored : List (List ℕ)) (n : Node) (sons : List ℕ) (between es : List Element) → IsWide n → CanStand (left_of size (from at n)) k → 0 < length stored → least ≤ size → at + size ≡ length n.elements.items
    → Progress k stored least h at n sons between es → IsRow k (stored ++ spelling (left_of size (from at n)) k ∷ []) least (suc h) (wide Inner between (sons ++ length stored ∷ [])) es
end_here k least h at size stored n sons between es is stands some least_is whole p =
    let page = left_of size (from at n) in
    let more = spelling page k ∷ [] in
    let body = subst (λ (m : Node). NodeStandsFor k stored h m p.ys p.vs) (sym (all_left at size n whole is)) p.rest in
    let taken : length (take size (drop at n.elements.items)) ≡ size = length-take-le size (drop at n.elements.items) (omega (arith, length-drop at n.elements.items)) in
    let tree = page_tree k stored least h page p.ys p.vs some stands (omega (arith, taken)) body in
    let kept = front_map (TreeAt k (in_file stored) least (suc h)) (TreeAt k (in_file (stored ++ more)) least (suc h)) (λ s xs vs t. tree_before k stored more least (suc h) s xs vs t) sons between p.done p.gone p.front in
    record {
      us = p.gone ++ length stored ∷ p.vs;
      fan = subst (λ (zs : List Element). Fan (TreeAt k (in_file (stored ++ more)) least (suc h)) (sons ++ length stored ∷ []) between zs (p.gone ++ length stored ∷ p.vs)) (sym p.es_is)
          (front_end (TreeAt k (in_file (stored ++ more)) least (suc h)) sons between p.done p.gone (length stored) p.ys (length stored ∷ p.vs) kept tree);
    }

pub row_ends : (k least h at size q : ℕ) (stored new : List (List ℕ)) (n : Node) (sons : List ℕ) (between es : List Element) → IsWide n → CanStand (left_of size (from at n)) k → 0 < length stored → new ≡ stored ++ spelling (left_of size (from at n)) k ∷ [] → q ≡ length stored → least ≤ size → at + size ≡ length n.elements.items
    → Progress k stored least h at n sons between es → IsRow k new least (suc h) (wide Inner between (sons ++ q ∷ [])) es
row_ends k least h at size q stored new n sons between es is stands some new_is q_is least_is whole p =
    subst (λ (ps : List (List ℕ)). IsRow k ps least (suc h) (wide Inner between (sons ++ q ∷ [])) es) (sym new_is)
    (subst (λ (m : ℕ). IsRow k (stored ++ spelling (left_of size (from at n)) k ∷ []) least (suc h) (wide Inner between (sons ++ m ∷ [])) es) (sym q_is)
    (end_here k least h at size stored n sons between es is stands some least_is whole p))

-- the elements between the pages so far, those that are left behind them, and the pages
pub record IsFront (at : ℕ) (n : Node) (sons : List ℕ) (between : List Element) : Type 0 where
  pub ascends : Ascends (between ++ drop at n.elements.items)
  pub sons_are : Each IsSon sons
  pub count : length sons ≡ length between

pub front_begins : (kind : NodeKind) (els between : List Element) (ss made : List ℕ) → made ≡ [] → between ≡ [] → IsWide (wide kind els ss) → IsFront 0 (wide kind els ss) made between
front_begins kind els between ss made none_made none_between is = record {
  ascends = subst (λ (bs : List Element). Ascends (bs ++ els)) (sym none_between) is.ascends;
  sons_are = subst (Each IsSon) (sym none_made) tt;
  count = ap length none_made ∙ sym (ap length none_between);
}

-- without some in the middle they ascend
ascends_without : (xs ys zs : List Element) → Ascends (xs ++ (ys ++ zs)) → Ascends (xs ++ zs)
ascends_without [] [] zs up = up
ascends_without [] (y ∷ ys) zs up = ascends_without [] ys zs up.1
ascends_without (x ∷ xs) ys zs up =
    (Each-append (λ later. Below x.0 later.0) xs zs (Each-left (λ later. Below x.0 later.0) xs (ys ++ zs) up.0) (Each-right (λ later. Below x.0 later.0) ys zs (Each-right (λ later. Below x.0 later.0) xs (ys ++ zs) up.0)), ascends_without xs ys zs up.1)

pub front_step : (at size q : ℕ) (n : Node) (sons : List ℕ) (between : List Element) (x : Element) → IsSon q → at + size < length n.elements.items → x ≡ get_or n.elements.items (at + size) x → IsFront at n sons between → IsFront (at + (size + 1)) n (sons ++ q ∷ []) (between ++ x ∷ [])
front_step at size q n sons between x son low x_is f =
    let els = n.elements.items in
    let rest = drop at els in
    let here : x ≡ get_or rest size x = x_is ∙ sym (get_or-drop at els size x) in
    let next : at + suc size ≡ at + (size + 1) = omega arith in
    let cut : rest ≡ take size rest ++ x ∷ drop (at + (size + 1)) els =
    around size rest x (omega (arith, length-drop at els)) ∙ ap (λ y. take size rest ++ y ∷ drop (suc size) rest) (sym here) ∙ ap (λ zs. take size rest ++ x ∷ zs) (drop_drop at (suc size) els ∙ ap (λ m. drop m els) next) in
    record {
      ascends = subst Ascends (sym (append_assoc between (x ∷ []) (drop (at + (size + 1)) els)))
          (ascends_without between (take size rest) (x ∷ drop (at + (size + 1)) els) (subst (λ zs. Ascends (between ++ zs)) cut f.ascends));
      sons_are = Each-append IsSon sons (q ∷ []) f.sons_are (son, tt);
      count = length-append sons (q ∷ []) ∙ ap (λ m. m + 1) f.count ∙ sym (length-append between (x ∷ []));
    }

pub front_ends : (at q : ℕ) (n : Node) (sons : List ℕ) (between : List Element) → IsSon q → IsFront at n sons between → IsWide (wide Inner between (sons ++ q ∷ []))
front_ends at q n sons between son f = record {
  ascends = ascends_left between (drop at n.elements.items) f.ascends;
  sons = (length-append sons (q ∷ []) ∙ ap (λ m. m + 1) f.count, Each-append IsSon sons (q ∷ []) f.sons_are (son, tt));
}
  where
    ascends_left : (xs ys : List Element) → Ascends (xs ++ ys) → Ascends xs
    ascends_left [] ys up = tt
    ascends_left (x ∷ xs) ys up = (Each-left (λ later. Below x.0 later.0) xs ys up.0, ascends_left xs ys up.1)

-- how many elements the pages so far have taken: each of them 2k and the one behind it, but for the last two
abbrev pub Fullness : ℕ → ℕ → ℕ → ℕ → Type 0
Fullness k count at pages =
    (at ≡ pages * (2 * k + 1)) ⊎ ((count ≤ at + 2 * k) × AreFewest k count (pages + 1))

one_more : (pages width : ℕ) → (pages + 1) * width ≡ pages * width + width
one_more pages width = grind arith

none_taken : (width : ℕ) → 0 * width ≡ 0
none_taken width = grind arith

pub full_begins : (k count : ℕ) (between : List Element) → between ≡ [] → Fullness k count 0 (length between)
full_begins k count between none = inl (sym (ap (λ (bs : List Element). length bs * (2 * k + 1)) none ∙ none_taken (2 * k + 1)))

pub full_step : (k count at size pages : ℕ) → TakesShare k (count - at) size → Fullness k count at pages → 2 * k < count - at → Fullness k count (at + (size + 1)) (pages + 1)
full_step k count at size pages share (inl is) low =
    let more = one_more pages (2 * k + 1) in
    let again = one_more (pages + 1) (2 * k + 1) in
    ⊎_elim (λ (many : 3 * k < count - at). inl (omega (arith, share.full many, is, more)))
    (λ (few : count - at ≤ 3 * k).
    let even = share.even few in
    inr (
      omega (arith, even.0, even.1, share.next, few),
      record {
        enough = omega (arith, is, more, again, few);
        fewer = omega (arith, is, more, again, low);
      },
    ))
    (cases_lt (3 * k) (count - at))
full_step k count at size pages share (inr (few, fewest)) low = absurd (omega (arith, few, low))

-- one element more
pub longer : (new old : List Element) (x : Element) → new ≡ old ++ x ∷ [] → length new ≡ length old + 1
longer new old x is = ap length is ∙ length-append old (x ∷ [])

-- the level has one page more
next_page : (k count at pages most : ℕ) → Fullness k count at pages → at ≤ count → AreFewest k count most → pages < most
next_page k count at pages most (inl is) within fewest =
    ⊎_elim (λ (low : pages < most). low)
    (λ (high : most ≤ pages).
    let enough = fewest.enough in
    let wide = wider most pages (2 * k + 1) high in
    absurd (omega (arith, enough, wide, is, within)))
    (cases_lt pages most)
  where
    wider : (most pages width : ℕ) → most ≤ pages → most * width ≤ pages * width
    wider most pages width high = grind arith
next_page k count at pages most (inr (few, last)) within fewest =
    let same = same_pages k count (pages + 1) most last fewest in
    omega (arith, same)

-- and the store has room for it
pub has_next : {S : Type 0} (s : Ghosts S) (k elements at pages before count : ℕ) (old store : S) → HasLevelRoom s k before elements old → KeepsLength s old store → count ≡ before + pages → Fullness k elements at pages → at ≤ elements → HasPages s count 1 store
has_next s k elements at pages before count old store room same count_is full within =
    let low = next_page k elements at pages room.pages full within room.fewest in
    record {
      start = omega (arith, count_is, room.has.start);
      room = omega (arith, count_is, low, same.pages, room.has.room);
      most = omega (arith, same.pages, room.has.most);
    }
