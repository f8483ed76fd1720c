-- Which nodes stand after a page was treated, whatever the pages hold.
use Rattle.std.proofs.Common.{◌≡◌, ℕ, zero, suc, ◌+◌, ◌*◌, ◌<◌, ◌≤◌, inl, inr, Option, Some, List, [], ◌∷◌, ◌++◌, length, get_or, set, take, drop, refl, ap, sym, ◌∙◌, subst, arith, length-append}
use Rattle.std.specs.List.{remove}
use Rattle.std.proofs.lemmas.List.{length-set, get_or_default}
use Rattle.std.proofs.lemmas.List.Edits.{length-remove}
use Rattle.btree_node.specs.declared.node.Node.{Node}
use Rattle.btree_node.specs.declared.node.NodeKind.{NodeKind}
use Rattle.btree_node.specs.declared.node.NodeKind.TheVariants.{Leaf, Inner}
use Rattle.btree_node.specs.Cut.{left_of, right_of}
use Rattle.btree_node.specs.Joined.{joined, keys_of_both, half_of_both, AreBrothers}
use Rattle.btree_node.specs.Layout.{second_layout}
use Rattle.btree_node.specs.Lists.{Element, Each, Below, Ascends}
use Rattle.btree_node.specs.Spelling.{spelling, ElementFits, IsSon, SonsFit, CanStand}
use Rattle.btree_node.proofs.SplitLemmas.{Each-take, Each-drop, Ascends-take, Ascends-drop, around}
use Rattle.btree_node.proofs.ElementOrderLemmas.{Each-append, Each-map, Each_at, Ascends-right}
use Rattle.btree_insert.specs.declared.bounds.Bounds.{Bounds}
use Rattle.btree_insert.specs.Bounds.{Over, Under, AreWithin, low_at, high_at, son_bounds}
use Rattle.btree_insert.specs.Growth.{IsWithin}
use Rattle.btree_insert.proofs.BoundLemmas.{low_first, low_next, high_next, Ascends-before}
use Rattle.btree_insert.proofs.EditFitLemmas.{Each-set}
use Rattle.btree_insert.proofs.PlaceLemmas.{within_place, son_within}
use Rattle.btree_insert.proofs.HeadNodeLemmas.{kind_above}
use Rattle.btree_delete.specs.Treatment.{element_at, son_number, both, Distributes, Treats, brothers}
use Rattle.btree_delete.specs.Shrinking.{MayBeUnderfull}
use Rattle.btree_delete.specs.Subtrees.{behind_element}
use Rattle.btree_delete.specs.Tidy.{done_so_far}
use Rattle.btree_insert.proofs.ReachLemmas.{ascends_join}
use Rattle.btree_insert.proofs.SettledTreeLemmas.{set_split}

-- an element that could stand at place i in the place of the one there
pub record Stands (i : ℕ) (els : List Element) (b : Bounds) (e : Element) : Type 0 where
  pub fits : ElementFits second_layout e
  pub below : Each (λ x. Below x.0 e.0) (take i els)
  pub above : Each (λ x. Below e.0 x.0) (drop (suc i) els)
  pub within : IsWithin b e.0

each_less : {X : Type 0} (P : X → Type 0) (i : ℕ) (xs : List X) → Each P (take (suc i) xs) → Each P (take i xs)
each_less P zero xs each = tt
each_less P (suc i) [] each = tt
each_less P (suc i) (x ∷ xs) each = (each.0, each_less P i xs each.1)

each_later : {X : Type 0} (P : X → Type 0) (i : ℕ) (xs : List X) → Each P (drop i xs) → Each P (drop (suc i) xs)
each_later P zero [] each = tt
each_later P zero (x ∷ xs) each = each.1
each_later P (suc i) [] each = tt
each_later P (suc i) (x ∷ xs) each = each_later P i xs each

-- an element below son i stands there, and one below the next son
pub left_stands_at : (i : ℕ) (els : List Element) (b : Bounds) (e : Element) → i < length els → Ascends els → AreWithin b els → ElementFits second_layout e → IsWithin (son_bounds els i b) e.0 → Stands i els b e
left_stands_at i els b e low up within fits is =
    let place = within_place els i b e.0 (omega arith) up is in
    record {
      fits = fits;
      below = place.below;
      above = each_later (λ (x : Element). Below e.0 x.0) i els place.above;
      within = son_within els i b e.0 up within is;
    }

-- an element of the son on the right may take the place of the key between
pub right_stands_at : (i : ℕ) (els : List Element) (b : Bounds) (e : Element) → i < length els → Ascends els → AreWithin b els → ElementFits second_layout e → IsWithin (son_bounds els (suc i) b) e.0 → Stands i els b e
right_stands_at i els b e low up within fits is =
    let place = within_place els (suc i) b e.0 (omega arith) up is in
    record {
      fits = fits;
      below = each_less (λ (x : Element). Below x.0 e.0) i els place.below;
      above = place.above;
      within = son_within els (suc i) b e.0 up within is;
    }

middle_stands_at : (i : ℕ) (els : List Element) (b : Bounds) (d : Element) → i < length els → Ascends els → AreWithin b els → Each (ElementFits second_layout) els → Stands i els b (get_or els i d)
middle_stands_at i els b d low up within fit =
    let x = get_or els i d in
    let split = subst Ascends (around i els d low) up in
    record {
      fits = Each_at (ElementFits second_layout) els i x fit low (get_or_default els i d x low);
      below = Ascends-before (take i els) x (drop (suc i) els) split;
      above = (Ascends-right (take i els) (x ∷ drop (suc i) els) split).0;
      within = (Each_at (λ (e : Element). Over b.low e.0) els i x within.over low (get_or_default els i d x low), Each_at (λ (e : Element). Under b.high e.0) els i x within.under low (get_or_default els i d x low));
    }

zip_within : (b : Bounds) (es : List Element) → AreWithin b es → Each (λ e. IsWithin b e.0) es
zip_within b es within = at es within.over within.under
  where
    at : (xs : List Element) → Each (λ e. Over b.low e.0) xs → Each (λ e. Under b.high e.0) xs → Each (λ e. IsWithin b e.0) xs
    at [] over under = tt
    at (x ∷ xs) over under = ((over.0, under.0), at xs over.1 under.1)

zip_stands : (i : ℕ) (els : List Element) (b c : Bounds) (es : List Element) → ((e : Element) → ElementFits second_layout e → IsWithin c e.0 → Stands i els b e) → Each (ElementFits second_layout) es → Each (λ e. IsWithin c e.0) es → Each (Stands i els b) es
zip_stands i els b c [] step fit within = tt
zip_stands i els b c (e ∷ es) step fit within = (step e fit.0 within.0, zip_stands i els b c es step fit.1 within.1)

-- of two brothers and the element between them, each can take its place
pub both_stand : (k level i : ℕ) (b : Bounds) (F L R : Node) → i < length F.elements.items → MayBeUnderfull k (level + 1) b F → MayBeUnderfull k level (son_bounds F.elements.items i b) L → MayBeUnderfull k level (son_bounds F.elements.items (suc i) b) R
    → Each (Stands i F.elements.items b) (both F i L R).elements.items
both_stand k level i b F L R low father left right =
    let els = F.elements.items in
    Each-append (Stands i els b) L.elements.items (element_at F i ∷ R.elements.items)
    (zip_stands i els b (son_bounds els i b) L.elements.items (λ e fits is. left_stands_at i els b e low father.ascends father.within fits is) left.fit (zip_within (son_bounds els i b) L.elements.items left.within)) (
      middle_stands_at i els b ([], []) low father.ascends father.within father.fit,
      zip_stands i els b (son_bounds els (suc i) b) R.elements.items (λ e fits is. right_stands_at i els b e low father.ascends father.within fits is) right.fit (zip_within (son_bounds els (suc i) b) R.elements.items right.within),
    )

-- the elements of two brothers and the key between fit places
pub both_fit : (k level i : ℕ) (b : Bounds) (F L R : Node) → i < length F.elements.items → MayBeUnderfull k (level + 1) b F → MayBeUnderfull k level (son_bounds F.elements.items i b) L → MayBeUnderfull k level (son_bounds F.elements.items (suc i) b) R
    → Each (ElementFits second_layout) (both F i L R).elements.items
both_fit k level i b F L R low father left right =
    Each-map (Stands i F.elements.items b) (ElementFits second_layout) (both F i L R).elements.items (λ e is. is.fits) (both_stand k level i b F L R low father left right)

-- two sons side by side are brothers
pub are_brothers : (k level i : ℕ) (b : Bounds) (F L R : Node) → i < length F.elements.items → MayBeUnderfull k (level + 1) b F → MayBeUnderfull k level (son_bounds F.elements.items i b) L → MayBeUnderfull k level (son_bounds F.elements.items (suc i) b) R
    → AreBrothers L (element_at F i) R
are_brothers k level i b F L R low father left right =
    let els = F.elements.items in
    let m = element_at F i in
    record {
      kind = left.kind ∙ sym right.kind;
      ascends = ascends_join L.elements.items m R.elements.items left.ascends
          (subst (λ high. Each (λ (e : Element). Under high e.0) L.elements.items) (high_next els i ([], []) b.high low) left.within.under)
          (subst (λ bound. Each (λ (e : Element). Over bound e.0) R.elements.items) (low_next els i ([], []) b.low low) right.within.over) right.ascends;
      left_sons = left.sons;
      right_sons = right.sons;
    }

-- the keys still ascend
pub set_up : (els : List Element) (i : ℕ) (b : Bounds) (y : Element) → i < length els → Ascends els → Stands i els b y → Ascends (set els i y)
set_up els i b y low up is =
    subst Ascends (sym (set_split els i y low)) (ascends_join (take i els) y (drop (suc i) els) (Ascends-take i els up) is.below is.above (Ascends-drop (suc i) els up))

-- a father with another element at place i
pub set_may_be_underfull : (k height i : ℕ) (b : Bounds) (F G : Node) (y : Element) → i < length F.elements.items → MayBeUnderfull k height b F → Stands i F.elements.items b y → G.kind ≡ F.kind → G.elements.items ≡ set F.elements.items i y → G.sons.items ≡ F.sons.items → MayBeUnderfull k height b G
set_may_be_underfull k height i b F G y low may_be_underfull is kind_is els_is sons_is =
    let size = ap length els_is ∙ length-set F.elements.items i y in
    record {
      kind = kind_is ∙ may_be_underfull.kind;
      most = omega (arith, size, may_be_underfull.most);
      fit = subst (Each (ElementFits second_layout)) (sym els_is) (Each-set (ElementFits second_layout) F.elements.items i y may_be_underfull.fit is.fits);
      ascends = subst Ascends (sym els_is) (set_up F.elements.items i b y low may_be_underfull.ascends is);
      within = subst (AreWithin b) (sym els_is) (record {
        over = Each-set (λ (e : Element). Over b.low e.0) F.elements.items i y may_be_underfull.within.over is.within.0;
        under = Each-set (λ (e : Element). Under b.high e.0) F.elements.items i y may_be_underfull.within.under is.within.1;
      });
      sons = subst (λ (kind : NodeKind). SonsFit kind (length G.elements.items) G.sons.items) (sym kind_is)
          (subst (λ (sons : List ℕ). SonsFit F.kind (length G.elements.items) sons) (sym sons_is) (subst (λ (c : ℕ). SonsFit F.kind c F.sons.items) (sym size) may_be_underfull.sons));
    }

each_remove : {X : Type 0} (P : X → Type 0) (xs : List X) (i : ℕ) → Each P xs → Each P (remove xs i)
each_remove P xs i each = Each-append P (take i xs) (drop (suc i) xs) (Each-take P i xs each) (Each-drop P (suc i) xs each)

ascends_remove : (els : List Element) (i : ℕ) → Ascends els → Ascends (remove els i)
ascends_remove [] i up = nil i
  where
    nil : (j : ℕ) → Ascends (remove [] j)
    nil zero = tt
    nil (suc j) = tt
ascends_remove (e ∷ els) zero up = up.1
ascends_remove (e ∷ els) (suc i) up = (each_remove (λ later. Below e.0 later.0) els i up.0, ascends_remove els i up.1)

-- a node with an element from the son behind in the place of its own
pub next_may_be_underfull : (k height i : ℕ) (b : Bounds) (F G : Node) (y : Element) → i < length F.elements.items → MayBeUnderfull k height b F → ElementFits second_layout y → IsWithin (son_bounds F.elements.items (suc i) b) y.0
    → G.kind ≡ F.kind → G.elements.items ≡ set F.elements.items i y → G.sons.items ≡ F.sons.items → MayBeUnderfull k height b G
next_may_be_underfull k height i b F G y low may_be_underfull fits within kind_is els_is sons_is =
    set_may_be_underfull k height i b F G y low may_be_underfull (right_stands_at i F.elements.items b y low may_be_underfull.ascends may_be_underfull.within fits within) kind_is els_is sons_is

-- a leaf without one of its elements
pub leaf_without : (k : ℕ) (b : Bounds) (n m : Node) (i : ℕ) → n.kind ≡ Leaf → i < length n.elements.items → MayBeUnderfull k 1 b n → m.kind ≡ n.kind → m.elements.items ≡ remove n.elements.items i → m.sons.items ≡ n.sons.items → MayBeUnderfull k 1 b m
leaf_without k b n m i leaf low may_be_underfull kind_is els_is sons_is =
    let size = length-remove n.elements.items i low in
    let count = ap length els_is in
    record {
      kind = kind_is ∙ may_be_underfull.kind;
      most = omega (arith, size, count, may_be_underfull.most);
      fit = subst (Each (ElementFits second_layout)) (sym els_is) (each_remove (ElementFits second_layout) n.elements.items i may_be_underfull.fit);
      ascends = subst Ascends (sym els_is) (ascends_remove n.elements.items i may_be_underfull.ascends);
      within = subst (AreWithin b) (sym els_is) (record {
        over = each_remove (λ (e : Element). Over b.low e.0) n.elements.items i may_be_underfull.within.over;
        under = each_remove (λ (e : Element). Under b.high e.0) n.elements.items i may_be_underfull.within.under;
      });
      sons = subst (λ (kind : NodeKind). SonsFit kind (length m.elements.items) m.sons.items) (sym kind_is)
          (subst (λ (sons : List ℕ). SonsFit n.kind (length m.elements.items) sons) (sym sons_is) (no_sons n.kind (length n.elements.items) (length m.elements.items) n.sons.items leaf may_be_underfull.sons));
    }
  where
    no_sons : (kind : NodeKind) (count more : ℕ) (sons : List ℕ) → kind ≡ Leaf → SonsFit kind count sons → SonsFit kind more sons
    no_sons Leaf count more sons is fit = fit
    no_sons Inner count more sons is fit = absurd (cc)

inner_sons_without : (kind : NodeKind) (count more j : ℕ) (sons : List ℕ) → kind ≡ Inner → more + 1 ≡ count → j ≤ count → SonsFit kind count sons → SonsFit kind more (remove sons j)
inner_sons_without Leaf count more j sons is one low fit = absurd (cc)
inner_sons_without Inner count more j sons is one low fit =
    (omega (arith, length-remove sons j (omega (arith, fit.0)), fit.0), each_remove IsSon sons j fit.1)

-- a father that lost a key and a son
without_may_be_underfull : (k level i : ℕ) (b : Bounds) (F G : Node) → 1 ≤ level → i < length F.elements.items → MayBeUnderfull k (level + 1) b F → G.kind ≡ F.kind → G.elements.items ≡ remove F.elements.items i → G.sons.items ≡ remove F.sons.items (suc i) → MayBeUnderfull k (level + 1) b G
without_may_be_underfull k level i b F G some low may_be_underfull kind_is els_is sons_is =
    let size = length-remove F.elements.items i low in
    let count = ap length els_is in
    let inner : F.kind ≡ Inner = may_be_underfull.kind ∙ kind_above (level + 1) (λ e. absurd (omega arith)) in
    record {
      kind = kind_is ∙ may_be_underfull.kind;
      most = omega (arith, size, count, may_be_underfull.most);
      fit = subst (Each (ElementFits second_layout)) (sym els_is) (each_remove (ElementFits second_layout) F.elements.items i may_be_underfull.fit);
      ascends = subst Ascends (sym els_is) (ascends_remove F.elements.items i may_be_underfull.ascends);
      within = subst (AreWithin b) (sym els_is) (record {
        over = each_remove (λ (e : Element). Over b.low e.0) F.elements.items i may_be_underfull.within.over;
        under = each_remove (λ (e : Element). Under b.high e.0) F.elements.items i may_be_underfull.within.under;
      });
      sons = subst (λ (kind : NodeKind). SonsFit kind (length G.elements.items) G.sons.items) (sym kind_is)
          (subst (λ (sons : List ℕ). SonsFit F.kind (length G.elements.items) sons) (sym sons_is)
          (inner_sons_without F.kind (length F.elements.items) (length G.elements.items) (suc i) F.sons.items inner (omega (arith, size, count)) (omega (arith, low)) may_be_underfull.sons));
    }

half_low : (k : ℕ) (L R : Node) (m : Element) → 1 ≤ k → 2 * k ≤ keys_of_both L R → half_of_both L R < length (joined L m R).elements.items
half_low k L R m some many = omega (arith, length-append L.elements.items (m ∷ R.elements.items))

-- a father whose sons were treated
pub treated_may_be_underfull : (k level i : ℕ) (b : Bounds) (F G L R : Node) (ws ws2 : List (ℕ × List ℕ)) (fs fs2 : List ℕ) → 1 ≤ k → 1 ≤ level → i < length F.elements.items → MayBeUnderfull k (level + 1) b F → MayBeUnderfull k level (son_bounds F.elements.items i b) L → MayBeUnderfull k level (son_bounds F.elements.items (suc i) b) R
    → Treats k F G (brothers i L R) (done_so_far ws fs) (done_so_far ws2 fs2) → MayBeUnderfull k (level + 1) b G
treated_may_be_underfull k level i b F G L R ws ws2 fs fs2 order some low father left right (inl done) = without_may_be_underfull k level i b F G some low father done.kind done.elements done.sons
treated_may_be_underfull k level i b F G L R ws ws2 fs fs2 order some low father left right (inr done) =
    let J = both F i L R in
    let half = half_of_both L R in
    let y = element_at J half in
    let half_is = half_low k L R (element_at F i) order done.many in
    set_may_be_underfull k (level + 1) i b F G y low father (Each_at (Stands i F.elements.items b) J.elements.items half y (both_stand k level i b F L R low father left right) half_is (get_or_default J.elements.items half ([], []) y half_is)) done.kind done.elements done.sons

-- bounds behind an element
pub set_son_bounds : (els : List Element) (i : ℕ) (b : Bounds) (y : Element) → i < length els → son_bounds (set els i y) (suc i) b ≡ behind_element y (son_bounds els (suc i) b)
set_son_bounds els i b y low = λ j. record { low = low_is els i b.low low j; high = high_is els i b.high j }
  where
    low_is : (xs : List Element) (n : ℕ) (bound : Option (List ℕ)) → n < length xs → low_at (set xs n y) (suc n) bound ≡ Some y.0
    low_is [] n bound within = absurd (omega arith)
    low_is (x ∷ xs) zero bound within = low_first xs (Some y.0)
    low_is (x ∷ xs) (suc n) bound within = low_is xs n (Some x.0) (omega (arith, within))

    high_is : (xs : List Element) (n : ℕ) (bound : Option (List ℕ)) → high_at (set xs n y) (suc n) bound ≡ high_at xs (suc n) bound
    high_is [] n bound = refl
    high_is (x ∷ xs) zero bound = refl
    high_is (x ∷ xs) (suc n) bound = high_is xs n bound

-- the bounds of the first son of what is left behind an element
pub first_son_bounds : (els : List Element) (b : Bounds) (e : Element) → son_bounds els 0 (behind_element e b) ≡ behind_element e (son_bounds els 0 b)
first_son_bounds els b e = λ j. record { low = low_first els (Some e.0) j; high = high_at els 0 b.high }

-- a page behind an element that stood below its first son
pub behind_may_be_underfull : (k height : ℕ) (b : Bounds) (n : Node) (e : Element) → MayBeUnderfull k height b n → IsWithin (son_bounds n.elements.items 0 b) e.0 → MayBeUnderfull k height (behind_element e b) n
behind_may_be_underfull k height b n e may_be_underfull is = record {
  kind = may_be_underfull.kind;
  most = may_be_underfull.most;
  fit = may_be_underfull.fit;
  ascends = may_be_underfull.ascends;
  within = record {
    over = (within_place n.elements.items 0 b e.0 (omega arith) may_be_underfull.ascends is).above;
    under = may_be_underfull.within.under;
  };
  sons = may_be_underfull.sons;
}

-- a leaf without its first element
pub leaf_behind : (k : ℕ) (b : Bounds) (n m : Node) (e : Element) → n.kind ≡ Leaf → 0 < length n.elements.items → MayBeUnderfull k 1 b n → e ≡ get_or n.elements.items 0 e → m.kind ≡ n.kind → m.elements.items ≡ remove n.elements.items 0 → m.sons.items ≡ n.sons.items
    → ElementFits second_layout e × IsWithin b e.0 × MayBeUnderfull k 1 (behind_element e b) m
leaf_behind k b n m e leaf some may_be_underfull is kind_is els_is sons_is =
    let without = leaf_without k b n m 0 leaf some may_be_underfull kind_is els_is sons_is in (
      Each_at (ElementFits second_layout) n.elements.items 0 e may_be_underfull.fit some is,
      (Each_at (λ (x : Element). Over b.low x.0) n.elements.items 0 e may_be_underfull.within.over some is, Each_at (λ (x : Element). Under b.high x.0) n.elements.items 0 e may_be_underfull.within.under some is),
      record {
        kind = without.kind;
        most = without.most;
        fit = without.fit;
        ascends = without.ascends;
        within = record { over = subst (λ (xs : List Element). Each (λ x. Below e.0 x.0) xs) (sym els_is) (first_below n.elements.items may_be_underfull.ascends is); under = without.within.under };
        sons = without.sons;
      },
    )
  where
    first_below : (xs : List Element) → Ascends xs → e ≡ get_or xs 0 e → Each (λ x. Below e.0 x.0) (remove xs 0)
    first_below [] up e_is = tt
    first_below (x ∷ xs) up e_is = subst (λ (y : Element). Each (λ x. Below y.0 x.0) xs) (sym e_is) up.0

-- what levelling two nodes comes to
pub distributed : (k i : ℕ) (F G L R : Node) (middle up : Element) (l r : Node) (n t : ℕ) (ws ws2 ws3 : List (ℕ × List ℕ)) (fs fs2 : List ℕ) → middle ≡ element_at F i → 2 * k ≤ keys_of_both L R → G.kind ≡ F.kind → G.elements.items ≡ set F.elements.items i up → G.sons.items ≡ F.sons.items
    → l ≡ left_of (half_of_both L R) (joined L middle R) → up ≡ element_at (joined L middle R) (half_of_both L R) → r ≡ right_of (half_of_both L R) (joined L middle R) → CanStand l k → CanStand r k
    → n ≡ son_number F i → t ≡ son_number F (suc i) → ws2 ≡ ws ++ (n, spelling l k) ∷ [] → ws3 ≡ ws2 ++ (t, spelling r k) ∷ [] → fs2 ≡ fs → Distributes k F G (brothers i L R) (done_so_far ws fs) (done_so_far ws3 fs2)
distributed k i F G L R middle up l r n t ws ws2 ws3 fs fs2 middle_is many kind_is els_is sons_is l_is up_is r_is l_stands r_stands n_is t_is ws2_is ws3_is fs_is =
    let half = half_of_both L R in
    let left_is : l ≡ left_of half (both F i L R) = l_is ∙ ap (λ (m : Element). left_of half (joined L m R)) middle_is in
    let right_is : r ≡ right_of half (both F i L R) = r_is ∙ ap (λ (m : Element). right_of half (joined L m R)) middle_is in
    record {
      many = many;
      kind = kind_is;
      elements = els_is ∙ ap (set F.elements.items i) (up_is ∙ ap (λ (m : Element). element_at (joined L m R) half) middle_is);
      sons = sons_is;
      wrote = ws3_is ∙ ap (λ (w : List (ℕ × List ℕ)). w ++ (t, spelling r k) ∷ []) ws2_is ∙ (λ j. (ws ++ (n_is j, spelling (left_is j) k) ∷ []) ++ (t_is j, spelling (right_is j) k) ∷ []);
      frees = fs_is;
      left_stands = subst (λ (m : Node). CanStand m k) left_is l_stands;
      right_stands = subst (λ (m : Node). CanStand m k) right_is r_stands;
    }
