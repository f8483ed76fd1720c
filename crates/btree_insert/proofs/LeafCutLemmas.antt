-- A full leaf with one element more, cut around the middle of them.
use Rattle.std.proofs.Common.{◌≡◌, ℕ, suc, ◌+◌, ◌-◌, ◌*◌, ◌<◌, ◌≤◌, List, [], ◌++◌, length, get_or, take, drop, refl, ap, sym, ◌∙◌, subst, arith, length-drop}
use Rattle.std.specs.List.{insert, remove}
use Rattle.std.proofs.lemmas.List.{append-nil, length-take-le, take-append-drop, take-append-le, take_at, drop_at, drop-drop, drop_all, get_or_append_left, get_or-append_right}
use Rattle.std.proofs.lemmas.List.Edits.{length-insert, insert-append_left, insert-append_right}
use Rattle.btree_node.specs.Cut.{left_of, right_of}
use Rattle.btree_node.specs.declared.node.Node.{Node}
use Rattle.btree_node.specs.declared.node.NodeKind.{NodeKind}
use Rattle.btree_node.specs.declared.node.NodeKind.TheVariants.{Leaf, Inner}
use Rattle.btree_node.specs.Lists.{Element, Each, Ascends}
use Rattle.btree_node.specs.Spelling.{CanStand, IsElement, SonsFit}
use Rattle.btree_node.specs.Written.{with_elements}
use Rattle.btree_node.proofs.SplitLemmas.{Each-take, Each-drop, Ascends-take, Ascends-drop}
use Rattle.btree_insert.specs.Growth.{MayBeOverfull, MayGain}
use Rattle.btree_insert.proofs.OnePageLemmas.{same_parts}
use Rattle.btree_insert.proofs.PlaceLemmas.{leaf_sons, leaf_may_be_overfull}

-- what comes of the elements where the new one comes into the first half
pub record CutLow (els : List Element) (i k : ℕ) (e : Element) : Type 0 where
  pub longer : insert (take k els) i e ≡ take (suc k) (insert els i e)
  pub size : length (insert (take k els) i e) ≡ k + 1
  pub left : remove (insert (take k els) i e) k ≡ take k (insert els i e)
  pub right : drop k els ≡ drop (suc k) (insert els i e)
  pub middle : (d : Element) → get_or (insert (take k els) i e) k d ≡ get_or (insert els i e) k d

pub cut_low : (els : List Element) (i k : ℕ) (e : Element) → i ≤ k → k ≤ length els → CutLow els i k e
cut_low els i k e low within =
    let a = take k els in
    let b = drop k els in
    let x = insert a i e in
    let half : length a ≡ k = length-take-le k els within in
    let size : length x ≡ k + 1 = length-insert a i e (omega (arith, half, low)) ∙ ap (λ n. n + 1) half in
    let one : length x ≡ suc k = omega (arith, size) in
    let whole : insert els i e ≡ x ++ b = ap (λ xs. insert xs i e) (sym (take-append-drop k els)) ∙ insert-append_left a b i e (omega (arith, half, low)) in
    record {
      longer = sym (ap (take (suc k)) whole ∙ take_at x b (suc k) one);
      size = size;
      left = ap (λ xs. take k x ++ xs) (drop_all (suc k) x (omega (arith, size))) ∙ append-nil (take k x) ∙ sym (ap (take k) whole ∙ take-append-le k x b (omega (arith, size)));
      right = sym (ap (drop (suc k)) whole ∙ drop_at x b (suc k) one);
      middle = λ d. sym (ap (λ xs. get_or xs k d) whole ∙ get_or_append_left x b d k (omega (arith, size)));
    }

-- the same where it comes into the second half
pub record CutHigh (els : List Element) (i k : ℕ) (e : Element) : Type 0 where
  pub longer : insert (drop k els) (i - k) e ≡ drop k (insert els i e)
  pub size : length (insert (drop k els) (i - k) e) + k ≡ length els + 1
  pub left : take k els ≡ take k (insert els i e)
  pub right : remove (insert (drop k els) (i - k) e) 0 ≡ drop (suc k) (insert els i e)
  pub middle : (d : Element) → get_or (insert (drop k els) (i - k) e) 0 d ≡ get_or (insert els i e) k d

pub cut_high : (els : List Element) (i k : ℕ) (e : Element) → k < i → i ≤ length els → CutHigh els i k e
cut_high els i k e high within =
    let a = take k els in
    let b = drop k els in
    let y = insert b (i - k) e in
    let half : length a ≡ k = length-take-le k els (omega (arith, high, within)) in
    let whole : insert els i e ≡ a ++ y = ap (λ xs. insert xs i e) (sym (take-append-drop k els)) ∙ insert-append_right a b k i e half (omega (arith, high)) in
    let zero : 0 ≡ k - k = omega arith in
    let next : k + 1 ≡ suc k = omega arith in
    let behind : drop k (insert els i e) ≡ y = ap (drop k) whole ∙ drop_at a y k half in
    record {
      longer = sym behind;
      size = omega (arith, length-insert b (i - k) e (omega (arith, length-drop k els, within)), length-drop k els, high, within);
      left = sym (ap (take k) whole ∙ take_at a y k half);
      right = ap (drop 1) (sym behind) ∙ drop-drop 1 k (insert els i e) ∙ ap (λ n. drop n (insert els i e)) next;
      middle = λ d. ap (λ n. get_or y n d) zero ∙ sym (ap (λ xs. get_or xs k d) whole ∙ get_or-append_right a y k k d half (omega arith));
    }

-- a leaf with some elements that ascend
pub part_stands : (k : ℕ) (n : Node) (xs : List Element) → CanStand n k → n.kind ≡ Leaf → 0 < length xs → length xs ≤ 2 * k → Each IsElement xs → Ascends xs → CanStand (with_elements n xs) k
part_stands k n xs can leaf some most fit ascends = record {
  some = some;
  most = most;
  fit = fit;
  ascends = ascends;
  sons = leaf_sons n.kind (length n.elements.items) (length xs) n.sons.items leaf can.sons;
}

no_sons : (kind : NodeKind) (count : ℕ) (sons : List ℕ) → kind ≡ Leaf → SonsFit kind count sons → sons ≡ []
no_sons Leaf count sons is fit = fit
no_sons Inner count sons is fit = absurd (cc)

-- the halves of a leaf have no sons
pub leaf_left : (k : ℕ) (n : Node) (els : List Element) → CanStand n k → n.kind ≡ Leaf → with_elements n (take k els) ≡ left_of k (with_elements n els)
leaf_left k n els can leaf =
    let none = no_sons n.kind (length n.elements.items) n.sons.items leaf can.sons in
    same_parts (with_elements n (take k els)) (left_of k (with_elements n els)) refl refl (none ∙ sym (ap (take (suc k)) none))

pub leaf_right : (k : ℕ) (n : Node) (els : List Element) → CanStand n k → n.kind ≡ Leaf → with_elements n (drop (suc k) els) ≡ right_of k (with_elements n els)
leaf_right k n els can leaf =
    let none = no_sons n.kind (length n.elements.items) n.sons.items leaf can.sons in
    same_parts (with_elements n (drop (suc k) els)) (right_of k (with_elements n els)) refl refl (none ∙ sym (ap (drop (suc k)) none))

-- a full leaf, and an element that has its place at i
module _ (k i : ℕ) (n : Node) (e : Element) (some : 1 ≤ k) (can : CanStand n k) (gains : MayGain n i e) (fits : IsElement e) (full : length n.elements.items ≡ 2 * k) where
  abbrev els : List Element
  els = n.elements.items

  over : MayBeOverfull k (with_elements n (insert els i e))
  over = leaf_may_be_overfull k n (with_elements n (insert els i e)) i e can gains.leaf gains.place fits refl refl refl

  pub first_size : length (take k els) ≡ k
  first_size = length-take-le k els (omega (arith, full))

  pub last_size : length (drop k els) ≡ k
  last_size = omega (arith, length-drop k els, full)

  pub first_stands : CanStand (with_elements n (take k els)) k
  first_stands =
      part_stands k n (take k els) can gains.leaf (omega (arith, first_size, some)) (omega (arith, first_size)) (Each-take IsElement k els can.fit) (Ascends-take k els can.ascends)

  pub last_stands : CanStand (with_elements n (drop k els)) k
  last_stands =
      part_stands k n (drop k els) can gains.leaf (omega (arith, last_size, some)) (omega (arith, last_size)) (Each-drop IsElement k els can.fit) (Ascends-drop k els can.ascends)

  pub low : i ≤ k → CutLow els i k e
  low is = cut_low els i k e is (omega (arith, full))

  pub low_stands : i ≤ k → CanStand (with_elements n (insert (take k els) i e)) k
  low_stands is =
      let cut = low is in
      part_stands k n (insert (take k els) i e) can gains.leaf (omega (arith, cut.size)) (omega (arith, cut.size, some)) (subst (Each IsElement) (sym cut.longer) (Each-take IsElement (suc k) (insert els i e) over.fit))
      (subst Ascends (sym cut.longer) (Ascends-take (suc k) (insert els i e) over.ascends))

  pub high : k < i → CutHigh els i k e
  high is = cut_high els i k e is gains.place.within

  pub high_stands : k < i → CanStand (with_elements n (insert (drop k els) (i - k) e)) k
  high_stands is =
      let cut = high is in
      part_stands k n (insert (drop k els) (i - k) e) can gains.leaf (omega (arith, cut.size, full)) (omega (arith, cut.size, full, some)) (subst (Each IsElement) (sym cut.longer) (Each-drop IsElement k (insert els i e) over.fit))
      (subst Ascends (sym cut.longer) (Ascends-drop k (insert els i e) over.ascends))
