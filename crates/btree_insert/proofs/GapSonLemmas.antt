-- The son that a gap lies below, and what its tree tells of the whole.
use Rattle.std.proofs.Common.{◌≡◌, ℕ, zero, suc, ◌<◌, Bool, true, false, if◌then◌else◌, List, [], ◌∷◌, ◌++◌, length, get_or, Option, Some, refl, sym, ap, ◌∙◌, subst, arith}
use Rattle.std.proofs.lemmas.List.{append_assoc, append-nil}
use Rattle.std.specs.Ordering.{is_lt}
use Rattle.btree_node.specs.declared.node.Node.{Node}
use Rattle.btree_node.specs.Lists.{Element, Each, Below}
use Rattle.btree_node.proofs.ElementOrderLemmas.{Each-map}
use Rattle.rec_types.specs.Ordered.{first_right, last_left, nearest, all_right, all_left, listed_one, in_turn, IsGap, at_gap}
use Rattle.rec_types.specs.declared.side.Side.{Side}
use Rattle.rec_types.specs.declared.side.Side.TheVariants.{After, Before}
use Rattle.rec_types.proofs.GapLemmas.{IsDownwards}
use Rattle.btree_insert.specs.declared.bounds.Bounds.{Bounds}
use Rattle.btree_insert.specs.Bounds.{Between, son_bounds}
use Rattle.btree_insert.specs.PageTrees.{Fan, Body}
use Rattle.btree_insert.proofs.BoundLemmas.{Ascends-before, Between-left, Between-right}
use Rattle.btree_insert.proofs.SonsAroundLemmas.{Stands}

-- keys below one that lies left lie left
left_before : (left : List ℕ → Bool) → IsDownwards left → (xs : List Element) (e : Element) → left e.0 ≡ true → Each (λ x. Below x.0 e.0) xs → Each (λ x. left x.0 ≡ true) xs
unfolding Below
left_before left down xs e is below = Each-map (λ (x : Element). Below x.0 e.0) (λ x. left x.0 ≡ true) xs (λ x low. down x.0 e.0 (ap is_lt low) is) below

first_over : (left : List ℕ → Bool) (xs : List Element) (e : Element) (ys : List Element) (passed : Option Element) → Each (λ x. left x.0 ≡ true) xs → left e.0 ≡ true → first_right left (xs ++ e ∷ ys) passed ≡ first_right left ys passed
first_over left [] e ys passed each is = ap (λ (b : Bool). if b then first_right left ys passed else Some e) is
first_over left (x ∷ xs) e ys passed each is = ap (λ (b : Bool). if b then first_right left (xs ++ e ∷ ys) passed else Some x) each.0 ∙ first_over left xs e ys passed each.1 is

first_stop : (left : List ℕ → Bool) (xs : List Element) (e : Element) (ys : List Element) (passed : Option Element) → left e.0 ≡ false → first_right left (xs ++ e ∷ ys) passed ≡ first_right left xs (Some e)
first_stop left [] e ys passed is = ap (λ (b : Bool). if b then first_right left ys passed else Some e) is
first_stop left (x ∷ xs) e ys passed is = ap (λ (o : Option Element). if left x.0 then o else Some x) (first_stop left xs e ys passed is)

last_over : (left : List ℕ → Bool) (xs : List Element) (e : Element) (ys : List Element) (passed : Option Element) → Each (λ x. left x.0 ≡ true) xs → left e.0 ≡ true → last_left left (xs ++ e ∷ ys) passed ≡ last_left left ys (Some e)
last_over left [] e ys passed each is = ap (λ (b : Bool). if b then last_left left ys (Some e) else passed) is
last_over left (x ∷ xs) e ys passed each is = ap (λ (b : Bool). if b then last_left left (xs ++ e ∷ ys) (Some x) else passed) each.0 ∙ last_over left xs e ys (Some x) each.1 is

last_stop : (left : List ℕ → Bool) (xs : List Element) (e : Element) (ys : List Element) (passed : Option Element) → left e.0 ≡ false → last_left left (xs ++ e ∷ ys) passed ≡ last_left left xs passed
last_stop left [] e ys passed is = ap (λ (b : Bool). if b then last_left left ys (Some e) else passed) is
last_stop left (x ∷ xs) e ys passed is = ap (λ (o : Option Element). if left x.0 then o else passed) (last_stop left xs e ys (Some x) is)

-- a page with no element beside the gap changes nothing
same_none : (side : Side) (left : List ℕ → Bool) (es : List Element) (i : ℕ) (passed : Option Element) → nearest side left es (at_gap side [] i passed) ≡ nearest side left es passed
same_none After left es i passed = refl
same_none Before left es i passed = refl

-- a gap before the first element
same_stop : (side : Side) (left : List ℕ → Bool) (xs : List Element) (e : Element) (ys els : List Element) (passed : Option Element) → left e.0 ≡ false → nearest side left xs (at_gap side (e ∷ els) 0 passed) ≡ nearest side left (xs ++ e ∷ ys) passed
same_stop After left xs e ys els passed is = sym (first_stop left xs e ys passed is)
same_stop Before left xs e ys els passed is = sym (last_stop left xs e ys passed is)

-- a gap behind it
same_over : (side : Side) (left : List ℕ → Bool) (xs : List Element) (e : Element) (ys els zs : List Element) (i : ℕ) (passed : Option Element) → Each (λ x. left x.0 ≡ true) xs → left e.0 ≡ true
    → ((q : Option Element) → nearest side left zs (at_gap side els i q) ≡ nearest side left ys q) → nearest side left zs (at_gap side (e ∷ els) (suc i) passed) ≡ nearest side left (xs ++ e ∷ ys) passed
same_over After left xs e ys els zs i passed each is rest = rest passed ∙ sym (first_over left xs e ys passed each is)
same_over Before left xs e ys els zs i passed each is rest = rest (Some e) ∙ sym (last_over left xs e ys passed each is)

-- ---- those that come in turn

right_over : (left : List ℕ → Bool) (xs : List Element) (e : Element) (ys passed : List Element) → Each (λ x. left x.0 ≡ true) xs → left e.0 ≡ true → all_right left (xs ++ e ∷ ys) passed ≡ all_right left ys passed
right_over left [] e ys passed each is = ap (λ (b : Bool). if b then all_right left ys passed else (e ∷ ys) ++ passed) is
right_over left (x ∷ xs) e ys passed each is = ap (λ (b : Bool). if b then all_right left (xs ++ e ∷ ys) passed else (x ∷ (xs ++ e ∷ ys)) ++ passed) each.0 ∙ right_over left xs e ys passed each.1 is

right_stop : (left : List ℕ → Bool) (xs : List Element) (e : Element) (ys passed : List Element) → left e.0 ≡ false → all_right left (xs ++ e ∷ ys) passed ≡ all_right left xs (e ∷ []) ++ (ys ++ passed)
right_stop left [] e ys passed is = ap (λ (b : Bool). if b then all_right left ys passed else (e ∷ ys) ++ passed) is
right_stop left (x ∷ xs) e ys passed is =
    elim (left x.0) as (λ b. (if b then all_right left (xs ++ e ∷ ys) passed else (x ∷ (xs ++ e ∷ ys)) ++ passed) ≡ (if b then all_right left xs (e ∷ []) else (x ∷ xs) ++ e ∷ []) ++ (ys ++ passed)) [
      | true ↦ right_stop left xs e ys passed is
      | false ↦ ap (λ (zs : List Element). x ∷ zs) (append_assoc xs (e ∷ ys) passed ∙ sym (append_assoc xs (e ∷ []) (ys ++ passed)))
    ]

left_behind : (left : List ℕ → Bool) (xs passed more : List Element) → all_left left xs (passed ++ more) ≡ all_left left xs passed ++ more
left_behind left [] passed more = refl
left_behind left (x ∷ xs) passed more =
    elim (left x.0) as (λ b. (if b then all_left left xs (x ∷ (passed ++ more)) else passed ++ more) ≡ (if b then all_left left xs (x ∷ passed) else passed) ++ more) [
      | true ↦ left_behind left xs (x ∷ passed) more
      | false ↦ refl
    ]

-- what those before an element that lies left leave behind it
left_over : (left : List ℕ → Bool) (xs : List Element) (e : Element) (ys passed : List Element) → Each (λ x. left x.0 ≡ true) xs → left e.0 ≡ true → (more : List Element) × (all_left left (xs ++ e ∷ ys) passed ≡ all_left left ys (e ∷ []) ++ more)
left_over left [] e ys passed each is = (passed, ap (λ (b : Bool). if b then all_left left ys (e ∷ passed) else passed) is ∙ left_behind left ys (e ∷ []) passed)
left_over left (x ∷ xs) e ys passed each is =
    let rest = left_over left xs e ys (x ∷ passed) each.1 is in
    (rest.0, ap (λ (b : Bool). if b then all_left left (xs ++ e ∷ ys) (x ∷ passed) else passed) each.0 ∙ rest.1)

left_stop : (left : List ℕ → Bool) (xs : List Element) (e : Element) (ys passed : List Element) → left e.0 ≡ false → all_left left (xs ++ e ∷ ys) passed ≡ all_left left xs passed
left_stop left [] e ys passed is = ap (λ (b : Bool). if b then all_left left ys (e ∷ passed) else passed) is
left_stop left (x ∷ xs) e ys passed is = ap (λ (zs : List Element). if left x.0 then zs else passed) (left_stop left xs e ys (x ∷ passed) is)

-- those of the whole are those of a part, and more behind them
abbrev pub GoesBefore : List Element → List Element → Type 0
GoesBefore part whole = (rest : List Element) × (whole ≡ part ++ rest)

turn_none : (side : Side) (left : List ℕ → Bool) (es : List Element) (passed : Option Element) → GoesBefore (in_turn side left es (listed_one (at_gap side [] 0 passed))) (in_turn side left es (listed_one passed))
turn_none After left es passed = ([], sym (append-nil (all_right left es (listed_one passed))))
turn_none Before left es passed = ([], sym (append-nil (all_left left es (listed_one passed))))

turn_stop : (side : Side) (left : List ℕ → Bool) (xs : List Element) (e : Element) (ys els : List Element) (passed : Option Element) → left e.0 ≡ false
    → GoesBefore (in_turn side left xs (listed_one (at_gap side (e ∷ els) 0 passed))) (in_turn side left (xs ++ e ∷ ys) (listed_one passed))
turn_stop After left xs e ys els passed is = (ys ++ listed_one passed, right_stop left xs e ys (listed_one passed) is)
turn_stop Before left xs e ys els passed is = ([], left_stop left xs e ys (listed_one passed) is ∙ sym (append-nil (all_left left xs (listed_one passed))))

turn_over : (side : Side) (left : List ℕ → Bool) (xs : List Element) (e : Element) (ys els zs : List Element) (i : ℕ) (passed : Option Element) → Each (λ x. left x.0 ≡ true) xs → left e.0 ≡ true
    → ((q : Option Element) → GoesBefore (in_turn side left zs (listed_one (at_gap side els i q))) (in_turn side left ys (listed_one q)))
    → GoesBefore (in_turn side left zs (listed_one (at_gap side (e ∷ els) (suc i) passed))) (in_turn side left (xs ++ e ∷ ys) (listed_one passed))
turn_over After left xs e ys els zs i passed each is rest =
    let below = rest passed in
    (below.0, right_over left xs e ys (listed_one passed) each is ∙ below.1)
turn_over Before left xs e ys els zs i passed each is rest =
    let below = rest (Some e) in
    let over = left_over left xs e ys (listed_one passed) each is in (
      below.0 ++ over.0,
      over.1 ∙ ap (λ (ws : List Element). ws ++ over.0) below.1 ∙ append_assoc (all_left left zs (listed_one (at_gap Before els i (Some e)))) below.0 over.0,
    )

-- the son that the gap lies below: with the element passed beside the gap, its tree tells what the whole tells
pub record GapSon (tree : Stands) (side : Side) (left : List ℕ → Bool) (sons : List ℕ) (els es : List Element) (i : ℕ) (b : Bounds) : Type 0 where
  pub xs : List Element
  pub mine : List ℕ
  pub within : i < length sons
  pub here : tree (get_or sons i 0) xs mine
  pub between : Between (son_bounds els i b) xs
  pub same : (passed : Option Element) → nearest side left xs (at_gap side els i passed) ≡ nearest side left es passed
  pub turn : (passed : Option Element) → GoesBefore (in_turn side left xs (listed_one (at_gap side els i passed))) (in_turn side left es (listed_one passed))

pub fan_gap : (tree : Stands) (side : Side) (left : List ℕ → Bool) → IsDownwards left → (sons : List ℕ) (els es : List Element) (us : List ℕ) (i : ℕ) (b : Bounds) → Fan tree sons els es us → Between b es → IsGap left els i → GapSon tree side left sons els es i b
fan_gap tree side left down [] els es us i b fan between gap = absurd fan
fan_gap tree side left down (s ∷ []) (e ∷ els) es us i b fan between gap = absurd fan
fan_gap tree side left down (s ∷ (t ∷ ss)) [] es us i b fan between gap = absurd fan
fan_gap tree side left down (s ∷ []) [] es us (suc i) b fan between gap = absurd (omega (arith, gap))
fan_gap tree side left down (s ∷ []) [] es us zero b fan between gap = record {
  xs = es;
  mine = us;
  within = omega arith;
  here = fan;
  between = between;
  same = λ passed. same_none side left es 0 passed;
  turn = λ passed. turn_none side left es passed;
}
fan_gap tree side left down (s ∷ (t ∷ ss)) (e ∷ els) es us zero b (xs, ys, here, rest, first, more, es_is, us_is) between gap = record {
  xs = xs;
  mine = here;
  within = omega arith;
  here = first;
  between = Between-left b xs e ys (subst (Between b) es_is between);
  same = λ passed. same_stop side left xs e ys els passed gap ∙ ap (λ (zs : List Element). nearest side left zs passed) (sym es_is);
  turn = λ passed. subst (λ (zs : List Element). GoesBefore (in_turn side left xs (listed_one (at_gap side (e ∷ els) 0 passed))) (in_turn side left zs (listed_one passed))) (sym es_is) (turn_stop side left xs e ys els passed gap);
}
fan_gap tree side left down (s ∷ (t ∷ ss)) (e ∷ els) es us (suc i) b (xs, ys, here, rest, first, more, es_is, us_is) between gap =
    let bounded = subst (Between b) es_is between in
    let sub = fan_gap tree side left down (t ∷ ss) els ys rest i (record { low = Some e.0; high = b.high }) more (Between-right b xs e ys bounded) gap.1 in
    record {
      xs = sub.xs;
      mine = sub.mine;
      within = omega (arith, sub.within);
      here = sub.here;
      between = sub.between;
      same = λ passed.
          same_over side left xs e ys els sub.xs i passed (left_before left down xs e gap.0 (Ascends-before xs e ys bounded.ascends)) gap.0 sub.same
          ∙ ap (λ (zs : List Element). nearest side left zs passed) (sym es_is);
      turn = λ passed.
          subst (λ (zs : List Element). GoesBefore (in_turn side left sub.xs (listed_one (at_gap side (e ∷ els) (suc i) passed))) (in_turn side left zs (listed_one passed))) (sym es_is)
          (turn_over side left xs e ys els sub.xs i passed (left_before left down xs e gap.0 (Ascends-before xs e ys bounded.ascends)) gap.0 sub.turn);
    }

-- ---- a node with so many levels below it

-- a leaf has all elements
pub leaf_elements : (tree : Stands) (h : ℕ) (n : Node) (es : List Element) (us : List ℕ) → h ≡ 0 → Body tree h n es us → es ≡ n.elements.items
leaf_elements tree zero n es us is (kind, es_is, us_is) = es_is
leaf_elements tree (suc h) n es us is body = absurd (omega (arith, is))

pub inner_gap : (tree : Stands) (h : ℕ) (n : Node) (es : List Element) (us : List ℕ) (side : Side) (left : List ℕ → Bool) (i : ℕ) (b : Bounds) → IsDownwards left → 0 < h → Body tree h n es us → Between b es → IsGap left n.elements.items i
    → GapSon tree side left n.sons.items n.elements.items es i b
inner_gap tree zero n es us side left i b down some body between gap = absurd (omega (arith, some))
inner_gap tree (suc h) n es us side left i b down some (kind, fan) between gap = fan_gap tree side left down n.sons.items n.elements.items es us i b fan between gap
