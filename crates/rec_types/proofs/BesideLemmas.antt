-- The record beside a gap in the words of a finite map.
use Rattle.std.proofs.Common.{◌≡◌, ℕ, zero, suc, ◌<◌, Bool, true, false, not, cond, ◌&&◌, if◌then◌else◌, ◌⊎◌, inl, inr, T, List, [], ◌∷◌, length, Option, Some, None, refl, sym, ap, subst, ◌∙◌, arith}
use Rattle.std.proofs.lemmas.Bool.{false≢true}
use Rattle.std.proofs.lemmas.Map.Lookups.{exact_bytes}
use Rattle.std.specs.Ordering.{nat_cmp, is_lt, is_eq, ordering_reverse}
use Rattle.std.specs.Cmp.Lexicographic.{slice_cmp, nat_list_cmp_total}
use Rattle.std.specs.declared.cmp.Ordering.{Ordering}
use Rattle.std.specs.declared.cmp.Ordering.TheVariants.{Less, Equal, Greater}
use Rattle.std.specs.FinMap.{get, get-entries, entries, entries_sorted, is_sorted, find}
use Rattle.std.specs.FinMap.Entries.{below_all}
use Rattle.rec_types.specs.Contents.{Contents}
use Rattle.rec_types.specs.Sorted.{Pairs, pair_at}
use Rattle.rec_types.specs.Ordered.{is_key_below, is_left, first_right, last_left, beside, IsKeyBelow, LiesBeside, StandsNext, IsNextBeside, IsGap}
use Rattle.rec_types.specs.declared.gap.Gap.{Gap}
use Rattle.rec_types.specs.declared.gap.Gap.TheVariants as gaps
use Rattle.rec_types.specs.declared.side.Side.{Side}
use Rattle.rec_types.specs.declared.side.Side.TheVariants.{After, Before}
use Rattle.rec_types.proofs.GapLemmas.{IsDownwards, left_downwards, less_of, key_below_trans, below_at, gap_of}

abbrev order : List ℕ → List ℕ → Ordering
order = slice_cmp nat_cmp

t_first : (a b : Bool) → T (a && b) → a ≡ true
t_first true b p = refl
t_first false b p = absurd p

t_second : (a b : Bool) → T (a && b) → T b
t_second true b p = p
t_second false b p = absurd p

t_both : (a b : Bool) → a ≡ true → T b → T (a && b)
t_both true b p q = q
t_both false b p q = absurd (false≢true p)

-- ---- what is found in sorted records

skip : (o : Ordering) (a b : Option (List ℕ)) → (o ≡ Equal → ⊥) → cond (is_eq o) a b ≡ b
skip Less a b nay = refl
skip Equal a b nay = absurd (nay refl)
skip Greater a b nay = refl

take_it : (o : Ordering) (a b : Option (List ℕ)) → o ≡ Equal → cond (is_eq o) a b ≡ a
take_it o a b is = ap (λ (x : Ordering). cond (is_eq x) a b) is

itself : (o : Ordering) → o ≡ ordering_reverse o → o ≡ Equal
itself Less is = absurd (false≢true (sym (ap is_lt is)))
itself Equal is = refl
itself Greater is = absurd (false≢true (ap is_lt is))

same_self : (k : List ℕ) → order k k ≡ Equal
same_self k = itself (order k k) (nat_list_cmp_total.antisymm k k)

not_equal : (o : Ordering) → is_lt o ≡ true → o ≡ Equal → ⊥
not_equal o low same = false≢true (sym (ap is_lt same) ∙ low)

below_more : (k x : List ℕ) (es : Pairs) → is_key_below k x ≡ true → T (below_all order x es) → T (below_all order k es)
below_more k x [] low all = tt
below_more k x (e ∷ es) low all =
    t_both (is_key_below k e.0) (below_all order k es) (key_below_trans k x e.0 low (t_first (is_key_below x e.0) _ all)) (below_more k x es low (t_second (is_key_below x e.0) _ all))

below_none : (k : List ℕ) (es : Pairs) → T (below_all order k es) → find order k es ≡ None
below_none k [] all = refl
below_none k (e ∷ es) all = skip (order k e.0) (Some e.1) (find order k es) (not_equal (order k e.0) (t_first (is_key_below k e.0) _ all)) ∙ below_none k es (t_second (is_key_below k e.0) _ all)

-- a key below the first has no record
under_none : (k : List ℕ) (e : List ℕ × List ℕ) (es : Pairs) → T (is_sorted order (e ∷ es)) → is_key_below k e.0 ≡ true → find order k (e ∷ es) ≡ None
under_none k e es up low = below_none k (e ∷ es) (t_both (is_key_below k e.0) (below_all order k es) low (below_more k e.0 es low (subst T (sym (t_first (below_all order e.0 es) (is_sorted order es) up)) tt)))

-- a key that is told apart from the first
past_first : (left : List ℕ → Bool) (b c : Bool) (k : List ℕ) (e : List ℕ × List ℕ) (es : Pairs) → left k ≡ b → left e.0 ≡ c → (b ≡ c → ⊥) → find order k (e ∷ es) ≡ find order k es
past_first left b c k e es here there apart = skip (order k e.0) (Some e.1) (find order k es) (λ same. apart (sym here ∙ ap left (exact_bytes k e.0 same) ∙ there))

false_true : false ≡ true → ⊥
false_true is = false≢true is

true_false : true ≡ false → ⊥
true_false is = false≢true (sym is)

-- ---- the first record that doesn't lie left

pub record RightIs (left : List ℕ → Bool) (es : Pairs) (e : List ℕ × List ℕ) : Type 0 where
  pub stands : find order e.0 es ≡ Some e.1
  pub right : left e.0 ≡ false
  pub next : (k : List ℕ) → left k ≡ false → is_key_below k e.0 ≡ true → find order k es ≡ None

abbrev FindsRight : (List ℕ → Bool) → Pairs → Option (List ℕ × List ℕ) → Type 0
FindsRight left es None = (k : List ℕ) → left k ≡ false → find order k es ≡ None
FindsRight left es (Some e) = RightIs left es e

lift_right : (left : List ℕ → Bool) (x : List ℕ × List ℕ) (xs : Pairs) (r : Option (List ℕ × List ℕ)) → left x.0 ≡ true → FindsRight left xs r → FindsRight left (x ∷ xs) r
lift_right left x xs None is rest = λ k nay. past_first left false true k x xs nay is false_true ∙ rest k nay
lift_right left x xs (Some e) is rest = record {
  stands = past_first left false true e.0 x xs rest.right is false_true ∙ rest.stands;
  right = rest.right;
  next = λ k nay low. past_first left false true k x xs nay is false_true ∙ rest.next k nay low;
}

finds_right : (left : List ℕ → Bool) (es : Pairs) → T (is_sorted order es) → FindsRight left es (first_right left es None)
finds_right left [] up = λ k nay. refl
finds_right left (x ∷ xs) up =
    elim (left x.0) as (λ b. left x.0 ≡ b → FindsRight left (x ∷ xs) (if b then first_right left xs None else Some x)) [
      | true ↦ λ is. lift_right left x xs (first_right left xs None) is (finds_right left xs (t_second (below_all order x.0 xs) _ up))
      | false ↦ λ is. record {
        stands = take_it (order x.0 x.0) (Some x.1) (find order x.0 xs) (same_self x.0);
        right = is;
        next = λ k nay low. under_none k x xs up low;
      }
    ] refl

-- ---- the last record before those that don't

pub record LeftIs (left : List ℕ → Bool) (es : Pairs) (e : List ℕ × List ℕ) : Type 0 where
  pub stands : find order e.0 es ≡ Some e.1
  pub is_left : left e.0 ≡ true
  pub next : (k : List ℕ) → left k ≡ true → is_key_below e.0 k ≡ true → find order k es ≡ None

-- what was passed stays where no record lies left
abbrev FindsLeft : (List ℕ → Bool) → Pairs → Option (List ℕ × List ℕ) → Option (List ℕ × List ℕ) → Type 0
FindsLeft left es passed r = ((r ≡ passed) × ((k : List ℕ) → left k ≡ true → find order k es ≡ None)) ⊎ ((e : List ℕ × List ℕ) × (r ≡ Some e) × LeftIs left es e)

-- a record that is found stands above the first
found_above : (k r : List ℕ) (x : List ℕ × List ℕ) (xs : Pairs) → T (below_all order x.0 xs) → find order k xs ≡ Some r → is_key_below x.0 k ≡ true
found_above k r x [] all found = absurd (cc)
found_above k r x (y ∷ ys) all found =
    elim (order k y.0) as (λ o. order k y.0 ≡ o → cond (is_eq o) (Some y.1) (find order k ys) ≡ Some r → is_key_below x.0 k ≡ true) [
      | Less ↦ λ o is. found_above k r x ys (t_second (is_key_below x.0 y.0) _ all) is
      | Equal ↦ λ o is. ap (is_key_below x.0) (exact_bytes k y.0 o) ∙ t_first (is_key_below x.0 y.0) _ all
      | Greater ↦ λ o is. found_above k r x ys (t_second (is_key_below x.0 y.0) _ all) is
    ] refl found

apart_below : (x k : List ℕ) → is_key_below x k ≡ true → order k x ≡ Equal → ⊥
apart_below x k low same = not_equal (order x k) low (nat_list_cmp_total.antisymm x k ∙ ap ordering_reverse same)

lift_left : (left : List ℕ → Bool) (x : List ℕ × List ℕ) (xs : Pairs) (passed r : Option (List ℕ × List ℕ)) → T (is_sorted order (x ∷ xs)) → left x.0 ≡ true → FindsLeft left xs (Some x) r → FindsLeft left (x ∷ xs) passed r
lift_left left x xs passed r up is (inl (same, none)) = inr (
  x,
  same,
  record {
    stands = take_it (order x.0 x.0) (Some x.1) (find order x.0 xs) (same_self x.0);
    is_left = is;
    next = λ k yea above. skip (order k x.0) (Some x.1) (find order k xs) (apart_below x.0 k above) ∙ none k yea;
  },
)
lift_left left x xs passed r up is (inr (e, same, rest)) =
    let all : T (below_all order x.0 xs) = subst T (sym (t_first (below_all order x.0 xs) (is_sorted order xs) up)) tt in
    let above = found_above e.0 e.1 x xs all rest.stands in
    inr (
      e,
      same,
      record {
        stands = skip (order e.0 x.0) (Some x.1) (find order e.0 xs) (apart_below x.0 e.0 above) ∙ rest.stands;
        is_left = rest.is_left;
        next = λ k yea high. skip (order k x.0) (Some x.1) (find order k xs) (apart_below x.0 k (key_below_trans x.0 e.0 k above high)) ∙ rest.next k yea high;
      },
    )

-- a key that lies left is below one that doesn't
left_under : (left : List ℕ → Bool) → IsDownwards left → (k x : List ℕ) → left k ≡ true → left x ≡ false → is_key_below k x ≡ true
left_under left down k x yea nay =
    elim (order k x) as (λ o. order k x ≡ o → is_lt o ≡ true) [
      | Less ↦ λ o. refl
      | Equal ↦ λ o. absurd (true_false (sym yea ∙ ap left (exact_bytes k x o) ∙ nay))
      | Greater ↦ λ o. absurd (true_false (sym (down x k (ap is_lt (nat_list_cmp_total.antisymm x k ∙ ap ordering_reverse o)) yea) ∙ nay))
    ] refl

finds_left : (left : List ℕ → Bool) → IsDownwards left → (es : Pairs) (passed : Option (List ℕ × List ℕ)) → T (is_sorted order es) → FindsLeft left es passed (last_left left es passed)
finds_left left down [] passed up = inl (refl, λ k yea. refl)
finds_left left down (x ∷ xs) passed up =
    elim (left x.0) as (λ b. left x.0 ≡ b → FindsLeft left (x ∷ xs) passed (if b then last_left left xs (Some x) else passed)) [
      | true ↦ λ is. lift_left left x xs passed (last_left left xs (Some x)) up is (finds_left left down xs (Some x) (t_second (below_all order x.0 xs) _ up))
      | false ↦ λ is. inl (refl, λ k yea. under_none k x xs up (left_under left down k x.0 yea is))
    ] refl

-- ---- in the words of a finite map

not_right : (b : Bool) → not b ≡ false → b ≡ true
not_right true is = refl
not_right false is = absurd (true_false is)

not_low : (o : Ordering) → ordering_reverse o ≡ Less → is_lt o ≡ false
not_low Less is = absurd (false≢true (ap is_lt is))
not_low Equal is = refl
not_low Greater is = refl

-- a key that lies above another isn't below it
above_not : (x y : List ℕ) → IsKeyBelow x y → is_key_below y x ≡ false
above_not x y low = not_low (order y x) (sym (nat_list_cmp_total.antisymm x y) ∙ low)

not_itself : (x : List ℕ) → is_key_below x x ≡ false
not_itself x = ap is_lt (same_self x)

-- one of two keys is the other, or lies above it, where it isn't below
at_or_above : (k f : List ℕ) → is_key_below k f ≡ false → (k ≡ f) ⊎ IsKeyBelow f k
at_or_above k f nay =
    elim (order k f) as (λ o. order k f ≡ o → (k ≡ f) ⊎ IsKeyBelow f k) [
      | Less ↦ λ o. absurd (true_false (sym (ap is_lt o) ∙ nay))
      | Equal ↦ λ o. inl (exact_bytes k f o)
      | Greater ↦ λ o. inr (nat_list_cmp_total.antisymm f k ∙ ap ordering_reverse o)
    ] refl

right_of : (gap : Gap) (k : List ℕ) → LiesBeside After gap k → is_left gap k ≡ false
right_of gaps.Start k is = refl
right_of (gaps.Before f) k (inl is) = ap (λ (x : List ℕ). is_key_below x f) is ∙ not_itself f
right_of (gaps.Before f) k (inr is) = above_not f k is
right_of (gaps.Behind f) k is = ap (λ (o : Ordering). not (is_lt o)) is
right_of gaps.End k is = absurd is

of_right : (gap : Gap) (k : List ℕ) → is_left gap k ≡ false → LiesBeside After gap k
of_right gaps.Start k is = tt
of_right (gaps.Before f) k is = at_or_above k f is
of_right (gaps.Behind f) k is = less_of (order f k) (not_right (is_key_below f k) is)
of_right gaps.End k is = absurd (true_false is)

left_of : (gap : Gap) (k : List ℕ) → LiesBeside Before gap k → is_left gap k ≡ true
left_of gaps.Start k is = absurd is
left_of (gaps.Before f) k is = ap is_lt is
left_of (gaps.Behind f) k (inl is) = ap (λ (x : List ℕ). not (is_key_below f x)) is ∙ ap not (not_itself f)
left_of (gaps.Behind f) k (inr is) = ap not (above_not k f is)
left_of gaps.End k is = refl

not_left : (b : Bool) → not b ≡ true → b ≡ false
not_left true is = absurd (false≢true is)
not_left false is = refl

other_way : (k f : List ℕ) → (f ≡ k) ⊎ IsKeyBelow k f → (k ≡ f) ⊎ IsKeyBelow k f
other_way k f (inl is) = inl (sym is)
other_way k f (inr is) = inr is

of_left : (gap : Gap) (k : List ℕ) → is_left gap k ≡ true → LiesBeside Before gap k
of_left gaps.Start k is = absurd (false≢true is)
of_left (gaps.Before f) k is = less_of (order k f) is
of_left (gaps.Behind f) k is = other_way k f (at_or_above f k (not_left (is_key_below f k) is))
of_left gaps.End k is = tt

right_next : (m : Contents) (gap : Gap) (r : Option (List ℕ × List ℕ)) → FindsRight (is_left gap) (entries m) r → IsNextBeside After m gap r
right_next m gap None is = λ k lies. get-entries m k ∙ is k (right_of gap k lies)
right_next m gap (Some e) is = record {
  stands = get-entries m e.0 ∙ is.stands;
  lies = of_right gap e.0 is.right;
  next = λ k lies under. get-entries m k ∙ is.next k (right_of gap k lies) (ap is_lt under);
}

left_next : (m : Contents) (gap : Gap) (r : Option (List ℕ × List ℕ)) → FindsLeft (is_left gap) (entries m) None r → IsNextBeside Before m gap r
left_next m gap r (inl (same, none)) = subst (IsNextBeside Before m gap) (sym same) (λ k lies. get-entries m k ∙ none k (left_of gap k lies))
left_next m gap r (inr (e, same, is)) =
    let here : StandsNext Before m gap e = record {
      stands = get-entries m e.0 ∙ is.stands;
      lies = of_left gap e.0 is.is_left;
      next = λ k lies over. get-entries m k ∙ is.next k (left_of gap k lies) (ap is_lt over);
    } in
    subst (IsNextBeside Before m gap) (sym same) here

-- the record beside a gap is the next one on that side
pub beside_next : (side : Side) (m : Contents) (gap : Gap) → IsNextBeside side m gap (beside side m gap)
unfolding beside
beside_next After m gap = right_next m gap _ (finds_right (is_left gap) (entries m) (entries_sorted m))
beside_next Before m gap = left_next m gap _ (finds_left (is_left gap) (left_downwards gap) (entries m) None (entries_sorted m))

-- ---- there is one such

some_none : (m : Contents) (k r : List ℕ) → get m k ≡ Some r → get m k ≡ None → ⊥
some_none m k r some none = absurd (cc)

same_pair : (m : Contents) (d e : List ℕ × List ℕ) → d.0 ≡ e.0 → get m d.0 ≡ Some d.1 → get m e.0 ≡ Some e.1 → Some d ≡ Some e
same_pair m d e key_is here there =
    let value_is : d.1 ≡ e.1 = some_one (sym here ∙ ap (get m) key_is ∙ there) in
    λ i. Some (key_is i, value_is i)
  where
    some_one : {x y : List ℕ} → Some x ≡ Some y → x ≡ y
    some_one is = cc

trichotomy : (side : Side) (m : Contents) (gap : Gap) (d e : List ℕ × List ℕ) → StandsNext side m gap d → StandsNext side m gap e → (o : Ordering) → order d.0 e.0 ≡ o → Some d ≡ Some e
trichotomy After m gap d e p q Less is = absurd (some_none m d.0 d.1 p.stands (q.next d.0 p.lies is))
trichotomy After m gap d e p q Greater is = absurd (some_none m e.0 e.1 q.stands (p.next e.0 q.lies (nat_list_cmp_total.antisymm e.0 d.0 ∙ ap ordering_reverse is)))
trichotomy Before m gap d e p q Less is = absurd (some_none m e.0 e.1 q.stands (p.next e.0 q.lies is))
trichotomy Before m gap d e p q Greater is = absurd (some_none m d.0 d.1 p.stands (q.next d.0 p.lies (nat_list_cmp_total.antisymm e.0 d.0 ∙ ap ordering_reverse is)))
trichotomy side m gap d e p q Equal is = same_pair m d e (exact_bytes d.0 e.0 is) p.stands q.stands

pub next_one : (side : Side) (m : Contents) (gap : Gap) (r s : Option (List ℕ × List ℕ)) → IsNextBeside side m gap r → IsNextBeside side m gap s → r ≡ s
next_one side m gap None None p q = refl
next_one side m gap None (Some e) p q = absurd (some_none m e.0 e.1 q.stands (p e.0 q.lies))
next_one side m gap (Some d) None p q = absurd (some_none m d.0 d.1 p.stands (q d.0 p.lies))
next_one side m gap (Some d) (Some e) p q = trichotomy side m gap d e p q (order d.0 e.0) refl

-- ---- the gaps next to a record

neighbours : (es : Pairs) (i : ℕ) → T (is_sorted order es) → suc i < length es → is_key_below (pair_at es i).0 (pair_at es (suc i)).0 ≡ true
neighbours [] i up low = absurd (omega (arith, low))
neighbours (e ∷ es) zero up low = below_at e.0 es 0 (subst T (sym (t_first (below_all order e.0 es) (is_sorted order es) up)) tt) (omega (arith, low))
neighbours (e ∷ es) (suc i) up low = neighbours es i (t_second (below_all order e.0 es) _ up) (omega (arith, low))

-- the gap behind a record
pub gap_behind_place : (es : Pairs) (i : ℕ) → T (is_sorted order es) → i < length es → IsGap (is_left (gaps.Behind (pair_at es i).0)) es (suc i)
gap_behind_place es i up low =
    gap_of (is_left (gaps.Behind (pair_at es i).0)) (left_downwards (gaps.Behind (pair_at es i).0)) es up (suc i) (omega (arith, low))
    (λ j is. ap (λ (n : ℕ). not (is_key_below (pair_at es i).0 (pair_at es n).0)) (one j is) ∙ ap (λ (o : Ordering). not (is_lt o)) (same_self (pair_at es i).0))
    (λ more. ap not (neighbours es i up more))
  where
    one : (j : ℕ) → suc j ≡ suc i → j ≡ i
    one j is = omega (arith, is)

-- the gap before it
pub gap_before_place : (es : Pairs) (i : ℕ) → T (is_sorted order es) → i < length es → IsGap (is_left (gaps.Before (pair_at es i).0)) es i
gap_before_place es i up low =
    gap_of (is_left (gaps.Before (pair_at es i).0)) (left_downwards (gaps.Before (pair_at es i).0)) es up i (omega (arith, low))
    (λ j is. ap (λ (n : ℕ). is_key_below (pair_at es j).0 (pair_at es n).0) (sym is) ∙ neighbours es j up (omega (arith, is, low)))
    (λ more. ap is_lt (same_self (pair_at es i).0))
