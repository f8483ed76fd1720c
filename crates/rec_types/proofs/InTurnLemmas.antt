-- The records on a side of a gap, one after another.
use Rattle.std.proofs.Common.{◌≡◌, ℕ, zero, suc, ◌<◌, ◌≤◌, Bool, true, false, if◌then◌else◌, T, List, [], ◌∷◌, ◌++◌, take, drop, reverse, length, slice_get, Option, Some, None, refl, sym, ap, subst, ◌∙◌, arith}
use Rattle.std.proofs.Math.Seq.{take-append_seam}
use Rattle.std.proofs.lemmas.List.{append_assoc, append-nil, reverse-append, reverse-reverse, take-append-drop, length-drop, length-take, length-reverse}
use Rattle.std.specs.Cmp.Lexicographic.{slice_cmp}
use Rattle.std.specs.Ordering.{nat_cmp}
use Rattle.std.specs.FinMap.{entries, entries_sorted, is_sorted, len, len-entries}
use Rattle.rec_types.specs.Contents.{Contents}
use Rattle.rec_types.specs.Sorted.{Pairs, pair_at}
use Rattle.rec_types.specs.Ordered.{is_left, first_right, last_left, nearest, beside, all_right, all_left, listed_one, in_turn, all_beside, from_gap, gap_past, IsGap, walk_on, walked}
use Rattle.rec_types.specs.declared.gap.Gap.{Gap}
use Rattle.rec_types.specs.declared.gap.Gap.TheVariants as gaps
use Rattle.rec_types.specs.declared.side.Side.{Side}
use Rattle.rec_types.specs.declared.side.Side.TheVariants.{After, Before}
use Rattle.rec_types.proofs.GapLemmas.{left_downwards, gap_of}
use Rattle.rec_types.proofs.BesideLemmas.{gap_behind_place, gap_before_place}

-- ---- by the gap

no_drop : (i : ℕ) (passed : Pairs) → i ≡ 0 → passed ≡ drop i [] ++ passed
no_drop i passed is = ap (λ (n : ℕ). drop n [] ++ passed) (sym is)

right_at : (left : List ℕ → Bool) (es : Pairs) (i : ℕ) (passed : Pairs) → IsGap left es i → all_right left es passed ≡ drop i es ++ passed
right_at left [] i passed gap = no_drop i passed gap
right_at left (e ∷ es) zero passed gap = ap (λ (b : Bool). if b then all_right left es passed else (e ∷ es) ++ passed) gap
right_at left (e ∷ es) (suc i) passed gap = ap (λ (b : Bool). if b then all_right left es passed else (e ∷ es) ++ passed) gap.0 ∙ right_at left es i passed gap.1

-- one more in front of what is turned around
pub turned : (e : List ℕ × List ℕ) (xs passed : Pairs) → reverse xs ++ e ∷ passed ≡ reverse (e ∷ xs) ++ passed
turned e xs passed = sym (append_assoc (reverse xs) (e ∷ []) passed) ∙ ap (λ (ys : Pairs). ys ++ passed) (sym (reverse-append (e ∷ []) xs))

no_take : (i : ℕ) (passed : Pairs) → i ≡ 0 → passed ≡ reverse (take i []) ++ passed
no_take i passed is = ap (λ (n : ℕ). reverse (take n []) ++ passed) (sym is)

left_at : (left : List ℕ → Bool) (es : Pairs) (i : ℕ) (passed : Pairs) → IsGap left es i → all_left left es passed ≡ reverse (take i es) ++ passed
left_at left [] i passed gap = no_take i passed gap
left_at left (e ∷ es) zero passed gap = ap (λ (b : Bool). if b then all_left left es (e ∷ passed) else passed) gap
left_at left (e ∷ es) (suc i) passed gap =
    ap (λ (b : Bool). if b then all_left left es (e ∷ passed) else passed) gap.0
    ∙ left_at left es i (e ∷ passed) gap.1
    ∙ turned e (take i es) passed

pub turn_at_gap : (side : Side) (left : List ℕ → Bool) (es : Pairs) (i : ℕ) (passed : Pairs) → IsGap left es i → in_turn side left es passed ≡ from_gap side es i ++ passed
turn_at_gap After left es i passed gap = right_at left es i passed gap
turn_at_gap Before left es i passed gap = left_at left es i passed gap

-- all records beside a gap, by its place in all entries
pub all_beside_is : (side : Side) (m : Contents) (gap : Gap) (list : Pairs) (i : ℕ) → list ≡ entries m → i ≤ length list
    → ((j : ℕ) → suc j ≡ i → is_left gap (pair_at list j).0 ≡ true) → (i < length list → is_left gap (pair_at list i).0 ≡ false) → from_gap side list i ≡ all_beside side m gap
unfolding all_beside
all_beside_is side m gap list i is within before behind =
    sym (append-nil (from_gap side list i))
    ∙ sym (turn_at_gap side (is_left gap) list i [] (gap_of (is_left gap) (left_downwards gap) list (subst (λ (xs : Pairs). T (is_sorted (slice_cmp nat_cmp) xs)) (sym is) (entries_sorted m)) i within before behind))
    ∙ ap (λ (xs : Pairs). in_turn side (is_left gap) xs []) is

-- ---- the nearest is the first

abbrev pub first_of : Pairs → Option (List ℕ × List ℕ)
first_of [] = None
first_of (e ∷ es) = Some e

first_passed : (passed : Option (List ℕ × List ℕ)) → first_of (listed_one passed) ≡ passed
first_passed None = refl
first_passed (Some e) = refl

first_is_right : (left : List ℕ → Bool) (es : Pairs) (passed : Option (List ℕ × List ℕ)) (behind : Pairs) → first_of behind ≡ passed → first_of (all_right left es behind) ≡ first_right left es passed
first_is_right left [] passed behind is = is
first_is_right left (e ∷ es) passed behind is =
    elim (left e.0) as (λ b. first_of (if b then all_right left es behind else (e ∷ es) ++ behind) ≡ (if b then first_right left es passed else Some e)) [
      | true ↦ first_is_right left es passed behind is
      | false ↦ refl
    ]

first_is_left : (left : List ℕ → Bool) (es : Pairs) (passed : Option (List ℕ × List ℕ)) (behind : Pairs) → first_of behind ≡ passed → first_of (all_left left es behind) ≡ last_left left es passed
first_is_left left [] passed behind is = is
first_is_left left (e ∷ es) passed behind is =
    elim (left e.0) as (λ b. first_of (if b then all_left left es (e ∷ behind) else behind) ≡ (if b then last_left left es (Some e) else passed)) [
      | true ↦ first_is_left left es (Some e) (e ∷ behind) refl
      | false ↦ is
    ]

pub first_is_nearest : (side : Side) (left : List ℕ → Bool) (es : Pairs) (passed : Option (List ℕ × List ℕ)) → first_of (in_turn side left es (listed_one passed)) ≡ nearest side left es passed
first_is_nearest After left es passed = first_is_right left es passed (listed_one passed) (first_passed passed)
first_is_nearest Before left es passed = first_is_left left es passed (listed_one passed) (first_passed passed)

got_first : (es : Pairs) → slice_get es 0 ≡ first_of es
got_first [] = refl
got_first (e ∷ es) = refl

-- the record beside a gap is the first of all beside it
pub first_is_beside : (side : Side) (m : Contents) (gap : Gap) → slice_get (all_beside side m gap) 0 ≡ beside side m gap
unfolding beside all_beside
first_is_beside side m gap = got_first (in_turn side (is_left gap) (entries m) []) ∙ first_is_nearest side (is_left gap) (entries m) None

-- none is there where there is no nearest
none_first : (es : Pairs) → first_of es ≡ None → es ≡ []
none_first [] is = refl
none_first (e ∷ es) is = absurd (cc)

pub none_in_turn : (side : Side) (left : List ℕ → Bool) (es : Pairs) → nearest side left es None ≡ None → in_turn side left es [] ≡ []
none_in_turn side left es is = none_first (in_turn side left es []) (first_is_nearest side left es None ∙ is)

-- ---- what is left behind a front that was told

-- how many records lie left
count_left : (left : List ℕ → Bool) (es : Pairs) → (i : ℕ) × IsGap left es i
count_left left [] = (0, refl)
count_left left (e ∷ es) =
    elim (left e.0) as (λ b. left e.0 ≡ b → (i : ℕ) × IsGap left (e ∷ es) i) [
      | true ↦ λ is. let rest = count_left left es in (suc rest.0, (is, rest.1))
      | false ↦ λ is. (0, is)
    ] refl

pair_at_seam : (xs : Pairs) (e : List ℕ × List ℕ) (ys : Pairs) → pair_at (xs ++ e ∷ ys) (length xs) ≡ e
pair_at_seam [] e ys = refl
pair_at_seam (x ∷ xs) e ys = pair_at_seam xs e ys

low_seam : (xs : Pairs) (e : List ℕ × List ℕ) (ys : Pairs) → length xs < length (xs ++ e ∷ ys)
low_seam [] e ys = omega arith
low_seam (x ∷ xs) e ys = omega (arith, low_seam xs e ys)

drop_seam : (xs : Pairs) (e : List ℕ × List ℕ) (ys : Pairs) → drop (suc (length xs)) (xs ++ e ∷ ys) ≡ ys
drop_seam [] e ys = refl
drop_seam (x ∷ xs) e ys = drop_seam xs e ys

-- behind a record of sorted ones
pub right_of_seam : (xs : Pairs) (e : List ℕ × List ℕ) (ys : Pairs) → T (is_sorted (slice_cmp nat_cmp) (xs ++ e ∷ ys)) → in_turn After (is_left (gap_past After e.0)) (xs ++ e ∷ ys) [] ≡ ys
right_of_seam xs e ys up =
    let es = xs ++ e ∷ ys in
    turn_at_gap After (is_left (gaps.Behind e.0)) es (suc (length xs)) [] (subst (λ (k : List ℕ). IsGap (is_left (gaps.Behind k)) es (suc (length xs))) (ap (λ (p : List ℕ × List ℕ). p.0) (pair_at_seam xs e ys)) (gap_behind_place es (length xs) up (low_seam xs e ys)))
    ∙ append-nil (drop (suc (length xs)) es)
    ∙ drop_seam xs e ys

-- before it
pub left_of_seam : (xs : Pairs) (e : List ℕ × List ℕ) (ys : Pairs) → T (is_sorted (slice_cmp nat_cmp) (xs ++ e ∷ ys)) → in_turn Before (is_left (gap_past Before e.0)) (xs ++ e ∷ ys) [] ≡ reverse xs
left_of_seam xs e ys up =
    let es = xs ++ e ∷ ys in
    turn_at_gap Before (is_left (gaps.Before e.0)) es (length xs) [] (subst (λ (k : List ℕ). IsGap (is_left (gaps.Before k)) es (length xs)) (ap (λ (p : List ℕ × List ℕ). p.0) (pair_at_seam xs e ys)) (gap_before_place es (length xs) up (low_seam xs e ys)))
    ∙ append-nil (reverse (take (length xs) es))
    ∙ ap reverse (take-append_seam xs (e ∷ ys))

-- gap_past the last record of a front stands the rest
pub rest_in_turn : (side : Side) (left : List ℕ → Bool) (es front : Pairs) (e : List ℕ × List ℕ) (rest : Pairs) → T (is_sorted (slice_cmp nat_cmp) es) → in_turn side left es [] ≡ (front ++ e ∷ []) ++ rest
    → in_turn side (is_left (gap_past side e.0)) es [] ≡ rest
rest_in_turn After left es front e rest up is =
    let gap = count_left left es in
    let behind : drop gap.0 es ≡ front ++ e ∷ rest = sym (append-nil (drop gap.0 es)) ∙ sym (turn_at_gap After left es gap.0 [] gap.1) ∙ is ∙ append_assoc front (e ∷ []) rest in
    let whole : es ≡ (take gap.0 es ++ front) ++ e ∷ rest = sym (take-append-drop gap.0 es) ∙ ap (λ (xs : Pairs). take gap.0 es ++ xs) behind ∙ sym (append_assoc (take gap.0 es) front (e ∷ rest)) in
    ap (λ (xs : Pairs). in_turn After (is_left (gap_past After e.0)) xs []) whole
    ∙ right_of_seam (take gap.0 es ++ front) e rest (subst (λ (xs : Pairs). T (is_sorted (slice_cmp nat_cmp) xs)) whole up)
rest_in_turn Before left es front e rest up is =
    let gap = count_left left es in
    let back : reverse (take gap.0 es) ≡ (front ++ e ∷ []) ++ rest = sym (append-nil (reverse (take gap.0 es))) ∙ sym (turn_at_gap Before left es gap.0 [] gap.1) ∙ is in
    let ahead : take gap.0 es ≡ reverse rest ++ e ∷ reverse front = sym (reverse-reverse (take gap.0 es)) ∙ ap reverse back ∙ reverse-append (front ++ e ∷ []) rest ∙ ap (λ (xs : Pairs). reverse rest ++ xs) (reverse-append front (e ∷ [])) in
    let whole : es ≡ reverse rest ++ e ∷ (reverse front ++ drop gap.0 es) =
    sym (take-append-drop gap.0 es) ∙ ap (λ (xs : Pairs). xs ++ drop gap.0 es) ahead ∙ append_assoc (reverse rest) (e ∷ reverse front) (drop gap.0 es) in
    ap (λ (xs : Pairs). in_turn Before (is_left (gap_past Before e.0)) xs []) whole
    ∙ left_of_seam (reverse rest) e (reverse front ++ drop gap.0 es) (subst (λ (xs : Pairs). T (is_sorted (slice_cmp nat_cmp) xs)) whole up)
    ∙ reverse-reverse rest

-- ---- a walk tells them

nothing_next : (side : Side) (m : Contents) (gap : Gap) → in_turn side (is_left gap) (entries m) [] ≡ [] → beside side m gap ≡ None
unfolding beside
nothing_next side m gap is = sym (first_is_nearest side (is_left gap) (entries m) None) ∙ ap first_of is

some_next : (side : Side) (m : Contents) (gap : Gap) (e : List ℕ × List ℕ) (es : Pairs) → in_turn side (is_left gap) (entries m) [] ≡ e ∷ es → beside side m gap ≡ Some e
unfolding beside
some_next side m gap e es is = sym (first_is_nearest side (is_left gap) (entries m) None) ∙ ap first_of is

walk_by : (side : Side) (m : Contents) (n : ℕ) (gap : Gap) (es : Pairs) → in_turn side (is_left gap) (entries m) [] ≡ es → length es ≤ n → walk_on (beside side m) side n gap ≡ es
walk_by side m zero gap [] is few = refl
walk_by side m zero gap (e ∷ es) is few = absurd (omega (arith, few))
walk_by side m (suc n) gap [] is few = ap (λ (o : Option (List ℕ × List ℕ)). elim o as (λ _. Pairs) [ None ↦ [] | Some e ↦ e ∷ walk_on (beside side m) side n (gap_past side e.0) ]) (nothing_next side m gap is)
walk_by side m (suc n) gap (e ∷ es) is few =
    ap (λ (o : Option (List ℕ × List ℕ)). elim o as (λ _. Pairs) [ None ↦ [] | Some d ↦ d ∷ walk_on (beside side m) side n (gap_past side d.0) ]) (some_next side m gap e es is)
    ∙ ap (λ (xs : Pairs). e ∷ xs) (walk_by side m n (gap_past side e.0) es (rest_in_turn side (is_left gap) (entries m) [] e es (entries_sorted m) is) (omega (arith, few)))

few_beside : (side : Side) (es : Pairs) (i : ℕ) → length (from_gap side es i) ≤ length es
few_beside After es i = omega (arith, length-drop i es)
few_beside Before es i = omega (arith, length-reverse (take i es), length-take i es)

-- going on from a gap tells all records beside it
pub walked_all : (side : Side) (m : Contents) (gap : Gap) → walked side m (len m) gap ≡ all_beside side m gap
unfolding all_beside
walked_all side m gap =
    let here = count_left (is_left gap) (entries m) in
    let all_is = turn_at_gap side (is_left gap) (entries m) here.0 [] here.1 ∙ append-nil (from_gap side (entries m) here.0) in
    ap (λ (n : ℕ). walked side m n gap) (len-entries m)
    ∙ walk_by side m (length (entries m)) gap (in_turn side (is_left gap) (entries m) []) refl (omega (arith, few_beside side (entries m) here.0, ap (λ (xs : Pairs). length xs) all_is))

gap_at_start : (es : Pairs) → IsGap (is_left gaps.Start) es 0
gap_at_start [] = refl
gap_at_start (e ∷ es) = refl

gap_at_end : (es : Pairs) → IsGap (is_left gaps.End) es (length es)
gap_at_end [] = refl
gap_at_end (e ∷ es) = (refl, gap_at_end es)

-- behind the start stand all records in order
pub all_from_start : (m : Contents) → all_beside After m gaps.Start ≡ entries m
unfolding all_beside
all_from_start m = turn_at_gap After (is_left gaps.Start) (entries m) 0 [] (gap_at_start (entries m)) ∙ append-nil (entries m)

-- before the end all in falling order
pub all_from_end : (m : Contents) → all_beside Before m gaps.End ≡ reverse (entries m)
unfolding all_beside
all_from_end m = turn_at_gap Before (is_left gaps.End) (entries m) (length (entries m)) [] (gap_at_end (entries m)) ∙ append-nil (reverse (take (length (entries m)) (entries m))) ∙ ap reverse (take-all (entries m))
  where
    take-all : (es : Pairs) → take (length es) es ≡ es
    take-all [] = refl
    take-all (e ∷ es) = ap (λ (xs : Pairs). e ∷ xs) (take-all es)
