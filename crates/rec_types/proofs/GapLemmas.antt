-- A gap among records in the order of their keys, and the records next to it.
use Rattle.std.proofs.Common.{◌≡◌, ℕ, zero, suc, ◌<◌, ◌≤◌, Bool, true, false, not, ◌&&◌, if◌then◌else◌, T, List, [], ◌∷◌, length, map, get_or, Option, Some, None, refl, sym, ap, subst, ◌∙◌, arith}
use Rattle.std.proofs.lemmas.Bool.{false≢true}
use Rattle.std.proofs.lemmas.List.{get_or-map}
use Rattle.std.specs.Ordering.{nat_cmp, is_lt}
use Rattle.std.specs.Cmp.Lexicographic.{slice_cmp, nat_list_cmp_total}
use Rattle.std.specs.declared.cmp.Ordering.{Ordering}
use Rattle.std.specs.declared.cmp.Ordering.TheVariants.{Less, Equal, Greater}
use Rattle.std.specs.Map.{keys_of}
use Rattle.std.specs.FinMap.{entries, entries_sorted, is_sorted}
use Rattle.std.specs.FinMap.Entries.{below_all}
use Rattle.rec_types.specs.Contents.{Contents}
use Rattle.rec_types.specs.KeyOrder.{key_at}
use Rattle.rec_types.specs.Sorted.{Pairs, pair_at}
use Rattle.rec_types.specs.Ordered.{is_key_below, is_left, first_right, last_left, nearest, beside, IsGap, behind_gap, before_gap, at_gap}
use Rattle.rec_types.specs.declared.gap.Gap.{Gap}
use Rattle.rec_types.specs.declared.gap.Gap.TheVariants as gaps
use Rattle.rec_types.specs.declared.side.Side.{Side}
use Rattle.rec_types.specs.declared.side.Side.TheVariants.{After, Before}
use Rattle.rec_types.proofs.KeyOrderLemmas.{key_there}

-- ---- the order of keys as a test

pub less_of : (o : Ordering) → is_lt o ≡ true → o ≡ Less
less_of Less is = refl
less_of Equal is = absurd (false≢true is)
less_of Greater is = absurd (false≢true is)

pub key_below_trans : (x y z : List ℕ) → is_key_below x y ≡ true → is_key_below y z ≡ true → is_key_below x z ≡ true
key_below_trans x y z low high = ap is_lt (nat_list_cmp_total.trans x y z (less_of _ low) (less_of _ high))

-- what lies below a key that lies left lies left
abbrev pub IsDownwards : (List ℕ → Bool) → Type 0
IsDownwards left = (x y : List ℕ) → is_key_below x y ≡ true → left y ≡ true → left x ≡ true

not_true : (b : Bool) → not b ≡ true → b ≡ true → ⊥
not_true true nay yea = false≢true nay
not_true false nay yea = false≢true yea

not_of : (b : Bool) → (b ≡ true → ⊥) → not b ≡ true
not_of true nay = absurd (nay refl)
not_of false nay = refl

pub left_downwards : (gap : Gap) → IsDownwards (is_left gap)
left_downwards gaps.Start x y low is = is
left_downwards (gaps.Before f) x y low is = key_below_trans x y f low is
left_downwards (gaps.Behind f) x y low is = not_of (is_key_below f x) (λ above. not_true (is_key_below f y) is (key_below_trans f x y above low))
left_downwards gaps.End x y low is = refl

-- ---- the records next to a gap

pub first_at : (left : List ℕ → Bool) (es : Pairs) (i : ℕ) (passed : Option (List ℕ × List ℕ)) → IsGap left es i → first_right left es passed ≡ behind_gap es i passed
first_at left [] i passed gap = refl
first_at left (e ∷ es) zero passed gap = ap (λ (b : Bool). if b then first_right left es passed else Some e) gap
first_at left (e ∷ es) (suc i) passed gap = ap (λ (b : Bool). if b then first_right left es passed else Some e) gap.0 ∙ first_at left es i passed gap.1

pub last_at : (left : List ℕ → Bool) (es : Pairs) (i : ℕ) (passed : Option (List ℕ × List ℕ)) → IsGap left es i → last_left left es passed ≡ before_gap es i passed
last_at left [] i passed gap = refl
last_at left (e ∷ es) zero passed gap = ap (λ (b : Bool). if b then last_left left es (Some e) else passed) gap
last_at left (e ∷ es) (suc i) passed gap = ap (λ (b : Bool). if b then last_left left es (Some e) else passed) gap.0 ∙ last_at left es i (Some e) gap.1

-- they are the nearest
pub nearest_at_gap : (side : Side) (left : List ℕ → Bool) (es : Pairs) (i : ℕ) (passed : Option (List ℕ × List ℕ)) → IsGap left es i → nearest side left es passed ≡ at_gap side es i passed
nearest_at_gap After left es i passed gap = first_at left es i passed gap
nearest_at_gap Before left es i passed gap = last_at left es i passed gap

-- there is one gap
pub same_gap : (left : List ℕ → Bool) (es : Pairs) (i j : ℕ) → IsGap left es i → IsGap left es j → i ≡ j
same_gap left [] i j p q = p ∙ sym q
same_gap left (e ∷ es) zero zero p q = refl
same_gap left (e ∷ es) zero (suc j) p q = absurd (false≢true (sym p ∙ q.0))
same_gap left (e ∷ es) (suc i) zero p q = absurd (false≢true (sym q ∙ p.0))
same_gap left (e ∷ es) (suc i) (suc j) p q = ap suc (same_gap left es i j p.1 q.1)

-- ---- a gap in sorted records, by what stands on its two sides

t_first : (a b : Bool) → T (a && b) → a ≡ true
t_first true b p = refl
t_first false b p = absurd p

t_second : (a b : Bool) → T (a && b) → T b
t_second true b p = p
t_second false b p = absurd p

pub below_at : (x : List ℕ) (es : Pairs) (k : ℕ) → T (below_all (slice_cmp nat_cmp) x es) → k < length es → is_key_below x (pair_at es k).0 ≡ true
below_at x [] k all low = absurd (omega (arith, low))
below_at x (e ∷ es) zero all low = t_first _ _ all
below_at x (e ∷ es) (suc k) all low = below_at x es k (t_second (is_key_below x e.0) _ all) (omega (arith, low))

pub gap_of : (left : List ℕ → Bool) → IsDownwards left → (es : Pairs) → T (is_sorted (slice_cmp nat_cmp) es) → (i : ℕ) → i ≤ length es → ((j : ℕ) → suc j ≡ i → left (pair_at es j).0 ≡ true) → (i < length es → left (pair_at es i).0 ≡ false) → IsGap left es i
gap_of left down [] up i within before behind = omega (arith, within)
gap_of left down (e ∷ es) up zero within before behind = behind (omega arith)
gap_of left down (e ∷ es) up (suc zero) within before behind = (
  before 0 refl,
  gap_of left down es (t_second (below_all (slice_cmp nat_cmp) e.0 es) _ up) zero (omega (arith, within)) (λ j is. absurd (omega (arith, is))) (λ more. behind (omega (arith, more))),
)
gap_of left down (e ∷ es) up (suc (suc i)) within before behind = (
  down e.0 (pair_at es i).0 (below_at e.0 es i (subst T (sym (t_first (below_all (slice_cmp nat_cmp) e.0 es) _ up)) tt) (omega (arith, within))) (before (suc i) refl),
  gap_of left down es (t_second (below_all (slice_cmp nat_cmp) e.0 es) _ up) (suc i) (omega (arith, within)) (λ j is. before (suc j) (ap suc is)) (λ more. behind (omega (arith, more))),
)

-- ---- the record beside a gap, by its place in all entries

pub beside_is : (side : Side) (m : Contents) (gap : Gap) (list : Pairs) (i : ℕ) → list ≡ entries m → i ≤ length list
    → ((j : ℕ) → suc j ≡ i → is_left gap (pair_at list j).0 ≡ true) → (i < length list → is_left gap (pair_at list i).0 ≡ false) → at_gap side list i None ≡ beside side m gap
unfolding beside
beside_is side m gap list i is within before behind =
    sym (nearest_at_gap side (is_left gap) list i None (gap_of (is_left gap) (left_downwards gap) list (subst (λ (xs : Pairs). T (is_sorted (slice_cmp nat_cmp) xs)) (sym is) (entries_sorted m)) i within before behind))
    ∙ ap (λ (xs : Pairs). nearest side (is_left gap) xs None) is

-- the key of the pair at a place of a list of places
pub key_placed : (es : Pairs) (places : List ℕ) (j : ℕ) → j < length places → (pair_at (map (pair_at es) places) j).0 ≡ key_at (keys_of es) (get_or places j 0)
key_placed es places j low = ap (λ (e : List ℕ × List ℕ). e.0) (get_or-map (pair_at es) places j 0 ([], []) low) ∙ key_there es (get_or places j 0)

-- ---- the pair next to a gap in a list of places

pub behind_none : (es : Pairs) (i : ℕ) (passed : Option (List ℕ × List ℕ)) → length es ≤ i → behind_gap es i passed ≡ passed
behind_none [] i passed past = refl
behind_none (e ∷ es) zero passed past = absurd (omega (arith, past))
behind_none (e ∷ es) (suc i) passed past = behind_none es i passed (omega (arith, past))

pub behind_some : (es : Pairs) (i : ℕ) (d : List ℕ × List ℕ) (passed : Option (List ℕ × List ℕ)) → i < length es → behind_gap es i passed ≡ Some (get_or es i d)
behind_some [] i d passed low = absurd (omega (arith, low))
behind_some (e ∷ es) zero d passed low = refl
behind_some (e ∷ es) (suc i) d passed low = behind_some es i d passed (omega (arith, low))

pub before_none : (es : Pairs) (i : ℕ) (passed : Option (List ℕ × List ℕ)) → i ≡ 0 → before_gap es i passed ≡ passed
before_none [] i passed is = refl
before_none (e ∷ es) zero passed is = refl
before_none (e ∷ es) (suc i) passed is = absurd (omega (arith, is))

pub before_some : (es : Pairs) (i : ℕ) (d : List ℕ × List ℕ) (passed : Option (List ℕ × List ℕ)) → i < length es → before_gap es (suc i) passed ≡ Some (get_or es i d)
before_some [] i d passed low = absurd (omega (arith, low))
before_some (e ∷ es) zero d passed low = before_none es 0 (Some e) refl
before_some (e ∷ es) (suc i) d passed low = before_some es i d (Some e) (omega (arith, low))
