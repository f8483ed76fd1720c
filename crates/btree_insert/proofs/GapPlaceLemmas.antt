-- A gap next to a key, by the key's place among elements.
use Rattle.std.proofs.Common.{◌≡◌, ℕ, zero, suc, true, false, not, List, [], ◌∷◌, length, refl, ap, ◌∙◌, subst, arith}
use Rattle.std.proofs.lemmas.Cmp.{nat_list_cmp_total}
use Rattle.std.specs.Ordering.{nat_cmp, is_lt, ordering_reverse}
use Rattle.std.specs.Cmp.Lexicographic.{slice_cmp}
use Rattle.std.specs.declared.cmp.Ordering.{Ordering}
use Rattle.std.specs.declared.cmp.Ordering.TheVariants.{Less, Equal, Greater}
use Rattle.btree_node.specs.Lists.{Element, Each, Below, IsAt, IsPlace}
use Rattle.rec_types.specs.Ordered.{is_key_below, is_left, IsGap}
use Rattle.rec_types.specs.declared.gap.Gap.{Gap}
use Rattle.rec_types.specs.declared.gap.Gap.TheVariants as gaps
use Rattle.rec_types.specs.declared.side.Side.{Side}
use Rattle.rec_types.specs.declared.side.Side.TheVariants.{After, Before}

turned : (o : Ordering) → o ≡ Less → is_lt (ordering_reverse o) ≡ false
turned o is = ap (λ (x : Ordering). is_lt (ordering_reverse x)) is

itself : (o : Ordering) → o ≡ ordering_reverse o → is_lt o ≡ false
itself Less is = ap is_lt is
itself Equal is = refl
itself Greater is = refl

not_above : (x y : List ℕ) → Below x y → is_key_below y x ≡ false
unfolding Below
not_above x y low = ap is_lt (nat_list_cmp_total.antisymm y x) ∙ turned (slice_cmp nat_cmp x y) low

is_below : (x y : List ℕ) → Below x y → is_key_below x y ≡ true
unfolding Below
is_below x y low = ap is_lt low

not_itself : (x : List ℕ) → is_key_below x x ≡ false
not_itself x = itself (slice_cmp nat_cmp x x) (nat_list_cmp_total.antisymm x x)

-- a gap next to a key
abbrev pub next_to : Side → List ℕ → Gap
next_to After key = gaps.Behind key
next_to Before key = gaps.Before key

left_below : (side : Side) (key x : List ℕ) → Below x key → is_left (next_to side key) x ≡ true
left_below After key x low = ap not (not_above x key low)
left_below Before key x low = is_below x key low

right_above : (side : Side) (key x : List ℕ) → Below key x → is_left (next_to side key) x ≡ false
right_above After key x high = ap not (is_below key x high)
right_above Before key x high = not_above key x high

-- a key that stands nowhere
pub gap_of_place : (side : Side) (els : List Element) (key : List ℕ) (i : ℕ) → IsPlace els key i → IsGap (is_left (next_to side key)) els i
gap_of_place side [] key i place = omega (arith, place.within)
gap_of_place side (e ∷ els) key zero place = right_above side key e.0 place.above.0
gap_of_place side (e ∷ els) key (suc i) place =
    (left_below side key e.0 place.below.0, gap_of_place side els key i (record { within = omega (arith, place.within); below = place.below.1; above = place.above }))

gap_first : (els : List Element) (key : List ℕ) → Each (λ e. Below key e.0) els → IsGap (is_left (gaps.Behind key)) els 0
gap_first [] key above = refl
gap_first (e ∷ els) key above = right_above After key e.0 above.0

-- the gap behind a key that stands there
pub gap_behind : (els : List Element) (key : List ℕ) (i : ℕ) → IsAt els key i → IsGap (is_left (gaps.Behind key)) els (suc i)
gap_behind [] key i place = absurd (omega (arith, place.within))
gap_behind (e ∷ els) key zero place =
    (subst (λ (x : List ℕ). not (is_key_below x e.0) ≡ true) (place.here e) (ap not (not_itself e.0)), gap_first els key place.above)
gap_behind (e ∷ els) key (suc i) place =
    (left_below After key e.0 place.below.0, gap_behind els key i (record { within = omega (arith, place.within); below = place.below.1; here = λ d. place.here d; above = place.above }))

-- the gap before it
pub gap_before : (els : List Element) (key : List ℕ) (i : ℕ) → IsAt els key i → IsGap (is_left (gaps.Before key)) els i
gap_before [] key i place = absurd (omega (arith, place.within))
gap_before (e ∷ els) key zero place = subst (λ (x : List ℕ). is_key_below e.0 x ≡ false) (place.here e) (not_itself e.0)
gap_before (e ∷ els) key (suc i) place =
    (left_below Before key e.0 place.below.0, gap_before els key i (record { within = omega (arith, place.within); below = place.below.1; here = λ d. place.here d; above = place.above }))

-- the gaps at the ends
pub gap_at_start : (els : List Element) → IsGap (is_left gaps.Start) els 0
gap_at_start [] = refl
gap_at_start (e ∷ els) = refl

pub gap_at_end : (els : List Element) → IsGap (is_left gaps.End) els (length els)
gap_at_end [] = refl
gap_at_end (e ∷ els) = (refl, gap_at_end els)
