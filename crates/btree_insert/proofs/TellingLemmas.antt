-- What a sink was told of the elements on a side of a gap.
use Rattle.std.proofs.Common.{◌≡◌, ℕ, zero, suc, ◌+◌, ◌-◌, ◌<◌, ◌≤◌, ◌*◌, Bool, true, false, if◌then◌else◌, Option, Some, None, List, [], ◌∷◌, ◌++◌, T, Result, Ok, Err, length-append, take, drop, reverse, length, get_or, sym, ap, subst, ◌∙◌, arith}
use Rattle.std.proofs.lemmas.List.{append_assoc, append-nil, reverse-append, take_all, take_more, get_or-drop, length-drop}
use Rattle.btree_node.specs.Lists.{Element}
use Rattle.std.specs.Cmp.Lexicographic.{slice_cmp}
use Rattle.std.specs.Ordering.{nat_cmp}
use Rattle.std.specs.FinMap.{is_sorted}
use Rattle.rec_types.specs.Ordered.{is_left, all_right, all_left, in_turn, gap_past}
use Rattle.rec_types.specs.declared.gap.Gap.{Gap}
use Rattle.rec_types.specs.declared.side.Side.{Side}
use Rattle.rec_types.specs.declared.side.Side.TheVariants.{After, Before}
use Rattle.rec_types.proofs.InTurnLemmas.{rest_in_turn}
use Rattle.btree_insert.specs.declared.tree.TreeFault.{TreeFault}
use Rattle.btree_insert.specs.Nearest.{IsLast, TakesTo, TakesFirst}

abbrev pub nobody : Element
nobody = ([], [])

-- a front of the whole was told, up to the rest
abbrev pub ToldTo : (List Element → Type 0) → List Element → List Element → Type 0
ToldTo told whole rest = (front : List Element) × (whole ≡ front ++ rest) × told front

-- one more
seam : (whole front rest : List Element) (x y : Element) (behind : List Element) → whole ≡ front ++ rest → rest ≡ y ∷ behind → x ≡ y → whole ≡ (front ++ x ∷ []) ++ behind
seam whole front rest x y behind whole_is rest_is same =
    whole_is ∙ ap (λ (xs : List Element). front ++ xs) rest_is ∙ sym (append_assoc front (y ∷ []) behind) ∙ ap (λ (z : Element). (front ++ z ∷ []) ++ behind) (sym same)

pub told_more : (told : List Element → Type 0) (whole front rest : List Element) (x y : Element) (behind : List Element) → whole ≡ front ++ rest → rest ≡ y ∷ behind → x ≡ y → told (front ++ x ∷ []) → ToldTo told whole behind
told_more told whole front rest x y behind whole_is rest_is same took = (front ++ x ∷ [], seam whole front rest x y behind whole_is rest_is same, took)

pub stopped_there : (stops : List Element → Type 0) (whole front rest : List Element) (x y : Element) (behind : List Element) → whole ≡ front ++ rest → rest ≡ y ∷ behind → x ≡ y → stops ((front ++ x ∷ []) ++ behind) → stops whole
stopped_there stops whole front rest x y behind whole_is rest_is same stop = subst stops (sym (seam whole front rest x y behind whole_is rest_is same)) stop

-- all of it
pub told_all : (told : List Element → Type 0) (whole rest : List Element) → rest ≡ [] → ToldTo told whole rest → told whole
told_all told whole rest none (front, whole_is, took) = subst told (sym (whole_is ∙ ap (λ (xs : List Element). front ++ xs) none ∙ append-nil front)) took

-- ---- the last of them

last_of : (xs : List Element) (k : ℕ) → suc k ≡ length xs → xs ≡ take k xs ++ get_or xs k nobody ∷ []
last_of xs k is =
    sym (take_all (k + 1) xs (omega (arith, is))) ∙ take_more xs k nobody (omega (arith, is))

pub last_behind_is : (els : List Element) (gap n : ℕ) → gap ≤ n → suc n ≡ length els → (front : List Element) × (drop gap els ≡ front ++ get_or els n nobody ∷ [])
last_behind_is els gap n low is =
    let k = n - gap in
    let at : gap + k ≡ n = omega (arith, low) in
    (take k (drop gap els), last_of (drop gap els) k (omega (arith, low, is, length-drop gap els)) ∙ ap (λ (e : Element). take k (drop gap els) ++ e ∷ []) (get_or-drop gap els k nobody ∙ ap (λ (i : ℕ). get_or els i nobody) at))

pub first_before_is : (els : List Element) (gap : ℕ) → 0 < gap → gap ≤ length els → (front : List Element) × (reverse (take gap els) ≡ front ++ get_or els 0 nobody ∷ [])
first_before_is [] gap some within = absurd (omega (arith, some, within))
first_before_is (e ∷ els) zero some within = absurd (omega (arith, some))
first_before_is (e ∷ els) (suc gap) some within = (reverse (take gap els), reverse-append (e ∷ []) (take gap els))

pub last_is : (es : List Element) (e : Element) (key : List ℕ) → key ≡ e.0 → (front : List Element) × (es ≡ front ++ e ∷ []) → IsLast es (Some key)
last_is es e key is (front, whole) = (front, e, whole, sym is)

-- one before the rest that is told back
pub back_is : (els : List Element) (k : ℕ) → k < length els → reverse (take (suc k) els) ≡ get_or els k nobody ∷ reverse (take k els)
back_is els k low =
    let more : suc k ≡ k + 1 = omega arith in
    ap (λ (n : ℕ). reverse (take n els)) more ∙ ap reverse (take_more els k nobody low) ∙ reverse-append (take k els) (get_or els k nobody ∷ [])

-- the same elements
pub takes_same : {F : Type 0} (told : List Element → Type 0) (stops : List Element → F → Type 0) (es fs : List Element) (taken : Result (Option (List ℕ)) F) → es ≡ fs → TakesTo told stops es taken → TakesTo told stops fs taken
takes_same told stops es fs taken is takes = subst (λ (xs : List Element). TakesTo told stops xs taken) is takes

-- they are no more than there are
few_right : (left : List ℕ → Bool) (es : List Element) → length (all_right left es []) ≤ length es
few_right left [] = omega arith
few_right left (e ∷ es) =
    elim (left e.0) as (λ b. length (if b then all_right left es [] else (e ∷ es) ++ []) ≤ length (e ∷ es)) [
      | true ↦ omega (arith, few_right left es)
      | false ↦ omega (arith, length-append (e ∷ es) [])
    ]

few_left : (left : List ℕ → Bool) (es passed : List Element) → length (all_left left es passed) ≤ length es + length passed
few_left left [] passed = omega arith
few_left left (e ∷ es) passed =
    elim (left e.0) as (λ b. length (if b then all_left left es (e ∷ passed) else passed) ≤ length (e ∷ es) + length passed) [
      | true ↦ omega (arith, few_left left es (e ∷ passed))
      | false ↦ omega arith
    ]

pub few_in_turn : (side : Side) (left : List ℕ → Bool) (es : List Element) → length (in_turn side left es []) ≤ length es
few_in_turn After left es = few_right left es
few_in_turn Before left es = omega (arith, few_left left es [])

-- ---- from leaf to leaf

-- a front of what is on a side of a gap was told, up to those on that side of another gap, which are fewer than so many
abbrev pub ToldUpto : (List Element → Type 0) → Side → Gap → Gap → List Element → ℕ → Type 0
ToldUpto told side from gap es left = ToldTo told (in_turn side (is_left from) es []) (in_turn side (is_left gap) es []) × (length (in_turn side (is_left gap) es []) < left)

pub upto_more : {F : Type 0} (told here next : List Element → Type 0) (stops : List Element → F → Type 0) → ((xs ys : List Element) → told xs → here ys → next (xs ++ ys)) → (side : Side) (from gap : Gap) (last : List ℕ) (es : List Element) (left : ℕ) → T (is_sorted (slice_cmp nat_cmp) es)
    → ToldUpto told side from gap es left → TakesFirst here stops (in_turn side (is_left gap) es []) (Ok (Some last)) → ToldUpto next side from (gap_past side last) es (left - 1)
upto_more told here next stops on side from gap last es left up so_far first =
    let front = so_far.0.0 in
    let at_last = first.takes.1 in
    let e = at_last.1 in
    let whole : in_turn side (is_left gap) es [] ≡ (at_last.0 ++ e ∷ []) ++ first.rest = first.whole ∙ ap (λ (xs : List Element). xs ++ first.rest) at_last.2 in
    let rest : in_turn side (is_left (gap_past side last)) es [] ≡ first.rest = ap (λ (k : List ℕ). in_turn side (is_left (gap_past side k)) es []) (sym at_last.3) ∙ rest_in_turn side (is_left gap) es at_last.0 e first.rest up whole in (
      (
        front ++ first.front,
        so_far.0.1 ∙ ap (λ (xs : List Element). front ++ xs) (first.whole ∙ ap (λ (xs : List Element). first.front ++ xs) (sym rest)) ∙ sym (append_assoc front first.front (in_turn side (is_left (gap_past side last)) es [])),
        on front first.front so_far.0.2 first.takes.0,
      ),
      omega (arith, so_far.1, ap length whole, ap length rest, length-append (at_last.0 ++ e ∷ []) first.rest, length-append at_last.0 (e ∷ [])),
    )

pub upto_all : {F : Type 0} (told here next : List Element → Type 0) (stops : List Element → F → Type 0) → ((xs ys : List Element) → told xs → here ys → next (xs ++ ys)) → (side : Side) (from gap : Gap) (es : List Element) (left : ℕ)
    → ToldUpto told side from gap es left → TakesFirst here stops (in_turn side (is_left gap) es []) (Ok None) → next (in_turn side (is_left from) es [])
upto_all told here next stops on side from gap es left so_far first =
    let none = first.some first.takes.1 in
    let front = so_far.0.0 in
    subst next (ap (λ (xs : List Element). front ++ xs) (first.takes.1 ∙ sym none) ∙ sym so_far.0.1) (on front first.front so_far.0.2 first.takes.0)

pub upto_stop : {F : Type 0} (told here : List Element → Type 0) (stops ends : List Element → F → Type 0) (fault : F) → ((xs ys : List Element) → told xs → stops ys fault → ends (xs ++ ys) fault) → ((xs ys : List Element) → ends xs fault → ends (xs ++ ys) fault) → (side : Side) (from gap : Gap) (es : List Element) (left : ℕ)
    → ToldUpto told side from gap es left → TakesFirst here stops (in_turn side (is_left gap) es []) (Err fault) → ends (in_turn side (is_left from) es []) fault
upto_stop told here stops ends fault on before side from gap es left so_far first =
    let front = so_far.0.0 in
    subst (λ (xs : List Element). ends xs fault) (append_assoc front first.front first.rest ∙ ap (λ (xs : List Element). front ++ xs) (sym first.whole) ∙ sym so_far.0.1)
    (before (front ++ first.front) first.rest (on front first.front so_far.0.2 first.takes))

-- ---- what was read

abbrev pub no_fault : Result (Unit {0}) TreeFault
no_fault = Ok tt

-- one way down more
pub reads_more : (height count left : ℕ) → 0 < left → left ≤ count + 1 → height * (count + 1 - left) + height ≡ height * (count + 1 - (left - 1))
reads_more height count left some within =
    let one : count + 1 - (left - 1) ≡ (count + 1 - left) + 1 = omega (arith, some, within) in
    sym (ap (λ (n : ℕ). height * n) one ∙ next height (count + 1 - left))
  where
    next : (h n : ℕ) → h * (n + 1) ≡ h * n + h
    next h n = grind arith
