-- What a sink was told.
use Rattle.std.proofs.Common.{◌≡◌, ℕ, ◌+◌, ◌-◌, ◌<◌, suc, List, [], ◌∷◌, ◌++◌, Result, Ok, Err, length, get_or, take, drop, map, reverse, refl, ap, sym, ◌∙◌, subst, arith}
use Rattle.std.proofs.Math.Seq.{drop-cons}
use Rattle.std.proofs.lemmas.List.{map-append, map_push, take-append-drop, take_more, reverse-append, take_all, drop-map, length-drop}
use Rattle.std.specs.List.{take-map}
use Rattle.rec_types.specs.Sorted.{Pairs, pair_at}
use Rattle.rec_types.specs.Told.{Takes, TakesFront, TakesPart, TellsAll, TellsUntil}

abbrev pub Told : Type 1
Told = Pairs → Type 0

-- the same pair
pub told_pair : {F : Type 0} (told : Told) (stops : Pairs → F → Type 0) (p q : List ℕ × List ℕ) (r : Result (Unit {0}) F) → p ≡ q → Takes told stops (p ∷ []) r → Takes told stops (q ∷ []) r
told_pair told stops p q r is takes = subst (λ (x : List ℕ × List ℕ). Takes told stops (x ∷ []) r) is takes

-- nothing was told yet
pub none_of : (told : Told) (es : Pairs) → told [] → TakesPart told es
none_of told es none = record { front = []; rest = es; whole = refl; took = none }

-- a front is a part
pub front_is_part : (told : Told) (es : Pairs) → TakesFront told es → TakesPart told es
front_is_part told es part = record { front = part.front; rest = part.next ∷ part.rest; whole = part.whole; took = part.took }

-- all, or a front up to a fault of the device, are all, or a part up to a fault
pub all_until : {E F : Type 0} (device : E) (told : Told) (stops : Pairs → F → Type 0) (es : Pairs) (r : Result (Result (Unit {0}) F) E) → TellsAll device told stops es r → TellsUntil told stops es r
all_until device told stops es (Ok (Ok done)) is = is
all_until device told stops es (Ok (Err fault)) is = is
all_until device told stops es (Err fault) is = front_is_part told es is.1

-- the pairs at one more place
pub pairs_to : (es : Pairs) (places : List ℕ) (k : ℕ) → k < length places → map (pair_at es) (take k places) ++ pair_at es (get_or places k 0) ∷ [] ≡ map (pair_at es) (take (k + 1) places)
pairs_to es places k below = sym (map_push (pair_at es) (take k places) (get_or places k 0)) ∙ ap (map (pair_at es)) (sym (take_more places k 0 below))

-- the same pairs
pub told_pairs : {F : Type 0} (told : Told) (stops : Pairs → F → Type 0) (es fs : Pairs) (r : Result (Unit {0}) F) → es ≡ fs → Takes told stops es r → Takes told stops fs r
told_pairs told stops es fs r is takes = subst (λ (xs : Pairs). Takes told stops xs r) is takes

-- and those at the places behind it
pub pairs_behind : (es : Pairs) (places : List ℕ) (k : ℕ) → k < length places → (map (pair_at es) (take k places) ++ pair_at es (get_or places k 0) ∷ []) ++ map (pair_at es) (drop (k + 1) places) ≡ map (pair_at es) places
pairs_behind es places k below =
    ap (λ (xs : Pairs). xs ++ map (pair_at es) (drop (k + 1) places)) (pairs_to es places k below)
    ∙ sym (map-append (pair_at es) (take (k + 1) places) (drop (k + 1) places))
    ∙ ap (map (pair_at es)) (take-append-drop (k + 1) places)

-- ---- the last first

-- those from a place on, and the one before it
pub back_to : (es : Pairs) (places : List ℕ) (k : ℕ) → k < length places → reverse (map (pair_at es) (drop (suc k) places)) ++ pair_at es (get_or places k 0) ∷ [] ≡ reverse (map (pair_at es) (drop k places))
back_to es places k below =
    sym (reverse-append (pair_at es (get_or places k 0) ∷ []) (map (pair_at es) (drop (suc k) places)))
    ∙ ap (λ (xs : List ℕ). reverse (map (pair_at es) xs)) (sym (drop-cons places k 0 below))

-- and those before that
pub back_whole : (es : Pairs) (places : List ℕ) (k : ℕ) → reverse (map (pair_at es) (drop k places)) ++ reverse (map (pair_at es) (take k places)) ≡ reverse (map (pair_at es) places)
back_whole es places k =
    sym (reverse-append (map (pair_at es) (take k places)) (map (pair_at es) (drop k places)))
    ∙ ap reverse (sym (map-append (pair_at es) (take k places) (drop k places)) ∙ ap (map (pair_at es)) (take-append-drop k places))

-- ---- those on a side of a place

pub pairs_from : (es : Pairs) (places : List ℕ) (i : ℕ) → map (pair_at es) (take (length places - i) (drop i places)) ≡ drop i (map (pair_at es) places)
pairs_from es places i =
    ap (map (pair_at es)) (take_all (length places - i) (drop i places) (omega (arith, length-drop i places))) ∙ sym (drop-map (pair_at es) i places)

pub pairs_upto : (es : Pairs) (places : List ℕ) (i : ℕ) → reverse (map (pair_at es) (take i places)) ≡ reverse (take i (map (pair_at es) places))
pairs_upto es places i = ap reverse (sym (take-map (pair_at es) i places))
