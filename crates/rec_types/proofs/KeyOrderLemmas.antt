-- Places in the order of keys.
use Rattle.std.proofs.Common.{◌≡◌, ℕ, zero, suc, ◌+◌, ◌<◌, Bool, List, [], ◌∷◌, ◌++◌, All, length, map, get_or, take, slice_get, slice_index_or, Some, refl, sym, ap, subst, ◌∙◌, arith}
use Rattle.std.specs.Cmp.{IsStrictWeakOrder}
use Rattle.std.specs.Cmp.Lexicographic.{slice_cmp, nat_list_cmp_total, nat_list_eq_equiv, options_total}
use Rattle.std.specs.FinMap.{entries, from_entries}
use Rattle.std.specs.List.{range_with_len, IsDistinct}
use Rattle.std.specs.List.Sorted.{IsPermutation, IsSorted, IsSortedBy}
use Rattle.std.specs.Map.{keys_of}
use Rattle.std.specs.Option.{option_cmp}
use Rattle.std.specs.Ordering.{nat_cmp, is_lt}
use Rattle.std.proofs.lemmas.List.{get_or-map, length-map, map_push, take_more}
use Rattle.std.proofs.lemmas.List.FromFn.{length-range_with_len, get_or-range_with_len, fill_by_all}
use Rattle.std.proofs.lemmas.List.Sorted.{All-permutation, IsPermutation-map, ranks_by}
use Rattle.indexmap.proofs.MapLemmas.{lookup_permutation, distinct_permutation}
use Rattle.rec_types.specs.Contents.{Contents}
use Rattle.rec_types.specs.KeyOrder.{key_at, IsOrderOf}
use Rattle.rec_types.specs.Sorted.{Pairs, same_bytes, pair_at}
use Rattle.rec_types.proofs.HashedLemmas.{entries_hashed, reordered, strictly}

-- the places are those of keys
pub within : (n : ℕ) (places : List ℕ) → IsPermutation (range_with_len 0 n) places → All (λ place. place < n) places
within n places moves =
    All-permutation (λ place. place < n) (range_with_len 0 n) places moves (λ k d below.
    let here : k < n = omega (arith, below, length-range_with_len 0 n) in
    omega (arith, here, get_or-range_with_len 0 n k d here))

-- ---- a sort of places by the keys there

-- a place behind the last key goes first
abbrev pub goes_before : List (List ℕ) → ℕ → ℕ → Bool
goes_before keys a b = is_lt (option_cmp (slice_cmp nat_cmp) (slice_get keys a) (slice_get keys b))

pub places_ranked : (keys : List (List ℕ)) → IsStrictWeakOrder (goes_before keys)
places_ranked keys = ranks_by (options_total nat_list_cmp_total) (slice_get keys)

got : (keys : List (List ℕ)) (place : ℕ) → place < length keys → slice_get keys place ≡ Some (key_at keys place)
got [] place below = absurd (omega (arith, below))
got (key ∷ keys) zero below = refl
got (key ∷ keys) (suc place) below = got keys place (omega (arith, below))

pub sorted_there : (keys : List (List ℕ)) (places : List ℕ) → IsPermutation (range_with_len 0 (length keys)) places → IsSortedBy (goes_before keys) places → IsSorted (slice_cmp nat_cmp) (map (key_at keys) places)
sorted_there keys places moves up = λ k d _ next.
    let after : k + 1 < length places = omega (arith, next, length-map places (key_at keys)) in
    let here : k < length places = omega (arith, after) in
    let all = within (length keys) places moves in
    let one = got keys (get_or places k 0) (all k 0 here) in
    let other = got keys (get_or places (k + 1) 0) (all (k + 1) 0 after) in
    (λ i. is_lt (slice_cmp nat_cmp (get_or-map (key_at keys) places (k + 1) 0 d after i) (get_or-map (key_at keys) places k 0 d here i)))
    ∙ (λ i. is_lt (option_cmp (slice_cmp nat_cmp) (sym other i) (sym one i)))
    ∙ up k 0 (omega arith) after

-- ---- the pairs at the places

-- one more
pub pairs_more : (es : Pairs) (places : List ℕ) (k : ℕ) (so_far new : Pairs) → k < length places → so_far ≡ map (pair_at es) (take k places) → new ≡ so_far ++ pair_at es (get_or places k 0) ∷ [] → new ≡ map (pair_at es) (take (k + 1) places)
pairs_more es places k so_far new below before is =
    is ∙ ap (λ (xs : Pairs). xs ++ pair_at es (get_or places k 0) ∷ []) before ∙ sym (map_push (pair_at es) (take k places) (get_or places k 0)) ∙ ap (map (pair_at es)) (sym (take_more places k 0 below))

pub key_there : (es : Pairs) (place : ℕ) → (pair_at es place).0 ≡ key_at (keys_of es) place
key_there [] place = refl
key_there (e ∷ es) zero = refl
key_there (e ∷ es) (suc place) = key_there es place

keys_there : (es : Pairs) (places : List ℕ) → keys_of (map (pair_at es) places) ≡ map (key_at (keys_of es)) places
keys_there es [] = refl
keys_there es (place ∷ places) = λ i. key_there es place i ∷ keys_there es places i

-- what stands at all places is the whole, in another order
all_there : {X : Type 0} (xs : List X) (d : X) (places : List ℕ) → IsPermutation (range_with_len 0 (length xs)) places → IsPermutation xs (map (λ place. slice_index_or xs place d) places)
all_there xs d places moves =
    let whole : xs ≡ map (λ place. slice_index_or xs place d) (range_with_len 0 (length xs)) = fill_by_all (λ place. slice_index_or xs place d) xs (length xs) d refl (λ k below. refl) in
    subst (λ ys. IsPermutation ys (map (λ place. slice_index_or xs place d) places)) (sym whole) (IsPermutation-map (λ place. slice_index_or xs place d) _ places moves)

pub keys_moved : (keys : List (List ℕ)) (places : List ℕ) → IsPermutation (range_with_len 0 (length keys)) places → IsPermutation keys (map (key_at keys) places)
keys_moved keys places moves = all_there keys [] places moves

moved : (es : Pairs) (places : List ℕ) → IsPermutation (range_with_len 0 (length (keys_of es))) places → IsPermutation es (map (pair_at es) places)
moved es places moves = all_there es ([], []) places (subst (λ (n : ℕ). IsPermutation (range_with_len 0 n) places) (length-map es (λ e. e.0)) moves)

-- in the order of the keys they are the entries of the contents
pub listed : (es : Pairs) (places : List ℕ) → IsDistinct same_bytes (keys_of es) → IsOrderOf (keys_of es) places → map (pair_at es) places ≡ entries (from_entries {R = slice_cmp nat_cmp} es)
listed es places unique order =
    let fs = map (pair_at es) places in
    let moves = moved es places order.all in
    let distinct : IsDistinct same_bytes (keys_of fs) = distinct_permutation nat_list_eq_equiv (keys_of es) (keys_of fs) (IsPermutation-map (λ e. e.0) es fs moves) unique in
    let rises = strictly fs (subst (IsSorted (slice_cmp nat_cmp)) (sym (keys_there es places)) order.sorted) distinct in
    sym (entries_hashed fs rises) ∙ ap (λ (m : Contents). entries m) (reordered es fs (λ q. lookup_permutation nat_list_eq_equiv es fs moves distinct (same_bytes q) (nat_list_eq_equiv.congr q)))

-- one place more
pub one_more : (n : ℕ) → range_with_len 0 (n + 1) ≡ range_with_len 0 n ++ n ∷ []
one_more n = ap (range_with_len 0) (add_one n) ∙ at 0 n ∙ ap (λ (x : ℕ). range_with_len 0 n ++ x ∷ []) (from_none n)
  where
    add_one : (n : ℕ) → n + 1 ≡ suc n
    add_one n = omega arith

    from_none : (n : ℕ) → 0 + n ≡ n
    from_none n = omega arith

    at : (a n : ℕ) → range_with_len a (suc n) ≡ range_with_len a n ++ (a + n) ∷ []
    at a zero = let e : a ≡ a + 0 = omega arith in λ i. e i ∷ []
    at a (suc n) =
        let e : a + 1 + n ≡ a + suc n = omega arith in
        ap (λ (xs : List ℕ). a ∷ xs) (at (a + 1) n ∙ ap (λ (x : ℕ). range_with_len (a + 1) n ++ x ∷ []) e)
