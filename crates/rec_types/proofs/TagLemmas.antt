-- Keys told by numbers.
use Rattle.std.proofs.Common.{◌≡◌, ℕ, ◌+◌, ◌/◌, ◌<◌, ◌≤◌, Bool, true, false, ltb, List, [], ◌∷◌, ◌++◌, All, length, map, get_or, refl, sym, ap, subst, ◌∙◌, inl, inr, arith, append_assoc, length-append}
use Rattle.std.specs.Cmp.Lexicographic.{slice_cmp, nat_list_cmp_total}
use Rattle.std.specs.List.{AllByRecursion, AllAdjacentBelow, IsAllAdjacentAnswer, range_with_len}
use Rattle.std.specs.List.Sorted.{IsPermutation, IsSorted}
use Rattle.std.specs.Ordering.{nat_cmp, is_lt, ordering_reverse}
use Rattle.std.proofs.Math.Seq.{get_or-append_seam}
use Rattle.std.proofs.lemmas.Bool.{cases_lt}
use Rattle.std.proofs.lemmas.Bool.Decides.{nat_tests}
use Rattle.std.proofs.lemmas.List.{get_or-map, get_or_default, length-map}
use Rattle.std.proofs.lemmas.List.Elements.{All-from_recursion}
use Rattle.std.proofs.lemmas.List.Sorted.{All-permutation, IsPermutation-map}
use Rattle.byteorder.specs.Endian.{big_number}
use Rattle.rec_types.specs.KeyOrder.{key_at}
use Rattle.rec_types.specs.Padded.{AreBytes}
use Rattle.rec_types.specs.Tags.{tag_of, tags_from, place_in}
use Rattle.rec_types.proofs.NumberOrder.{less_by_number}

place_in_tag : (place : ℕ) (key : List ℕ) → place < 1048576 → place_in (tag_of place key) ≡ place
place_in_tag place key below = omega (arith, below)

front_in_tag : (place : ℕ) (key : List ℕ) → place < 1048576 → tag_of place key / 1048576 ≡ big_number 8 key / 1048576
front_in_tag place key below = omega (arith, below)

-- the tags tell of all places, in their order
tags_tell : (place : ℕ) (keys : List (List ℕ)) → place + length keys ≤ 1048576 → map place_in (tags_from place keys) ≡ range_with_len place (length keys)
tags_tell place [] few = refl
tags_tell place (key ∷ keys) few =
    let head = place_in_tag place key (omega (arith, few)) in
    let rest = tags_tell (place + 1) keys (omega (arith, few)) in
    λ i. head i ∷ rest i

-- sorted tags tell of all places
pub told_all : (keys : List (List ℕ)) (tags sorted places : List ℕ) → length keys ≤ 1048576 → tags ≡ tags_from 0 keys → IsPermutation tags sorted → places ≡ map place_in sorted → IsPermutation (range_with_len 0 (length keys)) places
told_all keys tags sorted places few are moved is =
    let all : map place_in tags ≡ range_with_len 0 (length keys) = ap (map place_in) are ∙ tags_tell 0 keys (omega (arith, few)) in
    subst (λ xs. IsPermutation xs places) all (subst (IsPermutation (map place_in tags)) (sym is) (IsPermutation-map place_in tags sorted moved))

-- ---- where the first bits tell the keys apart

-- what a tag says of its key
record IsTagIn (keys : List (List ℕ)) (tag : ℕ) : Type 0 where
  front : tag / 1048576 ≡ big_number 8 (key_at keys (place_in tag)) / 1048576
  bytes : AreBytes (key_at keys (place_in tag))

tags_in : (before keys : List (List ℕ)) → All AreBytes (before ++ keys) → length before + length keys ≤ 1048576 → AllByRecursion (IsTagIn (before ++ keys)) (tags_from (length before) keys)
tags_in before [] bytes few = tt
tags_in before (key ∷ keys) bytes few =
    let below : length before < 1048576 = omega (arith, few) in
    let there : key_at (before ++ key ∷ keys) (place_in (tag_of (length before) key)) ≡ key = ap (key_at (before ++ key ∷ keys)) (place_in_tag (length before) key below) ∙ get_or-append_seam before key keys [] in
    let longer : length before + 1 ≡ length (before ++ key ∷ []) = sym (length-append before (key ∷ [])) in
    let all : before ++ key ∷ keys ≡ (before ++ key ∷ []) ++ keys = sym (append_assoc before (key ∷ []) keys) in
    let head : IsTagIn (before ++ key ∷ keys) (tag_of (length before) key) = record {
      front = front_in_tag (length before) key below ∙ ap (λ (k : List ℕ). big_number 8 k / 1048576) (sym there);
      bytes = subst AreBytes (ap (key_at (before ++ key ∷ keys)) (sym (place_in_tag (length before) key below))) (bytes (length before) [] (omega (arith, length-append before (key ∷ keys))));
    } in
    let rest = tags_in (before ++ key ∷ []) keys (subst (All AreBytes) all bytes) (omega (arith, few, longer)) in
    (head, subst (λ n. AllByRecursion (IsTagIn (before ++ key ∷ keys)) (tags_from n keys)) (sym longer) (subst (λ ks. AllByRecursion (IsTagIn ks) (tags_from (length (before ++ key ∷ [])) keys)) (sym all) rest))

below_then : (keys : List (List ℕ)) (t u : ℕ) → IsTagIn keys t → IsTagIn keys u → t / 1048576 < u / 1048576 → is_lt (slice_cmp nat_cmp (key_at keys (place_in u)) (key_at keys (place_in t))) ≡ false
below_then keys t u of also below =
    let less = less_by_number 8 (key_at keys (place_in t)) (key_at keys (place_in u)) of.bytes also.bytes (omega (arith, below, of.front, also.front)) in
    ap is_lt (nat_list_cmp_total.antisymm (key_at keys (place_in u)) (key_at keys (place_in t)) ∙ ap ordering_reverse less)

-- the keys are in order
pub told_sorted : (keys : List (List ℕ)) (tags sorted places : List ℕ) → length keys ≤ 1048576 → All AreBytes keys → tags ≡ tags_from 0 keys → IsPermutation tags sorted → places ≡ map place_in sorted
    → AllAdjacentBelow (λ t u. t / 1048576 < u / 1048576) sorted (length sorted) → IsSorted (slice_cmp nat_cmp) (map (key_at keys) places)
told_sorted keys tags sorted places few bytes are moved is apart =
    let each : All (IsTagIn keys) sorted = All-permutation (IsTagIn keys) tags sorted moved (All-from_recursion (IsTagIn keys) tags (subst (AllByRecursion (IsTagIn keys)) (sym are) (tags_in [] keys bytes (omega (arith, few))))) in
    subst (λ ps. IsSorted (slice_cmp nat_cmp) (map (key_at keys) ps)) (sym is) (λ k d _ within.
    let next : k + 1 < length sorted = omega (arith, within, length-map (map place_in sorted) (key_at keys), length-map sorted place_in) in
    let here : k < length sorted = omega (arith, next) in
    let told : (i : ℕ) → i < length sorted → get_or (map (key_at keys) (map place_in sorted)) i d ≡ key_at keys (place_in (get_or sorted i 0)) =
    λ i below. get_or-map (key_at keys) (map place_in sorted) i 0 d (omega (arith, below, length-map sorted place_in)) ∙ ap (key_at keys) (get_or-map place_in sorted i 0 0 below) in
    (λ i. is_lt (slice_cmp nat_cmp (told (k + 1) next i) (told k here i))) ∙ below_then keys (get_or sorted k 0) (get_or sorted (k + 1) 0) (each k 0 here) (each (k + 1) 0 next) (apart k 0 next))

-- what the test of neighbours says
less_of : (a b : ℕ) → true ≡ ltb a b → a < b
less_of a b is = grind (arith, nat_tests, is)

pub apart_answer : (tags : List ℕ) (r : Bool) → r ≡ true → IsAllAdjacentAnswer (λ t u b. b ≡ ltb (t / 1048576) (u / 1048576)) tags r → AllAdjacentBelow (λ t u. t / 1048576 < u / 1048576) tags (length tags)
apart_answer tags true is up = λ k d within. less_of (get_or tags k d / 1048576) (get_or tags (k + 1) d / 1048576) (up k d within)
apart_answer tags false is up = absurd (cc)

-- one key more is of bytes
pub bytes_more : (keys : List (List ℕ)) (n : ℕ) (key : List ℕ) → ((k : ℕ) (d : List ℕ) → k < n → AreBytes (get_or keys k d)) → n < length keys → key ≡ get_or keys n key → AreBytes key → (k : ℕ) (d : List ℕ) → k < n + 1 → AreBytes (get_or keys k d)
bytes_more keys n key before within is here k d below = elim (cases_lt k n) [
  | inl less ↦ before k d less
  | inr from ↦
      let same : n ≡ k = omega (arith, from, below) in
      subst AreBytes (is ∙ get_or_default keys n key d within ∙ ap (λ (i : ℕ). get_or keys i d) same) here
]
