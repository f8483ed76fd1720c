-- Where a text is cut at the first byte that passes a test.
use Rattle.std.proofs.Common.{◌≡◌, ℕ, ◌+◌, ◌-◌, ◌<◌, Bool, true, false, cond, nat_lt, List, [], ◌∷◌, length, take, drop, get_or, Some, None, refl, subst, arith}
use Rattle.std.proofs.lemmas.Bool.Decides.{nat_tests}
use Rattle.std.specs.List.{slice_split, position, position_or_len}
use Rattle.std.proofs.lemmas.List.Splits.{slice_split_first, slice_split_none}
use Rattle.std.proofs.lemmas.List.Sums.{fails_before_first}
use Rattle.std.proofs.lemmas.List.{take_all, length-drop}

found_is : (b : Bool) (n i : ℕ) → cond b (Some n) None ≡ Some i → (b ≡ true) × (n ≡ i)
found_is true n i is = (refl, cc)
found_is false n i is = absurd (cc)

none_is : (b : Bool) (n : ℕ) → cond b (Some n) None ≡ None → b ≡ false
none_is true n is = absurd (cc)
none_is false n is = refl

-- a text is cut at the first byte that passes, and the rest is cut on
pub cut_some : (p : ℕ → Bool) (xs : List ℕ) (i : ℕ) → position p xs ≡ Some i → (i < length xs) × (slice_split p xs ≡ take i xs ∷ slice_split p (drop (i + 1) xs))
cut_some p xs i is =
    let found = found_is (nat_lt (position_or_len p xs) (length xs)) (position_or_len p xs) i is in
    let lt : position_or_len p xs < length xs = grind (arith, nat_tests, found.0) in
    subst (λ n. (n < length xs) × (slice_split p xs ≡ take n xs ∷ slice_split p (drop (n + 1) xs))) found.1 (lt, slice_split_first p xs 0 lt)

-- a text of which no byte passes is one part
pub cut_none : (p : ℕ → Bool) (xs : List ℕ) → position p xs ≡ None → slice_split p xs ≡ xs ∷ []
cut_none p xs is =
    let none = none_is (nat_lt (position_or_len p xs) (length xs)) (position_or_len p xs) is in
    slice_split_none p xs (λ k d lt. fails_before_first p xs k d (grind (arith, nat_tests, none)))

-- where no byte passes, each byte fails
pub all_fail : (p : ℕ → Bool) (xs : List ℕ) → position p xs ≡ None → (k : ℕ) → k < length xs → p (get_or xs k 0) ≡ false
all_fail p xs is k lt =
    let none = none_is (nat_lt (position_or_len p xs) (length xs)) (position_or_len p xs) is in
    fails_before_first p xs k 0 (grind (arith, nat_tests, none))

-- what is left after a cut, as a range gives it
pub rest_cut : (xs : List ℕ) (n : ℕ) → take (length xs - n) (drop n xs) ≡ drop n xs
rest_cut xs n = take_all _ _ (omega (arith, length-drop {A = ℕ}))
