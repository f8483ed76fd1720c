-- Bytes in their order are numbers in theirs, highest byte first, and then lengths.
use Rattle.std.proofs.Common.{◌≡◌, ℕ, zero, suc, ◌+◌, ◌-◌, ◌*◌, ◌^◌, ◌<◌, ◌≤◌, List, [], ◌∷◌, ◌++◌, length, replicate, slice_index, refl, ap, sym, ◌∙◌, arith}
use Rattle.std.proofs.Math.Nat.{add-mul, mul-le-mul_right}
use Rattle.std.specs.Ordering.{nat_cmp, ordering_then, MatchOrdering}
use Rattle.std.specs.declared.cmp.Ordering.{Ordering}
use Rattle.std.specs.declared.cmp.Ordering.TheVariants.{Less, Equal, Greater}
use Rattle.std.specs.Cmp.{nat_cmp_is, ranks}
use Rattle.std.specs.Cmp.Lexicographic.{slice_cmp}
use Rattle.byteorder.specs.Endian.{big_from, big_number}
use Rattle.byteorder.specs.Numbers.{big_from-cons, big_from-lt}
use Rattle.rec_types.specs.KeyBytes.{key_bytes_of, IsKey}
use Rattle.rec_types.specs.Padded.{padded, AreBytes}
use Rattle.rec_types.specs.Taken.{length_taken}
use Rattle.rec_types.specs.declared.key.Key.TheInside.{Inside}

-- past the end stands 0, so zeros at the end change nothing
index-zeros : (m i : ℕ) → slice_index (replicate m 0) i ≡ 0
index-zeros zero i = refl
index-zeros (suc m) zero = refl
index-zeros (suc m) (suc i) = index-zeros m i

index-padded : (xs : List ℕ) (m i : ℕ) → slice_index (xs ++ replicate m 0) i ≡ slice_index xs i
index-padded [] m i = index-zeros m i
index-padded (x ∷ xs) m zero = refl
index-padded (x ∷ xs) m (suc i) = index-padded xs m i

same_number : (i n : ℕ) (xs ys : List ℕ) → ((j : ℕ) → slice_index xs j ≡ slice_index ys j) → big_from i n xs ≡ big_from i n ys
same_number i zero xs ys same = refl
same_number i (suc n) xs ys same =
    ap (λ (b : ℕ). b * 256 ^ n + big_from (suc i) n xs) (same i) ∙ ap (λ (r : ℕ). slice_index ys i * 256 ^ n + r) (same_number (suc i) n xs ys same)

-- zeros behind bytes don't change their number
pub number-padded : (n width : ℕ) (xs : List ℕ) → big_number n (padded width xs) ≡ big_number n xs
unfolding padded
number-padded n width xs = same_number 0 n _ xs (index-padded xs _)

-- where padded bytes are bytes, the bytes are
pub bytes-padded : (width : ℕ) (xs : List ℕ) → AreBytes (padded width xs) → AreBytes xs
unfolding padded
bytes-padded width xs bytes i = omega (arith, bytes i, index-padded xs (width - length xs) i)

number-none : (i n : ℕ) → big_from i n [] ≡ 0
number-none i zero = refl
number-none i (suc n) = omega (arith, number-none (suc i) n)

-- a number that is not above, and a smaller length
is_less : (a b c d : ℕ) → a ≤ b → c < d → Less ≡ ordering_then (nat_cmp a b) (nat_cmp c d)
is_less a b c d le lt = at (nat_cmp a b) (ranks a b)
  where
    at : (r : Ordering) → MatchOrdering r (a < b) (a ≡ b) (b < a) → Less ≡ ordering_then r (nat_cmp c d)
    at Less is = refl
    at Equal is = nat_cmp_is c d Less lt
    at Greater is = absurd (omega (arith, is, le))

is_greater : (a b c d : ℕ) → b ≤ a → d < c → Greater ≡ ordering_then (nat_cmp a b) (nat_cmp c d)
is_greater a b c d le lt = at (nat_cmp a b) (ranks a b)
  where
    at : (r : Ordering) → MatchOrdering r (a < b) (a ≡ b) (b < a) → Greater ≡ ordering_then r (nat_cmp c d)
    at Less is = absurd (omega (arith, is, le))
    at Equal is = nat_cmp_is c d Greater lt
    at Greater is = refl

-- the same on both sides
cmp-add : (c a b : ℕ) → nat_cmp a b ≡ nat_cmp (c + a) (c + b)
cmp-add c a b = nat_cmp_is (c + a) (c + b) (nat_cmp a b) (at (nat_cmp a b) (ranks a b))
  where
    at : (r : Ordering) → MatchOrdering r (a < b) (a ≡ b) (b < a) → MatchOrdering r (c + a < c + b) (c + a ≡ c + b) (c + b < c + a)
    at Less is = omega (arith, is)
    at Equal is = ap (λ (n : ℕ). c + n) is
    at Greater is = omega (arith, is)

one_more : (n : ℕ) → 1 + n ≡ suc n
one_more n = omega arith

cmp-suc : (a b : ℕ) → nat_cmp a b ≡ nat_cmp (suc a) (suc b)
cmp-suc a b = cmp-add 1 a b ∙ (λ i. nat_cmp (one_more a i) (one_more b i))

-- the first byte decides, where the rest is below its worth
below_by_first : (x y p a b : ℕ) → x < y → a < p → x * p + a < y * p + b
below_by_first x y p a b lt rest =
    let more : (x + 1) * p ≤ y * p = mul-le-mul_right p (omega arith) in
    omega (arith, more, add-mul x 1 p)

first_then_rest : (x y p a b : ℕ) (rest : Ordering) (m n : ℕ) → a < p → b < p → rest ≡ ordering_then (nat_cmp a b) (nat_cmp m n)
    → ordering_then (nat_cmp x y) rest ≡ ordering_then (nat_cmp (x * p + a) (y * p + b)) (nat_cmp (suc m) (suc n))
first_then_rest x y p a b rest m n low high is = at (nat_cmp x y) (ranks x y)
  where
    at : (r : Ordering) → MatchOrdering r (x < y) (x ≡ y) (y < x) → ordering_then r rest ≡ ordering_then (nat_cmp (x * p + a) (y * p + b)) (nat_cmp (suc m) (suc n))
    at Less lt = ap (λ (o : Ordering). ordering_then o (nat_cmp (suc m) (suc n))) (nat_cmp_is _ _ Less (below_by_first x y p a b lt low))
    at Equal same = is
        ∙ ap (λ (o : Ordering). ordering_then o (nat_cmp m n)) (cmp-add (x * p) a b ∙ ap (λ (z : ℕ). nat_cmp (x * p + a) (z * p + b)) same)
        ∙ ap (ordering_then (nat_cmp (x * p + a) (y * p + b))) (cmp-suc m n)
    at Greater gt = ap (λ (o : Ordering). ordering_then o (nat_cmp (suc m) (suc n))) (nat_cmp_is _ _ Greater (below_by_first y x p b a gt high))

less_first : (x y p a b : ℕ) (rest : Ordering) → a < p → b < p → (a < b → rest ≡ Less) → x * p + a < y * p + b → ordering_then (nat_cmp x y) rest ≡ Less
less_first x y p a b rest low high is less = at (nat_cmp x y) (ranks x y)
  where
    at : (r : Ordering) → MatchOrdering r (x < y) (x ≡ y) (y < x) → ordering_then r rest ≡ Less
    at Less lt = refl
    at Equal same = is (omega (arith, less, ap (λ (z : ℕ). z * p) same))
    at Greater gt = absurd (omega (arith, less, below_by_first y x p b a gt high))

number-cons : (w x : ℕ) (xs : List ℕ) → big_number (suc w) (x ∷ xs) ≡ x * 256 ^ w + big_number w xs
number-cons w x xs = ap (λ (r : ℕ). x * 256 ^ w + r) (big_from-cons 0 w x xs)

-- the order of lists of bytes, by numbers of a width and by lengths
pub in_numbers : (w : ℕ) (xs ys : List ℕ) → AreBytes xs → AreBytes ys → length xs ≤ w → length ys ≤ w
    → slice_cmp nat_cmp xs ys ≡ ordering_then (nat_cmp (big_number w xs) (big_number w ys)) (nat_cmp (length xs) (length ys))
in_numbers w [] [] low high short small = ap (λ (o : Ordering). ordering_then o (nat_cmp 0 0)) (nat_cmp_is (big_number w []) (big_number w []) Equal refl)
in_numbers w [] (y ∷ ys) low high short small = is_less (big_number w []) (big_number w (y ∷ ys)) 0 (suc (length ys)) (omega (arith, number-none 0 w)) (omega arith)
in_numbers w (x ∷ xs) [] low high short small = is_greater (big_number w (x ∷ xs)) (big_number w []) (suc (length xs)) 0 (omega (arith, number-none 0 w)) (omega arith)
in_numbers zero (x ∷ xs) (y ∷ ys) low high short small = absurd (omega (arith, short))
in_numbers (suc w) (x ∷ xs) (y ∷ ys) low high short small =
    first_then_rest x y (256 ^ w) (big_number w xs) (big_number w ys) (slice_cmp nat_cmp xs ys) (length xs) (length ys)
    (big_from-lt 0 w xs (λ i. low (suc i))) (big_from-lt 0 w ys (λ i. high (suc i)))
    (in_numbers w xs ys (λ i. low (suc i)) (λ i. high (suc i)) (omega (arith, short)) (omega (arith, small)))
    ∙ ap (λ (o : Ordering). ordering_then o (nat_cmp (suc (length xs)) (suc (length ys))))
    (λ i. nat_cmp (sym (number-cons w x xs) i) (sym (number-cons w y ys) i))

-- where the number of the first bytes is less, the list is
pub less_by_number : (w : ℕ) (xs ys : List ℕ) → AreBytes xs → AreBytes ys → big_number w xs < big_number w ys → slice_cmp nat_cmp xs ys ≡ Less
less_by_number w [] [] low high less = absurd (omega (arith, less))
less_by_number w [] (y ∷ ys) low high less = refl
less_by_number w (x ∷ xs) [] low high less = absurd (omega (arith, less, number-none 0 w))
less_by_number zero (x ∷ xs) (y ∷ ys) low high less = absurd (omega (arith, less))
less_by_number (suc w) (x ∷ xs) (y ∷ ys) low high less =
    less_first x y (256 ^ w) (big_number w xs) (big_number w ys) (slice_cmp nat_cmp xs ys)
    (big_from-lt 0 w xs (λ i. low (suc i))) (big_from-lt 0 w ys (λ i. high (suc i)))
    (λ rest. less_by_number w xs ys (λ i. low (suc i)) (λ i. high (suc i)) rest)
    (omega (arith, less, number-cons w x xs, number-cons w y ys))

-- a key's fields as its padded bytes: their number, their length, and that they are bytes
pub number_of_key : (n : ℕ) (k : Inside) → IsKey k → big_number n k.bytes ≡ big_number n (key_bytes_of k)
number_of_key n k is = ap (big_number n) (sym is.zeros) ∙ number-padded n 16 (key_bytes_of k)

pub bytes_of_key : (k : Inside) → IsKey k → AreBytes k.bytes → AreBytes (key_bytes_of k)
bytes_of_key k is bytes = bytes-padded 16 (key_bytes_of k) (λ i. omega (arith, bytes i, ap (λ (cells : List ℕ). slice_index cells i) is.zeros))

length_of_key : (k : Inside) → IsKey k → length (key_bytes_of k) ≡ k.len
length_of_key k is = length_taken 16 k.len k.bytes is.most is.whole

-- the order of keys, by their fields
pub keys_in_numbers : (k l : Inside) → IsKey k → IsKey l → AreBytes k.bytes → AreBytes l.bytes
    → ordering_then (nat_cmp (big_number 16 k.bytes) (big_number 16 l.bytes)) (nat_cmp k.len l.len) ≡ slice_cmp nat_cmp (key_bytes_of k) (key_bytes_of l)
keys_in_numbers k l is am low high =
    (λ i. ordering_then (nat_cmp (number_of_key 16 k is i) (number_of_key 16 l am i)) (nat_cmp (sym (length_of_key k is) i) (sym (length_of_key l am) i)))
    ∙ sym (in_numbers 16 (key_bytes_of k) (key_bytes_of l) (bytes_of_key k is low) (bytes_of_key l am high) (omega (arith, is.most, length_of_key k is)) (omega (arith, am.most, length_of_key l am)))
