-- Zeros behind a place: by a number, sixteen at a time, and as padding.
use Rattle.std.proofs.Common.{◌≡◌, ℕ, zero, suc, ◌+◌, ◌-◌, ◌*◌, ◌/◌, ◌^◌, ◌<◌, ◌≤◌, ◌↔◌, eqb, IsTrue, List, [], ◌∷◌, ◌++◌, length, take, drop, replicate, slice_index, refl, ap, sym, ◌∙◌, inl, inr, arith}
use Rattle.std.proofs.lemmas.Bool.{cases_lt, eqb-true}
use Rattle.std.proofs.lemmas.List.{get_or-drop, get_or-take, get_or_past, length-drop, length-take, take-append-drop}
use Rattle.std.proofs.lemmas.Nat.{pow-add}
use Rattle.std.proofs.Math.Nat.{add-mul-div_left, div-div-eq-div-mul, div-eq_of_lt, div-one, pow-suc, pow-succ'}
use Rattle.byteorder.specs.Endian.{little_from, little_number}
use Rattle.rec_types.specs.Padded.{padded, IsZeroFrom, AreBytes}
use Rattle.rec_types.specs.Taken.{length_taken}

-- a number without its lowest bytes
shifted : (m n t i : ℕ) (xs : List ℕ) → AreBytes xs → t ≡ m + n → little_from i t xs / 256 ^ m ≡ little_from (i + m) n xs
shifted zero n t i xs bytes is =
    let same : i ≡ i + 0 = omega arith in
    let all : t ≡ n = omega (arith, is) in
    div-one (little_from i t xs) ∙ (λ j. little_from (same j) (all j) xs)
shifted (suc m) n zero i xs bytes is = absurd (omega (arith, is))
shifted (suc m) n (suc t) i xs bytes is =
    let next : suc i + m ≡ i + suc m = omega arith in
    let higher = little_from (suc i) t xs in
    let high : (slice_index xs i + 256 * higher) / 256 ≡ higher =
    add-mul-div_left (slice_index xs i) higher {y = 256} (omega arith) ∙ ap (λ (z : ℕ). z + higher) (div-eq_of_lt (bytes i)) ∙ omega arith in
    ap (λ (p : ℕ). (slice_index xs i + 256 * higher) / p) (pow-succ' 256 m)
    ∙ sym (div-div-eq-div-mul (slice_index xs i + 256 * higher) 256 (256 ^ m))
    ∙ ap (λ (y : ℕ). y / 256 ^ m) high
    ∙ shifted m n t (suc i) xs bytes (omega (arith, is))
    ∙ ap (λ (j : ℕ). little_from j n xs) next

-- a number of zeros, and the bytes of the number zero
number_of_zeros : (n i : ℕ) (xs : List ℕ) → IsZeroFrom i xs → little_from i n xs ≡ 0
number_of_zeros zero i xs zeros = refl
number_of_zeros (suc n) i xs zeros = omega (arith, zeros i (omega arith), number_of_zeros n (suc i) xs (λ j low. zeros j (omega (arith, low))))

zeros_of_number : (n i j : ℕ) (xs : List ℕ) → little_from i n xs ≡ 0 → i ≤ j → j < i + n → slice_index xs j ≡ 0
zeros_of_number zero i j xs is low high = absurd (omega (arith, low, high))
zeros_of_number (suc n) i j xs is low high =
    elim (cases_lt i j) [
      | inl above ↦ zeros_of_number n (suc i) j xs (omega (arith, is)) (omega (arith, above)) (omega (arith, high))
      | inr here ↦ let same : j ≡ i = omega (arith, here, low) in ap (slice_index xs) same ∙ omega (arith, is)
    ]

-- sixteen bytes are zero from a place on where their number without the bytes before it is
pub zero_from_shift : (len : ℕ) (xs : List ℕ) → AreBytes xs → length xs ≡ 16 → len ≤ 16 → (little_number 16 xs / 256 ^ len ≡ 0) ↔ IsZeroFrom len xs
zero_from_shift len xs bytes size few =
    let start : 0 + len ≡ len = omega arith in
    let rest : little_number 16 xs / 256 ^ len ≡ little_from len (16 - len) xs = shifted len (16 - len) 16 0 xs bytes (omega (arith, few)) ∙ ap (λ (i : ℕ). little_from i (16 - len) xs) start in (
      λ is j low. elim (cases_lt j 16) [
        | inl within ↦ zeros_of_number (16 - len) len j xs (sym rest ∙ is) low (omega (arith, within))
        | inr past ↦ get_or_past xs j 0 (omega (arith, past, size))
      ],
      λ zeros. rest ∙ number_of_zeros (16 - len) len xs zeros,
    )

-- two ways to write the worth of the bytes
pow256 : (n : ℕ) → 2 ^ (8 * n) ≡ 256 ^ n
pow256 zero = refl
pow256 (suc n) =
    let more : 8 * suc n ≡ 8 * n + 8 = omega arith in
    rw (more, pow-add 2 (8 * n) 8, pow256 n, pow-suc 256 n) refl

-- the same as the test of a number
pub zero_from_test : (len number : ℕ) (xs : List ℕ) → number ≡ little_number 16 xs → AreBytes xs → length xs ≡ 16 → len ≤ 16 → IsTrue (eqb (number / 2 ^ (8 * len)) 0) ↔ IsZeroFrom len xs
zero_from_test len number xs is bytes size few =
    let same : number / 2 ^ (8 * len) ≡ little_number 16 xs / 256 ^ len = λ i. is i / pow256 len i in
    let both = zero_from_shift len xs bytes size few in (
      λ zero. both.0 (sym same ∙ eqb-true (number / 2 ^ (8 * len)) 0 zero),
      λ zeros. ap (λ (n : ℕ). eqb n 0) (same ∙ both.1 zeros),
    )

-- a byte among sixteen
byte_among : (at i : ℕ) (xs : List ℕ) → i < 16 → slice_index (take 16 (drop at xs)) i ≡ slice_index xs (at + i)
byte_among at i xs low = get_or-take 16 (drop at xs) i 0 low ∙ get_or-drop at xs i 0

past_sixteen : (at i : ℕ) (xs : List ℕ) → 16 ≤ i → slice_index (take 16 (drop at xs)) i ≡ 0
past_sixteen at i xs past = get_or_past (take 16 (drop at xs)) i 0 (omega (arith, past, length-take {A = ℕ}))

-- zeros behind a place, among sixteen of the bytes
pub zero_in_sixteen : (len at rest : ℕ) (xs some : List ℕ) → rest ≡ len - at → some ≡ take 16 (drop at xs) → IsZeroFrom rest some ↔ ((i : ℕ) → at ≤ i → i < at + 16 → len ≤ i → slice_index xs i ≡ 0)
zero_in_sixteen len at rest xs some rest_is some_is = (
  λ zeros i from to low.
      let moved : at + (i - at) ≡ i = omega (arith, from) in
      sym (ap (λ (bytes : List ℕ). slice_index bytes (i - at)) some_is ∙ byte_among at (i - at) xs (omega (arith, from, to)) ∙ ap (slice_index xs) moved) ∙ zeros (i - at) (omega (arith, from, low, rest_is)),
  λ zeros i low. ap (λ (bytes : List ℕ). slice_index bytes i) some_is ∙ elim (cases_lt i 16) [
    | inl within ↦ byte_among at i xs within ∙ zeros (at + i) (omega arith) (omega (arith, within)) (omega (arith, low, rest_is))
    | inr past ↦ past_sixteen at i xs past
  ],
)

-- a list of zeros
zeros_are : (xs : List ℕ) → IsZeroFrom 0 xs → xs ≡ replicate (length xs) 0
zeros_are [] zeros = refl
zeros_are (x ∷ xs) zeros = (λ i. zeros 0 (omega arith) i ∷ zeros_are xs (λ j low. zeros (suc j) (omega arith)) i)

-- what is zero behind a place is padded again
pub padded_again : (width len : ℕ) (xs : List ℕ) → length xs ≡ width → len ≤ width → IsZeroFrom len xs → padded width (take len xs) ≡ xs
unfolding padded
padded_again width len xs size fits zeros =
    let front : length (take len xs) ≡ len = length_taken width len xs fits size in
    let rest : length (drop len xs) ≡ width - len = omega (arith, length-drop {A = ℕ}, size) in
    ap (λ (n : ℕ). take len xs ++ replicate n 0) (ap (λ (n : ℕ). width - n) front ∙ sym rest)
    ∙ ap (λ (back : List ℕ). take len xs ++ back) (sym (zeros_are (drop len xs) (λ i low. get_or-drop len xs i 0 ∙ zeros (len + i) (omega arith))))
    ∙ take-append-drop len xs
