-- The number that digits stand for, digit by digit.
use Rattle.std.proofs.Common.{◌≡◌, ℕ, ◌+◌, ◌-◌, ◌*◌, ◌^◌, ◌<◌, ◌≤◌, zero, suc, Bool, true, false, cond, ◌&&◌, nat_lt, List, [], ◌∷◌, length, take, drop, drop-cons, get_or, Some, None, refl, sym, ap, subst, ◌∙◌, arith, add-one}
use Rattle.std.proofs.lemmas.Bool.Decides.{nat_tests}
use Rattle.std.proofs.lemmas.List.{drop_all, take_all}
use Rattle.std.proofs.lemmas.List.Folds.{list_all_more}
use Rattle.std.proofs.Math.Nat.{pow-suc, mul-le-mul_left}
use Rattle.std.specs.List.{list_all}
use Rattle.command_text.specs.Grammar.{is_word, is_digit, value_of, number_of}

one_le_pow : (n : ℕ) → 1 ≤ 10 ^ n
one_le_pow zero = omega arith
one_le_pow (suc n) = omega (arith, pow-suc 10 n, one_le_pow n)

value-cons : (b : ℕ) (bs : List ℕ) → value_of (b ∷ bs) ≡ (b - 48) * 10 ^ length bs + value_of bs
unfolding value_of
value-cons b bs = refl

value-none : value_of [] ≡ 0
unfolding value_of
value-none = refl

-- the digits so far, and what is left
abbrev pub Reads : List ℕ → ℕ → ℕ → Type 0
Reads word i n = n * 10 ^ length (drop i word) + value_of (drop i word) ≡ value_of word

regroup : (n d p v : ℕ) → n * (p * 10) + (d * p + v) ≡ (n * 10 + d) * p + v
regroup n d p v = grind arith

-- one more digit read: ten times the number and the digit
pub reads_more : (word : List ℕ) (i n d : ℕ) → i < length word → d ≡ get_or word i 0 → Reads word i n → Reads word (i + 1) (n * 10 + (d - 48))
reads_more word i n d lt read so_far =
    let rest : List ℕ = drop (suc i) word in
    let cut = drop-cons word i 0 lt ∙ ap (λ x. x ∷ rest) (sym read) in
    let was = sym (ap (λ xs. n * 10 ^ length xs + value_of xs) cut ∙ ap (λ v. n * 10 ^ suc (length rest) + v) (value-cons d rest) ∙ ap (λ p. n * p + ((d - 48) * 10 ^ length rest + value_of rest)) (pow-suc 10 (length rest)) ∙ regroup n (d - 48) (10 ^ length rest) (value_of rest)) ∙ so_far in
    rw add-one was

-- too large already
pub reads_large : (word : List ℕ) (i n : ℕ) → Reads word i n → 2 ^ 32 ≤ n → number_of word ≡ None
reads_large word i n reads large = at (is_word word) (list_all is_digit word) (nat_lt (value_of word) (2 ^ 32)) refl
  where
    p : ℕ
    p = 10 ^ length (drop i word)

    at : (w d l : Bool) → nat_lt (value_of word) (2 ^ 32) ≡ l → cond ((w && d) && l) (Some (value_of word)) None ≡ None
    at true true true is =
        let small : value_of word < 2 ^ 32 = grind (arith, nat_tests, is) in
        let at_least : n * 1 ≤ n * p = mul-le-mul_left n (one_le_pow (length (drop i word))) in
        absurd (omega (arith, reads, at_least))
    at true true false is = refl
    at true false l is = refl
    at false d l is = refl

word_is : (word : List ℕ) → 0 < length word → is_word word ≡ true
word_is [] some = absurd (omega arith)
word_is (b ∷ bs) some = refl

-- all digits were read
pub reads_all : (word : List ℕ) (n : ℕ) → 0 < length word → Reads word (length word) n → list_all is_digit (take (length word) word) ≡ true → n < 2 ^ 32 → number_of word ≡ Some n
reads_all word n some reads digits small =
    let rest = drop_all (length word) word (omega arith) in
    let is : n ≡ value_of word = omega (arith, sym (ap (λ xs. n * 10 ^ length xs + value_of xs) rest ∙ ap (λ v. n * 1 + v) value-none) ∙ reads) in
    let test : nat_lt (value_of word) (2 ^ 32) ≡ true = grind (arith, nat_tests) in
    (λ i. cond ((word_is word some i && (ap (list_all is_digit) (sym (take_all (length word) word (omega arith))) ∙ digits) i) && test i) (Some (value_of word)) None)
    ∙ ap Some (sym is)

-- one more byte that is a digit
pub digits_more : (word : List ℕ) (i : ℕ) → i < length word → list_all is_digit (take i word) ≡ true → is_digit (get_or word i 0) ≡ true → list_all is_digit (take (i + 1) word) ≡ true
digits_more word i lt before here = list_all_more is_digit word i 0 lt ∙ (λ j. before j && here j)

-- the same, with the digit's value
pub reads_digit : (word : List ℕ) (i n digit : ℕ) → i < length word → digit ≡ get_or word i 0 - 48 → Reads word i n → Reads word (i + 1) (n * 10 + digit)
reads_digit word i n digit lt is so_far = subst (λ (x : ℕ). Reads word (i + 1) (n * 10 + x)) (sym is) (reads_more word i n (get_or word i 0) lt refl so_far)
