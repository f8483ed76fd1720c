-- What is written of bytes.
use Rattle.std.proofs.Common.{◌≡◌, ℕ, ◌+◌, ◌*◌, ◌^◌, ◌<◌, zero, suc, Bool, true, false, cond, ◌&&◌, List, [], ◌∷◌, get_or, length, ◌==◌, nat_lt, Ok, Err, inl, inr, refl, subst, ◌∙◌, arith}
use Rattle.std.specs.Char.{digit_value}
use Rattle.std.specs.List.{All, list_all}
use Rattle.std.proofs.lemmas.Bool.{cases_lt}
use Rattle.std.proofs.lemmas.Bool.Decides.{nat_tests}
use Rattle.std.proofs.lemmas.List.Folds.{list_all-append}
use Rattle.std.proofs.lemmas.List.Elements.{All-head, All-tail}
use Rattle.percent_encoding.specs.declared.ascii_set.AsciiSet.{AsciiSet}
use Rattle.percent_encoding.specs.AsciiSet.{should_percent_encode}
use Rattle.percent_encoding.specs.Percent.{is_escape, percent_decode, percent_encode_byte}
use Rattle.percent_encoding.proofs.PercentLemmas.{round_trip}
use Rattle.rec_types.specs.declared.key.KeyFault.TheVariants.{Empty, TooLong}
use Rattle.command_text.specs.declared.command.LineFault.TheVariants.{KeyTooLong}
use Rattle.command_text.specs.Grammar.{is_word, or_fault, key_from_word}
use Rattle.command_text.specs.Texts.{is_plain, escaped_byte, escaped}
use Rattle.command_text.proofs.EscapeLemmas.{percent_encode-escaped, both}

-- the bytes 0 to 32, 37 and 127
abbrev escapes_set : AsciiSet
escapes_set = record { mask = 8589934591 + 2 ^ 37 + 2 ^ 127 }

small_at : (bytes : List ℕ) → All (λ b. b < 256) bytes → (i : ℕ) → get_or bytes i 0 < 256
small_at [] small i = omega arith
small_at (b ∷ bs) small zero = All-head (λ x. x < 256) b bs small
small_at (b ∷ bs) small (suc i) = small_at bs (All-tail (λ x. x < 256) b bs small) i

-- what is written of bytes is read again as the same bytes
pub read_back : (bytes : List ℕ) → All (λ b. b < 256) bytes → percent_decode (escaped bytes) ≡ bytes
unfolding should_percent_encode
read_back bytes small = subst (λ (text : List ℕ). percent_decode text ≡ bytes) (percent_encode-escaped escapes_set refl bytes (small_at bytes small)) (round_trip escapes_set bytes refl small)

-- what is written of each byte below n is plain
abbrev plain_below : ℕ → Bool
plain_below zero = true
plain_below (suc n) = list_all is_plain (escaped_byte n) && plain_below n

all_plain : plain_below 256 ≡ true
unfolding percent_encode_byte
all_plain = refl

plain_byte : (n : ℕ) → plain_below n ≡ true → (b : ℕ) → b < n → list_all is_plain (escaped_byte b) ≡ true
plain_byte zero all b lt = absurd (omega arith)
plain_byte (suc n) all b lt =
    let parts = both (list_all is_plain (escaped_byte n)) (plain_below n) all in
    elim (cases_lt b n) [
      | inl below ↦ plain_byte n parts.1 b below
      | inr above ↦
          let here : n ≡ b = omega arith in
          subst (λ (x : ℕ). list_all is_plain (escaped_byte x) ≡ true) here parts.0
    ]

-- what is written of bytes is plain text
pub plain : (bytes : List ℕ) → All (λ b. b < 256) bytes → list_all is_plain (escaped bytes) ≡ true
unfolding escaped
plain [] small = refl
plain (b ∷ bs) small = list_all-append is_plain (escaped_byte b) (escaped bs) ∙ (λ i. plain_byte 256 all_plain b (All-head (λ x. x < 256) b bs small) i && plain bs (All-tail (λ x. x < 256) b bs small) i)

not_zero : (n : ℕ) → (suc n == 0) ≡ false
not_zero n = grind (arith, nat_tests)

-- what stands for a word has a byte
some_byte : (b : ℕ) (bs : List ℕ) → (length (percent_decode (b ∷ bs)) == 0) ≡ false
unfolding percent_decode
some_byte b [] = refl
some_byte b (c ∷ []) = refl
some_byte b (high ∷ low ∷ rest) = at (is_escape b high low)
  where
    at : (t : Bool) → (length (cond t ((16 * digit_value high + digit_value low) ∷ percent_decode rest) (b ∷ percent_decode (high ∷ low ∷ rest))) == 0) ≡ false
    at true = not_zero (length (percent_decode rest))
    at false = not_zero (length (percent_decode (high ∷ low ∷ rest)))

-- a word is a key but where it stands for more than 16 bytes
pub key_of_word : (word : List ℕ) → is_word word ≡ true → key_from_word word ≡ cond (nat_lt 16 (length (percent_decode word))) (Err KeyTooLong) (Ok (percent_decode word))
key_of_word [] is = absurd (cc)
key_of_word (b ∷ bs) is = at (length (percent_decode (b ∷ bs)) == 0) (nat_lt 16 (length (percent_decode (b ∷ bs)))) (some_byte b bs)
  where
    at : (none long : Bool) → none ≡ false → or_fault KeyTooLong (cond none (Err Empty) (cond long (Err TooLong) (Ok (percent_decode (b ∷ bs))))) ≡ cond long (Err KeyTooLong) (Ok (percent_decode (b ∷ bs)))
    at true long is = absurd (cc)
    at false true is = refl
    at false false is = refl
