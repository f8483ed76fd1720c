-- The set of escaped bytes, byte by byte.
use Rattle.std.proofs.Common.{◌≡◌, ℕ, ◌<◌, zero, suc, Bool, true, false, cond, not, ◌&&◌, ◌||◌, List, [], ◌∷◌, ◌++◌, get_or, Result, Ok, Err, OnOk, is_ok, inl, inr, refl, sym, subst, arith}
use Rattle.std.specs.List.{flat_map, list_any}
use Rattle.std.proofs.lemmas.Bool.{cases_lt}
use Rattle.percent_encoding.specs.declared.ascii_set.AsciiSet.{AsciiSet}
use Rattle.percent_encoding.specs.AsciiSet.{should_percent_encode}
use Rattle.percent_encoding.specs.Percent.{percent_encode, encode_byte, percent_encode_byte}
use Rattle.command_text.specs.Texts.{is_escaped, escaped_byte, escaped}

-- whether two truth values agree
abbrev pub same : Bool → Bool → Bool
same true b = b
same false b = not b

same-is : (a b : Bool) → same a b ≡ true → a ≡ b
same-is true b is = sym is
same-is false true is = absurd (cc)
same-is false false is = refl

-- the set and the definition agree on the bytes below n
abbrev pub agree_below : AsciiSet → ℕ → Bool
agree_below set zero = true
agree_below set (suc n) = same (should_percent_encode set n) (is_escaped n) && agree_below set n

-- both parts of a conjunction hold
pub both : (a b : Bool) → a && b ≡ true → (a ≡ true) × (b ≡ true)
both true b is = (refl, is)
both false b is = absurd (cc)

agrees : (set : AsciiSet) (n : ℕ) → agree_below set n ≡ true → (b : ℕ) → b < n → should_percent_encode set b ≡ is_escaped b
agrees set zero all b lt = absurd (omega arith)
agrees set (suc n) all b lt =
    let parts = both (same (should_percent_encode set n) (is_escaped n)) (agree_below set n) all in
    elim (cases_lt b n) [
      | inl below ↦ agrees set n parts.1 b below
      | inr above ↦
          let here : n ≡ b = omega arith in
          subst (λ (x : ℕ). should_percent_encode set x ≡ is_escaped x) here (same-is (should_percent_encode set n) (is_escaped n) parts.0)
    ]

encoded : (set : AsciiSet) → agree_below set 256 ≡ true → (bytes : List ℕ) → ((i : ℕ) → get_or bytes i 0 < 256) → flat_map (encode_byte set) bytes ≡ flat_map escaped_byte bytes
encoded set all [] small = refl
encoded set all (b ∷ bs) small = λ i. cond (agrees set 256 all b (small 0) i) (percent_encode_byte b) (b ∷ []) ++ encoded set all bs (λ i. small (suc i)) i

-- what the set escapes is what the definition escapes
pub percent_encode-escaped : (set : AsciiSet) → agree_below set 256 ≡ true → (bytes : List ℕ) → ((i : ℕ) → get_or bytes i 0 < 256) → percent_encode set bytes ≡ escaped bytes
unfolding percent_encode escaped
percent_encode-escaped set all bytes small = encoded set all bytes small

-- bytes none of which needs an escape stand for themselves

neither : (a b : Bool) → (a || b) ≡ false → (a ≡ false) × (b ≡ false)
neither true b is = absurd (cc)
neither false b is = (refl, is)

pub unescaped : (bytes : List ℕ) → list_any is_escaped bytes ≡ false → escaped bytes ≡ bytes
unfolding escaped
unescaped [] none = refl
unescaped (b ∷ bs) none =
    let parts = neither (is_escaped b) (list_any is_escaped bs) none in
    λ i. cond (parts.0 i) (percent_encode_byte b) (b ∷ []) ++ unescaped bs parts.1 i

pub none_escaped : (b any : Bool) → b ≡ not any → b ≡ true → any ≡ false
none_escaped b true is holds = absurd (cc)
none_escaped b false is holds = refl

-- what a text is where bytes were added
pub where_ok : {A E : Type 0} (r : Result A E) (text more old : List ℕ) → text ≡ cond (is_ok r) more old → OnOk r (text ≡ more)
where_ok (Ok a) text more old is = is
where_ok (Err e) text more old is = tt
