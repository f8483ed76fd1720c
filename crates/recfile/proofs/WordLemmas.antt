-- What the words ask for, by the rows that were found in them.
use Rattle.std.proofs.Common.{◌≡◌, ℕ, List, Option, Some, None, Result, unwrap_or, refl, ap, ◌∙◌}
use Rattle.std.specs.Str.Parse.{ParsesUnsigned}
use Rattle.clap.specs.Matches.{ReadsOne}
use Rattle.recfile.specs.Words.{IsRead}

-- the number of an option, by what reading its text gives
pub read : (E : Type 0) (gives : List ℕ → Result ℕ E → Type 0) (bits default : ℕ) (found : Option (List ℕ)) (answer : Option ℕ) (n : ℕ) → ((t : List ℕ) → found ≡ Some t → ReadsOne {T = ℕ} {E = E} gives t answer)
    → ((t : List ℕ) (r : Result ℕ E) → gives t r → ParsesUnsigned bits 10 t r) → n ≡ unwrap_or answer default → (found ≡ None → answer ≡ None) → IsRead bits found default n
read E gives bits default None answer n value parses is none = is ∙ ap (λ (o : Option ℕ). unwrap_or o default) (none refl)
read E gives bits default (Some t) answer n value parses is none = at answer (value t refl) is
  where
    at : (o : Option ℕ) → ReadsOne {T = ℕ} {E = E} gives t o → n ≡ unwrap_or o default → IsRead bits (Some t) default n
    at (Some v) known here = λ numeral fits. here ∙ (parses t _ known).1
    at None known here = λ numeral fits. absurd (parses t _ known.1 (numeral, fits))
