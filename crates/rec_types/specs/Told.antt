-- What becomes of a sink that is told records at their keys, one after another.
use Rattle.std.specs.Prelude.{◌≡◌, ℕ, List, [], ◌∷◌, ◌++◌, Result, Ok, Err, MatchResult}
use Rattle.rec_types.specs.Sorted.{Pairs}

-- it took what it was told, or stopped at it with a fault of its own
abbrev pub Takes : {X F : Type 0} → (List X → Type 0) → (List X → F → Type 0) → List X → Result (Unit {0}) F → Type 0
Takes told stops es (Ok done) = told es
Takes told stops es (Err fault) = stops es fault

-- it took a front of the records, and not the last of them
pub record TakesFront (told : Pairs → Type 0) (es : Pairs) : Type 0 where
  pub front : Pairs
  pub next : List ℕ × List ℕ
  pub rest : Pairs
  pub whole : es ≡ front ++ next ∷ rest
  pub took : told front

-- it took a front of what there is, which may be all of it
pub record TakesPart {X : Type 0} (told : List X → Type 0) (es : List X) : Type 0 where
  pub front : List X
  pub rest : List X
  pub whole : es ≡ front ++ rest
  pub took : told front

-- it was told all records, or a front of them up to a fault of the device
abbrev pub TellsAll : {E F : Type 0} → E → (Pairs → Type 0) → (Pairs → F → Type 0) → Pairs → Result (Result (Unit {0}) F) E → Type 0
TellsAll device told stops es answer = MatchResult answer (Takes told stops es) (λ fault. (fault ≡ device) × TakesFront told es)

-- it was told all records, or a part of them up to a fault
abbrev pub TellsUntil : {E F : Type 0} → (Pairs → Type 0) → (Pairs → F → Type 0) → Pairs → Result (Result (Unit {0}) F) E → Type 0
TellsUntil told stops es answer = MatchResult answer (Takes told stops es) (λ fault. TakesPart told es)

-- it was told some records, whatever the table holds
abbrev pub TellsSome : {E F : Type 0} → (Pairs → Type 0) → (Pairs → F → Type 0) → Result (Result (Unit {0}) F) E → Type 0
TellsSome told stops answer = (es : Pairs) × MatchResult answer (Takes told stops es) (λ fault. told es)

-- two records, at the keys a and b
abbrev pub at_a_and_b : Pairs
at_a_and_b = (97 ∷ [], 120 ∷ []) ∷ (98 ∷ [], []) ∷ []
