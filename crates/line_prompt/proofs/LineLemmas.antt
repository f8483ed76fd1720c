-- What stands up to the first LF of bytes, and with what one read gives.
use Rattle.std.proofs.Common.{◌≡◌, ◌≢◌, ◌-◌, ℕ, zero, suc, ◌+◌, ◌<◌, ◌≤◌, Bool, true, false, not, cond, is_some, eqb, List, [], ◌∷◌, ◌++◌, Option, None, Some, length, take, get_or, refl, sym, ap, ◌∙◌, arith, add-one, append-nil, take_all, eq-eqb, length-take}
use Rattle.std.proofs.lemmas.Grind.{common_steps}
use Rattle.std.specs.Io.BufRead.{take_through}
use Rattle.std.specs.Io.KnownBytes.{IsAtEnd, prepend_known}
use Rattle.memchr.specs.Find.{IsFirstByte, is_byte}
use Rattle.line_prompt.specs.ByLine.{first_line_part, HasFirstLine, IsWithinOneLine, KeepsFirstLine}

-- an LF stands there
abbrev IsLf : List ℕ → ℕ → Type 0
IsLf xs k = eqb (get_or xs k 0) 10 ≡ true

through_head : (x : ℕ) (xs : List ℕ) → eqb x 10 ≡ true → take_through 10 (x ∷ xs) ≡ x ∷ []
through_head x xs is = ap (λ b. cond b (x ∷ []) (x ∷ take_through 10 xs)) is

through_tail : (x : ℕ) (xs : List ℕ) → (eqb x 10 ≡ true → ⊥) → take_through 10 (x ∷ xs) ≡ x ∷ take_through 10 xs
through_tail x xs never = at (eqb x 10) never
  where
    at : (b : Bool) → (b ≡ true → ⊥) → cond b (x ∷ []) (x ∷ take_through 10 xs) ≡ x ∷ take_through 10 xs
    at true none = absurd (none refl)
    at false none = refl

-- the bytes through the first LF
through_found : (xs : List ℕ) (k : ℕ) → k < length xs → ((j : ℕ) → j < k → IsLf xs j → ⊥) → IsLf xs k → take_through 10 xs ≡ take (suc k) xs
through_found [] k lt before here = absurd (omega arith)
through_found (x ∷ xs) zero lt before here = through_head x xs here
through_found (x ∷ xs) (suc k) lt before here =
    through_tail x xs (before 0 (omega arith))
    ∙ ap (λ l. x ∷ l) (through_found xs k (omega arith) (λ j below. before (suc j) (omega arith)) here)

-- all of the bytes where none is an LF
through_none : (xs : List ℕ) → ((j : ℕ) → j < length xs → IsLf xs j → ⊥) → take_through 10 xs ≡ xs
through_none [] none = refl
through_none (x ∷ xs) none =
    through_tail x xs (none 0 (omega arith))
    ∙ ap (λ l. x ∷ l) (through_none xs (λ j below. none (suc j) (omega arith)))

-- what a search gave is where the first line ends
pub through_some : (xs : List ℕ) (k : ℕ) → IsFirstByte (is_byte 10) xs (Some k) → take (k + 1) xs ≡ take_through 10 xs
through_some xs k found =
    ap (λ n. take n xs) (add-one k)
    ∙ sym (through_found xs k found.0.high (λ j below. found.0.before j (omega arith) below) found.1)

pub through_all : (xs : List ℕ) → IsFirstByte (is_byte 10) xs None → take (length xs) xs ≡ take_through 10 xs
through_all xs none = take_all (length xs) xs (omega arith) ∙ sym (through_none xs (λ j below. none j (omega arith) below))

-- an LF ends the first line, whatever follows
through_append : (xs rest : List ℕ) (k : ℕ) → k < length xs → IsLf xs k → take_through 10 (xs ++ rest) ≡ take_through 10 xs
through_append [] rest k lt here = absurd (omega arith)
through_append (x ∷ xs) rest zero lt here = through_head x (xs ++ rest) here ∙ sym (through_head x xs here)
through_append (x ∷ xs) rest (suc k) lt here =
    ap (λ (l : List ℕ). cond (eqb x 10) (x ∷ []) (x ∷ l)) (through_append xs rest k (omega arith) here)

take_nil : (n : ℕ) → take {A = ℕ} n [] ≡ []
take_nil zero = refl
take_nil (suc n) = refl

-- as much of the first line as the bytes are long stands in them
through_front : (xs rest : List ℕ) → take (length xs) (take_through 10 (xs ++ rest)) ≡ take_through 10 xs
through_front [] rest = refl
through_front (x ∷ xs) rest = at (eqb x 10) (through_front xs rest)
  where
    at : (b : Bool) → take (length xs) (take_through 10 (xs ++ rest)) ≡ take_through 10 xs
        → take (length (x ∷ xs)) (cond b (x ∷ []) (x ∷ take_through 10 (xs ++ rest))) ≡ cond b (x ∷ []) (x ∷ take_through 10 xs)
    at true shorter = ap (λ l. x ∷ l) (take_nil (length xs))
    at false shorter = ap (λ l. x ∷ l) shorter

length-through : (xs : List ℕ) → length (take_through 10 xs) ≤ length xs
length-through [] = omega arith
length-through (x ∷ xs) = at (eqb x 10) (length-through xs)
  where
    at : (b : Bool) → length (take_through 10 xs) ≤ length xs → length (cond b (x ∷ []) (x ∷ take_through 10 xs)) ≤ length (x ∷ xs)
    at true shorter = omega arith
    at false shorter = omega arith

-- as many bytes as one read gives have their first line
pub HasFirstLine-full : (xs : List ℕ) → length xs ≡ 4096 → HasFirstLine xs
HasFirstLine-full xs full rest = ap (λ n. take n (take_through 10 (xs ++ rest))) (sym full) ∙ through_front xs rest

-- and so have bytes with an LF
pub HasFirstLine-found : (xs : List ℕ) (k : ℕ) → length xs ≤ 4096 → IsFirstByte (is_byte 10) xs (Some k) → HasFirstLine xs
HasFirstLine-found xs k bound found rest =
    ap (take 4096) (through_append xs rest k found.0.high found.1)
    ∙ take_all 4096 (take_through 10 xs) (omega (arith, length-through xs))

-- an LF that a search didn't miss
pub HasFirstLine-searched : (xs : List ℕ) (r : Option ℕ) (missed : Bool) → length xs ≤ 4096 → IsFirstByte (is_byte 10) xs r → is_some r ≡ not missed → missed ≡ false → HasFirstLine xs
HasFirstLine-searched xs None missed bound found is hit = let both : false ≡ true = is ∙ ap not hit in absurd (cc)
HasFirstLine-searched xs (Some k) missed bound found is hit = HasFirstLine-found xs k bound found

-- what is kept has the first line where nothing follows
pub KeepsFirstLine-end : (kept : List ℕ) (below : Option (List ℕ)) → length kept ≤ 4096 → IsAtEnd below → KeepsFirstLine kept (prepend_known kept below)
KeepsFirstLine-end kept None bound end = tt
KeepsFirstLine-end kept (Some rest) bound end =
    ap first_line_part (ap (λ l. kept ++ l) end ∙ append-nil kept)
    ∙ take_all 4096 (take_through 10 kept) (omega (arith, length-through kept))

-- an LF ends the first line
lf_last : (xs : List ℕ) (k d : ℕ) → suc k < length (take_through 10 xs) → get_or (take_through 10 xs) k d ≢ 10
lf_last [] k d lt = absurd (omega arith)
lf_last (x ∷ xs) k d lt = at (eqb x 10) refl k lt (λ j less. lf_last xs j d less)
  where
    at : (b : Bool) → b ≡ eqb x 10 → (k : ℕ) → suc k < length (cond b (x ∷ []) (x ∷ take_through 10 xs))
        → ((j : ℕ) → suc j < length (take_through 10 xs) → get_or (take_through 10 xs) j d ≢ 10)
        → get_or (cond b (x ∷ []) (x ∷ take_through 10 xs)) k d ≢ 10
    at true is k lt later = absurd (omega arith)
    at false is zero lt later = λ same. let both : false ≡ true = is ∙ eq-eqb x 10 same in absurd (cc)
    at false is (suc k) lt later = later k (omega arith)

-- so a front of it has an LF nowhere but at its end
pub IsWithinOneLine-through : (xs : List ℕ) (room : ℕ) → IsWithinOneLine (take room (take_through 10 xs))
IsWithinOneLine-through xs room k d lt =
    let line : List ℕ = take_through 10 xs in
    let front : List ℕ = take room line in
    let within : suc k < length line = omega (arith, length-take (length front - 1) front, length-take room line) in
    let last = lf_last xs k d within in
    grind (arith, common_steps)
