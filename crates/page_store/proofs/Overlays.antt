-- Pages written and freed, at one number.
use Rattle.std.proofs.Common.{◌≡◌, ◌≢◌, ℕ, ◌<◌, Bool, true, false, ◌||◌, ◌⊎◌, List, [], ◌∷◌, length, Option, Some, None, IsSome, set, eqb, refl, sym, ap, subst, ◌∙◌, inl, inr, ⊎_elim, arith, length-set, get_or-set_same, get_or-set_other}
use Rattle.std.specs.List.{AllByRecursion}
use Rattle.std.proofs.lemmas.Bool.{cases_eq, false≢true}
use Rattle.std.proofs.lemmas.Bool.Decides.{nat_tests}
use Rattle.page_store.specs.PageMap.{PageMap, at, write_page, pages_with, free_all, is_written, is_freed}
use Rattle.page_store.specs.Slots.{put_slots}

-- what holds of each number that is written holds of one
pub at_written : (R : ℕ → Type 0) (writes : List (ℕ × List ℕ)) (n : ℕ) → AllByRecursion (λ (w : ℕ × List ℕ). R w.0) writes → is_written writes n ≡ true → R n
at_written R [] n all here = absurd (false≢true here)
at_written R (w ∷ writes) n all here =
    ⊎_elim (λ (same : n ≡ w.0). subst R (sym same) all.0)
    (λ (other : n ≢ w.0). let e : eqb n w.0 ≡ false = grind (arith, nat_tests) in
    at_written R writes n all.1 (sym (ap (λ b. b || is_written writes n) e) ∙ here))
    (cases_eq n w.0)

-- what holds of each freed number holds of one
pub at_freed : (R : ℕ → Type 0) (freed : List ℕ) (n : ℕ) → AllByRecursion R freed → is_freed freed n ≡ true → R n
at_freed R [] n all here = absurd (false≢true here)
at_freed R (f ∷ freed) n all here =
    ⊎_elim (λ (same : n ≡ f). subst R (sym same) all.0)
    (λ (other : n ≢ f). let e : eqb n f ≡ false = grind (arith, nat_tests) in
    at_freed R freed n all.1 (sym (ap (λ b. b || is_freed freed n) e) ∙ here))
    (cases_eq n f)

-- a freed page isn't there
pub freed_is_none : (pages : PageMap) (freed : List ℕ) (n : ℕ) → is_freed freed n ≡ true → free_all pages freed n ≡ None
freed_is_none pages [] n here = absurd (false≢true here)
freed_is_none pages (f ∷ freed) n here =
    ⊎_elim (λ (same : n ≡ f). let e : eqb n f ≡ true = grind (arith, nat_tests) in rw e refl)
    (λ (other : n ≢ f). let e : eqb n f ≡ false = grind (arith, nat_tests) in
    rw e (freed_is_none pages freed n (sym (ap (λ b. b || is_freed freed n) e) ∙ here)))
    (cases_eq n f)

pub neither : (a b : Bool) → (a || b) ≡ false → (a ≡ false) × (b ≡ false)
neither true b e = absurd (false≢true (sym e))
neither false b e = (refl, e)

-- a page that isn't freed is as it was
pub not_freed : (pages : PageMap) (freed : List ℕ) (n : ℕ) → is_freed freed n ≡ false → free_all pages freed n ≡ pages n
not_freed pages [] n gone = refl
not_freed pages (f ∷ freed) n gone = let parts = neither (eqb n f) (is_freed freed n) gone in rw parts.0 (not_freed pages freed n parts.1)

-- a page that isn't written is as it was
pub not_written : (pages : PageMap) (writes : List (ℕ × List ℕ)) (n : ℕ) → is_written writes n ≡ false → pages_with pages writes n ≡ pages n
not_written pages [] n gone = refl
not_written pages (w ∷ writes) n gone =
    let parts = neither (eqb n w.0) (is_written writes n) gone in
    not_written (write_page pages w.0 w.1) writes n parts.1 ∙ rw parts.0 refl

-- so is its slot
pub slot_not_written : (slots : List (Option (List ℕ))) (writes : List (ℕ × List ℕ)) (n : ℕ) → is_written writes n ≡ false → at (put_slots slots writes) n ≡ at slots n
slot_not_written slots [] n gone = refl
slot_not_written slots (w ∷ writes) n gone =
    let parts = neither (eqb n w.0) (is_written writes n) gone in
    let other : n ≢ w.0 = grind (arith, nat_tests, parts.0) in
    slot_not_written (set slots w.0 (Some w.1)) writes n parts.1 ∙ get_or-set_other slots w.0 n (Some w.1) None other

-- a written page has bytes
pub written_is_some : (pages : PageMap) (writes : List (ℕ × List ℕ)) (n : ℕ) → (IsSome (pages n)) ⊎ (is_written writes n ≡ true) → IsSome (pages_with pages writes n)
written_is_some pages [] n (inl some) = some
written_is_some pages [] n (inr here) = absurd (false≢true here)
written_is_some pages (w ∷ writes) n h =
    ⊎_elim (λ (same : n ≡ w.0). let e : eqb n w.0 ≡ true = grind (arith, nat_tests) in
    written_is_some (write_page pages w.0 w.1) writes n (inl (rw e refl)))
    (λ (other : n ≢ w.0). let e : eqb n w.0 ≡ false = grind (arith, nat_tests) in
    written_is_some (write_page pages w.0 w.1) writes n
    (⊎_elim (λ (some : IsSome (pages n)). inl (rw e some)) (λ (here : is_written (w ∷ writes) n ≡ true). inr (sym (ap (λ b. b || is_written writes n) e) ∙ here)) h))
    (cases_eq n w.0)

-- and its slot has them
pub slot_written : (slots : List (Option (List ℕ))) (pages : PageMap) (writes : List (ℕ × List ℕ)) (n : ℕ) → n < length slots → (at slots n ≡ pages n) ⊎ (is_written writes n ≡ true) → at (put_slots slots writes) n ≡ pages_with pages writes n
slot_written slots pages [] n fits (inl same) = same
slot_written slots pages [] n fits (inr here) = absurd (false≢true here)
slot_written slots pages (w ∷ writes) n fits h =
    let long : n < length (set slots w.0 (Some w.1)) = omega (arith, length-set slots w.0 (Some w.1)) in
    ⊎_elim (λ (same : n ≡ w.0). let e : eqb n w.0 ≡ true = grind (arith, nat_tests) in
    let put : at (set slots w.0 (Some w.1)) n ≡ Some w.1 = ap (λ k. at (set slots k (Some w.1)) n) (sym same) ∙ get_or-set_same slots n (Some w.1) None fits in
    slot_written (set slots w.0 (Some w.1)) (write_page pages w.0 w.1) writes n long (inl (put ∙ rw e refl)))
    (λ (other : n ≢ w.0). let e : eqb n w.0 ≡ false = grind (arith, nat_tests) in
    let kept : at (set slots w.0 (Some w.1)) n ≡ at slots n = get_or-set_other slots w.0 n (Some w.1) None other in
    slot_written (set slots w.0 (Some w.1)) (write_page pages w.0 w.1) writes n long
    (⊎_elim (λ (same : at slots n ≡ pages n). inl (kept ∙ same ∙ rw e refl)) (λ (here : is_written (w ∷ writes) n ≡ true). inr (sym (ap (λ b. b || is_written writes n) e) ∙ here)) h))
    (cases_eq n w.0)

-- what writes a page isn't empty
pub some_written : (writes : List (ℕ × List ℕ)) (n : ℕ) → is_written writes n ≡ true → 0 < length writes
some_written [] n here = absurd (false≢true here)
some_written (w ∷ writes) n here = omega arith
