-- Numbers taken out of a set and put into it.
use Rattle.std.proofs.Common.{◌≡◌, ℕ, ◌+◌, ◌<◌, Bool, true, false, not, cond, ◌&&◌, ◌||◌, List, length, take, drop, get_or, eqb, refl, sym, ap, ◌∙◌, arith, take-append-drop}
use Rattle.std.specs.Ordering.{nat_cmp}
use Rattle.std.specs.BTreeMap.{is_at}
use Rattle.std.proofs.lemmas.Bool.{false≢true}
use Rattle.std.proofs.lemmas.Bool.Decides.{nat_tests}
use Rattle.std.proofs.lemmas.List.Folds.{list_any_more, list_any-append}
use Rattle.page_store.specs.PageMap.{is_freed}

-- one more number taken out
pub one_out : (here before old : Bool) → cond here false (old && not before) ≡ (old && not (before || here))
one_out true true true = refl
one_out true true false = refl
one_out true false true = refl
one_out true false false = refl
one_out false true true = refl
one_out false true false = refl
one_out false false true = refl
one_out false false false = refl

-- two tests of numbers are one, the other way round
pub same_number_back : (n q : ℕ) → is_at (nat_cmp n) q ≡ eqb q n
same_number_back n q = grind (arith, nat_tests)

-- one more number taken out
pub out_more : (numbers : List ℕ) (i q : ℕ) (old current new : Bool) → i < length numbers → new ≡ cond (is_at (nat_cmp (get_or numbers i 0)) q) false current → current ≡ (old && not (is_freed (take i numbers) q)) → new ≡ (old && not (is_freed (take (i + 1) numbers) q))
out_more numbers i q old current new below is was =
    is ∙ ap (λ b. cond b false current) (same_number_back (get_or numbers i 0) q)
    ∙ ap (λ c. cond (eqb q (get_or numbers i 0)) false c) was
    ∙ one_out (eqb q (get_or numbers i 0)) (is_freed (take i numbers) q) old
    ∙ ap (λ f. old && not f) (sym (list_any_more (λ n. eqb q n) numbers i 0 below))

in_front : (numbers : List ℕ) (i q : ℕ) → is_freed (take i numbers) q ≡ true → is_freed numbers q ≡ true
in_front numbers i q e =
    ap (λ xs. is_freed xs q) (sym (take-append-drop i numbers)) ∙ list_any-append (λ n. eqb q n) (take i numbers) (drop i numbers) ∙ ap (λ b. b || is_freed (drop i numbers) q) e

undo : (before old : Bool) → (before ≡ true → old ≡ false) → ((old || before) && not before) ≡ old
undo true true apart = absurd (false≢true (sym (apart refl)))
undo true false apart = refl
undo false true apart = refl
undo false false apart = refl

-- numbers put in and taken out again
pub put_in_and_out : (numbers : List ℕ) (i q : ℕ) (old current new : Bool) → (is_freed numbers q ≡ true → old ≡ false) → current ≡ (old || is_freed (take i numbers) q) → new ≡ (current && not (is_freed (take i numbers) q)) → new ≡ old
put_in_and_out numbers i q old current new apart was is =
    is ∙ ap (λ c. c && not (is_freed (take i numbers) q)) was ∙ undo (is_freed (take i numbers) q) old (λ e. apart (in_front numbers i q e))

one_in : (here before old : Bool) → cond here true (old || before) ≡ (old || (before || here))
one_in true true true = refl
one_in true true false = refl
one_in true false true = refl
one_in true false false = refl
one_in false true true = refl
one_in false true false = refl
one_in false false true = refl
one_in false false false = refl

-- one more number put in
pub in_more : (numbers : List ℕ) (i q : ℕ) (old current new : Bool) → i < length numbers → new ≡ cond (is_at (nat_cmp (get_or numbers i 0)) q) true current → current ≡ (old || is_freed (take i numbers) q) → new ≡ (old || is_freed (take (i + 1) numbers) q)
in_more numbers i q old current new below is was =
    is ∙ ap (λ b. cond b true current) (same_number_back (get_or numbers i 0) q)
    ∙ ap (λ c. cond (eqb q (get_or numbers i 0)) true c) was
    ∙ one_in (eqb q (get_or numbers i 0)) (is_freed (take i numbers) q) old
    ∙ ap (λ f. old || f) (sym (list_any_more (λ n. eqb q n) numbers i 0 below))
