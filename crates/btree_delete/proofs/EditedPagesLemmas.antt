-- The pages after an edit that grows.
use Rattle.std.proofs.Common.{◌≡◌, ℕ, Bool, true, false, ◌||◌, cond, eqb, Option, Some, None, List, [], ◌∷◌, ◌++◌, refl, ap, sym, ◌∙◌, arith, eq-eqb}
use Rattle.std.proofs.lemmas.Bool.Decides.{nat_tests}
use Rattle.page_store.specs.PageMap.{PageMap, write_page, pages_with, free_all, after, is_written, is_freed}
use Rattle.btree_insert.proofs.SettledTreeLemmas.{overlay_push}
use Rattle.btree_delete.specs.Tidy.{Untouched}

-- numbers that are told to be equal are
pub same_number : (q n : ℕ) → eqb q n ≡ true → q ≡ n
same_number q n is = grind (arith, nat_tests)

swap : (b c : Bool) (page : List ℕ) (rest : Option (List ℕ)) → (b ≡ true → c ≡ true → ⊥) → cond b None (cond c (Some page) rest) ≡ cond c (Some page) (cond b None rest)
swap true true page rest never = absurd (never refl refl)
swap true false page rest never = refl
swap false c page rest never = refl

first_kept : (b c : Bool) → (b || c) ≡ false → b ≡ true → ⊥
first_kept true c is on = let never : true ≡ false = is in absurd (cc)
first_kept false c is on = absurd (cc)

pub or_right : (b c : Bool) → (b || c) ≡ false → c ≡ false
or_right true c is = absurd (cc)
or_right false c is = is

free_write : (pages : PageMap) (fs : List ℕ) (n : ℕ) (page : List ℕ) (q : ℕ) → is_freed fs n ≡ false → free_all (write_page pages n page) fs q ≡ write_page (free_all pages fs) n page q
free_write pages [] n page q kept = refl
free_write pages (f ∷ fs) n page q kept =
    ap (λ (rest : Option (List ℕ)). cond (eqb q f) None rest) (free_write pages fs n page q (or_right (eqb n f) (is_freed fs n) kept))
    ∙ swap (eqb q f) (eqb q n) page (free_all pages fs q)
    (λ is_f is_n. first_kept (eqb n f) (is_freed fs n) kept (eq-eqb n f (sym (same_number q n is_n) ∙ same_number q f is_f)))

-- a page that is not freed, written last
pub after_write : (pages : PageMap) (ws : List (ℕ × List ℕ)) (fs : List ℕ) (n : ℕ) (page : List ℕ) → is_freed fs n ≡ false → after pages (ws ++ (n, page) ∷ []) fs ≡ write_page (after pages ws fs) n page
after_write pages ws fs n page kept =
    λ i q. (ap (λ (m : PageMap). free_all m fs q) (overlay_push pages ws (n, page)) ∙ free_write (pages_with pages ws) fs n page q kept) i

both_none : (b c : Bool) (rest : Option (List ℕ)) → cond b None (cond c None rest) ≡ cond c None (cond b None rest)
both_none true true rest = refl
both_none true false rest = refl
both_none false c rest = refl

-- one page freed
abbrev pub free_page : PageMap → ℕ → PageMap
free_page pages n q = cond (eqb q n) None (pages q)

free_push : (pages : PageMap) (fs : List ℕ) (n q : ℕ) → free_all pages (fs ++ n ∷ []) q ≡ free_page (free_all pages fs) n q
free_push pages [] n q = refl
free_push pages (f ∷ fs) n q =
    ap (λ (rest : Option (List ℕ)). cond (eqb q f) None rest) (free_push pages fs n q) ∙ both_none (eqb q f) (eqb q n) (free_all pages fs q)

-- the pages after one more is freed
pub after_free : (pages : PageMap) (ws : List (ℕ × List ℕ)) (fs : List ℕ) (n : ℕ) → after pages ws (fs ++ n ∷ []) ≡ free_page (after pages ws fs) n
after_free pages ws fs n = λ i q. free_push (pages_with pages ws) fs n q i

free_kept : (pages : PageMap) (fs : List ℕ) (q : ℕ) → is_freed fs q ≡ false → free_all pages fs q ≡ pages q
free_kept pages [] q kept = refl
free_kept pages (f ∷ fs) q kept =
    at (eqb q f) (is_freed fs q) kept (free_kept pages fs q (or_right (eqb q f) (is_freed fs q) kept))
  where
    at : (b c : Bool) → (b || c) ≡ false → free_all pages fs q ≡ pages q → cond b None (free_all pages fs q) ≡ pages q
    at true c is rest = absurd (cc)
    at false c is rest = rest

write_kept : (pages : PageMap) (n : ℕ) (page : List ℕ) (q : ℕ) → eqb q n ≡ false → write_page pages n page q ≡ pages q
write_kept pages n page q is = ap (λ (b : Bool). cond b (Some page) (pages q)) is

overlay_kept : (pages : PageMap) (ws : List (ℕ × List ℕ)) (q : ℕ) → is_written ws q ≡ false → pages_with pages ws q ≡ pages q
overlay_kept pages [] q kept = refl
overlay_kept pages (w ∷ ws) q kept =
    overlay_kept (write_page pages w.0 w.1) ws q (or_right (eqb q w.0) (is_written ws q) kept)
    ∙ write_kept pages w.0 w.1 q (first_false (eqb q w.0) (is_written ws q) kept)
  where
    first_false : (b c : Bool) → (b || c) ≡ false → b ≡ false
    first_false true c is = absurd (cc)
    first_false false c is = refl

-- a page that is not touched
pub after_untouched : (pages : PageMap) (ws : List (ℕ × List ℕ)) (fs : List ℕ) (q : ℕ) → Untouched ws fs q → after pages ws fs q ≡ pages q
after_untouched pages ws fs q is = free_kept (pages_with pages ws) fs q is.kept ∙ overlay_kept pages ws q is.unwritten

-- an edit that does nothing leaves the pages
pub after_none : (pages : PageMap) (ws : List (ℕ × List ℕ)) (fs : List ℕ) → ws ≡ [] → fs ≡ [] → after pages ws fs ≡ pages
after_none pages ws fs no_writes none_freed = ap (λ (vs : List (ℕ × List ℕ)). after pages vs fs) no_writes ∙ ap (λ (gs : List ℕ). after pages [] gs) none_freed

-- a page that is freed isn't there
pub free_here : (pages : PageMap) (n : ℕ) → free_page pages n n ≡ None
free_here pages n = ap (λ (b : Bool). cond b None (pages n)) (eq-eqb n n refl)

-- the others are as they were
pub free_other : (pages : PageMap) (n q : ℕ) → (q ≡ n → ⊥) → free_page pages n q ≡ pages q
free_other pages n q other = grind (arith, nat_tests)
