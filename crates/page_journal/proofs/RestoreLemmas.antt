-- Old pages put back: what they leave depends on no page that is kept, and on nothing past the old end.
use Rattle.std.proofs.Common.{◌≡◌, ◌≢◌, ◌⊎◌, inl, inr, ⊎_elim, ℕ, zero, suc, ◌<◌, ◌≤◌, Bool, true, false, cond, ◌||◌, eqb, List, [], ◌∷◌, ◌++◌, length, take, Option, Some, None, All, slice_get, get_or, set, unwrap_or, refl, sym, ◌∙◌, ap, subst, arith, length-set, length-append, get_or-set_same, get_or-set_other, get_or-take}
use Rattle.std.proofs.lemmas.List.{length-take-le, take-take, take_all, get_or_append_left}
use Rattle.std.proofs.lemmas.Option.{slice_get-get_or, slice_get_past}
use Rattle.std.proofs.lemmas.Bool.{cases_lt, cases_eq, false≢true, ne_eqb}
use Rattle.page_journal.specs.Files.{PageFile, SideFile, IsOf, SaysRest, is_kept, put_back, restored, Agree}
use Rattle.page_journal.specs.Sums.{sum_on, sum_without}

pub kept_beside : (old : List (List ℕ)) (n k : ℕ) (page : List ℕ) → k ≢ n → slice_get (set old n page) k ≡ slice_get old k
kept_beside old n k page other =
    ⊎_elim (λ (below : k < length old).
    slice_get-get_or (set old n page) k [] (let long = length-set old n page in omega arith)
    ∙ ap (λ (b : List ℕ). Some b) (get_or-set_other old n k page [] other)
    ∙ sym (slice_get-get_or old k [] below))
    (λ (past : length old ≤ k).
    slice_get_past (set old n page) k (let long = length-set old n page in omega arith) ∙ sym (slice_get_past old k past))
    (cases_lt k (length old))

pub put_there : (old : List (List ℕ)) (n : ℕ) (page : List ℕ) → n < length old → slice_get (set old n page) n ≡ Some page
put_there old n page below =
    slice_get-get_or (set old n page) n [] (let long = length-set old n page in omega arith)
    ∙ ap (λ (b : List ℕ). Some b) (get_or-set_same old n page [] below)

get_taken : (m n : ℕ) (l : List (List ℕ)) → n < m → m ≤ length l → slice_get (take m l) n ≡ slice_get l n
get_taken m n l below fits =
    slice_get-get_or (take m l) n [] (let long = length-take-le m l fits in omega arith)
    ∙ ap (λ (b : List ℕ). Some b) (get_or-take m l n [] below)
    ∙ sym (slice_get-get_or l n [] (omega arith))

pub same_pages : (a b : List (List ℕ)) → length a ≡ length b → ((n : ℕ) → n < length a → slice_get b n ≡ slice_get a n) → b ≡ a
same_pages [] [] long same = refl
same_pages [] (y ∷ b) long same = absurd (omega (arith, long))
same_pages (x ∷ a) [] long same = absurd (omega (arith, long))
same_pages (x ∷ a) (y ∷ b) long same =
    let head : y ≡ x = ap (λ (o : Option (List ℕ)). unwrap_or o x) (same zero (omega arith)) in
    let tail : b ≡ a = same_pages a b (omega (arith, long)) (λ n below. same (suc n) (omega (arith, below))) in
    λ i. head i ∷ tail i

beside_kept : (n m : ℕ) (rest : Bool) → n ≢ m → rest ≡ false → (eqb n m || rest) ≡ false
beside_kept n m rest other none = ap (λ (b : Bool). b || rest) (ne_eqb n m other) ∙ none

-- files of one length that are the same but for these pages
put_back_same : (kept : List (ℕ × List ℕ)) (a b : List (List ℕ)) → length a ≡ length b → ((n : ℕ) → n < length a → is_kept kept n ≡ false → slice_get b n ≡ slice_get a n) → put_back kept b ≡ put_back kept a
put_back_same [] a b long same = same_pages a b long (λ n below. same n below refl)
put_back_same (p ∷ kept) a b long same =
    put_back_same kept (set a p.0 p.1) (set b p.0 p.1) (length-set a p.0 p.1 ∙ long ∙ sym (length-set b p.0 p.1)) (λ n below none. at n (omega (arith, below, length-set a p.0 p.1)) none (cases_eq n p.0))
  where
    at : (n : ℕ) → n < length a → is_kept kept n ≡ false → (n ≡ p.0) ⊎ (n ≢ p.0) → slice_get (set b p.0 p.1) n ≡ slice_get (set a p.0 p.1) n
    at n below none (inl here) =
        ap (λ k. slice_get (set b p.0 p.1) k) here ∙ put_there b p.0 p.1 (omega (arith, here, below, long)) ∙ sym (put_there a p.0 p.1 (omega (arith, here, below))) ∙ ap (λ k. slice_get (set a p.0 p.1) k) (sym here)
    at n below none (inr other) =
        kept_beside b p.0 n p.1 other ∙ same n below (beside_kept n p.0 (is_kept kept n) other none) ∙ sym (kept_beside a p.0 n p.1 other)

-- so what is restored depends on no kept page
pub restores_same : (kept : SideFile) (a b : List (List ℕ)) → Agree kept a b → restored kept b ≡ restored kept a
restores_same kept a b agree =
    let la = length-take-le kept.long a agree.first_long in
    let lb = length-take-le kept.long b agree.long in
    let same : put_back kept.pages (take kept.long b) ≡ put_back kept.pages (take kept.long a) =
    put_back_same kept.pages (take kept.long a) (take kept.long b) (la ∙ sym lb) (λ n below none.
    let in_old : n < kept.long = omega (arith, below, la) in
    get_taken kept.long n b in_old agree.long ∙ agree.same n in_old none ∙ sym (get_taken kept.long n a in_old agree.first_long)) in
    λ i. record { pages = same i; tail = 0 }

-- a page that is there already changes nothing
set_there : (pages : List (List ℕ)) (n : ℕ) (page : List ℕ) → slice_get pages n ≡ Some page → set pages n page ≡ pages
set_there pages n page there = same_pages pages (set pages n page) (sym (length-set pages n page)) (λ k below. at k (cases_eq k n))
  where
    at : (k : ℕ) → (k ≡ n) ⊎ (k ≢ n) → slice_get (set pages n page) k ≡ slice_get pages k
    at k (inr other) = kept_beside pages n k page other
    at k (inl here) = ⊎_elim (λ (below : n < length pages). ap (λ j. slice_get (set pages n page) j) here ∙ put_there pages n page below ∙ sym there ∙ ap (λ j. slice_get pages j) (sym here))
        (λ (past : length pages ≤ n). slice_get_past (set pages n page) k (omega (arith, past, here, length-set pages n page)) ∙ sym (slice_get_past pages k (omega (arith, past, here))))
        (cases_lt n (length pages))

-- nor does one past the end
pub set_past : (pages : List (List ℕ)) (n : ℕ) (page : List ℕ) → length pages ≤ n → set pages n page ≡ pages
set_past pages n page past = same_pages pages (set pages n page) (sym (length-set pages n page)) (λ k below. kept_beside pages n k page (λ here. omega (arith, below, here, past)))

-- pages as they are in the file change nothing where they are put back
put_back_there : (kept : List (ℕ × List ℕ)) (pages : List (List ℕ)) → All (λ (p : ℕ × List ℕ). slice_get pages p.0 ≡ Some p.1) kept → put_back kept pages ≡ pages
put_back_there [] pages all = refl
put_back_there (p ∷ kept) pages all = ap (λ m. put_back kept m) (set_there pages p.0 p.1 (all zero p (omega arith))) ∙ put_back_there kept pages (λ k d below. all (suc k) d (omega (arith, below)))

pub restored_itself : (main : PageFile) (kept : SideFile) → main.tail ≡ 0 → kept.long ≡ length main.pages → All (λ (p : ℕ × List ℕ). slice_get main.pages p.0 ≡ Some p.1) kept.pages → restored kept main.pages ≡ main
restored_itself main kept no_tail long there =
    let whole = take_all kept.long main.pages (omega (arith, long)) in
    let same : put_back kept.pages (take kept.long main.pages) ≡ main.pages = ap (λ m. put_back kept.pages m) whole ∙ put_back_there kept.pages main.pages there in
    λ i. record { pages = same i; tail = sym no_tail i }

pub agree_itself : (kept : SideFile) (a : List (List ℕ)) → kept.long ≤ length a → Agree kept a a
agree_itself kept a long = record { first_long = long; long = long; same = λ n below none. refl }

-- a page written that is kept, or past the old end
pub agree_put : (kept : SideFile) (a b c : List (List ℕ)) (n : ℕ) (page : List ℕ) → Agree kept a b → c ≡ set b n page → (is_kept kept.pages n ≡ true) ⊎ (kept.long ≤ n) → Agree kept a c
agree_put kept a b c n page agree is may = record {
  first_long = agree.first_long;
  long = omega (arith, agree.long, ap (λ (l : List (List ℕ)). length l) is, length-set b n page);
  same = λ k below none.
      ap (λ (l : List (List ℕ)). slice_get l k) is ∙ kept_beside b n k page (λ here. ⊎_elim (λ is_in. false≢true (sym none ∙ ap (is_kept kept.pages) here ∙ is_in)) (λ past. omega (arith, past, here, below)) may) ∙ agree.same k below none;
}

pub agree_more : (kept : SideFile) (a b c more : List (List ℕ)) → Agree kept a b → c ≡ b ++ more → Agree kept a c
agree_more kept a b c more agree is = record {
  first_long = agree.first_long;
  long = omega (arith, agree.long, ap (λ (l : List (List ℕ)). length l) is, length-append b more);
  same = λ k below none. ap (λ (l : List (List ℕ)). slice_get l k) is ∙ kept_left k (omega (arith, below, agree.long)) ∙ agree.same k below none;
}
  where
    kept_left : (k : ℕ) → k < length b → slice_get (b ++ more) k ≡ slice_get b k
    kept_left k below = slice_get-get_or (b ++ more) k [] (omega (arith, below, length-append b more)) ∙ ap (λ (x : List ℕ). Some x) (get_or_append_left b more [] k below) ∙ sym (slice_get-get_or b k [] below)

pub agree_cut : (kept : SideFile) (a b c : List (List ℕ)) (to : ℕ) → Agree kept a b → kept.long ≤ to → c ≡ take to b → Agree kept a c
agree_cut kept a b c to agree least is = at (cases_lt to (length b))
  where
    at : (to < length b) ⊎ (length b ≤ to) → Agree kept a c
    at (inr all) = subst (λ (l : List (List ℕ)). Agree kept a l) (sym (is ∙ take_all to b all)) agree
    at (inl below) = record {
      first_long = agree.first_long;
      long = omega (arith, least, ap (λ (l : List (List ℕ)). length l) is, length-take-le to b (omega (arith, below)));
      same = λ k old none. ap (λ (l : List (List ℕ)). slice_get l k) is ∙ get_taken to k b (omega (arith, old, least)) (omega (arith, below)) ∙ agree.same k old none;
    }

-- a file cut to that length, whatever it was cut to
pub cut_is : (n to : ℕ) (d c : List (List ℕ)) → n ≤ to → c ≡ take to d → length c ≡ n → c ≡ take n d
cut_is n to d c least is long = sym (take_all n c (omega (arith, long))) ∙ ap (λ (l : List (List ℕ)). take n l) is ∙ take-take n to d least

-- the sum over the pages that aren't left out is the same where they are
pub sum_same : (out : ℕ → Bool) (n : ℕ) (a b : List (List ℕ)) → ((k : ℕ) → k < n → out k ≡ false → get_or b k [] ≡ get_or a k []) → sum_without out n b ≡ sum_without out n a
sum_same out zero a b same = refl
sum_same out (suc n) a b same = at (out n) refl (sum_same out n a b (λ k below none. same k (omega (arith, below)) none))
  where
    at : (o : Bool) → out n ≡ o → sum_without out n b ≡ sum_without out n a → cond (out n) (sum_without out n b) (sum_on (sum_without out n b) (get_or b n [])) ≡ cond (out n) (sum_without out n a) (sum_on (sum_without out n a) (get_or a n []))
    at true is ih =
        ap (λ (o : Bool). cond o (sum_without out n b) (sum_on (sum_without out n b) (get_or b n []))) is
        ∙ ih
        ∙ sym (ap (λ (o : Bool). cond o (sum_without out n a) (sum_on (sum_without out n a) (get_or a n []))) is)
    at false is ih =
        ap (λ (o : Bool). cond o (sum_without out n b) (sum_on (sum_without out n b) (get_or b n []))) is
        ∙ ap (λ (s : ℕ). sum_on s (get_or b n [])) ih
        ∙ ap (λ (p : List ℕ). sum_on (sum_without out n a) p) (same n (omega arith) is)
        ∙ sym (ap (λ (o : Bool). cond o (sum_without out n a) (sum_on (sum_without out n a) (get_or a n []))) is)

-- and where the same are left out
pub sum_alike : (out other : ℕ → Bool) (n : ℕ) (pages : List (List ℕ)) → ((k : ℕ) → k < n → out k ≡ other k) → sum_without out n pages ≡ sum_without other n pages
sum_alike out other zero pages same = refl
sum_alike out other (suc n) pages same =
    ap (λ (o : Bool). cond o (sum_without out n pages) (sum_on (sum_without out n pages) (get_or pages n []))) (same n (omega arith))
    ∙ ap (λ (s : ℕ). cond (other n) s (sum_on s (get_or pages n []))) (sum_alike out other n pages (λ k below. same k (omega (arith, below))))

-- one page more
pub sum_in : (out : ℕ → Bool) (n : ℕ) (pages : List (List ℕ)) → out n ≡ false → sum_without out (suc n) pages ≡ sum_on (sum_without out n pages) (get_or pages n [])
sum_in out n pages is = ap (λ (o : Bool). cond o (sum_without out n pages) (sum_on (sum_without out n pages) (get_or pages n []))) is

pub sum_out : (out : ℕ → Bool) (n : ℕ) (pages : List (List ℕ)) → out n ≡ true → sum_without out (suc n) pages ≡ sum_without out n pages
sum_out out n pages is = ap (λ (o : Bool). cond o (sum_without out n pages) (sum_on (sum_without out n pages) (get_or pages n []))) is

-- a side file of a file is one of each that is the same but for the pages that it keeps
pub of_agree : (kept : SideFile) (a b : List (List ℕ)) → Agree kept a b → IsOf kept a → IsOf kept b
of_agree kept a b agree own = record { long = agree.long; rest = says kept.rest own.rest }
  where
    got : (k : ℕ) → k < kept.long → is_kept kept.pages k ≡ false → get_or b k [] ≡ get_or a k []
    got k below none = ap (λ (o : Option (List ℕ)). unwrap_or o []) (sym (slice_get-get_or b k [] (omega (arith, below, agree.long))) ∙ agree.same k below none ∙ slice_get-get_or a k [] (omega (arith, below, agree.first_long)))

    says : (o : Option ℕ) → SaysRest kept a o → SaysRest kept b o
    says None was = tt
    says (Some rest) was = (was.0, was.1 ∙ sym (sum_same (is_kept kept.pages) kept.long a b got))
