-- Which calls a store allows.
use Rattle.std.proofs.Common.{◌≡◌, ◌≢◌, ◌⊎◌, ℕ, ◌+◌, ◌<◌, ◌≤◌, Bool, true, zero, suc, List, [], ◌∷◌, ◌++◌, length, Option, Some, None, Ok, is_some, slice_index_or, IsTrue, refl, sym, ap, subst, ◌∙◌, ⊎_elim, arith}
use Rattle.std.proofs.lemmas.Bool.{cases_eq}
use Rattle.page_store.specs.Guards.{Guard, Unguarded, Unsealed, Sealed, Stopped, allows, may_write, may_grow, AllowsAll, KeepsExactly, SealsGuard, Ascend}
use Rattle.page_store.specs.Journal.{write_of, writes_below, writing_back}
use Rattle.page_store.specs.PageMap.{PageMap}
use Rattle.page_store.specs.declared.step.Step.{Step}
use Rattle.page_store.specs.declared.step.Step.TheVariants.{Write, Sync}

-- the first calls, and those that follow
pub all_left : (guard : Guard) (xs ys : List Step) → AllowsAll guard (xs ++ ys) → AllowsAll guard xs
all_left guard [] ys all = tt
all_left guard (x ∷ xs) ys all = (all.0, all_left guard xs ys all.1)

pub all_right : (guard : Guard) (xs ys : List Step) → AllowsAll guard (xs ++ ys) → AllowsAll guard ys
all_right guard [] ys all = all
all_right guard (x ∷ xs) ys all = all_right guard xs ys all.1

pub all_both : (guard : Guard) (xs ys : List Step) → AllowsAll guard xs → AllowsAll guard ys → AllowsAll guard (xs ++ ys)
all_both guard [] ys some more = more
all_both guard (x ∷ xs) ys some more = (some.0, all_both guard xs ys some.1 more)

-- no call is refused where all are allowed
abbrev pub Passes : List Step → Guard → Guard → Type 0
Passes steps old new = AllowsAll old steps → new ≡ old

-- calls after others
pub then_passes : (xs ys : List Step) (old mid new : Guard) → Passes xs old mid → Passes ys mid new → Passes (xs ++ ys) old new
then_passes xs ys old mid new first next all =
    let same = first (all_left old xs ys all) in
    next (subst (λ (g : Guard). AllowsAll g ys) (sym same) (all_right old xs ys all)) ∙ same

-- further calls that were not made
pub and_more : (xs ys : List Step) (old new : Guard) → Passes xs old new → Passes (xs ++ ys) old new
and_more xs ys old new first all = first (all_left old xs ys all)

-- one call
pub one_passes : (step : Step) (old new : Guard) → (IsTrue (allows old step) → new ≡ old) → Passes (step ∷ []) old new
one_passes step old new is all = is all.0

pub two_pass : (first second : Step) (old mid new : Guard) → (IsTrue (allows old first) → mid ≡ old) → (IsTrue (allows mid second) → new ≡ mid) → Passes (first ∷ second ∷ []) old new
two_pass first second old mid new is later = then_passes (first ∷ []) (second ∷ []) old mid new (one_passes first old mid is) (one_passes second mid new later)

-- a page that is to be written is allowed where all are
pub allowed_at : (guard : Guard) (pages : PageMap) (count n : ℕ) (page : List ℕ) → AllowsAll guard (writes_below pages count) → n < count → Some page ≡ pages n → IsTrue (may_write guard n)
allowed_at guard pages zero n page all below is = absurd (omega (arith, below))
allowed_at guard pages (suc count) n page all below is =
    ⊎_elim (λ (same : n ≡ count).
    let last = all_right guard (writes_below pages count) (write_of count (pages count)) all in
    let here : Some page ≡ pages count = is ∙ ap pages same in
    let wrote = subst (λ (o : Option (List ℕ)). AllowsAll guard (write_of count o)) (sym here) last in
    subst (λ k. IsTrue (may_write guard k)) (sym same) wrote.0)
    (λ (other : n ≢ count). allowed_at guard pages count n page (all_left guard (writes_below pages count) (write_of count (pages count)) all) (omega (arith, below, other)) is)
    (cases_eq n count)

-- all writes are allowed where each page that is written is
pub allows_writes : (guard : Guard) (pages : PageMap) (count : ℕ) → ((n : ℕ) → is_some (pages n) ≡ true → IsTrue (may_write guard n)) → AllowsAll guard (writes_below pages count)
allows_writes guard pages zero each = tt
allows_writes guard pages (suc count) each = all_both guard (writes_below pages count) (write_of count (pages count)) (allows_writes guard pages count each) (at (pages count) refl)
  where
    at : (o : Option (List ℕ)) → pages count ≡ o → AllowsAll guard (write_of count o)
    at None is = tt
    at (Some page) is = (each count (ap is_some is), tt)

-- all calls of a writing back are
pub allows_writing_back : (guard : Guard) (pages : PageMap) (count : ℕ) (writing clean : List ℕ) → IsTrue (may_grow guard) → IsTrue (may_write guard 0) → ((n : ℕ) → is_some (pages n) ≡ true → IsTrue (may_write guard n)) → AllowsAll guard (writing_back pages count writing clean)
allows_writing_back guard pages count writing clean grows header each = (
  grows,
  (header, (refl, all_both guard (writes_below pages count) (Sync ∷ Write 0 clean ∷ Sync ∷ []) (allows_writes guard pages count each) (refl, (header, (refl, tt))))),
)

past_end : (kept : List Bool) (n : ℕ) → length kept ≤ n → slice_index_or kept n true ≡ true
past_end [] n past = refl
past_end (k ∷ kept) zero past = absurd (omega (arith, past))
past_end (k ∷ kept) (suc n) past = past_end kept n (omega (arith, past))

-- where the pages of a test were kept, each of them may be written over, and so may those past the end
pub kept_may_write : (test : ℕ → Bool) (long refusals : ℕ) (guard : Guard) → KeepsExactly test long refusals guard → (n : ℕ) → test n ≡ true → IsTrue (may_write guard n)
kept_may_write test long refusals guard keeps n passes =
    ap (λ (g : Guard). may_write g n) keeps.sealed
    ∙ ⊎_elim (λ (below : n < long). keeps.exact n below ∙ passes) (λ (past : long ≤ n). past_end keeps.kept n (omega (arith, past, keeps.all))) (splits n)
  where
    splits : (n : ℕ) → (n < long) ⊎ (long ≤ n)
    splits n = search arith

-- so a writing back of these pages is allowed
pub sealed_allows : (test : ℕ → Bool) (long refusals : ℕ) (guard : Guard) (pages : PageMap) (count : ℕ) (writing clean : List ℕ) → KeepsExactly test long refusals guard → test 0 ≡ true → ((n : ℕ) → is_some (pages n) ≡ true → test n ≡ true) → AllowsAll guard (writing_back pages count writing clean)
sealed_allows test long refusals guard pages count writing clean keeps header each =
    allows_writing_back guard pages count writing clean (ap may_grow keeps.sealed) (kept_may_write test long refusals guard keeps 0 header) (λ n some. kept_may_write test long refusals guard keeps n (each n some))

-- tests that are alike seal alike, whatever the faults are
pub seals_alike : (F G : Type 0) (test like : ℕ → Bool) (long : ℕ) (old new : Guard) → ((n : ℕ) → test n ≡ like n) → SealsGuard {F = F} test long old (Ok tt) new → SealsGuard {F = G} like long old (Ok tt) new
seals_alike F G test like long Unguarded new alike is = is
seals_alike F G test like long (Unsealed refusals) new alike is = record { kept = is.kept; sealed = is.sealed; all = is.all; exact = λ n below. is.exact n below ∙ alike n }
seals_alike F G test like long (Sealed kept refusals) new alike is = tt
seals_alike F G test like long (Stopped refusals) new alike is = tt

-- numbers that ascend from the first on, and end before the last
abbrev pub AscendTo : ℕ → ℕ → List ℕ → Type 0
AscendTo first last [] = first ≤ last
AscendTo first last (n ∷ numbers) = (first ≤ n) × AscendTo (n + 1) last numbers

-- one more number, or none
pub ascend_more : (first last : ℕ) (numbers : List ℕ) → AscendTo first last numbers → AscendTo first (last + 1) (numbers ++ last ∷ [])
ascend_more first last [] ascend = (ascend, omega arith)
ascend_more first last (n ∷ numbers) ascend = (ascend.0, ascend_more (n + 1) last numbers ascend.1)

pub ascend_skip : (first last : ℕ) (numbers : List ℕ) → AscendTo first last numbers → AscendTo first (last + 1) numbers
ascend_skip first last [] ascend = omega (arith, ascend)
ascend_skip first last (n ∷ numbers) ascend = (ascend.0, ascend_skip (n + 1) last numbers ascend.1)

pub ascends : (first last : ℕ) (numbers : List ℕ) → AscendTo first last numbers → Ascend first numbers
ascends first last [] ascend = tt
ascends first last (n ∷ numbers) ascend = (ascend.0, ascends (n + 1) last numbers ascend.1)
