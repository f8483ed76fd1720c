-- What a front of the calls of a writing back leaves.
use Rattle.std.proofs.Common.{◌≡◌, ℕ, ◌-◌, ◌≤◌, ◌++◌, ◌⊎◌, inl, inr, List, [], ◌∷◌, length, take, Option, Some, None, slice_get, slice_set, zero, suc, refl, ap, ◌∙◌, arith, length-append, unwrap_or, get_or, subst}
use Rattle.std.specs.List.{AllByRecursion}
use Rattle.std.proofs.lemmas.List.{length-replicate, append_assoc}
use Rattle.page_store.specs.Blank.{blank, blanks}
use Rattle.page_store.specs.PageMap.{PageMap}
use Rattle.page_store.specs.declared.step.Step.{Step}
use Rattle.page_store.specs.declared.step.Step.TheVariants.{Write, Sync}
use Rattle.page_store.specs.Journal.{carry, carried, write_of, writes_below, writing_back}
use Rattle.page_store.specs.Fronts.{IsPartWay, two_pages, page_1_written, closed_first, marked_late}
use Rattle.page_store.proofs.WriteBackLemmas.{put_there, kept_beside}

-- page 0 stays as it is
abbrev Spares : Step → Type 0
Spares s = (pages : List (List ℕ)) → slice_get (carry pages s) 0 ≡ slice_get pages 0

pub all_append : (P : Step → Type 0) (xs ys : List Step) → AllByRecursion P xs → AllByRecursion P ys → AllByRecursion P (xs ++ ys)
all_append P [] ys one two = two
all_append P (s ∷ xs) ys one two = (one.0, all_append P xs ys one.1 two)

spared : (n : ℕ) (page : Option (List ℕ)) → (n ≡ 0 → page ≡ None) → AllByRecursion Spares (write_of n page)
spared n None none = tt
spared zero (Some page) none = absurd (let never = none refl in cc)
spared (suc n) (Some page) none = (λ pages. kept_beside pages (suc n) 0 page (λ same. omega (arith, same)), tt)

writes_spare : (pages : PageMap) (n : ℕ) → pages 0 ≡ None → AllByRecursion Spares (writes_below pages n)
writes_spare pages zero none = tt
writes_spare pages (suc n) none = all_append Spares (writes_below pages n) (write_of n (pages n)) (writes_spare pages n none) (spared n (pages n) (λ is. ap pages is ∙ none))

-- steps that spare page 0, and then its last write
front_spares : (middle : List Step) (pages : List (List ℕ)) (mark clean : List ℕ) (k : ℕ) → AllByRecursion Spares middle → slice_get pages 0 ≡ Some mark
    → (slice_get (carried pages (take k (middle ++ (Write 0 clean ∷ Sync ∷ [])))) 0 ≡ Some mark) ⊎ (carried pages (take k (middle ++ (Write 0 clean ∷ Sync ∷ []))) ≡ carried pages (middle ++ (Write 0 clean ∷ Sync ∷ [])))
front_spares [] pages mark clean zero spare marked = inl marked
front_spares [] pages mark clean (suc zero) spare marked = inr refl
front_spares [] pages mark clean (suc (suc zero)) spare marked = inr refl
front_spares [] pages mark clean (suc (suc (suc k))) spare marked = inr refl
front_spares (s ∷ middle) pages mark clean zero spare marked = inl marked
front_spares (s ∷ middle) pages mark clean (suc k) spare marked = front_spares middle (carry pages s) mark clean k spare.1 (spare.0 pages ∙ marked)

marked_front : (pages : List (List ℕ)) (writes : List Step) (mark clean : List ℕ) (k : ℕ) → AllByRecursion Spares writes → slice_get pages 0 ≡ Some mark
    → (slice_get (carried pages (take k (Sync ∷ (writes ++ (Sync ∷ Write 0 clean ∷ Sync ∷ []))))) 0 ≡ Some mark) ⊎ (carried pages (take k (Sync ∷ (writes ++ (Sync ∷ Write 0 clean ∷ Sync ∷ [])))) ≡ carried pages (Sync ∷ (writes ++ (Sync ∷ Write 0 clean ∷ Sync ∷ []))))
marked_front pages writes mark clean k spare marked =
    let same = ap (λ (steps : List Step). Sync ∷ steps) (append_assoc writes (Sync ∷ []) (Write 0 clean ∷ Sync ∷ [])) in
    subst (λ (steps : List Step). (slice_get (carried pages (take k steps)) 0 ≡ Some mark) ⊎ (carried pages (take k steps) ≡ carried pages steps)) same
    (front_spares (Sync ∷ (writes ++ (Sync ∷ []))) pages mark clean k (λ ps. refl, all_append Spares writes (Sync ∷ []) spare (λ ps. refl, tt)) marked)

-- once page 0 was marked it stays so until all is done
pub later_front : (old : List (List ℕ)) (pages : PageMap) (count : ℕ) (writing clean : List ℕ) (k : ℕ) → 1 ≤ count → pages 0 ≡ None
    → (slice_get (carried old (take (suc (suc k)) (writing_back pages count writing clean))) 0 ≡ Some writing) ⊎ (carried old (take (suc (suc k)) (writing_back pages count writing clean)) ≡ carried old (writing_back pages count writing clean))
later_front old pages count writing clean k some none =
    let longer = old ++ blanks (count - length old) in
    let long = length-append old (blanks (count - length old)) in
    let more = length-replicate (count - length old) blank in
    marked_front (slice_set longer 0 writing) (writes_below pages count) writing clean k (writes_spare pages count none) (put_there longer 0 writing (omega arith))

-- any front of a writing back's calls leaves the file part-way as said
pub part_way : (old : List (List ℕ)) (pages : PageMap) (count : ℕ) (writing clean : List ℕ) (k : ℕ) → 1 ≤ count → pages 0 ≡ None
    → IsPartWay old count writing (carried old (writing_back pages count writing clean)) (carried old (take k (writing_back pages count writing clean)))
part_way old pages count writing clean zero some none = inl refl
part_way old pages count writing clean (suc zero) some none = inr (inl refl)
part_way old pages count writing clean (suc (suc k)) some none = inr (inr (later_front old pages count writing clean k some none))

-- the examples that fail
abbrev byte_of : Option (List ℕ) → ℕ
byte_of o = get_or (unwrap_or o []) 0 0

-- page 0 closed before page 1 is written is no way to write back
pub never_closed_first : IsPartWay two_pages 2 (4 ∷ []) (carried two_pages page_1_written) (carried two_pages (take 2 closed_first)) → ⊥
never_closed_first (inl same) = let e : ◌≡◌ {A = ℕ} 5 1 = ap (λ (ps : List (List ℕ)). byte_of (slice_get ps 0)) same in absurd (omega (arith, e))
never_closed_first (inr (inl same)) = let e : ◌≡◌ {A = ℕ} 5 1 = ap (λ (ps : List (List ℕ)). byte_of (slice_get ps 0)) same in absurd (omega (arith, e))
never_closed_first (inr (inr (inl same))) = let e : ◌≡◌ {A = ℕ} 5 4 = ap byte_of same in absurd (omega (arith, e))
never_closed_first (inr (inr (inr same))) = let e : ◌≡◌ {A = ℕ} 2 3 = ap (λ (ps : List (List ℕ)). byte_of (slice_get ps 1)) same in absurd (omega (arith, e))

-- neither is page 1 written before page 0 is marked
pub never_marked_late : IsPartWay two_pages 2 (4 ∷ []) (carried two_pages page_1_written) (carried two_pages (take 2 marked_late)) → ⊥
never_marked_late (inl same) = let e : ◌≡◌ {A = ℕ} 3 2 = ap (λ (ps : List (List ℕ)). byte_of (slice_get ps 1)) same in absurd (omega (arith, e))
never_marked_late (inr (inl same)) = let e : ◌≡◌ {A = ℕ} 3 2 = ap (λ (ps : List (List ℕ)). byte_of (slice_get ps 1)) same in absurd (omega (arith, e))
never_marked_late (inr (inr (inl same))) = let e : ◌≡◌ {A = ℕ} 1 4 = ap byte_of same in absurd (omega (arith, e))
never_marked_late (inr (inr (inr same))) = let e : ◌≡◌ {A = ℕ} 1 5 = ap (λ (ps : List (List ℕ)). byte_of (slice_get ps 0)) same in absurd (omega (arith, e))
