-- What tries of a writing back leave, each of which may have stopped.
use Rattle.std.proofs.Common.{◌≡◌, ◌≢◌, ℕ, ◌+◌, ◌-◌, ◌<◌, ◌≤◌, ◌++◌, ◌⊎◌, inl, inr, ⊎_elim, List, [], ◌∷◌, length, take, Option, Some, None, slice_get, zero, suc, refl, sym, ap, ◌∙◌, subst, arith, append-nil, length-append, set, length-set}
use Rattle.std.specs.List.{AllByRecursion}
use Rattle.std.proofs.lemmas.List.{length-replicate, set-set, set_comm, set_past, set-append_left}
use Rattle.std.proofs.lemmas.Bool.{cases_lt, cases_eq}
use Rattle.std.proofs.lemmas.Option.{slice_get_past}
use Rattle.page_store.specs.Blank.{blank, blanks}
use Rattle.page_store.specs.PageMap.{PageMap}
use Rattle.page_store.specs.declared.step.Step.{Step}
use Rattle.page_store.specs.declared.step.Step.TheVariants.{SetPages, Write, Sync}
use Rattle.page_store.specs.Journal.{carry, carried, write_of, writes_below, writing_back}
use Rattle.page_store.specs.Fronts.{IsPartWay, tried}
use Rattle.page_store.proofs.FrontLemmas.{all_append, later_front}
use Rattle.page_store.proofs.WriteBackLemmas.{kept_left}

-- carried out before all steps, this one changes nothing of what they lead to
abbrev IsRepeated : List Step → Step → Type 0
IsRepeated all s = (pages : List (List ℕ)) → carried (carry pages s) all ≡ carried pages all

-- the steps write page n
abbrev Overwrites : ℕ → List Step → Type 0
Overwrites n [] = ⊥
Overwrites n (SetPages m ∷ steps) = Overwrites n steps
Overwrites n (Write m page ∷ steps) = (n ≡ m) ⊎ Overwrites n steps
Overwrites n (Sync ∷ steps) = Overwrites n steps

-- what page n was before does not matter then
overwritten : (n : ℕ) (steps : List Step) → Overwrites n steps → (page : List ℕ) (pages : List (List ℕ)) → carried (set pages n page) steps ≡ carried pages steps
overwritten n [] never page pages = absurd never
overwritten n (SetPages m ∷ steps) there page pages =
    ⊎_elim (λ (below : n < length pages).
    ap (λ (long : ℕ). carried (set pages n page ++ blanks (m - long)) steps) (length-set pages n page)
    ∙ ap (λ (ps : List (List ℕ)). carried ps steps) (sym (set-append_left pages (blanks (m - length pages)) n page below))
    ∙ overwritten n steps there page (pages ++ blanks (m - length pages)))
    (λ (past : length pages ≤ n). ap (λ (ps : List (List ℕ)). carried ps (SetPages m ∷ steps)) (set_past pages n page past))
    (cases_lt n (length pages))
overwritten n (Write m other ∷ steps) there page pages =
    ⊎_elim (λ (same : n ≡ m). ap (λ (ps : List (List ℕ)). carried ps steps) (subst (λ (x : ℕ). set (set pages n page) x other ≡ set pages x other) same (set-set pages n page other)))
    (λ (differs : n ≢ m).
    ap (λ (ps : List (List ℕ)). carried ps steps) (set_comm pages n m page other differs)
    ∙ overwritten n steps (⊎_elim (λ (same : n ≡ m). absurd (differs same)) (λ (later : Overwrites n steps). later) there) page (set pages m other))
    (cases_eq n m)
overwritten n (Sync ∷ steps) there page pages = overwritten n steps there page pages

overwrites_left : (n : ℕ) (xs ys : List Step) → Overwrites n xs → Overwrites n (xs ++ ys)
overwrites_left n [] ys never = absurd never
overwrites_left n (SetPages m ∷ xs) ys there = overwrites_left n xs ys there
overwrites_left n (Write m page ∷ xs) ys (inl same) = inl same
overwrites_left n (Write m page ∷ xs) ys (inr later) = inr (overwrites_left n xs ys later)
overwrites_left n (Sync ∷ xs) ys there = overwrites_left n xs ys there

overwrites_right : (n : ℕ) (xs ys : List Step) → Overwrites n ys → Overwrites n (xs ++ ys)
overwrites_right n [] ys there = there
overwrites_right n (SetPages m ∷ xs) ys there = overwrites_right n xs ys there
overwrites_right n (Write m page ∷ xs) ys there = inr (overwrites_right n xs ys there)
overwrites_right n (Sync ∷ xs) ys there = overwrites_right n xs ys there

-- a page that there is below the count is written
writes_it : (pages : PageMap) (count n : ℕ) (page : List ℕ) → n < count → pages n ≡ Some page → Overwrites n (writes_below pages count)
writes_it pages zero n page below is = absurd (omega (arith, below))
writes_it pages (suc m) n page below is =
    ⊎_elim (λ (before : n < m). overwrites_left n (writes_below pages m) (write_of m (pages m)) (writes_it pages m n page before is))
    (λ (last : m ≤ n).
    let here : n ≡ m = omega (arith, below, last) in
    overwrites_right n (writes_below pages m) (write_of m (pages m)) (subst (λ (o : Option (List ℕ)). Overwrites n (write_of m o)) (sym (ap pages (sym here) ∙ is)) (inl here)))
    (cases_lt n m)

-- the pages are long enough after the first step
grown : (pages : List (List ℕ)) (count : ℕ) → length (carry pages (SetPages count)) ≡ length pages + (count - length pages)
grown pages count = length-append pages (blanks (count - length pages)) ∙ ap (λ (n : ℕ). length pages + n) (length-replicate (count - length pages) blank)

-- long pages aren't made longer
long_enough : (pages : List (List ℕ)) (count : ℕ) → count ≤ length pages → carry pages (SetPages count) ≡ pages
long_enough pages count long = let none : count - length pages ≡ 0 = omega (arith, long) in ap (λ (n : ℕ). pages ++ blanks n) none ∙ append-nil pages

grown_twice : (pages : List (List ℕ)) (count : ℕ) → carry (carry pages (SetPages count)) (SetPages count) ≡ carry pages (SetPages count)
grown_twice pages count = long_enough (carry pages (SetPages count)) count (let long = grown pages count in omega arith)

repeated_write : (all : List Step) (n : ℕ) (page : Option (List ℕ)) → ((bytes : List ℕ) → page ≡ Some bytes → Overwrites n all) → AllByRecursion (IsRepeated all) (write_of n page)
repeated_write all n None there = tt
repeated_write all n (Some bytes) there = (overwritten n all (there bytes refl) bytes, tt)

repeated_writes : (all : List Step) (pages : PageMap) (m : ℕ) → ((n : ℕ) → n < m → (bytes : List ℕ) → pages n ≡ Some bytes → Overwrites n all) → AllByRecursion (IsRepeated all) (writes_below pages m)
repeated_writes all pages zero there = tt
repeated_writes all pages (suc m) there =
    all_append (IsRepeated all) (writes_below pages m) (write_of m (pages m)) (repeated_writes all pages m (λ n below. there n (omega (arith, below))))
    (repeated_write all m (pages m) (there m (omega arith)))

-- each call of a writing back
repeated : (pages : PageMap) (count : ℕ) (writing clean : List ℕ) → AllByRecursion (IsRepeated (writing_back pages count writing clean)) (writing_back pages count writing clean)
repeated pages count writing clean =
    let all = writing_back pages count writing clean in
    let rest = Write 0 writing ∷ Sync ∷ (writes_below pages count ++ (Sync ∷ Write 0 clean ∷ Sync ∷ [])) in (
      λ ps. ap (λ (qs : List (List ℕ)). carried qs rest) (grown_twice ps count),
      (
        overwritten 0 all (inl refl) writing,
        (
          λ ps. refl,
          all_append (IsRepeated all) (writes_below pages count) (Sync ∷ Write 0 clean ∷ Sync ∷ [])
              (repeated_writes all pages count (λ n below bytes is. inr (overwrites_left n (writes_below pages count) (Sync ∷ Write 0 clean ∷ Sync ∷ []) (writes_it pages count n bytes below is))))
              (λ ps. refl, (overwritten 0 all (inl refl) clean, (λ ps. refl, tt))),
        ),
      ),
    )

all_take : (P : Step → Type 0) (k : ℕ) (xs : List Step) → AllByRecursion P xs → AllByRecursion P (take k xs)
all_take P zero xs each = tt
all_take P (suc k) [] each = tt
all_take P (suc k) (s ∷ xs) each = (each.0, all_take P k xs each.1)

-- steps in two parts
pub carried-append : (pages : List (List ℕ)) (xs ys : List Step) → carried pages (xs ++ ys) ≡ carried (carried pages xs) ys
carried-append pages [] ys = refl
carried-append pages (s ∷ xs) ys = carried-append (carry pages s) xs ys

-- repeated steps, and then all
absorbed : (all front : List Step) → AllByRecursion (IsRepeated all) front → (pages : List (List ℕ)) → carried (carried pages front) all ≡ carried pages all
absorbed all [] each pages = refl
absorbed all (s ∷ front) each pages = absorbed all front each.1 (carry pages s) ∙ each.0 pages

repeated_tries : (all : List Step) (ks : List ℕ) → AllByRecursion (IsRepeated all) all → AllByRecursion (IsRepeated all) (tried ks all)
repeated_tries all [] each = tt
repeated_tries all (k ∷ ks) each = all_append (IsRepeated all) (take k all) (tried ks all) (all_take (IsRepeated all) k all each) (repeated_tries all ks each)

-- whatever was tried before, all steps lead to the same
pub tries_then_all : (old : List (List ℕ)) (pages : PageMap) (count : ℕ) (writing clean : List ℕ) (ks : List ℕ)
    → carried (carried old (tried ks (writing_back pages count writing clean))) (writing_back pages count writing clean) ≡ carried old (writing_back pages count writing clean)
tries_then_all old pages count writing clean ks =
    let all = writing_back pages count writing clean in
    absorbed all (tried ks all) (repeated_tries all ks (repeated pages count writing clean)) old

never_shorter : (steps : List Step) (pages : List (List ℕ)) → length pages ≤ length (carried pages steps)
never_shorter [] pages = omega arith
never_shorter (SetPages n ∷ steps) pages = let more = grown pages n in let later = never_shorter steps (carry pages (SetPages n)) in omega arith
never_shorter (Write n page ∷ steps) pages = let same = length-set pages n page in let later = never_shorter steps (set pages n page) in omega arith
never_shorter (Sync ∷ steps) pages = never_shorter steps pages

marked_stays : (pages more : List (List ℕ)) (mark : List ℕ) → slice_get pages 0 ≡ Some mark → slice_get (pages ++ more) 0 ≡ Some mark
marked_stays pages more mark marked =
    ⊎_elim (λ (some : 0 < length pages). kept_left pages more 0 some ∙ marked)
    (λ (none : length pages ≤ 0). absurd (let never = sym (slice_get_past pages 0 none) ∙ marked in cc))
    (cases_lt 0 (length pages))

-- the first call of one more try
longer_again : (old pages : List (List ℕ)) (count : ℕ) (mark : List ℕ) (rest : List Step) → IsPartWay old count mark (carried old (SetPages count ∷ rest)) pages
    → IsPartWay old count mark (carried old (SetPages count ∷ rest)) (carry pages (SetPages count))
longer_again old pages count mark rest (inl same) = inr (inl (ap (λ (ps : List (List ℕ)). carry ps (SetPages count)) same))
longer_again old pages count mark rest (inr (inl same)) = inr (inl (ap (λ (ps : List (List ℕ)). carry ps (SetPages count)) same ∙ grown_twice old count))
longer_again old pages count mark rest (inr (inr (inl marked))) = inr (inr (inl (marked_stays pages (blanks (count - length pages)) mark marked)))
longer_again old pages count mark rest (inr (inr (inr same))) =
    let long = grown old count in
    let later = never_shorter rest (carry old (SetPages count)) in
    let is = ap (λ (ps : List (List ℕ)). length ps) same in
    inr (inr (inr (long_enough pages count (omega arith) ∙ same)))

-- one more try
part_way_again : (old now : List (List ℕ)) (pages : PageMap) (count : ℕ) (writing clean : List ℕ) (k : ℕ) → 1 ≤ count → pages 0 ≡ None
    → carried now (writing_back pages count writing clean) ≡ carried old (writing_back pages count writing clean)
    → IsPartWay old count writing (carried old (writing_back pages count writing clean)) now
    → IsPartWay old count writing (carried old (writing_back pages count writing clean)) (carried now (take k (writing_back pages count writing clean)))
part_way_again old now pages count writing clean zero some none ends way = way
part_way_again old now pages count writing clean (suc zero) some none ends way =
    longer_again old now count writing (Write 0 writing ∷ Sync ∷ (writes_below pages count ++ (Sync ∷ Write 0 clean ∷ Sync ∷ []))) way
part_way_again old now pages count writing clean (suc (suc k)) some none ends way =
    ⊎_elim (λ (marked : slice_get (carried now (take (suc (suc k)) (writing_back pages count writing clean))) 0 ≡ Some writing). inr (inr (inl marked)))
    (λ (all : carried now (take (suc (suc k)) (writing_back pages count writing clean)) ≡ carried now (writing_back pages count writing clean)). inr (inr (inr (all ∙ ends))))
    (later_front now pages count writing clean k some none)

tries_from : (old now : List (List ℕ)) (pages : PageMap) (count : ℕ) (writing clean : List ℕ) (ks : List ℕ) → 1 ≤ count → pages 0 ≡ None
    → carried now (writing_back pages count writing clean) ≡ carried old (writing_back pages count writing clean)
    → IsPartWay old count writing (carried old (writing_back pages count writing clean)) now
    → IsPartWay old count writing (carried old (writing_back pages count writing clean)) (carried now (tried ks (writing_back pages count writing clean)))
tries_from old now pages count writing clean [] some none ends way = way
tries_from old now pages count writing clean (k ∷ ks) some none ends way =
    let all = writing_back pages count writing clean in
    subst (λ (ps : List (List ℕ)). IsPartWay old count writing (carried old all) ps) (sym (carried-append now (take k all) (tried ks all)))
    (tries_from old (carried now (take k all)) pages count writing clean ks some none
    (absorbed all (take k all) (all_take (IsRepeated all) k all (repeated pages count writing clean)) now ∙ ends)
    (part_way_again old now pages count writing clean k some none ends way))

-- any tries leave the file part-way as said
pub tries_part_way : (old : List (List ℕ)) (pages : PageMap) (count : ℕ) (writing clean : List ℕ) (ks : List ℕ) → 1 ≤ count → pages 0 ≡ None
    → IsPartWay old count writing (carried old (writing_back pages count writing clean)) (carried old (tried ks (writing_back pages count writing clean)))
tries_part_way old pages count writing clean ks some none = tries_from old old pages count writing clean ks some none refl (inl refl)
