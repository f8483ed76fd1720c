-- The sum over the pages that a side file doesn't keep, taken between one kept number and the next.
use Rattle.std.proofs.Common.{◌≡◌, ◌⊎◌, ⊎_elim, ℕ, zero, suc, ◌+◌, ◌<◌, ◌≤◌, Bool, true, false, ◌||◌, List, [], ◌∷◌, ◌++◌, length, take, Option, Some, slice_get, get_or, unwrap_or, refl, sym, ◌∙◌, ap, subst, arith}
use Rattle.std.proofs.Math.Numerals.{add-one}
use Rattle.std.proofs.lemmas.Bool.{ne_eqb}
use Rattle.std.proofs.lemmas.List.{take_all}
use Rattle.page_journal.specs.Files.{SideFile, Files, AscendBelow, is_kept}
use Rattle.page_journal.specs.Sums.{SumsOn, sum_on, sum_without}
use Rattle.page_journal.specs.Steps.{kept_at, side_shape}
use Rattle.page_journal.specs.declared.disk_state.DiskState.{Ghosts}
use Rattle.page_journal.specs.declared.side_shape.SideShape.{SideShape}
use Rattle.page_journal.proofs.RestoreLemmas.{sum_alike, sum_in, sum_out}
use Rattle.page_journal.proofs.PuttingLemmas.{same_page, kept_last, kept_other, ascend_push}

-- one old page more
pub take_more : (kept : List (ℕ × List ℕ)) (i : ℕ) (p : ℕ × List ℕ) → slice_get kept i ≡ Some p → take (suc i) kept ≡ take i kept ++ p ∷ []
take_more [] i p is = absurd (cc)
take_more (q ∷ kept) zero p is = ap (λ (r : ℕ × List ℕ). r ∷ []) (same_page p q is)
take_more (q ∷ kept) (suc i) p is = ap (λ (ps : List (ℕ × List ℕ)). q ∷ ps) (take_more kept i p is)

-- numbers below an end are below a later one, and no number from the end on is kept
pub ascend_raise : (least end later : ℕ) (kept : List (ℕ × List ℕ)) → AscendBelow least end kept → end ≤ later → AscendBelow least later kept
ascend_raise least end later [] up le = tt
ascend_raise least end later (p ∷ kept) up le = (up.0, omega (arith, up.1, le), ascend_raise (suc p.0) end later kept up.2 le)

pub none_past : (least end k : ℕ) (kept : List (ℕ × List ℕ)) → AscendBelow least end kept → end ≤ k → is_kept kept k ≡ false
none_past least end k [] up past = refl
none_past least end k (p ∷ kept) up past = ap (λ (b : Bool). b || is_kept kept k) (ne_eqb k p.0 (λ here. omega (arith, here, past, up.1))) ∙ none_past (suc p.0) end k kept up.2 past

-- those before one are below it
pub ascend_front : (least end : ℕ) (kept : List (ℕ × List ℕ)) (i : ℕ) (p : ℕ × List ℕ) → AscendBelow least end kept → slice_get kept i ≡ Some p → (least ≤ p.0) × (p.0 < end) × AscendBelow least p.0 (take i kept)
ascend_front least end [] i p up is = absurd (cc)
ascend_front least end (q ∷ kept) zero p up is =
    let here : q.0 ≡ p.0 = ap (λ (r : ℕ × List ℕ). r.0) (same_page p q is) in
    (omega (arith, up.0, here), omega (arith, up.1, here), tt)
ascend_front least end (q ∷ kept) (suc i) p up is =
    let rest = ascend_front (suc q.0) end kept i p up.2 is in
    (omega (arith, up.0, rest.0), rest.1, (up.0, rest.0, rest.2))

-- the last one is below the end
ascend_last : (least end : ℕ) (kept : List (ℕ × List ℕ)) (p : ℕ × List ℕ) → AscendBelow least end (kept ++ p ∷ []) → p.0 < end
ascend_last least end [] p up = up.1
ascend_last least end (q ∷ kept) p up = ascend_last (suc q.0) end kept p up.2

-- of the first old pages: their numbers ascend, next is the least that may come, and the sum is that over the pages before it but theirs
pub record Passed (kept : SideFile) (pages : List (List ℕ)) (i next sum : ℕ) : Type 0 where
  pub up : AscendBelow 0 next (take i kept.pages)
  pub least : (m : ℕ) → AscendBelow 0 m (take i kept.pages) → next ≤ m
  pub summed : sum ≡ sum_without (is_kept (take i kept.pages)) next pages

pub passed_none : (kept : SideFile) (pages : List (List ℕ)) (sum : ℕ) → sum ≡ sum_without (is_kept []) 0 pages → Passed kept pages 0 0 sum
passed_none kept pages sum is = record { up = tt; least = λ m up. omega arith; summed = is }

pub passed_one : (kept : SideFile) (pages : List (List ℕ)) (i next n sum more : ℕ) (page : List ℕ) → Passed kept pages i next sum → next ≤ n → slice_get kept.pages i ≡ Some (n, page) → SumsOn pages next n sum more → Passed kept pages (i + 1) (n + 1) more
passed_one kept pages i next n sum more page so le there on = subst (λ j. Passed kept pages j (n + 1) more) (sym (add-one i)) (subst (λ m. Passed kept pages (suc i) m more) (sym (add-one n)) now)
  where
    front : List (ℕ × List ℕ)
    front = take i kept.pages

    grown : take (suc i) kept.pages ≡ front ++ (n, page) ∷ []
    grown = take_more kept.pages i (n, page) there

    upto : more ≡ sum_without (is_kept front) n pages
    upto = on (is_kept front) (λ k from to. none_past 0 next k front so.up from) so.summed

    now : Passed kept pages (suc i) (suc n) more
    now = record {
      up = subst (λ ps. AscendBelow 0 (suc n) ps) (sym grown) (ascend_push 0 n front page (ascend_raise 0 next n front so.up le) (omega arith));
      least = λ m up. omega (arith, ascend_last 0 m front (n, page) (subst (λ ps. AscendBelow 0 m ps) grown up));
      summed = upto
          ∙ sym (sum_alike (is_kept (front ++ (n, page) ∷ [])) (is_kept front) n pages (λ k below. kept_other front n page k (λ here. omega (arith, here, below))))
          ∙ sym (sum_out (is_kept (front ++ (n, page) ∷ [])) n pages (kept_last front n page))
          ∙ ap (λ ps. sum_without (is_kept ps) (suc n) pages) (sym grown);
    }

-- where one doesn't come next, they don't ascend
pub passed_over : (kept : SideFile) (pages : List (List ℕ)) (i next n sum : ℕ) (page : List ℕ) → Passed kept pages i next sum → slice_get kept.pages i ≡ Some (n, page) → (n < next) ⊎ (kept.long ≤ n) → AscendBelow 0 kept.long kept.pages → ⊥
passed_over kept pages i next n sum page so there bad up =
    let front = ascend_front 0 kept.long kept.pages i (n, page) up there in
    ⊎_elim (λ early. omega (arith, early, so.least n front.2)) (λ late. omega (arith, late, front.1)) bad

-- all of them, and the pages behind the last
pub passed_all : (kept : SideFile) (pages : List (List ℕ)) (i next sum more : ℕ) → Passed kept pages i next sum → length kept.pages ≤ i → next ≤ kept.long → SumsOn pages next kept.long sum more → AscendBelow 0 kept.long kept.pages × (more ≡ sum_without (is_kept kept.pages) kept.long pages)
passed_all kept pages i next sum more so all le on =
    let whole : take i kept.pages ≡ kept.pages = take_all i kept.pages all in
    let up : AscendBelow 0 next kept.pages = subst (λ ps. AscendBelow 0 next ps) whole so.up in (
      ascend_raise 0 next kept.long kept.pages up le,
      on (is_kept kept.pages) (λ k from to. none_past 0 next k kept.pages up from) (so.summed ∙ ap (λ ps. sum_without (is_kept ps) next pages) whole),
    )

-- a sum goes on over no page, and over one more
pub sums_none : (pages : List (List ℕ)) (from sum : ℕ) → SumsOn pages from from sum sum
sums_none pages from sum = λ out none is. is

pub sums_more : (pages : List (List ℕ)) (from n sum so_far : ℕ) (page : List ℕ) → SumsOn pages from n sum so_far → from ≤ n → slice_get pages n ≡ Some page → SumsOn pages from (n + 1) sum (sum_on so_far page)
sums_more pages from n sum so_far page on le there = λ out none is.
    let before = on out (λ k above below. none k above (omega (arith, below))) is in
    let got : page ≡ get_or pages n [] = sym (got_there pages n page there) in
    ap (λ (s : ℕ). sum_on s page) before ∙ ap (λ (p : List ℕ). sum_on (sum_without out n pages) p) got ∙ sym (sum_in out n pages (none n le (omega arith))) ∙ ap (λ m. sum_without out m pages) (sym (add-one n))
  where
    got_there : (xs : List (List ℕ)) (k : ℕ) (x : List ℕ) → slice_get xs k ≡ Some x → get_or xs k [] ≡ x
    got_there [] k x is = absurd (cc)
    got_there (y ∷ xs) zero x is = ap (λ (o : Option (List ℕ)). unwrap_or o x) is
    got_there (y ∷ xs) (suc k) x is = got_there xs k x is

-- a marked page is left out of the sum, another isn't
pub rest_out : (marks : List Bool) (pages : List (List ℕ)) (n sum : ℕ) → sum ≡ sum_without (λ k. get_or marks k false) n pages → get_or marks n false ≡ true → sum ≡ sum_without (λ k. get_or marks k false) (n + 1) pages
rest_out marks pages n sum is marked = is ∙ sym (sum_out (λ k. get_or marks k false) n pages marked) ∙ ap (λ m. sum_without (λ k. get_or marks k false) m pages) (sym (add-one n))

pub rest_in : (marks : List Bool) (pages : List (List ℕ)) (n sum : ℕ) (page : List ℕ) → sum ≡ sum_without (λ k. get_or marks k false) n pages → get_or marks n false ≡ false → slice_get pages n ≡ Some page → sum_on sum page ≡ sum_without (λ k. get_or marks k false) (n + 1) pages
rest_in marks pages n sum page is unmarked there =
    sums_more pages n n sum sum page (sums_none pages n sum) (omega arith) there (λ k. get_or marks k false) (λ k above below. ap (λ m. get_or marks m false) (omega (arith, above, below)) ∙ unmarked) is

-- the old page that a disk reads is one of its side file
pub found_at : {D : Type 0} (g : Ghosts D) (kept : SideFile) (old mid : D) (i : ℕ) (p : ℕ × List ℕ) → (g.seen old).side ≡ Some kept → g.seen mid ≡ g.seen old → kept_at (g.seen mid).side i ≡ Some p → slice_get kept.pages i ≡ Some p
found_at g kept old mid i p side same found = ap (λ (s : Option SideFile). kept_at s i) (sym side ∙ ap (λ (f : Files). f.side) (sym same)) ∙ found

-- whether a side file is one of a file, by what it says of the rest
pub of_shape : (kept : SideFile) (side : SideShape) (pages : List (List ℕ)) → side_shape (Some kept) ≡ Some side → (kept.long ≡ side.long) × (length kept.pages ≡ side.kept) × (kept.rest ≡ side.rest)
of_shape kept side pages is =
    let same : record { long = kept.long; kept = length kept.pages; rest = kept.rest } ≡ side = ap (λ (o : Option SideShape). unwrap_or o side) is in
    (ap (λ (p : SideShape). p.long) same, ap (λ (p : SideShape). p.kept) same, ap (λ (p : SideShape). p.rest) same)
