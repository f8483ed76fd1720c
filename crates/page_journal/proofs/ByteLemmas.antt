-- What the calls of the system that calls of a disk are leave in bytes.
use Rattle.std.proofs.Common.{◌<◌, ◌≡◌, ℕ, zero, suc, ◌≤◌, ◌+◌, ◌*◌, List, [], ◌∷◌, ◌++◌, Option, Some, length, take, drop, append_assoc, refl, ap, sym, ◌∙◌, arith, length-append}
use Rattle.std.specs.Prelude.{slice_set, option_map}
use Rattle.std.proofs.lemmas.List.{take_at, drop_at, drop_all, take_all, length-take-le, length-drop, length-replicate, take-append-le, append-nil}
use Rattle.std.proofs.Math.Seq.{take-add, drop-nil}
use Rattle.commit_paper.specs.Text.{zeros}
use Rattle.rec_types.specs.Widths.{page_width}
use Rattle.page_journal.specs.Files.{SideFile}
use Rattle.page_journal.specs.Steps.{kept_more}
use Rattle.page_journal.specs.SideBytes.{Tally, first_tally, tally_more, tally_header, tally_on, entry_bytes, entries_bytes, header_width, side_bytes, side_header, side_sum}
use Rattle.page_journal.specs.Lowering.{Lowered, lowered_call, lowered_next}
use Rattle.page_journal.specs.Bytes.{Stored, written_at, all_carried, pages_in, fresh_bytes, AreWhole}
use Rattle.page_journal.specs.declared.disk_call.DiskCall.TheVariants.{Write, Start, Keep, SyncFresh, Name}
use Rattle.page_journal.proofs.SideLemmas.{tally_all, header_all}

-- bytes over a file's, where it is long enough
abbrev over : ℕ → List ℕ → List ℕ → List ℕ
over at bytes file = take at file ++ (bytes ++ drop (at + length bytes) file)

is_over : (at : ℕ) (bytes file : List ℕ) → at ≤ length file → written_at at bytes file ≡ over at bytes file
is_over at bytes file le = ap (λ t. t ++ (bytes ++ drop (at + length bytes) file)) (take-append-le at file (zeros at) le)

-- the first page of bytes over past it, and the rest
first_page : (w k : ℕ) (page file : List ℕ) → w + k ≤ length file → take w (over (w + k) page file) ≡ take w file
first_page w k page file le =
    let split : take (w + k) file ≡ take w file ++ take k (drop w file) = take-add w k file in
    ap (λ f. take w (f ++ (page ++ drop (w + k + length page) file))) split
    ∙ ap (take w) (append_assoc (take w file) (take k (drop w file)) (page ++ drop (w + k + length page) file))
    ∙ take_at (take w file) (take k (drop w file) ++ (page ++ drop (w + k + length page) file)) w (length-take-le w file (omega (arith, le)))

drop_none : (b : ℕ) → ◌≡◌ {A = List ℕ} [] (drop b [])
drop_none zero = refl
drop_none (suc b) = refl

drop_more : (a b : ℕ) (xs : List ℕ) → drop (a + b) xs ≡ drop b (drop a xs)
drop_more zero b xs =
    let none : 0 + b ≡ b = omega arith in
    ap (λ k. drop k xs) none
drop_more (suc a) b [] =
    let one : suc a + b ≡ suc (a + b) = omega arith in
    ap (λ k. drop k []) one ∙ drop_none b
drop_more (suc a) b (x ∷ xs) =
    let one : suc a + b ≡ suc (a + b) = omega arith in
    ap (λ k. drop k (x ∷ xs)) one ∙ drop_more a b xs

rest : (w k : ℕ) (page file : List ℕ) → w + k ≤ length file → drop w (over (w + k) page file) ≡ over k page (drop w file)
rest w k page file le =
    let split : take (w + k) file ≡ take w file ++ take k (drop w file) = take-add w k file in
    let sum : w + k + length page ≡ w + (k + length page) = omega arith in
    ap (λ f. drop w (f ++ (page ++ drop (w + k + length page) file))) split
    ∙ ap (drop w) (append_assoc (take w file) (take k (drop w file)) (page ++ drop (w + k + length page) file))
    ∙ drop_at (take w file) (take k (drop w file) ++ (page ++ drop (w + k + length page) file)) w (length-take-le w file (omega (arith, le)))
    ∙ ap (λ d. take k (drop w file) ++ (page ++ d)) (ap (λ s. drop s file) sum ∙ drop_more w (k + length page) file)

-- where page n begins, by its recursion
abbrev place : ℕ → ℕ → ℕ
place w zero = 0
place w (suc n) = w + place w n

place_is : (w n : ℕ) → place w n ≡ n * w
place_is w zero = omega arith
place_is w (suc n) = omega (arith, place_is w n)

fits : (w m n l : ℕ) → suc n < suc m → w + place w m ≤ l → w + place w n ≤ l
fits w m n l lt le = omega (arith, le, less n m w (omega (arith, lt)))
  where
    less : (n m w : ℕ) → n ≤ m → place w n ≤ place w m
    less zero m w le = omega arith
    less (suc n) zero w le = absurd (omega (arith, le))
    less (suc n) (suc m) w le = omega (arith, less n m w (omega (arith, le)))

write_place : (w m n : ℕ) (page file : List ℕ) → length page ≡ w → n < m → place w m ≤ length file
    → pages_in w m (over (place w n) page file) ≡ slice_set (pages_in w m file) n page
write_place w zero n page file long lt le = absurd (omega (arith, lt))
write_place w (suc m) zero page file long lt le =
    let at : 0 + length page ≡ w = omega (arith, long) in
    ap (λ k. pages_in w (suc m) (page ++ drop k file)) at
    ∙ ap (λ p. p ∷ pages_in w m (drop w (page ++ drop w file))) (take_at page (drop w file) w long)
    ∙ ap (λ r. page ∷ pages_in w m r) (drop_at page (drop w file) w long)
write_place w (suc m) (suc n) page file long lt le =
    ap (λ p. p ∷ pages_in w m (drop w (over (w + place w n) page file))) (first_page w (place w n) page file (fits w m n (length file) lt le))
    ∙ ap (λ r. take w file ∷ pages_in w m r) (rest w (place w n) page file (fits w m n (length file) lt le))
    ∙ ap (λ ps. take w file ∷ ps) (write_place w m n page (drop w file) long (omega (arith, lt)) (omega (arith, le, length-drop w file)))

write_over : (w m n : ℕ) (page file : List ℕ) → length page ≡ w → n < m → m * w ≤ length file
    → pages_in w m (over (n * w) page file) ≡ slice_set (pages_in w m file) n page
write_over w m n page file long lt le =
    ap (λ k. pages_in w m (over k page file)) (sym (place_is w n))
    ∙ write_place w m n page file long lt (omega (arith, le, place_is w m))

place_fits : (w n m : ℕ) → n < m → n * w ≤ m * w
place_fits w n m lt = omega (arith, place_is w n, place_is w m, less w n m (omega (arith, lt)))
  where
    less : (w n m : ℕ) → n ≤ m → place w n ≤ place w m
    less w zero m le = omega arith
    less w (suc n) zero le = absurd (omega (arith, le))
    less w (suc n) (suc m) le = omega (arith, less w n m (omega (arith, le)))

-- page n is written, and nothing else of the pages
pub page_written : (l : Lowered) (s : Stored) (n : ℕ) (page : List ℕ) → length page ≡ page_width → n < l.pages → l.pages * page_width ≤ length s.main
    → pages_in page_width l.pages (all_carried (lowered_call l (Write n page)) s).main ≡ slice_set (pages_in page_width l.pages s.main) n page
page_written l s n page long lt le =
    ap (pages_in page_width l.pages) (is_over (n * page_width) page s.main (omega (arith, le, place_fits page_width n l.pages lt)))
    ∙ write_over page_width l.pages n page s.main long lt le

entries_more : (pages : List (ℕ × List ℕ)) (n : ℕ) (page : List ℕ) → entries_bytes (pages ++ (n, page) ∷ []) ≡ entries_bytes pages ++ entry_bytes n page
entries_more [] n page = append-nil (entry_bytes n page)
entries_more (p ∷ pages) n page =
    ap (λ r. entry_bytes p.0 p.1 ++ r) (entries_more pages n page)
    ∙ sym (append_assoc (entry_bytes p.0 p.1) (entries_bytes pages) (entry_bytes n page))

entry_long : (n : ℕ) (page : List ℕ) → length page ≡ page_width → length (entry_bytes n page) ≡ 4100
entry_long n page long = omega (arith, long)

entries_long : (pages : List (ℕ × List ℕ)) → AreWhole pages → length (entries_bytes pages) ≡ 4100 * length pages
entries_long [] whole = omega arith
entries_long (p ∷ pages) whole =
    omega (arith, length-append (entry_bytes p.0 p.1) (entries_bytes pages), entry_long p.0 p.1 whole.0, entries_long pages whole.1)

-- bytes written where others end
behind : (at : ℕ) (bytes old : List ℕ) → length old ≡ at → written_at at bytes old ≡ old ++ bytes
behind at bytes old long =
    ap (λ t. t ++ (bytes ++ drop (at + length bytes) old)) (take_at old (zeros at) at long)
    ∙ ap (λ d. old ++ (bytes ++ d)) (drop_all (at + length bytes) old (omega (arith, long)))
    ∙ ap (λ b. old ++ b) (append-nil bytes)

-- an entry more, where the entries end
entry_put_behind : (pages : List (ℕ × List ℕ)) (n at : ℕ) (page : List ℕ) → AreWhole pages → at ≡ 40 + 4100 * length pages → written_at at (entry_bytes n page) (fresh_bytes pages) ≡ fresh_bytes (pages ++ (n, page) ∷ [])
entry_put_behind [] n at page whole is =
    let forty : at ≡ 40 = omega (arith, is) in
    let first : take at (zeros at) ≡ zeros 40 = take_all at (zeros at) (omega (arith, length-replicate {A = ℕ} at 0)) ∙ ap zeros forty in
    let none : drop (at + length (entry_bytes n page)) [] ≡ [] = drop-nil (at + length (entry_bytes n page)) in
    ap (λ t. t ++ (entry_bytes n page ++ drop (at + length (entry_bytes n page)) [])) first
    ∙ ap (λ d. zeros 40 ++ (entry_bytes n page ++ d)) none
entry_put_behind (p ∷ pages) n at page whole is =
    let old = zeros 40 ++ entries_bytes (p ∷ pages) in
    let long : length old ≡ at = omega (arith, is, length-append (zeros 40) (entries_bytes (p ∷ pages)), length-replicate {A = ℕ} 40 0, entries_long (p ∷ pages) whole) in
    behind at (entry_bytes n page) old long
    ∙ append_assoc (zeros 40) (entries_bytes (p ∷ pages)) (entry_bytes n page)
    ∙ ap (λ e. zeros 40 ++ e) (sym (entries_more (p ∷ pages) n page))

tally_then : (t : Tally) (pages : List (ℕ × List ℕ)) (n : ℕ) (page : List ℕ) → tally_more (tally_on t pages) n (entry_bytes n page) ≡ tally_on t (pages ++ (n, page) ∷ [])
tally_then t [] n page = refl
tally_then t (p ∷ pages) n page = tally_then (tally_more t p.0 (entry_bytes p.0 p.1)) pages n page

-- an old page is added to a side file that is being made, and it is known then
pub page_kept : (l : Lowered) (s : Stored) (kept : SideFile) (rest n : ℕ) (page : List ℕ) → AreWhole kept.pages → kept.rest ≡ Some rest → l.tally ≡ tally_on (first_tally kept.long kept.rest) kept.pages → s.fresh ≡ Some (fresh_bytes kept.pages)
    → ((all_carried (lowered_call l (Keep n page)) s).fresh ≡ Some (fresh_bytes (kept_more kept n page).pages)) × ((lowered_next l (Keep n page)).tally ≡ tally_on (first_tally kept.long kept.rest) (kept_more kept n page).pages)
page_kept l s kept rest n page whole says known made =
    let all = tally_all (first_tally kept.long kept.rest) kept.pages in
    let tells : l.tally.rest ≡ Some rest = ap (λ (t : Tally). t.rest) known ∙ all.3 ∙ says in
    let count : l.tally.kept ≡ length kept.pages = ap (λ (t : Tally). t.kept) known ∙ omega (arith, all.1) in
    let at = header_width l.tally.rest + 4100 * l.tally.kept in
    let is : at ≡ 40 + 4100 * length kept.pages = ap (λ (r : Option ℕ). header_width r + 4100 * l.tally.kept) tells ∙ ap (λ m. 40 + 4100 * m) count in (
      ap (option_map (written_at at (entry_bytes n page))) made ∙ ap Some (entry_put_behind kept.pages n at page whole is),
      ap (λ (t : Tally). tally_more t n (entry_bytes n page)) known ∙ tally_then (first_tally kept.long kept.rest) kept.pages n page,
    )

header_put : (pages : List (ℕ × List ℕ)) (header : List ℕ) → length header ≡ 40 → written_at 0 header (fresh_bytes pages) ≡ header ++ entries_bytes pages
header_put [] header long = ap (λ d. header ++ d) (drop-nil (0 + length header))
header_put (p ∷ pages) header long =
    let forty : 0 + length header ≡ 40 = omega (arith, long) in
    ap (λ k. header ++ drop k (zeros 40 ++ entries_bytes (p ∷ pages))) forty
    ∙ ap (λ e. header ++ e) (drop_at (zeros 40) (entries_bytes (p ∷ pages)) 40 (length-replicate {A = ℕ} 40 0))

-- its header is written, and it is a whole side file
pub side_made : (l : Lowered) (s : Stored) (kept : SideFile) (rest : ℕ) → kept.rest ≡ Some rest → l.tally ≡ tally_on (first_tally kept.long kept.rest) kept.pages → s.fresh ≡ Some (fresh_bytes kept.pages)
    → (all_carried (lowered_call l SyncFresh) s).fresh ≡ Some (side_bytes kept)
side_made l s kept rest says known made =
    let header : tally_header l.tally ≡ side_header kept.long (length kept.pages) kept.rest (side_sum kept) = ap tally_header known ∙ header_all kept in
    let long : length (side_header kept.long (length kept.pages) kept.rest (side_sum kept)) ≡ 40 = ap (λ (r : Option ℕ). length (side_header kept.long (length kept.pages) r (side_sum kept))) says in
    ap (option_map (written_at 0 (tally_header l.tally))) made
    ∙ ap (λ h. Some (written_at 0 h (fresh_bytes kept.pages))) header
    ∙ ap Some (header_put kept.pages (side_header kept.long (length kept.pages) kept.rest (side_sum kept)) long)

-- one is begun, and it gets its name
pub side_begun : (l : Lowered) (s : Stored) (long rest : ℕ) → ((all_carried (lowered_call l (Start long rest)) s).fresh ≡ Some (fresh_bytes [])) × ((lowered_next l (Start long rest)).tally ≡ tally_on (first_tally long (Some rest)) [])
side_begun l s long rest = (refl, refl)

pub side_named : (l : Lowered) (s : Stored) (kept : SideFile) → s.fresh ≡ Some (side_bytes kept) → (all_carried (lowered_call l Name) s).side ≡ Some (side_bytes kept)
side_named l s kept whole = whole
