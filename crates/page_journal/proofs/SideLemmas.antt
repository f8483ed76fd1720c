-- What is read of the bytes of a side file.
use Rattle.std.proofs.Common.{◌<◌, ◌≡◌, ◌↔◌, Bool, IsTrue, ℕ, suc, ◌≤◌, ◌+◌, ◌^◌, List, [], ◌∷◌, ◌++◌, Option, Some, None, length, take, drop, append_assoc, refl, ap, sym, subst, ◌∙◌, arith}
use Rattle.std.proofs.lemmas.List.{take_at, drop_at, drop_all, length-drop, append-nil}
use borrow.Rule.Slice.PartMut.{put_mid}
use Rattle.byteorder.specs.Endian.{big_bytes, big_number}
use Rattle.byteorder.specs.Numbers.{big_number-reads_back}
use Rattle.rec_types.specs.Widths.{page_width}
use Rattle.page_store.specs.FreeNumbers.{greatest_page_count}
use Rattle.page_journal.specs.Files.{SideFile}
use Rattle.page_journal.specs.Sums.{sum_on}
use Rattle.page_journal.specs.SideBytes.{sum_pages, front_bytes, side_header, header_width, IsSum, side_sum, side_bytes, entry_bytes, entries_bytes, PagesAscend, BeginsWithPage0, IsSideFile, read_entries, read_side, Tally, first_tally, tally_more, tally_header, tally_on, MayComeAll, TakesEntries}

-- an entry that was written part by part
pub entry_put : (n : ℕ) (blank part buf page : List ℕ) → length blank ≡ 4100 → length part ≡ 4 → buf ≡ big_bytes 4 n ++ drop 4 part → put_mid 4 4096 (buf ++ drop 4 blank) page ≡ entry_bytes n page
entry_put n blank part buf page long four is =
    let none : drop 4 part ≡ [] = drop_all 4 part (omega (arith, four)) in
    let whole : buf ≡ big_bytes 4 n = is ∙ ap (λ r. big_bytes 4 n ++ r) none in
    let rest : drop 4096 (drop 4 blank) ≡ [] = drop_all 4096 (drop 4 blank) (omega (arith, length-drop 4 blank, long)) in
    ap (λ b. put_mid 4 4096 (b ++ drop 4 blank) page) whole
    ∙ ap (λ r. big_bytes 4 n ++ (page ++ r)) rest
    ∙ ap (λ p. big_bytes 4 n ++ p) (append-nil page)

-- the entries of a side file, read again
entries_read : (least end : ℕ) (pages : List (ℕ × List ℕ)) → end ≤ greatest_page_count → PagesAscend least end pages → read_entries (length pages) (entries_bytes pages) ≡ pages
entries_read least end [] most up = refl
entries_read least end (p ∷ pages) most up =
    let number : big_number 4 (entry_bytes p.0 p.1 ++ entries_bytes pages) ≡ p.0 =
    ap (big_number 4) (append_assoc (big_bytes 4 p.0) p.1 (entries_bytes pages)) ∙ big_number-reads_back 4 p.0 (p.1 ++ entries_bytes pages) (omega (arith, up.1, most)) in
    let page : take page_width (p.1 ++ entries_bytes pages) ≡ p.1 = take_at p.1 (entries_bytes pages) page_width up.2 in
    let rest : drop page_width (p.1 ++ entries_bytes pages) ≡ entries_bytes pages = drop_at p.1 (entries_bytes pages) page_width up.2 in
    ap (λ n. (n, take page_width (p.1 ++ entries_bytes pages)) ∷ read_entries (length pages) (drop page_width (p.1 ++ entries_bytes pages))) number
    ∙ ap (λ q. (p.0, q) ∷ read_entries (length pages) (drop page_width (p.1 ++ entries_bytes pages))) page
    ∙ ap (λ r. p ∷ read_entries (length pages) r) rest
    ∙ ap (λ ps. p ∷ ps) (entries_read (suc p.0) end pages most up.3)

-- there are no more of them than numbers
entries_few : (least end : ℕ) (pages : List (ℕ × List ℕ)) → PagesAscend least end pages → least ≤ end → length pages + least ≤ end
entries_few least end [] up le = omega (arith, le)
entries_few least end (p ∷ pages) up le = omega (arith, up.0, entries_few (suc p.0) end pages up.3 (omega (arith, up.1)))

-- what is read of a side file is what it was made of
pub side_read : (kept : SideFile) → IsSideFile kept → read_side (side_bytes kept) ≡ kept
side_read kept is =
    let few = entries_few 0 kept.long kept.pages is.ascend (omega arith) in
    at kept.rest is.rest kept.long kept.pages (side_sum kept) is.most (omega (arith, is.most, few)) (entries_read 0 kept.long kept.pages is.most is.ascend)
  where
    at : (rest : Option ℕ) → IsSum rest → (long : ℕ) (pages : List (ℕ × List ℕ)) (sum : ℕ) → long ≤ greatest_page_count → length pages < 2 ^ 32 → read_entries (length pages) (entries_bytes pages) ≡ pages
        → read_side (side_header long (length pages) rest sum ++ entries_bytes pages) ≡ record { long = long; rest = rest; pages = pages }
    at None fits long pages sum most few entries =
        let bytes = side_header long (length pages) None sum ++ entries_bytes pages in
        let is_long : big_number 4 (drop 12 bytes) ≡ long = big_number-reads_back 4 long (drop 16 bytes) (omega (arith, most)) in
        let count : big_number 4 (drop 16 bytes) ≡ length pages = big_number-reads_back 4 (length pages) (drop 20 bytes) (omega (arith, few)) in
        let are : read_entries (big_number 4 (drop 16 bytes)) (entries_bytes pages) ≡ pages = ap (λ m. read_entries m (entries_bytes pages)) count ∙ entries in
        λ i. record { long = is_long i; rest = None; pages = are i }
    at (Some rest) fits long pages sum most few entries =
        let bytes = side_header long (length pages) (Some rest) sum ++ entries_bytes pages in
        let is_long : big_number 4 (drop 12 bytes) ≡ long = big_number-reads_back 4 long (drop 16 bytes) (omega (arith, most)) in
        let is_rest : big_number 8 (drop 24 bytes) ≡ rest = big_number-reads_back 8 rest (drop 32 bytes) fits in
        let count : big_number 4 (drop 16 bytes) ≡ length pages = big_number-reads_back 4 (length pages) (drop 20 bytes) (omega (arith, few)) in
        let are : read_entries (big_number 4 (drop 16 bytes)) (entries_bytes pages) ≡ pages = ap (λ m. read_entries m (entries_bytes pages)) count ∙ entries in
        λ i. record { long = is_long i; rest = Some (is_rest i); pages = are i }

-- a tally of all the entries
pub tally_all : (t : Tally) (pages : List (ℕ × List ℕ)) → (tally_on t pages).long ≡ t.long × ((tally_on t pages).kept ≡ t.kept + length pages) × ((tally_on t pages).sum ≡ sum_pages t.sum pages) × ((tally_on t pages).rest ≡ t.rest)
tally_all t [] = (refl, omega arith, refl, refl)
tally_all t (p ∷ pages) =
    let more = tally_all (tally_more t p.0 (entry_bytes p.0 p.1)) pages in
    (more.0, more.1 ∙ omega arith, more.2, more.3)

-- its header is that of the side file
pub header_all : (kept : SideFile) → tally_header (tally_on (first_tally kept.long kept.rest) kept.pages) ≡ side_header kept.long (length kept.pages) kept.rest (side_sum kept)
header_all kept =
    let all = tally_all (first_tally kept.long kept.rest) kept.pages in
    let count : (tally_on (first_tally kept.long kept.rest) kept.pages).kept ≡ length kept.pages = omega (arith, all.1) in
    λ i. side_header (all.0 i) (count i) (all.3 i) (sum_on (all.2 i) (front_bytes (all.0 i) (count i) (all.3 i)))

may_come_all : (t : Tally) (pages : List (ℕ × List ℕ)) → (t.kept ≡ 0 → BeginsWithPage0 pages) → PagesAscend t.least t.long pages → MayComeAll t pages
may_come_all t [] first up = tt
may_come_all t (p ∷ pages) first up = (
  record { least = up.0; below = up.1; first = first },
  up.2,
  may_come_all (tally_more t p.0 (entry_bytes p.0 p.1)) pages (λ none. absurd (omega (arith, none))) (subst (λ n. PagesAscend n t.long pages) (omega arith) up.3),
)

ascend_all : (t : Tally) (pages : List (ℕ × List ℕ)) → MayComeAll t pages → PagesAscend t.least t.long pages
ascend_all t [] come = tt
ascend_all t (p ∷ pages) come = (come.0.least, come.0.below, come.1, subst (λ n. PagesAscend n t.long pages) (omega arith) (ascend_all (tally_more t p.0 (entry_bytes p.0 p.1)) pages come.2))

some_entry : (long : ℕ) (rest : Option ℕ) (pages : List (ℕ × List ℕ)) → MayComeAll (first_tally long rest) pages → 1 ≤ length pages → BeginsWithPage0 pages
some_entry long rest [] come some = absurd (omega (arith, some))
some_entry long rest (p ∷ pages) come some = come.0.first refl

page_0_some : (pages : List (ℕ × List ℕ)) → BeginsWithPage0 pages → 1 ≤ length pages
page_0_some [] none = absurd none
page_0_some (p ∷ pages) first = omega arith

-- a side file is taken
pub side_taken : (kept : SideFile) → IsSideFile kept → TakesEntries kept (side_bytes kept)
side_taken kept is =
    let all = tally_all (first_tally kept.long kept.rest) kept.pages in record {
      rest = is.rest;
      come = may_come_all (first_tally kept.long kept.rest) kept.pages (λ _. is.page_0) is.ascend;
      end = record {
        some = omega (arith, all.1, page_0_some kept.pages is.page_0);
        most = omega (arith, all.0, is.most);
      };
      spelt = ap (λ h. h ++ entries_bytes kept.pages) (sym (header_all kept));
    }

-- and nothing else
pub only_taken : (kept : SideFile) (bytes : List ℕ) → TakesEntries kept bytes → IsSideFile kept × (bytes ≡ side_bytes kept)
only_taken kept bytes is =
    let all = tally_all (first_tally kept.long kept.rest) kept.pages in (
      record {
        rest = is.rest;
        most = omega (arith, all.0, is.end.most);
        page_0 = some_entry kept.long kept.rest kept.pages is.come (omega (arith, all.1, is.end.some));
        ascend = ascend_all (first_tally kept.long kept.rest) kept.pages is.come;
      },
      is.spelt ∙ ap (λ h. h ++ entries_bytes kept.pages) (header_all kept),
    )

-- bytes that are compared with a header, by what it says of the rest
pub spelt_by : (t : Tally) (rest : Option ℕ) (all bytes header : List ℕ) (same : Bool) → t.rest ≡ rest → bytes ≡ take (header_width rest) all → header ≡ side_header t.long t.kept rest (sum_on t.sum (front_bytes t.long t.kept rest))
    → (IsTrue same ↔ (bytes ≡ header)) → IsTrue same ↔ (take (header_width t.rest) all ≡ tally_header t)
spelt_by t rest all bytes header same is begins spelt compared =
    subst (λ (r : Option ℕ). IsTrue same ↔ (take (header_width r) all ≡ side_header t.long t.kept r (sum_on t.sum (front_bytes t.long t.kept r)))) (sym is)
    (λ yes. sym begins ∙ compared.0 yes ∙ spelt, λ equal. compared.1 (begins ∙ equal ∙ sym spelt))
