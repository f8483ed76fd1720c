-- Disks that no closing leaves.
use Rattle.std.proofs.Common.{◌≡◌, ◌≢◌, ⊎_elim, inl, ℕ, ◌≤◌, Option, Some, None, List, [], ◌∷◌, length, get_or, slice_get, slice_set, unwrap_or, refl, ap, sym, ◌∙◌, subst, arith}
use Rattle.std.proofs.lemmas.List.{set-get_or}
use Rattle.rec_types.specs.Contents.{Contents}
use Rattle.btree_node.specs.declared.header.Header.{Header}
use Rattle.btree_node.specs.HeaderSpelling.{HeaderFits, header_spelling, clean_state, magic}
use Rattle.btree_node.specs.Reading.{part}
use Rattle.btree_node.proofs.HeaderLemmas.{header_reads}
use Rattle.page_journal.specs.Files.{PageFile, SideFile, Files, Belongs, recovered, recovered_by}
use Rattle.page_journal.specs.Crash.{FilesStandFor}
use Rattle.page_journal.specs.Examples.{without_side_file, old_file, pages_of_two, both_writes}
use Rattle.page_journal.specs.History.{History, MayLeave}
use Rattle.page_journal.specs.Steps.{TornAt}
use Rattle.page_journal.specs.declared.disk_call.DiskCall.TheVariants.{Write}
use Rattle.page_journal.specs.contracts.mem_disk.MemDiskDiskState.TheImpl.{ghosts}
use Rattle.file_session.specs.Closing.{HasRecords, IsKeptWith, LeavesEither}
use Rattle.recfile.specs.Kept.{ClosesSafely}
use Rattle.file_session.proofs.FindsOnceLemmas.{one_list}

-- a disk is kept with one list of records
pub kept_with_others : (disk : History) (order later : ℕ) (records others : Contents) → IsKeptWith ghosts order records disk → records ≢ others → IsKeptWith ghosts later others disk → ⊥
kept_with_others disk order later records others kept differ again =
    let main = (ghosts.seen disk).main in
    differ (one_list 2 2 main.pages main.tail kept.has.0 again.has.0 records others kept.has.2 again.has.2)

set_first : (pages : List (List ℕ)) (page : List ℕ) → 1 ≤ length (slice_set pages 0 page) → slice_get (slice_set pages 0 page) 0 ≡ Some page
set_first [] page some = absurd (omega (arith, some))
set_first (p ∷ ps) page some = refl

-- a write that isn't done
not_written : (n : ℕ) (d : Files) → TornAt n d d
not_written n d = record {
  page = get_or d.main.pages n [];
  main = λ i. record { pages = sym (set-get_or d.main.pages n []) i; tail = d.main.tail };
  fresh = refl;
  side = refl;
  commits = refl;
}

pub kept_unsynced : (main : PageFile) (page : List ℕ) (failures order : ℕ) (records : Contents) → slice_get main.pages 0 ≢ Some page → IsKeptWith ghosts order records (record { first = without_side_file main; calls = Write 0 page ∷ []; failures = failures }) → ⊥
kept_unsynced main page failures order records differs kept =
    let left = kept.settled.crash (without_side_file main) (without_side_file main, refl, not_written 0 (without_side_file main)) in
    differs (ap (λ (m : PageFile). slice_get m.pages 0) left.0 ∙ set_first main.pages page kept.has.2.clean.begins.long.some)

pub kept_with_side : (first : Files) (kept : SideFile) (failures order : ℕ) (records : Contents) → first.side ≡ Some kept → IsKeptWith ghosts order records (record { first = first; calls = []; failures = failures }) → ⊥
kept_with_side first kept failures order records is closed = absurd (cc (sym is ∙ closed.settled.no_side))

-- a page of one byte spells no header
short_page : (h : Header) → HeaderFits h → (1 ∷ []) ≡ header_spelling h clean_state → ⊥
unfolding part magic
short_page h fits is = omega (arith, ap (λ (xs : List ℕ). get_or xs 0 0) (header_reads (1 ∷ []) h clean_state fits is).text)

not_closed : (order : ℕ) (records : Contents) → HasRecords order records (pages_of_two 1 9) → ⊥
not_closed order records has =
    let header = has.2.clean.begins.header in
    short_page has.2.h header.fits (ap (λ (o : Option (List ℕ)). unwrap_or o []) header.page)

-- the first of two writes is lost
one_lost : MayLeave (without_side_file old_file) both_writes (without_side_file (pages_of_two 1 9))
one_lost = (without_side_file old_file, (without_side_file old_file, refl, not_written 0 (without_side_file old_file)), record { page = 9 ∷ []; main = refl; fresh = refl; side = refl; commits = refl })

pub left_third : (failures order : ℕ) (records : Contents) → LeavesEither ghosts old_file order records (record { first = without_side_file old_file; calls = both_writes; failures = failures }) → ⊥
left_third failures order records leaves =
    let c = without_side_file (pages_of_two 1 9) in
    ⊎_elim (λ (old : FilesStandFor old_file c). omega (arith, ap (λ (m : PageFile). get_or (get_or m.pages 1 []) 0 0) old.1))
    (λ (new : Belongs c × HasRecords order records (recovered c)). not_closed order records new.1)
    (leaves c (inl one_lost))

pub left_foreign : (first : Files) (failures order : ℕ) (records : Contents) → (Belongs first → ⊥) → LeavesEither ghosts (recovered first) order records (record { first = first; calls = []; failures = failures }) → ⊥
left_foreign first failures order records foreign leaves =
    ⊎_elim (λ (old : FilesStandFor (recovered first) first). foreign old.0) (λ (new : Belongs first × HasRecords order records (recovered first)). foreign new.0) (leaves first refl)

pub closed_unwritten : (first : Files) (failures order later : ℕ) (records others : Contents) → HasRecords order records (recovered first) → records ≢ others → ClosesSafely ghosts (recovered first) (record { first = first; calls = []; failures = failures }) None later others → ⊥
closed_unwritten first failures order later records others had differ safe =
    let kept = safe.kept refl in
    let was = subst (HasRecords order records) (ap (λ (s : Option SideFile). recovered_by s first.main) kept.settled.no_side) had in
    differ (one_list 2 2 first.main.pages first.main.tail was.0 kept.has.0 records others was.2 kept.has.2)
