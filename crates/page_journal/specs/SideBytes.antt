-- The bytes of a side file: a header, and then each old page behind its number. Numbers have their highest byte first.
use Rattle.std.specs.Prelude.{◌≡◌, ℕ, ◌+◌, ◌^◌, ◌<◌, ◌≤◌, ◌==◌, zero, suc, List, [], ◌∷◌, ◌++◌, length, take, drop, replicate, cond, Option, Some, None, IfSome, ⊤}
use Rattle.byteorder.specs.Endian.{big_bytes, big_number}
use Rattle.rec_types.specs.Widths.{page_width}
use Rattle.page_store.specs.FreeNumbers.{greatest_page_count}
use Rattle.page_journal.specs.Files.{SideFile}
use Rattle.page_journal.specs.Sums.{sum_start, sum_on}

-- the text BMKRJRNL
abbrev pub side_magic : List ℕ
side_magic = 0x42 ∷ 0x4d ∷ 0x4b ∷ 0x52 ∷ 0x4a ∷ 0x52 ∷ 0x4e ∷ 0x4c ∷ []

-- a number of four bytes, and a page
abbrev pub entry_width : ℕ
entry_width = 4100

-- the text, the version and two zeros, how long the file was, how many pages are kept, and four zeros
abbrev pub fields_bytes : ℕ → ℕ → ℕ → List ℕ
fields_bytes version long kept = side_magic ++ big_bytes 2 version ++ replicate 2 0 ++ big_bytes 4 long ++ big_bytes 4 kept ++ replicate 4 0

-- in version 2 that and the sum over the pages that aren't kept
abbrev pub front_bytes : ℕ → ℕ → Option ℕ → List ℕ
front_bytes long kept None = fields_bytes 1 long kept
front_bytes long kept (Some rest) = fields_bytes 2 long kept ++ big_bytes 8 rest

-- that, and the sum
abbrev pub side_header : ℕ → ℕ → Option ℕ → ℕ → List ℕ
side_header long kept rest sum = front_bytes long kept rest ++ big_bytes 8 sum

-- how many bytes it has
abbrev pub header_width : Option ℕ → ℕ
header_width None = 32
header_width (Some rest) = 40

-- an old page behind its number
abbrev pub entry_bytes : ℕ → List ℕ → List ℕ
entry_bytes n page = big_bytes 4 n ++ page

abbrev pub entries_bytes : List (ℕ × List ℕ) → List ℕ
entries_bytes [] = []
entries_bytes (p ∷ pages) = entry_bytes p.0 p.1 ++ entries_bytes pages

-- the sum goes on over old pages with their numbers
abbrev pub sum_pages : ℕ → List (ℕ × List ℕ) → ℕ
sum_pages sum [] = sum
sum_pages sum (p ∷ pages) = sum_pages (sum_on sum (entry_bytes p.0 p.1)) pages

-- over all old pages, and then over the header up to the sum
abbrev pub side_sum : SideFile → ℕ
side_sum kept = sum_on (sum_pages sum_start kept.pages) (front_bytes kept.long (length kept.pages) kept.rest)

-- the bytes of the side file
abbrev pub side_bytes : SideFile → List ℕ
side_bytes kept = side_header kept.long (length kept.pages) kept.rest (side_sum kept) ++ entries_bytes kept.pages

-- whole pages whose numbers ascend from the least on, and are below the end
abbrev pub PagesAscend : ℕ → ℕ → List (ℕ × List ℕ) → Type 0
PagesAscend least end [] = ⊤
PagesAscend least end (p ∷ pages) = (least ≤ p.0) × (p.0 < end) × (length p.1 ≡ page_width) × PagesAscend (suc p.0) end pages

abbrev pub BeginsWithPage0 : List (ℕ × List ℕ) → Type 0
BeginsWithPage0 [] = ⊥
BeginsWithPage0 (p ∷ pages) = p.0 ≡ 0

-- where a sum is said, it has 64 bits
abbrev pub IsSum : Option ℕ → Type 0
IsSum rest = IfSome rest (λ sum. sum < 2 ^ 64)

-- what a side file can say: page 0 is kept, and the file had no more pages than there can be
pub record IsSideFile (kept : SideFile) : Type 0 where
  pub rest : IsSum kept.rest
  pub most : kept.long ≤ greatest_page_count
  pub page_0 : BeginsWithPage0 kept.pages
  pub ascend : PagesAscend 0 kept.long kept.pages

-- the first m entries of these bytes
abbrev pub read_entries : ℕ → List ℕ → List (ℕ × List ℕ)
read_entries zero bytes = []
read_entries (suc m) bytes = (big_number 4 bytes, take page_width (drop 4 bytes)) ∷ read_entries m (drop entry_width bytes)

-- the sum over the other pages, which version 2 says
abbrev pub read_rest : List ℕ → Option ℕ
read_rest bytes = cond (big_number 2 (drop 8 bytes) == 2) (Some (big_number 8 (drop 24 bytes))) None

-- what the bytes of a side file say
abbrev pub read_side : List ℕ → SideFile
read_side bytes = record {
  long = big_number 4 (drop 12 bytes);
  rest = read_rest bytes;
  pages = read_entries (big_number 4 (drop 16 bytes)) (drop (header_width (read_rest bytes)) bytes);
}

-- what is known of a side file whose entries are met one after another: how long the file was, the sum over the other pages, how many entries there were, the least number that may come next, and the sum over them
pub record Tally : Type 0 where
  pub long : ℕ
  pub rest : Option ℕ
  pub kept : ℕ
  pub least : ℕ
  pub sum : ℕ

abbrev pub first_tally : ℕ → Option ℕ → Tally
first_tally long rest = record { long = long; rest = rest; kept = 0; least = 0; sum = sum_start }

-- one entry more, of page n
abbrev pub tally_more : Tally → ℕ → List ℕ → Tally
tally_more t n entry = record { long = t.long; rest = t.rest; kept = t.kept + 1; least = n + 1; sum = sum_on t.sum entry }

-- whether page n may come next
pub record MayCome (t : Tally) (n : ℕ) : Type 0 where
  pub least : t.least ≤ n
  pub below : n < t.long
  pub first : t.kept ≡ 0 → n ≡ 0

-- whether there may be no more
pub record MayEnd (t : Tally) : Type 0 where
  pub some : 1 ≤ t.kept
  pub most : t.long ≤ greatest_page_count

-- the header of a side file that has these entries
abbrev pub tally_header : Tally → List ℕ
tally_header t = side_header t.long t.kept t.rest (sum_on t.sum (front_bytes t.long t.kept t.rest))

-- all of these entries
abbrev pub tally_on : Tally → List (ℕ × List ℕ) → Tally
tally_on t [] = t
tally_on t (p ∷ pages) = tally_on (tally_more t p.0 (entry_bytes p.0 p.1)) pages

-- each of these entries may come behind those before it
abbrev pub MayComeAll : Tally → List (ℕ × List ℕ) → Type 0
MayComeAll t [] = ⊤
MayComeAll t (p ∷ pages) = MayCome t p.0 × (length p.1 ≡ page_width) × MayComeAll (tally_more t p.0 (entry_bytes p.0 p.1)) pages

-- bytes that are read one entry after another and taken: the entries may come, there may be no more, and the header is the one that they have
pub record TakesEntries (kept : SideFile) (bytes : List ℕ) : Type 0 where
  pub rest : IsSum kept.rest
  pub come : MayComeAll (first_tally kept.long kept.rest) kept.pages
  pub end : MayEnd (tally_on (first_tally kept.long kept.rest) kept.pages)
  pub spelt : bytes ≡ tally_header (tally_on (first_tally kept.long kept.rest) kept.pages) ++ entries_bytes kept.pages
