-- A page file, and what may stand beside it: a side file of old pages, and a log of commits.
use Rattle.std.specs.Prelude.{◌≡◌, ℕ, suc, ◌<◌, ◌≤◌, Bool, false, ◌||◌, ◌==◌, List, [], ◌∷◌, Option, Some, None, length, take, slice_get, slice_set, ⊤}
use Rattle.page_journal.specs.Sums.{sum_without}

-- whole pages, and how many bytes there are after the last
pub record PageFile : Type 0 where
  pub pages : List (List ℕ)
  pub tail : ℕ

-- what a side file says: how many pages the file had, the sum over those that it doesn't keep, and old pages with their numbers; the first version says no sum
pub record SideFile : Type 0 where
  pub long : ℕ
  pub rest : Option ℕ
  pub pages : List (ℕ × List ℕ)

-- the bytes of the log of commits that is being made, and of the one that has the name that an opening looks for
pub record CommitFiles : Type 0 where
  pub fresh : List ℕ
  pub log : Option (List ℕ)

abbrev pub no_commits : CommitFiles
no_commits = record { fresh = []; log = None }

-- the file, the side file that is being made, the side file that has the name that an opening looks for, and the logs of commits
pub record Files : Type 0 where
  pub main : PageFile
  pub fresh : SideFile
  pub side : Option SideFile
  pub commits : CommitFiles

-- whether a page of that number was kept
abbrev pub is_kept : List (ℕ × List ℕ) → ℕ → Bool
is_kept [] n = false
is_kept (p ∷ kept) n = n == p.0 || is_kept kept n

-- their numbers ascend from the least on, and are below the end
abbrev pub AscendBelow : ℕ → ℕ → List (ℕ × List ℕ) → Type 0
AscendBelow least end [] = ⊤
AscendBelow least end (p ∷ kept) = (least ≤ p.0) × (p.0 < end) × AscendBelow (suc p.0) end kept

-- where a sum is said, it is that over the pages that aren't kept
abbrev pub SaysRest : SideFile → List (List ℕ) → Option ℕ → Type 0
SaysRest kept pages None = ⊤
SaysRest kept pages (Some rest) = AscendBelow 0 kept.long kept.pages × (rest ≡ sum_without (is_kept kept.pages) kept.long pages)

-- a side file is one of a file that is no shorter than it says, and whose other pages are those that were there
pub record IsOf (kept : SideFile) (pages : List (List ℕ)) : Type 0 where
  pub long : kept.long ≤ length pages
  pub rest : SaysRest kept pages kept.rest

-- so is none of any file
abbrev pub BelongsTo : Option SideFile → List (List ℕ) → Type 0
BelongsTo None pages = ⊤
BelongsTo (Some kept) pages = IsOf kept pages

-- the side file, where there is one, is one of the file
abbrev pub Belongs : Files → Type 0
Belongs f = BelongsTo f.side f.main.pages

-- these pages put over the others, the first of them first
abbrev pub put_back : List (ℕ × List ℕ) → List (List ℕ) → List (List ℕ)
put_back [] pages = pages
put_back (p ∷ kept) pages = put_back kept (slice_set pages p.0 p.1)

-- the old file: as long as it was, with the old pages put back, and with no tail
abbrev pub restored : SideFile → List (List ℕ) → PageFile
restored kept pages = record { pages = put_back kept.pages (take kept.long pages); tail = 0 }

-- the file beside such a side file, or beside none
abbrev pub recovered_by : Option SideFile → PageFile → PageFile
recovered_by None main = main
recovered_by (Some kept) main = restored kept main.pages

-- the file that a page file and its side file stand for
abbrev pub recovered : Files → PageFile
recovered f = recovered_by f.side f.main

-- two files that are the same but for the kept pages and for what is past the old end
pub record Agree (kept : SideFile) (a b : List (List ℕ)) : Type 0 where
  pub first_long : kept.long ≤ length a
  pub long : kept.long ≤ length b
  pub same : (n : ℕ) → n < kept.long → is_kept kept.pages n ≡ false → slice_get b n ≡ slice_get a n
