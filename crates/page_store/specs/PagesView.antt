-- What contracts see of a store with changed pages in memory.
use Rattle.std.specs.Prelude.{◌≡◌, ℕ, Bool, true, false, not, ◌&&◌, List, Option, None, IsSome, is_some, if◌then◌else◌, slice_index_or}
use Rattle.rec_types.specs.Table.{counted}
use Rattle.page_store.specs.PageMap.{PageMap, at}
use Rattle.page_store.specs.Guards.{Guard}
use Rattle.page_store.specs.Journal.{Journal}
use Rattle.page_store.specs.Opening.{Opening}

-- pages: each page's newest bytes, None for page 0 and for free numbers; changed: whether an edit was staged since the beginning or the last writing back; in_memory: of each page whether it is in use and its newest bytes are in memory; the rest is the store's
pub record PagesView : Type 0 where
  pub pages : List (Option (List ℕ))
  pub changed : Bool
  pub in_memory : List Bool
  pub stored : List (List ℕ)
  pub tail : ℕ
  pub steady : Bool
  pub opening : Opening
  pub reads : ℕ
  pub shapes : ℕ
  pub writes : ℕ
  pub failures : ℕ
  pub journal : Option Journal
  pub guard : Guard

-- whether page n is in use and its newest bytes are in memory
abbrev pub is_in_memory : PagesView → ℕ → Bool
is_in_memory v n = slice_index_or v.in_memory n false

-- whether page n is in use and its newest bytes are in the store
abbrev pub is_read : PagesView → ℕ → Bool
is_read v n = is_some (at v.pages n) && not (is_in_memory v n)

-- the pages in use whose newest bytes are in memory
abbrev pub memory_pages : PagesView → PageMap
memory_pages v n = if is_in_memory v n then at v.pages n else None

-- the old pages, with the new counts of reads and of failures
abbrev pub with_reads : PagesView → PagesView → PagesView
with_reads old new = record old { reads = new.reads; failures = new.failures }

-- the old pages, with what changing calls of the store change
abbrev pub with_writes : PagesView → PagesView → PagesView
with_writes old new = record old { stored = new.stored; tail = new.tail; writes = new.writes; failures = new.failures; journal = new.journal; guard = new.guard }

-- pages were at most read
abbrev pub OnlyReads : PagesView → PagesView → Type 0
OnlyReads old new = new ≡ with_reads old new

-- pages were at most read, and edits staged
abbrev pub OnlyStages : PagesView → PagesView → Type 0
OnlyStages old new = new ≡ record (with_reads old new) { pages = new.pages; changed = new.changed; in_memory = new.in_memory }

-- a read is counted where page n is in use and isn't in memory, as each page in use where no edit was staged
pub record CountsRead (n : ℕ) (old new : PagesView) : Type 0 where
  pub reads : new.reads ≡ counted old.reads (is_read old n)
  pub unstaged : old.changed ≡ false → IsSome (at old.pages n) → new.reads ≡ counted old.reads true
