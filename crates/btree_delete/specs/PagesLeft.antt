-- What is left of the pages of a tree after an edit that takes no page.
use Rattle.std.specs.Prelude.{◌≡◌, ℕ, List, None, length}
use Rattle.page_store.specs.PageMap.{PageMap, after, write_page}
use Rattle.page_store.specs.declared.page_edit.PageEdit.{PageEdit}
use Rattle.btree_insert.specs.PageTrees.{IsIn, Apart}

-- a tree of the pages us became one of the pages vs: these are some of the old ones, the others are free, and no other page changed
pub record PagesLeft (old new : PageMap) (us vs : List ℕ) : Type 0 where
  pub same : (q : ℕ) → (IsIn q us → ⊥) → new q ≡ old q
  pub within : (q : ℕ) → IsIn q vs → IsIn q us
  pub gone : (q : ℕ) → IsIn q us → (IsIn q vs → ⊥) → new q ≡ None
  pub apart : Apart vs

-- pages before and after an edit that frees pages: lo numbers were freed before, hi are freed now
pub record PagesFreed : Type 0 where
  pub old : PageMap
  pub new : PageMap
  pub lo : ℕ
  pub hi : ℕ

abbrev pub pages_freed : PageMap → PageMap → ℕ → ℕ → PagesFreed
pages_freed old new lo hi = record { old = old; new = new; lo = lo; hi = hi }

-- pages with all that an edit writes and frees
abbrev pub with_edit : PageMap → PageEdit → PagesFreed
with_edit pages edit = pages_freed pages (after pages edit.writes.items edit.freed.items) 0 (length edit.freed.items)

-- pages with other bytes in one of them
abbrev pub with_page : PageMap → ℕ → List ℕ → PagesFreed
with_page pages n page = pages_freed pages (write_page pages n page) 0 0
