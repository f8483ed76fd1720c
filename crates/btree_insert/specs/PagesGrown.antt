-- What an edit leaves of the pages around a tree.
use Rattle.std.specs.Prelude.{◌≡◌, ℕ, ◌+◌, ◌<◌, ◌≤◌, ◌⊎◌, List, length, Option}
use Rattle.page_store.specs.PageMap.{PageMap, at, pages_with, write_page}
use Rattle.page_store.specs.FreeNumbers.{candidate}
use Rattle.page_store.specs.declared.page_edit.PageEdit.{PageEdit}
use Rattle.btree_insert.specs.PageTrees.{IsIn, Apart}

-- q is one of the new numbers from place lo on and before place hi
abbrev pub IsNew : (ℕ → ℕ) → ℕ → ℕ → ℕ → Type 0
IsNew fresh lo hi q = (i : ℕ) × (lo ≤ i) × (i < hi) × (q ≡ fresh i)

-- a tree of the pages us became one of the pages vs: these are the old ones and the new ones, and no other page changed
pub record PagesGrown (old new : PageMap) (fresh : ℕ → ℕ) (lo hi : ℕ) (us vs : List ℕ) : Type 0 where
  pub same : (q : ℕ) → (IsIn q us → ⊥) → (IsNew fresh lo hi q → ⊥) → new q ≡ old q
  pub from : (q : ℕ) → IsIn q vs → IsIn q us ⊎ IsNew fresh lo hi q
  pub stays : (q : ℕ) → IsIn q us ⊎ IsNew fresh lo hi q → IsIn q vs
  pub apart : Apart vs
  pub count : length vs + lo ≡ length us + hi

-- pages before and after an edit that takes new numbers for pages: before place lo they were taken already, before place hi they are taken now
pub record PagesChange : Type 0 where
  pub old : PageMap
  pub new : PageMap
  pub fresh : ℕ → ℕ
  pub lo : ℕ
  pub hi : ℕ

abbrev pub pages_change : PageMap → PageMap → (ℕ → ℕ) → ℕ → ℕ → PagesChange
pages_change old new fresh lo hi = record { old = old; new = new; fresh = fresh; lo = lo; hi = hi }

-- a file's pages became others, and so many new numbers were taken
abbrev pub taking : List (Option (List ℕ)) → PageMap → ℕ → PagesChange
taking pages new taken = pages_change (at pages) new (candidate pages) 0 taken

-- a file's pages with what an edit writes now, where so many numbers were taken before
abbrev pub edited : List (Option (List ℕ)) → ℕ → PageEdit → PagesChange
edited pages taken edit = pages_change (at pages) (pages_with (at pages) edit.writes.items) (candidate pages) taken edit.taken

-- a file's pages with other bytes in one of them
abbrev pub written_over : List (Option (List ℕ)) → ℕ → List ℕ → PagesChange
written_over pages n page = pages_change (at pages) (write_page (at pages) n page) (candidate pages) 0 0
