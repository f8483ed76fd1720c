-- What the steps of an opening leave of a store and its pages.
use Rattle.std.specs.Prelude.{◌≡◌, ℕ, ◌<◌, ◌≤◌, Bool, true, length, if◌then◌else◌, None, IsTrue, Result}
use Rattle.rec_types.specs.Table.{counted}
use Rattle.page_store.specs.PageMap.{at}
use Rattle.page_store.specs.PagesView.{PagesView, is_in_memory}
use Rattle.page_store.specs.StoreCalls.{StaysStore}
use Rattle.page_store.specs.declared.store_state.StoreState.{Ghosts}
use Rattle.btree_delete.specs.declared.opening.open_fault.OpenFault.{OpenFault}
use Rattle.btree_delete.specs.CleanFile.{is_open_device}
use Rattle.btree_delete.specs.Survey.{stored_page}

-- a store was asked for its shape, or read, once each or not, and the answer tells whether that failed
pub record AsksStore {S A : Type 0} (s : Ghosts S) (shape read : Bool) (old : S) (answer : Result A OpenFault) (new : S) : Type 0 where
  pub stays : StaysStore s old new
  pub reads : s.reads new ≡ counted (s.reads old) read
  pub shapes : s.shapes new ≡ counted (s.shapes old) shape
  pub failures : s.failures new ≡ counted (s.failures old) (is_open_device answer)

-- pages of which some may be freed: these are as they are stored, and there are as many pages as are stored
pub record CanFree (pages : PagesView) (free : ℕ → Bool) : Type 0 where
  pub fits : (n : ℕ) → IsTrue (free n) → (1 ≤ n) × (n < length pages.pages)
  pub stay : (n : ℕ) → free n ≡ true → at pages.pages n ≡ stored_page pages n
  pub whole : length pages.pages ≡ length pages.stored

-- these pages were freed, and no other page changed
pub record Frees (old new : PagesView) (free : ℕ → Bool) : Type 0 where
  pub pages : (n : ℕ) → at new.pages n ≡ (if free n then None else at old.pages n)
  pub count : length new.pages ≡ length old.pages
  pub in_memory : (n : ℕ) → is_in_memory new n ≡ true → is_in_memory old n ≡ true
  pub rest : new ≡ record old { pages = new.pages; changed = new.changed; in_memory = new.in_memory }
