-- What a table in a tree was made of.
use Rattle.std.specs.Prelude.{ℕ, Bool, true, List, Option}
use Rattle.rec_types.specs.Table.{counted}
use Rattle.page_store.specs.Guards.{Guard}
use Rattle.page_store.specs.Journal.{Journal}
use Rattle.page_store.specs.Opening.{Opening}
use Rattle.page_store.specs.declared.store_state.StoreState.{Ghosts}
use Rattle.btree_delete.specs.TableView.{TableView}

-- the order of the tree, how many records it may have, and the store: its pages and its tail, whether it is steady, what it was opened from, how often it was asked for its shape, how many changing calls it had, its journal, and which pages it lets be written over
pub record Origin : Type 0 where
  pub order : ℕ
  pub limit : ℕ
  pub stored : List (List ℕ)
  pub tail : ℕ
  pub steady : Bool
  pub opening : Opening
  pub shapes : ℕ
  pub writes : ℕ
  pub journal : Option Journal
  pub guard : Guard

-- a tree of that order, of at most so many records, that was opened in a store, which was asked for its shape
abbrev pub opened_in : {S : Type 0} → Ghosts S → ℕ → ℕ → S → Origin
opened_in g order limit store = record { order = order; limit = limit; stored = g.pages store; tail = g.tail store; steady = g.steady store; opening = g.opening store; shapes = counted (g.shapes store) true; writes = g.writes store; journal = g.journal store; guard = g.guard store }

abbrev pub origin_of : TableView → Origin
origin_of t = record { order = t.tree.order; limit = t.limit; stored = t.pages.stored; tail = t.pages.tail; steady = t.pages.steady; opening = t.pages.opening; shapes = t.pages.shapes; writes = t.pages.writes; journal = t.pages.journal; guard = t.pages.guard }
