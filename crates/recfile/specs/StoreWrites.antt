-- What is written to a store where a table is closed, and where a page file is made.
use Rattle.std.specs.Prelude.{◌≡◌, ◌⊎◌, ℕ, Bool, true, false, Option, Some, None, Result, Ok, Err}
use Rattle.page_store.specs.Journal.{Journal, noted_steps, NotesFront}
use Rattle.page_store.specs.StoreCalls.{StaysStore}
use Rattle.page_store.specs.declared.store_state.StoreState.{Ghosts}
use Rattle.btree_delete.specs.Closing.{closing}
use Rattle.btree_delete.specs.Created.{IsCreated}
use Rattle.btree_delete.specs.TableView.{TableView}
use Rattle.file_session.specs.declared.file_fault.FileFault.{FileFault}
use Rattle.file_session.specs.declared.file_fault.FileFault.TheVariants.{BadOrder, Memory}

-- A table was closed, and its store asked for nothing else: its writing back is noted, whole where no fault stopped that,
-- and else a front of it, which is empty where memory was short.
abbrev pub WritesBack : Option Journal → TableView → Option FileFault → Option Journal → Type 0
WritesBack old t None new = new ≡ noted_steps old (closing t)
WritesBack old t (Some fault) new = NotesFront (closing t) old new × (fault ≡ Memory → new ≡ old)

-- a new table of this order was closed in an empty store
abbrev pub WritesNew : {S : Type 0} → Ghosts S → S → ℕ → Option FileFault → S → Type 0
WritesNew g old order unclosed new = (t : TableView) × IsCreated (g.pages old) (g.tail old) order t × WritesBack (g.journal old) t unclosed (g.journal new)

-- it was closed whole; or it wasn't, or nothing was written at all
abbrev pub MakesIn : {S : Type 0} → Ghosts S → S → ℕ → Result (Unit {0}) FileFault → S → Type 0
MakesIn g old order (Ok done) new = WritesNew g old order None new
MakesIn g old order (Err fault) new = StaysStore g old new ⊎ WritesNew g old order (Some fault) new

-- whether the store is asked for its shape: not where a tree can't have the order
abbrev pub wants_shape : Result (Unit {0}) FileFault → Bool
wants_shape (Err BadOrder) = false
wants_shape answer = true
