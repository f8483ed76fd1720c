-- The steps of a close, and what is there when it stops part-way.
use Rattle.std.specs.Prelude.{◌≡◌, ℕ, ◌⊎◌, List, [], length, if◌then◌else◌}
use Rattle.rec_types.specs.Table.{counted}
use Rattle.page_store.specs.Fronts.{tried}
use Rattle.page_store.specs.PagesView.{PagesView, memory_pages, with_writes}
use Rattle.page_store.specs.Journal.{carried, writing_back}
use Rattle.page_store.specs.declared.page_edit.WriteFault.{WriteFault}
use Rattle.page_store.specs.declared.page_edit.WriteFault.TheVariants.{Memory}
use Rattle.page_store.specs.declared.step.Step.{Step}
use Rattle.page_store.specs.declared.store_state.StoreState.{Ghosts}
use Rattle.btree_node.specs.declared.header.Header.{Header}
use Rattle.btree_node.specs.HeaderSpelling.{header_spelling, clean_state, writing_state}
use Rattle.btree_node.specs.Layout.{second_version}
use Rattle.btree_node.specs.Lists.{Element}
use Rattle.btree_insert.specs.declared.tree.Tree.{Tree}
use Rattle.btree_delete.specs.CleanFile.{IsCleanFile, is_close_device_fault}
use Rattle.btree_delete.specs.TableView.{TableView}

-- the header of a table's file when it is closed
abbrev pub header_of : TableView → Header
header_of t = record { version = second_version; order = t.tree.order; pages = length t.pages.pages; root = t.tree.root; count = t.tree.count }

-- the calls by which a table is closed: none where nothing was changed
abbrev pub closing : TableView → List Step
closing t = if t.pages.changed then writing_back (memory_pages t.pages) (length t.pages.pages) (header_spelling (header_of t) writing_state) (header_spelling (header_of t) clean_state) else []

-- no closed file, so that opening refuses it
abbrev pub IsNoCleanFile : List (List ℕ) → Type 0
IsNoCleanFile pages = (h : Header) → (tree : Tree) → (es : List Element) → (us : List ℕ) → IsCleanFile pages 0 h tree es us → ⊥

-- a closed file
pub record IsFile (pages : List (List ℕ)) : Type 0 where
  pub h : Header
  pub tree : Tree
  pub es : List Element
  pub us : List ℕ
  pub clean : IsCleanFile pages 0 h tree es us

-- no page yet, or a closed file
abbrev pub IsNewOrFile : List (List ℕ) → Type 0
IsNewOrFile pages = (pages ≡ []) ⊎ IsFile pages

-- the old file, or one that opening refuses, or the new one
abbrev pub IsEither : List (List ℕ) → List (List ℕ) → List (List ℕ) → Type 0
IsEither old new pages = (pages ≡ old) ⊎ (IsNoCleanFile pages ⊎ (pages ≡ new))

-- where tries to carry these steps out stopped, there is one of the three, and carrying them out again leads to what they lead to at once
pub record StopsAnywhere (steps : List Step) : Type 0 where
  pub fronts : (old : List (List ℕ)) (ks : List ℕ) → IsNewOrFile old → IsEither old (carried old steps) (carried old (tried ks steps))
  pub again : (old : List (List ℕ)) (ks : List ℕ) → carried (carried old (tried ks steps)) steps ≡ carried old steps

-- the store of pages that were written back with no fault: it was not read
pub record IsHandedOver {S : Type 0} (s : Ghosts S) (v : PagesView) (store : S) : Type 0 where
  pub steady : s.steady store ≡ v.steady
  pub opening : s.opening store ≡ v.opening
  pub reads : s.reads store ≡ v.reads
  pub shapes : s.shapes store ≡ v.shapes
  pub failures : s.failures store ≡ v.failures

-- a table that was not closed, for that fault: it is as it was, but for what writing left of its store
pub record IsUnclosed (old : TableView) (fault : WriteFault) (t : TableView) : Type 0 where
  pub device : t.pages.failures ≡ counted old.pages.failures (is_close_device_fault fault)
  pub memory : fault ≡ Memory → t.pages.journal ≡ old.pages.journal
  pub table : t ≡ record old { pages = with_writes old.pages t.pages }
