-- What a file is that is filled, and what it was.
use Rattle.std.proofs.Common.{◌≡◌, ℕ, zero, suc, Some, None, List, [], length, Result, Ok, Err, OnOk, refl, sym, ap, subst, ◌∙◌, arith}
use Rattle.rec_types.specs.Contents.{Contents}
use Rattle.page_store.specs.PagesView.{PagesView}
use Rattle.page_store.specs.declared.store_fault.StoreFault.{StoreFault}
use Rattle.page_journal.specs.Files.{PageFile}
use Rattle.page_journal.specs.Crash.{IsSettled}
use Rattle.page_journal.specs.declared.disk_state.DiskState.{Ghosts}
use Rattle.btree_node.specs.Lists.{Element, Ascends}
use Rattle.btree_insert.specs.declared.tree.Tree.{Tree}
use Rattle.btree_insert.specs.Contents.{contents_of}
use Rattle.btree_insert.specs.PageTrees.{RootIn}
use Rattle.btree_node.specs.declared.layout.Layout.{Layout}
use Rattle.btree_node.specs.Layout.{layout_of}
use Rattle.btree_delete.specs.CleanFile.{Opens, in_file}
use Rattle.btree_delete.specs.TableView.{IsClosed}
use Rattle.btree_delete.proofs.TableViewLemmas.{no_contents}
use Rattle.btree_load.specs.Trees.{IsFilled}
use Rattle.btree_load.proofs.ShapeLemmas.{contents_put}
use Rattle.recfile.specs.Filling.{IsBlankFile, loaded}
use Rattle.file_session.specs.Closing.{HasRecords, IsKeptWith}

-- a filled file has the records that were loaded
pub has_loaded : (order : ℕ) (records : List Element) (main found : PageFile) → Ascends records → IsFilled order main.pages main.tail records → found ≡ main → HasRecords order (loaded records) found
has_loaded order records main found up filled same =
    subst (HasRecords order (loaded records)) (sym same)
    (filled.tree, filled.order, subst (λ (m : Contents). IsClosed 2 main.pages main.tail filled.tree m) (contents_put records up) filled.closed)

pub kept_loaded : {D : Type 0} (g : Ghosts D) (answer : Result (Unit {0}) StoreFault) (order : ℕ) (records : Contents) (main : PageFile) (disk : D) → (g.seen disk).main ≡ main → HasRecords order records main → OnOk answer (IsSettled g main disk) → OnOk answer (IsKeptWith g order records disk)
kept_loaded g (Ok x) order records main disk same has settled = record {
  has = subst (HasRecords order records) (sym same) has;
  settled = subst (λ (f : PageFile). IsSettled g f disk) (sym same) settled;
}
kept_loaded g (Err fault) order records main disk same has settled = tt

-- page 0 is no page of a tree
no_root : (layout : Layout) (k : ℕ) (stored : List (List ℕ)) (root height : ℕ) (es : List Element) (us : List ℕ) → root ≡ 0 → RootIn layout k (in_file stored) height root es us → es ≡ []
no_root layout k stored root zero es us none (root_is, es_is, us_is) = es_is
no_root layout k stored root (suc h) es us none (n, below, spelled, least, body, us_is) =
    absurd (nothing (ap (in_file stored) (sym none) ∙ spelled.page))
  where
    nothing : {page : List ℕ} → None ≡ Some page → ⊥
    nothing is = (cc)

-- a file of one page has no records
pub opened_blank : (stored : List (List ℕ)) (tail limit reads : ℕ) (pages : PagesView) (tree : Tree) → length stored ≡ 1 → Opens stored tail limit reads pages tree → IsBlankFile tree.order (record { pages = stored; tail = tail })
opened_blank stored tail limit reads pages tree one opened =
    let there = opened.clean.there in
    let low = opened.clean.begins.agrees.root in
    let none : tree.root ≡ 0 = omega (arith, there.root, low, one) in
    let empty : opened.es ≡ [] = no_root (layout_of opened.h.version) tree.order stored tree.root tree.height opened.es opened.us none there.holds.tree in (
      tree,
      opened.h.version,
      refl,
      record { h = opened.h; es = opened.es; us = opened.us; version_is = refl; clean = opened.clean; records = ap contents_of empty ∙ no_contents },
    )
