-- A file that was opened is a closed one.
use Rattle.std.proofs.Common.{◌≤◌, ℕ, List, refl, sym, subst}
use Rattle.page_store.specs.PagesView.{PagesView}
use Rattle.btree_insert.specs.Contents.{contents_of}
use Rattle.btree_insert.specs.declared.tree.Tree.{Tree}
use Rattle.btree_delete.specs.CleanFile.{Opens}
use Rattle.file_session.specs.Opened.{CanBeOpened}

-- within the limit
pub can_be_opened : (stored : List (List ℕ)) (tail limit reads : ℕ) (pages : PagesView) (tree : Tree) → Opens stored tail limit reads pages tree → CanBeOpened stored tail limit
can_be_opened stored tail limit reads pages tree opened = (
  tree,
  contents_of opened.es,
  opened.h.version,
  record { h = opened.h; es = opened.es; us = opened.us; version_is = refl; clean = opened.clean; records = refl },
  subst (λ (n : ℕ). n ≤ limit) (sym opened.clean.count) opened.few,
)
