-- The line that a check writes.
use Rattle.std.specs.Prelude.{ℕ, ◌-◌, List, [], ◌∷◌, ◌++◌, codes}
use Rattle.std.specs.Fmt.{decimal}
use Rattle.std.specs.FinMap as maps
use Rattle.rec_types.specs.Contents.{Contents}
use Rattle.btree_insert.specs.declared.tree.Tree.{Tree}
use Rattle.recfile.specs.declared.page_file.TreeCounts.{TreeCounts}

abbrev pub counts_line : TreeCounts → List ℕ
counts_line c =
    codes "order " ++ (decimal c.order ++ (codes " height " ++ (decimal c.height ++ (codes " records " ++ (decimal c.records
    ++ (codes " pages " ++ (decimal c.pages ++ (codes " free " ++ (decimal c.free ++ 10 ∷ [])))))))))

-- a tree with these records in a file of so many pages: those that aren't page 0 and none of the tree's are free
abbrev pub counts_in : Tree → Contents → ℕ → TreeCounts
counts_in tree contents pages = record {
  order = tree.order;
  height = tree.height;
  records = maps.len contents;
  pages = pages;
  free = pages - 1 - tree.used;
}
