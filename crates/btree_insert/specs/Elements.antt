-- The elements of a tree as a function of the pages: total, whatever the pages hold.
use Rattle.std.specs.Prelude.{ℕ, zero, suc, List, []}
use Rattle.std.specs.Option.{unwrap_or}
use Rattle.btree_node.specs.declared.node.Node.{Node}
use Rattle.btree_node.specs.Layout.{second_layout}
use Rattle.btree_node.specs.Lists.{Element}
use Rattle.btree_node.specs.Reading.{node_at}
use Rattle.page_store.specs.PageMap.{PageMap}
use Rattle.rec_types.specs.Contents.{Contents}
use Rattle.btree_insert.specs.Classes.{between_trees}
use Rattle.btree_insert.specs.Contents.{contents_of}

-- the elements below page p, through so many levels, where each page number is read as a node
abbrev pub elements_below : (ℕ → Node) → ℕ → ℕ → List Element
elements_below nodes zero p = []
elements_below nodes (suc zero) p = (nodes p).elements.items
elements_below nodes (suc (suc h)) p = between_trees (elements_below nodes (suc h)) (nodes p).elements.items (nodes p).sons.items

-- the node at the fixed places of page p in the second layout; a page that is not in use reads as an empty one
abbrev pub node_of : ℕ → PageMap → ℕ → Node
node_of k pages p = node_at second_layout k (unwrap_or (pages p) [])

-- the elements of the tree of order k with this height and root
abbrev pub elements_of : ℕ → PageMap → ℕ → ℕ → List Element
elements_of k pages height root = elements_below (node_of k pages) height root

-- their finite map
abbrev pub contents_at : ℕ → PageMap → ℕ → ℕ → Contents
contents_at k pages height root = contents_of (elements_of k pages height root)
