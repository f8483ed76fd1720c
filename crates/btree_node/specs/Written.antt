-- How the bytes written so far lie in a page, and what a page is after some of its bytes are written over.
use Rattle.std.specs.Prelude.{◌≡◌, ℕ, ◌+◌, ◌≤◌, List, ◌++◌, length, take, drop}
use Rattle.rec_types.specs.Padded.{padded}
use Rattle.rec_types.specs.Widths.{page_width}
use Rattle.btree_node.specs.Lists.{Element}
use Rattle.btree_node.specs.declared.node.Node.{Node}
use Rattle.btree_node.specs.declared.page_writer.PageWriter.TheInside.{Inside}

abbrev pub written_bytes : Inside → List ℕ
written_bytes w = take w.at w.page

-- the rest of the page is zero
pub record IsWriter (w : Inside) : Type 0 where
  pub within : w.at ≤ page_width
  pub whole : length w.page ≡ page_width
  pub zeros : w.page ≡ padded page_width (take w.at w.page)

-- the page with bytes written over those from a place on
unfoldable pub put_at : ℕ → List ℕ → List ℕ → List ℕ
put_at at bytes page = take at page ++ (bytes ++ drop (at + length bytes) page)

-- the node with other elements and sons
abbrev pub with_parts : Node → List Element → List ℕ → Node
with_parts n els sons = record { kind = n.kind; elements = record { items = els }; sons = record { items = sons } }

-- the node with other elements
abbrev pub with_elements : Node → List Element → Node
with_elements n els = record { kind = n.kind; elements = record { items = els }; sons = n.sons }
