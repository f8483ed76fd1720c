-- Which pages are whole, of a file of which nothing is known.
use Rattle.std.specs.Prelude.{◌≡◌, ℕ, List}
use Rattle.btree_node.specs.Layout.{layout_of, IsOrder, IsVersion}
use Rattle.btree_node.specs.Spelling.{CanStandIn, spelling_in}
use Rattle.btree_node.specs.declared.node.Node.{Node}
use Rattle.page_looks.specs.declared.spelt.Kind.{Kind}

-- the page spells the node in a file of that version, in a tree of that order
pub record PageSpellsIn (version order : ℕ) (page : List ℕ) (node : Node) : Type 0 where
  pub stands : CanStandIn (layout_of version) node order
  pub bytes : page ≡ spelling_in (layout_of version) node order

-- the page spells the node in a file of some version, in a tree of some order: it is whole
pub record PageSpells (page : List ℕ) (node : Node) : Type 0 where
  pub version : ℕ
  pub is_version : IsVersion version
  pub order : ℕ
  pub is_order : IsOrder order
  pub spells : PageSpellsIn version order page node

-- a version and an order that a file may have
abbrev pub IsKind : Kind → Type 0
IsKind kind = IsVersion kind.version × IsOrder kind.order
