-- What a change of one element makes of a page.
use Rattle.std.specs.Prelude.{◌≡◌, ℕ, ◌*◌, ◌<◌, ◌≤◌, List, slice_set}
use Rattle.std.specs.List.{insert, remove}
use Rattle.btree_node.specs.declared.node.Node.{Node}
use Rattle.btree_node.specs.declared.page_change.PageChange.{PageChange}
use Rattle.btree_node.specs.declared.page_change.PageChange.TheVariants.{Replace, Insert, Remove}
use Rattle.btree_node.specs.Lists.{Element}
use Rattle.btree_node.specs.Reading.{count_at}
use Rattle.btree_node.specs.Spelling.{spelling, CanStand, IsElement, IsNodePage}
use Rattle.btree_node.specs.Written.{with_elements}

-- the elements after a change
abbrev pub changed_elements : PageChange → List Element → List Element
changed_elements (Replace i e) els = slice_set els i e
changed_elements (Insert i e) els = insert els i e
changed_elements (Remove i) els = remove els i

-- a page of a tree of order k of which one element may be changed so: an element that is replaced or taken out is there, and for one more there is room
abbrev pub MayChange : ℕ → PageChange → List ℕ → Type 0
MayChange k (Replace i e) page = IsNodePage k page × IsElement e × (i < count_at page)
MayChange k (Insert i e) page = IsNodePage k page × IsElement e × (i ≤ count_at page) × (count_at page < 2 * k)
MayChange k (Remove i) page = IsNodePage k page × (i < count_at page)

-- a page that spelled a node became the one that spells the node with the change
abbrev pub ChangedBy : ℕ → PageChange → List ℕ → List ℕ → Type 0
ChangedBy k change before after =
    (node : Node) → CanStand node k → before ≡ spelling node k → after ≡ spelling (with_elements node (changed_elements change node.elements.items)) k
