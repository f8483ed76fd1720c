-- How an underfull page is treated with a brother.
use Rattle.std.specs.Prelude.{◌≡◌, ℕ, suc, ◌*◌, ◌<◌, ◌≤◌, ◌⊎◌, [], ◌∷◌, ◌++◌, slice_index_or, slice_set}
use Rattle.std.specs.List.{remove}
use Rattle.btree_node.specs.declared.node.Node.{Node}
use Rattle.btree_node.specs.Cut.{left_of, right_of}
use Rattle.btree_node.specs.Joined.{joined, keys_of_both, half_of_both}
use Rattle.btree_node.specs.Lists.{Element}
use Rattle.btree_node.specs.Spelling.{spelling, CanStand}
use Rattle.btree_delete.specs.Tidy.{DoneSoFar}

-- element i of a node, and son i
abbrev pub element_at : Node → ℕ → Element
element_at n i = slice_index_or n.elements.items i ([], [])

abbrev pub son_number : Node → ℕ → ℕ
son_number n i = slice_index_or n.sons.items i 0

-- sons i and i + 1 of a father and the element between them, as one node
abbrev pub both : Node → ℕ → Node → Node → Node
both father i left right = joined left (element_at father i) right

-- two brothers: sons i and i + 1 of a father
pub record Brothers : Type 0 where
  pub i : ℕ
  pub left : Node
  pub right : Node

abbrev pub brothers : ℕ → Node → Node → Brothers
brothers i left right = record { i = i; left = left; right = right }

-- few keys: both become the left page, the right one is freed, and the father loses a key and a son
pub record Catenates (k : ℕ) (father father' : Node) (pair : Brothers) (old new : DoneSoFar) : Type 0 where
  pub few : keys_of_both pair.left pair.right < 2 * k
  pub kind : father'.kind ≡ father.kind
  pub elements : father'.elements.items ≡ remove father.elements.items pair.i
  pub sons : father'.sons.items ≡ remove father.sons.items (suc pair.i)
  pub wrote : new.writes ≡ old.writes ++ (son_number father pair.i, spelling (both father pair.i pair.left pair.right) k) ∷ []
  pub frees : new.freed ≡ old.freed ++ son_number father (suc pair.i) ∷ []
  pub stands : CanStand (both father pair.i pair.left pair.right) k

-- many keys: they are distributed, and the key in the middle goes to the father
pub record Distributes (k : ℕ) (father father' : Node) (pair : Brothers) (old new : DoneSoFar) : Type 0 where
  pub many : 2 * k ≤ keys_of_both pair.left pair.right
  pub kind : father'.kind ≡ father.kind
  pub elements : father'.elements.items
      ≡ slice_set father.elements.items pair.i (element_at (both father pair.i pair.left pair.right) (half_of_both pair.left pair.right))
  pub sons : father'.sons.items ≡ father.sons.items
  pub wrote : new.writes
      ≡ (old.writes ++ (son_number father pair.i, spelling (left_of (half_of_both pair.left pair.right) (both father pair.i pair.left pair.right)) k) ∷ [])
      ++ (son_number father (suc pair.i), spelling (right_of (half_of_both pair.left pair.right) (both father pair.i pair.left pair.right)) k) ∷ []
  pub frees : new.freed ≡ old.freed
  pub left_stands : CanStand (left_of (half_of_both pair.left pair.right) (both father pair.i pair.left pair.right)) k
  pub right_stands : CanStand (right_of (half_of_both pair.left pair.right) (both father pair.i pair.left pair.right)) k

abbrev pub Treats : ℕ → Node → Node → Brothers → DoneSoFar → DoneSoFar → Type 0
Treats k father father' pair old new = Catenates k father father' pair old new ⊎ Distributes k father father' pair old new
