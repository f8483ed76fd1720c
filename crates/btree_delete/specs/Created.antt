-- What a new table is, and why none was made.
use Rattle.std.specs.Prelude.{◌≡◌, ℕ, Bool, true, false, IsTrue, List, length, Result, Ok, Err}
use Rattle.std.specs.FinMap as maps
pub use Rattle.btree_node.specs.Layout.{IsOrder}
use Rattle.btree_insert.specs.declared.tree.Tree.{Tree}
use Rattle.btree_delete.specs.declared.table.tree_table.CreateFault.{CreateFault}
use Rattle.btree_delete.specs.declared.table.tree_table.CreateFault.TheVariants.{BadOrder, Device, NotEmpty}
use Rattle.btree_delete.specs.TableView.{TableView, HoldsTree, table_contents}

-- a store with no page and no further byte
pub record IsEmpty (stored : List (List ℕ)) (tail : ℕ) : Type 0 where
  pub no_page : length stored ≡ 0
  pub no_tail : tail ≡ 0

-- the empty tree of an order
abbrev pub empty_tree : ℕ → Tree
empty_tree k = record { order = k; root = 0; height = 0; count = 0; used = 0 }

-- an empty tree with no record over an empty store, with page 0 to write
pub record IsCreated (stored : List (List ℕ)) (tail k : ℕ) (t : TableView) : Type 0 where
  pub was_empty : IsEmpty stored tail
  pub order : IsOrder k
  pub tree : t.tree ≡ empty_tree k
  pub one_page : length t.pages.pages ≡ 1
  pub changed : t.pages.changed ≡ true
  pub stored_is : t.pages.stored ≡ stored
  pub tail_is : t.pages.tail ≡ tail
  pub empty : table_contents t ≡ maps.empty
  pub in_class : IsTrue t.pages.steady → HoldsTree t.pages t.tree

-- the first check that fails has that name
abbrev pub IsCreateFault : List (List ℕ) → ℕ → ℕ → CreateFault → Type 0
IsCreateFault stored tail k BadOrder = IsOrder k → ⊥
IsCreateFault stored tail k Device = IsOrder k
IsCreateFault stored tail k NotEmpty = IsOrder k × (IsEmpty stored tail → ⊥)

-- whether a call of the store failed
abbrev pub is_create_device_fault : CreateFault → Bool
is_create_device_fault BadOrder = false
is_create_device_fault Device = true
is_create_device_fault NotEmpty = false

-- whether the store was asked for its shape
abbrev pub asks_shape : CreateFault → Bool
asks_shape BadOrder = false
asks_shape Device = true
asks_shape NotEmpty = true

abbrev pub is_create_device : {X : Type 0} → Result X CreateFault → Bool
is_create_device (Ok x) = false
is_create_device (Err fault) = is_create_device_fault fault
