-- What a table in a tree answers.
use Rattle.std.specs.Prelude.{◌≡◌, ℕ, ◌+◌, ◌-◌, ◌*◌, ◌<◌, ◌≤◌, true, List, Option, None, IsSome, Result, Ok, Err, IsOk, IfOk, OnErr}
use Rattle.rec_types.specs.declared.table.TableFault.{TableFault}
use Rattle.rec_types.specs.declared.table.TableFault.TheVariants.{Device, Damaged, NoRoom, Memory}
use Rattle.rec_types.specs.Table.{counted, is_device}
use Rattle.page_store.specs.PagesView.{PagesView, OnlyReads, OnlyStages}
use Rattle.btree_node.specs.Lists.{Element}
use Rattle.btree_insert.specs.declared.tree.Tree.{Tree}
use Rattle.btree_insert.specs.declared.tree.TreeFault.{TreeFault}
use Rattle.btree_insert.specs.declared.tree.TreeFault.TheVariants.{Device as ReadFailed, Damaged as NoTreePage, Memory as NoMemory}
use Rattle.btree_insert.specs.Contents.{lookup_in, set_in}
use Rattle.btree_insert.specs.Sizes.{greatest_height, greatest_size}
use Rattle.btree_delete.specs.TableView.{Fills}

-- the fault of a table whose tree has a fault
abbrev pub table_fault : TreeFault → TableFault
table_fault ReadFailed = Device
table_fault (NoTreePage page) = Damaged page
table_fault NoMemory = Memory

abbrev pub table_answer : {X : Type 0} → Result X TreeFault → Result X TableFault
table_answer (Ok x) = Ok x
table_answer (Err fault) = Err (table_fault fault)

-- the pages hold the next tree, of at most so many records: the elements with a record put at the key, or with the key taken out; and what stood there
pub record IsSet (pages : List (Option (List ℕ))) (next : Tree) (limit : ℕ) (es : List Element) (key : List ℕ) (to before : Option (List ℕ)) : Type 0 where
  pub vs : List ℕ
  pub fills : Fills pages next (set_in key to es) vs
  pub answer : before ≡ lookup_in key es
  pub few : next.count ≤ limit

-- a record is put at an absent key, and there are as many records as there may be
pub record IsFull (limit count : ℕ) (es : List Element) (key : List ℕ) (to : Option (List ℕ)) : Type 0 where
  pub puts : IsSome to
  pub absent : lookup_in key es ≡ None
  pub full : limit ≤ count

-- why it is not put, or the key not taken out: NoRoom before memory is asked for, and none is asked for to take out an absent key
abbrev pub MayRefuse : ℕ → ℕ → List Element → List ℕ → Option (List ℕ) → TableFault → Type 0
MayRefuse limit count es key to Device = Unit {0}
MayRefuse limit count es key to (Damaged page) = ⊥
MayRefuse limit count es key to NoRoom = IsFull limit count es key to
MayRefuse limit count es key to Memory = (IsFull limit count es key to → ⊥) × (to ≡ None → IsSome (lookup_in key es))

-- a tree of the same order, within the limits
pub record KeepsLimits (tree next : Tree) : Type 0 where
  pub order : next.order ≡ tree.order
  pub height : next.height ≤ greatest_height
  pub count : next.count ≤ greatest_size
  pub used : next.used ≤ greatest_size

-- an edit was staged unless there is a fault, and the answer tells whether a read failed
pub record StagesSet {A : Type 0} (old : PagesView) (answer : Result A TableFault) (new : PagesView) : Type 0 where
  pub store : OnlyStages old new
  pub err : OnErr answer (OnlyReads old new)
  pub device : new.failures ≡ counted old.failures (is_device answer)

-- how many pages are read to put a record, or to take a key out: one a level where the tree has room for a record
pub record ReadsToSet (tree : Tree) (limit : ℕ) (to : Option (List ℕ)) (old new : PagesView) : Type 0 where
  pub one_descent : IsSome to → tree.count < limit → new.reads ≤ old.reads + tree.height
  pub taking : to ≡ None → new.reads ≤ old.reads + (2 * tree.height - 1)
  pub most : new.reads ≤ old.reads + 2 * tree.height

-- whether the pages changed: they did where a record was put or a key taken out, and did not where the key to take out was absent
pub record TellsChange (tree : Tree) (to : Option (List ℕ)) (old : PagesView) (answer : Result (Tree × Option (List ℕ)) TableFault) (new : PagesView) : Type 0 where
  pub put : IsSome to → IsOk answer → new.changed ≡ true
  pub taken_out : to ≡ None → IfOk answer (λ r. IsSome r.1 → new.changed ≡ true)
  pub absent : to ≡ None → IfOk answer (λ r. r.1 ≡ None → (r.0 ≡ tree) × (new.pages ≡ old.pages) × (new.changed ≡ old.changed))
