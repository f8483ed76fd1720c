-- What calls that go through a tree leave of its pages, and of an edit.
use Rattle.std.specs.Prelude.{◌≡◌, ℕ, ◌+◌, ◌<◌, ◌≤◌, Bool, true, List, [], length, Option, IsSome, Result, OnOk, OnErr}
use Rattle.rec_types.specs.Table.{counted}
use Rattle.page_store.specs.PageMap.{at}
use Rattle.page_store.specs.PagesView.{PagesView, OnlyReads, OnlyStages}
use Rattle.page_store.specs.declared.page_edit.PageEdit.{PageEdit}
use Rattle.btree_node.specs.Lists.{Element}
use Rattle.btree_node.specs.Spelling.{AreSpelt, IsElement}
use Rattle.btree_insert.specs.Spelt.{IsTreeIn}
use Rattle.btree_insert.specs.declared.tree.Tree.{Tree}
use Rattle.btree_insert.specs.declared.tree.TreeFault.{TreeFault}
use Rattle.btree_insert.specs.Faults.{is_tree_device, TreeAsksNoMemory}
use Rattle.btree_insert.specs.Growth.{WritesFit}
use Rattle.btree_insert.specs.Sizes.{greatest_height}

-- page n is in use, and is not page 0
pub record IsInUse (pages : List (Option (List ℕ))) (n : ℕ) : Type 0 where
  pub there : IsSome (at pages n)
  pub some : 0 < n

-- pages were at most read, at most so often, and the answer tells whether a read failed
pub record Reads {A : Type 0} (most : ℕ) (old : PagesView) (answer : Result A TreeFault) (new : PagesView) : Type 0 where
  pub unchanged : OnlyReads old new
  pub device : new.failures ≡ counted old.failures (is_tree_device answer)
  pub reads : new.reads ≤ old.reads + most

-- the same of a call that asks for no memory
abbrev pub Looks : {A : Type 0} → ℕ → PagesView → Result A TreeFault → PagesView → Type 0
Looks most old answer new = Reads most old answer new × TreeAsksNoMemory answer

-- one page is read, and no memory asked for
abbrev pub ReadsOnce : {A : Type 0} → PagesView → Result A TreeFault → PagesView → Type 0
ReadsOnce old answer new = Reads 1 old answer new × TreeAsksNoMemory answer × OnOk answer (new.reads ≡ counted old.reads true)

-- pages were read, at most so often, and an edit was staged unless there is a fault
pub record Stages {A : Type 0} (most : ℕ) (old : PagesView) (answer : Result A TreeFault) (new : PagesView) : Type 0 where
  pub store : OnlyStages old new
  pub err : OnErr answer (OnlyReads old new)
  pub device : new.failures ≡ counted old.failures (is_tree_device answer)
  pub reads : new.reads ≤ old.reads + most

-- an edit that writes no page and takes no number
pub record IsNewEdit (edit : PageEdit) : Type 0 where
  pub unwritten : edit.writes.items ≡ []
  pub none_taken : edit.taken ≡ 0

-- an element may be put into the tree by an edit
pub record CanGrow (in_place : Bool) (tree : Tree) (pages : PagesView) (element : Element) (edit : PageEdit) : Type 0 where
  pub tree_is : IsTreeIn in_place tree pages
  pub fits : IsElement element
  pub new_edit : IsNewEdit edit

-- what an edit writes spells nodes of the order, if it did before; it takes and frees no other numbers
pub record OnlyWrites {A F : Type 0} (k : ℕ) (old : PageEdit) (answer : Result A F) (new : PageEdit) : Type 0 where
  pub spelt : AreSpelt k old.writes.items → OnOk answer (AreSpelt k new.writes.items)
  pub taken : new.taken ≡ old.taken
  pub freed : new.freed ≡ old.freed

-- the same, but that numbers may be taken: then each of them is written
pub record WritesAndTakes {A F : Type 0} (k : ℕ) (pages : List (Option (List ℕ))) (old : PageEdit) (answer : Result A F) (new : PageEdit) : Type 0 where
  pub fits : OnOk answer (WritesFit pages new.writes.items new.taken)
  pub spelt : AreSpelt k old.writes.items → OnOk answer (AreSpelt k new.writes.items)
  pub freed : new.freed ≡ old.freed

-- page n is in use, and an edit may write it and take a number more
pub record CanSettle (pages : List (Option (List ℕ))) (edit : PageEdit) (n : ℕ) : Type 0 where
  pub taken : edit.taken ≤ 100
  pub in_use : IsSome (at pages n)
  pub fits : WritesFit pages edit.writes.items edit.taken

-- a way down has room for so many levels, and an edit for what is written on it
pub record HasEditRoom (pages : List (Option (List ℕ))) (edit : PageEdit) (visited : List ℕ) (level : ℕ) : Type 0 where
  pub levels : length visited + level ≤ greatest_height
  pub taken : edit.taken ≤ greatest_height
  pub fits : WritesFit pages edit.writes.items edit.taken
