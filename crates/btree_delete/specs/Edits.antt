-- What the calls of a deletion leave of an edit.
use Rattle.std.specs.Prelude.{◌≡◌, ℕ, [], Result, OnOk}
use Rattle.page_store.specs.declared.page_edit.PageEdit.{PageEdit}
use Rattle.btree_node.specs.Spelling.{AreSpelt}

-- an edit that writes and frees no page
pub record TouchesNone (edit : PageEdit) : Type 0 where
  pub unwritten : edit.writes.items ≡ []
  pub unfreed : edit.freed.items ≡ []

-- no number is taken, and what the edit writes spells nodes of the order, if it did before
pub record TakesNone {A F : Type 0} (k : ℕ) (old : PageEdit) (answer : Result A F) (new : PageEdit) : Type 0 where
  pub spelt : AreSpelt k old.writes.items → OnOk answer (AreSpelt k new.writes.items)
  pub taken : new.taken ≡ old.taken
