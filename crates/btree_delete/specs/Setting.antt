-- What a change of one record does to the tree of a table and to its pages.
use Rattle.std.specs.Prelude.{◌≡◌, ◌≢◌, ◌⊎◌, ℕ, ◌+◌, ◌-◌, ◌*◌, ◌<◌, ◌≤◌, true, List, Option, None, Result, Ok, IsTrue, IsOk, IsSome, OnErr}
use Rattle.page_store.specs.PagesView.{OnlyReads, OnlyStages}
use Rattle.rec_types.specs.declared.table.TableFault.{TableFault}
use Rattle.btree_delete.specs.TableView.{TableView, HoldsTree}

-- The pages hold the tree still, which has its order. An edit was staged where a record was put or taken out; nothing was where there was none to take out, or a fault came.
pub record ChangesTree (to : Option (List ℕ)) (old : TableView) (answer : Result (Option (List ℕ)) TableFault) (new : TableView) : Type 0 where
  pub in_class : IsTrue old.pages.steady → HoldsTree new.pages new.tree
  pub order : new.tree.order ≡ old.tree.order
  pub store : OnlyStages old.pages new.pages
  pub staged : IsOk answer → (IsSome to ⊎ (answer ≢ Ok None)) → new.pages.changed ≡ true
  pub nothing_staged : to ≡ None → answer ≡ Ok None → (new.tree ≡ old.tree) × (new.pages.pages ≡ old.pages.pages) × (new.pages.changed ≡ old.pages.changed)
  pub refused : OnErr answer ((new.tree ≡ old.tree) × OnlyReads old.pages new.pages)

-- at most two reads a level; one a level for a put where there is room, and no second one of the root for a taking out
pub record ReadsByLevel (to : Option (List ℕ)) (old new : TableView) : Type 0 where
  pub one_descent : IsSome to → old.tree.count < old.limit → new.pages.reads ≤ old.pages.reads + old.tree.height
  pub taking_reads : to ≡ None → new.pages.reads ≤ old.pages.reads + (2 * old.tree.height - 1)
  pub most : new.pages.reads ≤ old.pages.reads + 2 * old.tree.height
