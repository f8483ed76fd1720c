-- What a look-up of a key answers.
use Rattle.std.specs.Prelude.{◌≡◌, ℕ, List, Option, Result, IsTrue, IfOk, MatchResult}
use Rattle.page_store.specs.PageMap.{at}
use Rattle.page_store.specs.PagesView.{PagesView}
use Rattle.btree_node.specs.Lists.{Element}
use Rattle.btree_insert.specs.declared.step.Spot.{Spot}
use Rattle.btree_insert.specs.declared.tree.Tree.{Tree}
use Rattle.btree_insert.specs.declared.tree.TreeFault.{TreeFault}
use Rattle.btree_insert.specs.declared.tree.TreeFault.TheVariants.{Device}
use Rattle.btree_insert.specs.Bounds.{Between}
use Rattle.btree_insert.specs.Contents.{lookup_in}
use Rattle.btree_insert.specs.Edits.{Looks}
use Rattle.btree_insert.specs.PageTrees.{Spells, TreeAt, Holds}
use Rattle.btree_insert.specs.Reached.{Leads, LeadsFrom}

-- the answer is what stands there, or that a read of the store failed
abbrev pub IsFound : Option (List ℕ) → Result (Option (List ℕ)) TreeFault → Type 0
IsFound stands answer = MatchResult answer (λ found. found ≡ stands) (λ fault. fault ≡ Device)

-- a look-up of a key below a spot: of a tree that a steady store holds it answers what stands at the key, and over any pages what they lead to. It reads at most one page a level, and asks for no memory.
pub record LooksUpBelow (k : ℕ) (spot : Spot) (key : List ℕ) (old : PagesView) (answer : Result (Option (List ℕ)) TreeFault) (new : PagesView) : Type 0 where
  pub found : IsTrue old.steady → (least : ℕ) (es : List Element) (us : List ℕ) → TreeAt k (at old.pages) least spot.level spot.page es us → Between spot.bounds es → IsFound (lookup_in key es) answer
  pub led : IsTrue old.steady → IfOk answer (Leads (Spells k (at old.pages)) key spot.level spot.page spot.bounds)
  pub leads : IsTrue old.steady → (stands : Option (List ℕ)) → Leads (Spells k (at old.pages)) key spot.level spot.page spot.bounds stands → IsFound stands answer
  pub reading : Looks spot.level old answer new

-- the same from the root of a tree
pub record LooksUp (tree : Tree) (key : List ℕ) (old : PagesView) (answer : Result (Option (List ℕ)) TreeFault) (new : PagesView) : Type 0 where
  pub found : IsTrue old.steady → (es : List Element) (us : List ℕ) → Holds (at old.pages) tree es us → IsFound (lookup_in key es) answer
  pub led : IsTrue old.steady → IfOk answer (LeadsFrom (Spells tree.order (at old.pages)) key tree.height tree.root)
  pub leads : IsTrue old.steady → (stands : Option (List ℕ)) → LeadsFrom (Spells tree.order (at old.pages)) key tree.height tree.root stands → IsFound stands answer
  pub reading : Looks tree.height old answer new
