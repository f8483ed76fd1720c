-- What a deletion from a tree comes to.
use Rattle.std.specs.Prelude.{◌≡◌, ℕ, ◌-◌, ◌*◌, ◌≤◌, List, length, Option, None, Result, true, IsTrue, IsSome, IfOk, MatchResult}
use Rattle.page_store.specs.PageMap.{PageMap, at}
use Rattle.page_store.specs.PagesView.{PagesView}
use Rattle.btree_node.specs.Lists.{Element}
use Rattle.btree_insert.specs.declared.tree.Tree.{Tree}
use Rattle.btree_insert.specs.declared.tree.TreeFault.{TreeFault}
use Rattle.btree_insert.specs.declared.tree.TreeFault.TheVariants.{Device, Damaged, Memory}
use Rattle.btree_insert.specs.Contents.{lookup_in, set_in}
use Rattle.btree_insert.specs.PageTrees.{Spells, Holds}
use Rattle.btree_insert.specs.Reached.{LeadsFrom}
use Rattle.btree_insert.specs.Spelt.{AreSpeltIn}
use Rattle.btree_insert.specs.Edits.{Stages}
use Rattle.btree_delete.specs.PagesLeft.{PagesLeft}

-- the old pages held a tree with the elements es; the new pages hold the next tree, without the key, made of some of the old tree's pages. Answered are the next tree and what stood at the key.
pub record Deleted (old new : PageMap) (tree : Tree) (es : List Element) (us : List ℕ) (key : List ℕ) (answered : Tree × Option (List ℕ)) : Type 0 where
  pub vs : List ℕ
  pub holds : Holds new answered.0 (set_in key None es) vs
  pub answer : answered.1 ≡ lookup_in key es
  pub order : answered.0.order ≡ tree.order
  pub left : PagesLeft old new us vs

-- a tree of the same order that is no larger
pub record IsNoLarger (tree next : Tree) : Type 0 where
  pub order : next.order ≡ tree.order
  pub height : next.height ≤ tree.height
  pub count : next.count ≤ tree.count
  pub used : next.used ≤ tree.used

-- why a key wasn't taken out, given what stands at it: the device failed, or memory was refused; for an absent key none is asked for
abbrev pub MayStop : Option (List ℕ) → TreeFault → Type 0
MayStop stood Device = Unit {0}
MayStop stood (Damaged page) = ⊥
MayStop stood Memory = IsSome stood

-- a deletion: a tree that a steady store holds becomes the tree without the key, or it stops, and over any pages the answer is what they led to. The next tree is no larger, and uses no new page; for an absent key nothing changes, and after a fault no page has changed.
pub record Deletes (tree : Tree) (key : List ℕ) (old : PagesView) (answer : Result (Tree × Option (List ℕ)) TreeFault) (new : PagesView) : Type 0 where
  pub deleted : IsTrue old.steady → (es : List Element) (us : List ℕ) → Holds (at old.pages) tree es us → MatchResult answer (λ r. Deleted (at old.pages) (at new.pages) tree es us key r) (MayStop (lookup_in key es))
  pub led : IsTrue old.steady → IfOk answer (λ r. LeadsFrom (Spells tree.order (at old.pages)) key tree.height tree.root r.1)
  pub smaller : IfOk answer (λ r. IsNoLarger tree r.0)
  pub spelt : AreSpeltIn tree.order old → AreSpeltIn tree.order new
  pub absent : IfOk answer (λ r. r.1 ≡ None → (r.0 ≡ tree) × (new.pages ≡ old.pages) × (new.changed ≡ old.changed))
  pub changed : IfOk answer (λ r. IsSome r.1 → new.changed ≡ true)
  pub page_count : length new.pages ≡ length old.pages
  pub stages : Stages (2 * tree.height - 1) old answer new
