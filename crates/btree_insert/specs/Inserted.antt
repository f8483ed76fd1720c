-- What an insertion into a tree comes to.
use Rattle.std.specs.Prelude.{◌≡◌, ℕ, ◌+◌, ◌-◌, ◌≤◌, List, [], ◌∷◌, length, Option, Some, Result, true, IsTrue, IfOk, OnOk, MatchResult}
use Rattle.page_store.specs.PageMap.{PageMap, at}
use Rattle.page_store.specs.PagesView.{PagesView}
use Rattle.page_store.specs.FreeNumbers.{count_after, greatest_page_count}
use Rattle.btree_node.specs.declared.node.Node.{Node}
use Rattle.btree_node.specs.declared.node.NodeKind.TheVariants.{Leaf, Inner}
use Rattle.btree_node.specs.Lists.{Element}
use Rattle.page_store.specs.declared.page_edit.PageEdit.{PageEdit}
use Rattle.btree_insert.specs.declared.inserting.Changed.{Changed}
use Rattle.btree_insert.specs.declared.tree.Tree.{Tree}
use Rattle.btree_insert.specs.declared.tree.TreeFault.{TreeFault}
use Rattle.btree_insert.specs.declared.tree.TreeFault.TheVariants.{Device, Damaged, Memory}
use Rattle.btree_insert.specs.Contents.{lookup_in, set_in}
use Rattle.btree_insert.specs.PagesGrown.{PagesGrown, PagesChange, edited, taking}
use Rattle.btree_insert.specs.PageTrees.{Spells, Holds}
use Rattle.btree_insert.specs.Reached.{LeadsFrom}
use Rattle.btree_insert.specs.Spelt.{AreSpeltIn}
use Rattle.btree_insert.specs.Edits.{Reads, Stages, WritesAndTakes}
use Rattle.btree_insert.specs.Growth.{IsNotOfPages}
use Rattle.btree_insert.specs.Sizes.{greatest_height, greatest_size, IsNext}

-- a leaf with one element
abbrev pub leaf_of : Element → Node
leaf_of e = record { kind = Leaf; elements = record { items = e ∷ [] }; sons = record { items = [] } }

-- an inner node with one element between two sons
abbrev pub root_of : ℕ → Element → ℕ → Node
root_of left middle right = record { kind = Inner; elements = record { items = middle ∷ [] }; sons = record { items = left ∷ (right ∷ []) } }

-- the old pages held a tree with the elements es; the new pages hold the next tree, with the record at the key, made of the old tree's pages and some new ones. Answered are the next tree and what stood at the key.
pub record Inserted (change : PagesChange) (tree : Tree) (es : List Element) (us : List ℕ) (key value : List ℕ) (answered : Tree × Option (List ℕ)) : Type 0 where
  pub vs : List ℕ
  pub holds : Holds change.new answered.0 (set_in key (Some value) es) vs
  pub answer : answered.1 ≡ lookup_in key es
  pub order : answered.0.order ≡ tree.order
  pub kept : PagesGrown change.old change.new change.fresh change.lo change.hi us vs

-- a tree and a page count within the limits of a file
pub record IsSmall (tree : Tree) (page_count : ℕ) : Type 0 where
  pub height : tree.height ≤ greatest_height
  pub count : tree.count ≤ greatest_size
  pub used : tree.used ≤ greatest_size
  pub pages : page_count ≤ greatest_page_count

-- a fault from outside, or the tree with the record at the key would pass a limit
abbrev pub IsRefused : List (Option (List ℕ)) → Tree → List Element → List ℕ → List ℕ → List ℕ → TreeFault → Type 0
IsRefused pages tree es us key value Device = Unit {0}
IsRefused pages tree es us key value (Damaged page) =
    (new : PageMap) × (taken : ℕ) × (answered : Tree × Option (List ℕ)) × Inserted (taking pages new taken) tree es us key value answered × (IsSmall answered.0 (count_after pages taken) → ⊥)
IsRefused pages tree es us key value Memory = Unit {0}

-- an insertion that is collected in an edit: a tree that a steady store holds becomes, by what the edit writes, the tree with the element, and over any pages the answer is what they led to. Each number that is taken is written, and the next tree counts it.
pub record GrowsTree (tree : Tree) (element : Element) (old : PagesView) (before : PageEdit) (answer : Result Changed TreeFault) (new : PagesView) (after : PageEdit) : Type 0 where
  pub grew : IsTrue old.steady → (es : List Element) (us : List ℕ) → Holds (at old.pages) tree es us → MatchResult answer (λ changed. Inserted (edited old.pages 0 after) tree es us element.0 element.1 (changed.tree, changed.old)) IsNotOfPages
  pub led : IsTrue old.steady → IfOk answer (λ changed. LeadsFrom (Spells tree.order (at old.pages)) element.0 tree.height tree.root changed.old)
  pub edit : WritesAndTakes tree.order old.pages before answer after
  pub few : OnOk answer (after.taken ≤ greatest_height + 1)
  pub next : IfOk answer (λ changed. IsNext tree after.taken changed.tree)
  pub reading : Reads tree.height old answer new

-- an insertion: a tree that a steady store holds becomes the tree with the record, or it is refused, and over any pages the answer is what they led to. The next tree is within the limits, and has the free pages first for its new ones; after a fault no page has changed.
pub record Inserts (tree : Tree) (key value : List ℕ) (old : PagesView) (answer : Result (Tree × Option (List ℕ)) TreeFault) (new : PagesView) : Type 0 where
  pub inserted : IsTrue old.steady → (es : List Element) (us : List ℕ) → Holds (at old.pages) tree es us → MatchResult answer (λ r. (taken : ℕ) × Inserted (taking old.pages (at new.pages) taken) tree es us key value r) (IsRefused old.pages tree es us key value)
  pub led : IsTrue old.steady → IfOk answer (λ r. LeadsFrom (Spells tree.order (at old.pages)) key tree.height tree.root r.1)
  pub small : IfOk answer (λ r. IsSmall r.0 (length new.pages))
  pub page_count : IfOk answer (λ r. (tree.used ≤ r.0.used) × (length new.pages ≡ count_after old.pages (r.0.used - tree.used)))
  pub changed : OnOk answer (new.changed ≡ true)
  pub order : IfOk answer (λ r. r.0.order ≡ tree.order)
  pub spelt : AreSpeltIn tree.order old → AreSpeltIn tree.order new
  pub stages : Stages tree.height old answer new
