-- The spot of a tree's root.
use Rattle.std.proofs.Common.{◌≡◌, ℕ, ◌-◌, ◌<◌, List, Option, sym, subst, arith}
use Rattle.page_store.specs.PageMap.{PageMap}
use Rattle.btree_node.specs.declared.node.Node.{Node}
use Rattle.btree_node.specs.Lists.{Element}
use Rattle.btree_insert.specs.declared.step.Spot.{Spot}
use Rattle.btree_insert.specs.declared.tree.Tree.{Tree}
use Rattle.btree_insert.specs.Bounds.{Between}
use Rattle.btree_insert.specs.PageTrees.{TreeAt, Holds}
use Rattle.btree_insert.specs.Reached.{Leads, LeadsFrom}
use Rattle.btree_insert.specs.Steps.{root_spot}
use Rattle.btree_insert.proofs.BoundLemmas.{Between-all}
use Rattle.btree_insert.proofs.HeadNodeLemmas.{root_tree}
use Rattle.btree_insert.proofs.ReachLemmas.{leads_from}

-- the tree stands below it
pub spot_tree : (spot : Spot) (tree : Tree) (pages : PageMap) (es : List Element) (us : List ℕ) → spot ≡ root_spot tree → 0 < tree.height → Holds pages tree es us → TreeAt tree.order pages 1 spot.level spot.page es us × Between spot.bounds es
spot_tree spot tree pages es us is some holds =
    subst (λ (s : Spot). TreeAt tree.order pages 1 s.level s.page es us × Between s.bounds es) (sym is)
    (root_tree tree.order pages tree.height tree.root es us some holds.tree, Between-all es holds.ascends)

-- the tree leads where it leads
pub spot_leads : (spells : ℕ → Node → Type 0) (key : List ℕ) (spot : Spot) (tree : Tree) (found : Option (List ℕ)) → spot ≡ root_spot tree → 0 < tree.height → Leads spells key spot.level spot.page spot.bounds found → LeadsFrom spells key tree.height tree.root found
spot_leads spells key spot tree found is some leads =
    leads_from spells key tree.height (tree.height - 1) tree.root found (omega (arith, some))
    (subst (λ (s : Spot). Leads spells key s.level s.page s.bounds found) is leads)
