-- The node that a step of a search was taken from.
use Rattle.std.proofs.Common.{◌≡◌, ℕ, ◌-◌, ◌<◌, ◌≤◌, Bool, IsTrue, List, refl, ap, sym, ◌∙◌, subst, arith}
use Rattle.page_store.specs.PageMap.{PageMap, at}
use Rattle.page_store.specs.PagesView.{PagesView, OnlyReads}
use Rattle.btree_node.specs.declared.node.Node.{Node}
use Rattle.btree_node.specs.Layout.{second_layout}
use Rattle.btree_node.specs.Lists.{Element}
use Rattle.btree_node.specs.Reading.{node_at}
use Rattle.btree_node.specs.Spelling.{spelling, CanStand}
use Rattle.btree_node.proofs.DecodeLemmas.{same_node}
use Rattle.btree_insert.specs.declared.step.Spot.{Spot}
use Rattle.btree_insert.specs.declared.step.Step.{Step}
use Rattle.btree_insert.specs.Bounds.{Between}
use Rattle.btree_insert.specs.PageTrees.{Spells, TreeAt}
use Rattle.btree_insert.specs.Steps.{IsKnown, Stepped}
use Rattle.btree_insert.proofs.HeadNodeLemmas.{Top, top}
use Rattle.btree_insert.proofs.SpeltLemmas.{bytes_of}

-- what is known of a page after calls that changed none
pub still_known : (k : ℕ) (old new : PagesView) (p : ℕ) (in_place : Bool) (read : List ℕ) (n : Node) → OnlyReads old new → IsKnown k old p in_place read n → IsKnown k new p in_place read n
still_known k old new p in_place read n same known =
    subst (λ (v : PagesView). IsKnown k v p in_place read n) (sym same) (record { stands = known.stands; lies = known.lies; was_read = known.was_read })

-- a page spells one node
pub spelt_one : (k : ℕ) (page : List ℕ) (n m : Node) → k ≤ 16 → CanStand n k → page ≡ spelling n k → CanStand m k → page ≡ spelling m k → n ≡ m
spelt_one k page n m small stands here stands2 there =
    sym (same_node second_layout k page n (node_at second_layout k page) small stands here refl) ∙ same_node second_layout k page m (node_at second_layout k page) small stands2 there refl

spells_one : (k : ℕ) (pages : PageMap) (p : ℕ) (n m : Node) → k ≤ 16 → Spells k pages p n → Spells k pages p m → n ≡ m
spells_one k pages p n m small here there =
    spelt_one k (spelling n k) n m small here.stands refl there.stands (ap bytes_of (sym here.page ∙ there.page))

-- a node that the page spells is the head of the tree
pub spelt_top : (k : ℕ) (pages : PageMap) (least : ℕ) (spot : Spot) (es : List Element) (us : List ℕ) (n : Node) → k ≤ 16 → 0 < spot.level → Spells k pages spot.page n → TreeAt k pages least spot.level spot.page es us → Between spot.bounds es
    → Top k pages least spot.level (spot.level - 1) spot.page es us spot.bounds n
spelt_top k pages least spot es us n small some spells tree between =
    let head = top k pages least spot.level (spot.level - 1) spot.page es us spot.bounds (omega (arith, some)) tree between in
    subst (Top k pages least spot.level (spot.level - 1) spot.page es us spot.bounds) (spells_one k pages spot.page head.0 n small head.1.spells spells) head.1

-- the node of the step is the head of the tree
pub taken_top : (k : ℕ) (pages : PagesView) (least : ℕ) (spot : Spot) (es : List Element) (us : List ℕ) (key : List ℕ) (in_place : Bool) (read : List ℕ) (step : Step) → k ≤ 16 → 0 < spot.level → IsTrue pages.steady
    → (s : Stepped k pages spot key in_place read step) → TreeAt k (at pages.pages) least spot.level spot.page es us → Between spot.bounds es → Top k (at pages.pages) least spot.level (spot.level - 1) spot.page es us spot.bounds s.node
taken_top k pages least spot es us key in_place read step small some steady s tree between =
    spelt_top k (at pages.pages) least spot es us s.node small some (s.spells steady) tree between
