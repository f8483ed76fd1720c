-- Where the key of a deletion leads.
use Rattle.std.proofs.Common.{◌≡◌, ℕ, suc, ◌-◌, ◌<◌, Option, Some, List, [], subst, ◌∙◌, ap, arith}
use Rattle.std.proofs.lemmas.List.{get_or_default}
use Rattle.page_store.specs.PageMap.{at}
use Rattle.btree_node.specs.declared.node.Node.{Node}
use Rattle.btree_node.specs.Lists.{Element, IsAt, IsPlace}
use Rattle.btree_insert.specs.PageTrees.{Spells}
use Rattle.btree_insert.specs.Reached.{Leads}
use Rattle.btree_insert.proofs.ReachLemmas.{leads_here, leads_on}
use Rattle.btree_delete.specs.declared.deletion.subtree.Subtree.{Subtree}
use Rattle.btree_delete.specs.Shrinking.{MayBeUnderfull}
use Rattle.btree_delete.specs.Subtrees.{son_tree}
use Rattle.btree_delete.specs.Treatment.{element_at}

-- the element that went stood in the node at the head of the tree
pub here_leads : (tree : Subtree) (pages : List (Option (List ℕ))) (n : Node) (key : List ℕ) (i : ℕ) (e : Element) → 0 < tree.height → Spells tree.order (at pages) tree.page n → MayBeUnderfull tree.order tree.height tree.bounds n
    → IsAt n.elements.items key i → e ≡ element_at n i → Leads (Spells tree.order (at pages)) key tree.height tree.page tree.bounds (Some e.1)
here_leads tree pages n key i e some spells stands place is =
    leads_here (Spells tree.order (at pages)) key tree.height (tree.height - 1) tree.page tree.bounds n i (Some e.1) (omega (arith, some)) spells stands.kind stands.within place
    (λ d. ap (λ (x : Element). Some x.1) (is ∙ get_or_default n.elements.items i ([], []) d place.within))

-- what a call says of a son, in the words of the caller
pub son_leads : (tree sub : Subtree) (pages pages2 : List (Option (List ℕ))) (n : Node) (key : List ℕ) (i : ℕ) (found found2 : Option (List ℕ)) → sub ≡ son_tree tree n i → pages2 ≡ pages → found ≡ found2 → 1 < tree.height
    → Spells tree.order (at pages) tree.page n → MayBeUnderfull tree.order tree.height tree.bounds n → IsPlace n.elements.items key i
    → Leads (Spells sub.order (at pages2)) key sub.height sub.page sub.bounds found → Leads (Spells tree.order (at pages)) key tree.height tree.page tree.bounds found2
son_leads tree sub pages pages2 n key i found found2 is pages_is found_is high spells stands place leads =
    let levels = tree.height - 1 - 1 in
    let two : tree.height - 1 ≡ suc levels = omega (arith, high) in
    let son = son_tree tree n i in
    leads_on (Spells tree.order (at pages)) key tree.height levels tree.page tree.bounds n i found2 (omega (arith, high)) spells stands.kind stands.within place
    (subst (λ (h : ℕ). Leads (Spells tree.order (at pages)) key h son.page son.bounds found2) two
    (subst (λ (f : Option (List ℕ)). Leads (Spells tree.order (at pages)) key son.height son.page son.bounds f) found_is
    (subst (λ (x : List (Option (List ℕ))). Leads (Spells tree.order (at x)) key son.height son.page son.bounds found) pages_is
    (subst (λ (s : Subtree). Leads (Spells s.order (at pages2)) key s.height s.page s.bounds found) is leads))))
