use Rattle.std.proofs.Common.{◌≡◌, ◌-◌, ◌*◌, ◌<◌, ℕ, List, Some, IsTrue, IfSome, Option, ◌∷◌, [], length, get_or, set, refl, ap, sym, ◌∙◌, subst, arith}
use Rattle.std.specs.List.{insert}
use Rattle.std.proofs.lemmas.List.{length-set, get_or_default}
use Rattle.std.proofs.lemmas.List.Edits.{length-insert}
use Rattle.page_store.specs.FreeNumbers.{candidate}
use Rattle.page_store.specs.PageMap.{at, write_page}
use Rattle.btree_node.specs.Lists.{Element}
use Rattle.btree_node.specs.Spelling.{spelling, CanStand, IsSpelt}
use Rattle.btree_node.specs.Written.{with_elements}
use Rattle.btree_node.specs.declared.node.Node.{Node}
use Rattle.btree_node.specs.declared.node.NodeKind.TheVariants.{Leaf}
use Rattle.btree_node.proofs.SpeltPageLemmas.{count_spelt}
use Rattle.page_store.specs.ChangedPage.{BecomesAt}
use Rattle.btree_node.specs.declared.page_change.PageChange.TheVariants.{Replace, Insert}
use Rattle.btree_insert.specs.declared.insert_below.Grown.TheVariants.{Replaced, Fits}
use Rattle.btree_insert.specs.declared.insert_in_one.Placed.{Placed}
use Rattle.btree_insert.specs.Bounds.{Between}
use Rattle.btree_insert.specs.Growth.{IsWithin, Grew, in_one, change_at}
use Rattle.btree_insert.specs.PageTrees.{Spells, TreeAt, kind_of_level, tree_below}
use Rattle.btree_insert.specs.Reached.{Leads}
use Rattle.btree_insert.specs.declared.step.Step.TheVariants.{Found, Ends}
use Rattle.btree_insert.specs.Steps.{Steps}
use Rattle.btree_insert.specs.PagesGrown.{written_over}
use Rattle.btree_insert.proofs.ChangedTreeLemmas.{in_use}
use Rattle.btree_insert.proofs.VisitedLemmas.{apart_below, candidates_free}
use Rattle.btree_insert.proofs.PlaceLemmas.{place_within, set_stands}
use Rattle.btree_insert.proofs.SettledTreeLemmas.{focus_of, grow_stays, grow_inserted, grow_replaced}
use Rattle.btree_insert.proofs.HeadNodeLemmas.{Top}
use Rattle.btree_insert.proofs.StepNodeLemmas.{spelt_top}
use Rattle.btree_insert.proofs.OnePageLemmas.{can_change, from_some, if_some, leaf_stands, never_split}
use Rattle.btree_insert.proofs.ReachLemmas.{leads_here, leads_nowhere}
use Rattle.btree_insert.proofs.SearchStepLemmas.{goes_leads}
use Rattle.btree_insert.proofs.insert_in_one.+place_in_one.Given as given
use Rattle.btree_insert.proofs.insert_in_one.+place_in_one.Goals as goal
use Rattle.btree_insert.proofs.insert_in_one.+place_in_one.Goals.{In-Some, In-Found, In-Ends}

-- the node that the page at the spot spells, and that it is the one at the head of the tree
module _ (g : given.Over) (t : ℕ) (c : In-Some g t) where
  spelt : IsSpelt c.args.order c.in-Some.page.now
  spelt = c.in-Some.ensures.spelt

  head_of : IsTrue c.args.pages.now.steady → (least : ℕ) (es : List Element) (us : List ℕ) → TreeAt c.args.order (at c.args.pages.now.pages) least c.args.spot.now.level c.args.spot.now.page es us → Between c.args.spot.now.bounds es
      → Top c.args.order (at c.args.pages.now.pages) least c.args.spot.now.level (c.args.spot.now.level - 1) c.args.spot.now.page es us c.args.spot.now.bounds spelt.0
  head_of steady least es us tree between =
      spelt_top c.args.order (at c.args.pages.now.pages) least c.args.spot.now es us spelt.0 c.requires.order.1 c.requires.search.level (record { page = c.in-Some.ensures.page steady ∙ ap Some spelt.2; stands = spelt.1 }) tree between

-- the node with another record at the key
module _ (g : given.Over) (t : ℕ) (c : In-Found g t) (n : Node) (can : CanStand n c.args.order) (is : c.in-Some.page.now ≡ spelling n c.args.order) where
  found : Steps c.args.spot.now.level n c.args.spot.now.bounds c.args.element.now.0 (Found c.in-Found.i c.in-Found.old)
  found = subst (Steps c.args.spot.now.level n c.args.spot.now.bounds c.args.element.now.0) c.in-Found.is (c.in-Ok.ensures.steps n can is).1

  abbrev replaced : Node
  replaced = with_elements n (set n.elements.items c.in-Found.i c.args.element.now)

  replaced_stands : CanStand replaced c.args.order
  replaced_stands = set_stands c.args.order n replaced c.in-Found.i c.args.element.now can found.0 c.requires.fits refl refl refl

-- the leaf with an element more
module _ (g : given.Over) (t : ℕ) (c : In-Ends g t) (n : Node) (can : CanStand n c.args.order) (is : c.in-Some.page.now ≡ spelling n c.args.order) where
  ends : Steps c.args.spot.now.level n c.args.spot.now.bounds c.args.element.now.0 (Ends c.in-Ends.i)
  ends = subst (Steps c.args.spot.now.level n c.args.spot.now.bounds c.args.element.now.0) c.in-Ends.is (c.in-Ok.ensures.steps n can is).1

  abbrev longer : Node
  longer = with_elements n (insert n.elements.items c.in-Ends.i c.args.element.now)

  leaf_kind : n.kind ≡ Leaf
  leaf_kind = (c.in-Ok.ensures.steps n can is).0.kind ∙ ap kind_of_level ends.0

pub place_in_one-requires : goal.place_in_one-requires
place_in_one-requires g t c = λ κs sub.
    let k = c.args.order in
    let spot = c.args.spot.now in
    let met = spelt g t (goal.at.place_in_one-requires g t c).In-Some in
    let n = met.0 in
    let told = c.in-Ok.ensures.steps n met.1 met.2 in
    let steps = subst (Steps spot.level n spot.bounds c.args.element.now.0) c.in-Goes.is told.1 in
    let inside = subst (λ b. IsWithin b c.args.element.now.0) (sym steps.3) (place_within n.elements.items c.in-Goes.field-0 spot.bounds c.args.element.now.0 c.requires.within steps.1) in (
      omega (arith, c.decreases, c.requires.search.level),
      (
        sub,
        record {
          order = c.requires.order;
          search = record {
            order = c.requires.search.order;
            level = omega (arith, steps.0);
            spelt = c.requires.search.spelt;
          };
          fits = c.requires.fits;
          within = inside;
        },
      ),
    )

pub returns-in-Found-clause-grew : goal.returns-in-Found-clause-grew
returns-in-Found-clause-grew g t c = λ steady least es us tree between apart page becomes.
    let k = c.args.order in
    let spot = c.args.spot.now in
    let places = goal.at.returns-in-Found-clause-grew g t c in
    let met = spelt g t places.In-Some in
    let n = met.0 in
    let steps = found g t places.In-Found n met.1 met.2 in
    let head = head_of g t places.In-Some steady least es us tree between in
    let m = replaced g t places.In-Found n met.1 met.2 in
    let x : Element = get_or n.elements.items c.in-Found.i c.args.element.now in
    let size = length-set n.elements.items c.in-Found.i c.args.element.now in
    let grew = grow_replaced k (at c.args.pages.now.pages) [] ((spot.page, spelling m k) ∷ []) (candidate c.args.pages.now.pages) 0 0 least spot.level (spot.level - 1) spot.page es us spot.bounds
    n m c.args.element.now.0 c.args.element.now.1 c.in-Found.i x (omega (arith, c.requires.search.level)) refl refl (candidates_free c.args.pages.now.pages) (in_use k (at c.args.pages.now.pages) least spot.level spot.page es us tree) apart head between.ascends steps.0
    (get_or_default n.elements.items c.in-Found.i c.args.element.now x steps.0.within) (replaced_stands g t places.In-Found n met.1 met.2) (omega (arith, size, head.least_is)) refl refl refl refl in
    subst (λ (bytes : List ℕ). Grew (tree_below k least spot.level spot.page) (written_over c.args.pages.now.pages spot.page bytes) es us c.args.element.now.0 c.args.element.now.1 (Replaced c.in-Found.old)) (sym (becomes c.in-Some.page.now (c.in-Some.ensures.page steady) n met.1 met.2))
    (subst (λ (old : List ℕ). Grew (tree_below k least spot.level spot.page) (written_over c.args.pages.now.pages spot.page (spelling m k)) es us c.args.element.now.0 c.args.element.now.1 (Replaced old)) (sym (steps.1 c.args.element.now)) grew)

pub returns-in-Found-clause-led : goal.returns-in-Found-clause-led
returns-in-Found-clause-led g t c = λ steady.
    let spot = c.args.spot.now in
    let places = goal.at.returns-in-Found-clause-led g t c in
    let met = spelt g t places.In-Some in
    let told = c.in-Ok.ensures.steps met.0 met.1 met.2 in
    let steps = found g t places.In-Found met.0 met.1 met.2 in
    leads_here (Spells c.args.order (at c.args.pages.now.pages)) c.args.element.now.0 spot.level (spot.level - 1) spot.page spot.bounds met.0 c.in-Found.i (Some c.in-Found.old) (omega (arith, c.requires.search.level))
    (record { page = c.in-Some.ensures.page steady ∙ ap Some met.2; stands = met.1 }) told.0.kind told.0.within steps.0 (λ d. ap Some (steps.1 d))

pub returns-in-Found-clause-change : goal.returns-in-Found-clause-change
returns-in-Found-clause-change g t c =
    let k = c.args.order in
    let places = goal.at.returns-in-Found-clause-change g t c in
    let met = spelt g t places.In-Some in
    let n = met.0 in
    let steps = found g t places.In-Found n met.1 met.2 in
    can_change k c.args.pages.now c.args.spot.now.page (Replace c.in-Found.i c.args.element.now) c.in-Some.page.now c.in-Some.ensures.in_memory
    ((c.requires.order.1, met), c.requires.fits, omega (arith, count_spelt k c.in-Some.page.now n c.requires.order.1 met.1 met.2, steps.0.within))
    (λ page becomes. (replaced g t places.In-Found n met.1 met.2, replaced_stands g t places.In-Found n met.1 met.2, becomes n met.1 met.2))

pub returns-else-count_in-order-clause-grew : goal.returns-else-count_in-order-clause-grew
returns-else-count_in-order-clause-grew g t c = λ steady least es us tree between apart page becomes.
    let k = c.args.order in
    let spot = c.args.spot.now in
    let places = goal.at.returns-else-count_in-order-clause-grew g t c in
    let met = spelt g t places.In-Some in
    let n = met.0 in
    let steps = ends g t places.In-Ends n met.1 met.2 in
    let head = head_of g t places.In-Some steady least es us tree between in
    let m = longer g t places.In-Ends n met.1 met.2 in
    let room : length n.elements.items < 2 * k = omega (arith, c.if-count_in-order.false, c.count_in.ensures.node k n c.requires.order.1 met.1 met.2) in
    let stands = leaf_stands k n m c.in-Ends.i c.args.element.now met.1 (leaf_kind g t places.In-Ends n met.1 met.2) steps.1 room c.requires.fits refl refl refl in
    let size = length-insert n.elements.items c.in-Ends.i c.args.element.now steps.1.within in
    let grew = grow_inserted k (at c.args.pages.now.pages) (candidate c.args.pages.now.pages) least spot.level (spot.level - 1) spot.page es us spot.bounds
    n m c.args.element.now.0 c.args.element.now.1 c.in-Ends.i (omega (arith, c.requires.search.level)) (omega (arith, steps.0)) (candidates_free c.args.pages.now.pages) (in_use k (at c.args.pages.now.pages) least spot.level spot.page es us tree) apart head steps.1
    stands (omega (arith, size, head.least_is)) refl refl in
    subst (λ (bytes : List ℕ). Grew (tree_below k least spot.level spot.page) (written_over c.args.pages.now.pages spot.page bytes) es us c.args.element.now.0 c.args.element.now.1 Fits) (sym (becomes c.in-Some.page.now (c.in-Some.ensures.page steady) n met.1 met.2)) grew

pub returns-else-count_in-order-clause-led : goal.returns-else-count_in-order-clause-led
returns-else-count_in-order-clause-led g t c = λ steady.
    let spot = c.args.spot.now in
    let places = goal.at.returns-else-count_in-order-clause-led g t c in
    let met = spelt g t places.In-Some in
    let told = c.in-Ok.ensures.steps met.0 met.1 met.2 in
    let steps = ends g t places.In-Ends met.0 met.1 met.2 in
    leads_nowhere (Spells c.args.order (at c.args.pages.now.pages)) c.args.element.now.0 spot.level spot.page spot.bounds met.0 c.in-Ends.i steps.0
    (record { page = c.in-Some.ensures.page steady ∙ ap Some met.2; stands = met.1 }) told.0.kind told.0.within steps.1

pub returns-else-count_in-order-clause-change : goal.returns-else-count_in-order-clause-change
returns-else-count_in-order-clause-change g t c =
    let k = c.args.order in
    let places = goal.at.returns-else-count_in-order-clause-change g t c in
    let met = spelt g t places.In-Some in
    let n = met.0 in
    let steps = ends g t places.In-Ends n met.1 met.2 in
    let m = longer g t places.In-Ends n met.1 met.2 in
    let count = count_spelt k c.in-Some.page.now n c.requires.order.1 met.1 met.2 in
    let room : length n.elements.items < 2 * k = omega (arith, c.if-count_in-order.false, c.count_in.ensures.node k n c.requires.order.1 met.1 met.2) in
    can_change k c.args.pages.now c.args.spot.now.page (Insert c.in-Ends.i c.args.element.now) c.in-Some.page.now c.in-Some.ensures.in_memory
    ((c.requires.order.1, met), c.requires.fits, omega (arith, count, steps.1.within), omega (arith, count, room))
    (λ page becomes. (m, leaf_stands k n m c.in-Ends.i c.args.element.now met.1 (leaf_kind g t places.In-Ends n met.1 met.2) steps.1 room c.requires.fits refl refl refl, becomes n met.1 met.2))

pub returns-in-Goes-clause-grew : goal.returns-in-Goes-clause-grew
returns-in-Goes-clause-grew g t c = λ steady least es us tree between apart.
    let k = c.args.order in
    let spot = c.args.spot.now in
    let pages = c.args.pages.now.pages in
    let place = (goal.at.returns-in-Goes-clause-grew g t c).In-Some in
    let met = spelt g t place in
    let n = met.0 in
    let told = c.in-Ok.ensures.steps n met.1 met.2 in
    let steps = subst (Steps spot.level n spot.bounds c.args.element.now.0) c.in-Goes.is told.1 in
    let head = head_of g t place steady least es us tree between in
    from_some c.place_in_one.result (Makes k pages least spot.level spot.page es us)
    (λ placed some page becomes.
    let new = write_page (at pages) placed.page page in
    let son = focus_of k (at pages) new (spot.level - 1) n es head.below c.args.element.now.0 c.in-Goes.field-0 spot.bounds (omega (arith, steps.0)) head.body between steps.1 in
    let us_is = head.us_is ∙ ap (λ vs. spot.page ∷ vs) son.us_is in
    let here = subst (λ q. TreeAt k (at pages) k (spot.level - 1) q son.xs son.mine) (sym steps.2) son.here in
    let call = c.place_in_one.ensures.grew steady k son.xs son.mine here (subst (λ b. Between b son.xs) (sym steps.3) son.between) (apart_below spot.page us son.upre son.mine son.upost us_is apart) in
    let grew = subst (λ o. IfSome o (Makes k pages k (spot.level - 1) c.in-Goes.son son.xs son.mine)) some call page becomes in
    grow_stays k (at pages) new (candidate pages) 0 0 least spot.level (spot.level - 1) spot.page es us spot.bounds n c.args.element.now.0 c.args.element.now.1 c.in-Goes.field-0 (in_one placed.old)
    (omega (arith, c.requires.search.level)) (omega (arith, steps.0)) (candidates_free pages) (in_use k (at pages) least spot.level spot.page es us tree) apart head son (never_split placed.old)
    (subst (λ q. Grew (tree_below k k (spot.level - 1) q) (written_over pages placed.page page) son.xs son.mine c.args.element.now.0 c.args.element.now.1 (in_one placed.old)) steps.2 grew))
  where
    Makes : ℕ → List (Option (List ℕ)) → ℕ → ℕ → ℕ → List Element → List ℕ → Placed → Type 0
    Makes k pages least level head es us placed =
        (page : List ℕ) → BecomesAt k placed.page (change_at placed.place placed.old c.args.element.now) pages page
        → Grew (tree_below k least level head) (written_over pages placed.page page) es us c.args.element.now.0 c.args.element.now.1 (in_one placed.old)

pub returns-in-Goes-clause-led : goal.returns-in-Goes-clause-led
returns-in-Goes-clause-led g t c = λ steady.
    let k = c.args.order in
    let spot = c.args.spot.now in
    let pages = at c.args.pages.now.pages in
    let met = spelt g t (goal.at.returns-in-Goes-clause-led g t c).In-Some in
    let told = c.in-Ok.ensures.steps met.0 met.1 met.2 in
    let steps = subst (Steps spot.level met.0 spot.bounds c.args.element.now.0) c.in-Goes.is told.1 in
    if_some c.place_in_one.result (λ (placed : Placed). Leads (Spells k pages) c.args.element.now.0 (spot.level - 1) c.in-Goes.son c.in-Goes.bounds placed.old)
    (λ (placed : Placed). Leads (Spells k pages) c.args.element.now.0 spot.level spot.page spot.bounds placed.old)
    (λ placed leads. goes_leads k pages pages spot met.0 c.args.element.now.0 c.in-Goes.field-0 c.in-Goes.son c.in-Goes.bounds placed.old refl (record { page = c.in-Some.ensures.page steady ∙ ap Some met.2; stands = met.1 }) told.0 steps leads) (c.place_in_one.ensures.led steady)
