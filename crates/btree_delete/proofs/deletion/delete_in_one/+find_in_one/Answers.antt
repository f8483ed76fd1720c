use Rattle.std.proofs.Common.{◌≡◌, ◌-◌, ◌<◌, ℕ, suc, IsTrue, List, Some, IfSome, [], ◌∷◌, length, refl, ap, sym, ◌∙◌, subst, arith}
use Rattle.std.specs.List.{remove}
use Rattle.page_store.specs.ChangedPage.{BecomesAt}
use Rattle.page_store.specs.PageMap.{at, write_page}
use Rattle.btree_node.specs.declared.node.Node.{Node}
use Rattle.btree_node.specs.declared.node.NodeKind.TheVariants.{Leaf}
use Rattle.btree_node.specs.declared.page_change.PageChange.TheVariants.{Remove}
use Rattle.btree_node.specs.Lists.{Element}
use Rattle.btree_node.specs.Spelling.{spelling, CanStand, IsSpelt}
use Rattle.btree_node.specs.Written.{with_elements}
use Rattle.btree_node.proofs.SpeltPageLemmas.{count_spelt}
use Rattle.btree_insert.specs.Bounds.{Between}
use Rattle.btree_insert.specs.PageTrees.{TreeAt, Spells, kind_of_level}
use Rattle.btree_insert.specs.Reached.{Leads}
use Rattle.btree_insert.specs.declared.step.Step.TheVariants.{Found}
use Rattle.btree_insert.specs.Steps.{Steps}
use Rattle.btree_insert.proofs.SearchStepLemmas.{goes_leads}
use Rattle.btree_insert.proofs.VisitedLemmas.{apart_below}
use Rattle.btree_insert.proofs.SettledTreeLemmas.{focus_of}
use Rattle.btree_insert.proofs.HeadNodeLemmas.{Top}
use Rattle.btree_insert.proofs.StepNodeLemmas.{spelt_top}
use Rattle.btree_insert.proofs.OnePageLemmas.{can_change, from_some, if_some}
use Rattle.btree_delete.specs.declared.deletion.delete_in_one.Taken.{Taken}
use Rattle.btree_delete.specs.Shrinking.{Drops, Whole}
use Rattle.btree_delete.specs.Subtrees.{head_page}
use Rattle.btree_delete.specs.PagesLeft.{with_page}
use Rattle.btree_delete.proofs.OneDeletionLemmas.{drop_one, drop_son, leaf_less}
use Rattle.btree_delete.proofs.deletion.delete_in_one.+find_in_one.Given as given
use Rattle.btree_delete.proofs.deletion.delete_in_one.+find_in_one.Goals as goal
use Rattle.btree_delete.proofs.deletion.delete_in_one.+find_in_one.Goals.{In-Some, In-Found}

-- the node that the page at the spot spells, and that it is the one at the head of the tree
module _ (g : given.Over) (t : ℕ) (c : In-Some g t) where
  spelt : IsSpelt c.args.order c.in-Some.page.now
  spelt = c.in-Some.ensures.spelt

  head_of : IsTrue c.args.pages.now.steady → (least : ℕ) (es : List Element) (us : List ℕ) → TreeAt c.args.order (at c.args.pages.now.pages) least c.args.spot.now.level c.args.spot.now.page es us → Between c.args.spot.now.bounds es
      → Top c.args.order (at c.args.pages.now.pages) least c.args.spot.now.level (c.args.spot.now.level - 1) c.args.spot.now.page es us c.args.spot.now.bounds spelt.0
  head_of steady least es us tree between =
      spelt_top c.args.order (at c.args.pages.now.pages) least c.args.spot.now es us spelt.0 c.requires.order.1 c.requires.search.level (record { page = c.in-Some.ensures.page steady ∙ ap Some spelt.2; stands = spelt.1 }) tree between

-- the leaf without the key
module _ (g : given.Over) (t : ℕ) (c : In-Found g t) (n : Node) (can : CanStand n c.args.order) (is : c.in-Some.page.now ≡ spelling n c.args.order) where
  found : Steps c.args.spot.now.level n c.args.spot.now.bounds c.args.key.now (Found c.in-Found.i c.in-Found.old)
  found = subst (Steps c.args.spot.now.level n c.args.spot.now.bounds c.args.key.now) c.in-Found.is (c.in-Ok.ensures.steps n can is).1

  abbrev shorter : Node
  shorter = with_elements n (remove n.elements.items c.in-Found.i)

  leaf_kind : c.args.spot.now.level ≡ 1 → n.kind ≡ Leaf
  leaf_kind lowest = (c.in-Ok.ensures.steps n can is).0.kind ∙ ap kind_of_level lowest

  shorter_stands : c.args.spot.now.level ≡ 1 → c.args.order < length n.elements.items → CanStand shorter c.args.order
  shorter_stands lowest spare =
      leaf_less c.args.order n shorter c.in-Found.i can (leaf_kind lowest) found.0.within (omega (arith, spare, c.requires.order.0)) refl refl refl

pub returns-else-count_in-order-clause-drops : goal.returns-else-count_in-order-clause-drops
returns-else-count_in-order-clause-drops g t c = λ steady least es us low tree between apart page becomes.
    let k = c.args.order in
    let spot = c.args.spot.now in
    let P = at c.args.pages.now.pages in
    let places = goal.at.returns-else-count_in-order-clause-drops g t c in
    let met = spelt g t places.In-Some in
    let n = met.0 in
    let steps = found g t places.In-Found n met.1 met.2 in
    let head = head_of g t places.In-Some steady least es us tree between in
    let level_is : spot.level ≡ 1 = omega (arith, c.requires.search.level, c.if-spot-gt1.false) in
    let spare : k < length n.elements.items = omega (arith, c.if-count_in-order.false, c.count_in.ensures.node k n c.requires.order.1 met.1 met.2) in
    let m = shorter g t places.In-Found n met.1 met.2 in
    let made : page ≡ spelling m k = becomes c.in-Some.page.now (c.in-Some.ensures.page steady) n met.1 met.2 in
    drop_one k P [] ((spot.page, page) ∷ []) [] least spot.level (spot.level - 1) spot.page es us spot.bounds n c.in-Found.i c.args.key.now c.in-Found.old level_is (omega (arith, level_is)) c.requires.order.0 low
    refl refl apart between head met.1 steps.0 spare
    (record {
      node = m;
      stands = shorter_stands g t places.In-Found n met.1 met.2 level_is spare;
      kind = refl;
      elements = refl;
      sons = refl;
      written = ap (λ (bytes : List ℕ). (spot.page, bytes) ∷ []) made;
    }) (steps.1 ([], []))

pub returns-else-count_in-order-clause-change : goal.returns-else-count_in-order-clause-change
returns-else-count_in-order-clause-change g t c =
    let k = c.args.order in
    let places = goal.at.returns-else-count_in-order-clause-change g t c in
    let met = spelt g t places.In-Some in
    let n = met.0 in
    let steps = found g t places.In-Found n met.1 met.2 in
    let level_is : c.args.spot.now.level ≡ 1 = omega (arith, c.requires.search.level, c.if-spot-gt1.false) in
    let spare : k < length n.elements.items = omega (arith, c.if-count_in-order.false, c.count_in.ensures.node k n c.requires.order.1 met.1 met.2) in
    can_change k c.args.pages.now c.args.spot.now.page (Remove c.in-Found.i) c.in-Some.page.now c.in-Some.ensures.in_memory
    ((c.requires.order.1, met), omega (arith, count_spelt k c.in-Some.page.now n c.requires.order.1 met.1 met.2, steps.0.within))
    (λ page becomes. (shorter g t places.In-Found n met.1 met.2, shorter_stands g t places.In-Found n met.1 met.2 level_is spare, becomes n met.1 met.2))

pub returns-in-Goes-clause-drops : goal.returns-in-Goes-clause-drops
returns-in-Goes-clause-drops g t c = λ steady least es us low tree between apart.
    let k = c.args.order in
    let spot = c.args.spot.now in
    let P = at c.args.pages.now.pages in
    let place = (goal.at.returns-in-Goes-clause-drops g t c).In-Some in
    let met = spelt g t place in
    let n = met.0 in
    let i = c.in-Goes.field-0 in
    let key = c.args.key.now in
    let told = c.in-Ok.ensures.steps n met.1 met.2 in
    let steps = subst (Steps spot.level n spot.bounds key) c.in-Goes.is told.1 in
    let levels = spot.level - 1 - 1 in
    let two : spot.level - 1 ≡ suc levels = omega (arith, steps.0) in
    let head = subst (λ (x : ℕ). Top k P least spot.level x spot.page es us spot.bounds n) two (head_of g t place steady least es us tree between) in
    from_some c.find_in_one.result (Makes (spot.level - 1) least spot.page es us)
    (λ taken some page becomes.
    let son = focus_of k P (write_page P taken.page page) (suc levels) n es head.below key i spot.bounds (omega arith) head.body between steps.1 in
    let us_is = head.us_is ∙ ap (λ vs. spot.page ∷ vs) son.us_is in
    let here = subst (λ (x : ℕ). TreeAt k P k x c.in-Goes.son son.xs son.mine) (sym two) (subst (λ (q : ℕ). TreeAt k P k (suc levels) q son.xs son.mine) (sym steps.2) son.here) in
    let call = c.find_in_one.ensures.drops steady k son.xs son.mine (omega arith) here (subst (λ b. Between b son.xs) (sym steps.3) son.between) (apart_below spot.page us son.upre son.mine son.upost us_is apart) in
    let drops = subst (λ o. IfSome o (Makes levels k c.in-Goes.son son.xs son.mine)) some call page becomes in
    subst (λ (h : ℕ). Drops (head_page k least h spot.page) (with_page P taken.page page) es us key (Some (Whole (key, taken.old)))) (sym two)
    (drop_son k P ((taken.page, page) ∷ []) [] least spot.level levels spot.page es us spot.bounds n i (key, taken.old) key apart head son
    (subst (λ (q : ℕ). Drops (head_page k k levels q) (with_page P taken.page page) son.xs son.mine key (Some (Whole (key, taken.old)))) steps.2 drops)))
  where
    Makes : ℕ → ℕ → ℕ → List Element → List ℕ → Taken → Type 0
    Makes h least page es us taken =
        (bytes : List ℕ) → BecomesAt c.args.order taken.page (Remove taken.place) c.args.pages.now.pages bytes
        → Drops (head_page c.args.order least h page) (with_page (at c.args.pages.now.pages) taken.page bytes) es us c.args.key.now (Some (Whole (c.args.key.now, taken.old)))

pub returns-in-Goes-clause-led : goal.returns-in-Goes-clause-led
returns-in-Goes-clause-led g t c = λ steady.
    let spot = c.args.spot.now in
    let P = at c.args.pages.now.pages in
    let key = c.args.key.now in
    let met = spelt g t (goal.at.returns-in-Goes-clause-led g t c).In-Some in
    let told = c.in-Ok.ensures.steps met.0 met.1 met.2 in
    let Below : Taken → Type 0 = λ taken. Leads (Spells c.args.order P) key (spot.level - 1) c.in-Goes.son c.in-Goes.bounds (Some taken.old) in
    let Here : Taken → Type 0 = λ taken. Leads (Spells c.args.order P) key spot.level spot.page spot.bounds (Some taken.old) in
    if_some c.find_in_one.result Below Here (λ taken leads. goes_leads c.args.order P P spot met.0 key c.in-Goes.field-0 c.in-Goes.son c.in-Goes.bounds (Some taken.old) refl
    (record { page = c.in-Some.ensures.page steady ∙ ap Some met.2; stands = met.1 }) told.0 (subst (Steps spot.level met.0 spot.bounds key) c.in-Goes.is told.1) leads) (c.find_in_one.ensures.led steady)
