use Rattle.std.proofs.Common.{◌≡◌, ◌-◌, ℕ, IsTrue, Ok, Option, Some, None, List, ◌∷◌, true, false, ◌==◌, length, get_or, refl, ap, sym, ◌∙◌, subst, arith, rules}
use Rattle.std.specs.List.{insert}
use Rattle.std.proofs.lemmas.Bool.{false≢true}
use Rattle.std.proofs.lemmas.List.{length-set, get_or_default}
use Rattle.std.proofs.lemmas.List.Edits.{length-insert}
use Rattle.std.proofs.lemmas.Result.{err_from_is_err_and}
use Rattle.std.specs.List.{list_any}
use Rattle.page_store.specs.FreeNumbers.{candidate}
use Rattle.page_store.specs.PagesView.{PagesView}
use Rattle.page_store.specs.PageMap.{PageMap, at, pages_with}
use Rattle.btree_node.specs.Lists.{Element, IsAt, IsPlace}
use Rattle.btree_node.specs.Spelling.{spelling}
use Rattle.btree_node.specs.declared.node.Node.{Node}
use Rattle.btree_node.specs.declared.node.NodeKind.TheVariants.{Leaf, Inner}
use Rattle.btree_node.specs.Written.{with_elements}
use Rattle.btree_insert.specs.declared.insert_below.Grown.{Grown}
use Rattle.btree_insert.specs.declared.insert_below.Grown.TheVariants.{Replaced, Split}
use Rattle.btree_insert.specs.declared.bounds.Bounds.{Bounds}
use Rattle.btree_insert.specs.Bounds.{Between, son_bounds}
use Rattle.btree_insert.specs.Growth.{MayBeOverfull, IsNotOfPages, IsWithin, Grew, SplitGoesUp, WritesOrSplits, TakesNumbers, WritesFit, MayGain, MayGainSon, with_son, replaced}
use Rattle.btree_insert.specs.PageTrees.{Apart, Spells, TreeAt, kind_of_level, tree_below}
use Rattle.btree_insert.specs.Reached.{Leads}
use Rattle.btree_insert.specs.Spelt.{AreSpeltIn}
use Rattle.btree_insert.specs.declared.step.Step.TheVariants.{Found, Ends, Goes}
use Rattle.btree_insert.specs.Steps.{Steps}
use Rattle.btree_insert.specs.PagesGrown.{edited}
use Rattle.btree_insert.proofs.EditFitLemmas.{wrote_fits, stays_within, takes_more, never_replaced}
use Rattle.btree_insert.proofs.ChangedTreeLemmas.{in_use}
use Rattle.btree_insert.proofs.VisitedLemmas.{Unvisited, unvisited_below, apart_below, candidates_free}
use Rattle.btree_insert.proofs.PlaceLemmas.{within_place, place_within, son_within, insert_within, leaf_may_be_overfull, inner_may_be_overfull}
use Rattle.btree_insert.proofs.SonsAroundLemmas.{Focus}
use Rattle.btree_insert.proofs.SettledTreeLemmas.{focus_of, grow_stays, grow_split, grow_leaf, grow_replaced}
use Rattle.btree_insert.proofs.HeadNodeLemmas.{Top, kind_above, head_each, top}
use Rattle.btree_insert.proofs.StepNodeLemmas.{spelt_one, still_known, taken_top}
use Rattle.btree_insert.proofs.ReachLemmas.{leads_here}
use Rattle.btree_insert.proofs.ReadingLemmas.{reads_then}
use Rattle.btree_insert.proofs.SearchStepLemmas.{goes_leads}
use Rattle.btree_insert.proofs.insert_below.+insert_below.Given as given
use Rattle.btree_insert.proofs.insert_below.+insert_below.Goals as goal
use Rattle.btree_insert.proofs.insert_below.+insert_below.Goals.{In_ok-i, In-Goes, In_ok-done-in-Goes, After-bytes_at-page, After-bytes_at-page-in-Ends, After-bytes_at-father}

-- a son's tree within its bounds, none of whose pages was visited
record IsSon (k : ℕ) (pages : List (Option (List ℕ))) (level s : ℕ) (xs : List Element) (mine visited : List ℕ) (b : Bounds) : Type 0 where
  pub tree : TreeAt k (at pages) k level s xs mine
  pub between : Between b xs
  pub apart : Apart mine
  pub unvisited : Unvisited visited mine

-- the node that the step was taken from is the one at the head of the tree
module _ (g : given.Over) (t : ℕ) (c : In_ok-i g t) where
  head_of : (steady : IsTrue c.args.pages.now.steady) (least : ℕ) (es : List Element) (us : List ℕ) → TreeAt c.args.order (at c.args.pages.now.pages) least c.args.spot.now.level c.args.spot.now.page es us → Between c.args.spot.now.bounds es
      → Top c.args.order (at c.args.pages.now.pages) least c.args.spot.now.level (c.args.spot.now.level - 1) c.args.spot.now.page es us c.args.spot.now.bounds c.in_ok-i.ensures.stepped.node
  head_of steady least es us tree between =
      taken_top c.args.order c.args.pages.now least c.args.spot.now es us c.args.element.0 c.args.in_place c.take_step.new.bytes c.in_ok-i.field-0 c.requires.can.order.1 c.requires.can.search.level steady c.in_ok-i.ensures.stepped tree between

-- the node whose record at the key is changed
module _ (g : given.Over) (t : ℕ) (c : After-bytes_at-page g t) where
  abbrev met : Node
  met = c.in_ok-i.ensures.stepped.node

  found : Steps c.args.spot.now.level met c.args.spot.now.bounds c.args.element.0 (Found c.in-Found.i c.in-Found.old)
  found = subst (Steps c.args.spot.now.level met c.args.spot.now.bounds c.args.element.0) c.in-Found.is c.in_ok-i.ensures.stepped.steps

  found_bytes : c.bytes_at-page.result.now ≡ spelling met c.args.order
  found_bytes = c.bytes_at-page.ensures c.args.order met (still_known c.args.order c.args.pages.now c.take_step.new.pages c.args.spot.now.page c.args.in_place c.take_step.new.bytes met c.take_step.ensures.reading.unchanged c.in_ok-i.ensures.stepped.known)

-- the son that the descent goes to
module _ (g : given.Over) (t : ℕ) (c : In-Goes g t) where
  abbrev father : Node
  father = c.in_ok-i.ensures.stepped.node

  way_down : Steps c.args.spot.now.level father c.args.spot.now.bounds c.args.element.0 (Goes c.in-Goes.i c.in-Goes.page c.in-Goes.bounds)
  way_down = subst (Steps c.args.spot.now.level father c.args.spot.now.bounds c.args.element.0) c.in-Goes.is c.in_ok-i.ensures.stepped.steps

  son_of : (new : PageMap) (least : ℕ) (es : List Element) (us : List ℕ) → Between c.args.spot.now.bounds es → (head : Top c.args.order (at c.args.pages.now.pages) least c.args.spot.now.level (c.args.spot.now.level - 1) c.args.spot.now.page es us c.args.spot.now.bounds father)
      → Focus (TreeAt c.args.order (at c.args.pages.now.pages) c.args.order (c.args.spot.now.level - 1)) (TreeAt c.args.order new c.args.order (c.args.spot.now.level - 1)) (λ q. new q ≡ at c.args.pages.now.pages q) father.sons.items father.elements.items es head.below c.args.element.0 c.in-Goes.i c.args.spot.now.bounds
  son_of new least es us between head =
      focus_of c.args.order (at c.args.pages.now.pages) new (c.args.spot.now.level - 1) father es head.below c.args.element.0 c.in-Goes.i c.args.spot.now.bounds (omega (arith, way_down.0)) head.body between way_down.1

  son_known : (new : PageMap) (es : List Element) (us below : List ℕ) → us ≡ c.args.spot.now.page ∷ below → Apart us → Unvisited c.args.visited.now.items us
      → (son : Focus (TreeAt c.args.order (at c.args.pages.now.pages) c.args.order (c.args.spot.now.level - 1)) (TreeAt c.args.order new c.args.order (c.args.spot.now.level - 1)) (λ q. new q ≡ at c.args.pages.now.pages q) father.sons.items father.elements.items es below c.args.element.0 c.in-Goes.i c.args.spot.now.bounds)
      → IsSon c.args.order c.take_step.new.pages.pages (c.args.spot.now.level - 1) c.in-Goes.page son.xs son.mine c.push.new.self.items c.in-Goes.bounds
  son_known new es us below us_is apart unvisited son =
      let k = c.args.order in
      let spot = c.args.spot.now in
      let around = us_is ∙ ap (λ vs. spot.page ∷ vs) son.us_is in
      record {
        tree = subst (λ (v : PagesView). TreeAt k (at v.pages) k (spot.level - 1) c.in-Goes.page son.xs son.mine) (sym c.take_step.ensures.reading.unchanged)
            (subst (λ q. TreeAt k (at c.args.pages.now.pages) k (spot.level - 1) q son.xs son.mine) (sym way_down.2) son.here);
        between = subst (λ b. Between b son.xs) (sym way_down.3) son.between;
        apart = apart_below spot.page us son.upre son.mine son.upost around apart;
        unvisited = subst (λ (visited : List ℕ). Unvisited visited son.mine) (sym c.push.ensures.items) (unvisited_below c.args.visited.now.items spot.page us son.upre son.mine son.upost around apart unvisited);
      }

-- what the call on the son came to, said of the pages before the step
module _ (g : given.Over) (t : ℕ) (c : In_ok-done-in-Goes g t) where
  grew_below : (n : Node) → c.in-Goes.page ≡ get_or n.sons.items c.in-Goes.i 0 → (xs : List Element) (mine : List ℕ) → Grew (tree_below c.args.order c.args.order (c.args.spot.now.level - 1) c.in-Goes.page) (edited c.take_step.new.pages.pages c.args.edit.now.taken c.insert_below.new.edit) xs mine c.args.element.0 c.args.element.1 c.in_ok-done-in-Goes.done
      → Grew (tree_below c.args.order c.args.order (c.args.spot.now.level - 1) (get_or n.sons.items c.in-Goes.i 0)) (edited c.args.pages.now.pages c.args.edit.now.taken c.insert_below.new.edit) xs mine c.args.element.0 c.args.element.1 c.in_ok-done-in-Goes.done
  grew_below n son_is xs mine grew =
      let k = c.args.order in
      let level = c.args.spot.now.level - 1 in
      subst (λ q. Grew (tree_below k k level q) (edited c.args.pages.now.pages c.args.edit.now.taken c.insert_below.new.edit) xs mine c.args.element.0 c.args.element.1 c.in_ok-done-in-Goes.done) son_is
      (subst (λ (v : PagesView). Grew (tree_below k k level c.in-Goes.page) (edited v.pages c.args.edit.now.taken c.insert_below.new.edit) xs mine c.args.element.0 c.args.element.1 c.in_ok-done-in-Goes.done) c.take_step.ensures.reading.unchanged grew)

  -- the pages from this one down to the key
  led_below : IsTrue c.args.pages.now.steady → Steps c.args.spot.now.level c.in_ok-i.ensures.stepped.node c.args.spot.now.bounds c.args.element.0 (Goes c.in-Goes.i c.in-Goes.page c.in-Goes.bounds)
      → Leads (Spells c.args.order (at c.args.pages.now.pages)) c.args.element.0 c.args.spot.now.level c.args.spot.now.page c.args.spot.now.bounds (replaced c.in_ok-done-in-Goes.done)
  led_below steady steps =
      let s = c.in_ok-i.ensures.stepped in
      let unchanged = c.take_step.ensures.reading.unchanged in
      goes_leads c.args.order (at c.args.pages.now.pages) (at c.take_step.new.pages.pages) c.args.spot.now s.node c.args.element.0 c.in-Goes.i c.in-Goes.page c.in-Goes.bounds (replaced c.in_ok-done-in-Goes.done) (ap (λ (v : PagesView). at v.pages) unchanged)
      (s.spells steady) s.belongs steps (c.in_ok-done-in-Goes.ensures.led (ap (λ (v : PagesView). v.steady) unchanged ∙ steady))

pub returns-then-was_visited-clause-grew : goal.returns-then-was_visited-clause-grew
returns-then-was_visited-clause-grew g t c = λ steady none least es us tree between apart unvisited.
    let spot = c.args.spot.now in
    let gone = head_each (λ u. list_any (λ m. m == u) c.args.visited.now.items ≡ false) c.args.order (at c.args.pages.now.pages) least spot.level spot.page es us tree unvisited in
    let visited : list_any (λ m. m == c.args.spot.now.page) c.args.visited.now.items ≡ true = ap (λ (xs : List ℕ). list_any (λ m. m == c.args.spot.now.page) xs) (sym c.as_slice.ensures.value) ∙ sym c.was_visited.ensures ∙ c.if-was_visited.true in
    absurd (false≢true (sym gone ∙ visited))

pub returns-in_err-i-clause-grew : goal.returns-in_err-i-clause-grew
returns-in_err-i-clause-grew g t c = λ steady none least es us tree between apart unvisited.
    let spot = c.args.spot.now in
    let p = err_from_is_err_and c.from_residual.result c.from_residual.ensures.1 in
    let head = top c.args.order (at c.args.pages.now.pages) least spot.level (spot.level - 1) spot.page es us spot.bounds (omega (arith, c.requires.can.search.level)) tree between in
    rw (p.1, p.2) (subst IsNotOfPages (sym (c.in_err-i.ensures.exact steady head.0 head.1.spells (record { kind = head.1.kind; within = head.1.within }))) tt)

pub write_replaced-requires-clause-page : goal.write_replaced-requires-clause-page
write_replaced-requires-clause-page g t c =
    let p = (goal.at.write_replaced-requires-clause-page g t c).After-bytes_at-page in
    (c.requires.can.order.1, (met g t p, c.in_ok-i.ensures.stepped.known.stands, found_bytes g t p))

pub write_replaced-requires-clause-found : goal.write_replaced-requires-clause-found
write_replaced-requires-clause-found g t c = λ m can is.
    let p = (goal.at.write_replaced-requires-clause-found g t c).After-bytes_at-page in
    subst (λ (n : Node). IsAt n.elements.items c.args.element.0 c.in-Found.i) (spelt_one c.args.order c.bytes_at-page.result.now (met g t p) m c.requires.can.order.1 c.in_ok-i.ensures.stepped.known.stands (found_bytes g t p) can is) (found g t p).0

-- a leaf that gains an element
module _ (g : given.Over) (t : ℕ) (c : After-bytes_at-page-in-Ends g t) where
  abbrev leaf_met : Node
  leaf_met = c.in_ok-i.ensures.stepped.node

  ends_here : Steps c.args.spot.now.level leaf_met c.args.spot.now.bounds c.args.element.0 (Ends c.in-Ends.i)
  ends_here = subst (Steps c.args.spot.now.level leaf_met c.args.spot.now.bounds c.args.element.0) c.in-Ends.is c.in_ok-i.ensures.stepped.steps

  leaf_bytes : c.bytes_at-page-in-Ends.result.now ≡ spelling leaf_met c.args.order
  leaf_bytes = c.bytes_at-page-in-Ends.ensures c.args.order leaf_met (still_known c.args.order c.args.pages.now c.take_step.new.pages c.args.spot.now.page c.args.in_place c.take_step.new.bytes leaf_met c.take_step.ensures.reading.unchanged c.in_ok-i.ensures.stepped.known)

  leaf_kind : leaf_met.kind ≡ Leaf
  leaf_kind = c.in_ok-i.ensures.stepped.belongs.kind ∙ ap kind_of_level ends_here.0

  abbrev longer_leaf : Node
  longer_leaf = with_elements leaf_met (insert leaf_met.elements.items c.in-Ends.i c.args.element)

  leaf_overfull : MayBeOverfull c.args.order longer_leaf
  leaf_overfull =
      leaf_may_be_overfull c.args.order leaf_met longer_leaf c.in-Ends.i c.args.element c.in_ok-i.ensures.stepped.known.stands leaf_kind ends_here.1 c.requires.can.fits refl refl refl

pub put_in_leaf-requires-clause-page : goal.put_in_leaf-requires-clause-page
put_in_leaf-requires-clause-page g t c =
    let p = (goal.at.put_in_leaf-requires-clause-page g t c).After-bytes_at-page-in-Ends in
    (leaf_met g t p, c.in_ok-i.ensures.stepped.known.stands, leaf_bytes g t p)

pub put_in_leaf-requires-clause-leaf : goal.put_in_leaf-requires-clause-leaf
put_in_leaf-requires-clause-leaf g t c = λ m can is.
    let p = (goal.at.put_in_leaf-requires-clause-leaf g t c).After-bytes_at-page-in-Ends in
    subst (λ (n : Node). MayGain n c.in-Ends.i c.args.element) (spelt_one c.args.order c.bytes_at-page-in-Ends.result.now (leaf_met g t p) m c.requires.can.order.1 c.in_ok-i.ensures.stepped.known.stands (leaf_bytes g t p) can is)
    (record { leaf = leaf_kind g t p; place = (ends_here g t p).1 })

pub insert_below-requires : goal.insert_below-requires
insert_below-requires g t c = λ κs sub.
    let k = c.args.order in
    let spot = c.args.spot.now in
    let n = c.in_ok-i.ensures.stepped.node in
    let steps = way_down g t (goal.at.insert_below-requires g t c).In-Goes in
    let inside = subst (λ b. IsWithin b c.args.element.0) (sym steps.3) (place_within n.elements.items c.in-Goes.i spot.bounds c.args.element.0 c.requires.can.within steps.1) in
    let fits = subst (λ (v : PagesView). WritesFit v.pages c.args.edit.now.writes.items c.args.edit.now.taken) (sym c.take_step.ensures.reading.unchanged) c.requires.room.fits in (
      omega (arith, c.decreases, c.requires.can.search.level),
      (
        sub,
        (
          record {
            order = c.requires.can.order;
            search = record {
              order = c.requires.can.search.order;
              level = omega (arith, steps.0);
              spelt = λ in_place. subst (AreSpeltIn k) (sym c.take_step.ensures.reading.unchanged) (c.requires.can.search.spelt in_place);
            };
            fits = c.requires.can.fits;
            within = inside;
          },
          record {
            levels = omega (arith, c.push.ensures.len, c.requires.room.levels, steps.0);
            taken = c.requires.room.taken;
            fits = fits;
          },
        ),
      ),
    )

pub returns-in_err-done-in-Goes-clause-grew : goal.returns-in_err-done-in-Goes-clause-grew
returns-in_err-done-in-Goes-clause-grew g t c = λ steady none least es us tree between apart unvisited.
    let p = err_from_is_err_and c.from_residual-in_err-done-in-Goes.result c.from_residual-in_err-done-in-Goes.ensures.1 in
    let place = goal.at.returns-in_err-done-in-Goes-clause-grew g t c in
    let head = head_of g t place.In_ok-i steady least es us tree between in
    let son = son_of g t place.In-Goes (at c.args.pages.now.pages) least es us between head in
    let known = son_known g t place.In-Goes (at c.args.pages.now.pages) es us head.below head.us_is apart unvisited son in
    rw (p.1, p.2) (c.in_err-done-in-Goes.ensures.grew (ap (λ (v : PagesView). v.steady) c.take_step.ensures.reading.unchanged ∙ steady) none c.args.order son.xs son.mine known.tree known.between known.apart known.unvisited)

-- a node that gains the half that was split off its son
module _ (g : given.Over) (t : ℕ) (c : After-bytes_at-father g t) where
  abbrev father_met : Node
  father_met = c.in_ok-i.ensures.stepped.node

  goes_down : Steps c.args.spot.now.level father_met c.args.spot.now.bounds c.args.element.0 (Goes c.in-Goes.i c.in-Goes.page c.in-Goes.bounds)
  goes_down = subst (Steps c.args.spot.now.level father_met c.args.spot.now.bounds c.args.element.0) c.in-Goes.is c.in_ok-i.ensures.stepped.steps

  father_bytes : c.bytes_at-father.result.now ≡ spelling father_met c.args.order
  father_bytes =
      c.bytes_at-father.ensures c.args.order father_met (still_known c.args.order c.take_step.new.pages c.insert_below.new.pages c.args.spot.now.page c.args.in_place c.take_step.new.bytes father_met c.in_ok-done-in-Goes.ensures.reading.unchanged
      (still_known c.args.order c.args.pages.now c.take_step.new.pages c.args.spot.now.page c.args.in_place c.take_step.new.bytes father_met c.take_step.ensures.reading.unchanged c.in_ok-i.ensures.stepped.known))

  split_up : SplitGoesUp c.in-Goes.bounds (Split c.in-Split.middle c.in-Split.right)
  split_up = subst (SplitGoesUp c.in-Goes.bounds) c.in-Split.is c.in_ok-done-in-Goes.ensures.grows.goes_up

  split_inside : IsWithin (son_bounds father_met.elements.items c.in-Goes.i c.args.spot.now.bounds) c.in-Split.middle.0
  split_inside = subst (λ b. IsWithin b c.in-Split.middle.0) goes_down.3 split_up.1

  split_among : IsPlace father_met.elements.items c.in-Split.middle.0 c.in-Goes.i
  split_among = within_place father_met.elements.items c.in-Goes.i c.args.spot.now.bounds c.in-Split.middle.0 goes_down.1.within c.in_ok-i.ensures.stepped.known.stands.ascends split_inside

  father_kind : father_met.kind ≡ Inner
  father_kind = c.in_ok-i.ensures.stepped.belongs.kind ∙ kind_above c.args.spot.now.level (λ one. absurd (omega (arith, one, goes_down.0)))

  abbrev longer_father : Node
  longer_father = with_son father_met c.in-Goes.i c.in-Split.middle c.in-Split.right

  father_overfull : MayBeOverfull c.args.order longer_father
  father_overfull =
      inner_may_be_overfull c.args.order father_met longer_father c.in-Goes.i c.in-Split.right c.in-Split.middle c.in_ok-i.ensures.stepped.known.stands father_kind split_among split_up.0 split_up.2 refl refl refl

pub put_in_father-requires-clause-page : goal.put_in_father-requires-clause-page
put_in_father-requires-clause-page g t c =
    let p = (goal.at.put_in_father-requires-clause-page g t c).After-bytes_at-father in
    (father_met g t p, c.in_ok-i.ensures.stepped.known.stands, father_bytes g t p)

pub put_in_father-requires-clause-element : goal.put_in_father-requires-clause-element
put_in_father-requires-clause-element g t c = (split_up g t (goal.at.put_in_father-requires-clause-element g t c).After-bytes_at-father).0

pub put_in_father-requires-clause-father : goal.put_in_father-requires-clause-father
put_in_father-requires-clause-father g t c = λ m can is.
    let p = (goal.at.put_in_father-requires-clause-father g t c).After-bytes_at-father in
    subst (λ (n : Node). MayGainSon n c.in-Goes.i c.in-Split.middle c.in-Split.right) (spelt_one c.args.order c.bytes_at-father.result.now (father_met g t p) m c.requires.can.order.1 c.in_ok-i.ensures.stepped.known.stands (father_bytes g t p) can is)
    (record { inner = father_kind g t p; place = split_among g t p; can_be = (split_up g t p).2 })

pub returns-in_ok-write_replaced-in-Found-clause-grew : goal.returns-in_ok-write_replaced-in-Found-clause-grew
returns-in_ok-write_replaced-in-Found-clause-grew g t c = λ steady none least es us tree between apart unvisited.
    let k = c.args.order in
    let spot = c.args.spot.now in
    let place = goal.at.returns-in_ok-write_replaced-in-Found-clause-grew g t c in
    let p = place.After-bytes_at-page in
    let n = met g t p in
    let steps = found g t p in
    let head = head_of g t place.In_ok-i steady least es us tree between in
    let wrote = c.in_ok-write_replaced-in-Found.ensures.writes n c.in_ok-i.ensures.stepped.known.stands (found_bytes g t p) in
    let x : Element = get_or n.elements.items c.in-Found.i c.args.element in
    let size = ap length wrote.elements ∙ length-set n.elements.items c.in-Found.i c.args.element in
    let grew = grow_replaced k (at c.args.pages.now.pages) c.args.edit.now.writes.items c.write_replaced.new.edit.writes.items (candidate c.args.pages.now.pages) c.args.edit.now.taken c.write_replaced.new.edit.taken least spot.level (spot.level - 1) spot.page es us spot.bounds
    n wrote.node c.args.element.0 c.args.element.1 c.in-Found.i x (omega (arith, c.requires.can.search.level)) none c.in_ok-write_replaced-in-Found.ensures.edit.taken (candidates_free c.args.pages.now.pages) (in_use k (at c.args.pages.now.pages) least spot.level spot.page es us tree) apart head between.ascends steps.0
    (get_or_default n.elements.items c.in-Found.i c.args.element x steps.0.within) wrote.stands (omega (arith, size, head.least_is)) wrote.kind wrote.elements wrote.sons wrote.written in
    subst (λ (old : List ℕ). Grew (tree_below k least spot.level spot.page) (edited c.args.pages.now.pages c.args.edit.now.taken c.write_replaced.new.edit) es us c.args.element.0 c.args.element.1 (Replaced old)) (sym (steps.1 c.args.element)) grew

pub returns-in_ok-write_replaced-in-Found-clause-led : goal.returns-in_ok-write_replaced-in-Found-clause-led
returns-in_ok-write_replaced-in-Found-clause-led g t c = λ steady.
    let spot = c.args.spot.now in
    let s = c.in_ok-i.ensures.stepped in
    let steps = found g t (goal.at.returns-in_ok-write_replaced-in-Found-clause-led g t c).After-bytes_at-page in
    leads_here (Spells c.args.order (at c.args.pages.now.pages)) c.args.element.0 spot.level (spot.level - 1) spot.page spot.bounds s.node c.in-Found.i (Some c.in-Found.old) (omega (arith, c.requires.can.search.level)) (s.spells steady) s.belongs.kind s.belongs.within
    steps.0 (λ d. ap Some (steps.1 d))

pub returns-in_ok-write_replaced-in-Found-clause-edit : goal.returns-in_ok-write_replaced-in-Found-clause-edit
returns-in_ok-write_replaced-in-Found-clause-edit g t c =
    let p = (goal.at.returns-in_ok-write_replaced-in-Found-clause-edit g t c).After-bytes_at-page in
    let wrote = c.in_ok-write_replaced-in-Found.ensures.writes (met g t p) c.in_ok-i.ensures.stepped.known.stands (found_bytes g t p) in
    record {
      fits = wrote_fits c.args.pages.now.pages c.args.edit.now.writes.items c.write_replaced.new.edit.writes.items c.args.edit.now.taken c.write_replaced.new.edit.taken c.args.spot.now.page (spelling wrote.node c.args.order)
          wrote.written c.in_ok-write_replaced-in-Found.ensures.edit.taken c.in_ok-i.ensures.in_use.there c.requires.room.fits;
      spelt = c.in_ok-write_replaced-in-Found.ensures.edit.spelt;
      freed = c.in_ok-write_replaced-in-Found.ensures.edit.freed;
    }

pub returns-in_ok-put_in_leaf-in-Ends-clause-grew : goal.returns-in_ok-put_in_leaf-in-Ends-clause-grew
returns-in_ok-put_in_leaf-in-Ends-clause-grew g t c = λ steady none least es us tree between apart unvisited.
    let k = c.args.order in
    let spot = c.args.spot.now in
    let s = c.in_ok-i.ensures.stepped in
    let place = goal.at.returns-in_ok-put_in_leaf-in-Ends-clause-grew g t c in
    let p = place.After-bytes_at-page-in-Ends in
    let m = longer_leaf g t p in
    let steps = ends_here g t p in
    let head = head_of g t place.In_ok-i steady least es us tree between in
    let size = length-insert s.node.elements.items c.in-Ends.i c.args.element steps.1.within in
    grow_leaf k (at c.args.pages.now.pages) c.args.edit.now c.put_in_leaf.new.edit (candidate c.args.pages.now.pages) least spot.level (spot.level - 1) spot.page es us spot.bounds
    s.node m c.args.element.0 c.args.element.1 c.in-Ends.i c.in_ok-put_in_leaf-in-Ends.field-0 (omega (arith, c.requires.can.search.level)) (omega (arith, steps.0)) c.requires.can.order.0 none (candidates_free c.args.pages.now.pages) (in_use k (at c.args.pages.now.pages) least spot.level spot.page es us tree) apart head steps.1
    (leaf_overfull g t p) (omega (arith, size, head.least_is)) refl refl
    (subst (λ (v : PagesView). WritesOrSplits k (candidate v.pages c.args.edit.now.taken) c.args.edit.now c.put_in_leaf.new.edit spot.page m c.in_ok-put_in_leaf-in-Ends.field-0) c.take_step.ensures.reading.unchanged (c.in_ok-put_in_leaf-in-Ends.ensures.settles s.node s.known.stands (leaf_bytes g t p)))

pub returns-in_ok-put_in_leaf-in-Ends-clause-grows : goal.returns-in_ok-put_in_leaf-in-Ends-clause-grows
returns-in_ok-put_in_leaf-in-Ends-clause-grows g t c =
    let s = c.in_ok-i.ensures.stepped in
    let p = (goal.at.returns-in_ok-put_in_leaf-in-Ends-clause-grows g t c).After-bytes_at-page-in-Ends in record {
      takes = search rules;
      goes_up = c.in_ok-put_in_leaf-in-Ends.ensures.goes_up s.node s.known.stands (leaf_bytes g t p) c.args.spot.now.bounds (insert_within c.args.spot.now.bounds s.node.elements.items c.in-Ends.i c.args.element s.belongs.within c.requires.can.within);
    }

pub returns-in_ok-put_in_father-in-Split-clause-grew : goal.returns-in_ok-put_in_father-in-Split-clause-grew
returns-in_ok-put_in_father-in-Split-clause-grew g t c = λ steady none least es us tree between apart unvisited.
    let k = c.args.order in
    let spot = c.args.spot.now in
    let s = c.in_ok-i.ensures.stepped in
    let place = goal.at.returns-in_ok-put_in_father-in-Split-clause-grew g t c in
    let p = place.After-bytes_at-father in
    let m = longer_father g t p in
    let steps = goes_down g t p in
    let head = head_of g t place.In_ok-i steady least es us tree between in
    let son = son_of g t place.In-Goes (pages_with (at c.args.pages.now.pages) c.insert_below.new.edit.writes.items) least es us between head in
    let known = son_known g t place.In-Goes (pages_with (at c.args.pages.now.pages) c.insert_below.new.edit.writes.items) es us head.below head.us_is apart unvisited son in
    let call = c.in_ok-done-in-Goes.ensures.grew (ap (λ (v : PagesView). v.steady) c.take_step.ensures.reading.unchanged ∙ steady) none k son.xs son.mine known.tree known.between known.apart known.unvisited in
    let grew = grew_below g t place.In_ok-done-in-Goes s.node steps.2 son.xs son.mine call in
    let size = length-insert s.node.elements.items c.in-Goes.i c.in-Split.middle (split_among g t p).within in
    let counted = subst (TakesNumbers (spot.level - 1) c.args.edit.now.taken c.insert_below.new.edit.taken) c.in-Split.is c.in_ok-done-in-Goes.ensures.grows.takes in
    grow_split k (at c.args.pages.now.pages) c.insert_below.new.edit c.put_in_father.new.edit (candidate c.args.pages.now.pages) c.args.edit.now.taken least spot.level (spot.level - 1) spot.page es us spot.bounds
    s.node m c.args.element.0 c.args.element.1 c.in-Goes.i c.in-Split.middle c.in-Split.right c.in_ok-put_in_father-in-Split.field-0 (omega (arith, c.requires.can.search.level)) (omega (arith, steps.0)) c.requires.can.order.0 counted.0 (candidates_free c.args.pages.now.pages) (in_use k (at c.args.pages.now.pages) least spot.level spot.page es us tree) apart head son
    (subst (λ (r : Grown). Grew (tree_below k k (spot.level - 1) (get_or s.node.sons.items c.in-Goes.i 0)) (edited c.args.pages.now.pages c.args.edit.now.taken c.insert_below.new.edit) son.xs son.mine c.args.element.0 c.args.element.1 r) c.in-Split.is grew)
    (father_overfull g t p) (omega (arith, size, head.least_is)) refl refl refl
    (subst (λ (ps : List (Option (List ℕ))). WritesOrSplits k (candidate ps c.insert_below.new.edit.taken) c.insert_below.new.edit c.put_in_father.new.edit spot.page m c.in_ok-put_in_father-in-Split.field-0)
    (ap (λ (v : PagesView). v.pages) c.in_ok-done-in-Goes.ensures.reading.unchanged ∙ ap (λ (v : PagesView). v.pages) c.take_step.ensures.reading.unchanged) (c.in_ok-put_in_father-in-Split.ensures.settles s.node s.known.stands (father_bytes g t p)))

pub returns-in_ok-put_in_father-in-Split-clause-led : goal.returns-in_ok-put_in_father-in-Split-clause-led
returns-in_ok-put_in_father-in-Split-clause-led g t c = λ steady.
    let spot = c.args.spot.now in
    let s = c.in_ok-i.ensures.stepped in
    let place = goal.at.returns-in_ok-put_in_father-in-Split-clause-led g t c in
    let p = place.After-bytes_at-father in
    let none : replaced c.in_ok-done-in-Goes.done ≡ None = ap replaced c.in-Split.is in
    let still = never_replaced c.args.order (candidate c.insert_below.new.pages.pages c.insert_below.new.edit.taken) c.insert_below.new.edit c.put_in_father.new.edit spot.page (longer_father g t p) c.in_ok-put_in_father-in-Split.field-0 (c.in_ok-put_in_father-in-Split.ensures.settles s.node s.known.stands (father_bytes g t p)) in
    subst (Leads (Spells c.args.order (at c.args.pages.now.pages)) c.args.element.0 spot.level spot.page spot.bounds) (none ∙ sym still) (led_below g t place.In_ok-done-in-Goes steady (way_down g t place.In-Goes))

pub returns-in_ok-put_in_father-in-Split-clause-grows : goal.returns-in_ok-put_in_father-in-Split-clause-grows
returns-in_ok-put_in_father-in-Split-clause-grows g t c =
    let b = c.args.spot.now.bounds in
    let s = c.in_ok-i.ensures.stepped in
    let p = (goal.at.returns-in_ok-put_in_father-in-Split-clause-grows g t c).After-bytes_at-father in record {
      takes = search rules;
      goes_up = c.in_ok-put_in_father-in-Split.ensures.goes_up s.node s.known.stands (father_bytes g t p) b
          (insert_within b s.node.elements.items c.in-Goes.i c.in-Split.middle s.belongs.within (son_within s.node.elements.items c.in-Goes.i b c.in-Split.middle.0 s.known.stands.ascends s.belongs.within (split_inside g t p)));
    }

pub returns-in_default : goal.returns-in_default
returns-in_default g t c = record {
  grew = λ steady none least es us tree between apart unvisited.
      let k = c.args.order in
      let spot = c.args.spot.now in
      let s = c.in_ok-i.ensures.stepped in
      let place = goal.at.returns-in_default g t c in
      let steps = way_down g t place.In-Goes in
      let head = head_of g t place.In_ok-i steady least es us tree between in
      let son = son_of g t place.In-Goes (pages_with (at c.args.pages.now.pages) c.insert_below.new.edit.writes.items) least es us between head in
      let known = son_known g t place.In-Goes (pages_with (at c.args.pages.now.pages) c.insert_below.new.edit.writes.items) es us head.below head.us_is apart unvisited son in
      let call = c.in_ok-done-in-Goes.ensures.grew (ap (λ (v : PagesView). v.steady) c.take_step.ensures.reading.unchanged ∙ steady) none k son.xs son.mine known.tree known.between known.apart known.unvisited in
      let grew = grew_below g t place.In_ok-done-in-Goes s.node steps.2 son.xs son.mine call in
      grow_stays k (at c.args.pages.now.pages) (pages_with (at c.args.pages.now.pages) c.insert_below.new.edit.writes.items) (candidate c.args.pages.now.pages) c.args.edit.now.taken c.insert_below.new.edit.taken least spot.level (spot.level - 1) spot.page es us spot.bounds s.node c.args.element.0 c.args.element.1 c.in-Goes.i c.in_ok-done-in-Goes.done
      (omega (arith, c.requires.can.search.level)) (omega (arith, steps.0)) (candidates_free c.args.pages.now.pages) (in_use k (at c.args.pages.now.pages) least spot.level spot.page es us tree) apart head son c.in_default.not-Split grew;
  led = λ steady.
      let place = goal.at.returns-in_default g t c in
      led_below g t place.In_ok-done-in-Goes steady (way_down g t place.In-Goes);
  edit = record {
    fits = subst (λ (v : PagesView). WritesFit v.pages c.insert_below.new.edit.writes.items c.insert_below.new.edit.taken) c.take_step.ensures.reading.unchanged c.in_ok-done-in-Goes.ensures.edit.fits;
    spelt = c.in_ok-done-in-Goes.ensures.edit.spelt;
    freed = c.in_ok-done-in-Goes.ensures.edit.freed;
  };
  grows = record {
    takes = subst (λ (h : ℕ). TakesNumbers h c.args.edit.now.taken c.insert_below.new.edit.taken c.in_ok-done-in-Goes.done) (omega (arith, c.requires.can.search.level)) (takes_more (c.args.spot.now.level - 1) c.args.edit.now.taken c.insert_below.new.edit.taken c.in_ok-done-in-Goes.done c.in_ok-done-in-Goes.ensures.grows.takes);
    goes_up = stays_within c.in-Goes.bounds c.args.spot.now.bounds c.in_ok-done-in-Goes.done c.in_default.not-Split c.in_ok-done-in-Goes.ensures.grows.goes_up;
  };
  visited = c.in_ok-done-in-Goes.ensures.visited;
  in_use = c.in_ok-i.ensures.in_use;
  reading = reads_then 1 (c.args.spot.now.level - 1) c.args.spot.now.level c.args.pages.now c.take_step.new.pages c.insert_below.new.pages c.in_ok-i.field-0 (Ok c.in_ok-done-in-Goes.done) (omega (arith, c.requires.can.search.level)) c.in_ok-i.ensures.reading c.in_ok-done-in-Goes.ensures.reading;
}
