-- The step of a search from a page.
use Rattle.std.proofs.Common.{◌≡◌, ℕ, suc, ◌-◌, ◌<◌, ◌↔◌, Bool, IsTrue, false, Option, Some, None, [], List, length, get_or, sym, ap, ◌∙◌, subst, arith}
use Rattle.std.proofs.lemmas.Bool.{false≢true}
use Rattle.std.proofs.lemmas.List.{get_or_default}
use Rattle.page_store.specs.PageMap.{PageMap}
use Rattle.btree_node.specs.declared.node.Node.{Node}
use Rattle.btree_node.specs.Lists.{Element, Ascends}
use Rattle.btree_node.proofs.ElementOrderLemmas.{Each_at}
use Rattle.btree_insert.specs.declared.bounds.Bounds.{Bounds}
use Rattle.btree_insert.specs.declared.step.Spot.{Spot}
use Rattle.btree_insert.specs.declared.step.Step.{Step}
use Rattle.btree_insert.specs.declared.step.Step.TheVariants.{Found, Ends, Goes}
use Rattle.btree_insert.specs.Bounds.{Over, Under, AreWithin, Between, son_bounds}
use Rattle.btree_insert.specs.Contents.{lookup_in}
use Rattle.btree_insert.specs.PageTrees.{Spells, TreeAt}
use Rattle.btree_insert.specs.Reached.{Leads}
use Rattle.btree_insert.specs.Steps.{Steps, BelongsAt}
use Rattle.btree_insert.proofs.BoundLemmas.{both_within}
use Rattle.btree_insert.proofs.ReachLemmas.{leads_on, leads_below}
use Rattle.btree_insert.proofs.HeadNodeLemmas.{Top, top, find_here, find_no_more, find_son}

-- the first and the last key tell of all
pub last_tells : (bounds : Bounds) (es : List Element) (d e : Element) (first last : List ℕ) (r : Bool) → 0 < length es → Ascends es → first ≡ (get_or es 0 d).0 → last ≡ (get_or es (length es - 1) e).0
    → Over bounds.low first → IsTrue r ↔ Under bounds.high last → IsTrue r ↔ AreWithin bounds es
last_tells bounds es d e first last r some up first_is last_is over under =
    let x = get_or es 0 d in
    let y = get_or es (length es - 1) e in
    let x_is : x ≡ get_or es 0 x = get_or_default es 0 d x some in
    let y_is : y ≡ get_or es (length es - 1) y = get_or_default es (length es - 1) e y (omega (arith, some)) in
    both_within bounds es x y r some up x_is y_is (subst (Over bounds.low) (first_is ∙ ap (λ (z : Element). z.0) x_is) over)
    (subst (λ key. IsTrue r ↔ Under bounds.high key) (last_is ∙ ap (λ (z : Element). z.0) y_is) under)

-- a first key out of its bound tells that the keys aren't within
pub first_tells : (bounds : Bounds) (es : List Element) (d : Element) (first : List ℕ) (r : Bool) → 0 < length es → first ≡ (get_or es 0 d).0 → IsTrue r ↔ Over bounds.low first → r ≡ false → IsTrue r ↔ AreWithin bounds es
first_tells bounds es d first r some first_is over no_over =
    let x = get_or es 0 d in
    (λ yes. absurd (false≢true (sym no_over ∙ yes)), λ within. over.1 (subst (Over bounds.low) (sym first_is) (Each_at (λ (z : Element). Over bounds.low z.0) es 0 x within.over some (get_or_default es 0 d x some))))

-- what a step says of the node at the head of a tree
head_of : (k : ℕ) (pages : PageMap) (least : ℕ) (spot : Spot) (es : List Element) (us : List ℕ) (key : List ℕ) (step : Step) → 0 < spot.level → TreeAt k pages least spot.level spot.page es us → Between spot.bounds es → ((m : Node) → Spells k pages spot.page m → BelongsAt spot m → Steps spot.level m spot.bounds key step)
    → (n : Node) × Top k pages least spot.level (spot.level - 1) spot.page es us spot.bounds n × Steps spot.level n spot.bounds key step
head_of k pages least spot es us key step some tree between tells =
    let head = top k pages least spot.level (spot.level - 1) spot.page es us spot.bounds (omega (arith, some)) tree between in
    (head.0, head.1, tells head.0 head.1.spells (record { kind = head.1.kind; within = head.1.within }))

-- the record that was found is that of the tree
pub found_tells : (k : ℕ) (pages : PageMap) (least : ℕ) (spot : Spot) (es : List Element) (us : List ℕ) (key value : List ℕ) (i : ℕ) → 0 < spot.level → TreeAt k pages least spot.level spot.page es us → Between spot.bounds es
    → ((m : Node) → Spells k pages spot.page m → BelongsAt spot m → Steps spot.level m spot.bounds key (Found i value)) → Some value ≡ lookup_in key es
found_tells k pages least spot es us key value i some tree between tells =
    let h = head_of k pages least spot es us key (Found i value) some tree between tells in
    let els = h.0.elements.items in
    let x = get_or els i ([], []) in
    ap Some (h.2.1 ([], []))
    ∙ find_here (TreeAt k pages k (spot.level - 1)) (spot.level - 1) h.0 es h.1.below key i x h.1.body between.ascends h.2.0 (get_or_default els i ([], []) x h.2.0.within)

-- where the search ends, the tree has no record
pub ends_tells : (k : ℕ) (pages : PageMap) (least : ℕ) (spot : Spot) (es : List Element) (us : List ℕ) (key : List ℕ) (i : ℕ) → 0 < spot.level → TreeAt k pages least spot.level spot.page es us → Between spot.bounds es
    → ((m : Node) → Spells k pages spot.page m → BelongsAt spot m → Steps spot.level m spot.bounds key (Ends i)) → None ≡ lookup_in key es
ends_tells k pages least spot es us key i some tree between tells =
    let h = head_of k pages least spot es us key (Ends i) some tree between tells in
    find_no_more (TreeAt k pages k (spot.level - 1)) (spot.level - 1) h.0 es h.1.below key i (omega (arith, h.2.0)) h.1.body h.2.1

-- the tree below the son that the search goes to
pub record Under_son (k : ℕ) (pages : PageMap) (level son : ℕ) (b : Bounds) (es : List Element) (key : List ℕ) : Type 0 where
  pub xs : List Element
  pub mine : List ℕ
  pub tree : TreeAt k pages k level son xs mine
  pub between : Between b xs
  pub same : lookup_in key xs ≡ lookup_in key es

-- the step to a son tells of the tree below it
pub goes_tells : (k : ℕ) (pages : PageMap) (least : ℕ) (spot : Spot) (es : List Element) (us : List ℕ) (key : List ℕ) (i son : ℕ) (b : Bounds) → 0 < spot.level → TreeAt k pages least spot.level spot.page es us → Between spot.bounds es
    → ((m : Node) → Spells k pages spot.page m → BelongsAt spot m → Steps spot.level m spot.bounds key (Goes i son b)) → Under_son k pages (spot.level - 1) son b es key
goes_tells k pages least spot es us key i son b some tree between tells =
    let h = head_of k pages least spot es us key (Goes i son b) some tree between tells in
    let s = find_son (TreeAt k pages k (spot.level - 1)) (spot.level - 1) h.0 es h.1.below key i spot.bounds (omega (arith, h.2.0)) h.1.body between h.2.1 in
    record {
      xs = s.xs;
      mine = s.mine;
      tree = subst (λ (p : ℕ). TreeAt k pages k (spot.level - 1) p s.xs s.mine) (sym h.2.2) s.here;
      between = subst (λ (x : Bounds). Between x s.xs) (sym h.2.3) s.between;
      same = s.same;
    }

-- the search leads on from the son
pub goes_leads : (k : ℕ) (pages pages2 : PageMap) (spot : Spot) (n : Node) (key : List ℕ) (i son : ℕ) (b : Bounds) (found : Option (List ℕ)) → pages2 ≡ pages → Spells k pages spot.page n → BelongsAt spot n
    → Steps spot.level n spot.bounds key (Goes i son b) → Leads (Spells k pages2) key (spot.level - 1) son b found → Leads (Spells k pages) key spot.level spot.page spot.bounds found
goes_leads k pages pages2 spot n key i son b found pages_is spells belongs (high, place, son_is, b_is) leads =
    let low_is : spot.level - 1 ≡ suc (spot.level - 2) = omega (arith, high) in
    leads_on (Spells k pages) key spot.level (spot.level - 2) spot.page spot.bounds n i found (omega (arith, high)) spells belongs.kind belongs.within place
    (leads_below k pages pages2 key (spot.level - 1) (spot.level - 2) son (get_or n.sons.items i 0) (son_bounds n.elements.items i spot.bounds) b found pages_is low_is son_is b_is leads)
