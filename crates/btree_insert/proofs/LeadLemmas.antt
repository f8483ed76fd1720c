-- A step of a search agrees with what the pages lead to.
use Rattle.std.proofs.Common.{◌≡◌, ℕ, zero, suc, ◌-◌, ◌<◌, ◌⊎◌, inl, inr, Option, Some, None, List, [], ◌∷◌, get_or, refl, sym, ap, ◌∙◌, subst, arith}
use Rattle.page_store.specs.PageMap.{PageMap}
use Rattle.btree_node.specs.declared.node.Node.{Node}
use Rattle.btree_node.specs.Lists.{Element, Below, IsAt, IsPlace}
use Rattle.btree_node.proofs.ElementOrderLemmas.{Below-trans}
use Rattle.btree_insert.specs.declared.bounds.Bounds.{Bounds}
use Rattle.btree_insert.specs.declared.step.Spot.{Spot}
use Rattle.btree_insert.specs.declared.step.Step.TheVariants.{Found, Ends, Goes}
use Rattle.btree_insert.specs.Bounds.{son_bounds}
use Rattle.btree_insert.specs.PageTrees.{Spells, kind_of_level}
use Rattle.btree_insert.specs.Reached.{Leads, GoesOn}
use Rattle.btree_insert.specs.Steps.{Steps, BelongsAt}
use Rattle.btree_insert.proofs.DistinctPageLemmas.{irreflexive}

-- a key is not on two sides of another
not_both : (x key : List ℕ) → Below x key → Below key x → ⊥
not_both x key low high = irreflexive x (Below-trans x key x low high)

not_same : (x key : List ℕ) → x ≡ key → Below x key → ⊥
not_same x key same low = irreflexive key (subst (λ z. Below z key) same low)

not_over : (x key : List ℕ) → x ≡ key → Below key x → ⊥
not_over x key same high = irreflexive key (subst (Below key) same high)

-- a key has one place
same_place : (els : List Element) (key : List ℕ) (i j : ℕ) → IsPlace els key i → IsPlace els key j → i ≡ j
same_place els key zero zero p q = refl
same_place [] key zero (suc j) p q = absurd (omega (arith, q.within))
same_place [] key (suc i) j p q = absurd (omega (arith, p.within))
same_place (e ∷ els) key zero (suc j) p q = absurd (not_both e.0 key q.below.0 p.above.0)
same_place (e ∷ els) key (suc i) zero p q = absurd (not_both e.0 key p.below.0 q.above.0)
same_place (e ∷ els) key (suc i) (suc j) p q =
    ap suc (same_place els key i j (record { within = omega (arith, p.within); below = p.below.1; above = p.above }) (record { within = omega (arith, q.within); below = q.below.1; above = q.above }))

-- a key stands once
same_at : (els : List Element) (key : List ℕ) (i j : ℕ) → IsAt els key i → IsAt els key j → i ≡ j
same_at els key zero zero p q = refl
same_at [] key zero (suc j) p q = absurd (omega (arith, q.within))
same_at [] key (suc i) j p q = absurd (omega (arith, p.within))
same_at (e ∷ els) key zero (suc j) p q = absurd (not_same e.0 key (p.here e) q.below.0)
same_at (e ∷ els) key (suc i) zero p q = absurd (not_same e.0 key (q.here e) p.below.0)
same_at (e ∷ els) key (suc i) (suc j) p q =
    ap suc (same_at els key i j (record { within = omega (arith, p.within); below = p.below.1; here = p.here; above = p.above }) (record { within = omega (arith, q.within); below = q.below.1; here = q.here; above = q.above }))

-- a key that stands in a list has no place between its keys
at_no_place : (els : List Element) (key : List ℕ) (i j : ℕ) → IsAt els key i → IsPlace els key j → ⊥
at_no_place [] key i j p q = omega (arith, p.within)
at_no_place (e ∷ els) key zero zero p q = not_over e.0 key (p.here e) q.above.0
at_no_place (e ∷ els) key zero (suc j) p q = not_same e.0 key (p.here e) q.below.0
at_no_place (e ∷ els) key (suc i) zero p q = not_both e.0 key p.below.0 q.above.0
at_no_place (e ∷ els) key (suc i) (suc j) p q =
    at_no_place els key i j (record { within = omega (arith, p.within); below = p.below.1; here = p.here; above = p.above }) (record { within = omega (arith, q.within); below = q.below.1; above = q.above })

-- what a lead says of a node: it has the key's record, or the key has a place from which the search goes on
abbrev pub Meets : List Element → List ℕ → ℕ → Option (List ℕ) → Type 0 → Type 0
Meets els key j led on = (IsAt els key j × ((d : Element) → led ≡ Some (get_or els j d).1)) ⊎ (IsPlace els key j × on)

found_meets : (els : List Element) (key value : List ℕ) (i j : ℕ) (led : Option (List ℕ)) (on : Type 0) → IsAt els key i → ((d : Element) → value ≡ (get_or els i d).1)
    → Meets els key j led on → Some value ≡ led
found_meets els key value i j led on here value_is (inl (there, led_is)) =
    let d : Element = ([], []) in
    ap Some (value_is d) ∙ ap (λ x. Some (get_or els x d).1) (same_at els key i j here there) ∙ sym (led_is d)
found_meets els key value i j led on here value_is (inr (place, goes)) = absurd (at_no_place els key i j here place)

place_meets : (els : List Element) (key : List ℕ) (i j : ℕ) (led : Option (List ℕ)) (on : Type 0) → IsPlace els key i
    → Meets els key j led on → (i ≡ j) × on
place_meets els key i j led on place (inl (there, led_is)) = absurd (at_no_place els key j i there place)
place_meets els key i j led on place (inr (other, goes)) = (same_place els key i j place other, goes)

-- the levels below a spot
levels_of : (k : ℕ) (pages : PageMap) (spot : Spot) (key : List ℕ) (led : Option (List ℕ)) → 0 < spot.level → Leads (Spells k pages) key spot.level spot.page spot.bounds led → Leads (Spells k pages) key (suc (spot.level - 1)) spot.page spot.bounds led
levels_of k pages spot key led some leads =
    let level_is : spot.level ≡ suc (spot.level - 1) = omega (arith, some) in
    subst (λ x. Leads (Spells k pages) key x spot.page spot.bounds led) level_is leads

-- the node of the page at a spot, and what the lead says of it
pub record Led (k : ℕ) (pages : PageMap) (spot : Spot) (key : List ℕ) (led : Option (List ℕ)) : Type 0 where
  pub node : Node
  pub spells : Spells k pages spot.page node
  pub belongs : BelongsAt spot node
  pub place : ℕ
  pub meets : Meets node.elements.items key place led (GoesOn (Leads (Spells k pages) key (spot.level - 1)) (spot.level - 1) node place spot.bounds led)

pub led_node : (k : ℕ) (pages : PageMap) (spot : Spot) (key : List ℕ) (led : Option (List ℕ)) → 0 < spot.level → Leads (Spells k pages) key spot.level spot.page spot.bounds led → Led k pages spot key led
led_node k pages spot key led some leads =
    let level_is : suc (spot.level - 1) ≡ spot.level = omega (arith, some) in
    let l = levels_of k pages spot key led some leads in
    record {
      node = l.0;
      spells = l.1;
      belongs = record { kind = l.2 ∙ ap kind_of_level level_is; within = l.3 };
      place = l.4;
      meets = l.5;
    }

-- the record that was found is the one led to
pub found_is_led : (k : ℕ) (pages : PageMap) (spot : Spot) (key value : List ℕ) (i : ℕ) (led : Option (List ℕ)) → 0 < spot.level → Leads (Spells k pages) key spot.level spot.page spot.bounds led
    → ((m : Node) → Spells k pages spot.page m → BelongsAt spot m → Steps spot.level m spot.bounds key (Found i value)) → Some value ≡ led
found_is_led k pages spot key value i led some leads tells =
    let l = led_node k pages spot key led some leads in
    let step = tells l.node l.spells l.belongs in
    found_meets l.node.elements.items key value i l.place led (GoesOn (Leads (Spells k pages) key (spot.level - 1)) (spot.level - 1) l.node l.place spot.bounds led) step.0 step.1 l.meets

-- where the search ends, the pages lead to nothing
pub end_is_led : (k : ℕ) (pages : PageMap) (spot : Spot) (key : List ℕ) (i : ℕ) (led : Option (List ℕ)) → 0 < spot.level → Leads (Spells k pages) key spot.level spot.page spot.bounds led
    → ((m : Node) → Spells k pages spot.page m → BelongsAt spot m → Steps spot.level m spot.bounds key (Ends i)) → None ≡ led
end_is_led k pages spot key i led some leads tells =
    let l = led_node k pages spot key led some leads in
    let step = tells l.node l.spells l.belongs in
    let met = place_meets l.node.elements.items key i l.place led (GoesOn (Leads (Spells k pages) key (spot.level - 1)) (spot.level - 1) l.node l.place spot.bounds led) step.1 l.meets in
    let low : spot.level - 1 ≡ 0 = omega (arith, step.0) in
    sym (subst (λ x. GoesOn (Leads (Spells k pages) key x) x l.node l.place spot.bounds led) low met.1)

-- the pages lead on from the son
pub son_is_led : (k : ℕ) (pages pages2 : PageMap) (spot : Spot) (key : List ℕ) (i son : ℕ) (b : Bounds) (led : Option (List ℕ)) → pages2 ≡ pages → 0 < spot.level → Leads (Spells k pages) key spot.level spot.page spot.bounds led
    → ((m : Node) → Spells k pages spot.page m → BelongsAt spot m → Steps spot.level m spot.bounds key (Goes i son b)) → Leads (Spells k pages2) key (spot.level - 1) son b led
son_is_led k pages pages2 spot key i son b led pages_is some leads tells =
    let l = led_node k pages spot key led some leads in
    let step = tells l.node l.spells l.belongs in
    let met = place_meets l.node.elements.items key i l.place led (GoesOn (Leads (Spells k pages) key (spot.level - 1)) (spot.level - 1) l.node l.place spot.bounds led) step.1 l.meets in
    let low : spot.level - 1 ≡ suc (spot.level - 2) = omega (arith, step.0) in
    let goes = subst (λ x. GoesOn (Leads (Spells k pages) key x) x l.node l.place spot.bounds led) low met.1 in
    let here = subst (λ (x : ℕ). Leads (Spells k pages) key (suc (spot.level - 2)) (get_or l.node.sons.items x 0) (son_bounds l.node.elements.items x spot.bounds) led) (sym met.0) goes in
    subst (λ (x : PageMap). Leads (Spells k x) key (spot.level - 1) son b led) (sym pages_is)
    (subst (λ (x : ℕ). Leads (Spells k pages) key x son b led) (sym low)
    (subst (λ (x : ℕ). Leads (Spells k pages) key (suc (spot.level - 2)) x b led) (sym step.2)
    (subst (λ (x : Bounds). Leads (Spells k pages) key (suc (spot.level - 2)) (get_or l.node.sons.items i 0) x led) (sym step.3) here)))
