-- A place among keys, and the bounds of the son at that place.
use Rattle.std.proofs.Common.{◌≡◌, ℕ, zero, suc, ◌+◌, ◌<◌, ◌≤◌, Option, Some, None, List, [], ◌∷◌, length, get_or, set, take, drop, ap, sym, ◌∙◌, subst, arith}
use Rattle.std.specs.List.{insert}
use Rattle.std.proofs.lemmas.List.{length-set}
use Rattle.std.proofs.lemmas.List.Edits.{length-insert}
use Rattle.btree_node.specs.declared.node.Node.{Node}
use Rattle.btree_node.specs.declared.node.NodeKind.{NodeKind}
use Rattle.btree_node.specs.declared.node.NodeKind.TheVariants.{Leaf, Inner}
use Rattle.btree_node.specs.Layout.{second_layout}
use Rattle.btree_node.specs.Lists.{Element, Each, Below, Ascends, IsAt, IsPlace}
use Rattle.btree_node.specs.Spelling.{ElementFits, IsSon, SonsFit, CanStand}
use Rattle.btree_node.proofs.ElementOrderLemmas.{Each-map, Below-trans}
use Rattle.btree_insert.specs.declared.bounds.Bounds.{Bounds}
use Rattle.btree_insert.specs.Bounds.{Over, Under, AreWithin, low_at, high_at, son_bounds}
use Rattle.btree_insert.specs.Growth.{IsWithin, MayBeOverfull}
use Rattle.btree_insert.proofs.EditFitLemmas.{Each-insert, Each-set, insert_ascends}

above_next : (e : Element) (els : List Element) (i : ℕ) (key : List ℕ) → Ascends (e ∷ els) → Over (low_at els i (Some e.0)) key → Below e.0 key × Each (λ x. Below x.0 key) (take i els)
above_next e els zero key up over = (at_first els over, tt)
  where
    at_first : (xs : List Element) → Over (low_at xs 0 (Some e.0)) key → Below e.0 key
    at_first [] is = is
    at_first (x ∷ xs) is = is
above_next e [] (suc i) key up over = (over, tt)
above_next e (x ∷ els) (suc i) key up over =
    let rest = above_next x els i key up.1 over in
    (Below-trans e.0 x.0 key up.0.0 rest.0, rest)

low_place : (els : List Element) (i : ℕ) (low : Option (List ℕ)) (key : List ℕ) → Ascends els → Over (low_at els i low) key → Each (λ e. Below e.0 key) (take i els)
low_place els zero low key up over = tt
low_place [] (suc i) low key up over = tt
low_place (e ∷ els) (suc i) low key up over = above_next e els i key up over

high_place : (els : List Element) (i : ℕ) (high : Option (List ℕ)) (key : List ℕ) → Ascends els → Under (high_at els i high) key → Each (λ e. Below key e.0) (drop i els)
high_place [] zero high key up under = tt
high_place [] (suc i) high key up under = tt
high_place (e ∷ els) zero high key up under = (under, Each-map (λ (x : Element). Below e.0 x.0) (λ x. Below key x.0) els (λ x over. Below-trans key e.0 x.0 under over) up.0)
high_place (e ∷ els) (suc i) high key up under = high_place els i high key up.1 under

-- a key within the bounds of a son would stand at that son's place
pub within_place : (els : List Element) (i : ℕ) (b : Bounds) (key : List ℕ) → i ≤ length els → Ascends els → IsWithin (son_bounds els i b) key → IsPlace els key i
within_place els i b key within up is = record { within = within; below = low_place els i b.low key up is.0; above = high_place els i b.high key up is.1 }

low_within : (els : List Element) (i : ℕ) (low : Option (List ℕ)) (key : List ℕ) → Over low key → Each (λ e. Below e.0 key) (take i els) → Over (low_at els i low) key
low_within [] i low key over each = over
low_within (e ∷ els) zero low key over each = over
low_within (e ∷ els) (suc i) low key over each = low_within els i (Some e.0) key each.0 each.1

high_within : (els : List Element) (i : ℕ) (high : Option (List ℕ)) (key : List ℕ) → Under high key → Each (λ e. Below key e.0) (drop i els) → Under (high_at els i high) key
high_within [] i high key under each = under
high_within (e ∷ els) zero high key under each = each.0
high_within (e ∷ els) (suc i) high key under each = high_within els i high key under each

-- and a key of that place is within the bounds of the son
pub place_within : (els : List Element) (i : ℕ) (b : Bounds) (key : List ℕ) → IsWithin b key → IsPlace els key i → IsWithin (son_bounds els i b) key
place_within els i b key is place = (low_within els i b.low key is.0 place.below, high_within els i b.high key is.1 place.above)

-- above a key that is over a bound is over it
pub over_trans : (low : Option (List ℕ)) (x key : List ℕ) → Over low x → Below x key → Over low key
over_trans None x key over below = tt
over_trans (Some low) x key over below = Below-trans low x key over below

-- below a key that is under a bound is under it
pub under_trans : (high : Option (List ℕ)) (x key : List ℕ) → Under high x → Below key x → Under high key
under_trans None x key under below = tt
under_trans (Some high) x key under below = Below-trans key x high below under

low_up : (els : List Element) (i : ℕ) (low : Option (List ℕ)) (key : List ℕ) → Ascends els → Each (λ e. Over low e.0) els → Over (low_at els i low) key → Over low key
low_up [] i low key up each over = over
low_up (e ∷ els) zero low key up each over = over
low_up (e ∷ els) (suc i) low key up each over = over_trans low e.0 key each.0 (above_next e els i key up over).0

high_up : (els : List Element) (i : ℕ) (high : Option (List ℕ)) (key : List ℕ) → Each (λ e. Under high e.0) els → Under (high_at els i high) key → Under high key
high_up [] i high key each under = under
high_up (e ∷ els) zero high key each under = under_trans high e.0 key each.0 under
high_up (e ∷ els) (suc i) high key each under = high_up els i high key each.1 under

-- a key within the bounds of a son is within those of the page
pub son_within : (els : List Element) (i : ℕ) (b : Bounds) (key : List ℕ) → Ascends els → AreWithin b els → IsWithin (son_bounds els i b) key → IsWithin b key
son_within els i b key up each is = (low_up els i b.low key up each.over is.0, high_up els i b.high key each.under is.1)

-- one more element within the bounds
pub insert_within : (b : Bounds) (els : List Element) (i : ℕ) (e : Element) → AreWithin b els → IsWithin b e.0 → AreWithin b (insert els i e)
insert_within b els i e each is = record {
  over = Each-insert (λ x. Over b.low x.0) els i e each.over is.0;
  under = Each-insert (λ x. Under b.high x.0) els i e each.under is.1;
}

pub leaf_sons : (kind : NodeKind) (count more : ℕ) (sons : List ℕ) → kind ≡ Leaf → SonsFit kind count sons → SonsFit kind more sons
leaf_sons Leaf count more sons is fit = fit
leaf_sons Inner count more sons is fit = absurd (cc)

-- a leaf with one more element
pub leaf_may_be_overfull : (k : ℕ) (n m : Node) (i : ℕ) (e : Element) → CanStand n k → n.kind ≡ Leaf → IsPlace n.elements.items e.0 i → ElementFits second_layout e → m.kind ≡ n.kind → m.elements.items ≡ insert n.elements.items i e → m.sons.items ≡ n.sons.items → MayBeOverfull k m
leaf_may_be_overfull k n m i e stands leaf place fits kind_is els_is sons_is =
    let size = ap length els_is ∙ length-insert n.elements.items i e place.within in
    record {
      some = omega (arith, size);
      most = omega (arith, size, stands.most);
      fit = subst (Each (ElementFits second_layout)) (sym els_is) (Each-insert (ElementFits second_layout) n.elements.items i e stands.fit fits);
      ascends = subst Ascends (sym els_is) (insert_ascends e n.elements.items i stands.ascends place);
      sons = subst (λ (kind : NodeKind). SonsFit kind (length m.elements.items) m.sons.items) (sym kind_is)
          (subst (λ (sons : List ℕ). SonsFit n.kind (length m.elements.items) sons) (sym sons_is) (leaf_sons n.kind (length n.elements.items) (length m.elements.items) n.sons.items leaf stands.sons));
    }

inner_sons : (kind : NodeKind) (count more i r : ℕ) (sons : List ℕ) → kind ≡ Inner → more ≡ count + 1 → i ≤ count → IsSon r → SonsFit kind count sons → SonsFit kind more (insert sons (suc i) r)
inner_sons Leaf count more i r sons is one within son fit = absurd (cc)
inner_sons Inner count more i r sons is one within son fit =
    let size = length-insert sons (suc i) r (omega (arith, fit.0)) in
    (omega (arith, size, fit.0), Each-insert IsSon sons (suc i) r fit.1 son)

-- an inner node with one more element and a son behind it
pub inner_may_be_overfull : (k : ℕ) (n m : Node) (i r : ℕ) (e : Element) → CanStand n k → n.kind ≡ Inner → IsPlace n.elements.items e.0 i → ElementFits second_layout e → IsSon r → m.kind ≡ n.kind → m.elements.items ≡ insert n.elements.items i e → m.sons.items ≡ insert n.sons.items (suc i) r → MayBeOverfull k m
inner_may_be_overfull k n m i r e stands inner place fits son kind_is els_is sons_is =
    let size = ap length els_is ∙ length-insert n.elements.items i e place.within in
    record {
      some = omega (arith, size);
      most = omega (arith, size, stands.most);
      fit = subst (Each (ElementFits second_layout)) (sym els_is) (Each-insert (ElementFits second_layout) n.elements.items i e stands.fit fits);
      ascends = subst Ascends (sym els_is) (insert_ascends e n.elements.items i stands.ascends place);
      sons = subst (λ (kind : NodeKind). SonsFit kind (length m.elements.items) m.sons.items) (sym kind_is)
          (subst (λ (sons : List ℕ). SonsFit n.kind (length m.elements.items) sons) (sym sons_is) (inner_sons n.kind (length n.elements.items) (length m.elements.items) i r n.sons.items inner size place.within son stands.sons));
    }

same_place_above : (e x : Element) (els : List Element) → e.0 ≡ x.0 → Each (λ later. Below x.0 later.0) els → Each (λ later. Below e.0 later.0) els
same_place_above e x els is each = subst (λ (k : List ℕ). Each (λ later. Below k later.0) els) (sym is) each

set_each : (key : List ℕ) (els : List Element) (i : ℕ) (e : Element) (d : Element) → i < length els → e.0 ≡ (get_or els i d).0 → Each (λ x. Below key x.0) els → Each (λ x. Below key x.0) (set els i e)
set_each key [] i e d low is each = tt
set_each key (x ∷ els) zero e d low is each = (subst (Below key) (sym is) each.0, each.1)
set_each key (x ∷ els) (suc i) e d low is each = (each.0, set_each key els i e d (omega arith) is each.1)

-- another record at a key
pub set_ascends : (els : List Element) (i : ℕ) (e d : Element) → i < length els → e.0 ≡ (get_or els i d).0 → Ascends els → Ascends (set els i e)
set_ascends [] i e d low is up = tt
set_ascends (x ∷ els) zero e d low is up = (same_place_above e x els is up.0, up.1)
set_ascends (x ∷ els) (suc i) e d low is up = (set_each x.0 els i e d (omega arith) is up.0, set_ascends els i e d (omega arith) is up.1)

-- a node with another record at a key can stand
pub set_stands : (k : ℕ) (n m : Node) (i : ℕ) (e : Element) → CanStand n k → IsAt n.elements.items e.0 i → ElementFits second_layout e → m.kind ≡ n.kind → m.elements.items ≡ set n.elements.items i e → m.sons.items ≡ n.sons.items → CanStand m k
set_stands k n m i e stands place fits kind_is els_is sons_is =
    let size = ap length els_is ∙ length-set n.elements.items i e in
    record {
      some = omega (arith, size, stands.some);
      most = omega (arith, size, stands.most);
      fit = subst (Each (ElementFits second_layout)) (sym els_is) (Each-set (ElementFits second_layout) n.elements.items i e stands.fit fits);
      ascends = subst Ascends (sym els_is) (set_ascends n.elements.items i e e place.within (sym (place.here e)) stands.ascends);
      sons = subst (λ (kind : NodeKind). SonsFit kind (length m.elements.items) m.sons.items) (sym kind_is)
          (subst (λ (sons : List ℕ). SonsFit n.kind (length m.elements.items) sons) (sym sons_is) (subst (λ (c : ℕ). SonsFit n.kind c n.sons.items) (sym size) stands.sons));
    }
