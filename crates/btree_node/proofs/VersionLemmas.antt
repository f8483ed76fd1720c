-- What a page of a file of either version spells can stand in a page that is written.
use Rattle.std.proofs.Common.{ℕ, ◌≤◌, eqb, Bool, true, false, cond, List, [], ◌∷◌, arith}
use Rattle.btree_node.specs.declared.layout.Layout.{Layout}
use Rattle.btree_node.specs.declared.node.Node.{Node}
use Rattle.btree_node.specs.Layout.{first_layout, second_layout, layout_of}
use Rattle.btree_node.specs.Lists.{Element, Each}
use Rattle.btree_node.specs.Spelling.{ElementFits, CanStandIn, CanStand}

fit_written : (layout : Layout) (es : List Element) → layout.record_width ≤ 100 → Each (ElementFits layout) es → Each (ElementFits second_layout) es
fit_written layout [] narrow fit = tt
fit_written layout (e ∷ es) narrow fit = (record { key_some = fit.0.key_some; key_most = fit.0.key_most; record_most = omega (arith, fit.0.record_most, narrow) }, fit_written layout es narrow fit.1)

narrow : (version : ℕ) → (layout_of version).record_width ≤ 100
narrow version = by_case (eqb version 1)
  where
    by_case : (b : Bool) → (cond b first_layout second_layout).record_width ≤ 100
    by_case true = omega arith
    by_case false = omega arith

pub stands_written : (version : ℕ) (n : Node) (k : ℕ) → CanStandIn (layout_of version) n k → CanStand n k
stands_written version n k can = record { some = can.some; most = can.most; fit = fit_written (layout_of version) n.elements.items (narrow version) can.fit; ascends = can.ascends; sons = can.sons }
