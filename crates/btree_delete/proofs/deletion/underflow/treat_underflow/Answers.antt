use Rattle.std.proofs.Common.{◌≡◌, ◌+◌, ◌-◌, ℕ, suc, [], ◌∷◌, ◌++◌, true, false, IsSome, ap, sym, ◌∙◌, subst, arith}
use Rattle.page_store.specs.PageMap.{at}
use Rattle.btree_node.specs.declared.node.Node.{Node}
use Rattle.btree_insert.specs.Bounds.{AreWithin, son_bounds}
use Rattle.btree_insert.specs.PageTrees.{Spells, kind_of_level}
use Rattle.btree_delete.specs.declared.deletion.subtree.Subtree.{Subtree}
use Rattle.btree_delete.specs.Treatment.{son_number, Treats, brothers}
use Rattle.btree_delete.specs.Shrinking.{MayBeUnderfull}
use Rattle.btree_delete.specs.Subtrees.{son_tree}
use Rattle.btree_delete.specs.Tidy.{is_visited, Untouched, so_far}
use Rattle.btree_delete.proofs.UnderfullNodeLemmas.{are_brothers, both_fit, treated_may_be_underfull}
use Rattle.btree_delete.proofs.EditLemmas.{visited_differs, visit_stays, visit_one_more, treat_tidy_left, treat_tidy_right, treats_others}
use Rattle.btree_delete.proofs.deletion.underflow.treat_underflow.Given as given
use Rattle.btree_delete.proofs.deletion.underflow.treat_underflow.Goals as goal
use Rattle.btree_delete.proofs.deletion.underflow.treat_underflow.Goals.{After-visit, After-visit-2}

-- the father by the height of its sons
module _ (g : given.Over) (c : After-visit g) where
  level_is : c.args.tree.now.height ≡ c.args.tree.now.height - 1 + 1
  level_is = omega (arith, c.requires.sons.height)

  next_is : c.tree_of_son-next.result ≡ son_tree c.args.tree.now c.args.father.now (suc c.args.i)
  next_is = c.tree_of_son-next.ensures ∙ ap (son_tree c.args.tree.now c.args.father.now) (omega arith)

  father : MayBeUnderfull c.args.tree.now.order (c.args.tree.now.height - 1 + 1) c.args.tree.now.bounds c.args.father.now
  father = subst (λ (h : ℕ). MayBeUnderfull c.args.tree.now.order h c.args.tree.now.bounds c.args.father.now) level_is c.requires.sons.father

  right_stands : let next = c.tree_of_son-next.result in MayBeUnderfull next.order next.height next.bounds c.visit.new.node
      → let S = son_tree c.args.tree.now c.args.father.now (suc c.args.i) in MayBeUnderfull S.order S.height S.bounds c.visit.new.node
  right_stands = subst (λ (x : Subtree). MayBeUnderfull x.order x.height x.bounds c.visit.new.node) next_is

pub treat_pair-requires-clause-brothers : goal.treat_pair-requires-clause-brothers
treat_pair-requires-clause-brothers g c =
    let p = (goal.at.treat_pair-requires-clause-brothers g c).After-visit in
    are_brothers c.args.tree.now.order (c.args.tree.now.height - 1) c.args.i c.args.tree.now.bounds c.args.father.now c.args.son c.visit.new.node (omega arith) (father g p) c.requires.sons.son (right_stands g p c.in_ok-visit.ensures.stands)

pub treat_pair-requires-clause-fit : goal.treat_pair-requires-clause-fit
treat_pair-requires-clause-fit g c =
    let p = (goal.at.treat_pair-requires-clause-fit g c).After-visit in
    both_fit c.args.tree.now.order (c.args.tree.now.height - 1) c.args.i c.args.tree.now.bounds c.args.father.now c.args.son c.visit.new.node (omega arith) (father g p) c.requires.sons.son (right_stands g p c.in_ok-visit.ensures.stands)

pub returns-then-i-len-clause-right : goal.returns-then-i-len-clause-right
returns-then-i-len-clause-right g c = λ steady low node spells kind within unvisited.
    let t_is = next_is g (goal.at.returns-then-i-len-clause-right g c).After-visit in
    let page_is = ap (λ (x : Subtree). x.page) t_is in
    let asked = subst (λ (x : Subtree). Spells x.order (at c.args.pages.now.pages) x.page node) (sym t_is) spells in
    let bounded = subst (λ (x : Subtree). AreWithin x.bounds node.elements.items) (sym t_is) within in
    let new = subst (λ (q : ℕ). is_visited c.args.visited.now.items q ≡ false) (sym page_is) unvisited in
    let same = c.in_ok-visit.ensures.exact steady node asked (subst (λ (x : Subtree). node.kind ≡ kind_of_level x.height) (sym t_is) kind) bounded new in (
      c.in_ok-visit.ensures.visited.added ∙ ap (λ (q : ℕ). c.args.visited.now.items ++ q ∷ []) page_is,
      subst (λ (r : Node). Treats c.args.tree.now.order c.args.father.now c.treat_pair.new.father (brothers c.args.i c.args.son r) (so_far c.args.edit.now) (so_far c.treat_pair.new.edit)) same c.in_ok-treat_pair.ensures.treats,
    )

pub returns-then-i-len-clause-father : goal.returns-then-i-len-clause-father
returns-then-i-len-clause-father g c =
    let T = c.args.tree.now in
    let p = (goal.at.returns-then-i-len-clause-father g c).After-visit in
    subst (λ (h : ℕ). MayBeUnderfull T.order h T.bounds c.treat_pair.new.father) (sym (level_is g p))
    (treated_may_be_underfull T.order (T.height - 1) c.args.i T.bounds c.args.father.now c.treat_pair.new.father c.args.son c.visit.new.node c.args.edit.now.writes.items c.treat_pair.new.edit.writes.items c.args.edit.now.freed.items c.treat_pair.new.edit.freed.items c.requires.sons.order.0 (omega (arith, c.requires.sons.height)) (omega arith) (father g p) c.requires.sons.son (right_stands g p c.in_ok-visit.ensures.stands) c.in_ok-treat_pair.ensures.treats)

pub returns-then-i-len-clause-treated : goal.returns-then-i-len-clause-treated
returns-then-i-len-clause-treated g c = record {
  tidy =
      let page_is = ap (λ (x : Subtree). x.page) (next_is g (goal.at.returns-then-i-len-clause-treated g c).After-visit) in
      treat_tidy_right c.args.pages.now.pages c.args.visited.now.items c.visit.new.visited.items c.args.tree.now.order c.args.i c.args.father.now c.treat_pair.new.father c.args.son c.visit.new.node c.args.edit.now.writes.items c.treat_pair.new.edit.writes.items c.args.edit.now.freed.items c.treat_pair.new.edit.freed.items
      (c.in_ok-visit.ensures.visited.added ∙ ap (λ (q : ℕ). c.args.visited.now.items ++ q ∷ []) page_is) (subst (λ (q : ℕ). is_visited c.args.visited.now.items q ≡ false) page_is c.in_ok-visit.ensures.visited.fresh)
      c.requires.in_use (subst (λ (q : ℕ). IsSome (at c.args.pages.now.pages q)) page_is c.in_ok-visit.ensures.in_use) c.requires.awaited.here c.requires.awaited.kept c.in_ok-treat_pair.ensures.treats c.requires.tidy;
  others = λ q visited other is.
      let t_is = next_is g (goal.at.returns-then-i-len-clause-treated g c).After-visit in
      let unvisited = subst (λ (x : Subtree). is_visited c.args.visited.now.items x.page ≡ false) t_is c.in_ok-visit.ensures.visited.fresh in
      treats_others q c.args.tree.now.order c.args.i c.args.father.now c.treat_pair.new.father c.args.son c.visit.new.node c.args.edit.now.writes.items c.treat_pair.new.edit.writes.items c.args.edit.now.freed.items c.treat_pair.new.edit.freed.items
      other (visited_differs c.args.visited.now.items q (son_number c.args.father.now (suc c.args.i)) visited unvisited) c.in_ok-treat_pair.ensures.treats is;
  stays = λ q is. visit_stays c.args.visited.now.items c.visit.new.visited.items c.tree_of_son-next.result.page q c.in_ok-visit.ensures.visited is;
  one_more = visit_one_more c.args.visited.now.items c.visit.new.visited.items c.tree_of_son-next.result.page c.in_ok-visit.ensures.visited;
}

-- the same of the brother on the left
module _ (g : given.Over) (c : After-visit-2 g) where
  abbrev left : ℕ
  left = c.args.i - 1

  left_is : c.args.i ≡ suc left
  left_is = omega (arith, c.requires.sons.some)

  level_is_left : c.args.tree.now.height ≡ c.args.tree.now.height - 1 + 1
  level_is_left = omega (arith, c.requires.sons.height)

  father_left : MayBeUnderfull c.args.tree.now.order (c.args.tree.now.height - 1 + 1) c.args.tree.now.bounds c.args.father.now
  father_left = subst (λ (h : ℕ). MayBeUnderfull c.args.tree.now.order h c.args.tree.now.bounds c.args.father.now) level_is_left c.requires.sons.father

  son_left : MayBeUnderfull c.args.tree.now.order (c.args.tree.now.height - 1) (son_bounds c.args.father.now.elements.items (suc left) c.args.tree.now.bounds) c.args.son
  son_left = subst (λ (x : ℕ). MayBeUnderfull c.args.tree.now.order (c.args.tree.now.height - 1) (son_bounds c.args.father.now.elements.items x c.args.tree.now.bounds) c.args.son) left_is c.requires.sons.son

  left_stands : let previous = c.tree_of_son-previous.result in MayBeUnderfull previous.order previous.height previous.bounds c.visit-2.new.node
      → let S = son_tree c.args.tree.now c.args.father.now left in MayBeUnderfull S.order S.height S.bounds c.visit-2.new.node
  left_stands = subst (λ (x : Subtree). MayBeUnderfull x.order x.height x.bounds c.visit-2.new.node) c.tree_of_son-previous.ensures

pub treat_pair-requires-2-clause-brothers : goal.treat_pair-requires-2-clause-brothers
treat_pair-requires-2-clause-brothers g c =
    let p = (goal.at.treat_pair-requires-2-clause-brothers g c).After-visit-2 in
    are_brothers c.args.tree.now.order (c.args.tree.now.height - 1) (left g p) c.args.tree.now.bounds c.args.father.now c.visit-2.new.node c.args.son (omega (arith, c.requires.sons.place)) (father_left g p) (left_stands g p c.in_ok-visit-2.ensures.stands) (son_left g p)

pub treat_pair-requires-2-clause-fit : goal.treat_pair-requires-2-clause-fit
treat_pair-requires-2-clause-fit g c =
    let p = (goal.at.treat_pair-requires-2-clause-fit g c).After-visit-2 in
    both_fit c.args.tree.now.order (c.args.tree.now.height - 1) (left g p) c.args.tree.now.bounds c.args.father.now c.visit-2.new.node c.args.son (omega (arith, c.requires.sons.place)) (father_left g p) (left_stands g p c.in_ok-visit-2.ensures.stands) (son_left g p)

pub returns-clause-father : goal.returns-clause-father
returns-clause-father g c =
    let T = c.args.tree.now in
    let p = (goal.at.returns-clause-father g c).After-visit-2 in
    subst (λ (h : ℕ). MayBeUnderfull T.order h T.bounds c.treat_pair-2.new.father) (sym (level_is_left g p))
    (treated_may_be_underfull T.order (T.height - 1) (left g p) T.bounds c.args.father.now c.treat_pair-2.new.father c.visit-2.new.node c.args.son c.args.edit.now.writes.items c.treat_pair-2.new.edit.writes.items c.args.edit.now.freed.items c.treat_pair-2.new.edit.freed.items c.requires.sons.order.0 (omega (arith, c.requires.sons.height)) (omega (arith, c.requires.sons.place)) (father_left g p) (left_stands g p c.in_ok-visit-2.ensures.stands) (son_left g p) c.in_ok-treat_pair-2.ensures.treats)

pub returns-clause-treated : goal.returns-clause-treated
returns-clause-treated g c = record {
  tidy =
      let p = (goal.at.returns-clause-treated g c).After-visit-2 in
      let page_is = ap (λ (x : Subtree). x.page) c.tree_of_son-previous.ensures in
      let s_is = ap (son_number c.args.father.now) (left_is g p) in
      treat_tidy_left c.args.pages.now.pages c.args.visited.now.items c.visit-2.new.visited.items c.args.tree.now.order (left g p) c.args.father.now c.treat_pair-2.new.father c.visit-2.new.node c.args.son c.args.edit.now.writes.items c.treat_pair-2.new.edit.writes.items c.args.edit.now.freed.items c.treat_pair-2.new.edit.freed.items
      (c.in_ok-visit-2.ensures.visited.added ∙ ap (λ (q : ℕ). c.args.visited.now.items ++ q ∷ []) page_is) (subst (λ (q : ℕ). is_visited c.args.visited.now.items q ≡ false) page_is c.in_ok-visit-2.ensures.visited.fresh)
      (subst (λ (q : ℕ). IsSome (at c.args.pages.now.pages q)) page_is c.in_ok-visit-2.ensures.in_use) (subst (λ (q : ℕ). IsSome (at c.args.pages.now.pages q)) s_is c.requires.in_use)
      (subst (λ (q : ℕ). is_visited c.args.visited.now.items q ≡ true) s_is c.requires.awaited.here) (subst (λ (q : ℕ). Untouched c.args.edit.now.writes.items c.args.edit.now.freed.items q) s_is c.requires.awaited.kept) c.in_ok-treat_pair-2.ensures.treats c.requires.tidy;
  others = λ q visited other is.
      let p = (goal.at.returns-clause-treated g c).After-visit-2 in
      let unvisited = subst (λ (x : Subtree). is_visited c.args.visited.now.items x.page ≡ false) c.tree_of_son-previous.ensures c.in_ok-visit-2.ensures.visited.fresh in
      treats_others q c.args.tree.now.order (left g p) c.args.father.now c.treat_pair-2.new.father c.visit-2.new.node c.args.son c.args.edit.now.writes.items c.treat_pair-2.new.edit.writes.items c.args.edit.now.freed.items c.treat_pair-2.new.edit.freed.items
      (visited_differs c.args.visited.now.items q (son_number c.args.father.now (left g p)) visited unvisited) (λ e. other (e ∙ sym (ap (son_number c.args.father.now) (left_is g p)))) c.in_ok-treat_pair-2.ensures.treats is;
  stays = λ q is. visit_stays c.args.visited.now.items c.visit-2.new.visited.items c.tree_of_son-previous.result.page q c.in_ok-visit-2.ensures.visited is;
  one_more = visit_one_more c.args.visited.now.items c.visit-2.new.visited.items c.tree_of_son-previous.result.page c.in_ok-visit-2.ensures.visited;
}
