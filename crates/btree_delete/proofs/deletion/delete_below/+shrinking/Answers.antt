use Rattle.std.proofs.Common.{rules, length-append, set, ◌≡◌, ◌+◌, ◌-◌, ◌≤◌, IsTrue, ℕ, suc, List, Option, Some, None, [], ◌∷◌, ◌++◌, true, false, length, get_or, refl, ap, sym, ◌∙◌, subst, arith, inr, IsSome, is_some}
use Rattle.std.specs.List.{remove}
use Rattle.std.proofs.lemmas.List.{get_or_default, length-set}
use Rattle.std.proofs.lemmas.Grind.{common_steps}
use Rattle.std.proofs.lemmas.Result.{err_from_is_err_and}
use Rattle.page_store.specs.PageMap.{PageMap, at, after}
use Rattle.page_store.specs.PagesView.{PagesView}
use Rattle.btree_node.specs.declared.node.Node.{Node}
use Rattle.btree_node.specs.Lists.{Element, Each, Ascends}
use Rattle.btree_node.specs.Spelling.{IsElement}
use Rattle.btree_node.proofs.ElementOrderLemmas.{Each_at}
use Rattle.btree_insert.specs.declared.bounds.Bounds.{Bounds}
use Rattle.btree_insert.specs.Bounds.{Between, Over, Under, son_bounds}
use Rattle.btree_insert.specs.Contents.{lookup_in, set_in}
use Rattle.btree_insert.specs.Growth.{IsNotOfPages, IsWithin}
use Rattle.btree_insert.specs.Reached.{Leads}
use Rattle.btree_insert.specs.declared.tree.TreeFault.{TreeFault}
use Rattle.btree_insert.specs.PageTrees.{Apart, TreeAt, Body, Spells, kind_of_level}
use Rattle.btree_insert.proofs.SonsAroundLemmas.{Stands}
use Rattle.btree_insert.proofs.ChangedTreeLemmas.{tree_move}
use Rattle.btree_insert.proofs.ElementMapLemmas.{lookup-here}
use Rattle.btree_insert.proofs.PlaceLemmas.{son_within}
use Rattle.btree_insert.proofs.HeadNodeLemmas.{Top, top, read_top, head_each}
use Rattle.btree_delete.specs.declared.deletion.subtree.Subtree.{Subtree}
use Rattle.btree_delete.specs.Treatment.{element_at, son_number, brothers}
use Rattle.btree_delete.specs.Shrinking.{WritesOrHandsUp, MayBeUnderfull, StaysUnvisited, UnderfullGoesUp, TreatsAndSettles, RemovesBelow, gone, record_gone, sought, Removal, Whole, Underfull, removal, removal_if}
use Rattle.btree_delete.specs.Subtrees.{head_of, son_tree, behind_element, left_bounds, head_page}
use Rattle.btree_delete.specs.Tidy.{is_visited, Untouched, IsAwaited, IsTidy, IsVisit, visits, done_so_far, so_far}
use Rattle.btree_delete.specs.PagesLeft.{pages_freed, with_edit}
use Rattle.btree_delete.specs.Deleted.{MayStop}
use Rattle.btree_delete.proofs.SonCallLemmas.{called_next, CalledNext, BehindShort, BelowShort, Removing, RemovingHere, CalledSon, answered, called_removed, called_son, asked_right, asked_left}
use Rattle.btree_delete.proofs.DeletionLemmas.{drop_leaf, drop_whole, drop_none, drop_broken, drop_treated, next_whole, next_broken, removed_top, none_here, on_unvisited, is_at, outside_stops, stops_outside, device_stops, found_some, some_below}
use Rattle.btree_delete.proofs.SonsLemmas.{IsBeside, Kin, kin_move}
use Rattle.btree_delete.proofs.ElementRemovalLemmas.{remove-between_bounds}
use Rattle.btree_delete.proofs.SettledPageLemmas.{settled_gone, settled_up, settled_tidy, settled_others, here_visit, treated_visit, whole_visit, page_visited}
use Rattle.btree_delete.proofs.DeletionStepLemmas.{AskRight, AskLeft, ask, treat_son, still_unvisited, page_unvisited, below_in, page_in}
use Rattle.btree_delete.proofs.FirstElementLemmas.{Takes, WentUp, more_visited, took_of, some_around, sought_here, sought_none, left_between, left_may_be_underfull, left_son, goes_left, went_up}
use Rattle.btree_delete.proofs.LedLemmas.{here_leads, son_leads}
use Rattle.btree_delete.proofs.UnderfullNodeLemmas.{next_may_be_underfull, set_son_bounds, leaf_without, leaf_behind}
use Rattle.btree_delete.proofs.EditLemmas.{untouched_empty, visited_differs}
use Rattle.btree_delete.proofs.deletion.delete_below.+shrinking.Given as given
use Rattle.btree_delete.proofs.deletion.delete_below.+shrinking.Goals as goal
use Rattle.btree_delete.proofs.deletion.delete_below.+shrinking.Goals.{delete_here-After-index-deref-i, delete_below-After-tree_left-left, delete_below-After-place_to_take, delete_below-After-delete_here, delete_below-After-delete_below, delete_below-In-Some-Underfull, delete_here-After-delete_below, delete_here-After-remove, delete_here-After-set_element, delete_here-After-set_element-in-Underfull}

pub delete_below-returns-in_err-visit-clause-removes : goal.delete_below-returns-in_err-visit-clause-removes
delete_below-returns-in_err-visit-clause-removes g t c = λ steady least es us low tree between apart unvisited.
    let T = c.args.tree.now in
    let P = at c.args.pages.now.pages in
    let p = err_from_is_err_and c.from_residual.result c.from_residual.ensures.1 in
    let new = head_each (λ u. is_visited c.args.visited.now.items u ≡ false) T.order P least T.height T.page es us tree unvisited in
    let head = top T.order P least T.height (T.height - 1) T.page es us T.bounds (omega arith) tree between in
    rw (p.1, p.2) (device_stops (lookup_in (sought c.args.key.now es) es) c.in_err-visit.field-0.0 (c.in_err-visit.ensures.exact steady head.0 head.1.spells head.1.kind head.1.within new))

-- the node that was visited is the one at the head of the tree
module _ (g : given.Over) (t : ℕ) (c : delete_below-After-place_to_take g t) where
  first_of : (steady : IsTrue c.args.pages.now.steady) (least : ℕ) (es : List Element) (us : List ℕ) → TreeAt c.args.tree.now.order (at c.args.pages.now.pages) least c.args.tree.now.height c.args.tree.now.page es us → Between c.args.tree.now.bounds es → Each (λ u. is_visited c.args.visited.now.items u ≡ false) us
      → Top c.args.tree.now.order (at c.args.pages.now.pages) least c.args.tree.now.height (c.args.tree.now.height - 1) c.args.tree.now.page es us c.args.tree.now.bounds c.visit.new.node
  first_of steady least es us tree between unvisited =
      let T = c.args.tree.now in
      let P = at c.args.pages.now.pages in
      let new = head_each (λ u. is_visited c.args.visited.now.items u ≡ false) T.order P least T.height T.page es us tree unvisited in
      read_top T.order P least T.height T.page es us T.bounds (kind_of_level T.height) c.visit.new.node c.requires.tree.height refl (λ m spells kind within. c.in_ok-visit.ensures.exact steady m spells kind within new) tree between

-- what taking an element out of the node answers, where the node is the one at the head
module _ (g : given.Over) (t : ℕ) (c : delete_below-After-delete_here g t) where
  asked_here : (X : ℕ → List Element → List ℕ → Type 0) (steady : IsTrue c.args.pages.now.steady) (least : ℕ) (es : List Element) (us : List ℕ) → (c.visit.new.visited.items ≡ c.args.visited.now.items ++ c.args.tree.now.page ∷ []) → Top c.args.tree.now.order (at c.args.pages.now.pages) least c.args.tree.now.height (c.args.tree.now.height - 1) c.args.tree.now.page es us c.args.tree.now.bounds c.visit.new.node
      → least ≤ c.args.tree.now.order → Between c.args.tree.now.bounds es → Apart us → Each (λ u. is_visited c.args.visited.now.items u ≡ false) us → RemovingHere c.args.tree.now c.visit.new.pages c.visit.new.visited.items c.visit.new.node X → X least es us
  asked_here X steady least es us visited_is first low between apart unvisited removing =
      let T = c.args.tree.now in
      let n = c.visit.new.node in
      let M = c.args.visited.now.items in
      let pages_is = ap (λ (v : PagesView). v.pages) c.visit.ensures.reading.unchanged in
      let steady1 = ap (λ (v : PagesView). v.steady) c.visit.ensures.reading.unchanged ∙ steady in
      let spells1 = subst (λ (x : List (Option (List ℕ))). Spells T.order (at x) T.page n) (sym pages_is) first.spells in
      let body1 = subst (λ (x : List (Option (List ℕ))). Body (TreeAt T.order (at x) T.order (T.height - 1)) (T.height - 1) n es first.below) (sym pages_is) first.body in
      let apart1 = subst Apart first.us_is apart in
      let unvisited1 = subst (Each (λ u. is_visited M u ≡ false)) first.us_is unvisited in
      let later = subst (λ (ms : List ℕ). Each (λ u. is_visited ms u ≡ false) first.below) (sym visited_is) (more_visited M T.page first.below apart1.0 unvisited1.1) in
      removing steady1 least es us first.below low spells1 first.least_is body1 first.us_is between apart later

pub delete_below-delete_here-requires : goal.delete_below-delete_here-requires
delete_below-delete_here-requires g t c = grind (arith, common_steps)

pub delete_below-returns-in_err-shrunk-in-Ok-clause-removes : goal.delete_below-returns-in_err-shrunk-in-Ok-clause-removes
delete_below-returns-in_err-shrunk-in-Ok-clause-removes g t c = λ steady least es us low tree between apart unvisited.
    let p = err_from_is_err_and c.from_residual-in_err-shrunk-in-Ok.result c.from_residual-in_err-shrunk-in-Ok.ensures.1 in
    let at_goal = goal.at.delete_below-returns-in_err-shrunk-in-Ok-clause-removes g t c in
    let first = first_of g t at_goal.After-place_to_take steady least es us tree between unvisited in
    let n = c.visit.new.node in
    let i = c.in-Ok.i in
    let key_is = sought_here c.args.tree.now.order (at c.args.pages.now.pages) (c.args.tree.now.height - 1) n es first.below c.args.key.now i first.body (λ given is. (c.in-Ok.ensures.found given is c.in_ok-visit.ensures.stands.ascends).here ([], [])) (λ none. (c.in-Ok.ensures.first none).0) (λ none. omega (arith, (c.in-Ok.ensures.first none).1)) in
    let some = found_some c.args.tree.now.order (at c.args.pages.now.pages) (c.args.tree.now.height - 1) n es first.below (element_at n i).0 i first.body between.ascends (is_at n.elements.items i c.in_ok-visit.ensures.stands.ascends c.in-Ok.ensures.within) in
    rw (p.1, p.2) (outside_stops (lookup_in (sought c.args.key.now es) es) c.in_err-shrunk-in-Ok.field-0.0 (subst (λ (key : List ℕ). IsSome (lookup_in key es)) key_is some)
    (asked_here g t at_goal.After-delete_here (λ _ _ _. IsNotOfPages c.in_err-shrunk-in-Ok.field-0.0) steady least es us c.in_ok-visit.ensures.visited.added first low between apart unvisited c.in_err-shrunk-in-Ok.ensures.removes))

pub delete_below-returns-in_ok-shrunk-in-Ok-clause-removes : goal.delete_below-returns-in_ok-shrunk-in-Ok-clause-removes
delete_below-returns-in_ok-shrunk-in-Ok-clause-removes g t c = λ steady least es us low tree between apart unvisited.
    let T = c.args.tree.now in
    let n = c.visit.new.node in
    let i = c.in-Ok.i in
    let r = removal c.delete_here.new.node c.in_ok-shrunk-in-Ok.shrunk in
    let ws = c.delete_here.new.edit.writes.items in
    let fs = c.delete_here.new.edit.freed.items in
    let at_goal = goal.at.delete_below-returns-in_ok-shrunk-in-Ok-clause-removes g t c in
    let first = first_of g t at_goal.After-place_to_take steady least es us tree between unvisited in
    let key_is = sought_here T.order (at c.args.pages.now.pages) (T.height - 1) n es first.below c.args.key.now i first.body (λ given is. (c.in-Ok.ensures.found given is c.in_ok-visit.ensures.stands.ascends).here ([], [])) (λ none. (c.in-Ok.ensures.first none).0) (λ none. omega (arith, (c.in-Ok.ensures.first none).1)) in
    removed_top T.order c.args.pages.now.pages c.visit.new.pages.pages ws fs least (T.height - 1) T.page es us c.args.visited.now.items c.visit.new.visited.items c.delete_here.new.visited.items (sought c.args.key.now es) (element_at n i).0 (Some r)
    (ap (λ (v : PagesView). v.pages) c.visit.ensures.reading.unchanged) c.in_ok-visit.ensures.visited.added key_is (page_in T.page us first.below first.us_is)
    (asked_here g t at_goal.After-delete_here (λ low es us. RemovesBelow (head_page T.order low (T.height - 1) T.page) (pages_freed (at c.visit.new.pages.pages) (after (at c.visit.new.pages.pages) ws fs) 0 (length fs)) es us (visits c.visit.new.visited.items c.delete_here.new.visited.items) (element_at n i).0 (Some r)) steady least es us c.in_ok-visit.ensures.visited.added first low between apart unvisited c.in_ok-shrunk-in-Ok.ensures.removes)

pub delete_below-returns-in_ok-shrunk-in-Ok-clause-up : goal.delete_below-returns-in_ok-shrunk-in-Ok-clause-up
delete_below-returns-in_ok-shrunk-in-Ok-clause-up g t c =
    let T = c.args.tree.now in
    let els = c.visit.new.node.elements.items in
    let i = c.in-Ok.i in
    let stands = c.in_ok-visit.ensures.stands in
    let x = element_at c.visit.new.node i in
    let here = get_or_default els i ([], []) x c.in-Ok.ensures.within in
    let took = c.in_ok-shrunk-in-Ok in
    let gone_is = sym took.ensures.gone in
    let edit = c.delete_here.new.edit in (
      subst (λ (e : Element). IsElement e) gone_is (Each_at IsElement els i x stands.fit c.in-Ok.ensures.within here),
      subst (λ (e : Element). IsWithin T.bounds e.0) gone_is (Each_at (λ (e : Element). Over T.bounds.low e.0) els i x stands.within.over c.in-Ok.ensures.within here, Each_at (λ (e : Element). Under T.bounds.high e.0) els i x stands.within.under c.in-Ok.ensures.within here),
      subst (λ (e : Element). UnderfullGoesUp T.order T.height (left_bounds c.args.key.now e T.bounds) T.page edit.writes.items edit.freed.items (removal c.delete_here.new.node took.shrunk)) gone_is
          (goes_left c.args.key.now T.order T.height T.page T.bounds x edit.writes.items edit.freed.items (removal c.delete_here.new.node took.shrunk) took.ensures.up (λ none. took.ensures.first (c.in-Ok.ensures.first none).1 (c.in-Ok.ensures.first none).0)),
    )

pub delete_below-returns-in_ok-shrunk-in-Ok-clause-visits : goal.delete_below-returns-in_ok-shrunk-in-Ok-clause-visits
delete_below-returns-in_ok-shrunk-in-Ok-clause-visits g t c =
    let went = c.in_ok-visit.ensures in
    let took = c.in_ok-shrunk-in-Ok.ensures in
    let edit = c.delete_here.new.edit in record {
      in_use = c.in_ok-visit.ensures.in_use;
      tidy = search rules;
      visit = here_visit c.args.visited.now.items c.visit.new.visited.items c.delete_here.new.visited.items c.args.tree.now.height c.args.tree.now.page edit.writes.items edit.freed.items
          went.visited.added went.visited.fresh took.taken.older took.taken.stays took.taken.few;
    }

pub delete_below-returns-then-tree-eq1-clause-removes : goal.delete_below-returns-then-tree-eq1-clause-removes
delete_below-returns-then-tree-eq1-clause-removes g t c = λ steady least es us low tree between apart unvisited.
    let T = c.args.tree.now in
    let M = c.args.visited.now.items in
    let first = first_of g t (goal.at.delete_below-returns-then-tree-eq1-clause-removes g t c).After-place_to_take steady least es us tree between unvisited in
    record {
      drops = sought_none c.args.key.now es (λ none. (c.in-Err.ensures.first none).1 c.if-tree-eq1.true)
          (λ given is. none_here T.order (at c.args.pages.now.pages) least T.height (T.height - 1) T.page es us T.bounds c.visit.new.node given c.in-Err.i (omega (arith, c.if-tree-eq1.true)) first (c.in-Err.ensures.found given is c.in_ok-visit.ensures.stands.ascends));
      unvisited = subst (λ (ms : List ℕ). StaysUnvisited M ms us) (sym c.in_ok-visit.ensures.visited.added) (page_unvisited M T.page us (page_in T.page us first.below first.us_is));
    }

pub delete_below-returns-then-tree-eq1-clause-visits : goal.delete_below-returns-then-tree-eq1-clause-visits
delete_below-returns-then-tree-eq1-clause-visits g t c =
    let M = c.visit.new.visited.items in
    let edit = c.args.edit.now in
    let none = untouched_empty edit.writes.items edit.freed.items in record {
      in_use = c.in_ok-visit.ensures.in_use;
      tidy = search rules;
      visit = here_visit c.args.visited.now.items M M c.args.tree.now.height c.args.tree.now.page edit.writes.items edit.freed.items
          c.in_ok-visit.ensures.visited.added c.in_ok-visit.ensures.visited.fresh (λ q _ _. none q c.requires.untouched.unwritten c.requires.untouched.unfreed) (λ q is. is) (omega (arith, c.requires.tree.height));
    }

-- the son below which the key is taken out, and what the call on it took out
module _ (g : given.Over) (t : ℕ) (c : delete_below-After-delete_below g t) where
  abbrev levels : ℕ
  levels = c.args.tree.now.height - 1 - 1

  two : c.args.tree.now.height - 1 ≡ suc levels
  two = omega (arith, c.requires.tree.height, c.if-tree-eq1.false)

  abbrev Old : Stands
  Old = TreeAt c.args.tree.now.order (at c.args.pages.now.pages) c.args.tree.now.order (suc levels)

  abbrev changed : PageMap
  changed = after (at c.args.pages.now.pages) c.delete_below.new.edit.writes.items c.delete_below.new.edit.freed.items

  abbrev ToRemove : (new : Stands) (Same : ℕ → Type 0) (least : ℕ) (es : List Element) (us : List ℕ) → Type 0
  ToRemove new Same least es us = CalledSon c.args.tree.now c.tree_of_son-below.result c.args.pages.now c.visit.new.pages c.args.visited.now.items c.visit.new.visited.items c.args.key.now least es us c.visit.new.node c.in-Err.i levels new Same

  abbrev Answers : Option Removal → Type 0
  Answers r =
      let sub = c.tree_of_son-below.result in
      let ps = c.visit.new.pages.pages in
      Removing sub c.visit.new.pages c.visit.new.visited.items (λ least es us. RemovesBelow (head_page sub.order least (sub.height - 1) sub.page) (with_edit (at ps) c.delete_below.new.edit) es us (visits c.visit.new.visited.items c.delete_below.new.visited.items) (sought c.args.key.now es) r)

  module _ (steady : IsTrue c.args.pages.now.steady) (least : ℕ) (es : List Element) (us : List ℕ) (visited_is : c.visit.new.visited.items ≡ c.args.visited.now.items ++ c.args.tree.now.page ∷ []) (ascends : Ascends c.visit.new.node.elements.items) (first : Top c.args.tree.now.order (at c.args.pages.now.pages) least c.args.tree.now.height (c.args.tree.now.height - 1) c.args.tree.now.page es us c.args.tree.now.bounds c.visit.new.node) (between : Between c.args.tree.now.bounds es) (apart : Apart us) (unvisited : Each (λ u. is_visited c.args.visited.now.items u ≡ false) us) where
    son_of : (new : Stands) (Same : ℕ → Type 0) → ((s : ℕ) (xs : List Element) (vs : List ℕ) → Old s xs vs → Each Same vs → new s xs vs) → ToRemove new Same least es us
    son_of new Same move =
        called_son c.args.tree.now c.tree_of_son-below.result c.args.pages.now c.visit.new.pages c.args.visited.now.items c.visit.new.visited.items c.args.key.now least es us c.visit.new.node c.in-Err.i levels new Same move c.requires.tree.order.0 two first ascends (λ given is. c.in-Err.ensures.found given is ascends) (λ none. (c.in-Err.ensures.first none).0)
        c.tree_of_son-below.ensures (ap (λ (v : PagesView). v.pages) c.visit.ensures.reading.unchanged) (ap (λ (v : PagesView). v.steady) c.visit.ensures.reading.unchanged ∙ steady) visited_is between apart unvisited

    taken : (new : Stands) (Same : ℕ → Type 0) (s : ToRemove new Same least es us) (r r2 : Option Removal) → r ≡ r2 → Answers r
        → RemovesBelow (head_page c.args.tree.now.order c.args.tree.now.order levels (son_number c.visit.new.node c.in-Err.i)) (with_edit (at c.args.pages.now.pages) c.delete_below.new.edit) s.son.xs s.son.mine (visits (c.args.visited.now.items ++ c.args.tree.now.page ∷ []) c.delete_below.new.visited.items) (sought c.args.key.now es) r2
    taken new Same s r r2 is removing =
        called_removed (son_tree c.args.tree.now c.visit.new.node c.in-Err.i) c.tree_of_son-below.result c.args.pages.now c.visit.new.pages (c.args.visited.now.items ++ c.args.tree.now.page ∷ []) c.visit.new.visited.items c.delete_below.new.visited.items levels s.son.xs s.son.mine c.delete_below.new.edit.writes.items c.delete_below.new.edit.freed.items c.args.key.now (sought c.args.key.now es) r r2 s.called s.key_is is removing

    abbrev Removed : Option Removal → Type 0
    Removed r = RemovesBelow (head_of c.args.tree.now least) (with_edit (at c.args.pages.now.pages) c.delete_below.new.edit) es us (visits c.args.visited.now.items c.delete_below.new.visited.items) (sought c.args.key.now es) r

    lifted : (r : Option Removal) → RemovesBelow (head_page c.args.tree.now.order least (suc levels) c.args.tree.now.page) (with_edit (at c.args.pages.now.pages) c.delete_below.new.edit) es us (visits c.args.visited.now.items c.delete_below.new.visited.items) (sought c.args.key.now es) r → Removed r
    lifted r = subst (λ (h : ℕ). RemovesBelow (head_page c.args.tree.now.order least h c.args.tree.now.page) (with_edit (at c.args.pages.now.pages) c.delete_below.new.edit) es us (visits c.args.visited.now.items c.delete_below.new.visited.items) (sought c.args.key.now es) r) (sym two)

    stopped : (fault : TreeFault) → Removing c.tree_of_son-below.result c.visit.new.pages c.visit.new.visited.items (λ _ es _. MayStop (lookup_in (sought c.args.key.now es) es) fault) → MayStop (lookup_in (sought c.args.key.now es) es) fault
    stopped fault removing =
        let s = son_of Old (λ (q : ℕ). Unit {0}) (λ s xs vs is _. is) in
        let key = c.args.key.now in
        let below = answered (son_tree c.args.tree.now c.visit.new.node c.in-Err.i) c.tree_of_son-below.result c.args.pages.now c.visit.new.pages (c.args.visited.now.items ++ c.args.tree.now.page ∷ []) c.visit.new.visited.items levels s.son.xs s.son.mine (λ _ xs _. MayStop (lookup_in (sought key xs) xs) fault) s.called removing in
        subst (λ (stood : Option (List ℕ)). MayStop stood fault) (sym (some_below (sought key es) es s.son.pre s.son.xs s.son.post s.son.es_is s.son.below s.son.above))
        (subst (λ (k : List ℕ). MayStop (lookup_in k s.son.xs) fault) s.key_is below)

    none_below : (r : Option Removal) → r ≡ None → Answers r → Removed None
    none_below r is removing =
        let s = son_of Old (λ (q : ℕ). Unit {0}) (λ s xs vs is _. is) in
        let gone = taken Old (λ (q : ℕ). Unit {0}) s r None is removing in
        lifted None (drop_none c.args.tree.now.order (at c.args.pages.now.pages) changed 0 (length c.delete_below.new.edit.freed.items) least c.args.tree.now.height levels c.args.tree.now.page es us c.args.tree.now.bounds c.visit.new.node c.in-Err.i c.args.visited.now.items c.delete_below.new.visited.items (sought c.args.key.now es) s.head s.son gone)

    whole_below : (r : Option Removal) (e : Element) → r ≡ Some (Whole e) → Answers r → Removed (Some (Whole e))
    whole_below r e is removing =
        let T = c.args.tree.now in
        let P = at c.args.pages.now.pages in
        let New = TreeAt T.order changed T.order (suc levels) in
        let s = son_of New (λ q. changed q ≡ P q) (λ s xs vs is same. tree_move T.order P changed T.order (suc levels) s xs vs is same) in
        let gone = taken New (λ q. changed q ≡ P q) s r (Some (Whole e)) is removing in
        lifted (Some (Whole e)) (drop_whole T.order P c.delete_below.new.edit.writes.items c.delete_below.new.edit.freed.items least T.height levels T.page es us T.bounds c.visit.new.node c.in-Err.i e c.args.visited.now.items c.delete_below.new.visited.items (sought c.args.key.now es) apart s.head s.son gone)

    -- the son is underfull now
    short_below : (r : Option Removal) (e : Element) (son : Node) → r ≡ Some (Underfull e son) → Answers r → BelowShort c.args.tree.now (at c.args.pages.now.pages) c.delete_below.new.edit.writes.items c.delete_below.new.edit.freed.items c.args.key.now es us c.visit.new.node c.in-Err.i levels e son c.args.visited.now.items c.delete_below.new.visited.items
    short_below r e son is removing =
        let T = c.args.tree.now in
        let P = at c.args.pages.now.pages in
        let p = son_number c.visit.new.node c.in-Err.i in
        let visited2 = c.delete_below.new.visited.items in
        let New = Kin T.order P changed visited2 levels p son in
        let s = son_of New (IsBeside P changed visited2 p) (λ s xs vs is beside. kin_move T.order P changed visited2 levels p son s xs vs is beside) in
        let gone = taken New (IsBeside P changed visited2 p) s r (Some (Underfull e son)) is removing in
        let broken = drop_broken T.order P c.delete_below.new.edit.writes.items c.delete_below.new.edit.freed.items least T.height levels T.page es us T.bounds c.visit.new.node c.in-Err.i e son c.args.visited.now.items visited2 (sought c.args.key.now es) apart s.head s.son unvisited gone in
        record {
          broken = broken.0;
          value = broken.1;
          key_is = broken.2;
          between = left_between c.args.key.now e T.bounds es (some_around es s.son.pre s.son.xs s.son.post s.son.es_is s.some) broken.2 between;
          inner = s.head.body.0;
          mine = s.son.mine;
          head_in = page_in T.page us (s.son.upre ++ (s.son.mine ++ s.son.upost)) s.us_is;
          mine_in = below_in T.page us s.son.upre s.son.mine s.son.upost s.us_is;
          unvisited = gone.unvisited;
        }

pub delete_below-delete_below-requires : goal.delete_below-delete_below-requires
delete_below-delete_below-requires g t c = grind (arith, common_steps)

pub delete_below-returns-in_err-removed-in-Err-clause-removes : goal.delete_below-returns-in_err-removed-in-Err-clause-removes
delete_below-returns-in_err-removed-in-Err-clause-removes g t c = λ steady least es us low tree between apart unvisited.
    let p = err_from_is_err_and c.from_residual-in_err-removed-in-Err.result c.from_residual-in_err-removed-in-Err.ensures.1 in
    let at_goal = goal.at.delete_below-returns-in_err-removed-in-Err-clause-removes g t c in
    let first = first_of g t at_goal.After-place_to_take steady least es us tree between unvisited in
    rw (p.1, p.2) (stopped g t at_goal.After-delete_below steady least es us c.in_ok-visit.ensures.visited.added c.in_ok-visit.ensures.stands.ascends first between apart unvisited c.in_err-removed-in-Err.field-0.0 c.in_err-removed-in-Err.ensures.removes)

-- what went up from a son that is underfull, and the visit of it
module _ (g : given.Over) (t : ℕ) (c : delete_below-In-Some-Underfull g t) where
  went_below : let S = son_tree c.args.tree.now c.visit.new.node c.in-Err.i in WentUp S.order S.height S.bounds c.args.key.now S.page c.delete_below.new.edit.writes.items c.delete_below.new.edit.freed.items (Underfull c.in-Some-Underfull.removed c.delete_below.new.node)
  went_below =
      let is = ap (removal_if c.delete_below.new.node) (c.in-Some-Underfull.is ∙ ap Some c.in-Some-Underfull.field-0-is) in
      went_up (son_tree c.args.tree.now c.visit.new.node c.in-Err.i) c.tree_of_son-below.result c.args.key.now c.delete_below.new.edit.writes.items c.delete_below.new.edit.freed.items (removal_if c.delete_below.new.node c.in_ok-removed-in-Err.field-0) (Underfull c.in-Some-Underfull.removed c.delete_below.new.node) c.tree_of_son-below.ensures is c.in_ok-removed-in-Err.ensures.up

  son_visited : IsVisit c.visit.new.visited.items c.delete_below.new.visited.items c.delete_below.new.edit.writes.items c.delete_below.new.edit.freed.items (c.args.tree.now.height - 1) (son_number c.visit.new.node c.in-Err.i)
  son_visited = subst (λ (x : Subtree). IsVisit c.visit.new.visited.items c.delete_below.new.visited.items c.delete_below.new.edit.writes.items c.delete_below.new.edit.freed.items x.height x.page) c.tree_of_son-below.ensures c.in_ok-removed-in-Err.ensures.visits.visit

  head_visited : is_visited c.visit.new.visited.items c.args.tree.now.page ≡ true
  head_visited = page_visited c.args.visited.now.items c.visit.new.visited.items c.args.tree.now.page c.in_ok-visit.ensures.visited.added

pub delete_below-treat_and_settle-requires-clause-can : goal.delete_below-treat_and_settle-requires-clause-can
delete_below-treat_and_settle-requires-clause-can g t c =
    let T = c.args.tree.now in
    let n = c.visit.new.node in
    let els = n.elements.items in
    let i = c.in-Err.i in
    let e = c.in-Some-Underfull.removed in
    let son = c.delete_below.new.node in
    let p = (goal.at.delete_below-treat_and_settle-requires-clause-can g t c).In-Some-Underfull in
    let went = went_below g t p in
    let visit = son_visited g t p in
    let one_more = ap length c.in_ok-visit.ensures.visited.added in record {
      sons = record {
        order = search rules;
        height = search rules;
        father = subst (λ (x : Subtree). MayBeUnderfull x.order x.height x.bounds n) (sym c.tree_left-left.ensures)
            (left_may_be_underfull c.args.key.now T.order T.height i T.bounds n e (λ none. (c.in-Err.ensures.first none).0) c.in_ok-visit.ensures.stands went.within);
        some = c.in_ok-visit.ensures.some;
        place = c.in-Err.ensures.within;
        son = subst (λ (x : Subtree). MayBeUnderfull x.order (x.height - 1) (son_bounds els i x.bounds) son) (sym c.tree_left-left.ensures)
            (subst (λ (b : Bounds). MayBeUnderfull T.order (T.height - 1) b son) (left_son c.args.key.now els i T.bounds e (λ none. (c.in-Err.ensures.first none).0)) went.goes.0);
      };
      room = omega (arith, visit.few, one_more, length-append c.args.visited.now.items (T.page ∷ []), c.requires.levels, c.requires.tree.height, c.if-tree-eq1.false);
      in_use = search rules;
      tidy = search rules;
      awaited = record { here = visit.here; kept = went.goes.2 };
    }

pub delete_below-treat_and_settle-requires-clause-other : goal.delete_below-treat_and_settle-requires-clause-other
delete_below-treat_and_settle-requires-clause-other g t c =
    let p = (goal.at.delete_below-treat_and_settle-requires-clause-other g t c).In-Some-Underfull in
    λ is. visited_differs c.visit.new.visited.items c.args.tree.now.page (son_number c.visit.new.node c.in-Err.i) (head_visited g t p) (son_visited g t p).fresh (sym (ap (λ (x : Subtree). x.page) c.tree_left-left.ensures) ∙ is)

pub delete_below-treat_and_settle-requires-clause-awaited : goal.delete_below-treat_and_settle-requires-clause-awaited
delete_below-treat_and_settle-requires-clause-awaited g t c =
    let p = (goal.at.delete_below-treat_and_settle-requires-clause-awaited g t c).In-Some-Underfull in
    let visit = son_visited g t p in
    let page = c.args.tree.now.page in
    subst (λ (x : Subtree). IsAwaited c.delete_below.new.visited.items (so_far c.delete_below.new.edit) x.page) (sym c.tree_left-left.ensures)
    (record { here = visit.stays page (head_visited g t p); kept = visit.older page (head_visited g t p) })

-- the underfull son is treated
module _ (g : given.Over) (t : ℕ) (c : delete_below-After-tree_left-left g t) where
  abbrev left_tree : Subtree
  left_tree = record c.args.tree.now { bounds = left_bounds c.args.key.now c.in-Some-Underfull.removed c.args.tree.now.bounds }

  later_is : c.delete_below.new.pages.pages ≡ c.args.pages.now.pages
  later_is = ap (λ (v : PagesView). v.pages) c.delete_below.ensures.reading.unchanged ∙ ap (λ (v : PagesView). v.pages) c.visit.ensures.reading.unchanged

  abbrev AsksRight : (Subtree → Node → Type 0) → Type 0
  AsksRight X = let l2 = c.tree_left-left.result in IsTrue c.delete_below.new.pages.steady → AskRight l2.order (at c.delete_below.new.pages.pages) (l2.height - 1) c.delete_below.new.visited.items l2.bounds c.visit.new.node c.in-Err.i (X l2)

  abbrev AsksLeft : (Subtree → ℕ → Node → Type 0) → Type 0
  AsksLeft X = let l2 = c.tree_left-left.result in IsTrue c.delete_below.new.pages.steady → AskLeft l2.order (at c.delete_below.new.pages.pages) (l2.height - 1) c.delete_below.new.visited.items l2.bounds c.visit.new.node c.in-Err.i (X l2)

  module _ (es : List Element) (us : List ℕ) (steady : IsTrue c.args.pages.now.steady) (up : c.args.tree.now.height - 1 ≡ suc (c.args.tree.now.height - 1 - 1))
      (short : BelowShort c.args.tree.now (at c.args.pages.now.pages) c.delete_below.new.edit.writes.items c.delete_below.new.edit.freed.items c.args.key.now es us c.visit.new.node c.in-Err.i (c.args.tree.now.height - 1 - 1) c.in-Some-Underfull.removed c.delete_below.new.node c.args.visited.now.items c.delete_below.new.visited.items) where
    later_steady : IsTrue c.delete_below.new.pages.steady
    later_steady = ap (λ (v : PagesView). v.steady) c.delete_below.ensures.reading.unchanged ∙ (ap (λ (v : PagesView). v.steady) c.visit.ensures.reading.unchanged ∙ steady)

    to_right : (X : Subtree → Node → Type 0) → AsksRight X → AskRight left_tree.order (at c.args.pages.now.pages) (left_tree.height - 1) c.delete_below.new.visited.items left_tree.bounds c.visit.new.node c.in-Err.i (X left_tree)
    to_right X asks = asked_right X left_tree c.tree_left-left.result c.args.pages.now.pages c.delete_below.new.pages.pages c.delete_below.new.visited.items c.visit.new.node c.in-Err.i c.tree_left-left.ensures later_is (asks later_steady)

    to_left : (X : Subtree → ℕ → Node → Type 0) → AsksLeft X → AskLeft left_tree.order (at c.args.pages.now.pages) (left_tree.height - 1) c.delete_below.new.visited.items left_tree.bounds c.visit.new.node c.in-Err.i (X left_tree)
    to_left X asks = asked_left X left_tree c.tree_left-left.result c.args.pages.now.pages c.delete_below.new.pages.pages c.delete_below.new.visited.items c.visit.new.node c.in-Err.i c.tree_left-left.ensures later_is (asks later_steady)

    ask_below : (X : Type 0) → AsksRight (λ _ _. X) → AsksLeft (λ _ _ _. X) → X
    ask_below X right left =
        let P = at c.args.pages.now.pages in
        let fs = c.delete_below.new.edit.freed.items in
        ask X left_tree.order P (after P c.delete_below.new.edit.writes.items fs) c.delete_below.new.visited.items 0 (length fs) (c.args.tree.now.height - 1 - 1) (left_tree.height - 1) left_tree.page (son_number c.visit.new.node c.in-Err.i) c.delete_below.new.node c.visit.new.node (set_in (sought c.args.key.now es) None es) us left_tree.bounds c.in-Err.i (sym up)
        c.in_ok-visit.ensures.some c.in-Err.ensures.within refl short.between short.broken (to_right (λ _ _. X) right) (to_left (λ _ _ _. X) left)

    module _ (least : ℕ) (low : least ≤ c.args.tree.now.order) (ws3 : List (ℕ × List ℕ)) (fs3 visited3 : List ℕ) (r : Removal) where
      abbrev Settled : Subtree → ℕ → Node → Node → ℕ → Type 0
      Settled x j L R q = (visited3 ≡ c.delete_below.new.visited.items ++ q ∷ []) × TreatsAndSettles x c.visit.new.node (brothers j L R) c.in-Some-Underfull.removed (so_far c.delete_below.new.edit) (done_so_far ws3 fs3) r

      treat_below : Untouched c.delete_below.new.edit.writes.items c.delete_below.new.edit.freed.items (son_number c.visit.new.node c.in-Err.i)
          → AsksRight (λ x o. Settled x c.in-Err.i c.delete_below.new.node o (son_number c.visit.new.node (suc c.in-Err.i))) → AsksLeft (λ x j o. Settled x j o c.delete_below.new.node (son_number c.visit.new.node j))
          → RemovesBelow (head_of c.args.tree.now least) (pages_freed (at c.args.pages.now.pages) (after (at c.args.pages.now.pages) ws3 fs3) 0 (length fs3)) es us (visits c.args.visited.now.items visited3) (sought c.args.key.now es) (Some r)
      treat_below kept right left =
          let T = c.args.tree.now in
          let P = at c.args.pages.now.pages in
          let n = c.visit.new.node in
          let i = c.in-Err.i in
          let ws = c.delete_below.new.edit.writes.items in
          let fs = c.delete_below.new.edit.freed.items in
          let e = c.in-Some-Underfull.removed in
          let K = sought c.args.key.now es in
          let treated = treat_son T.order T.height P c.delete_below.new.visited.items visited3 0 (T.height - 1 - 1) (T.height - 1) T.page (son_number n i) c.delete_below.new.node n e r ws ws3 fs fs3 (set_in K None es) us left_tree.bounds i c.requires.tree.order.0 (sym up) c.in_ok-visit.ensures.some c.in-Err.ensures.within refl short.between kept c.in_ok-removed-in-Err.ensures.visits.tidy.unvisited short.broken
          (to_right (λ x o. Settled x i c.delete_below.new.node o (son_number n (suc i))) right) (to_left (λ x j o. Settled x j o c.delete_below.new.node (son_number n j)) left) in
          let drops = drop_treated T.order P ws ws3 fs fs3 least T.height (T.height - 1 - 1) T.page (son_number n i) es us left_tree.bounds n c.delete_below.new.node e e r c.delete_below.new.visited.items visited3 K c.requires.tree.order.0 low short.broken treated (sym c.in_ok-visit.ensures.stands.kind ∙ short.inner) refl short.key_is short.value in
          let unvisited3 = still_unvisited c.args.visited.now.items c.delete_below.new.visited.items visited3 T.page treated.son.t us short.mine short.head_in short.mine_in (short.broken.loses.left.within treated.son.t (inr treated.son.t_in)) short.unvisited treated.son.visited_is in
          subst (λ (l : ℕ). RemovesBelow (head_page T.order least l T.page) (pages_freed P (after P ws3 fs3) 0 (length fs3)) es us (visits c.args.visited.now.items visited3) K (Some r)) (sym up) (record { drops = drops; unvisited = unvisited3 })

pub delete_below-returns-in_err-shrunk-in-Some-Underfull-clause-removes : goal.delete_below-returns-in_err-shrunk-in-Some-Underfull-clause-removes
delete_below-returns-in_err-shrunk-in-Some-Underfull-clause-removes g t c = λ steady least es us low tree between apart unvisited.
    let p = err_from_is_err_and c.from_residual-in_err-shrunk-in-Some-Underfull.result c.from_residual-in_err-shrunk-in-Some-Underfull.ensures.1 in
    let at_goal = goal.at.delete_below-returns-in_err-shrunk-in-Some-Underfull-clause-removes g t c in
    let first = first_of g t at_goal.After-place_to_take steady least es us tree between unvisited in
    let short = short_below g t at_goal.After-delete_below steady least es us c.in_ok-visit.ensures.visited.added c.in_ok-visit.ensures.stands.ascends first between apart unvisited (removal_if c.delete_below.new.node c.in_ok-removed-in-Err.field-0) c.in-Some-Underfull.removed c.delete_below.new.node (ap (removal_if c.delete_below.new.node) (c.in-Some-Underfull.is ∙ ap Some c.in-Some-Underfull.field-0-is)) c.in_ok-removed-in-Err.ensures.removes in
    let refused = c.in_err-shrunk-in-Some-Underfull in
    rw (p.1, p.2) (outside_stops (lookup_in (sought c.args.key.now es) es) refused.field-0.0 (ap is_some short.value)
    (ask_below g t at_goal.After-tree_left-left es us steady (two g t at_goal.After-delete_below) short (IsNotOfPages refused.field-0.0) refused.ensures.right refused.ensures.left))

pub delete_below-returns-in_ok-shrunk-in-Some-Underfull-clause-removes : goal.delete_below-returns-in_ok-shrunk-in-Some-Underfull-clause-removes
delete_below-returns-in_ok-shrunk-in-Some-Underfull-clause-removes g t c = λ steady least es us low tree between apart unvisited.
    let at_goal = goal.at.delete_below-returns-in_ok-shrunk-in-Some-Underfull-clause-removes g t c in
    let first = first_of g t at_goal.After-place_to_take steady least es us tree between unvisited in
    let short = short_below g t at_goal.After-delete_below steady least es us c.in_ok-visit.ensures.visited.added c.in_ok-visit.ensures.stands.ascends first between apart unvisited (removal_if c.delete_below.new.node c.in_ok-removed-in-Err.field-0) c.in-Some-Underfull.removed c.delete_below.new.node (ap (removal_if c.delete_below.new.node) (c.in-Some-Underfull.is ∙ ap Some c.in-Some-Underfull.field-0-is)) c.in_ok-removed-in-Err.ensures.removes in
    let went = went_below g t at_goal.In-Some-Underfull in
    let settled = c.in_ok-shrunk-in-Some-Underfull in
    treat_below g t at_goal.After-tree_left-left es us steady (two g t at_goal.After-delete_below) short least low c.treat_and_settle.new.edit.writes.items c.treat_and_settle.new.edit.freed.items c.treat_and_settle.new.visited.items (removal c.treat_and_settle.new.father settled.shrunk) went.goes.2 settled.ensures.right settled.ensures.left

pub delete_below-returns-in_ok-shrunk-in-Some-Underfull-clause-up : goal.delete_below-returns-in_ok-shrunk-in-Some-Underfull-clause-up
delete_below-returns-in_ok-shrunk-in-Some-Underfull-clause-up g t c =
    let T = c.args.tree.now in
    let stands = c.in_ok-visit.ensures.stands in
    let went = went_below g t (goal.at.delete_below-returns-in_ok-shrunk-in-Some-Underfull-clause-up g t c).In-Some-Underfull in
    let r = removal c.treat_and_settle.new.father c.in_ok-shrunk-in-Some-Underfull.shrunk in
    let gone_is = sym c.in_ok-shrunk-in-Some-Underfull.ensures.gone in
    let ws3 = c.treat_and_settle.new.edit.writes.items in
    let fs3 = c.treat_and_settle.new.edit.freed.items in (
      subst (λ (x : Element). IsElement x) gone_is went.fits,
      subst (λ (x : Element). IsWithin T.bounds x.0) gone_is (son_within c.visit.new.node.elements.items c.in-Err.i T.bounds c.in-Some-Underfull.removed.0 stands.ascends stands.within went.within),
      subst (λ (x : Element). UnderfullGoesUp T.order T.height (left_bounds c.args.key.now x T.bounds) T.page ws3 fs3 r) gone_is
          (subst (λ (x : Subtree). UnderfullGoesUp x.order x.height x.bounds x.page ws3 fs3 r) c.tree_left-left.ensures c.in_ok-shrunk-in-Some-Underfull.ensures.up),
    )

pub delete_below-returns-in_ok-shrunk-in-Some-Underfull-clause-visits : goal.delete_below-returns-in_ok-shrunk-in-Some-Underfull-clause-visits
delete_below-returns-in_ok-shrunk-in-Some-Underfull-clause-visits g t c =
    let made = son_visited g t (goal.at.delete_below-returns-in_ok-shrunk-in-Some-Underfull-clause-visits g t c).In-Some-Underfull in
    let done = c.in_ok-shrunk-in-Some-Underfull.ensures in record {
      in_use = c.in_ok-visit.ensures.in_use;
      tidy = search rules;
      visit = treated_visit c.args.visited.now.items c.visit.new.visited.items c.delete_below.new.visited.items c.treat_and_settle.new.visited.items c.args.tree.now.height c.args.tree.now.page (son_number c.visit.new.node c.in-Err.i) c.delete_below.new.edit.writes.items c.treat_and_settle.new.edit.writes.items c.delete_below.new.edit.freed.items c.treat_and_settle.new.edit.freed.items c.in_ok-visit.ensures.visited.added c.in_ok-visit.ensures.visited.fresh (omega (arith, c.requires.tree.height, c.if-tree-eq1.false)) made
          (λ q is other page. done.settled.others q is other (λ same. page (same ∙ ap (λ (x : Subtree). x.page) c.tree_left-left.ensures))) done.settled.stays done.settled.one_more;
    }

pub delete_below-returns-in-None-clause-removes : goal.delete_below-returns-in-None-clause-removes
delete_below-returns-in-None-clause-removes g t c = λ steady least es us low tree between apart unvisited.
    let at_goal = goal.at.delete_below-returns-in-None-clause-removes g t c in
    let first = first_of g t at_goal.After-place_to_take steady least es us tree between unvisited in
    none_below g t at_goal.After-delete_below steady least es us c.in_ok-visit.ensures.visited.added c.in_ok-visit.ensures.stands.ascends first between apart unvisited (removal_if c.delete_below.new.node c.in_ok-removed-in-Err.field-0) (ap (removal_if c.delete_below.new.node) c.in-None.is) c.in_ok-removed-in-Err.ensures.removes

-- what was visited where the page stays as it is
module _ (g : given.Over) (t : ℕ) (c : delete_below-After-delete_below g t) where
  stays_visited : let sub = c.tree_of_son-below.result in IsVisit c.visit.new.visited.items c.delete_below.new.visited.items c.delete_below.new.edit.writes.items c.delete_below.new.edit.freed.items sub.height sub.page
      → (c.visit.new.visited.items ≡ c.args.visited.now.items ++ c.args.tree.now.page ∷ []) → is_visited c.args.visited.now.items c.args.tree.now.page ≡ false
      → IsVisit c.args.visited.now.items c.delete_below.new.visited.items c.delete_below.new.edit.writes.items c.delete_below.new.edit.freed.items c.args.tree.now.height c.args.tree.now.page
  stays_visited made visited unvisited =
      whole_visit c.args.visited.now.items c.visit.new.visited.items c.delete_below.new.visited.items c.args.tree.now.height c.args.tree.now.page (son_number c.visit.new.node c.in-Err.i) c.delete_below.new.edit.writes.items c.delete_below.new.edit.freed.items visited unvisited (omega (arith, c.requires.tree.height, c.if-tree-eq1.false))
      (subst (λ (x : Subtree). IsVisit c.visit.new.visited.items c.delete_below.new.visited.items c.delete_below.new.edit.writes.items c.delete_below.new.edit.freed.items x.height x.page) c.tree_of_son-below.ensures made)

pub delete_below-returns-in-None-clause-visits : goal.delete_below-returns-in-None-clause-visits
delete_below-returns-in-None-clause-visits g t c = record {
  in_use = c.in_ok-visit.ensures.in_use;
  tidy = search rules;
  visit = stays_visited g t (goal.at.delete_below-returns-in-None-clause-visits g t c).After-delete_below c.in_ok-removed-in-Err.ensures.visits.visit c.in_ok-visit.ensures.visited.added c.in_ok-visit.ensures.visited.fresh;
}

pub delete_below-returns-in-Some-Whole-clause-removes : goal.delete_below-returns-in-Some-Whole-clause-removes
delete_below-returns-in-Some-Whole-clause-removes g t c = λ steady least es us low tree between apart unvisited.
    let at_goal = goal.at.delete_below-returns-in-Some-Whole-clause-removes g t c in
    let first = first_of g t at_goal.After-place_to_take steady least es us tree between unvisited in
    whole_below g t at_goal.After-delete_below steady least es us c.in_ok-visit.ensures.visited.added c.in_ok-visit.ensures.stands.ascends first between apart unvisited (removal_if c.delete_below.new.node c.in_ok-removed-in-Err.field-0) c.in-Some-Whole.removed (ap (removal_if c.delete_below.new.node) (c.in-Some-Whole.is ∙ ap Some c.in-Some-Whole.field-0-is)) c.in_ok-removed-in-Err.ensures.removes

pub delete_below-returns-in-Some-Whole-clause-up : goal.delete_below-returns-in-Some-Whole-clause-up
delete_below-returns-in-Some-Whole-clause-up g t c =
    let T = c.args.tree.now in
    let n = c.visit.new.node in
    let e = c.in-Some-Whole.removed in
    let stands = c.in_ok-visit.ensures.stands in
    let went = went_up (son_tree T n c.in-Err.i) c.tree_of_son-below.result c.args.key.now c.delete_below.new.edit.writes.items c.delete_below.new.edit.freed.items (removal_if c.delete_below.new.node c.in_ok-removed-in-Err.field-0) (Whole e) c.tree_of_son-below.ensures (ap (removal_if c.delete_below.new.node) (c.in-Some-Whole.is ∙ ap Some c.in-Some-Whole.field-0-is)) c.in_ok-removed-in-Err.ensures.up in (
      went.fits,
      son_within n.elements.items c.in-Err.i T.bounds e.0 stands.ascends stands.within went.within,
      tt,
    )

pub delete_below-returns-in-Some-Whole-clause-visits : goal.delete_below-returns-in-Some-Whole-clause-visits
delete_below-returns-in-Some-Whole-clause-visits g t c = record {
  in_use = c.in_ok-visit.ensures.in_use;
  tidy = search rules;
  visit = stays_visited g t (goal.at.delete_below-returns-in-Some-Whole-clause-visits g t c).After-delete_below c.in_ok-removed-in-Err.ensures.visits.visit c.in_ok-visit.ensures.visited.added c.in_ok-visit.ensures.visited.fresh;
}

-- a leaf without the element
module _ (g : given.Over) (t : ℕ) (c : delete_here-After-remove g t) where
  abbrev left_leaf : Node
  left_leaf = record { kind = c.args.node.now.kind; elements = c.remove.new.self; sons = c.args.node.now.sons }

  as_leaf : MayBeUnderfull c.args.tree.now.order 1 c.args.tree.now.bounds c.args.node.now
  as_leaf = subst (λ (h : ℕ). MayBeUnderfull c.args.tree.now.order h c.args.tree.now.bounds c.args.node.now) c.if-tree-eq1.true c.requires.element.node

  without : MayBeUnderfull c.args.tree.now.order 1 c.args.tree.now.bounds left_leaf
  without = leaf_without c.args.tree.now.order c.args.tree.now.bounds c.args.node.now left_leaf c.args.i as_leaf.kind c.requires.element.place as_leaf refl c.remove.ensures.items refl

-- the element that goes is the one at place i
module _ (g : given.Over) (t : ℕ) (c : delete_here-After-index-deref-i g t) where
  removed_is : c.index-deref-i.result ≡ element_at c.args.node.now c.args.i
  removed_is = c.index-deref-i.is ∙ ap (λ (xs : List Element). get_or xs c.args.i c.index-deref-i.result) c.deref.ensures.0 ∙ get_or_default c.args.node.now.elements.items c.args.i c.index-deref-i.result ([], []) c.requires.element.place

pub delete_here-settle-requires-clause-may_be_underfull : goal.delete_here-settle-requires-clause-may_be_underfull
delete_here-settle-requires-clause-may_be_underfull g t c = (1, c.args.tree.now.bounds, without g t (goal.at.delete_here-settle-requires-clause-may_be_underfull g t c).After-remove)

pub delete_here-returns-then-tree-eq1-clause-removes : goal.delete_here-returns-then-tree-eq1-clause-removes
delete_here-returns-then-tree-eq1-clause-removes g t c = λ steady least es us below low spells least_is body us_is between apart unvisited.
    let T = c.args.tree.now in
    let P = at c.args.pages.now.pages in
    let at_goal = goal.at.delete_here-returns-then-tree-eq1-clause-removes g t c in
    let m = left_leaf g t at_goal.After-remove in
    let n = c.args.node.now in
    let M = c.args.visited.now.items in
    let level = T.height - 1 in
    let r = removal m c.in_ok-settle.field-0 in
    let ws2 = c.settle.new.edit.writes.items in
    let head : Top T.order P least T.height level T.page es us T.bounds n = record { below = below; spells = spells; least_is = least_is; kind = c.requires.element.node.kind; within = c.requires.element.node.within; body = body; us_is = us_is } in
    let done = drop_leaf T.order P c.args.edit.now.writes.items ws2 c.args.edit.now.freed.items least T.height level T.page es us T.bounds T.bounds n m c.args.i c.index-deref-i.result r M (omega (arith, c.if-tree-eq1.true)) c.requires.element.tree.order.0 low c.requires.untouched.unwritten c.requires.untouched.unfreed apart between head
    (subst (λ (h : ℕ). MayBeUnderfull T.order h T.bounds m) (sym c.if-tree-eq1.true) (without g t at_goal.After-remove)) c.requires.element.node.ascends c.requires.element.place (removed_is g t at_goal.After-index-deref-i) refl c.remove.ensures.items c.in_ok-settle.ensures.settles in
    subst (λ (fs : List ℕ). RemovesBelow (head_page T.order least level T.page) (pages_freed P (after P ws2 fs) 0 (length fs)) es us (visits M M) (element_at n c.args.i).0 (Some r)) (sym (ap (λ v. v.items) c.in_ok-settle.ensures.edit.freed)) done

pub delete_here-returns-then-tree-eq1-clause-gone : goal.delete_here-returns-then-tree-eq1-clause-gone
delete_here-returns-then-tree-eq1-clause-gone g t c =
    let at_goal = goal.at.delete_here-returns-then-tree-eq1-clause-gone g t c in
    settled_gone c.args.tree.now.order c.args.tree.now.page c.args.edit.now.writes.items c.settle.new.edit.writes.items c.index-deref-i.result (left_leaf g t at_goal.After-remove) (removal (left_leaf g t at_goal.After-remove) c.in_ok-settle.field-0) c.in_ok-settle.ensures.settles ∙ removed_is g t at_goal.After-index-deref-i

pub delete_here-returns-then-tree-eq1-clause-up : goal.delete_here-returns-then-tree-eq1-clause-up
delete_here-returns-then-tree-eq1-clause-up g t c =
    let T = c.args.tree.now in
    let p = (goal.at.delete_here-returns-then-tree-eq1-clause-up g t c).After-remove in
    let m = left_leaf g t p in
    subst (λ (fs : List ℕ). UnderfullGoesUp T.order T.height T.bounds T.page c.settle.new.edit.writes.items fs (removal m c.in_ok-settle.field-0)) (sym (ap (λ v. v.items) c.in_ok-settle.ensures.edit.freed))
    (settled_up T.order T.height T.page T.bounds c.args.edit.now.writes.items c.settle.new.edit.writes.items c.args.edit.now.freed.items c.index-deref-i.result m (removal m c.in_ok-settle.field-0) (subst (λ (h : ℕ). MayBeUnderfull T.order h T.bounds m) (sym c.if-tree-eq1.true) (without g t p))
    (untouched_empty c.args.edit.now.writes.items c.args.edit.now.freed.items T.page c.requires.untouched.unwritten c.requires.untouched.unfreed) c.in_ok-settle.ensures.settles)

pub delete_here-returns-then-tree-eq1-clause-first : goal.delete_here-returns-then-tree-eq1-clause-first
delete_here-returns-then-tree-eq1-clause-first g t c = λ low is.
    let T = c.args.tree.now in
    let p = (goal.at.delete_here-returns-then-tree-eq1-clause-first g t c).After-remove in
    let m = left_leaf g t p in
    let els = c.args.node.now.elements.items in
    let e = element_at c.args.node.now c.args.i in
    let b = behind_element e T.bounds in
    let here : e ≡ get_or els 0 e = get_or_default els c.args.i ([], []) e c.requires.element.place ∙ ap (λ (j : ℕ). get_or els j e) is in
    let left = leaf_behind T.order T.bounds c.args.node.now m e (as_leaf g t p).kind (omega (arith, c.requires.element.place)) (as_leaf g t p) here refl (c.remove.ensures.items ∙ ap (remove els) is) refl in
    subst (λ (fs : List ℕ). UnderfullGoesUp T.order T.height b T.page c.settle.new.edit.writes.items fs (removal m c.in_ok-settle.field-0)) (sym (ap (λ v. v.items) c.in_ok-settle.ensures.edit.freed))
    (settled_up T.order T.height T.page b c.args.edit.now.writes.items c.settle.new.edit.writes.items c.args.edit.now.freed.items c.index-deref-i.result m (removal m c.in_ok-settle.field-0) (subst (λ (h : ℕ). MayBeUnderfull T.order h b m) (sym c.if-tree-eq1.true) left.2)
    (untouched_empty c.args.edit.now.writes.items c.args.edit.now.freed.items T.page c.requires.untouched.unwritten c.requires.untouched.unfreed) c.in_ok-settle.ensures.settles)

-- the son behind the element, and what the call on it took out
module _ (g : given.Over) (t : ℕ) (c : delete_here-After-delete_below g t) where
  abbrev levels_behind : ℕ
  levels_behind = c.args.tree.now.height - 1 - 1

  two_behind : c.args.tree.now.height - 1 ≡ suc levels_behind
  two_behind = omega (arith, c.requires.element.tree.height, c.if-tree-eq1.false)

  abbrev OldBehind : Stands
  OldBehind = TreeAt c.args.tree.now.order (at c.args.pages.now.pages) c.args.tree.now.order (suc levels_behind)

  abbrev changed_behind : PageMap
  changed_behind = after (at c.args.pages.now.pages) c.delete_below.new.edit.writes.items c.delete_below.new.edit.freed.items

  abbrev FirstGoes : Option Removal → Type 0
  FirstGoes r =
      let sub = c.tree_of_son-behind.result in
      Removing sub c.args.pages.now c.args.visited.now.items (λ least es us. RemovesBelow (head_page sub.order least (sub.height - 1) sub.page) (with_edit (at c.args.pages.now.pages) c.delete_below.new.edit) es us (visits c.args.visited.now.items c.delete_below.new.visited.items) (sought None es) r)

  module _ (steady : IsTrue c.args.pages.now.steady) (least : ℕ) (es : List Element) (us below : List ℕ) (spells : Spells c.args.tree.now.order (at c.args.pages.now.pages) c.args.tree.now.page c.args.node.now) (least_is : least ≤ length c.args.node.now.elements.items) (body : Body (TreeAt c.args.tree.now.order (at c.args.pages.now.pages) c.args.tree.now.order (c.args.tree.now.height - 1)) (c.args.tree.now.height - 1) c.args.node.now es below)
      (us_is : us ≡ c.args.tree.now.page ∷ below) (between : Between c.args.tree.now.bounds es) (apart : Apart us) (unvisited : Each (λ u. is_visited c.args.visited.now.items u ≡ false) below) where
    abbrev ToTake : (new : Stands) (Same : ℕ → Type 0) → Type 0
    ToTake new Same = CalledNext c.args.tree.now c.tree_of_son-behind.result c.args.pages.now c.args.visited.now.items least es us below c.args.node.now c.args.i levels_behind new Same

    next_of : (new : Stands) (Same : ℕ → Type 0) → ((s : ℕ) (xs : List Element) (vs : List ℕ) → OldBehind s xs vs → Each Same vs → new s xs vs) → ToTake new Same
    next_of new Same move =
        called_next c.args.tree.now c.tree_of_son-behind.result c.args.pages.now c.args.visited.now.items least es us below c.args.node.now c.args.i levels_behind new Same move c.requires.element.tree.order.0 two_behind c.requires.element.node c.requires.element.place c.tree_of_son-behind.ensures steady spells least_is body us_is between apart unvisited

    refused_behind : (X : Type 0) → Removing c.tree_of_son-behind.result c.args.pages.now c.args.visited.now.items (λ _ _ _. X) → X
    refused_behind X removing =
        let s = next_of OldBehind (λ (q : ℕ). Unit {0}) (λ s xs vs is _. is) in
        answered (son_tree c.args.tree.now c.args.node.now (suc c.args.i)) c.tree_of_son-behind.result c.args.pages.now c.args.pages.now c.args.visited.now.items c.args.visited.now.items levels_behind s.son.xs s.son.mine (λ _ _ _. X) s.called removing

    took : (new : Stands) (Same : ℕ → Type 0) (s : ToTake new Same) (r : Option Removal) (first : Removal) → r ≡ Some first → FirstGoes r
        → Takes c.args.tree.now.order (at c.args.pages.now.pages) changed_behind 0 (length c.delete_below.new.edit.freed.items) c.args.tree.now.order levels_behind (son_number c.args.node.now (suc c.args.i)) s.son.xs s.son.mine c.args.visited.now.items c.delete_below.new.visited.items first
    took new Same s r first is removing =
        let T = c.args.tree.now in
        let M = c.args.visited.now.items in
        let visited2 = c.delete_below.new.visited.items in
        let ws = c.delete_below.new.edit.writes.items in
        let fs = c.delete_below.new.edit.freed.items in
        took_of T.order (at c.args.pages.now.pages) changed_behind 0 (length fs) T.order levels_behind (son_number c.args.node.now (suc c.args.i)) s.son.xs s.son.mine M visited2 first s.some
        (called_removed (son_tree T c.args.node.now (suc c.args.i)) c.tree_of_son-behind.result c.args.pages.now c.args.pages.now M M visited2 levels_behind s.son.xs s.son.mine ws fs None (sought None s.son.xs) r (Some first) s.called refl is removing)

    -- the son stayed whole, and the node was settled
    whole_behind : (low : least ≤ c.args.tree.now.order) (m : Node) (x e : Element) (ws2 : List (ℕ × List ℕ)) (fs2 : List ℕ) (settled : Removal) (r : Option Removal) → r ≡ Some (Whole e) → FirstGoes r
        → m.kind ≡ c.args.node.now.kind → m.elements.items ≡ set c.args.node.now.elements.items c.args.i e → m.sons.items ≡ c.args.node.now.sons.items → MayBeUnderfull c.args.tree.now.order c.args.tree.now.height c.args.tree.now.bounds m → x ≡ element_at c.args.node.now c.args.i
        → Untouched c.delete_below.new.edit.writes.items c.delete_below.new.edit.freed.items c.args.tree.now.page → WritesOrHandsUp c.args.tree.now.order c.delete_below.new.edit.writes.items ws2 c.args.tree.now.page x m settled → c.delete_below.new.edit.freed.items ≡ fs2
        → RemovesBelow (head_of c.args.tree.now least) (pages_freed (at c.args.pages.now.pages) (after (at c.args.pages.now.pages) ws2 fs2) 0 (length fs2)) es us (visits c.args.visited.now.items c.delete_below.new.visited.items) (element_at c.args.node.now c.args.i).0 (Some settled)
    whole_behind low m x e ws2 fs2 settled r is removing kind_is els_is sons_is left x_is kept settles freed =
        let T = c.args.tree.now in
        let P = at c.args.pages.now.pages in
        let M = c.args.visited.now.items in
        let visited2 = c.delete_below.new.visited.items in
        let key = (element_at c.args.node.now c.args.i).0 in
        let New = TreeAt T.order changed_behind T.order (suc levels_behind) in
        let s = next_of New (λ q. changed_behind q ≡ P q) (λ s xs vs is same. tree_move T.order P changed_behind T.order (suc levels_behind) s xs vs is same) in
        let went = took New (λ q. changed_behind q ≡ P q) s r (Whole e) is removing in
        let fs = c.delete_below.new.edit.freed.items in
        let done = next_whole T.order P c.delete_below.new.edit.writes.items ws2 fs least T.height levels_behind T.page es us T.bounds T.bounds c.args.node.now m c.args.i x e settled M visited2 c.requires.element.tree.order.0 low apart between s.head s.son went left x_is kind_is els_is sons_is kept settles in
        subst (λ (z : List ℕ). RemovesBelow (head_of T least) (pages_freed P (after P ws2 z) 0 (length z)) es us (visits M visited2) key (Some settled)) freed
        (subst (λ (l : ℕ). RemovesBelow (head_page T.order least l T.page) (pages_freed P (after P ws2 fs) 0 (length fs)) es us (visits M visited2) key (Some settled)) (sym two_behind) done)

    -- the son is underfull now
    short_behind : (m : Node) (e : Element) (son : Node) (r : Option Removal) → r ≡ Some (Underfull e son) → FirstGoes r → m.elements.items ≡ set c.args.node.now.elements.items c.args.i e → m.sons.items ≡ c.args.node.now.sons.items
        → BehindShort c.args.tree.now (at c.args.pages.now.pages) c.delete_below.new.edit.writes.items c.delete_below.new.edit.freed.items es us c.args.node.now m c.args.i levels_behind son c.args.visited.now.items c.delete_below.new.visited.items
    short_behind m e son r is removing els_is sons_is =
        let T = c.args.tree.now in
        let P = at c.args.pages.now.pages in
        let M = c.args.visited.now.items in
        let p = son_number c.args.node.now (suc c.args.i) in
        let visited2 = c.delete_below.new.visited.items in
        let x = element_at c.args.node.now c.args.i in
        let New = Kin T.order P changed_behind visited2 levels_behind p son in
        let s = next_of New (IsBeside P changed_behind visited2 p) (λ s xs vs is beside. kin_move T.order P changed_behind visited2 levels_behind p son s xs vs is beside) in
        let went = took New (IsBeside P changed_behind visited2 p) s r (Underfull e son) is removing in
        record {
          broken = next_broken T.order P c.delete_below.new.edit.writes.items c.delete_below.new.edit.freed.items least T.height levels_behind T.page es us T.bounds c.args.node.now m c.args.i e son M visited2 apart s.head s.son s.unvisited went els_is sons_is;
          value = ap (lookup_in x.0) s.son.es_is ∙ lookup-here x.0 s.son.pre x (s.son.xs ++ s.son.post) s.son.below refl;
          between = remove-between_bounds T.bounds x.0 es between;
          inner = s.head.body.0;
          mine = s.son.mine;
          mine_in = below_in T.page us s.son.upre s.son.mine s.son.upost s.us_is;
          unvisited = went.unvisited;
        }

pub delete_here-returns-in_err-delete_below-clause-removes : goal.delete_here-returns-in_err-delete_below-clause-removes
delete_here-returns-in_err-delete_below-clause-removes g t c = λ steady least es us below low spells least_is body us_is between apart unvisited.
    let p = err_from_is_err_and c.from_residual-in_err-delete_below.result c.from_residual-in_err-delete_below.ensures.1 in
    let called = (goal.at.delete_here-returns-in_err-delete_below-clause-removes g t c).After-delete_below in
    rw (p.1, p.2) (refused_behind g t called steady least es us below spells least_is body us_is between apart unvisited (IsNotOfPages c.in_err-delete_below.field-0.0)
    (λ steady2 least2 xs vs low2 tree2 between2 apart2 unvisited2. stops_outside (lookup_in (sought None xs) xs) c.in_err-delete_below.field-0.0 (c.in_err-delete_below.ensures.removes steady2 least2 xs vs low2 tree2 between2 apart2 unvisited2)))

-- the next greater element stands in the node, and its son stayed whole
module _ (g : given.Over) (t : ℕ) (c : delete_here-After-set_element g t) where
  abbrev whole_bounds : Bounds
  whole_bounds = son_bounds c.args.node.now.elements.items (suc c.args.i) c.args.tree.now.bounds

  whole_is : c.tree_of_son-behind.result ≡ son_tree c.args.tree.now c.args.node.now (suc c.args.i)
  whole_is = c.tree_of_son-behind.ensures ∙ ap (son_tree c.args.tree.now c.args.node.now) (omega arith)

  whole_visited : IsVisit c.args.visited.now.items c.delete_below.new.visited.items c.delete_below.new.edit.writes.items c.delete_below.new.edit.freed.items (c.args.tree.now.height - 1) (son_number c.args.node.now (suc c.args.i))
  whole_visited = subst (λ (x : Subtree). IsVisit c.args.visited.now.items c.delete_below.new.visited.items c.delete_below.new.edit.writes.items c.delete_below.new.edit.freed.items x.height x.page) whole_is c.in_ok-delete_below.ensures.visits.visit

  with_next : MayBeUnderfull c.args.tree.now.order c.args.tree.now.height c.args.tree.now.bounds c.set_element.new.node
  with_next =
      let T = c.args.tree.now in
      let went = went_up (son_tree T c.args.node.now (suc c.args.i)) c.tree_of_son-behind.result None c.delete_below.new.edit.writes.items c.delete_below.new.edit.freed.items (removal_if c.delete_below.new.node c.in_ok-delete_below.field-0) (Whole c.in-Whole.next) whole_is (ap (removal_if c.delete_below.new.node) (c.unwrap.ensures ∙ ap Some c.in-Whole.is)) c.in_ok-delete_below.ensures.up in
      next_may_be_underfull T.order T.height c.args.i T.bounds c.args.node.now c.set_element.new.node c.in-Whole.next c.requires.element.place c.requires.element.node went.fits went.within c.set_element.ensures.kind c.set_element.ensures.elements (ap (λ s. s.items) c.set_element.ensures.sons)

pub delete_here-settle-requires-in-Whole-clause-may_be_underfull : goal.delete_here-settle-requires-in-Whole-clause-may_be_underfull
delete_here-settle-requires-in-Whole-clause-may_be_underfull g t c = (c.args.tree.now.height, c.args.tree.now.bounds, with_next g t (goal.at.delete_here-settle-requires-in-Whole-clause-may_be_underfull g t c).After-set_element)

pub delete_here-returns-in_ok-settle-in-Whole-clause-removes : goal.delete_here-returns-in_ok-settle-in-Whole-clause-removes
delete_here-returns-in_ok-settle-in-Whole-clause-removes g t c = λ steady least es us below low spells least_is body us_is between apart unvisited.
    let at_goal = goal.at.delete_here-returns-in_ok-settle-in-Whole-clause-removes g t c in
    let put = c.set_element in
    let settled = c.in_ok-settle-in-Whole in
    whole_behind g t at_goal.After-delete_below steady least es us below spells least_is body us_is between apart unvisited low put.new.node c.index-deref-i.result c.in-Whole.next c.settle-in-Whole.new.edit.writes.items c.settle-in-Whole.new.edit.freed.items (removal put.new.node settled.field-0) (removal_if c.delete_below.new.node c.in_ok-delete_below.field-0) (ap (removal_if c.delete_below.new.node) (c.unwrap.ensures ∙ ap Some c.in-Whole.is)) c.in_ok-delete_below.ensures.removes
    put.ensures.kind put.ensures.elements (ap (λ s. s.items) put.ensures.sons) (with_next g t at_goal.After-set_element) (removed_is g t at_goal.After-index-deref-i) ((whole_visited g t at_goal.After-set_element).older c.args.tree.now.page c.requires.reached.here) settled.ensures.settles (sym (ap (λ v. v.items) settled.ensures.edit.freed))

pub delete_here-returns-in_ok-settle-in-Whole-clause-gone : goal.delete_here-returns-in_ok-settle-in-Whole-clause-gone
delete_here-returns-in_ok-settle-in-Whole-clause-gone g t c =
    let settled = c.in_ok-settle-in-Whole in
    settled_gone c.args.tree.now.order c.args.tree.now.page c.delete_below.new.edit.writes.items c.settle-in-Whole.new.edit.writes.items c.index-deref-i.result c.set_element.new.node (removal c.set_element.new.node settled.field-0) settled.ensures.settles ∙ removed_is g t (goal.at.delete_here-returns-in_ok-settle-in-Whole-clause-gone g t c).After-index-deref-i

pub delete_here-returns-in_ok-settle-in-Whole-clause-up : goal.delete_here-returns-in_ok-settle-in-Whole-clause-up
delete_here-returns-in_ok-settle-in-Whole-clause-up g t c =
    let T = c.args.tree.now in
    let p = (goal.at.delete_here-returns-in_ok-settle-in-Whole-clause-up g t c).After-set_element in
    let settled = c.in_ok-settle-in-Whole in
    let ws2 = c.settle-in-Whole.new.edit.writes.items in
    subst (λ (z : List ℕ). UnderfullGoesUp T.order T.height T.bounds T.page ws2 z (removal c.set_element.new.node settled.field-0)) (sym (ap (λ v. v.items) settled.ensures.edit.freed))
    (settled_up T.order T.height T.page T.bounds c.delete_below.new.edit.writes.items ws2 c.delete_below.new.edit.freed.items c.index-deref-i.result c.set_element.new.node (removal c.set_element.new.node settled.field-0) (with_next g t p) ((whole_visited g t p).older T.page c.requires.reached.here) settled.ensures.settles)

pub delete_here-returns-in_ok-settle-in-Whole-clause-taken : goal.delete_here-returns-in_ok-settle-in-Whole-clause-taken
delete_here-returns-in_ok-settle-in-Whole-clause-taken g t c =
    let T = c.args.tree.now in
    let visit = whole_visited g t (goal.at.delete_here-returns-in_ok-settle-in-Whole-clause-taken g t c).After-set_element in
    let settled = c.in_ok-settle-in-Whole in
    let freed = sym (ap (λ v. v.items) settled.ensures.edit.freed) in record {
      tidy = λ used. subst (λ (z : List ℕ). IsTidy c.args.pages.now.pages c.delete_below.new.visited.items c.settle-in-Whole.new.edit.writes.items z) freed
          (settled_tidy c.args.pages.now.pages c.delete_below.new.visited.items T.order T.page c.delete_below.new.edit.writes.items c.settle-in-Whole.new.edit.writes.items c.delete_below.new.edit.freed.items c.index-deref-i.result c.set_element.new.node (removal c.set_element.new.node settled.field-0) used (visit.stays T.page c.requires.reached.here) (visit.older T.page c.requires.reached.here) settled.ensures.settles c.in_ok-delete_below.ensures.visits.tidy);
      older = λ q is other. subst (λ (z : List ℕ). Untouched c.settle-in-Whole.new.edit.writes.items z q) freed
          (settled_others q T.order T.page c.delete_below.new.edit.writes.items c.settle-in-Whole.new.edit.writes.items c.delete_below.new.edit.freed.items c.index-deref-i.result c.set_element.new.node (removal c.set_element.new.node settled.field-0) other settled.ensures.settles (visit.older q is));
      stays = visit.stays;
      few = omega (arith, visit.few);
    }

-- the next greater element stands in the node, and its son is underfull
module _ (g : given.Over) (t : ℕ) (c : delete_here-After-set_element-in-Underfull g t) where
  short_is : c.tree_of_son-behind.result ≡ son_tree c.args.tree.now c.args.node.now (suc c.args.i)
  short_is = c.tree_of_son-behind.ensures ∙ ap (son_tree c.args.tree.now c.args.node.now) (omega arith)

  short_visited : IsVisit c.args.visited.now.items c.delete_below.new.visited.items c.delete_below.new.edit.writes.items c.delete_below.new.edit.freed.items (c.args.tree.now.height - 1) (son_number c.args.node.now (suc c.args.i))
  short_visited = subst (λ (x : Subtree). IsVisit c.args.visited.now.items c.delete_below.new.visited.items c.delete_below.new.edit.writes.items c.delete_below.new.edit.freed.items x.height x.page) short_is c.in_ok-delete_below.ensures.visits.visit

  went_behind : let S = son_tree c.args.tree.now c.args.node.now (suc c.args.i) in WentUp S.order S.height S.bounds None S.page c.delete_below.new.edit.writes.items c.delete_below.new.edit.freed.items (Underfull c.in-Underfull.next c.delete_below.new.node)
  went_behind =
      let is = ap (removal_if c.delete_below.new.node) (c.unwrap.ensures ∙ ap Some c.in-Underfull.is) in
      went_up (son_tree c.args.tree.now c.args.node.now (suc c.args.i)) c.tree_of_son-behind.result None c.delete_below.new.edit.writes.items c.delete_below.new.edit.freed.items (removal_if c.delete_below.new.node c.in_ok-delete_below.field-0) (Underfull c.in-Underfull.next c.delete_below.new.node) short_is is c.in_ok-delete_below.ensures.up

  short_son : son_number c.args.node.now (suc c.args.i) ≡ son_number c.set_element-in-Underfull.new.node (c.args.i + 1)
  short_son =
      ap (λ (xs : List ℕ). get_or xs (suc c.args.i) 0) (sym (ap (λ s. s.items) c.set_element-in-Underfull.ensures.sons))
      ∙ ap (son_number c.set_element-in-Underfull.new.node) (omega arith)

pub delete_here-treat_and_settle-requires-clause-can : goal.delete_here-treat_and_settle-requires-clause-can
delete_here-treat_and_settle-requires-clause-can g t c =
    let T = c.args.tree.now in
    let i = c.args.i in
    let next_i : i + 1 ≡ suc i = omega arith in
    let put = c.set_element-in-Underfull in
    let m = put.new.node in
    let e = c.in-Underfull.next in
    let p = (goal.at.delete_here-treat_and_settle-requires-clause-can g t c).After-set_element-in-Underfull in
    let went = went_behind g t p in
    let visit = short_visited g t p in
    let pages_is = ap (λ (v : PagesView). v.pages) c.delete_below.ensures.reading.unchanged in
    let size = ap length put.ensures.elements ∙ length-set c.args.node.now.elements.items i e in
    let bounds_is : behind_element e (son_bounds c.args.node.now.elements.items (suc i) T.bounds) ≡ son_bounds m.elements.items (i + 1) T.bounds =
    sym (set_son_bounds c.args.node.now.elements.items i T.bounds e c.requires.element.place) ∙ ap (λ (xs : List Element). son_bounds xs (suc i) T.bounds) (sym put.ensures.elements) ∙ ap (λ (j : ℕ). son_bounds m.elements.items j T.bounds) (sym next_i) in record {
      sons = record {
        order = c.requires.element.tree.order;
        height = omega (arith, c.requires.element.tree.height, c.if-tree-eq1.false);
        father = next_may_be_underfull T.order T.height i T.bounds c.args.node.now m e c.requires.element.place c.requires.element.node went.fits went.within put.ensures.kind put.ensures.elements (ap (λ s. s.items) put.ensures.sons);
        some = omega (arith, size, c.requires.element.place);
        place = omega (arith, size, c.requires.element.place);
        son = subst (λ (b : Bounds). MayBeUnderfull T.order (T.height - 1) b c.delete_below.new.node) bounds_is went.goes.0;
      };
      room = omega (arith, visit.few, c.requires.reached.levels, c.requires.element.tree.height, c.if-tree-eq1.false);
      in_use = search rules;
      tidy = subst (λ (ps : List (Option (List ℕ))). IsTidy ps c.delete_below.new.visited.items c.delete_below.new.edit.writes.items c.delete_below.new.edit.freed.items) (sym pages_is) c.in_ok-delete_below.ensures.visits.tidy;
      awaited = subst (IsAwaited c.delete_below.new.visited.items (so_far c.delete_below.new.edit)) (short_son g t p) (record { here = visit.here; kept = went.goes.2 });
    }

pub delete_here-treat_and_settle-requires-clause-other : goal.delete_here-treat_and_settle-requires-clause-other
delete_here-treat_and_settle-requires-clause-other g t c =
    let p = (goal.at.delete_here-treat_and_settle-requires-clause-other g t c).After-set_element-in-Underfull in
    λ is. visited_differs c.args.visited.now.items c.args.tree.now.page (son_number c.args.node.now (suc c.args.i)) c.requires.reached.here (short_visited g t p).fresh (is ∙ sym (short_son g t p))

-- the underfull son behind the element is treated
module _ (g : given.Over) (t : ℕ) (c : delete_here-After-set_element-in-Underfull g t) where
  abbrev AsksRightHere : (Node → Type 0) → Type 0
  AsksRightHere = λ X. let T = c.args.tree.now in IsTrue c.delete_below.new.pages.steady → AskRight T.order (at c.delete_below.new.pages.pages) (T.height - 1) c.delete_below.new.visited.items T.bounds c.set_element-in-Underfull.new.node (c.args.i + 1) X

  abbrev AsksLeftHere : (ℕ → Node → Type 0) → Type 0
  AsksLeftHere = λ X. let T = c.args.tree.now in IsTrue c.delete_below.new.pages.steady → AskLeft T.order (at c.delete_below.new.pages.pages) (T.height - 1) c.delete_below.new.visited.items T.bounds c.set_element-in-Underfull.new.node (c.args.i + 1) X

  module _ (es : List Element) (us : List ℕ) (steady : IsTrue c.args.pages.now.steady) (up : c.args.tree.now.height - 1 ≡ suc (c.args.tree.now.height - 1 - 1))
      (short : BehindShort c.args.tree.now (at c.args.pages.now.pages) c.delete_below.new.edit.writes.items c.delete_below.new.edit.freed.items es us c.args.node.now c.set_element-in-Underfull.new.node c.args.i (c.args.tree.now.height - 1 - 1) c.delete_below.new.node c.args.visited.now.items c.delete_below.new.visited.items) where
    steady_here : IsTrue c.delete_below.new.pages.steady
    steady_here = ap (λ (v : PagesView). v.steady) c.delete_below.ensures.reading.unchanged ∙ steady

    size_here : length c.set_element-in-Underfull.new.node.elements.items ≡ length c.args.node.now.elements.items
    size_here = ap length c.set_element-in-Underfull.ensures.elements ∙ length-set c.args.node.now.elements.items c.args.i c.in-Underfull.next

    right_here : (X : Node → Type 0) → AsksRightHere X → AskRight c.args.tree.now.order (at c.args.pages.now.pages) (c.args.tree.now.height - 1) c.delete_below.new.visited.items c.args.tree.now.bounds c.set_element-in-Underfull.new.node (c.args.i + 1) X
    right_here X asks = asked_right (λ _. X) c.args.tree.now c.args.tree.now c.args.pages.now.pages c.delete_below.new.pages.pages c.delete_below.new.visited.items c.set_element-in-Underfull.new.node (c.args.i + 1) refl (ap (λ (v : PagesView). v.pages) c.delete_below.ensures.reading.unchanged) (asks steady_here)

    left_here : (X : ℕ → Node → Type 0) → AsksLeftHere X → AskLeft c.args.tree.now.order (at c.args.pages.now.pages) (c.args.tree.now.height - 1) c.delete_below.new.visited.items c.args.tree.now.bounds c.set_element-in-Underfull.new.node (c.args.i + 1) X
    left_here X asks = asked_left (λ _. X) c.args.tree.now c.args.tree.now c.args.pages.now.pages c.delete_below.new.pages.pages c.delete_below.new.visited.items c.set_element-in-Underfull.new.node (c.args.i + 1) refl (ap (λ (v : PagesView). v.pages) c.delete_below.ensures.reading.unchanged) (asks steady_here)

    ask_behind : (X : Type 0) → AsksRightHere (λ _. X) → AsksLeftHere (λ _ _. X) → X
    ask_behind X right left =
        let T = c.args.tree.now in
        let P = at c.args.pages.now.pages in
        let fs = c.delete_below.new.edit.freed.items in
        ask X T.order P (after P c.delete_below.new.edit.writes.items fs) c.delete_below.new.visited.items 0 (length fs) (T.height - 1 - 1) (T.height - 1) T.page (son_number c.args.node.now (suc c.args.i)) c.delete_below.new.node c.set_element-in-Underfull.new.node (set_in (element_at c.args.node.now c.args.i).0 None es) us T.bounds (c.args.i + 1) (sym up)
        (omega (arith, size_here, c.requires.element.place)) (omega (arith, size_here, c.requires.element.place)) (short_son g t c) short.between short.broken (right_here (λ _. X) right) (left_here (λ _ _. X) left)

    module _ (least : ℕ) (low : least ≤ c.args.tree.now.order) (ws3 : List (ℕ × List ℕ)) (fs3 visited3 : List ℕ) (x : Element) (r : Removal) where
      abbrev SettledHere : ℕ → Node → Node → ℕ → Type 0
      SettledHere j L R q = (visited3 ≡ c.delete_below.new.visited.items ++ q ∷ []) × TreatsAndSettles c.args.tree.now c.set_element-in-Underfull.new.node (brothers j L R) x (so_far c.delete_below.new.edit) (done_so_far ws3 fs3) r

      treat_behind : x ≡ element_at c.args.node.now c.args.i → AsksRightHere (λ o. SettledHere (c.args.i + 1) c.delete_below.new.node o (son_number c.set_element-in-Underfull.new.node (suc (c.args.i + 1))))
          → AsksLeftHere (λ j o. SettledHere j o c.delete_below.new.node (son_number c.set_element-in-Underfull.new.node j))
          → RemovesBelow (head_of c.args.tree.now least) (pages_freed (at c.args.pages.now.pages) (after (at c.args.pages.now.pages) ws3 fs3) 0 (length fs3)) es us (visits c.args.visited.now.items visited3) (element_at c.args.node.now c.args.i).0 (Some r)
      treat_behind x_is right left =
          let T = c.args.tree.now in
          let P = at c.args.pages.now.pages in
          let M = c.args.visited.now.items in
          let h = T.height - 1 - 1 in
          let p = son_number c.args.node.now (suc c.args.i) in
          let m = c.set_element-in-Underfull.new.node in
          let ws = c.delete_below.new.edit.writes.items in
          let fs = c.delete_below.new.edit.freed.items in
          let visited2 = c.delete_below.new.visited.items in
          let underfull = c.delete_below.new.node in
          let key = (element_at c.args.node.now c.args.i).0 in
          let treated = treat_son T.order T.height P visited2 visited3 0 h (T.height - 1) T.page p underfull m x r ws ws3 fs fs3 (set_in key None es) us T.bounds (c.args.i + 1) c.requires.element.tree.order.0 (sym up) (omega (arith, size_here, c.requires.element.place)) (omega (arith, size_here, c.requires.element.place)) (short_son g t c) short.between
          (subst (λ (z : ℕ). Untouched ws fs z) (short_son g t c) (went_behind g t c).goes.2) c.in_ok-delete_below.ensures.visits.tidy.unvisited short.broken (right_here (λ o. SettledHere (c.args.i + 1) underfull o (son_number m (suc (c.args.i + 1)))) right) (left_here (λ j o. SettledHere j o underfull (son_number m j)) left) in
          let drops = drop_treated T.order P ws ws3 fs fs3 least T.height h T.page p es us T.bounds m underfull x (element_at c.args.node.now c.args.i) r visited2 visited3 key c.requires.element.tree.order.0 low short.broken treated (sym c.requires.element.node.kind ∙ short.inner) x_is refl short.value in
          let unvisited3 = on_unvisited M visited2 visited3 treated.son.t us short.mine short.mine_in (short.broken.loses.left.within treated.son.t (inr treated.son.t_in)) short.unvisited treated.son.visited_is in
          subst (λ (l : ℕ). RemovesBelow (head_page T.order least l T.page) (pages_freed P (after P ws3 fs3) 0 (length fs3)) es us (visits M visited3) key (Some r)) (sym up) (record { drops = drops; unvisited = unvisited3 })

pub delete_here-returns-in_err-shrunk-in-Underfull-clause-removes : goal.delete_here-returns-in_err-shrunk-in-Underfull-clause-removes
delete_here-returns-in_err-shrunk-in-Underfull-clause-removes g t c = λ steady least es us below low spells least_is body us_is between apart unvisited.
    let p = err_from_is_err_and c.from_residual-in_err-shrunk-in-Underfull.result c.from_residual-in_err-shrunk-in-Underfull.ensures.1 in
    let at_goal = goal.at.delete_here-returns-in_err-shrunk-in-Underfull-clause-removes g t c in
    let put = c.set_element-in-Underfull in
    let short = short_behind g t at_goal.After-delete_below steady least es us below spells least_is body us_is between apart unvisited put.new.node c.in-Underfull.next c.delete_below.new.node (removal_if c.delete_below.new.node c.in_ok-delete_below.field-0) (ap (removal_if c.delete_below.new.node) (c.unwrap.ensures ∙ ap Some c.in-Underfull.is)) c.in_ok-delete_below.ensures.removes put.ensures.elements (ap (λ s. s.items) put.ensures.sons) in
    let refused = c.in_err-shrunk-in-Underfull in
    rw (p.1, p.2) (ask_behind g t at_goal.After-set_element-in-Underfull es us steady (two_behind g t at_goal.After-delete_below) short (IsNotOfPages refused.field-0.0) refused.ensures.right refused.ensures.left)

pub delete_here-returns-in_ok-shrunk-in-Underfull-clause-removes : goal.delete_here-returns-in_ok-shrunk-in-Underfull-clause-removes
delete_here-returns-in_ok-shrunk-in-Underfull-clause-removes g t c = λ steady least es us below low spells least_is body us_is between apart unvisited.
    let at_goal = goal.at.delete_here-returns-in_ok-shrunk-in-Underfull-clause-removes g t c in
    let put = c.set_element-in-Underfull in
    let short = short_behind g t at_goal.After-delete_below steady least es us below spells least_is body us_is between apart unvisited put.new.node c.in-Underfull.next c.delete_below.new.node (removal_if c.delete_below.new.node c.in_ok-delete_below.field-0) (ap (removal_if c.delete_below.new.node) (c.unwrap.ensures ∙ ap Some c.in-Underfull.is)) c.in_ok-delete_below.ensures.removes put.ensures.elements (ap (λ s. s.items) put.ensures.sons) in
    let settled = c.in_ok-shrunk-in-Underfull in
    treat_behind g t at_goal.After-set_element-in-Underfull es us steady (two_behind g t at_goal.After-delete_below) short least low c.treat_and_settle.new.edit.writes.items c.treat_and_settle.new.edit.freed.items c.treat_and_settle.new.visited.items c.index-deref-i.result (removal c.treat_and_settle.new.father settled.shrunk) (removed_is g t at_goal.After-index-deref-i) settled.ensures.right settled.ensures.left

pub delete_here-returns-in_ok-shrunk-in-Underfull-clause-gone : goal.delete_here-returns-in_ok-shrunk-in-Underfull-clause-gone
delete_here-returns-in_ok-shrunk-in-Underfull-clause-gone g t c =
    c.in_ok-shrunk-in-Underfull.ensures.gone ∙ removed_is g t (goal.at.delete_here-returns-in_ok-shrunk-in-Underfull-clause-gone g t c).After-index-deref-i

pub delete_here-returns-in_ok-shrunk-in-Underfull-clause-taken : goal.delete_here-returns-in_ok-shrunk-in-Underfull-clause-taken
delete_here-returns-in_ok-shrunk-in-Underfull-clause-taken g t c =
    let p = (goal.at.delete_here-returns-in_ok-shrunk-in-Underfull-clause-taken g t c).After-set_element-in-Underfull in
    let visit = short_visited g t p in
    let pages_is = ap (λ (v : PagesView). v.pages) c.delete_below.ensures.reading.unchanged in
    let settled = c.in_ok-shrunk-in-Underfull.ensures.settled in record {
      tidy = λ used. subst (λ (ps : List (Option (List ℕ))). IsTidy ps c.treat_and_settle.new.visited.items c.treat_and_settle.new.edit.writes.items c.treat_and_settle.new.edit.freed.items) pages_is
          (settled.tidy (subst (λ (ps : List (Option (List ℕ))). IsSome (at ps c.args.tree.now.page)) (sym pages_is) used));
      older = λ q is other. settled.others q (visit.stays q is) (λ same. visited_differs c.args.visited.now.items q (son_number c.args.node.now (suc c.args.i)) is visit.fresh (same ∙ sym (short_son g t p))) other (visit.older q is);
      stays = λ q is. settled.stays q (visit.stays q is);
      few = omega (arith, visit.few, settled.one_more);
    }

pub delete_below-returns-in_ok-shrunk-in-Ok-clause-led : goal.delete_below-returns-in_ok-shrunk-in-Ok-clause-led
delete_below-returns-in_ok-shrunk-in-Ok-clause-led g t c = λ steady given_key is.
    let stands = c.in_ok-visit.ensures.stands in
    here_leads c.args.tree.now c.args.pages.now.pages c.visit.new.node given_key c.in-Ok.i (gone (removal c.delete_here.new.node c.in_ok-shrunk-in-Ok.shrunk)) c.requires.tree.height (c.in_ok-visit.ensures.spells steady) stands (c.in-Ok.ensures.found given_key is stands.ascends) c.in_ok-shrunk-in-Ok.ensures.gone

-- a given key leads on below the son
module _ (g : given.Over) (t : ℕ) (c : delete_below-After-delete_below g t) where
  led_on : (found found2 : Option (List ℕ)) → IsTrue c.args.pages.now.steady → (key : List ℕ) → c.args.key.now ≡ Some key → found ≡ found2 → Spells c.args.tree.now.order (at c.args.pages.now.pages) c.args.tree.now.page c.visit.new.node
      → MayBeUnderfull c.args.tree.now.order c.args.tree.now.height c.args.tree.now.bounds c.visit.new.node
      → (let sub = c.tree_of_son-below.result in IsTrue c.visit.new.pages.steady → (k : List ℕ) → c.args.key.now ≡ Some k → Leads (Spells sub.order (at c.visit.new.pages.pages)) k sub.height sub.page sub.bounds found)
      → Leads (Spells c.args.tree.now.order (at c.args.pages.now.pages)) key c.args.tree.now.height c.args.tree.now.page c.args.tree.now.bounds found2
  led_on found found2 steady key is found_is spells stands leads =
      son_leads c.args.tree.now c.tree_of_son-below.result c.args.pages.now.pages c.visit.new.pages.pages c.visit.new.node key c.in-Err.i found found2 c.tree_of_son-below.ensures (ap (λ (v : PagesView). v.pages) c.visit.ensures.reading.unchanged) found_is (omega (arith, c.requires.tree.height, c.if-tree-eq1.false))
      spells stands (c.in-Err.ensures.found key is stands.ascends) (leads (ap (λ (v : PagesView). v.steady) c.visit.ensures.reading.unchanged ∙ steady) key is)

pub delete_below-returns-in_ok-shrunk-in-Some-Underfull-clause-led : goal.delete_below-returns-in_ok-shrunk-in-Some-Underfull-clause-led
delete_below-returns-in_ok-shrunk-in-Some-Underfull-clause-led g t c = λ steady key is.
    let settled = c.in_ok-shrunk-in-Some-Underfull in
    let went = c.in-Some-Underfull in
    let found_is = ap record_gone (ap (removal_if c.delete_below.new.node) (went.is ∙ ap Some went.field-0-is)) ∙ ap (λ (e : Element). Some e.1) (sym settled.ensures.gone) in
    led_on g t (goal.at.delete_below-returns-in_ok-shrunk-in-Some-Underfull-clause-led g t c).After-delete_below (record_gone (removal_if c.delete_below.new.node c.in_ok-removed-in-Err.field-0)) (Some (gone (removal c.treat_and_settle.new.father settled.shrunk)).1) steady key is found_is (c.in_ok-visit.ensures.spells steady) c.in_ok-visit.ensures.stands c.in_ok-removed-in-Err.ensures.led

pub delete_below-returns-in-Some-Whole-clause-led : goal.delete_below-returns-in-Some-Whole-clause-led
delete_below-returns-in-Some-Whole-clause-led g t c = λ steady key is.
    let went = c.in-Some-Whole in
    led_on g t (goal.at.delete_below-returns-in-Some-Whole-clause-led g t c).After-delete_below (record_gone (removal_if c.delete_below.new.node c.in_ok-removed-in-Err.field-0)) (Some went.removed.1) steady key is (ap record_gone (ap (removal_if c.delete_below.new.node) (went.is ∙ ap Some went.field-0-is))) (c.in_ok-visit.ensures.spells steady) c.in_ok-visit.ensures.stands c.in_ok-removed-in-Err.ensures.led

pub delete_below-returns-in-None-clause-led : goal.delete_below-returns-in-None-clause-led
delete_below-returns-in-None-clause-led g t c = λ steady key is.
    led_on g t (goal.at.delete_below-returns-in-None-clause-led g t c).After-delete_below (record_gone (removal_if c.delete_below.new.node c.in_ok-removed-in-Err.field-0)) None steady key is (ap record_gone (ap (removal_if c.delete_below.new.node) c.in-None.is)) (c.in_ok-visit.ensures.spells steady) c.in_ok-visit.ensures.stands c.in_ok-removed-in-Err.ensures.led
