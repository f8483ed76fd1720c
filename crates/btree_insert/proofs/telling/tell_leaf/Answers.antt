use Rattle.std.proofs.Common.{◌≡◌, [], List, sym, ap, subst, ◌∙◌, arith}
use Rattle.std.proofs.lemmas.Result.{err_from_is_err_and}
use Rattle.page_store.specs.PageMap.{at}
use Rattle.page_store.specs.PagesView.{PagesView}
use Rattle.btree_node.specs.Lists.{Element}
use Rattle.rec_types.specs.Ordered.{is_left, listed_one, in_turn}
use Rattle.rec_types.proofs.InTurnLemmas.{first_of, first_is_nearest, none_in_turn}
use Rattle.btree_insert.specs.declared.tree.TreeFault.TheVariants.{Device}
use Rattle.btree_insert.specs.Nearest.{TakesTo, TakesFirst}
use Rattle.btree_insert.specs.PageTrees.{Spells}
use Rattle.btree_insert.proofs.ReachLemmas.{match_ok}
use Rattle.btree_insert.proofs.RootSpotLemmas.{spot_tree}
use Rattle.btree_insert.proofs.telling.tell_leaf.Goals as goal

pub returns-in_err-leaf-clause-told : goal.returns-in_err-leaf-clause-told
returns-in_err-leaf-clause-told g c = λ steady es us holds.
    let p = err_from_is_err_and c.from_residual.result c.from_residual.ensures.1 in
    let root = spot_tree c.root_spot.result c.args.tree.now (at c.args.pages.now.pages) es us c.root_spot.ensures (omega arith) holds in
    rw (p.1, p.2) (c.in_err-leaf.ensures.exact steady 1 es us root.0 root.1)

pub returns-clause-told : goal.returns-clause-told
returns-clause-told g c = λ steady es us holds.
    let pages = at c.args.pages.now.pages in
    let leaf = c.in_ok-leaf.leaf in
    let left = is_left c.args.from.now in
    let unchanged = c.leaf_below.ensures.reading.0.unchanged in
    let root = spot_tree c.root_spot.result c.args.tree.now pages es us c.root_spot.ensures (omega arith) holds in
    let lies = c.in_ok-leaf.ensures.exact steady 1 es us root.0 root.1 in
    let passed = c.leaf_below.new.found in
    let told = λ (xs : List Element). g.K.RecordSink.told c.args.sink.now c.args.out.now xs c.tell_at.new.sink c.tell_at.new.out in
    let stops = λ (xs : List Element) (fault : g.row.K-Fault.Denot). g.K.RecordSink.stops c.args.sink.now c.args.out.now xs fault c.tell_at.new.sink c.tell_at.new.out in
    let front = in_turn c.args.side left lies.node.elements.items (listed_one passed) in
    match_ok c.tell_at.result (TakesTo told stops front) (TakesFirst told stops (in_turn c.args.side left es [])) (λ fault. fault ≡ Device)
    (λ taken takes. record {
      front = front;
      rest = lies.rest;
      whole = lies.turn;
      some = λ none. none_in_turn c.args.side left es (sym lies.same ∙ sym (first_is_nearest c.args.side left lies.node.elements.items passed) ∙ ap first_of none);
      takes = takes;
    })
    (c.tell_at.ensures.exact (ap (λ (v : PagesView). v.steady) unchanged ∙ steady) lies.node (subst (λ (v : PagesView). Spells c.args.tree.now.order (at v.pages) leaf.page lies.node) (sym unchanged) lies.spells) lies.belongs)
