use Rattle.std.proofs.Common.{rules, None, ap, sym, ◌∙◌, subst, arith}
use Rattle.std.proofs.lemmas.Result.{err_from_is_err_and}
use Rattle.page_store.specs.PageMap.{at}
use Rattle.page_store.specs.PagesView.{PagesView}
use Rattle.btree_insert.specs.declared.step.Spot.{Spot}
use Rattle.btree_insert.specs.Nearest.{LeadsBeside}
use Rattle.btree_insert.specs.PageTrees.{Spells}
use Rattle.btree_insert.proofs.RootSpotLemmas.{spot_tree}
use Rattle.btree_insert.proofs.GapLeadLemmas.{kept_nearest, ends_led, led_gap, ends_is_led, from_root, to_root}
use Rattle.btree_insert.proofs.beside.nearest.Goals as goal

pub returns-in_err-leaf : goal.returns-in_err-leaf
returns-in_err-leaf g c =
    let p = err_from_is_err_and c.from_residual.result c.from_residual.ensures.1 in
    let spells = Spells c.args.tree.now.order (at c.args.pages.now.pages) in
    record {
      exact = λ steady es us holds.
          let root = spot_tree c.root_spot.result c.args.tree.now (at c.args.pages.now.pages) es us c.root_spot.ensures (omega arith) holds in
          rw (p.1, p.2) (c.in_err-leaf.ensures.exact steady 1 es us root.0 root.1);
      led = search rules;
      leads = λ steady stands leads.
          rw (p.1, p.2) (c.in_err-leaf.ensures.leads steady stands
          (subst (λ (s : Spot). LeadsBeside spells c.args.side c.args.from.now s.level s.page s.bounds None stands) (sym c.root_spot.ensures) (to_root spells c.args.side c.args.from.now c.args.tree.now.height c.args.tree.now.root stands (omega arith) leads)));
      reading = search rules;
    }

pub returns-in_err-keep_at : goal.returns-in_err-keep_at
returns-in_err-keep_at g c =
    let p = err_from_is_err_and c.from_residual-in_err-keep_at.result c.from_residual-in_err-keep_at.ensures.1 in
    let pages = at c.args.pages.now.pages in
    let spells = Spells c.args.tree.now.order pages in
    let unchanged = c.leaf_below.ensures.reading.0.unchanged in
    record {
      exact = λ steady es us holds.
          let root = spot_tree c.root_spot.result c.args.tree.now pages es us c.root_spot.ensures (omega arith) holds in
          let lies = c.in_ok-leaf.ensures.exact steady 1 es us root.0 root.1 in
          rw (p.1, p.2) (c.in_err-keep_at.ensures.exact (ap (λ (v : PagesView). v.steady) unchanged ∙ steady) lies.node (subst (λ (v : PagesView). Spells c.args.tree.now.order (at v.pages) c.in_ok-leaf.leaf.page lies.node) (sym unchanged) lies.spells) lies.belongs);
      led = search rules;
      leads = λ steady stands leads.
          let below = c.in_ok-leaf.ensures.leads steady stands
          (subst (λ (s : Spot). LeadsBeside spells c.args.side c.args.from.now s.level s.page s.bounds None stands) (sym c.root_spot.ensures) (to_root spells c.args.side c.args.from.now c.args.tree.now.height c.args.tree.now.root stands (omega arith) leads)) in
          let l = led_gap spells c.in_ok-leaf.leaf c.args.side c.args.from.now c.leaf_below.new.found stands (omega (arith, c.in_ok-leaf.ensures.level)) below in
          rw (p.1, p.2) (c.in_err-keep_at.ensures.exact (ap (λ (v : PagesView). v.steady) unchanged ∙ steady) l.node (subst (λ (v : PagesView). Spells c.args.tree.now.order (at v.pages) c.in_ok-leaf.leaf.page l.node) (sym unchanged) l.spelled) l.belongs);
      reading = search rules;
    }

pub returns : goal.returns
returns g c =
    let pages = at c.args.pages.now.pages in
    let spells = Spells c.args.tree.now.order pages in
    let leaf = c.in_ok-leaf.leaf in
    let mid = c.leaf_below.new.found in
    let found = c.keep_at.new.found in
    let unchanged = c.leaf_below.ensures.reading.0.unchanged in
    let low = c.in_ok-leaf.ensures.level in
    record {
      exact = λ steady es us holds.
          let root = spot_tree c.root_spot.result c.args.tree.now pages es us c.root_spot.ensures (omega arith) holds in
          let lies = c.in_ok-leaf.ensures.exact steady 1 es us root.0 root.1 in
          kept_nearest c.args.tree.now.order pages leaf c.args.side c.args.from.now es None mid found lies
          (c.in_ok-keep_at.ensures.exact (ap (λ (v : PagesView). v.steady) unchanged ∙ steady) lies.node (subst (λ (v : PagesView). Spells c.args.tree.now.order (at v.pages) leaf.page lies.node) (sym unchanged) lies.spells) lies.belongs);
      led = λ steady.
          let kept = c.in_ok-keep_at.ensures.kept in
          let spelled = subst (λ (v : PagesView). Spells c.args.tree.now.order (at v.pages) leaf.page kept.node) unchanged (kept.spells (ap (λ (v : PagesView). v.steady) unchanged ∙ steady)) in
          from_root spells c.args.side c.args.from.now c.args.tree.now.height c.args.tree.now.root found (omega arith)
          (subst (λ (s : Spot). LeadsBeside spells c.args.side c.args.from.now s.level s.page s.bounds None found) c.root_spot.ensures
          (c.in_ok-leaf.ensures.led steady found (ends_led spells leaf kept.node c.args.side c.args.from.now mid found low spelled kept.belongs kept.said)));
      leads = λ steady stands leads.
          let below = c.in_ok-leaf.ensures.leads steady stands
          (subst (λ (s : Spot). LeadsBeside spells c.args.side c.args.from.now s.level s.page s.bounds None stands) (sym c.root_spot.ensures) (to_root spells c.args.side c.args.from.now c.args.tree.now.height c.args.tree.now.root stands (omega arith) leads)) in
          let l = led_gap spells leaf c.args.side c.args.from.now mid stands (omega (arith, low)) below in
          ends_is_led spells leaf c.args.side c.args.from.now mid found stands low l
          (c.in_ok-keep_at.ensures.exact (ap (λ (v : PagesView). v.steady) unchanged ∙ steady) l.node (subst (λ (v : PagesView). Spells c.args.tree.now.order (at v.pages) leaf.page l.node) (sym unchanged) l.spelled) l.belongs);
      reading = search rules;
    }
