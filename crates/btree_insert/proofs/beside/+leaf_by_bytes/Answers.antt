use Rattle.std.proofs.Common.{rules, ◌≡◌, ◌-◌, ◌<◌, ap, sym, ◌∙◌, subst, arith}
use Rattle.std.proofs.lemmas.Result.{err_from_is_err_and}
use Rattle.page_store.specs.PageMap.{at}
use Rattle.page_store.specs.PagesView.{PagesView}
use Rattle.btree_insert.specs.declared.step.Spot.{Spot}
use Rattle.btree_insert.specs.declared.tree.TreeFault.TheVariants.{Device}
use Rattle.btree_insert.specs.Nearest.{LeadsBeside, InLeaf}
use Rattle.btree_insert.specs.PageTrees.{Spells, TreeAt}
use Rattle.btree_insert.proofs.HeadNodeLemmas.{top}
use Rattle.btree_insert.proofs.ReachLemmas.{if_ok, match_ok}
use Rattle.btree_insert.proofs.GapLeadLemmas.{under_gap, leaf_under, goes_led, led_gap, goes_is_led}
use Rattle.btree_insert.proofs.beside.+leaf_by_bytes.Goals as goal

pub returns-in_err-below : goal.returns-in_err-below
returns-in_err-below g t c =
    let p = err_from_is_err_and c.from_residual.result c.from_residual.ensures.1 in
    record {
      exact = λ steady least es us tree between.
          let spot = c.args.spot.now in
          let head = top c.args.order (at c.args.pages.now.pages) least spot.level (spot.level - 1) spot.page es us spot.bounds (omega (arith, c.requires.search.level)) tree between in
          rw (p.1, p.2) (c.in_err-below.ensures.exact steady head.0 head.1.spells (record { kind = head.1.kind; within = head.1.within }));
      level = search rules;
      led = search rules;
      leads = λ steady stands leads.
          let l = led_gap (Spells c.args.order (at c.args.pages.now.pages)) c.args.spot.now c.args.side c.args.from.now c.args.found.now stands c.requires.search.level leads in
          rw (p.1, p.2) (c.in_err-below.ensures.exact steady l.node l.spelled l.belongs);
      reading = search rules;
    }

pub returns : goal.returns
returns g t c =
    let spot = c.args.spot.now in
    let pages = at c.args.pages.now.pages in
    let mid = c.take_pass.new.found in
    let found = c.leaf_by_bytes.new.found in
    let below = c.in_ok-below.below in
    let passed = c.in_ok-below.ensures.passed in
    let unchanged = c.take_pass.ensures.reading.unchanged in
    let inner : 1 < spot.level = omega (arith, c.if-spot-eq1.false, c.requires.search.level) in
    record {
      exact = λ steady least es us tree between.
          let under = under_gap c.args.order pages least spot es us c.args.side c.args.from.now c.args.found.now mid below inner tree between (λ m spells belongs. c.in_ok-below.ensures.exact steady m spells belongs) in
          let tree2 = subst (λ (v : PagesView). TreeAt c.args.order (at v.pages) c.args.order below.level below.page under.xs under.mine) (sym unchanged) under.tree in
          match_ok c.leaf_by_bytes.result (λ leaf. InLeaf c.args.order (at c.take_pass.new.pages.pages) leaf c.args.side c.args.from.now under.xs mid found) (λ leaf. InLeaf c.args.order pages leaf c.args.side c.args.from.now es c.args.found.now found) (λ fault. fault ≡ Device)
          (λ leaf lies. leaf_under c.args.order pages leaf below c.args.side c.args.from.now es c.args.found.now mid found under (subst (λ (v : PagesView). InLeaf c.args.order (at v.pages) leaf c.args.side c.args.from.now under.xs mid found) unchanged lies))
          (c.leaf_by_bytes.ensures.exact (ap (λ (v : PagesView). v.steady) unchanged ∙ steady) c.args.order under.xs under.mine tree2 under.between);
      level = c.leaf_by_bytes.ensures.level;
      led = λ steady stands.
          if_ok c.leaf_by_bytes.result (λ leaf. LeadsBeside (Spells c.args.order (at c.take_pass.new.pages.pages)) c.args.side c.args.from.now leaf.level leaf.page leaf.bounds found stands → LeadsBeside (Spells c.args.order (at c.take_pass.new.pages.pages)) c.args.side c.args.from.now below.level below.page below.bounds mid stands) (λ leaf. LeadsBeside (Spells c.args.order pages) c.args.side c.args.from.now leaf.level leaf.page leaf.bounds found stands → LeadsBeside (Spells c.args.order pages) c.args.side c.args.from.now spot.level spot.page spot.bounds c.args.found.now stands)
          (λ leaf leads more. goes_led (Spells c.args.order pages) spot passed.node c.args.side c.args.from.now c.args.found.now mid stands below inner (passed.spells steady) passed.belongs passed.said
          (subst (λ (v : PagesView). LeadsBeside (Spells c.args.order (at v.pages)) c.args.side c.args.from.now below.level below.page below.bounds mid stands) unchanged
          (leads (subst (λ (v : PagesView). LeadsBeside (Spells c.args.order (at v.pages)) c.args.side c.args.from.now leaf.level leaf.page leaf.bounds found stands) (sym unchanged) more))))
          (c.leaf_by_bytes.ensures.led (ap (λ (v : PagesView). v.steady) unchanged ∙ steady) stands);
      leads = λ steady stands leads.
          let l = led_gap (Spells c.args.order pages) spot c.args.side c.args.from.now c.args.found.now stands c.requires.search.level leads in
          match_ok c.leaf_by_bytes.result (λ leaf. LeadsBeside (Spells c.args.order (at c.take_pass.new.pages.pages)) c.args.side c.args.from.now leaf.level leaf.page leaf.bounds found stands) (λ leaf. LeadsBeside (Spells c.args.order pages) c.args.side c.args.from.now leaf.level leaf.page leaf.bounds found stands) (λ fault. fault ≡ Device)
          (λ leaf more. subst (λ (v : PagesView). LeadsBeside (Spells c.args.order (at v.pages)) c.args.side c.args.from.now leaf.level leaf.page leaf.bounds found stands) unchanged more)
          (c.leaf_by_bytes.ensures.leads (ap (λ (v : PagesView). v.steady) unchanged ∙ steady) stands
          (subst (λ (v : PagesView). LeadsBeside (Spells c.args.order (at v.pages)) c.args.side c.args.from.now below.level below.page below.bounds mid stands) (sym unchanged)
          (goes_is_led (Spells c.args.order pages) spot c.args.side c.args.from.now c.args.found.now mid stands below inner l (c.in_ok-below.ensures.exact steady l.node l.spelled l.belongs))));
      reading =
          let lower : below.level ≡ spot.level - 1 = ap (λ (s : Spot). s.level) passed.said.goes in
          search (rules, lower);
    }
