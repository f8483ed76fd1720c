use Rattle.std.proofs.Common.{rules, ◌≡◌, ◌-◌, ◌<◌, Some, ap, sym, ◌∙◌, arith}
use Rattle.std.proofs.lemmas.Bool.{false≢true}
use Rattle.page_store.specs.PageMap.{at}
use Rattle.btree_insert.specs.declared.step.Spot.{Spot}
use Rattle.btree_insert.specs.declared.tree.TreeFault.TheVariants.{Device}
use Rattle.btree_insert.specs.Nearest.{LeadsBeside, InLeaf}
use Rattle.btree_insert.specs.PageTrees.{Spells}
use Rattle.btree_insert.proofs.HeadNodeLemmas.{top}
use Rattle.btree_insert.proofs.ReachLemmas.{if_ok, match_ok}
use Rattle.btree_insert.proofs.SpeltLemmas.{bytes_of}
use Rattle.btree_insert.proofs.GapLeadLemmas.{under_gap, leaf_under, goes_led, led_gap, goes_is_led}
use Rattle.btree_insert.proofs.beside.+leaf_below.Goals as goal

pub returns-in_err-below : goal.returns-in_err-below
returns-in_err-below g t c = record {
  exact = λ steady least es us tree between.
      let spot = c.args.spot.now in
      let head = top c.args.order (at c.args.pages.now.pages) least spot.level (spot.level - 1) spot.page es us spot.bounds (omega (arith, c.requires.search.level)) tree between in
      absurd (false≢true (c.in_err-below.ensures.exact head.0 head.1.spells.stands (ap bytes_of (sym (c.in-Some.ensures.page steady) ∙ head.1.spells.page)) (record { kind = head.1.kind; within = head.1.within })));
  level = search rules;
  led = search rules;
  leads = λ steady stands leads.
      let l = led_gap (Spells c.args.order (at c.args.pages.now.pages)) c.args.spot.now c.args.side c.args.from.now c.args.found.now stands c.requires.search.level leads in
      absurd (false≢true (c.in_err-below.ensures.exact l.node l.spelled.stands (ap bytes_of (sym (c.in-Some.ensures.page steady) ∙ l.spelled.page)) l.belongs));
  reading = search rules;
}

pub returns : goal.returns
returns g t c =
    let spot = c.args.spot.now in
    let pages = at c.args.pages.now.pages in
    let mid = c.pass_in_page.new.found in
    let found = c.leaf_below.new.found in
    let below = c.in_ok-below.below in
    let spelt = c.in-Some.ensures.spelt in
    let step = c.in_ok-below.ensures.passes spelt.0 spelt.1 spelt.2 in
    let inner : 1 < spot.level = omega (arith, c.if-spot-eq1.false, c.requires.search.level) in
    record {
      exact = λ steady least es us tree between.
          let under = under_gap c.args.order pages least spot es us c.args.side c.args.from.now c.args.found.now mid below inner tree between
          (λ m spells belongs. (c.in_ok-below.ensures.passes m spells.stands (ap bytes_of (sym (c.in-Some.ensures.page steady) ∙ spells.page))).1) in
          match_ok c.leaf_below.result (λ leaf. InLeaf c.args.order pages leaf c.args.side c.args.from.now under.xs mid found) (λ leaf. InLeaf c.args.order pages leaf c.args.side c.args.from.now es c.args.found.now found) (λ fault. fault ≡ Device)
          (λ leaf lies. leaf_under c.args.order pages leaf below c.args.side c.args.from.now es c.args.found.now mid found under lies)
          (c.leaf_below.ensures.exact steady c.args.order under.xs under.mine under.tree under.between);
      level = c.leaf_below.ensures.level;
      led = λ steady stands.
          if_ok c.leaf_below.result (λ leaf. LeadsBeside (Spells c.args.order pages) c.args.side c.args.from.now leaf.level leaf.page leaf.bounds found stands → LeadsBeside (Spells c.args.order pages) c.args.side c.args.from.now below.level below.page below.bounds mid stands) (λ leaf. LeadsBeside (Spells c.args.order pages) c.args.side c.args.from.now leaf.level leaf.page leaf.bounds found stands → LeadsBeside (Spells c.args.order pages) c.args.side c.args.from.now spot.level spot.page spot.bounds c.args.found.now stands)
          (λ leaf leads more. goes_led (Spells c.args.order pages) spot spelt.0 c.args.side c.args.from.now c.args.found.now mid stands below inner (record { page = c.in-Some.ensures.page steady ∙ ap Some spelt.2; stands = spelt.1 }) step.0 step.1 (leads more))
          (c.leaf_below.ensures.led steady stands);
      leads = λ steady stands leads.
          let l = led_gap (Spells c.args.order pages) spot c.args.side c.args.from.now c.args.found.now stands c.requires.search.level leads in
          c.leaf_below.ensures.leads steady stands
          (goes_is_led (Spells c.args.order pages) spot c.args.side c.args.from.now c.args.found.now mid stands below inner l
          (c.in_ok-below.ensures.passes l.node l.spelled.stands (ap bytes_of (sym (c.in-Some.ensures.page steady) ∙ l.spelled.page))).1);
      reading =
          let r = c.leaf_below.ensures.reading in
          let lower : below.level ≡ spot.level - 1 = ap (λ (s : Spot). s.level) step.1.goes in
          (record { unchanged = r.0.unchanged; device = r.0.device; reads = omega (arith, r.0.reads, lower) }, r.1);
    }
