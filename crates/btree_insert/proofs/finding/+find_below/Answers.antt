use Rattle.std.proofs.Common.{rules, ◌≡◌, ◌-◌, MatchResult, sym, ap, ◌∙◌, subst, arith}
use Rattle.std.proofs.lemmas.Result.{err_from_is_err_and}
use Rattle.page_store.specs.PagesView.{PagesView}
use Rattle.page_store.specs.PageMap.{at}
use Rattle.btree_insert.specs.declared.tree.TreeFault.TheVariants.{Device}
use Rattle.btree_insert.specs.PageTrees.{Spells, TreeAt}
use Rattle.btree_insert.specs.Reached.{Leads}
use Rattle.btree_insert.specs.Spelt.{AreSpeltIn}
use Rattle.btree_insert.specs.Steps.{Steps}
use Rattle.btree_insert.proofs.ReachLemmas.{if_ok}
use Rattle.btree_insert.proofs.SearchStepLemmas.{found_tells, ends_tells, goes_tells, goes_leads}
use Rattle.btree_insert.proofs.HeadNodeLemmas.{top}
use Rattle.btree_insert.proofs.LeadLemmas.{found_is_led, end_is_led, son_is_led}
use Rattle.btree_insert.proofs.finding.+find_below.Goals as goal

pub returns-in_err-value : goal.returns-in_err-value
returns-in_err-value g t c = record {
  found = λ steady least es us tree between.
      let spot = c.args.spot.now in
      let p = err_from_is_err_and c.from_residual.result c.from_residual.ensures.1 in
      let head = top c.args.order (at c.args.pages.now.pages) least spot.level (spot.level - 1) spot.page es us spot.bounds (omega (arith, c.requires.search.level)) tree between in
      rw (p.1, p.2) (c.in_err-value.ensures.exact steady head.0 head.1.spells (record { kind = head.1.kind; within = head.1.within }));
  led = search rules;
  leads = search rules;
  reading = search rules;
}

pub find_below-requires : goal.find_below-requires
find_below-requires g t c = λ κs sub.
    let spot = c.args.spot.now in
    let stepped = c.in_ok-value.ensures.stepped in
    let goes = subst (Steps spot.level stepped.node spot.bounds c.args.key.now) c.in-Goes.is stepped.steps in (
      omega (arith, c.decreases, c.requires.search.level),
      (sub, record { order = c.requires.search.order; level = omega (arith, goes.0); spelt = λ in_place. subst (AreSpeltIn c.args.order) (sym c.take_step.ensures.reading.unchanged) (c.requires.search.spelt in_place) }),
    )

pub returns-in-Found : goal.returns-in-Found
returns-in-Found g t c = record {
  found = λ steady least es us tree between.
      let spot = c.args.spot.now in
      found_tells c.args.order (at c.args.pages.now.pages) least spot es us c.args.key.now c.in-Found.value c.in-Found.field-0 c.requires.search.level tree between
      (λ m spells belongs. subst (Steps spot.level m spot.bounds c.args.key.now) c.in-Found.is (c.in_ok-value.ensures.exact steady m spells belongs));
  led = search rules;
  leads = λ steady led leads.
      let spot = c.args.spot.now in
      found_is_led c.args.order (at c.args.pages.now.pages) spot c.args.key.now c.in-Found.value c.in-Found.field-0 led c.requires.search.level leads
      (λ m spells belongs. subst (Steps spot.level m spot.bounds c.args.key.now) c.in-Found.is (c.in_ok-value.ensures.exact steady m spells belongs));
  reading = search rules;
}

pub returns-in-Ends : goal.returns-in-Ends
returns-in-Ends g t c = record {
  found = λ steady least es us tree between.
      let spot = c.args.spot.now in
      ends_tells c.args.order (at c.args.pages.now.pages) least spot es us c.args.key.now c.in-Ends.field-0 c.requires.search.level tree between
      (λ m spells belongs. subst (Steps spot.level m spot.bounds c.args.key.now) c.in-Ends.is (c.in_ok-value.ensures.exact steady m spells belongs));
  led = search rules;
  leads = λ steady led leads.
      let spot = c.args.spot.now in
      end_is_led c.args.order (at c.args.pages.now.pages) spot c.args.key.now c.in-Ends.field-0 led c.requires.search.level leads
      (λ m spells belongs. subst (Steps spot.level m spot.bounds c.args.key.now) c.in-Ends.is (c.in_ok-value.ensures.exact steady m spells belongs));
  reading = search rules;
}

pub returns-in-Goes : goal.returns-in-Goes
returns-in-Goes g t c = record {
  found = λ steady least es us tree between.
      let spot = c.args.spot.now in
      let son = goes_tells c.args.order (at c.args.pages.now.pages) least spot es us c.args.key.now c.in-Goes.field-0 c.in-Goes.page c.in-Goes.bounds c.requires.search.level tree between
      (λ m spells belongs. subst (Steps spot.level m spot.bounds c.args.key.now) c.in-Goes.is (c.in_ok-value.ensures.exact steady m spells belongs)) in
      let unchanged = c.take_step.ensures.reading.unchanged in
      let tree2 = subst (λ (v : PagesView). TreeAt c.args.order (at v.pages) c.args.order (spot.level - 1) c.in-Goes.page son.xs son.mine) (sym unchanged) son.tree in
      let call = c.find_below.ensures.found (ap (λ (v : PagesView). v.steady) unchanged ∙ steady) c.args.order son.xs son.mine tree2 son.between in
      subst (λ o. MatchResult c.find_below.result (λ found. found ≡ o) (λ fault. fault ≡ Device)) son.same call;
  led = λ steady.
      let spot = c.args.spot.now in
      let unchanged = c.take_step.ensures.reading.unchanged in
      let stepped = c.in_ok-value.ensures.stepped in
      if_ok c.find_below.result (Leads (Spells c.args.order (at c.take_step.new.pages.pages)) c.args.key.now (spot.level - 1) c.in-Goes.page c.in-Goes.bounds) (Leads (Spells c.args.order (at c.args.pages.now.pages)) c.args.key.now spot.level spot.page spot.bounds)
      (λ found leads. goes_leads c.args.order (at c.args.pages.now.pages) (at c.take_step.new.pages.pages) spot stepped.node c.args.key.now c.in-Goes.field-0 c.in-Goes.page c.in-Goes.bounds found (ap (λ (v : PagesView). at v.pages) unchanged) (stepped.spells steady) stepped.belongs
      (subst (Steps spot.level stepped.node spot.bounds c.args.key.now) c.in-Goes.is stepped.steps) leads)
      (c.find_below.ensures.led (ap (λ (v : PagesView). v.steady) unchanged ∙ steady));
  leads = λ steady led leads.
      let spot = c.args.spot.now in
      let unchanged = c.take_step.ensures.reading.unchanged in
      c.find_below.ensures.leads (ap (λ (v : PagesView). v.steady) unchanged ∙ steady) led
      (son_is_led c.args.order (at c.args.pages.now.pages) (at c.take_step.new.pages.pages) spot c.args.key.now c.in-Goes.field-0 c.in-Goes.page c.in-Goes.bounds led (ap (λ (v : PagesView). at v.pages) unchanged) c.requires.search.level leads
      (λ m spells belongs. subst (Steps spot.level m spot.bounds c.args.key.now) c.in-Goes.is (c.in_ok-value.ensures.exact steady m spells belongs)));
  reading = search rules;
}
