use Rattle.std.proofs.Common.{rules, ◌≡◌, ◌-◌, MatchResult, Some, refl, ap, sym, ◌∙◌, subst, arith}
use Rattle.std.proofs.lemmas.Bool.{false≢true}
use Rattle.page_store.specs.PageMap.{at}
use Rattle.btree_insert.specs.declared.tree.TreeFault.TheVariants.{Device}
use Rattle.btree_insert.specs.PageTrees.{Spells}
use Rattle.btree_insert.specs.Reached.{Leads}
use Rattle.btree_insert.specs.Steps.{Steps}
use Rattle.btree_insert.proofs.SearchStepLemmas.{found_tells, ends_tells, goes_tells, goes_leads}
use Rattle.btree_insert.proofs.SpeltLemmas.{bytes_of}
use Rattle.btree_insert.proofs.ReachLemmas.{if_ok}
use Rattle.btree_insert.proofs.HeadNodeLemmas.{top}
use Rattle.btree_insert.proofs.LeadLemmas.{led_node, found_is_led, end_is_led, son_is_led}
use Rattle.btree_insert.proofs.finding.+look_up_below.Goals as goal

pub returns-in_err-value : goal.returns-in_err-value
returns-in_err-value g t c = record {
  found = λ steady least es us tree between.
      let spot = c.args.spot.now in
      let head = top c.args.order (at c.args.pages.now.pages) least spot.level (spot.level - 1) spot.page es us spot.bounds (omega (arith, c.requires.search.level)) tree between in
      let spells = head.1.spells in
      absurd (false≢true (c.in_err-value.ensures.exact head.0 spells.stands (ap bytes_of (sym (c.in-Some.ensures.page steady) ∙ spells.page)) (record { kind = head.1.kind; within = head.1.within })));
  led = search rules;
  leads = λ steady led leads.
      let l = led_node c.args.order (at c.args.pages.now.pages) c.args.spot.now c.args.key.now led c.requires.search.level leads in
      absurd (false≢true (c.in_err-value.ensures.exact l.node l.spells.stands (ap bytes_of (sym (c.in-Some.ensures.page steady) ∙ l.spells.page)) l.belongs));
  reading = search rules;
}

pub returns-in-Found : goal.returns-in-Found
returns-in-Found g t c = record {
  found = λ steady least es us tree between.
      let spot = c.args.spot.now in
      found_tells c.args.order (at c.args.pages.now.pages) least spot es us c.args.key.now c.in-Found.value c.in-Found.field-0 c.requires.search.level tree between
      (λ m spells belongs. subst (Steps spot.level m spot.bounds c.args.key.now) c.in-Found.is (c.in_ok-value.ensures.steps m spells.stands (ap bytes_of (sym (c.in-Some.ensures.page steady) ∙ spells.page))).1);
  led = search rules;
  leads = λ steady led leads.
      let spot = c.args.spot.now in
      found_is_led c.args.order (at c.args.pages.now.pages) spot c.args.key.now c.in-Found.value c.in-Found.field-0 led c.requires.search.level leads
      (λ m spells belongs. subst (Steps spot.level m spot.bounds c.args.key.now) c.in-Found.is (c.in_ok-value.ensures.steps m spells.stands (ap bytes_of (sym (c.in-Some.ensures.page steady) ∙ spells.page))).1);
  reading = search rules;
}

pub returns-in-Ends : goal.returns-in-Ends
returns-in-Ends g t c = record {
  found = λ steady least es us tree between.
      let spot = c.args.spot.now in
      ends_tells c.args.order (at c.args.pages.now.pages) least spot es us c.args.key.now c.in-Ends.field-0 c.requires.search.level tree between
      (λ m spells belongs. subst (Steps spot.level m spot.bounds c.args.key.now) c.in-Ends.is (c.in_ok-value.ensures.steps m spells.stands (ap bytes_of (sym (c.in-Some.ensures.page steady) ∙ spells.page))).1);
  led = search rules;
  leads = λ steady led leads.
      let spot = c.args.spot.now in
      end_is_led c.args.order (at c.args.pages.now.pages) spot c.args.key.now c.in-Ends.field-0 led c.requires.search.level leads
      (λ m spells belongs. subst (Steps spot.level m spot.bounds c.args.key.now) c.in-Ends.is (c.in_ok-value.ensures.steps m spells.stands (ap bytes_of (sym (c.in-Some.ensures.page steady) ∙ spells.page))).1);
  reading = search rules;
}

pub returns-in-Goes : goal.returns-in-Goes
returns-in-Goes g t c = record {
  found = λ steady least es us tree between.
      let spot = c.args.spot.now in
      let son = goes_tells c.args.order (at c.args.pages.now.pages) least spot es us c.args.key.now c.in-Goes.field-0 c.in-Goes.page c.in-Goes.bounds c.requires.search.level tree between
      (λ m spells belongs. subst (Steps spot.level m spot.bounds c.args.key.now) c.in-Goes.is (c.in_ok-value.ensures.steps m spells.stands (ap bytes_of (sym (c.in-Some.ensures.page steady) ∙ spells.page))).1) in
      let call = c.look_up_below.ensures.found steady c.args.order son.xs son.mine son.tree son.between in
      subst (λ o. MatchResult c.look_up_below.result (λ found. found ≡ o) (λ fault. fault ≡ Device)) son.same call;
  led = λ steady.
      let spot = c.args.spot.now in
      let pages = at c.args.pages.now.pages in
      let spelt = c.in-Some.ensures.spelt in
      let step = c.in_ok-value.ensures.steps spelt.0 spelt.1 spelt.2 in
      if_ok c.look_up_below.result (Leads (Spells c.args.order pages) c.args.key.now (spot.level - 1) c.in-Goes.page c.in-Goes.bounds) (Leads (Spells c.args.order pages) c.args.key.now spot.level spot.page spot.bounds)
      (λ found leads. goes_leads c.args.order pages pages spot spelt.0 c.args.key.now c.in-Goes.field-0 c.in-Goes.page c.in-Goes.bounds found refl (record { page = c.in-Some.ensures.page steady ∙ ap Some spelt.2; stands = spelt.1 }) step.0
      (subst (Steps spot.level spelt.0 spot.bounds c.args.key.now) c.in-Goes.is step.1) leads)
      (c.look_up_below.ensures.led steady);
  leads = λ steady led leads.
      let spot = c.args.spot.now in
      let pages = at c.args.pages.now.pages in
      c.look_up_below.ensures.leads steady led
      (son_is_led c.args.order pages pages spot c.args.key.now c.in-Goes.field-0 c.in-Goes.page c.in-Goes.bounds led refl c.requires.search.level leads
      (λ m spells belongs. subst (Steps spot.level m spot.bounds c.args.key.now) c.in-Goes.is (c.in_ok-value.ensures.steps m spells.stands (ap bytes_of (sym (c.in-Some.ensures.page steady) ∙ spells.page))).1));
  reading = search rules;
}
