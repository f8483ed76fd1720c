use Rattle.std.proofs.Common.{rules, [], get_or, ap, sym, ◌∙◌}
use Rattle.std.proofs.lemmas.List.{set-get_or}
use Rattle.page_store.specs.FlakyStored.{FlakyStored}
use Rattle.page_store.proofs.flaky_store.FlakyStoreStore.write.Goals as goal

pub returns-then-write_fails_now-clause-other_pages :
    goal.returns-then-write_fails_now-clause-other_pages
returns-then-write_fails_now-clause-other_pages g c =
    let pages = g.S.StoreState.pages c.args.self.now.inner in
    (get_or pages c.args.n [], ap (λ (s : FlakyStored _). g.S.StoreState.pages s.inner) c.write_fails_now.ensures.after ∙ sym (set-get_or pages c.args.n []))

pub returns-clause-page : goal.returns-clause-page
returns-clause-page g c = search rules

pub returns-clause-other_pages : goal.returns-clause-other_pages
returns-clause-other_pages g c = search rules

pub returns-clause-changes : goal.returns-clause-changes
returns-clause-changes g c = search rules

pub returns-then-write_fails_now-clause-passes : goal.returns-then-write_fails_now-clause-passes
returns-then-write_fails_now-clause-passes g c = record {
  fails = search rules;
  passes = search rules;
  reads_below = search rules;
  shapes_below = search rules;
  writes_below = search rules;
  rest = search rules;
}

pub returns-clause-passes : goal.returns-clause-passes
returns-clause-passes g c = record {
  fails = search rules;
  passes = search rules;
  reads_below = search rules;
  shapes_below = search rules;
  writes_below = search rules;
  rest = search rules;
}
