use Rattle.std.proofs.Common.{rules, true, ap, ◌∙◌, arith}
use Rattle.std.proofs.lemmas.Grind.{common_steps, elements}
use Rattle.rec_types.specs.Table.{counted}
use Rattle.page_store.specs.declared.step.Step.TheVariants.{Write, Sync}
use Rattle.page_store.proofs.CallCountLemmas.{all_calls, on_err}
use Rattle.page_store.proofs.GuardLemmas.{two_pass}
use Rattle.page_store.proofs.write_back.put_header.Goals as goal

pub returns-in_err-write-clause-others : goal.returns-in_err-write-clause-others
returns-in_err-write-clause-others g c = grind (arith, elements)

pub returns-clause-page : goal.returns-clause-page
returns-clause-page g c = grind (arith, elements)

pub returns-clause-others : goal.returns-clause-others
returns-clause-others g c = grind (arith, elements)

pub returns-in_err-write-clause-carries : goal.returns-in_err-write-clause-carries
returns-in_err-write-clause-carries g c = record {
  steady = search rules;
  opening = search rules;
  reads = search rules;
  shapes = search rules;
  writes = search rules;
  writes_err = on_err _ (all_calls _ _ 1 2 (omega arith) (omega arith) c.write.ensures.changes.writes);
  failures = search rules;
  journal = search rules;
  journal_err = search rules;
  guard = λ all. c.write.ensures.changes.guard all.0;
}

pub returns-clause-carries : goal.returns-clause-carries
returns-clause-carries g c = record {
  steady = search rules;
  opening = search rules;
  reads = search rules;
  shapes = search rules;
  writes = search rules;
  writes_err =
      let both = c.sync.ensures.changes.writes ∙ ap (λ k. counted k true) c.write.ensures.changes.writes in
      on_err _ (all_calls _ _ 2 2 (omega arith) (omega arith) both);
  failures = search rules;
  journal = grind (arith, common_steps);
  journal_err = search rules;
  guard = two_pass (Write 0 c.args.page.now) Sync _ (g.S.StoreState.guard c.write.new.self) _ c.write.ensures.changes.guard c.sync.ensures.changes.guard;
}
