use Rattle.std.proofs.Common.{rules, arith}
use Rattle.std.proofs.lemmas.Grind.{common_steps}
use Rattle.btree_delete.proofs.TableViewLemmas.{no_contents}
use Rattle.btree_delete.proofs.table.tree_table.TreeTable.create.Goals as goal

pub invariant_of-result : goal.invariant_of-result
invariant_of-result g c = grind (arith, common_steps)

pub returns-clause-made : goal.returns-clause-made
returns-clause-made g c = record {
  was_empty = search rules;
  order = search rules;
  tree = search rules;
  one_page = search rules;
  changed = search rules;
  stored_is = search rules;
  tail_is = search rules;
  empty = no_contents;
  in_class = grind (arith, common_steps);
}

pub returns-clause-over : goal.returns-clause-over
returns-clause-over g c = record {
  stored = search rules;
  tail = search rules;
  steady = search rules;
  opening = search rules;
  shapes = search rules;
  writes = search rules;
  failures = search rules;
  journal = search rules;
  guard = search rules;
}

pub returns-clause-uncalled : goal.returns-clause-uncalled
returns-clause-uncalled g c = record {
  limit = search rules;
  no_refusals = search rules;
  no_damages = search rules;
  no_calls = search rules;
}

pub returns-in-Err-clause-back : goal.returns-in-Err-clause-back
returns-in-Err-clause-back g c = record {
  stays = search rules;
  shapes = search rules;
  failures = search rules;
}

pub returns-in-Err-clause-fault : goal.returns-in-Err-clause-fault
returns-in-Err-clause-fault g c = search rules
