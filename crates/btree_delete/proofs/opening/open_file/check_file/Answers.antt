use Rattle.std.proofs.Common.{rules, ℕ, List, IfErr, ◌∙◌, subst}
use Rattle.btree_delete.specs.CleanFile.{IsFirst}
use Rattle.btree_delete.proofs.opening.open_file.check_file.Goals as goal

pub returns-clause-fault : goal.returns-clause-fault
returns-clause-fault g c = λ steady limit.
    subst (λ (pages : List (List ℕ)). IfErr c.check_header.result (IsFirst pages (g.S.StoreState.tail c.args.store.now) limit)) c.check_length.ensures.asks.stays.pages
    (subst (λ (tail : ℕ). IfErr c.check_header.result (IsFirst (g.S.StoreState.pages c.check_length.new.store) tail limit)) c.check_length.ensures.asks.stays.tail (c.check_header.ensures.fault (c.check_length.ensures.asks.stays.steady ∙ steady) limit))

pub returns-in_err-pages-clause-asks : goal.returns-in_err-pages-clause-asks
returns-in_err-pages-clause-asks g c = record {
  stays = search rules;
  shapes = search rules;
  failures = search rules;
}

pub returns-clause-asks : goal.returns-clause-asks
returns-clause-asks g c = record {
  stays = search rules;
  shapes = search rules;
  failures = search rules;
}
