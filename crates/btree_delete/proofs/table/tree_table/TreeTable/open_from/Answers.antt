use Rattle.std.proofs.Common.{rules, arith}
use Rattle.btree_delete.proofs.ClosedFileLemmas.{opened_table, same_records}
use Rattle.btree_delete.proofs.table.tree_table.TreeTable.open_from.Goals as goal

pub invariant_of-result : goal.invariant_of-result
invariant_of-result g c =
    let sizes = c.in_ok-pages.ensures.small in
    let over = c.in_ok-pages.ensures.over in
    opened_table (g.S.StoreState.pages c.args.store) (g.S.StoreState.tail c.args.store) c.args.limits.records (g.S.StoreState.reads c.args.store) c.in_ok-pages.pages c.in_ok-pages.tree _ _ _ _ (g.S.StoreState.steady c.args.store)
    over.stored over.tail over.steady c.in_ok-pages.ensures.found (record { order = sizes.0; height = sizes.1; count = omega (arith, sizes.3, c.records-limit.ensures.most); used = sizes.2 }) sizes.3 (omega (arith, c.records-limit.ensures.value)) (omega (arith, c.records-limit.ensures.most)) c.in_ok-pages.ensures.spelt

pub returns-clause-reopened : goal.returns-clause-reopened
returns-clause-reopened g c = λ steady tree contents version closed few.
    let call = c.in_ok-pages.ensures in
    let same = call.exact steady closed.h tree closed.es closed.us closed.clean (omega (arith, few, closed.clean.count)) in (
      same,
      same_records version (g.S.StoreState.pages c.args.store) (g.S.StoreState.tail c.args.store) c.args.limits.records (g.S.StoreState.reads c.args.store) c.in_ok-pages.pages tree c.in_ok-pages.tree contents call.small.0.1 (call.found steady) closed same,
    )

pub returns-clause-uncalled : goal.returns-clause-uncalled
returns-clause-uncalled g c = record {
  limit = search rules;
  no_refusals = search rules;
  no_damages = search rules;
  no_calls = search rules;
}
