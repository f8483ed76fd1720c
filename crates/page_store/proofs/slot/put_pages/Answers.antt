use Rattle.std.proofs.Common.{◌∙◌, arith, rules}
use Rattle.std.proofs.lemmas.Iterator.Consumers.{YieldsList-turn}
use Rattle.std.proofs.lemmas.Iterator.Adapters.{YieldsList-from_vec}
use Rattle.page_store.proofs.SlotLemmas.{slots_put, number_fits}
use Rattle.page_store.proofs.slot.put_pages.Goals as goal

pub index_mut-requires : goal.index_mut-requires
index_mut-requires c =
    let turn = YieldsList-turn (YieldsList-from_vec {s = c.into_iter-n-iterator.result} c.args.pages.items (cc) (c.into_iter-n-iterator.ensures.into_iter_gives.1 ∙ c.args.pages.ok.0)) c.loop-n.yielded _ c.loop-n.yielded_by _ c.next.new.self (c.in-Some.n, c.in-Some.page) c.in-Some.is c.next.ensures.steps in
    omega (arith, number_fits c.args.pages.items _ _ _ _ c.requires turn.0 turn.1, c.loop-n.invariant.len, c.args.changed.now.ok.0)

pub loop-n-preserved : goal.loop-n-preserved
loop-n-preserved c = record {
  can_next = search rules;
  is_finite = search rules;
  len = c.loop-n.invariant.len;
  slots = slots_put _ c.loop-n.changed.items c.loop-n.yielded c.in-Some.n c.in-Some.page c.loop-n.invariant.slots;
}

pub loop-n-preserved-in-Some : goal.loop-n-preserved-in-Some
loop-n-preserved-in-Some c = record {
  can_next = search rules;
  is_finite = search rules;
  len = c.loop-n.invariant.len;
  slots = slots_put _ c.loop-n.changed.items c.loop-n.yielded c.in-Some.n c.in-Some.page c.loop-n.invariant.slots;
}
