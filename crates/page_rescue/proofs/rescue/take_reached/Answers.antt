use Rattle.page_rescue.proofs.RescueLemmas.{grows_more, stays_on}
use Rattle.page_rescue.proofs.rescue.take_reached.Goals as goal

pub loop-n-preserved : goal.loop-n-preserved
loop-n-preserved g c =
    let s = g.S.StoreState in
    record {
      stays = stays_on s c.args.store.now c.loop-n.store c.take_if_reached.new.store c.loop-n.invariant.stays c.take_if_reached.ensures.stays;
      grows = grows_more s c.args.store.now c.loop-n.store c.args.table.now.contents c.loop-n.table.contents c.take_if_reached.new.table.contents c.loop-n.invariant.stays c.loop-n.invariant.grows c.in_ok-take_if_reached.ensures.grows;
    }
