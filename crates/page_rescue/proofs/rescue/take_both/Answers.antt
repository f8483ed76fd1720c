use Rattle.std.proofs.Common.{ap, refl}
use Rattle.page_rescue.proofs.RescueLemmas.{saves}
use Rattle.page_rescue.proofs.rescue.take_both.Goals as goal

pub returns-clause-saved : goal.returns-clause-saved
returns-clause-saved g c = saves g.S.StoreState c.args.store.now c.take_reached.new.store c.args.count c.new-table.result.contents c.take_reached.new.table.contents c.take_whole.new.table.contents _ (ap (λ t. t.contents) c.new-table.ensures) c.take_reached.ensures.stays c.in_ok-take_reached.ensures.grows c.in_ok-complete.ensures.grows c.in_ok-complete.ensures.has (c.in_ok-records.ensures.value refl)
