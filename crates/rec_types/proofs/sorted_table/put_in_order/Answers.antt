use Rattle.rec_types.proofs.KeyPlaceLemmas.{ok_whole}
use Rattle.rec_types.proofs.sorted_table.put_in_order.Goals as goal

pub returns-then-not-known-clause-first : goal.returns-then-not-known-clause-first
returns-then-not-known-clause-first c = ok_whole c.sort_anew.result c.args.keys.now c.sort_anew.new.places.items c.sort_anew.ensures.ok
