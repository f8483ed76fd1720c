use Rattle.std.proofs.Common.{sym, ◌∙◌, arith}
use Rattle.std.proofs.lemmas.Grind.{elements}
use Rattle.tx_log.proofs.PlaceOf.{at_some, mapped_some, stands_at, first_stands}
use Rattle.tx_log.proofs.open_tx.place_of.Goals as goal

pub returns-clause-stands : goal.returns-clause-stands
returns-clause-stands c =
    let p = c.unwrap-at.result in
    let is = c.unwrap-at.ensures in
    stands_at c.args.txs.now c.args.tx.0 p.0 p.1.now p.2.now c.len-count.ensures.unique (at_some _ _ p is c.get_full.ensures.entry) (sym (mapped_some _ _ p _ is c.get_full.ensures.key)) (mapped_some _ _ p _ is c.get_full.ensures.value)

pub returns-clause-within : goal.returns-clause-within
returns-clause-within c = grind (arith, elements)

pub returns-then-eq-clause-stands : goal.returns-then-eq-clause-stands
returns-then-eq-clause-stands c =
    first_stands c.args.txs.now c.args.tx.0 c.in-Some.first.now c.in-Some.field-0-1.now c.len-count.ensures.unique c.in-Some.ensures.entry (sym c.eq.ensures ∙ c.if-eq.true)
