use Rattle.std.proofs.Common.{reverse, ◌∙◌, arith}
use Rattle.tx_log.proofs.MarkLemmas.{as_many, within_log}
use Rattle.tx_log.proofs.CompactLemmas.{step-there, none_above}
use Rattle.tx_log.proofs.undo_chain.newest_above.Goals as goal

pub newest_number-at-requires : goal.newest_number-at-requires
newest_number-at-requires c = omega (arith, c.requires.within, as_many c.args.log.now.items c.args.log.now.marks c.requires.marked)

pub returns-then-at-to : goal.returns-then-at-to
returns-then-at-to c =
    let rs = reverse c.args.log.now.items in
    none_above rs c.args.from c.newest_number-at.result c.args.to c.requires.numbered (c.newest_number-at.ensures rs c.requires.numbered c.requires.marked) c.if-at-to.true

pub returns : goal.returns
returns c =
    let log = c.args.log.now.items in
    let rs = reverse log in
    let number = c.newest_number-at.ensures rs c.requires.numbered c.requires.marked in
    let above = c.if-at-to.false in
    c.undo_step.ensures ∙ step-there log c.args.from c.newest_number-at.result c.args.to c.requires.numbered number (omega (arith, above)) (omega (arith, within_log log c.args.from c.newest_number-at.result c.requires.numbered number))
