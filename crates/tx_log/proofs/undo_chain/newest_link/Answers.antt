-- The number leads to the first of the chain, which is read without its records.
use Rattle.std.proofs.Common.{reverse, option_map, ap, ◌∙◌, arith}
use Rattle.tx_log.proofs.MarkLemmas.{as_many, nothing_there, within_log}
use Rattle.tx_log.specs.Walks.{link_of}
use Rattle.tx_log.proofs.CompactLemmas.{link-there}
use Rattle.tx_log.proofs.undo_chain.newest_link.Goals as goal

pub newest_number-at-requires : goal.newest_number-at-requires
newest_number-at-requires c = omega (arith, c.requires.within, as_many c.args.log.now.items c.args.log.now.marks c.requires.marked)

pub returns-then-at-eq0 : goal.returns-then-at-eq0
returns-then-at-eq0 c =
    let rs = reverse c.args.log.now.items in
    ap (option_map link_of) (nothing_there rs c.args.from c.newest_number-at.result c.requires.numbered (c.newest_number-at.ensures rs c.requires.numbered c.requires.marked) c.if-at-eq0.true)

pub returns : goal.returns
returns c =
    let log = c.args.log.now.items in
    let rs = reverse log in
    let number = c.newest_number-at.ensures rs c.requires.numbered c.requires.marked in
    let some = c.if-at-eq0.false in
    c.link.ensures ∙ link-there log c.args.from c.newest_number-at.result c.requires.numbered number (omega (arith, some)) (omega (arith, within_log log c.args.from c.newest_number-at.result c.requires.numbered number))
