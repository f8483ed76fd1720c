use Rattle.std.proofs.Common.{◌++◌, sym}
use Rattle.rec_types.specs.Ordered.{is_left, listed_one, from_gap}
use Rattle.rec_types.proofs.InTurnLemmas.{turn_at_gap}
use Rattle.btree_insert.proofs.TellingLemmas.{takes_same}
use Rattle.btree_insert.proofs.telling.tell_in_page.Goals as goal

pub returns-clause-told : goal.returns-clause-told
returns-clause-told g c = λ m can is.
    let els = m.elements.items in
    takes_same (λ xs. g.K.RecordSink.told c.args.sink.now c.args.out.now xs c.tell_from.new.sink c.tell_from.new.out) (λ xs fault. g.K.RecordSink.stops c.args.sink.now c.args.out.now xs fault c.tell_from.new.sink c.tell_from.new.out)
    (from_gap c.args.side els c.gap_in-gap.result ++ listed_one c.args.passed.now) _ c.tell_from.result
    (sym (turn_at_gap c.args.side (is_left c.args.from.now) els c.gap_in-gap.result (listed_one c.args.passed.now) (c.gap_in-gap.ensures.gap m can is))) (c.tell_from.ensures m can is)

pub returns-clause-some : goal.returns-clause-some
returns-clause-some g c =
    let spelt = c.requires.page.1 in
    (from_gap c.args.side spelt.0.elements.items c.gap_in-gap.result ++ listed_one c.args.passed.now, c.tell_from.ensures spelt.0 spelt.1 spelt.2)
