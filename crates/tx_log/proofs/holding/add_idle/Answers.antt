use Rattle.std.proofs.Common.{rules, ◌∙◌}
use Rattle.indexmap.specs.Entry.{map_with_value}
use Rattle.tx_log.proofs.KeyPlaces.{held_new, held_same}
use Rattle.tx_log.proofs.holding.add_idle.Goals as goal

pub returns-clause-stands : goal.returns-clause-stands
returns-clause-stands c =
    let old = c.args.holdings.now in
    let key = c.args.key.now in
    let is = c.in_ok-entry.ensures in
    let now = c.or_insert.result.now in
    held_same _ (map_with_value c.in_ok-entry.entry now) key c.index-at.result (search rules)
    (held_new old (map_with_value c.in_ok-entry.entry now) key c.index-at.result now (c.index-at.ensures ∙ is.index) (is.update.0 now) (is.update.1 now) (is.update.2 now))
