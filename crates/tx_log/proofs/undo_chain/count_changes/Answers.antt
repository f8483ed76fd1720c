use Rattle.std.proofs.Common.{◌+◌, ◌≤◌, length, reverse, sym, ap, ◌∙◌, arith}
use Rattle.tx_log.proofs.WalkSteps.{chain-all, walk_link, link_end, chain-low, stops_at, goes_on}
use Rattle.std.specs.List.{filter}
use Rattle.tx_log.specs.Log.{chain}
use Rattle.tx_log.specs.Walks.{is_after}
use Rattle.tx_log.proofs.undo_chain.count_changes.Goals as goal

-- all of them are above 0
pub returns-then-to-eq0 : goal.returns-then-to-eq0
returns-then-to-eq0 c =
    let rs = reverse c.args.log.now.items in
    c.requires.live ∙ ap length (sym (chain-all rs c.args.from c.requires.walk.numbered)) ∙ ap (λ n. length (filter (is_after n) (chain rs c.args.from))) (sym c.if-to-eq0.true)

pub returns-then-link-to : goal.returns-then-link-to
returns-then-link-to c =
    let rs = reverse c.args.log.now.items in
    let met = walk_link rs c.loop-at.at c.in-Some.link c.requires.walk.numbered (sym c.in-Some.ensures) in
    let step = met.step in
    let none = ap length (stops_at rs c.loop-at.at met.change c.args.to c.requires.walk.numbered step (omega (arith, met.lsn, c.if-link-to.true))) in
    omega (arith, none, c.loop-at.invariant.2)

pub overflow_add-count : goal.overflow_add-count
overflow_add-count c =
    let rs = reverse c.args.log.now.items in
    let met = walk_link rs c.loop-at.at c.in-Some.link c.requires.walk.numbered (sym c.in-Some.ensures) in
    let step = met.step in
    omega (arith, step.falls, step.low, met.lsn, met.prev, c.loop-at.invariant.1, c.ranges.from)

pub loop-at-smaller : goal.loop-at-smaller
loop-at-smaller c =
    let rs = reverse c.args.log.now.items in
    let met = walk_link rs c.loop-at.at c.in-Some.link c.requires.walk.numbered (sym c.in-Some.ensures) in
    let step = met.step in
    omega (arith, step.falls, step.low, met.lsn, met.prev)

pub loop-at-preserved : goal.loop-at-preserved
loop-at-preserved c =
    let rs = reverse c.args.log.now.items in
    let met = walk_link rs c.loop-at.at c.in-Some.link c.requires.walk.numbered (sym c.in-Some.ensures) in
    let step = met.step in
    let more = goes_on rs c.loop-at.at met.change c.args.to step (omega (arith, met.lsn, c.if-link-to.false)) ∙ ap (λ k. 1 + length (filter (is_after c.args.to) (chain rs k))) met.prev in
    (omega (arith, step.falls, step.low, met.lsn, met.prev, c.loop-at.invariant.0), omega (arith, step.falls, step.low, met.lsn, met.prev, c.loop-at.invariant.1), omega (arith, more, c.loop-at.invariant.2))

pub returns-in-None : goal.returns-in-None
returns-in-None c =
    let rs = reverse c.args.log.now.items in
    let none = ap (λ us. length (filter (is_after c.args.to) us)) (link_end rs c.loop-at.at (sym c.in-None.ensures)) in
    omega (arith, none, c.loop-at.invariant.2)

pub returns : goal.returns
returns c =
    let rs = reverse c.args.log.now.items in
    let low : c.loop-at.at ≤ c.args.to = let no = c.loop-at-test.false in omega arith in
    let none = ap length (chain-low rs c.loop-at.at c.args.to c.requires.walk.numbered low) in
    omega (arith, none, c.loop-at.invariant.2)
