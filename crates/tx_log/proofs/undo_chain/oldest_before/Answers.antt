use Rattle.std.proofs.Common.{reverse, sym, ap, ◌∙◌, arith}
use Rattle.tx_log.specs.Log.{chain}
use Rattle.tx_log.specs.Walks.{oldest_at}
use Rattle.tx_log.proofs.OldestLemmas.{step_oldest}
use Rattle.tx_log.proofs.WalkSteps.{walk_step}
use Rattle.tx_log.proofs.undo_chain.oldest_before.Goals as goal

pub loop-change-smaller : goal.loop-change-smaller
loop-change-smaller c =
    let step = walk_step (reverse c.args.log.now.items) c.loop-change.at c.in-Some.change c.requires.numbered (sym c.in-Some.ensures) in
    omega (arith, step.falls, step.low)

pub loop-change-preserved : goal.loop-change-preserved
loop-change-preserved c =
    let rs = reverse c.args.log.now.items in
    let step = walk_step rs c.loop-change.at c.in-Some.change c.requires.numbered (sym c.in-Some.ensures) in (
      omega (arith, step.falls, step.low, c.loop-change.invariant.0),
      ap (oldest_at c.args.key.now (chain rs c.in-Some.change.prev)) c.older-oldest.ensures
          ∙ sym (step_oldest rs c.loop-change.at c.in-Some.change c.args.key.now c.loop-change.oldest step)
          ∙ c.loop-change.invariant.1,
    )
