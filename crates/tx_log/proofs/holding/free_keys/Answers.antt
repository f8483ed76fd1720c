use Rattle.std.proofs.Common.{rules, List, None, cond, reverse, sym, ap, ◌∙◌, arith}
use Rattle.std.specs.List.{list_any}
use Rattle.tx_log.proofs.HoldingLemmas.{freed_more}
use Rattle.tx_log.proofs.WalkSteps.{walk_link, link_end}
use Rattle.tx_log.specs.Holdings.{holdings_in}
use Rattle.tx_log.specs.Log.{chain}
use Rattle.tx_log.specs.Walks.{is_at}
use Rattle.tx_log.specs.declared.log_record.LogRecord.{LogRecord}
use Rattle.tx_log.specs.declared.undo_chain.LiveChange.{LiveChange}
use Rattle.tx_log.proofs.holding.free_keys.Goals as goal

pub loop-link-smaller : goal.loop-link-smaller
loop-link-smaller c =
    let rs = reverse c.args.log.now.items in
    let met = walk_link rs c.loop-link.at c.in-Some.link c.requires.numbered (sym c.in-Some.ensures) in
    let step = met.step in
    omega (arith, step.falls, step.low, met.lsn, met.prev)

pub loop-link-preserved : goal.loop-link-preserved
loop-link-preserved c =
    let rs = reverse c.args.log.now.items in
    let met = walk_link rs c.loop-link.at c.in-Some.link c.requires.numbered (sym c.in-Some.ensures) in
    let step = met.step in (
      omega (arith, step.falls, step.low, met.lsn, met.prev, c.loop-link.invariant.0),
      λ q. ap (λ (us : List LogRecord). cond (list_any (is_at q) us) None (holdings_in c.swap_remove.new.self q)) (ap (chain rs) (sym met.prev) ∙ step.tail)
          ∙ ap (cond (list_any (is_at q) step.rest) None) (c.swap_remove.ensures.updates.0 q)
          ∙ freed_more c.in-Some.link.key q step.update step.rest (holdings_in c.loop-link.holdings q) (ap (λ (x : LiveChange). x.key) step.told ∙ met.key)
          ∙ ap (λ (us : List LogRecord). cond (list_any (is_at q) us) None (holdings_in c.loop-link.holdings q)) (sym step.is)
          ∙ c.loop-link.invariant.1 q,
    )

pub returns : goal.returns
returns c = λ q.
    ap (λ (us : List LogRecord). cond (list_any (is_at q) us) None (holdings_in c.loop-link.holdings q)) (sym (link_end (reverse c.args.log.now.items) c.loop-link.at (sym c.in_default.ensures)))
    ∙ c.loop-link.invariant.1 q

pub loop-link-init : goal.loop-link-init
loop-link-init c = search rules
