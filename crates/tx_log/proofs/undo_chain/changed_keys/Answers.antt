use Rattle.std.proofs.Common.{ℕ, ◌∷◌, [], ◌++◌, List, map, reverse, sym, ap, ◌∙◌, arith, append_assoc}
use Rattle.tx_log.specs.Log.{chain, key_of_record}
use Rattle.tx_log.proofs.WalkSteps.{walk_link, keys_on}
use Rattle.tx_log.proofs.undo_chain.changed_keys.Goals as goal

pub loop-link-smaller : goal.loop-link-smaller
loop-link-smaller c =
    let rs = reverse c.args.log.now.items in
    let met = walk_link rs c.loop-link.at c.in-Some.link c.requires.numbered (sym c.in-Some.ensures) in
    let step = met.step in
    omega (arith, step.falls, step.low, met.lsn, met.prev)

pub loop-link-preserved : goal.loop-link-preserved
loop-link-preserved c =
    let rs = reverse c.args.log.now.items in
    let met = walk_link rs c.loop-link.at c.in-Some.link c.requires.numbered (sym c.in-Some.ensures) in
    let step = met.step in
    let rest = map key_of_record (chain rs c.in-Some.link.prev) in
    let keys = keys_on rs c.loop-link.at met.change step ∙ (λ i. met.key i ∷ map key_of_record (chain rs (met.prev i))) in (
      omega (arith, step.falls, step.low, met.lsn, met.prev, c.loop-link.invariant.0),
      ap (λ (items : List (List ℕ)). items ++ rest) c.in_ok-push.ensures.items
          ∙ append_assoc c.loop-link.keys.items (c.in-Some.link.key ∷ []) rest
          ∙ ap (λ ks. c.loop-link.keys.items ++ ks) (sym keys)
          ∙ c.loop-link.invariant.1,
    )
