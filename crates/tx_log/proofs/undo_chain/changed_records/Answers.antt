use Rattle.std.proofs.Common.{ℕ, ◌≡◌, true, [], ◌++◌, List, Option, Some, None, reverse, refl, sym, ap, ◌∙◌, arith, append_assoc}
use Rattle.tx_log.specs.Log.{chain}
use Rattle.tx_log.specs.Written.{written_by, writes_if}
use Rattle.tx_log.proofs.WalkSteps.{walk_step}
use Rattle.tx_log.proofs.WrittenLemmas.{step_writes}
use Rattle.tx_log.proofs.undo_chain.changed_records.Goals as goal

one_more : (key : List ℕ) (after : Option (Option (List ℕ))) (rest : List (List ℕ × Option (List ℕ))) → writes_if true key after [] ++ rest ≡ writes_if true key after rest
one_more key (Some after) rest = refl
one_more key None rest = refl

pub loop-change-smaller : goal.loop-change-smaller
loop-change-smaller c =
    let step = walk_step (reverse c.args.log.now.items) c.loop-change.at c.in-Some.change c.requires.numbered (sym c.in-Some.ensures) in
    omega (arith, step.falls, step.low)

pub loop-change-preserved : goal.loop-change-preserved
loop-change-preserved c =
    let rs = reverse c.args.log.now.items in
    let step = walk_step rs c.loop-change.at c.in-Some.change c.requires.numbered (sym c.in-Some.ensures) in
    let rest = written_by (chain rs c.in-Some.change.prev) in (
      omega (arith, step.falls, step.low, c.loop-change.invariant.0),
      ap (λ (items : List (List ℕ × Option (List ℕ))). items ++ rest) c.in_ok-push_write.ensures
          ∙ append_assoc c.loop-change.written.items (writes_if true c.in-Some.change.key c.in-Some.change.after []) rest
          ∙ ap (λ (ks : List (List ℕ × Option (List ℕ))). c.loop-change.written.items ++ ks) (one_more c.in-Some.change.key c.in-Some.change.after rest ∙ sym (step_writes rs c.loop-change.at c.in-Some.change step))
          ∙ c.loop-change.invariant.1,
    )
