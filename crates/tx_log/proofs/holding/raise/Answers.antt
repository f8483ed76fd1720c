use Rattle.std.proofs.Common.{◌≡◌, ◌+◌, Some, cond, eqb, ◌||◌, sym, ap, ◌∙◌, arith}
use Rattle.tx_log.proofs.KeptLogLemmas.{some_of}
use Rattle.tx_log.proofs.KeyPlaces.{key_read, key_write}
use Rattle.tx_log.specs.Holdings.{holdings_in, same_bytes}
use Rattle.tx_log.specs.declared.holding.Holding.{Holding}
use Rattle.tx_log.proofs.holding.raise.Goals as goal

pub returns : goal.returns
returns c = λ k s.
    let m = c.args.holdings.now in
    let at = c.args.at in
    let h = s.hold in
    let d = c.index_mut-holding.result.now in
    let will = c.left_out-will.result in
    let same : d ≡ h = some_of d h (sym (key_read m k at d s c.index_mut-holding.ensures.value) ∙ s.there) in (
      ap (λ (x : Holding). x.absent) same,
      c.left_out-will.ensures ∙ ap (λ (x : Holding). cond (c.args.writes || eqb x.live 0) c.args.absent x.absent) same,
      λ q. key_write m k at (record { owner = c.args.tx; live = d.live + 1; absent = will }) s q ∙ ap (λ (x : Holding). cond (same_bytes k q) (Some (record { owner = c.args.tx; live = x.live + 1; absent = will })) (holdings_in m q)) same,
    )

pub overflow_add-holding : goal.overflow_add-holding
overflow_add-holding c = omega (arith, c.requires.most c.index_mut-holding.result.now c.index_mut-holding.ensures.value)
