use Rattle.std.proofs.Common.{◌≡◌, is_some, Some, sym, ap, ◌∙◌}
use Rattle.std.proofs.lemmas.Bool.{false≢true}
use Rattle.tx_log.proofs.KeptLogLemmas.{some_of}
use Rattle.tx_log.proofs.KeyPlaces.{idle_taken}
use Rattle.tx_log.proofs.holding.drop_idle.Goals as goal
use Rattle.tx_log.proofs.holding.drop_idle.Goals.{in-Some+then-holding-eq0, in-Some+else-holding-eq0, in-None}

pub returns-in-Some-idle : goal.returns-in-Some-idle
returns-in-Some-idle c = λ q.
    elim c.match-get_full.branch [
      | in-Some+then-holding-eq0 w ↦
          let place : Some w.in-Some.at ≡ Some c.in-Some-idle.at = sym w.idle-is ∙ c.in-Some-idle.is in
          let same : w.in-Some.at ≡ c.in-Some-idle.at = some_of w.in-Some.at c.in-Some-idle.at place in
          idle_taken c.args.holdings.now c.swap_remove_index.new.self c.args.key.now _ w.in-Some.at c.in-Some-idle.at w.in-Some.holding.now c.swap_remove_index.result w.in-Some.ensures.entry same w.in-Some.ensures.key w.in-Some.ensures.value w.if-holding-eq0.true c.swap_remove_index.ensures.entry c.swap_remove_index.ensures.updates q
      | in-Some+else-holding-eq0 w ↦ absurd (false≢true (ap is_some (sym w.idle-is ∙ c.in-Some-idle.is)))
      | in-None w ↦ absurd (false≢true (ap is_some (sym w.idle-is ∙ c.in-Some-idle.is)))
    ]
