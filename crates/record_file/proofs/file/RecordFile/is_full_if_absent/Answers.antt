use Rattle.std.proofs.Common.{ap, ◌∙◌, arith}
use Rattle.tx_log.specs.Owners.{owner_of}
use Rattle.record_file.specs.Abstract.{OpenFile, open_of}
use Rattle.record_file.proofs.AskedLemmas.{may_be_full_here}
use Rattle.record_file.proofs.FullnessLemmas.{full_where_absent}
use Rattle.record_file.proofs.file.RecordFile.is_full_if_absent.Goals as goal

pub returns-then-charged-from-clause-value : goal.returns-then-charged-from-clause-value
returns-then-charged-from-clause-value g c = λ sound.
    let key = c.args.key.now in
    let owner = c.owner.ensures ∙ ap (λ (s : OpenFile _). owner_of (open_of s.file) s.file.history key) c.self.view_is in
    let limits = ap (λ (s : OpenFile _). s.file.limits.records) c.self.view_is in
    may_be_full_here c.args.self.now.file key c.charged.result c.owner.result (c.charged.ensures.happens.answer.1 sound) (omega (arith, limits, c.self.invariant.limited, c.limit.ensures, c.from.ensures, c.if-charged-from.true)) owner c.is_none.result c.is_none.ensures

pub returns-then-charged-from-clause-full : goal.returns-then-charged-from-clause-full
returns-then-charged-from-clause-full g c = λ sound.
    let key = c.args.key.now in
    let owner = c.owner.ensures ∙ ap (λ (s : OpenFile _). owner_of (open_of s.file) s.file.history key) c.self.view_is in
    let limits = ap (λ (s : OpenFile _). s.file.limits.records) c.self.view_is in
    full_where_absent c.args.self.now.file key c.charged.result c.owner.result (c.charged.ensures.happens.answer.1 sound) (omega (arith, limits, c.self.invariant.limited, c.limit.ensures, c.from.ensures, c.if-charged-from.true)) owner c.is_none.result c.is_none.ensures
