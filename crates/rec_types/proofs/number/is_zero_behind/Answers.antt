use Rattle.std.proofs.Common.{sym, ◌∙◌, inl, inr, arith}
use Rattle.std.proofs.lemmas.Bool.{cases_lt, false≢true}
use Rattle.rec_types.proofs.ZeroLemmas.{zero_in_sixteen}
use Rattle.rec_types.proofs.number.is_zero_behind.Goals as goal

pub returns-then-is_zero_from : goal.returns-then-is_zero_from
returns-then-is_zero_from c =
    let first = (zero_in_sixteen c.args.len 0 c.args.len c.args.bytes.now c.sixteen.result (omega arith) c.sixteen.ensures).0 (c.is_zero_from.ensures.0 c.if-is_zero_from.true) in (
      λ zero i far. elim (cases_lt i 16) [
        | inl within ↦ first i (omega arith) (omega (arith, within)) far
        | inr past ↦ c.is_zero_past-then-is_zero_from.ensures.0 zero i past
      ],
      λ zeros. c.is_zero_past-then-is_zero_from.ensures.1 (λ i past. zeros i (omega (arith, past))),
    )

pub returns-else-is_zero_from : goal.returns-else-is_zero_from
returns-else-is_zero_from c =
    let both = zero_in_sixteen c.args.len 0 c.args.len c.args.bytes.now c.sixteen.result (omega arith) c.sixteen.ensures in (
      λ zero. absurd (false≢true (sym c.if-is_zero_from.false ∙ zero)),
      λ zeros. c.is_zero_from.ensures.1 (both.1 (λ i from to far. zeros i far)),
    )
