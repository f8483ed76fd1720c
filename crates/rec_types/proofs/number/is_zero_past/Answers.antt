use Rattle.std.proofs.Common.{◌*◌, arith, sym, ◌∙◌, inl, inr}
use Rattle.std.proofs.lemmas.Bool.{cases_lt, false≢true}
use Rattle.std.proofs.lemmas.List.{get_or_past}
use Rattle.rec_types.proofs.ZeroLemmas.{zero_in_sixteen}
use Rattle.rec_types.proofs.number.is_zero_past.Goals as goal

pub loop-i-preserved : goal.loop-i-preserved
loop-i-preserved c =
    let here = (zero_in_sixteen c.args.len (16 * c.loop-i.i) c.saturating_sub.result c.args.bytes.now c.sixteen.result c.saturating_sub.ensures c.sixteen.ensures).0 (c.is_zero_from.ensures.0 c.if-not-is_zero_from.false) in
    λ j low far. elim (cases_lt j (16 * c.loop-i.i)) [
      | inl before ↦ c.loop-i.invariant j before far
      | inr from ↦ here j from (omega (arith, low)) far
    ]

pub returns-then-not-is_zero_from : goal.returns-then-not-is_zero_from
returns-then-not-is_zero_from c =
    let both = zero_in_sixteen c.args.len (16 * c.loop-i.i) c.saturating_sub.result c.args.bytes.now c.sixteen.result c.saturating_sub.ensures c.sixteen.ensures in (
      λ zero. absurd (false≢true zero),
      λ zeros. absurd (false≢true (sym c.if-not-is_zero_from.true ∙ c.is_zero_from.ensures.1 (both.1 (λ i from to far. zeros i far)))),
    )

pub returns : goal.returns
returns c =
    let both = zero_in_sixteen c.args.len 84 c.saturating_sub-2.result c.args.bytes.now c.sixteen-2.result c.saturating_sub-2.ensures c.sixteen-2.ensures in (
      λ zero i far. elim (cases_lt i 96) [
        | inl before ↦ c.loop-i.invariant i (omega (arith, before)) far
        | inr from ↦ elim (cases_lt i 100) [
          | inl within ↦ both.0 (c.is_zero_from-2.ensures.0 zero) i (omega (arith, from)) (omega (arith, within)) far
          | inr past ↦ get_or_past c.args.bytes.now i 0 (omega (arith, past, c.told-bytes))
        ]
      ],
      λ zeros. c.is_zero_from-2.ensures.1 (both.1 (λ i from to far. zeros i far)),
    )
