use Rattle.std.proofs.Common.{◌≡◌, ℕ, ◌+◌, suc, sym, subst, arith}
use Rattle.rec_types.specs.Ordered.{is_left, IsGap}
use Rattle.rec_types.specs.declared.gap.Gap.{Gap}
use Rattle.rec_types.specs.declared.gap.Gap.TheVariants as gaps
use Rattle.rec_types.specs.declared.side.Side.TheVariants.{After, Before}
use Rattle.btree_insert.proofs.GapPlaceLemmas.{gap_of_place, gap_behind, gap_before, gap_at_start, gap_at_end}
use Rattle.btree_insert.proofs.beside.gap_in.Goals as goal

pub returns-in-Start-clause-gap : goal.returns-in-Start-clause-gap
returns-in-Start-clause-gap c = λ m can is. subst (λ (g : Gap). IsGap (is_left g) m.elements.items 0) (sym c.in-Start.is) (gap_at_start m.elements.items)

pub returns-in-Ok-clause-gap : goal.returns-in-Ok-clause-gap
returns-in-Ok-clause-gap c = λ m can is.
    let els = m.elements.items in
    subst (λ (g : Gap). IsGap (is_left g) els c.in-Ok.at) (sym c.in-Before.is) (gap_before els c.in-Before.key c.in-Ok.at (c.in-Ok.ensures.found m can is))

pub returns-in-Err-clause-gap : goal.returns-in-Err-clause-gap
returns-in-Err-clause-gap c = λ m can is.
    let els = m.elements.items in
    subst (λ (g : Gap). IsGap (is_left g) els c.in-Err.at) (sym c.in-Before.is) (gap_of_place Before els c.in-Before.key c.in-Err.at (c.in-Err.ensures.found m can is))

pub returns-in-Ok-place_in-clause-gap : goal.returns-in-Ok-place_in-clause-gap
returns-in-Ok-place_in-clause-gap c = λ m can is.
    let els = m.elements.items in
    let at = c.in-Ok-place_in.at in
    let next : suc at ≡ at + 1 = omega arith in
    subst (λ (g : Gap). IsGap (is_left g) els (at + 1)) (sym c.in-Behind.is)
    (subst (λ (n : ℕ). IsGap (is_left (gaps.Behind c.in-Behind.key)) els n) next (gap_behind els c.in-Behind.key at (c.in-Ok-place_in.ensures.found m can is)))

pub returns-in-Err-place_in-clause-gap : goal.returns-in-Err-place_in-clause-gap
returns-in-Err-place_in-clause-gap c = λ m can is.
    let els = m.elements.items in
    let at = c.in-Err-place_in.at in
    subst (λ (g : Gap). IsGap (is_left g) els at) (sym c.in-Behind.is) (gap_of_place After els c.in-Behind.key at (c.in-Err-place_in.ensures.found m can is))

pub returns-in-End-clause-gap : goal.returns-in-End-clause-gap
returns-in-End-clause-gap c = λ m can is.
    let els = m.elements.items in
    let size = c.count_in.ensures.node c.args.order m c.requires.0 can is in
    subst (λ (g : Gap). IsGap (is_left g) els c.count_in.result) (sym c.in-End.is)
    (subst (λ (n : ℕ). IsGap (is_left gaps.End) els n) (sym size) (gap_at_end els))
