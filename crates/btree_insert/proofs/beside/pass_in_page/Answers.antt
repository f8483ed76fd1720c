use Rattle.std.proofs.Common.{◌-◌, length, subst, ◌∙◌, arith}
use Rattle.btree_node.proofs.SpeltPageLemmas.{few_places, count_spelt}
use Rattle.btree_node.specs.Spelling.{SonsFit}
use Rattle.btree_node.specs.declared.node.NodeKind.{NodeKind}
use Rattle.btree_insert.specs.Steps.{BelongsAt}
use Rattle.btree_insert.proofs.HeadNodeLemmas.{kind_above}
use Rattle.btree_insert.proofs.beside.pass_in_page.Goals as goal

pub son_in-requires : goal.son_in-requires
son_in-requires c = (
  omega arith,
  c.requires.page.0,
  omega (arith, few_places c.args.order c.args.page.now c.requires.page.0 c.requires.page.1, c.gap_in-gap.ensures.within),
)

pub returns-clause-passes : goal.returns-clause-passes
returns-clause-passes c = λ m can is.
    let els = m.elements.items in
    let gap = c.gap_in-gap.result in
    let spot = c.args.spot.now in
    let belongs : BelongsAt spot m = c.in_ok-check_in_page.ensures.belongs m can is in
    let sons = subst (λ (kind : NodeKind). SonsFit kind (length els) m.sons.items) (belongs.kind ∙ kind_above spot.level (λ is. absurd (omega (arith, is, c.requires.inner)))) can.sons in
    let size = count_spelt c.args.order c.args.page.now m c.requires.page.0 can is in
    let son_is = c.son_in.ensures m 0 can is (omega (arith, sons.0, size, c.gap_in-gap.ensures.within)) in
    let bounds_is = c.bounds_in.ensures m can is in (
      belongs,
      record {
        keeps = record { gap = gap; is_gap = c.gap_in-gap.ensures.gap m can is; found_is = c.keep_beside.ensures m can is };
        goes = λ i. record { page = son_is i; level = spot.level - 1; bounds = bounds_is i };
      },
    )
