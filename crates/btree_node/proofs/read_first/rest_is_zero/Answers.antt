use Rattle.std.proofs.Common.{◌≡◌, subst, ap, ◌∙◌, ◌+◌, ◌-◌, ◌*◌}
use Rattle.btree_node.specs.Layout.{second_layout, sons_start}
use Rattle.btree_node.specs.Reading.{part, IsZero}
use Rattle.btree_node.proofs.QuickPassLemmas.{rest_part}
use Rattle.btree_node.proofs.read_first.rest_is_zero.Goals as goal

pub returns-then-is_zero-clause-rest : goal.returns-then-is_zero-clause-rest
returns-then-is_zero-clause-rest c = λ zero.
    let at = sons_start second_layout c.args.k + 4 * c.args.sons in
    let end : c.sons_start-start.result + 4 * c.args.sons ≡ at = ap (λ start. start + 4 * c.args.sons) c.sons_start-start.ensures.value in
    rest_part at 4096 c.args.page.now c.told-page
    (subst IsZero (c.part_of-then-is_zero.ensures.value ∙ ap (λ n. part n (4096 - n) c.args.page.now) end) (c.is_zero-then-is_zero.ensures zero))
