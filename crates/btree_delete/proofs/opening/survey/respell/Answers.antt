use Rattle.std.proofs.Common.{sym, subst}
use Rattle.btree_node.specs.declared.layout.Layout.{Layout}
use Rattle.btree_node.specs.Layout.{second_layout}
use Rattle.btree_delete.specs.Survey.{Respells}
use Rattle.btree_delete.proofs.RespellLemmas.{layout_second, respelt}
use Rattle.btree_delete.proofs.opening.survey.respell.Goals as goal

pub returns-else-version-eq-FIRST_VERSION-clause-spelt : goal.returns-else-version-eq-FIRST_VERSION-clause-spelt
returns-else-version-eq-FIRST_VERSION-clause-spelt c = λ yes.
    let spelt = c.is_node_page.ensures.0 yes in
    subst (λ (layout : Layout). Respells layout c.args.order c.args.page.now c.args.page.now) (sym (layout_second c.args.version c.if-version-eq-FIRST_VERSION.false))
    (respelt second_layout c.args.order c.args.page.now c.args.page.now spelt.0 c.requires spelt.1 spelt.1 spelt.2 spelt.2)
