use Rattle.btree_node.specs.Layout.{first_layout}
use Rattle.btree_node.proofs.VersionLemmas.{stands_written}
use Rattle.btree_delete.proofs.RespellLemmas.{respelt}
use Rattle.btree_delete.proofs.opening.survey.respell_old.Goals as goal

pub returns-in-Ok-clause-spelt : goal.returns-in-Ok-clause-spelt
returns-in-Ok-clause-spelt c = λ _.
    let found = c.in-Ok.ensures.found in
    respelt first_layout c.args.order c.args.page.now c.encode.result c.in-Ok.node c.requires found.0 (stands_written 1 c.in-Ok.node c.args.order found.0) found.1 c.encode.ensures
