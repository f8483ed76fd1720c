use Rattle.std.proofs.Common.{ℕ, List, [], ◌∷◌, ◌++◌, ap, ◌∙◌}
use Rattle.btree_node.proofs.VersionLemmas.{stands_written}
use Rattle.btree_insert.proofs.SpeltLemmas.{spelt_more, spelt_staged}
use Rattle.btree_delete.specs.Survey.{node_in}
use Rattle.btree_delete.proofs.opening.survey.keep_page.Goals as goal

pub keep_inner-requires-clause-spelt : goal.keep_inner-requires-clause-spelt
keep_inner-requires-clause-spelt g c =
    let node = node_in c.args.order c.args.page.now in
    (node, stands_written c.args.version node c.args.order c.requires.stands, c.requires.written)

pub returns-clause-spelt : goal.returns-clause-spelt
returns-clause-spelt g c =
    let node = node_in c.args.order c.args.page.now in
    let written = spelt_more c.args.order c.args.n [] c.push.new.self.items node (stands_written c.args.version node c.args.order c.requires.stands)
    (c.in-Ok.ensures.items ∙ ap (λ (ws : List (ℕ × List ℕ)). ws ++ (c.args.n, c.args.page.now) ∷ []) c.new.ensures.items ∙ ap (λ (page : List ℕ). (c.args.n, page) ∷ []) c.requires.written) tt in
    spelt_staged c.args.order c.args.pages.now c.stage.new.self c.push.new.self.items c.new-2.result.items c.in_ok-stage.ensures.pages c.in_ok-stage.ensures.in_memory written
