use Rattle.std.proofs.Common.{refl, arith}
use Rattle.btree_node.specs.Layout.{second_layout}
use Rattle.btree_node.specs.Reading.{node_at}
use Rattle.btree_node.proofs.DecodeLemmas.{read_stands}
use Rattle.btree_node.proofs.SpellingLemmas.{spelled}
use Rattle.btree_node.proofs.node_page.is_node_page.Goals as goal

-- the node at the fixed places of the page
pub returns-then-passes_first : goal.returns-then-passes_first
returns-then-passes_first c =
    let before = c.passes_first.ensures.before c.if-passes_first.true in
    let padding = c.passes_first.ensures.padding c.if-passes_first.true in
    let node = node_at second_layout c.args.k c.args.page.now in (
      λ _. (
        node,
        read_stands second_layout c.args.k c.args.page.now node c.requires (omega arith) c.told-page c.fits-page before refl,
        spelled second_layout c.args.k c.args.page.now c.requires (omega arith) c.told-page c.fits-page before padding,
      ),
      λ _. c.if-passes_first.true,
    )
