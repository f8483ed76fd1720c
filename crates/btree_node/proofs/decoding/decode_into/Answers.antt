use Rattle.std.proofs.Common.{rules, refl, ap, sym, ◌∙◌, arith}
use Rattle.btree_node.specs.Layout.{second_layout}
use Rattle.btree_node.specs.Spelling.{spelling}
use Rattle.btree_node.proofs.DecodeLemmas.{read_stands, same_node}
use Rattle.btree_node.proofs.SpellingLemmas.{spelled}
use Rattle.btree_node.proofs.decoding.decode_into.Goals as goal

pub returns-then-read_first-clause-found : goal.returns-then-read_first-clause-found
returns-then-read_first-clause-found c =
    let before = c.read_first.ensures.before c.if-read_first.true in
    let value = c.read_first.ensures.value c.if-read_first.true in (
      read_stands second_layout c.args.k c.args.page.now c.read_first.new.node c.requires (omega arith) c.told-page c.fits-page before value,
      spelled second_layout c.args.k c.args.page.now c.requires (omega arith) c.told-page c.fits-page before (c.read_first.ensures.padding c.if-read_first.true)
          ∙ ap (λ n. spelling n c.args.k) (sym value),
    )

pub returns-then-read_first-clause-only : goal.returns-then-read_first-clause-only
returns-then-read_first-clause-only c = λ n can is.
    (refl, same_node second_layout c.args.k c.args.page.now n c.read_first.new.node c.requires can is (c.read_first.ensures.value c.if-read_first.true))

pub returns-clause-found : goal.returns-clause-found
returns-clause-found c = search rules

pub returns-clause-only : goal.returns-clause-only
returns-clause-only c = search rules

pub returns-clause-fault : goal.returns-clause-fault
returns-clause-fault c = search rules
