use Rattle.std.proofs.Common.{Ok, ap, arith, sym, ◌∙◌}
use Rattle.std.proofs.lemmas.Bool.{false≢true}
use Rattle.btree_node.proofs.SpellingLemmas.{spelled}
use Rattle.btree_node.specs.Spelling.{spelling_in}
use Rattle.btree_node.proofs.DecodeLemmas.{read_stands, no_fault, same_node}
use Rattle.btree_node.proofs.decoding.decode_in.Goals as goal

pub returns-in_err-node-clause-only : goal.returns-in_err-node-clause-only
returns-in_err-node-clause-only c = λ n can is. absurd (no_fault c.args.layout c.args.k c.args.page.now n _ c.requires.1 can is c.in_err-node.ensures.fault)

pub spell-requires-clause-stands : goal.spell-requires-clause-stands
spell-requires-clause-stands c = read_stands c.args.layout c.args.k c.args.page.now _ c.requires.1 (omega (arith, c.requires.0)) c.told-page c.fits-page c.in_ok-node.ensures.passes c.in_ok-node.ensures.value

pub returns-then-wrote-clause-found : goal.returns-then-wrote-clause-found
returns-then-wrote-clause-found c = (
  read_stands c.args.layout c.args.k c.args.page.now _ c.requires.1 (omega (arith, c.requires.0)) c.told-page c.fits-page c.in_ok-node.ensures.passes c.in_ok-node.ensures.value,
  c.wrote.ensures.0 c.if-wrote.true ∙ c.spell.ensures,
)

pub returns-then-wrote-clause-only : goal.returns-then-wrote-clause-only
returns-then-wrote-clause-only c = λ n can is. ap Ok (same_node c.args.layout c.args.k c.args.page.now n _ c.requires.1 can is c.in_ok-node.ensures.value)

pub returns-else-wrote-clause-only : goal.returns-else-wrote-clause-only
returns-else-wrote-clause-only c = λ n can is.
    let same = same_node c.args.layout c.args.k c.args.page.now n c.in_ok-node.node c.requires.1 can is c.in_ok-node.ensures.value in
    absurd (false≢true (sym c.if-wrote.false ∙ c.wrote.ensures.1 (is ∙ sym (c.spell.ensures ∙ ap (λ m. spelling_in c.args.layout m c.args.k) same))))

pub returns-else-wrote-clause-fault : goal.returns-else-wrote-clause-fault
returns-else-wrote-clause-fault c = record {
  before = c.in_ok-node.ensures.passes;
  fails = λ zero.
      let same = spelled c.args.layout c.args.k c.args.page.now c.requires.1 (omega (arith, c.requires.0)) c.told-page c.fits-page c.in_ok-node.ensures.passes zero in
      absurd (false≢true (sym c.if-wrote.false ∙ c.wrote.ensures.1 (same ∙ sym (c.spell.ensures ∙ ap (λ m. spelling_in c.args.layout m c.args.k) c.in_ok-node.ensures.value))));
}
