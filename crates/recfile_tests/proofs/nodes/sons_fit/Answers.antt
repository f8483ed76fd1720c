use Rattle.std.proofs.Common.{arith, sym, subst}
use Rattle.std.proofs.lemmas.List.{get_or_default}
use Rattle.btree_node.specs.Spelling.{SonsFit, IsSon}
use Rattle.btree_node.proofs.ElementOrderLemmas.{Each_from}
use Rattle.recfile_tests.proofs.nodes.sons_fit.Goals as goal

pub returns-then-sons-count : goal.returns-then-sons-count
returns-then-sons-count c = λ stand.
    subst (λ kind. SonsFit kind c.args.count c.args.sons.now) (sym c.in-Inner.is) (
      c.if-sons-count.true,
      Each_from IsSon c.args.sons.now (λ i d low. record {
        some = c.sons_stand.ensures stand i d low;
        most = omega (arith, c.type_inv.sons i, get_or_default c.args.sons.now i 0 d low);
      }),
    )
