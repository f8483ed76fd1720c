use Rattle.std.proofs.Common.{ℕ, List, Option, None, Result, MatchResult, sym, subst}
use Rattle.rec_types.specs.declared.table.TableFault.{TableFault}
use Rattle.btree_insert.specs.declared.tree.Tree.{Tree}
use Rattle.btree_delete.specs.TableAnswers.{IsSet, MayRefuse}
use Rattle.btree_delete.proofs.TableAnswerLemmas.{take_answer}
use Rattle.btree_delete.proofs.table.change.change.Goals as goal

pub returns-in-None-clause-set : goal.returns-in-None-clause-set
returns-in-None-clause-set g c = λ steady es us fills few.
    let T = c.args.tree.now in
    let P = c.args.pages.now.pages in
    let Q = c.delete_in_place.new.pages.pages in
    subst (λ (to : Option (List ℕ)). MatchResult c.told.result (λ r. IsSet Q r.0 c.args.limit es c.args.key to r.1) (MayRefuse c.args.limit T.count es c.args.key to)) (sym c.in-None.is)
    (subst (λ (r : Result (Tree × Option (List ℕ)) TableFault). MatchResult r (λ x. IsSet Q x.0 c.args.limit es c.args.key None x.1) (MayRefuse c.args.limit T.count es c.args.key None)) (sym c.told.ensures)
    (take_answer P Q T es us c.args.key c.args.limit c.delete_in_place.result fills few (c.delete_in_place.ensures.deleted steady es us fills.holds)))
