use Rattle.std.proofs.Common.{ℕ, List, ap, sym, subst}
use Rattle.btree_delete.specs.Shrinking.{removal}
use Rattle.btree_delete.specs.Tidy.{Untouched, IsTidy}
use Rattle.btree_delete.proofs.SettledPageLemmas.{treated_settled, settled_tidy, settled_others}
use Rattle.btree_delete.proofs.deletion.delete_below.treat_and_settle.Goals as goal

pub returns-clause-right : goal.returns-clause-right
returns-clause-right g c = λ steady less brother spells kind within unvisited.
    let T = c.args.tree.now in
    let kept = c.in_ok-treat_underflow.ensures.treated.others T.page c.requires.awaited.here c.requires.other c.requires.awaited.kept in
    let freed = ap (λ v. v.items) c.in_ok-settle.ensures.edit.freed in
    let treats = c.in_ok-treat_underflow.ensures.right steady less brother spells kind within unvisited in (
      treats.0,
      treated_settled T.order T.height T.page c.args.i T.bounds c.args.father.now c.treat_underflow.new.father c.args.son brother c.args.removed c.args.edit.now.writes.items c.treat_underflow.new.edit.writes.items c.settle.new.edit.writes.items c.args.edit.now.freed.items c.treat_underflow.new.edit.freed.items c.settle.new.edit.freed.items (removal c.treat_underflow.new.father c.in_ok-settle.field-0) c.in_ok-treat_underflow.ensures.father kept c.in_ok-settle.ensures.settles freed treats.1,
    )

pub returns-clause-left : goal.returns-clause-left
returns-clause-left g c = λ steady j is last brother spells kind within unvisited.
    let T = c.args.tree.now in
    let kept = c.in_ok-treat_underflow.ensures.treated.others T.page c.requires.awaited.here c.requires.other c.requires.awaited.kept in
    let freed = ap (λ v. v.items) c.in_ok-settle.ensures.edit.freed in
    let treats = c.in_ok-treat_underflow.ensures.left steady j is last brother spells kind within unvisited in (
      treats.0,
      treated_settled T.order T.height T.page j T.bounds c.args.father.now c.treat_underflow.new.father brother c.args.son c.args.removed c.args.edit.now.writes.items c.treat_underflow.new.edit.writes.items c.settle.new.edit.writes.items c.args.edit.now.freed.items c.treat_underflow.new.edit.freed.items c.settle.new.edit.freed.items (removal c.treat_underflow.new.father c.in_ok-settle.field-0) c.in_ok-treat_underflow.ensures.father kept c.in_ok-settle.ensures.settles freed treats.1,
    )

pub returns-clause-settled : goal.returns-clause-settled
returns-clause-settled g c =
    let T = c.args.tree.now in
    let kept = c.in_ok-treat_underflow.ensures.treated.others T.page c.requires.awaited.here c.requires.other c.requires.awaited.kept in
    let freed = ap (λ v. v.items) c.in_ok-settle.ensures.edit.freed in record {
      tidy = λ used.
          subst (λ (z : List ℕ). IsTidy c.args.pages.now.pages c.treat_underflow.new.visited.items c.settle.new.edit.writes.items z) (sym freed)
          (settled_tidy c.args.pages.now.pages c.treat_underflow.new.visited.items T.order T.page c.treat_underflow.new.edit.writes.items c.settle.new.edit.writes.items c.treat_underflow.new.edit.freed.items c.args.removed c.treat_underflow.new.father (removal c.treat_underflow.new.father c.in_ok-settle.field-0) used (c.in_ok-treat_underflow.ensures.treated.stays T.page c.requires.awaited.here) kept c.in_ok-settle.ensures.settles c.in_ok-treat_underflow.ensures.treated.tidy);
      others = λ q visited other page is.
          subst (λ (z : List ℕ). Untouched c.settle.new.edit.writes.items z q) (sym freed)
          (settled_others q T.order T.page c.treat_underflow.new.edit.writes.items c.settle.new.edit.writes.items c.treat_underflow.new.edit.freed.items c.args.removed c.treat_underflow.new.father (removal c.treat_underflow.new.father c.in_ok-settle.field-0) page c.in_ok-settle.ensures.settles (c.in_ok-treat_underflow.ensures.treated.others q visited other is));
      stays = c.in_ok-treat_underflow.ensures.treated.stays;
      one_more = c.in_ok-treat_underflow.ensures.treated.one_more;
    }
