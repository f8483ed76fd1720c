use Rattle.std.proofs.Common.{rules, ◌∙◌, ℕ, ◌+◌, Vec, Global, List, [], ◌∷◌, ◌++◌, sym, ap, subst, arith}
use Rattle.std.proofs.lemmas.Grind.{common_steps}
use Rattle.page_store.proofs.GuardLemmas.{AscendTo, ascends, ascend_more, ascend_skip}
use Rattle.page_store.proofs.pages.sealing.numbers_written.Goals as goal
use Rattle.page_store.proofs.pages.sealing.numbers_written.Goals.{then-is_some+in_ok-push-2, else-is_some}

pub loop-n-init : goal.loop-n-init
loop-n-init c = record {
  which = search rules;
  ascend = subst (AscendTo 0 1) (sym (c.in_ok-push.ensures.items ∙ ap (λ (ns : List ℕ). ns ++ 0 ∷ []) c.new-numbers.ensures.items)) (omega arith, omega arith);
}

pub loop-n-preserved : goal.loop-n-preserved
loop-n-preserved c = record {
  which = grind (arith, common_steps);
  ascend = elim c.if-is_some.branch [
    | then-is_some+in_ok-push-2 w ↦ subst (AscendTo 0 (c.loop-n.n + 1)) (sym (ap (λ (v : Vec ℕ Global). v.items) w.numbers-is ∙ w.in_ok-push-2.ensures.items)) (ascend_more 0 c.loop-n.n c.loop-n.numbers.items c.loop-n.invariant.ascend)
    | else-is_some w ↦ subst (AscendTo 0 (c.loop-n.n + 1)) (sym (ap (λ (v : Vec ℕ Global). v.items) w.numbers-is)) (ascend_skip 0 c.loop-n.n c.loop-n.numbers.items c.loop-n.invariant.ascend)
  ];
}

pub returns-clause-which : goal.returns-clause-which
returns-clause-which c = search rules

pub returns-clause-ascend : goal.returns-clause-ascend
returns-clause-ascend c = ascends 0 c.loop-n.n c.loop-n.numbers.items c.loop-n.invariant.ascend
