use Rattle.std.proofs.Common.{ℕ, List, ap, ◌∙◌, arith}
use Rattle.std.proofs.lemmas.Grind.{elements}
use Rattle.page_store.specs.Overlaid.{is_among}
use Rattle.page_store.proofs.NumberSetLemmas.{put_in_and_out, in_more}
use Rattle.page_store.proofs.free_numbers.add_all.Goals as goal

pub returns-in_default-clause-err : goal.returns-in_default-clause-err
returns-in_default-clause-err c = λ q.
    put_in_and_out c.args.numbers.now c.loop-i.i q _ _ _ (c.requires q) (ap (λ (keys : List ℕ). is_among keys q) c.in_default.ensures.err ∙ c.loop-i.invariant q) (c.remove_all.ensures q)

pub loop-i-preserved : goal.loop-i-preserved
loop-i-preserved c = λ q. in_more c.args.numbers.now c.loop-i.i q _ _ _ c.loop-i-test.true (c.in-Ok.ensures.updates.0 q) (c.loop-i.invariant q)

pub returns-clause-ok : goal.returns-clause-ok
returns-clause-ok c = grind (arith, elements)
