use Rattle.std.proofs.Common.{rules, ltb, ◌/◌}
use Rattle.std.proofs.lemmas.List.Sorted.{answers_always}
use Rattle.rec_types.proofs.TagLemmas.{apart_answer}
use Rattle.rec_types.proofs.key_order.are_apart.Goals as goal

pub returns : goal.returns
returns c = λ is. apart_answer c.args.tags.now c.is_sorted_by.result is (c.is_sorted_by.ensures.cases (λ t u. ltb (t / 1048576) (u / 1048576)) (answers_always _ _ _ (λ f a r g h. search rules)))
