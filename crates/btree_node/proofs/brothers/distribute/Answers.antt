use Rattle.std.proofs.Common.{take, ◌∷◌, ap, ◌∙◌, arith, length-append}
use Rattle.std.proofs.lemmas.Grind.{common_steps}
use Rattle.btree_node.specs.Joined.{joined, half_of_both}
use Rattle.btree_node.proofs.DistributeLemmas.{cut_whole, distributed_left, distributed_right, distributed_stand}
use Rattle.btree_node.proofs.brothers.distribute.Goals as goal

pub returns-clause-left : goal.returns-clause-left
returns-clause-left c =
    distributed_left c.args.left c.args.middle c.args.right _ (half_of_both c.args.left c.args.right) c.push.new.self.items c.level.new.left.items c.truncate.new.self.items c.level-2.new.left.items
    (omega arith) c.push.ensures.items c.level.ensures.left (c.truncate.ensures.items ∙ ap (λ n. take n c.level.new.left.items) (omega arith)) c.level-2.ensures.left

pub returns-clause-right : goal.returns-clause-right
returns-clause-right c =
    distributed_right c.args.left c.args.middle c.args.right _ (half_of_both c.args.left c.args.right) c.push.new.self.items c.level.new.right.items c.level-2.new.right.items
    c.requires.brothers.kind (omega arith) c.push.ensures.items c.level.ensures.right c.level-2.ensures.right

pub returns-clause-middle : goal.returns-clause-middle
returns-clause-middle c = grind (arith, common_steps)

pub returns-clause-whole : goal.returns-clause-whole
returns-clause-whole c =
    cut_whole (half_of_both c.args.left c.args.right) (joined c.args.left c.args.middle c.args.right) _ _ _
    (omega (arith, length-append c.args.left.elements.items (c.args.middle ∷ c.args.right.elements.items)))
    (returns-clause-left c) (returns-clause-middle c) (returns-clause-right c)

pub returns-clause-stand : goal.returns-clause-stand
returns-clause-stand c = λ fit.
    distributed_stand c.args.k c.args.left c.args.middle c.args.right _ _ c.requires.order.0 c.requires.brothers c.requires.left_most c.requires.right_most c.requires.many
    (returns-clause-left c) (returns-clause-right c) fit

pub bounds-deref-cut : goal.bounds-deref-cut
bounds-deref-cut c = grind (arith, common_steps)

pub returns-clause-left_least : goal.returns-clause-left_least
returns-clause-left_least c = grind (arith, common_steps)

pub returns-clause-right_least : goal.returns-clause-right_least
returns-clause-right_least c = grind (arith, common_steps)
