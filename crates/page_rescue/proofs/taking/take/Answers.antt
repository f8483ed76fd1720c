use Rattle.std.proofs.Common.{refl, sym, ◌∙◌}
use Rattle.page_rescue.proofs.GrowthLemmas.{grows_put, has_put, none_of}
use Rattle.page_rescue.proofs.taking.take.Goals as goal

pub returns-in_ok-set-clause-grows : goal.returns-in_ok-set-clause-grows
returns-in_ok-set-clause-grows c =
    let none = none_of c.in_ok-get.field-0 c.is_none.result c.is_none.ensures c.if-is_none.true in
    grows_put c.args.table.now.contents c.get.new.self.contents c.set.new.self.contents c.args.key.now c.args.value.now (sym (c.in_ok-get.ensures.value refl) ∙ none) c.get.ensures.same (c.in_ok-set.ensures.ok)

pub returns-in_ok-set-clause-has : goal.returns-in_ok-set-clause-has
returns-in_ok-set-clause-has c = has_put c.get.new.self.contents c.set.new.self.contents c.args.key.now c.args.value.now (c.in_ok-set.ensures.ok)
