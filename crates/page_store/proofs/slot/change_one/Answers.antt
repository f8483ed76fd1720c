use Rattle.std.proofs.Common.{List, ℕ, ◌∙◌, subst}
use Rattle.btree_node.specs.Changes.{ChangedBy}
use Rattle.page_store.proofs.InPlaceLemmas.{slots_set, value_in}
use Rattle.page_store.proofs.slot.change_one.Goals as goal

pub returns-in-Some : goal.returns-in-Some
returns-in-Some c = record {
  page = c.change_page.new.page;
  changed = λ was is.
      subst (λ (before : List ℕ). ChangedBy c.args.order c.args.change.now before c.change_page.new.page)
      (c.deref_mut.ensures.value ∙ value_in c.args.changed.now.items c.args.n c.index_mut.result.now c.in-Some.slot was c.index_mut.ensures.value c.in-Some.is is) c.change_page.ensures;
  slots = slots_set c.args.changed.now.items c.args.n _;
}
