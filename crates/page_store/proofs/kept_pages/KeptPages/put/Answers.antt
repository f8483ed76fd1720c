use Rattle.std.proofs.Common.{sym, ap, subst, ◌∙◌, inl, inr, ⊎_elim}
use Rattle.btree_node.specs.Spelling.{IsSpelt}
use Rattle.page_store.specs.PageMap.{at}
use Rattle.page_store.specs.KeptPages.{KeptPages}
use Rattle.page_store.proofs.KeptPageLemmas.{put_box, put_spelt}
use Rattle.page_store.proofs.kept_pages.KeptPages.put.Goals as goal

pub invariant_of-self : goal.invariant_of-self
invariant_of-self c = λ n page is. c.self.invariant n page (sym (c.make_slots.ensures.same n) ∙ is)

pub returns-in_err-make_slots : goal.returns-in_err-make_slots
returns-in_err-make_slots c = λ q kept is.
    inl (c.drop_others.ensures.fewer q kept (ap (λ (k : KeptPages). at k.slots q) (sym c.self.view_is) ∙ sym (c.make_slots.ensures.same q) ∙ is))

pub invariant_of-self-2 : goal.invariant_of-self-2
invariant_of-self-2 c =
    put_spelt c.self.inside.order c.make_slots.new.changed.items c.args.n c.in_ok-kept.kept
    (λ n page is. c.self.invariant n page (sym (c.make_slots.ensures.same n) ∙ is))
    (subst (λ order. IsSpelt order c.in_ok-kept.kept.value) (sym (ap (λ (k : KeptPages). k.order) c.self.view_is ∙ c.drop_others.ensures.order))
    (subst (λ page. IsSpelt c.args.order page) (sym c.in_ok-kept.ensures.ok) c.requires.spelt))

pub returns : goal.returns
returns c = λ q kept is.
    ⊎_elim (λ was. inl (c.drop_others.ensures.fewer q kept (ap (λ (k : KeptPages). at k.slots q) (sym c.self.view_is) ∙ sym (c.make_slots.ensures.same q) ∙ was)))
    (λ new. inr (new.0, new.1 ∙ c.in_ok-kept.ensures.ok))
    (put_box c.make_slots.new.changed.items c.args.n q c.in_ok-kept.kept kept is)
