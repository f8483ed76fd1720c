use Rattle.std.proofs.Common.{◌≡◌, length, sym, ap, ◌∙◌, arith}
use Rattle.page_store.specs.PagesView.{PagesView}
use Rattle.page_store.specs.FreeNumbers.{candidate}
use Rattle.page_store.proofs.Candidates.{candidate_is_some}
use Rattle.page_store.proofs.FreeNumberLemmas.{candidate_of}
use Rattle.page_store.proofs.NewestPageLemmas.{length-pages_of}
use Rattle.page_store.proofs.pages.Pages.candidate.Goals as goal

pub returns-clause-value : goal.returns-clause-value
returns-clause-value g c =
    c.nth_number.ensures.value
    ∙ sym (candidate_of _ _ _ _ _ c.args.i c.self.invariant.0 c.nth_number.ensures.ordered)
    ∙ ap (λ (v : PagesView). candidate v.pages c.args.i) c.self.view_is

pub returns-clause-some : goal.returns-clause-some
returns-clause-some g c =
    let value =
    c.nth_number.ensures.value
    ∙ sym (candidate_of _ _ _ _ _ c.args.i c.self.invariant.0 c.nth_number.ensures.ordered)
    ∙ ap (λ (v : PagesView). candidate v.pages c.args.i) c.self.view_is in
    let size : c.self.inside.count ≡ length c.args.self.now.pages = sym (length-pages_of _ _ _ _) ∙ ap (λ (v : PagesView). length v.pages) c.self.view_is in
    omega (arith, value, candidate_is_some c.args.self.now.pages c.args.i (omega (arith, size, c.self.invariant.0.some)))
