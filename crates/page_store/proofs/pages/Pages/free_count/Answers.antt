use Rattle.std.proofs.Common.{length, arith, sym, ap, ◌∙◌}
use Rattle.page_store.specs.PagesView.{PagesView}
use Rattle.page_store.specs.FreeNumbers.{free_numbers}
use Rattle.page_store.specs.Overlaid.{pages_of, slots_of}
use Rattle.page_store.proofs.NewestPageLemmas.{length-pages_of}
use Rattle.page_store.proofs.FreeNumberLemmas.{free_numbers_of, length-free_numbers}
use Rattle.page_store.proofs.pages.Pages.free_count.Goals as goal

pub overflow_cast-result : goal.overflow_cast-result
overflow_cast-result g c =
    let stored = g.S.StoreState.pages c.self.inside.store in
    let slots = slots_of c.self.inside.changed.items in
    let free = c.self.inside.free.keys in
    let same = free_numbers_of stored slots free c.self.inside.count _ c.self.invariant.0 c.len.ensures.ordered in
    let most = c.self.invariant.0.most in
    omega (arith, ap length same, length-free_numbers (pages_of stored slots free c.self.inside.count), length-pages_of stored slots free c.self.inside.count)

pub returns : goal.returns
returns g c =
    c.len.ensures.len ∙ ap length (sym (free_numbers_of _ _ _ _ _ c.self.invariant.0 c.len.ensures.ordered)) ∙ ap (λ (v : PagesView). length (free_numbers v.pages)) c.self.view_is
