use Rattle.std.proofs.Common.{sym, ap, ◌∙◌, length, refl}
use Rattle.page_store.specs.PagesView.{PagesView}
use Rattle.page_store.specs.PageMap.{at}
use Rattle.page_store.proofs.NewestPageLemmas.{length-pages_of, outside}
use Rattle.page_store.proofs.pages.Pages.page_count.Goals as goal

pub returns-clause-value : goal.returns-clause-value
returns-clause-value g c = sym (length-pages_of _ _ _ _) ∙ ap (λ (v : PagesView). length v.pages) c.self.view_is

pub returns-clause-header : goal.returns-clause-header
returns-clause-header g c = ap (λ (v : PagesView). at v.pages 0) (sym c.self.view_is) ∙ outside _ _ _ _ 0 (λ h. h.0 refl)
