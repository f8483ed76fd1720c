use Rattle.std.proofs.Common.{◌≡◌, ◌<◌, ◌≤◌, ◌==◌, ◌||◌, if◌then◌else◌, None, length, slice_get, refl, sym, ap, subst, ◌∙◌}
use Rattle.std.proofs.lemmas.Bool.{false≢true}
use Rattle.std.specs.Ordering.{nat_cmp}
use Rattle.std.specs.BTreeSet.{contains}
use Rattle.page_store.specs.PagesView.{PagesView}
use Rattle.page_store.specs.Overlaid.{slots_of}
use Rattle.page_store.proofs.NewestPageLemmas.{length-pages_of, at_below, outside}
use Rattle.page_store.specs.PageMap.{at}
use Rattle.page_store.proofs.InMemoryLemmas.{none_in_memory}
use Rattle.page_store.proofs.pages.Pages.with_free.Given as given
use Rattle.page_store.proofs.pages.Pages.with_free.Goals as goal
use Rattle.page_store.proofs.pages.Pages.with_free.Goals.{After-new}

-- the count is that of the pages
module _ (g : given.Over) (c : After-new g) where
  long : c.self.inside.count ≡ length c.args.self.pages
  long =
      sym (length-pages_of (g.S.StoreState.pages c.self.inside.store) (slots_of c.self.inside.changed.items) c.self.inside.free.keys c.self.inside.count) ∙ ap (λ (v : PagesView). length v.pages) c.self.view_is

pub invariant_of-result : goal.invariant_of-result
invariant_of-result g c =
    let all = long g (goal.at.invariant_of-result g c).After-new in (
      record {
        some = c.self.invariant.0.some;
        most = c.self.invariant.0.most;
        store_fits = c.self.invariant.0.store_fits;
        free_fits = λ n here. let fits = c.requires.free_fits n here in (fits.0, subst (λ k. n < k) (sym all) fits.1);
        there = λ n some below free past.
            let among = c.requires.lacking_free n (subst (λ (v : PagesView). length v.stored ≤ n) c.self.view_is past) some (subst (λ k. n < k) all below) in
            absurd (false≢true (sym free ∙ among));
        idle = λ _ n. rw c.new.ensures.items refl;
      },
      c.self.invariant.1,
    )

pub returns-clause-header : goal.returns-clause-header
returns-clause-header g c = ap (λ (v : PagesView). at v.pages 0) (sym c.self.view_is) ∙ outside _ _ _ _ 0 (λ h. h.0 refl)

pub returns-clause-count : goal.returns-clause-count
returns-clause-count g c = length-pages_of _ _ _ _ ∙ long g (goal.at.returns-clause-count g c).After-new

pub returns-clause-pages : goal.returns-clause-pages
returns-clause-pages g c = λ n below.
    at_below _ _ _ _ n (subst (λ k. n < k) (sym (long g (goal.at.returns-clause-pages g c).After-new)) below)
    ∙ (rw c.new.ensures.items refl)
    ∙ ap (λ (v : PagesView). if n == 0 || contains nat_cmp c.args.free n then None else slice_get v.stored n) c.self.view_is

pub returns-clause-in_memory : goal.returns-clause-in_memory
returns-clause-in_memory g c = λ n. none_in_memory _ _ _ n (rw c.new.ensures.items refl)
