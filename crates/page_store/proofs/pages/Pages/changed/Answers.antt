use Rattle.std.proofs.Common.{◌≡◌, ◌≤◌, false, true, length, IsSome, slice_get, ap, subst, ◌∙◌, arith, rules}
use Rattle.page_store.specs.PagesView.{PagesView, is_in_memory}
use Rattle.page_store.specs.PageMap.{at}
use Rattle.page_store.specs.Overlaid.{slots_of}
use Rattle.page_store.proofs.NewestPageLemmas.{length-pages_of}
use Rattle.page_store.proofs.InMemoryLemmas.{none_in_memory, memory_used, stored_elsewhere}
use Rattle.page_store.proofs.pages.Pages.changed.Goals as goal

pub returns-clause-idle : goal.returns-clause-idle
returns-clause-idle g c = λ idle n.
    subst (λ (v : PagesView). is_in_memory v n ≡ false) c.self.view_is
    (none_in_memory (slots_of c.self.inside.changed.items) c.self.inside.free.keys c.self.inside.count n (c.self.invariant.0.idle (ap (λ (v : PagesView). v.changed) c.self.view_is ∙ idle) n))

pub returns-clause-in_use : goal.returns-clause-in_use
returns-clause-in_use g c = λ n.
    subst (λ (v : PagesView). is_in_memory v n ≡ true → IsSome (at v.pages n)) c.self.view_is
    (memory_used (g.S.StoreState.pages c.self.inside.store) (slots_of c.self.inside.changed.items) c.self.inside.free.keys c.self.inside.count n)

pub returns-clause-stored : goal.returns-clause-stored
returns-clause-stored g c = λ n.
    subst (λ (v : PagesView). IsSome (at v.pages n) → is_in_memory v n ≡ false → slice_get v.stored n ≡ at v.pages n) c.self.view_is
    (stored_elsewhere (g.S.StoreState.pages c.self.inside.store) (slots_of c.self.inside.changed.items) c.self.inside.free.keys c.self.inside.count n)

pub returns-clause-fits : goal.returns-clause-fits
returns-clause-fits g c =
    let long = length-pages_of (g.S.StoreState.pages c.self.inside.store) (slots_of c.self.inside.changed.items) c.self.inside.free.keys c.self.inside.count in
    let few = c.self.invariant.0.store_fits in
    subst (λ (v : PagesView). length v.stored ≤ length v.pages) c.self.view_is (omega arith)

pub returns-clause-value : goal.returns-clause-value
returns-clause-value g c = search rules
