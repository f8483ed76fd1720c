use Rattle.std.proofs.Common.{rules, ◌∙◌, refl}
use Rattle.page_store.proofs.NewestPageLemmas.{length-pages_of, at_below}
use Rattle.page_store.proofs.InMemoryLemmas.{none_in_memory}
use Rattle.page_store.proofs.pages.Pages.new.Goals as goal

pub returns-clause-count : goal.returns-clause-count
returns-clause-count g c = length-pages_of _ _ _ _

pub returns-clause-pages : goal.returns-clause-pages
returns-clause-pages g c = λ n below. at_below _ _ _ _ n below ∙ (rw c.new.ensures.items refl)

pub returns-clause-in_memory : goal.returns-clause-in_memory
returns-clause-in_memory g c = λ n. none_in_memory _ _ _ n (rw c.new.ensures.items refl)

pub returns-clause-store : goal.returns-clause-store
returns-clause-store g c = search rules
