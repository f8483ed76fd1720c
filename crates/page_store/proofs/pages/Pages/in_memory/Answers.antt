use Rattle.std.proofs.Common.{◌≡◌, ℕ, refl, List, Option, Some, None, IfSome, is_some, Box, Bor, Global, ap, ◌∙◌, sym}
use Rattle.std.specs.Option.{option_copied}
use Rattle.page_store.specs.PagesView.{PagesView, is_in_memory}
use Rattle.page_store.specs.PageMap.{at}
use Rattle.page_store.specs.Overlaid.{slots_of, pages_of}
use Rattle.page_store.proofs.InMemoryLemmas.{InUse, memory_at, slot_in_memory, unused_written}
use Rattle.page_store.proofs.NewestPageLemmas.{from_slot}
use Rattle.page_store.proofs.pages.Pages.in_memory.Goals as goal

pub returns-then-not-is_in_use-clause-some : goal.returns-then-not-is_in_use-clause-some
returns-then-not-is_in_use-clause-some g c =
    let slots = slots_of c.self.inside.changed.items in
    let free = c.self.inside.free.keys in
    sym (memory_at slots free c.self.inside.count c.args.n ∙ ap is_some (unused_written slots free c.self.inside.count c.args.n (λ h. let t = c.is_in_use.ensures.1 h in cc)))
    ∙ ap (λ (v : PagesView). is_in_memory v c.args.n) c.self.view_is

-- a page that lies in a slot is the newest
shown : (stored : List (List ℕ)) (slots : List (Option (List ℕ))) (free : List ℕ) (count n : ℕ) (v : PagesView) (result : Option (Bor (List ℕ)))
    → pages_of stored slots free count ≡ v.pages → InUse free count n → option_copied result ≡ at slots n → IfSome result (λ page. at v.pages n ≡ Some page.now)
shown stored slots free count n v None same used is = tt
shown stored slots free count n v (Some page) same used is = ap (λ (ps : List (Option (List ℕ))). at ps n) (sym same) ∙ from_slot stored slots free count n page.now used is

copied_some : (result : Option (Bor (List ℕ))) → is_some result ≡ is_some (option_copied result)
copied_some None = refl
copied_some (Some page) = refl

pub returns-clause-page : goal.returns-clause-page
returns-clause-page g c =
    shown (g.S.StoreState.pages c.self.inside.store) (slots_of c.self.inside.changed.items) c.self.inside.free.keys c.self.inside.count c.args.n c.args.self.now c.changed_page.result
    (ap (λ (v : PagesView). v.pages) c.self.view_is) (c.is_in_use.ensures.0 c.if-not-is_in_use.false)
    (c.changed_page.ensures ∙ ap (λ (xs : List (Option (Box (List ℕ) Global))). at (slots_of xs) c.args.n) c.deref.ensures.value)

pub returns-clause-some : goal.returns-clause-some
returns-clause-some g c =
    copied_some c.changed_page.result
    ∙ ap is_some (c.changed_page.ensures ∙ ap (λ (xs : List (Option (Box (List ℕ) Global))). at (slots_of xs) c.args.n) c.deref.ensures.value)
    ∙ sym (slot_in_memory (slots_of c.self.inside.changed.items) c.self.inside.free.keys c.self.inside.count c.args.n (c.is_in_use.ensures.0 c.if-not-is_in_use.false))
    ∙ ap (λ (v : PagesView). is_in_memory v c.args.n) c.self.view_is
