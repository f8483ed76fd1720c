use Rattle.std.proofs.Common.{◌≡◌, ℕ, false, List, length, Option, Some, get_or, ap, sym, ◌∙◌, subst}
use Rattle.page_store.specs.PagesView.{PagesView, is_in_memory}
use Rattle.page_store.specs.PageMap.{at, write_page}
use Rattle.page_store.specs.Overlaid.{slots_of, ArePages, pages_of}
use Rattle.page_store.specs.WritingBack.{in_memory_of}
use Rattle.page_store.proofs.NewestPageLemmas.{length-pages_of, from_slot}
use Rattle.page_store.proofs.WrittenOverLemmas.{HasSlot, has_slot, slot_has, pages_over, memory_over, are_over, was_changed}
use Rattle.page_store.proofs.pages.Pages.change.Given as given
use Rattle.page_store.proofs.pages.Pages.change.Goals as goal
use Rattle.page_store.proofs.pages.Pages.change.Goals.{After-change_one}

pub change_one-requires-clause-there : goal.change_one-requires-clause-there
change_one-requires-clause-there g c =
    (has_slot (slots_of c.self.inside.changed.items) c.self.inside.free.keys c.self.inside.count c.args.n c.args.self.now.in_memory (ap (λ (v : PagesView). v.in_memory) c.self.view_is) c.requires.in_memory).here

pub change_one-requires-clause-page : goal.change_one-requires-clause-page
change_one-requires-clause-page g c = λ page is.
    let slots = slots_of c.self.inside.changed.items in
    let has = has_slot slots c.self.inside.free.keys c.self.inside.count c.args.n c.args.self.now.in_memory (ap (λ (v : PagesView). v.in_memory) c.self.view_is) c.requires.in_memory in
    c.requires.page page (sym (ap (λ (v : PagesView). at v.pages c.args.n) c.self.view_is) ∙ from_slot (g.S.StoreState.pages c.self.inside.store) slots c.self.inside.free.keys c.self.inside.count c.args.n page has.used (sym is))

-- the page lies in a slot
module _ (g : given.Over) (c : After-change_one g) where
  lies : HasSlot (slots_of c.self.inside.changed.items) c.self.inside.free.keys c.self.inside.count c.args.n
  lies = has_slot (slots_of c.self.inside.changed.items) c.self.inside.free.keys c.self.inside.count c.args.n c.args.self.now.in_memory (ap (λ (v : PagesView). v.in_memory) c.self.view_is) c.requires.in_memory

pub invariant_of-self : goal.invariant_of-self
invariant_of-self g c =
    let stored = g.S.StoreState.pages c.self.inside.store in
    let made = c.change_one.ensures in (
      subst (λ (slots : List (Option (List ℕ))). ArePages stored slots c.self.inside.free.keys c.self.inside.count c.self.inside.edited) (sym made.slots)
          (are_over stored (slots_of c.self.inside.changed.items) c.self.inside.free.keys c.self.inside.count c.args.n made.page (lies g (goal.at.invariant_of-self g c).After-change_one) c.self.inside.edited c.self.invariant.0),
      c.self.invariant.1,
    )

pub returns-clause-pages : goal.returns-clause-pages
returns-clause-pages g c =
    let stored = g.S.StoreState.pages c.self.inside.store in
    let slots = slots_of c.self.inside.changed.items in
    let free = c.self.inside.free.keys in
    let count = c.self.inside.count in
    let made = c.change_one.ensures in
    let place = (goal.at.returns-clause-pages g c).After-change_one in
    let there : (was : List ℕ) → at c.args.self.now.pages c.args.n ≡ Some was → at slots c.args.n ≡ Some was = λ was is.
    slot_has stored slots free count c.args.n was (lies g place) (ap (λ (v : PagesView). at v.pages c.args.n) c.self.view_is ∙ is) in
    record {
      page = made.page;
      changed = λ was is. made.changed was (there was is);
      pages = λ q.
          ap (λ (slots : List (Option (List ℕ))). at (pages_of stored slots free count) q) made.slots
          ∙ pages_over stored slots free count c.args.n made.page (lies g place) q
          ∙ ap (λ (v : PagesView). write_page (at v.pages) c.args.n made.page q) c.self.view_is;
    }

pub returns-clause-count : goal.returns-clause-count
returns-clause-count g c =
    length-pages_of _ _ _ _ ∙ sym (length-pages_of (g.S.StoreState.pages c.self.inside.store) (slots_of c.self.inside.changed.items) c.self.inside.free.keys c.self.inside.count) ∙ ap (λ (v : PagesView). length v.pages) c.self.view_is

pub returns-clause-in_memory : goal.returns-clause-in_memory
returns-clause-in_memory g c = λ q.
    let free = c.self.inside.free.keys in
    let count = c.self.inside.count in
    let made = c.change_one.ensures in
    ap (λ (slots : List (Option (List ℕ))). get_or (in_memory_of slots free count) q false) made.slots
    ∙ memory_over (g.S.StoreState.pages c.self.inside.store) (slots_of c.self.inside.changed.items) free count c.args.n made.page (lies g (goal.at.returns-clause-in_memory g c).After-change_one) q
    ∙ ap (λ (v : PagesView). is_in_memory v q) c.self.view_is

pub returns-clause-changed : goal.returns-clause-changed
returns-clause-changed g c =
    was_changed (g.S.StoreState.pages c.self.inside.store) (slots_of c.self.inside.changed.items) c.self.inside.free.keys c.self.inside.count c.args.n c.change_one.ensures.page (lies g (goal.at.returns-clause-changed g c).After-change_one) c.self.inside.edited c.self.invariant.0
