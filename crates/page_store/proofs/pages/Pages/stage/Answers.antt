use Rattle.std.proofs.Common.{◌≡◌, ℕ, ◌+◌, ◌-◌, ◌<◌, Bool, false, not, ◌&&◌, ◌||◌, eqb, if◌then◌else◌, List, Option, Result, Ok, Err, OnErr, All, is_some, get_or, length, refl, sym, ap, subst, ◌∙◌, arith}
use Rattle.std.proofs.lemmas.Bool.Decides.{nat_tests}
use Rattle.page_store.specs.PagesView.{PagesView, is_in_memory}
use Rattle.page_store.specs.PageMap.{at, after, is_written, is_freed}
use Rattle.page_store.specs.FreeNumbers.{free_numbers, count_after}
use Rattle.page_store.specs.CanStage.{CanStage}
use Rattle.page_store.specs.Guards.{Guard}
use Rattle.page_store.specs.Journal.{Journal}
use Rattle.page_store.specs.Opening.{Opening}
use Rattle.page_store.specs.Overlaid.{slots_of, is_among, pages_of}
use Rattle.page_store.specs.Slots.{put_slots}
use Rattle.page_store.proofs.NewestPageLemmas.{length-pages_of}
use Rattle.page_store.proofs.SlotLemmas.{length-slots_of}
use Rattle.page_store.specs.WritingBack.{to_write, in_memory_of}
use Rattle.page_store.proofs.InMemoryLemmas.{memory_at, memory_stays}
use Rattle.page_store.proofs.Staging.{IsStaged, pages_stay, are_stay, freed_not_free, written_fit, is_staged}
use Rattle.page_store.proofs.pages.Pages.stage.Given as given
use Rattle.page_store.proofs.pages.Pages.stage.Goals as goal
use Rattle.page_store.proofs.pages.Pages.stage.Goals.{After-saturating_sub, After-drop_pages}

unchanged_on_err : {A E : Type 0} (r : Result A E) (v : PagesView) (new old : List (Option (List ℕ))) (new_in old_in : List Bool) (changed : Bool) (stored : List (List ℕ)) (tail : ℕ) (steady : Bool) (opening : Opening) (reads shapes writes failures : ℕ) (journal : Option Journal) (guard : Guard) → new ≡ old → new_in ≡ old_in → ◌≡◌ {A = PagesView} (record { pages = old; changed = changed; in_memory = old_in; stored = stored; tail = tail; steady = steady; opening = opening; reads = reads; shapes = shapes; writes = writes; failures = failures; journal = journal; guard = guard }) v → OnErr r (◌≡◌ {A = PagesView} (record { pages = new; changed = changed; in_memory = new_in; stored = stored; tail = tail; steady = steady; opening = opening; reads = reads; shapes = shapes; writes = writes; failures = failures; journal = journal; guard = guard }) v)
unchanged_on_err (Ok x) v new old new_in old_in changed stored tail steady opening reads shapes writes failures journal guard same same_in is = tt
unchanged_on_err (Err e) v new old new_in old_in changed stored tail steady opening reads shapes writes failures journal guard same same_in is =
    let still : ◌≡◌ {A = PagesView} (record { pages = new; changed = changed; in_memory = new_in; stored = stored; tail = tail; steady = steady; opening = opening; reads = reads; shapes = shapes; writes = writes; failures = failures; journal = journal; guard = guard }) (record { pages = old; changed = changed; in_memory = old_in; stored = stored; tail = tail; steady = steady; opening = opening; reads = reads; shapes = shapes; writes = writes; failures = failures; journal = journal; guard = guard }) =
    λ i. record { pages = same i; changed = changed; in_memory = same_in i; stored = stored; tail = tail; steady = steady; opening = opening; reads = reads; shapes = shapes; writes = writes; failures = failures; journal = journal; guard = guard } in
    still ∙ is

needed_all : (seen writes : List (ℕ × List ℕ)) (needed count : ℕ) → needed ≡ (if eqb (length seen) 0 then 0 else count) → seen ≡ writes → 0 < length writes → needed ≡ count
needed_all seen writes needed count is same some = let long = ap (λ (ws : List (ℕ × List ℕ)). length ws) same in grind (arith, nat_tests)

can_in : (v : PagesView) (pages : List (Option (List ℕ))) (writes : List (ℕ × List ℕ)) (taken : ℕ) (freed : List ℕ) → pages ≡ v.pages → CanStage v.pages writes taken freed → CanStage pages writes taken freed
can_in v pages writes taken freed same can = subst (λ (ps : List (Option (List ℕ))). CanStage ps writes taken freed) (sym same) can

grown_in : (v : PagesView) (pages : List (Option (List ℕ))) (count numbers more taken : ℕ) → pages ≡ v.pages → length pages ≡ count → numbers ≡ length (free_numbers v.pages) → more ≡ taken - numbers → count + more ≡ count_after pages taken
grown_in v pages count numbers more taken same size free is =
    let long = ap (λ (ps : List (Option (List ℕ))). length (free_numbers ps)) same in omega arith

after_in : (v : PagesView) (pages : List (Option (List ℕ))) (new : List (Option (List ℕ))) (writes : List (ℕ × List ℕ)) (freed : List ℕ) (n : ℕ) → pages ≡ v.pages → at new n ≡ after (at pages) writes freed n → at new n ≡ after (at v.pages) writes freed n
after_in v pages new writes freed n same is = is ∙ ap (λ (ps : List (Option (List ℕ))). after (at ps) writes freed n) same

memory_in : (v : PagesView) (slots slots' : List (Option (List ℕ))) (free free' : List ℕ) (count count' n : ℕ) (here gone : Bool) → in_memory_of slots free count ≡ v.in_memory → is_some (to_write slots' free' count' n) ≡ ((here || is_some (to_write slots free count n)) && not gone) → get_or (in_memory_of slots' free' count') n false ≡ ((here || is_in_memory v n) && not gone)
memory_in v slots slots' free free' count count' n here gone same is =
    memory_at slots' free' count' n ∙ is
    ∙ ap (λ b. (here || b) && not gone) (sym (memory_at slots free count n) ∙ ap (λ (bs : List Bool). get_or bs n false) same)

-- the edit can be staged, and the count of pages after it
record IsAllowed (pages : List (Option (List ℕ))) (writes : List (ℕ × List ℕ)) (taken : ℕ) (freed : List ℕ) (count : ℕ) : Type 0 where
  pub can : CanStage pages writes taken freed
  pub grown : count ≡ count_after pages taken

module _ (g : given.Over) (c : After-saturating_sub g) where
  allowed : IsAllowed (pages_of (g.S.StoreState.pages c.self.inside.store) (slots_of c.self.inside.changed.items) c.self.inside.free.keys c.self.inside.count) c.args.edit.writes.items c.args.edit.taken c.args.edit.freed.items (c.self.inside.count + c.saturating_sub.result)
  allowed =
      let same = ap (λ (v : PagesView). v.pages) c.self.view_is in
      record {
        can = can_in c.args.self.now _ _ _ _ same c.requires;
        grown = grown_in c.args.self.now _ c.self.inside.count c.free_count.result c.saturating_sub.result c.args.edit.taken same (length-pages_of _ _ _ _) c.free_count.ensures c.saturating_sub.ensures;
      }

-- the pages after the edit is put in place
module _ (g : given.Over) (c : After-drop_pages g) where
  in_place : IsAllowed (pages_of (g.S.StoreState.pages c.self.inside.store) (slots_of c.self.inside.changed.items) c.self.inside.free.keys c.self.inside.count) c.args.edit.writes.items c.args.edit.taken c.args.edit.freed.items (c.self.inside.count + c.saturating_sub.result)
      → IsStaged (g.S.StoreState.pages c.self.inside.store) (slots_of c.self.inside.changed.items) c.self.inside.free.keys c.self.inside.count c.args.edit.writes.items c.args.edit.freed.items (slots_of c.drop_pages.new.changed.items) c.write_pages.new.free.keys (c.self.inside.count + c.saturating_sub.result)
  in_place edit_allowed =
      let grown = edit_allowed.grown in
      is_staged _ _ _ _ _ c.self.invariant.0 c.args.edit.writes.items c.args.edit.taken c.args.edit.freed.items edit_allowed.can
      (slots_of c.make_slots.new.changed.items) (slots_of c.drop_pages.new.changed.items) c.add_all.new.free.keys _ _ grown
      c.make_slots.ensures.same (λ some. let needed = needed_all _ _ _ _ c.slots_needed.ensures c.deref-3.ensures.value some in omega (arith, c.in_ok-make_slots.ensures.long, length-slots_of c.make_slots.new.changed.items))
      (λ q kept. c.drop_pages.ensures q (ap (λ (freed : List ℕ). is_freed freed q) c.deref-6.ensures.value ∙ kept) ∙ c.write_pages.ensures.slots q ∙ ap (λ (writes : List (ℕ × List ℕ)). at (put_slots (slots_of c.make_slots.new.changed.items) writes) q) c.deref-5.ensures.value)
      (λ q. c.in_ok-add_all.ensures.ok q ∙ ap (λ (freed : List ℕ). is_among c.self.inside.free.keys q || is_freed freed q) c.deref-4.ensures.value)
      (λ q. c.write_pages.ensures.free q ∙ ap (λ (writes : List (ℕ × List ℕ)). is_among c.add_all.new.free.keys q && not (is_written writes q)) c.deref-5.ensures.value)

pub invariant_of-self : goal.invariant_of-self
invariant_of-self g c =
    (are_stay _ _ _ _ _ c.self.invariant.0 (slots_of c.make_slots.new.changed.items) c.self.inside.free.keys c.make_slots.ensures.same (λ _. refl), c.self.invariant.1)

pub returns-in_err-make_slots-clause-err : goal.returns-in_err-make_slots-clause-err
returns-in_err-make_slots-clause-err g c =
    unchanged_on_err _ c.args.self.now _ _ _ _ _ _ _ _ _ _ _ _ _ _ _
    (pages_stay _ _ _ _ _ c.self.invariant.0 (slots_of c.make_slots.new.changed.items) c.self.inside.free.keys c.make_slots.ensures.same (λ _. refl))
    (memory_stays (slots_of c.self.inside.changed.items) (slots_of c.make_slots.new.changed.items) c.self.inside.free.keys c.self.inside.free.keys c.self.inside.count c.make_slots.ensures.same (λ _. refl)) c.self.view_is

pub add_all-requires : goal.add_all-requires
add_all-requires g c = λ q here.
    freed_not_free _ _ _ _ _ c.self.invariant.0 c.args.edit.writes.items c.args.edit.taken c.args.edit.freed.items
    (allowed g (goal.at.add_all-requires g c).After-saturating_sub).can
    q (ap (λ (freed : List ℕ). is_freed freed q) (sym c.deref-4.ensures.value) ∙ here)

pub invariant_of-self-in_err-add_all : goal.invariant_of-self-in_err-add_all
invariant_of-self-in_err-add_all g c =
    (are_stay _ _ _ _ _ c.self.invariant.0 (slots_of c.make_slots.new.changed.items) c.add_all.new.free.keys c.make_slots.ensures.same c.in_err-add_all.ensures.err, c.self.invariant.1)

pub write_pages-requires : goal.write_pages-requires
write_pages-requires g c =
    let edit_allowed = allowed g (goal.at.write_pages-requires g c).After-saturating_sub in
    let grown = edit_allowed.grown in
    record {
      fits = subst (λ (writes : List (ℕ × List ℕ)). All (λ (w : ℕ × List ℕ). w.0 < length c.make_slots.new.changed.items) writes) (sym c.deref-5.ensures.value)
          (written_fit _ _ _ _ _ c.self.invariant.0 c.args.edit.writes.items c.args.edit.taken c.args.edit.freed.items edit_allowed.can
          (length c.make_slots.new.changed.items) (λ some. let needed = needed_all _ _ _ _ c.slots_needed.ensures c.deref-3.ensures.value some in omega (arith, grown, c.in_ok-make_slots.ensures.long)));
      new = λ n.
          c.in_ok-new.ensures.pages n
          ∙ ap (λ (writes : List (ℕ × List ℕ)). is_written writes n && not (is_some (at (slots_of c.deref.result.now) n))) (c.deref-2.ensures.value ∙ sym c.deref-5.ensures.value)
          ∙ ap (λ (slot : Option (List ℕ)). is_written c.deref-5.result.now n && not (is_some slot)) (ap (λ items. at (slots_of items) n) c.deref.ensures.value ∙ sym (c.make_slots.ensures.same n));
    }

pub returns-in_err-add_all-clause-err : goal.returns-in_err-add_all-clause-err
returns-in_err-add_all-clause-err g c =
    unchanged_on_err _ c.args.self.now _ _ _ _ _ _ _ _ _ _ _ _ _ _ _
    (pages_stay _ _ _ _ _ c.self.invariant.0 (slots_of c.make_slots.new.changed.items) c.add_all.new.free.keys c.make_slots.ensures.same c.in_err-add_all.ensures.err)
    (memory_stays (slots_of c.self.inside.changed.items) (slots_of c.make_slots.new.changed.items) c.self.inside.free.keys c.add_all.new.free.keys c.self.inside.count c.make_slots.ensures.same c.in_err-add_all.ensures.err) c.self.view_is

pub invariant_of-self-2 : goal.invariant_of-self-2
invariant_of-self-2 g c =
    let places = goal.at.invariant_of-self-2 g c in
    ((in_place g places.After-drop_pages (allowed g places.After-saturating_sub)).are, c.self.invariant.1)

pub returns-clause-pages : goal.returns-clause-pages
returns-clause-pages g c = λ n.
    let places = goal.at.returns-clause-pages g c in
    after_in c.args.self.now _ _ c.args.edit.writes.items c.args.edit.freed.items n (ap (λ (v : PagesView). v.pages) c.self.view_is) ((in_place g places.After-drop_pages (allowed g places.After-saturating_sub)).pages n)

pub returns-clause-count : goal.returns-clause-count
returns-clause-count g c =
    length-pages_of _ _ _ _
    ∙ (allowed g (goal.at.returns-clause-count g c).After-saturating_sub).grown
    ∙ ap (λ (v : PagesView). count_after v.pages c.args.edit.taken) c.self.view_is

pub returns-clause-in_memory : goal.returns-clause-in_memory
returns-clause-in_memory g c = λ n.
    let places = goal.at.returns-clause-in_memory g c in
    memory_in c.args.self.now (slots_of c.self.inside.changed.items) (slots_of c.drop_pages.new.changed.items) c.self.inside.free.keys c.write_pages.new.free.keys c.self.inside.count _ n (is_written c.args.edit.writes.items n) (is_freed c.args.edit.freed.items n) (ap (λ (v : PagesView). v.in_memory) c.self.view_is)
    ((in_place g places.After-drop_pages (allowed g places.After-saturating_sub)).memory n)
