use Rattle.std.proofs.Common.{ℕ, ◌<◌, List, Option, All, IsSome, sym, ap, subst, ◌∙◌}
use Rattle.page_store.specs.PageMap.{at}
use Rattle.page_store.specs.Overlaid.{slots_of}
use Rattle.page_store.specs.Slots.{bytes_in, put_slots}
use Rattle.page_store.proofs.SlotLemmas.{length-slots_of}
use Rattle.page_store.proofs.InPlaceLemmas.{new_fit, all_there, over_them}
use Rattle.page_store.proofs.slot.write_pages.Goals as goal

pub put_pages-requires : goal.put_pages-requires
put_pages-requires c =
    let long = length-slots_of c.args.changed.now.items in
    subst (λ limit. All (λ (w : ℕ × List ℕ). w.0 < limit) (bytes_in c.args.new.items)) long
    (new_fit (slots_of c.args.changed.now.items) c.args.writes.now (bytes_in c.args.new.items) (subst (λ limit. All (λ (w : ℕ × List ℕ). w.0 < limit) c.args.writes.now) (sym long) c.requires.fits) c.requires.new)

pub write_over-requires : goal.write_over-requires
write_over-requires c =
    let long = length-slots_of c.args.changed.now.items in
    subst (λ (slots : List (Option (List ℕ))). All (λ (w : ℕ × List ℕ). IsSome (at slots w.0)) c.args.writes.now) (sym c.put_pages.ensures)
    (all_there (slots_of c.args.changed.now.items) c.args.writes.now (bytes_in c.args.new.items) (subst (λ limit. All (λ (w : ℕ × List ℕ). w.0 < limit) c.args.writes.now) (sym long) c.requires.fits) c.requires.new)

pub returns-clause-slots : goal.returns-clause-slots
returns-clause-slots c = λ n.
    let long = length-slots_of c.args.changed.now.items in
    ap (λ (slots : List (Option (List ℕ))). at slots n) (c.write_over.ensures.slots ∙ ap (λ (slots : List (Option (List ℕ))). put_slots slots c.args.writes.now) c.put_pages.ensures)
    ∙ over_them (slots_of c.args.changed.now.items) c.args.writes.now (bytes_in c.args.new.items) (subst (λ limit. All (λ (w : ℕ × List ℕ). w.0 < limit) c.args.writes.now) (sym long) c.requires.fits) c.requires.new n
