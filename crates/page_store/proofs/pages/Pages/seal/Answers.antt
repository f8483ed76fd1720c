use Rattle.std.proofs.Common.{◌≡◌, ◌∙◌, ◌==◌, ◌||◌, ℕ, Bool, List, length, Ok, false, get_or, sym, ap, subst, is_some, arith}
use Rattle.std.specs.List.{list_any}
use Rattle.page_store.specs.Guards.{SealsGuard}
use Rattle.page_store.specs.Overlaid.{slots_of}
use Rattle.page_store.specs.PagesView.{PagesView, is_in_memory}
use Rattle.page_store.specs.WritingBack.{to_write, in_memory_of}
use Rattle.page_store.specs.declared.store_fault.StoreFault.{StoreFault}
use Rattle.page_store.specs.declared.page_edit.WriteFault.{WriteFault}
use Rattle.page_store.proofs.GuardLemmas.{seals_alike}
use Rattle.page_store.proofs.InMemoryLemmas.{memory_at}
use Rattle.page_store.proofs.pages.Pages.seal.Goals as goal

pub returns-in-Ok-seal-clause-guard : goal.returns-in-Ok-seal-clause-guard
returns-in-Ok-seal-clause-guard g c =
    subst (λ (v : PagesView). v.tail ≡ 0 → SealsGuard {F = WriteFault} (λ n. n == 0 || is_in_memory v n) (length v.stored) v.guard (Ok tt) (g.S.StoreState.guard c.seal.new.self)) c.self.view_is
    (λ tail. seals_alike StoreFault WriteFault (λ n. list_any (λ m. n == m) c.deref-2.result.now) (λ n. n == 0 || get_or (in_memory_of (slots_of c.self.inside.changed.items) c.self.inside.free.keys c.self.inside.count) n false) (length (g.S.StoreState.pages c.self.inside.store)) (g.S.StoreState.guard c.self.inside.store) (g.S.StoreState.guard c.seal.new.self)
    (λ n. ap (λ (ns : List ℕ). list_any (λ m. n == m) ns) c.deref-2.ensures.value ∙ c.in-Ok.ensures.which n
    ∙ ap (λ (items : List _). n == 0 || is_some (to_write (slots_of items) c.self.inside.free.keys c.self.inside.count n)) c.deref.ensures.value
    ∙ ap (λ (b : Bool). n == 0 || b) (sym (memory_at (slots_of c.self.inside.changed.items) c.self.inside.free.keys c.self.inside.count n)))
    (c.in-Ok-seal.ensures.guard tail (omega (arith, c.self.invariant.0.store_fits, c.self.invariant.0.most))))
