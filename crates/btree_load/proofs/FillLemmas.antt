-- Calls that fill a store, one after another.
use Rattle.std.proofs.Common.{◌≡◌, ℕ, length, Result, Ok, refl, sym, subst, ap, ◌∙◌, arith}
use Rattle.std.proofs.lemmas.List.{length-take-le}
use Rattle.rec_types.specs.Table.{counted}
use Rattle.page_store.specs.declared.store_state.StoreState.{Ghosts}
use Rattle.page_store.specs.WriteFaults.{write_by_device}
use Rattle.btree_load.specs.Filling.{IsOpen, FillsStore, HasPages, KeepsLength, written_pages}
use Rattle.page_store.specs.declared.page_edit.WriteFault.{WriteFault}

-- no call yet
pub none_yet : {S : Type 0} (s : Ghosts S) (store : S) → FillsStore {A = Unit {0}} s store (Ok tt) store
none_yet s store = record {
  steady = refl;
  opening = refl;
  reads = refl;
  shapes = refl;
  failures = refl;
  guard = λ is. refl;
}

-- calls that did what they were to, and further ones
pub fills_then : {S A B : Type 0} (s : Ghosts S) (old mid new : S) (x : A) (answer : Result B WriteFault) → FillsStore s old (Ok x) mid → FillsStore s mid answer new → FillsStore s old answer new
fills_then s old mid new x answer first second = record {
  steady = second.steady ∙ first.steady;
  opening = second.opening ∙ first.opening;
  reads = second.reads ∙ first.reads;
  shapes = second.shapes ∙ first.shapes;
  failures = second.failures ∙ ap (λ n. counted n (write_by_device answer)) first.failures;
  guard = λ is. second.guard (subst IsOpen (sym (first.guard is)) is) ∙ first.guard is;
}

-- whatever they answered
pub fills_any : {S A : Type 0} (s : Ghosts S) (old new : S) (x : A) → FillsStore s old (Ok x) new → FillsStore {A = Unit {0}} s old (Ok tt) new
fills_any s old new x fills = record {
  steady = fills.steady;
  opening = fills.opening;
  reads = fills.reads;
  shapes = fills.shapes;
  failures = fills.failures;
  guard = fills.guard;
}

pub same_length : {S : Type 0} (s : Ghosts S) (store : S) → KeepsLength s store store
same_length s store = record { pages = refl; tail = refl }

pub same_then : {S : Type 0} (s : Ghosts S) (old mid new : S) → KeepsLength s old mid → KeepsLength s mid new → KeepsLength s old new
same_then s old mid new first second = record { pages = second.pages ∙ first.pages; tail = second.tail ∙ first.tail }

-- so many pages were written
pub written_long : {S : Type 0} (s : Ghosts S) (count more : ℕ) (store : S) → HasPages s count more store → length (written_pages s count store) ≡ count
written_long s count more store has = length-take-le count (s.pages store) (omega (arith, has.room))
