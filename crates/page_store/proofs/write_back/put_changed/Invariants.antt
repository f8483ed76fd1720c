use Rattle.std.proofs.Common.{◌≡◌, ℕ, ◌<◌, IsSome, is_some, IsTrue, slice_get}
use Rattle.page_store.specs.Calls.{counted_times, how_many}
use Rattle.page_store.specs.Overlaid.{slots_of}
use Rattle.page_store.specs.WritingBack.{to_write, SameBut}
use Rattle.page_store.specs.Journal.{noted_steps, writes_below}
use Rattle.page_store.proofs.GuardLemmas.{Passes}
use Rattle.page_store.proofs.write_back.put_changed.Given as goal

abbrev pub invariant-loop-n : goal.invariant-loop-n
invariant-loop-n g l = record {
  others : SameBut (λ n. is_some (to_write (slots_of l.changed) l.free.keys l.count n)) (g.S.StoreState.pages l.fn.store) (g.S.StoreState.pages l.store);
  pages : IsTrue (g.S.StoreState.steady l.fn.store) → (n : ℕ) → n < l.n → IsSome (to_write (slots_of l.changed) l.free.keys l.count n) → slice_get (g.S.StoreState.pages l.store) n ≡ to_write (slots_of l.changed) l.free.keys l.count n;
  tail : g.S.StoreState.tail l.store ≡ g.S.StoreState.tail l.fn.store;
  steady : g.S.StoreState.steady l.store ≡ g.S.StoreState.steady l.fn.store;
  opening : g.S.StoreState.opening l.store ≡ g.S.StoreState.opening l.fn.store;
  reads : g.S.StoreState.reads l.store ≡ g.S.StoreState.reads l.fn.store;
  shapes : g.S.StoreState.shapes l.store ≡ g.S.StoreState.shapes l.fn.store;
  writes : g.S.StoreState.writes l.store ≡ counted_times (g.S.StoreState.writes l.fn.store) (how_many (λ n. is_some (to_write (slots_of l.changed) l.free.keys l.count n)) l.n);
  failures : g.S.StoreState.failures l.store ≡ g.S.StoreState.failures l.fn.store;
  journal : g.S.StoreState.journal l.store ≡ noted_steps (g.S.StoreState.journal l.fn.store) (writes_below (to_write (slots_of l.changed) l.free.keys l.count) l.n);
  guard : Passes (writes_below (to_write (slots_of l.changed) l.free.keys l.count) l.count) (g.S.StoreState.guard l.fn.store) (g.S.StoreState.guard l.store);
}
