use Rattle.std.proofs.Common.{◌≡◌, ℕ, ◌<◌, length, IsSome, IsTrue, slice_get}
use Rattle.page_store.specs.Journal.{noted_steps, writes_below}
use Rattle.page_store.specs.StoreCalls.{StaysStore}
use Rattle.page_copy.specs.Copying.{behind_first}
use Rattle.page_copy.proofs.copying.copy_rest.Given as goal

abbrev pub invariant-loop-n : goal.invariant-loop-n
invariant-loop-n g l = record {
  put : IsTrue (g.S.StoreState.steady l.fn.source) → IsTrue (g.T.StoreState.steady l.fn.copy) → (k : ℕ) → k < l.n → IsSome (behind_first (g.S.StoreState.pages l.fn.source) k) → slice_get (g.T.StoreState.pages l.copy) k ≡ behind_first (g.S.StoreState.pages l.fn.source) k;
  long : length (g.T.StoreState.pages l.copy) ≡ length (g.T.StoreState.pages l.fn.copy);
  tail : g.T.StoreState.tail l.copy ≡ g.T.StoreState.tail l.fn.copy;
  calls : IsTrue (g.S.StoreState.steady l.fn.source) → g.T.StoreState.journal l.copy ≡ noted_steps (g.T.StoreState.journal l.fn.copy) (writes_below (behind_first (g.S.StoreState.pages l.fn.source)) l.n);
  stays : StaysStore g.S.StoreState l.fn.source l.source;
  fails : g.S.StoreState.failures l.source ≡ g.S.StoreState.failures l.fn.source;
  copy_fails : g.T.StoreState.failures l.copy ≡ g.T.StoreState.failures l.fn.copy;
  steady : g.T.StoreState.steady l.copy ≡ g.T.StoreState.steady l.fn.copy;
}
