-- The store that lies under pages, before it has them and when it is handed back.
use Rattle.std.specs.Prelude.{◌≡◌, true, Bool}
use Rattle.rec_types.specs.Table.{counted}
use Rattle.page_store.specs.PagesView.{PagesView}
use Rattle.page_store.specs.StoreCalls.{StaysStore}
use Rattle.page_store.specs.declared.store_state.StoreState.{Ghosts}

-- the store of these pages: it is what they tell of their store
pub record IsStoreOf {S : Type 0} (s : Ghosts S) (v : PagesView) (store : S) : Type 0 where
  pub pages : s.pages store ≡ v.stored
  pub tail : s.tail store ≡ v.tail
  pub steady : s.steady store ≡ v.steady
  pub opening : s.opening store ≡ v.opening
  pub reads : s.reads store ≡ v.reads
  pub shapes : s.shapes store ≡ v.shapes
  pub writes : s.writes store ≡ v.writes
  pub failures : s.failures store ≡ v.failures
  pub journal : s.journal store ≡ v.journal
  pub guard : s.guard store ≡ v.guard

-- pages over a store that was asked for its shape once and at most read, with no failure
pub record LiesOver {S : Type 0} (s : Ghosts S) (store : S) (v : PagesView) : Type 0 where
  pub stored : v.stored ≡ s.pages store
  pub tail : v.tail ≡ s.tail store
  pub steady : v.steady ≡ s.steady store
  pub opening : v.opening ≡ s.opening store
  pub shapes : v.shapes ≡ counted (s.shapes store) true
  pub writes : v.writes ≡ s.writes store
  pub failures : v.failures ≡ s.failures store
  pub journal : v.journal ≡ s.journal store
  pub guard : v.guard ≡ s.guard store

-- a store that was at most read and asked for its shape: asked where the first test holds, and a call failed where the second does
pub record OnlyAsks {S : Type 0} (s : Ghosts S) (asked failed : Bool) (old new : S) : Type 0 where
  pub stays : StaysStore s old new
  pub shapes : s.shapes new ≡ counted (s.shapes old) asked
  pub failures : s.failures new ≡ counted (s.failures old) failed
