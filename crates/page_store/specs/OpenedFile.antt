-- What contracts see of a store in a file: its pages, and whether it gives back what it took. Nothing but the clauses of the trait ties these to the bytes of the file.
use Rattle.std.specs.Prelude.{◌≡◌, ◌<◌, ℕ, Bool, List, Result, IfOk}
use Rattle.rec_types.specs.Widths.{page_width}
use Rattle.page_store.specs.StoreFaults.{OnlyFails}
use Rattle.page_store.specs.declared.store_fault.StoreFault.{StoreFault}

pub record OpenedFile : Type 0 where
  pub pages : List (List ℕ)
  pub tail : ℕ
  pub steady : Bool
  pub reads : ℕ
  pub shapes : ℕ
  pub writes : ℕ
  pub failures : ℕ

-- a file was opened, whose calls are counted from now on, or the call failed
abbrev pub OpensStore : Result OpenedFile StoreFault → Type 0
OpensStore result = IfOk result (λ store. (store.reads ≡ 0) × (store.shapes ≡ 0) × (store.writes ≡ 0) × (store.failures ≡ 0) × (store.tail < page_width)) × OnlyFails result
