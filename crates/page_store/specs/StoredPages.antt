-- What contracts see of a store in memory.
use Rattle.std.specs.Prelude.{ℕ, List}

pub record StoredPages : Type 0 where
  pub pages : List (List ℕ)
  pub tail : ℕ
  pub reads : ℕ
  pub shapes : ℕ
  pub writes : ℕ
