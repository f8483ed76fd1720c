-- What a store was opened from, and what is kept beside its pages.
use Rattle.std.specs.Prelude.{ℕ, Bool, false, List, [], Option, None}

-- the pages and the tail of the file that it was opened from, where it tells them; the bytes of the log of commits that stood beside it then, and whether one was begun since; the commits that were kept there, each as its lines, and the text of the one that is in doubt
pub record Opening : Type 0 where
  pub pages : List (List ℕ)
  pub tail : ℕ
  pub log : Option (List ℕ)
  pub logged : Bool
  pub commits : List (List (List ℕ))
  pub doubt : List ℕ

-- of a store that tells nothing of that
abbrev pub untold : Opening
untold = record { pages = []; tail = 0; log = None; logged = false; commits = []; doubt = [] }
