-- What is kept of a line whose end hasn't come.
use Rattle.std.specs.Prelude.{◌≡◌, ℕ, ◌<◌, ◌≤◌, Bool, true, false, List, [], length}
use Rattle.command_text.specs.Script.{longest_line}

-- Bytes, or that they are too many.
pub record Part : Type 0 where
  pub bytes : List ℕ
  pub long : Bool

-- A line has begun with these bytes: they are kept while it may be so long, and then only that it is longer.
pub record IsPartOfLine (part : Part) (begun : List ℕ) : Type 0 where
  pub kept : part.long ≡ false → part.bytes ≡ begun
  pub fits : part.long ≡ false → length begun ≤ longest_line
  pub longer : part.long ≡ true → longest_line < length begun

-- no line has begun
abbrev pub no_part : Part
no_part = record { bytes = []; long = false }
