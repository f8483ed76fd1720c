-- Pages of zeros.
use Rattle.std.specs.Prelude.{ℕ, List, replicate}
use Rattle.rec_types.specs.Widths.{page_width}

-- a page of zeros
unfoldable pub blank : List ℕ
blank = replicate page_width 0

-- that many pages of zeros
abbrev pub blanks : ℕ → List (List ℕ)
blanks n = replicate n blank
