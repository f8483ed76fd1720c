-- A file of two pages.
use Rattle.std.specs.Prelude.{ℕ, List, [], ◌∷◌, None, replicate}
use Rattle.rec_types.specs.Widths.{page_width}
use Rattle.page_journal.specs.Files.{Files, no_commits}
use Rattle.page_journal.specs.Steps.{nothing_kept}

-- a page of one byte
unfoldable pub filled_page : ℕ → List ℕ
filled_page byte = replicate page_width byte

-- two pages, with no side file
abbrev pub two_filled_pages : Files
two_filled_pages = record {
  main = record { pages = filled_page 1 ∷ filled_page 2 ∷ []; tail = 0 };
  fresh = nothing_kept 0;
  side = None;
  commits = no_commits;
}
