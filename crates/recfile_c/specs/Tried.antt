-- A table whose closing was tried, by example.
use Rattle.std.specs.Prelude.{ℕ, true, false, List, [], ◌∷◌, Some, None}
use Rattle.rec_types.specs.Calls.{no_calls}
use Rattle.rec_types.specs.Table.{no_damage}
use Rattle.page_store.specs.Fronts.{two_pages}
use Rattle.page_store.specs.Guards.{Unguarded}
use Rattle.page_store.specs.Opening.{untold}
use Rattle.page_store.specs.declared.step.Step.{Step}
use Rattle.page_store.specs.declared.step.Step.TheVariants.{SetPages, Write, Sync}
use Rattle.btree_delete.specs.TableView.{TableView}

-- a table of two pages, of which page 1 is to be written anew; its store was made of these pages, and has kept these steps
abbrev pub table_over : List (List ℕ) → List Step → TableView
table_over opened steps = record {
  pages = record {
    pages = None ∷ Some (3 ∷ []) ∷ [];
    changed = true;
    in_memory = false ∷ true ∷ [];
    stored = two_pages;
    tail = 0;
    steady = true;
    opening = untold;
    reads = 0;
    shapes = 0;
    writes = 0;
    failures = 0;
    journal = Some (record { opened = opened; steps = steps });
    guard = Unguarded;
  };
  tree = record { order = 1; root = 1; height = 1; count = 1; used = 1 };
  limit = 1;
  refusals = 0;
  damages = no_damage;
  calls = no_calls;
}

abbrev pub changed_table : List Step → TableView
changed_table = table_over two_pages

-- what tries of its closing keep: the first call of one
abbrev pub made_longer : List Step
made_longer = SetPages 2 ∷ []

-- what none keep: another length, page 1 written with no mark, and a sync before anything else
abbrev pub made_too_long : List Step
made_too_long = SetPages 3 ∷ []

abbrev pub written_unmarked : List Step
written_unmarked = SetPages 2 ∷ Write 1 (3 ∷ []) ∷ []

abbrev pub kept_first : List Step
kept_first = Sync ∷ []
