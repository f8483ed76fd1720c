-- What a deletion has visited, written and freed so far.
use Rattle.std.specs.Prelude.{◌≡◌, ℕ, ◌+◌, ◌-◌, ◌*◌, ◌≤◌, Bool, true, false, List, [], ◌∷◌, ◌++◌, length, Option, IsSome, ◌==◌}
use Rattle.std.specs.List.{AllByRecursion, list_any}
use Rattle.page_store.specs.PageMap.{at, is_written, is_freed}
use Rattle.page_store.specs.declared.page_edit.PageEdit.{PageEdit}
use Rattle.btree_insert.specs.Sizes.{greatest_height}

-- what was written and what was freed so far
pub record DoneSoFar : Type 0 where
  pub writes : List (ℕ × List ℕ)
  pub freed : List ℕ

abbrev pub done_so_far : List (ℕ × List ℕ) → List ℕ → DoneSoFar
done_so_far writes freed = record { writes = writes; freed = freed }

abbrev pub so_far : PageEdit → DoneSoFar
so_far edit = done_so_far edit.writes.items edit.freed.items

-- the pages that were visited before a call, and those that are visited now
pub record Visits : Type 0 where
  pub before : List ℕ
  pub now : List ℕ

abbrev pub visits : List ℕ → List ℕ → Visits
visits before now = record { before = before; now = now }

-- the most pages that a deletion visits: one a level, and below the root a brother of each
abbrev pub most_visited : ℕ
most_visited = 2 * greatest_height - 1

-- whether page q was visited
abbrev pub is_visited : List ℕ → ℕ → Bool
is_visited visited q = list_any (λ m. m == q) visited

-- page q is neither written nor freed
pub record Untouched (writes : List (ℕ × List ℕ)) (freed : List ℕ) (q : ℕ) : Type 0 where
  pub unwritten : is_written writes q ≡ false
  pub kept : is_freed freed q ≡ false

-- page n was visited for the first time
pub record Visited (old new : List ℕ) (n : ℕ) : Type 0 where
  pub added : new ≡ old ++ n ∷ []
  pub fresh : is_visited old n ≡ false

-- page n was visited, and is neither written nor freed so far
pub record IsAwaited (visited : List ℕ) (done : DoneSoFar) (n : ℕ) : Type 0 where
  pub here : is_visited visited n ≡ true
  pub kept : Untouched done.writes done.freed n

-- what is written and freed was visited and is in use, and nothing is both
pub record IsTidy (pages : List (Option (List ℕ))) (visited : List ℕ) (writes : List (ℕ × List ℕ)) (freed : List ℕ) : Type 0 where
  pub written : AllByRecursion (λ (w : ℕ × List ℕ). IsSome (at pages w.0)) writes
  pub freed_in_use : AllByRecursion (λ n. IsSome (at pages n)) freed
  pub freed_not_written : AllByRecursion (λ n. is_written writes n ≡ false) freed
  pub unvisited : (q : ℕ) → is_visited visited q ≡ false → Untouched writes freed q

-- a visit of page n and of what stands below it, through so many levels: only pages that it visited were touched
pub record IsVisit (visited visited' : List ℕ) (writes : List (ℕ × List ℕ)) (freed : List ℕ) (height n : ℕ) : Type 0 where
  pub fresh : is_visited visited n ≡ false
  pub older : (q : ℕ) → is_visited visited q ≡ true → Untouched writes freed q
  pub stays : (q : ℕ) → is_visited visited q ≡ true → is_visited visited' q ≡ true
  pub here : is_visited visited' n ≡ true
  pub few : length visited' + 1 ≤ length visited + 2 * height
