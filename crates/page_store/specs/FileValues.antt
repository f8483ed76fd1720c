-- What a store in a file stands for. Nothing is known of the bytes of a file: callers know of these values what the clauses of a store say of them, and no clause says which they are.
use Rattle.std.specs.Prelude.{ℕ, Bool, false, List}
use Rattle.page_store.specs.Blank.{blanks}

-- whether a file gives back what it took
unfoldable pub gives_back : Bool
gives_back = false

-- the pages of a file of so many pages
unfoldable pub pages_in_file : ℕ → List (List ℕ)
pages_in_file n = blanks n
