-- A list of entries by example.
use Rattle.std.specs.Prelude.{List, [], ◌∷◌, Some, None}
use Rattle.rec_types.specs.declared.transaction.Entry.{Entry}
use Rattle.record_file.specs.Exact.{one}

-- the record x at the key a, which transaction 1 owns
abbrev pub owned_at_a : Entry
owned_at_a = record { key = 97 ∷ []; value = 120 ∷ []; owner = Some one }

-- behind it the empty record at the key b, which none owns
abbrev pub entries_at_a_and_b : List Entry
entries_at_a_and_b = owned_at_a ∷ record { key = 98 ∷ []; value = []; owner = None } ∷ []
