-- Lists that are made once, and read entry by entry.
use Rattle.std.specs.Prelude.{◌≡◌, ℕ, ℤ, pos, List, [], length, Option, Some, None, Result, Ok, Err, slice_get}
use Rattle.rec_types.specs.declared.transaction.Entry.{Entry}
use Rattle.rec_types.specs.declared.transaction.TxId.{TxId}
use Rattle.record_file.specs.Runs.{Entries, KeysOf}
use Rattle.record_file.specs.declared.fault.EntriesFault.{EntriesFault}
use Rattle.record_file.specs.declared.fault.KeysOfFault.{KeysOfFault}
use Rattle.recfile_c.specs.declared.held.Session.{Session}
use Rattle.recfile_c.specs.declared.outcome.Outcome.{Outcome}
use Rattle.recfile_c.specs.declared.shown.ListedEntry.{ListedEntry}
use Rattle.recfile_c.specs.Shown.{ShowsEntry, IsNoEntry}
use Rattle.record_file.specs.Refusals.{entries_refusal, keys_of_refusal}
use Rattle.recfile_c.specs.Outcomes.{ok, no_such_entry, outcome_by}
use Rattle.recfile_c.specs.Calls.{MadeThere, Looked}

-- the list that an answer has, and else none
abbrev pub list_in : {X E : Type 0} → Result (List X) E → List X
list_in (Ok list) = list
list_in (Err fault) = []

-- the records are listed, and the list is kept; the keys listed last stay
abbrev pub ListsEntries : Outcome → ℕ → Session → Session → Type 0
ListsEntries told n old new =
    (answer : Result (List Entry) EntriesFault) × (told ≡ outcome_by entries_refusal answer) × (n ≡ length (list_in answer))
    × MadeThere old.file (Entries answer) new.file × (new.entries.items ≡ list_in answer) × (new.keys ≡ old.keys)

-- the keys of a transaction are listed, and the list is kept; the records listed last stay
abbrev pub ListsKeys : TxId → ℤ → ℕ → Session → Session → Type 0
ListsKeys t status n old new =
    (answer : Result (List (List ℕ)) KeysOfFault) × (status ≡ (outcome_by keys_of_refusal answer).status) × (n ≡ length (list_in answer))
    × Looked old.file (KeysOf t answer) new.file
    × (new.keys.items ≡ list_in answer) × (new.entries ≡ old.entries)

-- the i-th entry of the list, from 0, where there is one
abbrev pub ShowsAt : Option Entry → ℤ → ListedEntry → Type 0
ShowsAt (Some e) status told = (status ≡ pos ok) × ShowsEntry told e
ShowsAt None status told = (status ≡ pos no_such_entry) × IsNoEntry told

abbrev pub EntryAt : ℕ → ℤ → ListedEntry → Session → Session → Type 0
EntryAt i status told old new = ShowsAt (slice_get old.entries.items i) status told × (new ≡ old)

-- the i-th key of the list, from 0, where there is one
abbrev pub ShowsKey : Option (List ℕ) → ℤ → List ℕ → Type 0
ShowsKey (Some x) status told = (status ≡ pos ok) × (told ≡ x)
ShowsKey None status told = (status ≡ pos no_such_entry) × (told ≡ [])

abbrev pub KeyAt : ℕ → ℤ → List ℕ → Session → Session → Type 0
KeyAt i status told old new = ShowsKey (slice_get old.keys.items i) status told × (new ≡ old)
