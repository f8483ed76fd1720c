-- The records of a table, each with the owner of its key by a log; and a list of them that is told to a sink.
use Rattle.std.specs.Prelude.{◌≡◌, List, ◌++◌, map, Result, Ok, Err}
use Rattle.std.proofs.lemmas.List.{map-append}
use Rattle.rec_types.specs.Sorted.{Pairs}
use Rattle.rec_types.specs.Told.{Takes}
use Rattle.rec_types.specs.declared.transaction.Entry.{Entry}
use Rattle.tx_log.specs.LogState.{LogState, open_in, history_in}
use Rattle.record_file.specs.Steps.{entry_with}
use Rattle.record_file.specs.declared.fault.EntriesFault.{EntriesFault}

abbrev pub owned_by : LogState → Pairs → List Entry
owned_by log es = map (entry_with (open_in log) (history_in log)) es

pub owned_both : (log : LogState) (es fs : Pairs) → owned_by log (es ++ fs) ≡ owned_by log es ++ owned_by log fs
owned_both log es fs = map-append (entry_with (open_in log) (history_in log)) es fs

-- a list that went to a sink: it took the entries, or stopped at one of them; where there is no list it was told some
abbrev pub GoesTo : {F : Type 0} → (List Entry → Type 0) → (List Entry → F → Type 0) → Result (List Entry) EntriesFault → Result (Result (Unit {0}) F) EntriesFault → Type 0
GoesTo told stops (Ok es) (Ok taken) = Takes told stops es taken
GoesTo told stops (Err fault) (Err answered) = (answered ≡ fault) × ((es : List Entry) × told es)
GoesTo told stops (Ok es) (Err answered) = ⊥
GoesTo told stops (Err fault) (Ok taken) = ⊥
