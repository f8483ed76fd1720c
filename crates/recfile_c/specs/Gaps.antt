-- Looks at the records on a side of a gap, and lists of them.
use Rattle.std.specs.Prelude.{◌≡◌, ℕ, Bool, true, false, List, length, Option, Some, None, Result, Ok, Err}
use Rattle.rec_types.specs.Ordered.{gap_past}
use Rattle.rec_types.specs.declared.gap.Gap.{Gap}
use Rattle.rec_types.specs.declared.gap.Gap.TheVariants as gaps
use Rattle.rec_types.specs.declared.key.KeyFault.{KeyFault}
use Rattle.rec_types.specs.declared.key.KeyFault.TheVariants.{Empty, TooLong}
use Rattle.rec_types.specs.declared.side.Side.{Side}
use Rattle.rec_types.specs.declared.side.Side.TheVariants.{After, Before}
use Rattle.rec_types.specs.declared.transaction.Entry.{Entry}
use Rattle.record_file.specs.AtMost.{IsLimitedTo}
use Rattle.record_file.specs.Refusals.{entries_refusal}
use Rattle.record_file.specs.Runs.{EntriesBeside}
use Rattle.record_file.specs.Runs as calls
use Rattle.record_file.specs.declared.fault.EntriesFault.{EntriesFault}
use Rattle.recfile_c.specs.declared.held.Session.{Session}
use Rattle.recfile_c.specs.declared.outcome.Outcome.{Outcome}
use Rattle.recfile_c.specs.declared.shown.ListedEntry.{ListedEntry}
use Rattle.recfile_c.specs.Calls.{FileState, MadeThere}
use Rattle.recfile_c.specs.Lists.{list_in}
use Rattle.recfile_c.specs.Outcomes.{just, ok, absent, key_outcome, outcome_by}
use Rattle.recfile_c.specs.Shown.{ShowsFound, IsNoEntry}

-- the side to which the greater keys lie, or that of the smaller ones
abbrev pub side_of : Bool → Side
side_of true = Before
side_of false = After

-- the gap from which a side has a key of its own, and the keys past it
abbrev pub gap_with : Side → List ℕ → Gap
gap_with After key = gaps.Before key
gap_with Before key = gaps.Behind key

-- the gap from which a side has all keys
abbrev pub outer_gap : Side → Gap
outer_gap After = gaps.Start
outer_gap Before = gaps.End

-- the gap from which a side has what is past a key, and what is at it where that is asked for
abbrev pub gap_of_key : Side → Bool → List ℕ → Gap
gap_of_key side true key = gap_with side key
gap_of_key side false key = gap_past side key

-- that of some bytes; of none, the one from which the side has all
abbrev pub gap_of_bytes : Side → Bool → Result (List ℕ) KeyFault → Result Gap KeyFault
gap_of_bytes side at_key (Ok key) = Ok (gap_of_key side at_key key)
gap_of_bytes side at_key (Err Empty) = Ok (outer_gap side)
gap_of_bytes side at_key (Err TooLong) = Err TooLong

-- where there is no record it is absent
abbrev pub look_outcome : Result (Option Entry) EntriesFault → Outcome
look_outcome (Ok None) = just absent
look_outcome (Ok (Some e)) = just ok
look_outcome (Err fault) = outcome_by {A = Option Entry} entries_refusal (Err fault)

-- the record nearest to a gap on a side of it is looked at, or the bytes are no key
abbrev pub LooksBeside : Side → Result Gap KeyFault → Outcome → ListedEntry → FileState → FileState → Type 0
LooksBeside side (Ok gap) told shown old new =
    (answer : Result (Option Entry) EntriesFault) × (told ≡ look_outcome answer) × ShowsFound answer shown
    × MadeThere old (calls.Beside side gap answer) new
LooksBeside side (Err fault) told shown old new = (told ≡ key_outcome fault) × IsNoEntry shown × (new ≡ old)

-- at most so many of the records on a side of a gap are listed, and the list is kept; the keys listed last stay
abbrev pub ListsRange : Side → Result Gap KeyFault → ℕ → Outcome → ℕ → Session → Session → Type 0
ListsRange side (Ok gap) most told n old new =
    (all : Result (List Entry) EntriesFault) × (answer : Result (List Entry) EntriesFault) × IsLimitedTo most all answer
    × (told ≡ outcome_by entries_refusal answer) × (n ≡ length (list_in answer))
    × MadeThere old.file (EntriesBeside side gap all) new.file × (new.entries.items ≡ list_in answer) × (new.keys ≡ old.keys)
ListsRange side (Err fault) most told n old new = (told ≡ key_outcome fault) × (n ≡ 0) × (new ≡ old)
