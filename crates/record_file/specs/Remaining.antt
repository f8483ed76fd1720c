-- The calls of a run that remain once what was taken back is left out.
use Rattle.std.specs.Prelude.{◌≡◌, Bool, true, false, if◌then◌else◌, List, [], ◌∷◌, Ok, is_some}
use Rattle.rec_types.specs.History.{Change}
use Rattle.record_file.specs.Runs.{Called, Event, Begin, Commit}
use Rattle.record_file.specs.Undo.{old_record}

-- an accepted put, removal or claim
abbrev pub is_change : Called → Bool
is_change called = is_some (old_record called)

-- an accepted begin or commit
abbrev pub begins_or_commits : Called → Bool
begins_or_commits (Begin (Ok tx)) = true
begins_or_commits (Commit t (Ok done)) = true
begins_or_commits called = false

abbrev pub first_lives : List Change → Bool
first_lives [] = false
first_lives (d ∷ g) = d.live

abbrev pub past_first : List Change → List Change
past_first [] = []
past_first (d ∷ g) = g

-- whether a call remains, where g begins with what became of its change
abbrev pub remains : Called → List Change → Bool
remains called g = if is_change called then first_lives g else begins_or_commits called

abbrev pub front_if : Bool → Event → List Event → List Event
front_if true e es = e ∷ es
front_if false e es = es

-- The remaining calls of a run, where g is what became of its changes in the end: accepted begins,
-- accepted commits, and the accepted puts, removals and claims whose change is live.
abbrev pub remaining : List Event → List Change → List Event
remaining [] g = []
remaining (e ∷ es) g =
    front_if (remains e.called g) e
    (remaining es (if is_change e.called then past_first g else g))

-- nothing comes from outside: no device fails, and no memory is refused
abbrev pub NothingFails : List Event → Type 0
NothingFails [] = Unit {0}
NothingFails (e ∷ es) = (e.failed ≡ false) × (e.refused ≡ false) × NothingFails es
