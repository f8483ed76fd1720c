-- What the live changes of a transaction write: keys with the record that is put there, or with none.
use Rattle.std.specs.Prelude.{ℕ, Bool, true, false, List, [], ◌∷◌, filter, Option, Some, None}
use Rattle.rec_types.specs.History.{Change, live_of}
use Rattle.tx_log.specs.Log.{key_of_record, new_of}
use Rattle.tx_log.specs.declared.log_record.LogRecord.{LogRecord}

-- a claim and what was taken back write nothing
abbrev pub writes_if : Bool → List ℕ → Option (Option (List ℕ)) → List (List ℕ × Option (List ℕ)) → List (List ℕ × Option (List ℕ))
writes_if true key (Some after) es = (key, after) ∷ es
writes_if true key None es = es
writes_if false key after es = es

abbrev pub writes : List Change → List (List ℕ × Option (List ℕ))
writes [] = []
writes (c ∷ h) = writes_if c.live c.key c.after (writes h)

-- the live changes of a transaction
abbrev pub own : ℕ → List Change → List Change
own t h = filter (live_of t) h

-- what updates and claims write
abbrev pub written_by : List LogRecord → List (List ℕ × Option (List ℕ))
written_by [] = []
written_by (u ∷ us) = writes_if true (key_of_record u) (new_of u) (written_by us)
