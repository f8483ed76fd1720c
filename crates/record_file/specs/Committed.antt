-- The records without the transactions that haven't ended.
use Rattle.std.specs.Prelude.{ℕ, Bool, not, List, filter}
use Rattle.rec_types.specs.Contents.{Contents}
use Rattle.rec_types.specs.History.{Change, replay}
use Rattle.record_file.specs.Abstract.{File, open_of}

abbrev pub has_ended : (ℕ → Bool) → Change → Bool
has_ended is_open c = not (is_open c.tx)

-- the changes of transactions that have ended
abbrev pub ended : (ℕ → Bool) → List Change → List Change
ended is_open h = filter (has_ended is_open) h

-- The records with the changes of each transaction left out that hasn't ended. Of one that was aborted nothing is live.
abbrev pub committed : File → Contents
committed f = replay f.opening (ended (open_of f) f.history)
