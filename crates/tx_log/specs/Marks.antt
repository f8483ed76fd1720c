-- What is kept beside each record of a log. Both lists stand newest first.
use Rattle.std.specs.Prelude.{◌≡◌, ℕ, ◌≤◌, List, [], ◌∷◌, length, reverse}
use Rattle.tx_log.specs.Walks.{absent_at}
use Rattle.tx_log.specs.Log.{lsn_of, key_of_record, leads_to, led, tells_change, chain, IsNumbered}
use Rattle.tx_log.specs.declared.log_record.LogRecord.{LogRecord}
use Rattle.tx_log.specs.declared.mark.Mark.{Mark}

-- the number of the first, and 0 where there is none
abbrev pub first_lsn : List LogRecord → ℕ
first_lsn [] = 0
first_lsn (u ∷ us) = lsn_of u

-- the mark of a record above others: the newest live change on the way down from it, and whether the live changes
-- below it leave its key absent
pub record IsMarked (r : LogRecord) (rs : List LogRecord) (m : Mark) : Type 0 where
  pub newest : m.newest ≡ first_lsn (led (tells_change r) r (chain rs (leads_to r)))
  pub absent : m.absent ≡ absent_at (key_of_record r) (chain rs (leads_to r))

abbrev pub AreMarked : List LogRecord → List Mark → Type 0
AreMarked [] [] = Unit {0}
AreMarked [] (m ∷ ms) = ⊥
AreMarked (r ∷ rs) [] = ⊥
AreMarked (r ∷ rs) (m ∷ ms) = IsMarked r rs m × AreMarked rs ms

-- a way down may begin at record «from» of a log: its records are numbered, and each has its mark
pub record CanWalk (log : List LogRecord) (marks : List Mark) (from : ℕ) : Type 0 where
  pub numbered : IsNumbered (reverse log)
  pub marked : AreMarked (reverse log) (reverse marks)
  pub within : from ≤ length log
