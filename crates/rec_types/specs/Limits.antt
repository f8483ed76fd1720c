-- Which numbers are limits.
use Rattle.std.specs.Prelude.{ℕ, Result, Ok, Err, nat_lt, ◌||◌, if◌then◌else◌}
use Rattle.rec_types.specs.LimitBounds.{Bounds, most_records, most_log_records, most_begins}
use Rattle.rec_types.specs.declared.limits.LimitFault.{LimitFault}
use Rattle.rec_types.specs.declared.limits.LimitFault.TheVariants.{Records, Log, Begins}

-- the limits of these numbers, and else the first fault
abbrev pub limits_of : ℕ → ℕ → ℕ → Result Bounds LimitFault
limits_of records log_records begins =
    if nat_lt records 1 || nat_lt most_records records then Err Records
    else (if nat_lt log_records 2 || nat_lt most_log_records log_records then Err Log
    else (if nat_lt begins 1 || nat_lt most_begins begins then Err Begins
    else Ok (record { records = records; log_records = log_records; begins = begins })))
