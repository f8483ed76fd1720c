-- Records as the list of their bytes.
use Rattle.std.specs.Prelude.{ℕ, List, length, Result, Ok, Err, nat_lt, if◌then◌else◌}
use Rattle.rec_types.specs.Widths.{widest_record}
use Rattle.rec_types.specs.declared.record.RecordFault.{RecordFault}
use Rattle.rec_types.specs.declared.record.RecordFault.TheVariants.{TooLong}

-- the record of these bytes: at most 100 of them
abbrev pub record_of : List ℕ → Result (List ℕ) RecordFault
record_of bytes = if nat_lt widest_record (length bytes) then Err TooLong else Ok bytes
