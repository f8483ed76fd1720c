-- How limits lie in their fields.
use Rattle.std.specs.Prelude.{◌≤◌}
use Rattle.rec_types.specs.LimitBounds.{Bounds, most_records, most_log_records, most_begins}
use Rattle.rec_types.specs.declared.limits.Limits.TheInside.{Inside}

abbrev pub bounds_of : Inside → Bounds
bounds_of l = record { records = l.records; log_records = l.log_records; begins = l.begins }

abbrev pub limit_fields_of : Bounds → Inside
limit_fields_of b = record { records = b.records; log_records = b.log_records; begins = b.begins }

pub record AreLimits (l : Inside) : Type 0 where
  pub some_records : 1 ≤ l.records
  pub most_records : l.records ≤ most_records
  pub some_log : 2 ≤ l.log_records
  pub most_log : l.log_records ≤ most_log_records
  pub some_begins : 1 ≤ l.begins
  pub most_begins : l.begins ≤ most_begins
