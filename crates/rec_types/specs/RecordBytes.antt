-- How a record lies in its fields.
use Rattle.std.specs.Prelude.{◌≡◌, ℕ, ◌≤◌, List, length, take}
use Rattle.rec_types.specs.Padded.{padded}
use Rattle.rec_types.specs.Taken.{length_taken}
use Rattle.rec_types.specs.Widths.{widest_record}
use Rattle.rec_types.specs.declared.record.Record.TheInside.{Inside}

abbrev pub record_bytes_of : Inside → List ℕ
record_bytes_of r = take r.len r.bytes

pub record IsRecord (r : Inside) : Type 0 where
  pub most : r.len ≤ widest_record
  pub whole : length r.bytes ≡ widest_record
  pub zeros : padded widest_record (take r.len r.bytes) ≡ r.bytes

abbrev pub record_fields_of : List ℕ → Inside
record_fields_of bytes = record { bytes = padded widest_record bytes; len = length bytes }

pub record_fields_of_bytes : (r : Inside) → IsRecord r → record_fields_of (record_bytes_of r) ≡ r
record_fields_of_bytes r is i = record { bytes = is.zeros i; len = length_taken widest_record r.len r.bytes is.most is.whole i }
