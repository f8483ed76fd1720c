-- How a short record lies in its fields.
use Rattle.std.specs.Prelude.{◌≡◌, ℕ, ◌≤◌, List, length, take}
use Rattle.rec_types.specs.Padded.{padded}
use Rattle.rec_types.specs.Taken.{length_taken}
use Rattle.rec_types.specs.Widths.{short_width}
use Rattle.rec_types.specs.declared.record.ShortRecord.TheInside.{Inside}

abbrev pub short_bytes_of : Inside → List ℕ
short_bytes_of r = take r.len r.bytes

pub record IsShortRecord (r : Inside) : Type 0 where
  pub most : r.len ≤ short_width
  pub whole : length r.bytes ≡ short_width
  pub zeros : padded short_width (take r.len r.bytes) ≡ r.bytes

abbrev pub short_fields_of : List ℕ → Inside
short_fields_of bytes = record { bytes = padded short_width bytes; len = length bytes }

pub short_fields_of_bytes : (r : Inside) → IsShortRecord r → short_fields_of (short_bytes_of r) ≡ r
short_fields_of_bytes r is i = record { bytes = is.zeros i; len = length_taken short_width r.len r.bytes is.most is.whole i }
