-- How a key lies in its fields.
use Rattle.std.specs.Prelude.{◌≡◌, ℕ, ◌<◌, ◌≤◌, List, length, take}
use Rattle.rec_types.specs.Padded.{padded}
use Rattle.rec_types.specs.Taken.{length_taken}
use Rattle.rec_types.specs.Widths.{key_width}
use Rattle.rec_types.specs.declared.key.Key.TheInside.{Inside}

abbrev pub key_bytes_of : Inside → List ℕ
key_bytes_of k = take k.len k.bytes

pub record IsKey (k : Inside) : Type 0 where
  pub some : 0 < k.len
  pub most : k.len ≤ key_width
  pub whole : length k.bytes ≡ key_width
  pub zeros : padded key_width (take k.len k.bytes) ≡ k.bytes

abbrev pub key_fields_of : List ℕ → Inside
key_fields_of bytes = record { bytes = padded key_width bytes; len = length bytes }

pub key_fields_of_bytes : (k : Inside) → IsKey k → key_fields_of (key_bytes_of k) ≡ k
key_fields_of_bytes k is i = record { bytes = is.zeros i; len = length_taken key_width k.len k.bytes is.most is.whole i }
