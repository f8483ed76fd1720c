-- Keys as the list of their bytes.
use Rattle.std.specs.Prelude.{ℕ, List, length, Result, Ok, Err, nat_lt, ◌==◌, if◌then◌else◌}
use Rattle.rec_types.specs.Widths.{key_width}
use Rattle.rec_types.specs.declared.key.KeyFault.{KeyFault}
use Rattle.rec_types.specs.declared.key.KeyFault.TheVariants.{Empty, TooLong}

-- the key of these bytes: 1 to 16 of them, and else the first fault
abbrev pub key_of : List ℕ → Result (List ℕ) KeyFault
key_of bytes = if length bytes == 0 then Err Empty else (if nat_lt key_width (length bytes) then Err TooLong else Ok bytes)
