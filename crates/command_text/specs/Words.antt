-- Cutting words off a line, and the bytes of a word.
use Rattle.std.specs.Prelude.{◌≡◌, ℕ, Bool, false, ◌==◌, List, [], ◌∷◌, Ok, Err}
use Rattle.percent_encoding.specs.Percent.{percent_decode}
use Rattle.rec_types.specs.Key.{key_of}
use Rattle.rec_types.specs.Record.{record_of}
use Rattle.command_text.specs.declared.command.LineFault.TheVariants.{KeyTooLong, RecordTooLong}
use Rattle.command_text.specs.Grammar.{Read, or_fault, is_space}

-- nothing, or a byte first that is no space
abbrev pub StartsWord : List ℕ → Type 0
StartsWord [] = Unit {0}
StartsWord (b ∷ bs) = is_space b ≡ false

-- the byte with which an escape begins
abbrev pub is_percent : ℕ → Bool
is_percent b = b == 37

-- a key or a record of the bytes themselves
abbrev pub key_from : List ℕ → Read (List ℕ)
key_from bytes = or_fault KeyTooLong (key_of bytes)

abbrev pub record_from : List ℕ → Read (List ℕ)
record_from bytes = or_fault RecordTooLong (record_of bytes)

-- the record of the escaped bytes after a mark
abbrev pub record_after : Read (List ℕ) → Read (List ℕ)
record_after (Ok escaped) = record_from (percent_decode escaped)
record_after (Err fault) = Err fault
