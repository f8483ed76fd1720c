-- What a log of commits says over the records of a table.
use Rattle.std.specs.Prelude.{◌≡◌, List, ℕ, [], ◌∷◌, Option, Some, None, Ok}
use Rattle.std.specs.List.{flat_map}
use Rattle.command_text.specs.declared.command.Command.TheVariants as command
use Rattle.command_text.specs.Grammar.{Read}
use Rattle.command_text.specs.Script.{entries_in, keep}
use Rattle.command_text.specs.Units.{Write, unit_commands}
use Rattle.command_text.specs.declared.command.Command.{Command}

-- what a command writes: a record at a key, or none
abbrev pub write_said : Read Command → List (List ℕ × Option (List ℕ))
write_said (Ok (command.Put t x r)) = (x, Some r) ∷ []
write_said (Ok (command.Del t x)) = (x, None) ∷ []
write_said entry = []

-- what commands write, one after another
abbrev pub writes_said : List (Read Command) → List (List ℕ × Option (List ℕ))
writes_said entries = flat_map write_said entries

-- a command that a log of commits may have
abbrev pub IsLogCommand : Read Command → Type 0
IsLogCommand (Ok command.Begin) = Unit {0}
IsLogCommand (Ok (command.Put t x r)) = Unit {0}
IsLogCommand (Ok (command.Del t x)) = Unit {0}
IsLogCommand (Ok (command.Commit t)) = Unit {0}
IsLogCommand entry = ⊥

-- what a line says: one command, none, or that it can't be read
abbrev pub line_entries : Read (Option Command) → List (Read Command)
line_entries said = keep said []

-- Units of a log that say these writes, each in a transaction of some number.
abbrev pub SayWrites : List (List (List ℕ)) → List (List Write) → Type 0
SayWrites [] [] = Unit {0}
SayWrites (unit ∷ units) (es ∷ kept) = (n : ℕ) × (entries_in unit ≡ unit_commands n es) × SayWrites units kept
SayWrites units kept = ⊥

-- the writes of units, one after another
abbrev pub writes_in_turn : List (List Write) → List Write
writes_in_turn kept = flat_map (λ es. es) kept
