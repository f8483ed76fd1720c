-- Records as a script that puts them.
use Rattle.std.specs.Prelude.{◌≡◌, ℕ, ◌<◌, List, [], ◌∷◌, ◌++◌, map, Ok, codes}
use Rattle.std.specs.List.{All, flat_map}
use Rattle.rec_types.specs.Key.{key_of}
use Rattle.rec_types.specs.Record.{record_of}
use Rattle.command_text.specs.declared.command.Command.{Command}
use Rattle.command_text.specs.declared.command.Command.TheVariants as command
use Rattle.command_text.specs.Examples.{tx}
use Rattle.command_text.specs.Grammar.{Read}
use Rattle.command_text.specs.Texts.{escaped, line}

-- what puts a record at its key, without the line's end
abbrev pub put_text : List ℕ × List ℕ → List ℕ
put_text e = codes "put 1 " ++ escaped e.0 ++ codes " =" ++ escaped e.1

abbrev pub put_line : List ℕ × List ℕ → List ℕ
put_line e = line (put_text e)

-- a transaction that puts the records and commits
abbrev pub dump_text : List (List ℕ × List ℕ) → List ℕ
dump_text records = line (codes "begin") ++ flat_map put_line records ++ line (codes "commit 1")

abbrev pub put_of : List ℕ × List ℕ → Read Command
put_of e = Ok (command.Put (tx 1) e.0 e.1)

-- the same as commands
abbrev pub dump_commands : List (List ℕ × List ℕ) → List (Read Command)
dump_commands records = Ok command.Begin ∷ map put_of records ++ Ok (command.Commit (tx 1)) ∷ []

abbrev pub EachIsByte : List ℕ → Type 0
EachIsByte bytes = All (λ b. b < 256) bytes

-- a key and a record of bytes, each of a length that it may have
pub record CanBePut (e : List ℕ × List ℕ) : Type 0 where
  pub key_bytes : EachIsByte e.0
  pub key : key_of e.0 ≡ Ok e.0
  pub record_bytes : EachIsByte e.1
  pub value : record_of e.1 ≡ Ok e.1
