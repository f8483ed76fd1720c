-- What a commit writes, as a script of its own.
use Rattle.std.specs.Prelude.{ℕ, List, [], ◌∷◌, ◌++◌, map, Option, Some, None, unwrap_or, Ok, codes}
use Rattle.std.specs.Fmt.{decimal}
use Rattle.commit_paper.specs.Text.{line_text}
use Rattle.command_text.specs.declared.command.Command.{Command}
use Rattle.command_text.specs.declared.command.Command.TheVariants as command
use Rattle.command_text.specs.Dump.{CanBePut}
use Rattle.command_text.specs.Examples.{tx}
use Rattle.command_text.specs.Grammar.{Read}
use Rattle.command_text.specs.Texts.{escaped}

-- a key with the record that is put at it, or with none where it is taken out
abbrev pub Write : Type 0
Write = List ℕ × Option (List ℕ)

-- the line that puts a record or takes a key out in the transaction of that number
abbrev pub change_text : ℕ → List ℕ → Option (List ℕ) → List ℕ
change_text n key (Some value) = codes "put " ++ (decimal n ++ 32 ∷ (escaped key ++ 32 ∷ 61 ∷ escaped value))
change_text n key None = codes "del " ++ (decimal n ++ 32 ∷ escaped key)

abbrev pub write_text : ℕ → Write → List ℕ
write_text n w = change_text n w.0 w.1

-- that line with its end
abbrev pub write_line : ℕ → Write → List ℕ
write_line n w = line_text (write_text n w)

abbrev pub commit_text : ℕ → List ℕ
commit_text n = codes "commit " ++ decimal n

-- a transaction that makes the writes and commits
abbrev pub unit_lines : ℕ → List Write → List (List ℕ)
unit_lines n writes = codes "begin" ∷ (map (write_text n) writes ++ commit_text n ∷ [])

-- the same as commands
abbrev pub change_command : ℕ → List ℕ → Option (List ℕ) → Command
change_command n key (Some value) = command.Put (tx n) key value
change_command n key None = command.Del (tx n) key

abbrev pub write_command : ℕ → Write → Command
write_command n w = change_command n w.0 w.1

abbrev pub unit_commands : ℕ → List Write → List (Read Command)
unit_commands n writes = Ok command.Begin ∷ (map (λ w. Ok (write_command n w)) writes ++ Ok (command.Commit (tx n)) ∷ [])

-- a key and a record of bytes, each of a length that it may have
abbrev pub CanBeWritten : Write → Type 0
CanBeWritten w = CanBePut (w.0, unwrap_or w.1 [])
