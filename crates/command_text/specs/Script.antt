-- The lines of a script, and what they say.
use Rattle.std.specs.Prelude.{◌≡◌, ℕ, Bool, false, ◌==◌, nat_lt, if◌then◌else◌, List, [], ◌∷◌, length, Option, Some, None, Ok, Err}
use Rattle.std.specs.List.{All, slice_split}
use Rattle.command_text.specs.declared.command.Command.{Command}
use Rattle.command_text.specs.declared.command.LineFault.TheVariants.{LineTooLong}
use Rattle.command_text.specs.Grammar.{Read, is_word, line_of}

abbrev pub is_lf : ℕ → Bool
is_lf b = b == 10

-- what follows the last LF is a line where it has a byte
abbrev pub without_empty_last : List (List ℕ) → List (List ℕ)
without_empty_last [] = []
without_empty_last (last ∷ []) = if is_word last then last ∷ [] else []
without_empty_last (line ∷ next ∷ rest) = line ∷ without_empty_last (next ∷ rest)

-- the lines of a script, cut at each LF
abbrev pub lines_of : List ℕ → List (List ℕ)
lines_of script = without_empty_last (slice_split is_lf script)

-- a line that says nothing has no entry
abbrev pub keep : Read (Option Command) → List (Read Command) → List (Read Command)
keep (Ok None) rest = rest
keep (Ok (Some c)) rest = Ok c ∷ rest
keep (Err fault) rest = Err fault ∷ rest

abbrev pub entries_by : (List ℕ → Read (Option Command)) → List (List ℕ) → List (Read Command)
entries_by says [] = []
entries_by says (line ∷ rest) = keep (says line) (entries_by says rest)

-- what the lines of a script say, each of which may have any length
abbrev pub entries_in : List (List ℕ) → List (Read Command)
entries_in lines = entries_by line_of lines

-- the commands of a script in order, with the fault of each line that can't be read in its place
abbrev pub commands_of : List ℕ → List (Read Command)
commands_of script = entries_in (lines_of script)

abbrev pub HasNoLf : List ℕ → Type 0
HasNoLf text = All (λ b. is_lf b ≡ false) text

abbrev pub without_last : List (List ℕ) → List (List ℕ)
without_last [] = []
without_last (last ∷ []) = []
without_last (line ∷ next ∷ rest) = line ∷ without_last (next ∷ rest)

-- the lines of a text that have their LF
abbrev pub ended_lines : List ℕ → List (List ℕ)
ended_lines text = without_last (slice_split is_lf text)

-- the bytes of the longest line, where lines have a bound
abbrev pub longest_line : ℕ
longest_line = 65536

-- what a line says then
abbrev pub bounded_line_of : List ℕ → Read (Option Command)
bounded_line_of line = if nat_lt longest_line (length line) then Err LineTooLong else line_of line

abbrev pub bounded_entries_in : List (List ℕ) → List (Read Command)
bounded_entries_in lines = entries_by bounded_line_of lines
