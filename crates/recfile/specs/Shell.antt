-- The run of lines each of which is answered before more is read.
use Rattle.std.specs.Prelude.{◌≡◌, ℕ, ◌+◌, ◌≤◌, Bool, true, false, min, List, [], ◌∷◌, ◌++◌, length, Option, Result, Ok, Err, None, ◌⊎◌, IsTrue, if◌then◌else◌, codes}
use Rattle.std.specs.FinMap as maps
use Rattle.std.specs.List.{flat_map, slice_split}
use Rattle.std.specs.Io.KnownBytes.{Appends, Consumes, IsAtEnd}
use Rattle.record_file.specs.Runs.{Seen}
use Rattle.command_text.specs.declared.reply.Reply.{Reply}
use Rattle.command_text.specs.declared.command.Command.{Command}
use Rattle.command_text.specs.Grammar.{Read}
use Rattle.command_text.specs.Refusals.{is_refusal}
use Rattle.command_text.specs.Script.{HasNoLf, bounded_entries_in, bounded_line_of, ended_lines, is_lf, lines_of}
use Rattle.command_text.specs.Texts.{text_of}
use Rattle.recfile.specs.declared.script.ScriptFault.TheVariants as faults
use Rattle.recfile.specs.declared.script.RunFault.{RunFault}
use Rattle.recfile.specs.declared.script.RunFault.TheVariants.{Script, Refused, Flush}
use Rattle.recfile.specs.declared.shell.Counts.{Counts}
use Rattle.recfile.specs.PartLine.{IsPartOfLine, Part, no_part}
use Rattle.recfile.specs.Run.{AcceptedIf, IsUnsent, LineHasReply, Session, commands}

-- the greatest number of 32 bits
abbrev pub greatest_number : ℕ
greatest_number = 4294967295

-- a count of 32 bits stays at its greatest number
abbrev pub counted_to : ℕ → ℕ
counted_to n = min n greatest_number

-- the most reads that are made, of 64 bits
abbrev pub most_reads : ℕ
most_reads = 18446744073709551615

-- The lines that have come from a reader: all, where it is at its end, and else those that have their LF.
pub record Come (left leaves : Option (List ℕ)) (ended : Bool) (lines : List (List ℕ)) : Type 0 where
  pub taken : List ℕ
  pub consumed : Consumes left leaves taken
  pub are : lines ≡ (if ended then lines_of taken else ended_lines taken)
  pub end : IsTrue ended → IsAtEnd leaves

-- These lines were run, and the replies to all of them are written; none is a refusal where that would end the run.
pub record LinesAnswered (strict : Bool) (held holds : Option (List ℕ)) (old : Seen) (lines : List (List ℕ)) (new : Seen) : Type 0 where
  pub replies : List Reply
  pub ran : Session old (bounded_entries_in lines) replies new
  pub written : Appends held holds (flat_map text_of replies)
  pub accepted : AcceptedIf strict replies

-- Where a run began: what its reader had, what its writer held, and the file; and whether a refusal ends it.
pub record Start : Type 0 where
  pub strict : Bool
  pub left : Option (List ℕ)
  pub held : Option (List ℕ)
  pub old : Seen

-- Of what the reader has given since, each line that has its LF is answered.
pub record IsAnswered (start : Start) (leaves holds : Option (List ℕ)) : Type 0 where
  pub lines : List (List ℕ)
  pub come : Come start.left leaves false lines
  pub new : Seen
  pub answered : LinesAnswered start.strict start.held holds start.old lines new

-- Whatever bytes follow these, they are these lines, each with its LF, and the beginning of one.
pub record Fed (taken : List ℕ) (passed : List (List ℕ)) (begun : List ℕ) : Type 0 where
  pub split : (more : List ℕ) → slice_split is_lf (taken ++ more) ≡ passed ++ slice_split is_lf (begun ++ more)
  pub unended : HasNoLf begun

-- Of these bytes each line that has its LF is answered, and what follows the last LF is kept; so many commands and lines
-- were counted.
pub record AnsweredSoFar (strict : Bool) (held holds : Option (List ℕ)) (old new : Seen) (taken : List ℕ) (part : Part) (counts : Counts) : Type 0 where
  pub passed : List (List ℕ)
  pub begun : List ℕ
  pub fed : Fed taken passed begun
  pub kept : IsPartOfLine part begun
  pub answered : LinesAnswered strict held holds old passed new
  pub done : counts.done ≡ counted_to (commands (bounded_entries_in passed))
  pub number : counts.lines ≡ counted_to (length passed)

-- what became of a line: it says nothing, or its reply is written, and isn't a refusal that ends the run
abbrev pub LineAnswered : Bool → Option (List ℕ) → Option (List ℕ) → Seen → Read (Option Command) → Seen → Type 0
LineAnswered strict held holds old said new =
    ((said ≡ Ok None) × (new ≡ old) × (holds ≡ held))
    ⊎ ((reply : Reply) × LineHasReply old said reply new × Appends held holds (text_of reply) × (IsTrue strict → is_refusal reply ≡ false))

-- a line ends the run: its reply couldn't be made or written, by which so many commands were run; or it is a refusal,
-- and is written, to the line of this number
abbrev pub LineStops : Bool → Option (List ℕ) → Option (List ℕ) → Seen → Read (Option Command) → Seen → ℕ → ℕ → RunFault → Type 0
LineStops strict held holds old said new done number (Script fault) =
    (reply : Reply) × LineHasReply old said reply new × IsUnsent held holds done (text_of reply) fault
LineStops strict held holds old said new done number (Refused line) =
    (reply : Reply) × LineHasReply old said reply new × Appends held holds (text_of reply)
    × IsTrue strict × (is_refusal reply ≡ true) × (line ≡ number)
LineStops strict held holds old said new done number Flush = ⊥

-- The lines before a line are answered, that line ended the run, and no line after it was run. Lines are counted from 1,
-- with those that say nothing.
pub record StopsAtLine (strict : Bool) (held holds : Option (List ℕ)) (old new : Seen) (lines : List (List ℕ)) (fault : RunFault) : Type 0 where
  pub before : List (List ℕ)
  pub line : List ℕ
  pub after : List (List ℕ)
  pub split : lines ≡ before ++ line ∷ after
  pub mid : Seen
  pub between : Option (List ℕ)
  pub answered : LinesAnswered strict held between old before mid
  pub stops : LineStops strict between holds mid (bounded_line_of line) new (counted_to (commands (bounded_entries_in (before ++ line ∷ [])))) (counted_to (length before + 1)) fault

-- the line of a session by which it asks for a flush
abbrev pub flush_line : List ℕ
flush_line = codes "flush" ++ 10 ∷ []

-- Where commits are kept and no transaction is open, the bytes that come next are that line.
pub record AsksFlush (logged : Bool) (many : ℕ) (part : Part) (bytes : List ℕ) : Type 0 where
  pub kept : logged ≡ true
  pub none : many ≡ 0
  pub begins : part ≡ no_part
  pub line : bytes ≡ flush_line

-- A flush was asked for, where commits are kept and no transaction is open: each line before is answered, and nothing behind was taken.
pub record StopsAtFlush (strict : Bool) (left leaves held holds : Option (List ℕ)) (old new : Seen) : Type 0 where
  pub taken : List ℕ
  pub lines : List (List ℕ)
  pub consumed : Consumes left leaves (taken ++ flush_line)
  pub are : Fed taken lines []
  pub answered : LinesAnswered strict held holds old lines new
  pub kept : new.logged ≡ true
  pub none : maps.len new.file.txs ≡ 0

-- Why no more was read, by which each line that had its LF was answered: a read failed; there were too many; there was no
-- memory to begin with, and nothing was read; or a line asked for a flush.
abbrev pub ReadsEnd : Bool → Option (List ℕ) → Option (List ℕ) → Option (List ℕ) → Option (List ℕ) → Seen → Seen → RunFault → Type 0
ReadsEnd strict left leaves held holds old new (Script faults.ReadFault) =
    (lines : List (List ℕ)) × Come left leaves false lines × LinesAnswered strict held holds old lines new
ReadsEnd strict left leaves held holds old new (Script faults.ScriptTooLong) =
    (lines : List (List ℕ)) × (come : Come left leaves false lines) × LinesAnswered strict held holds old lines new × (most_reads ≤ length come.taken)
ReadsEnd strict left leaves held holds old new (Script (faults.Memory done)) =
    (done ≡ 0) × (leaves ≡ left) × (holds ≡ held) × (new ≡ old)
ReadsEnd strict left leaves held holds old new (Script (faults.WriteFault done)) = ⊥
ReadsEnd strict left leaves held holds old new (Refused line) = ⊥
ReadsEnd strict left leaves held holds old new Flush = StopsAtFlush strict left leaves held holds old new

-- What became of the lines that a reader has: all were run, so many commands; or reading ended before; or a line ended
-- the run.
abbrev pub RanLines : Bool → Option (List ℕ) → Option (List ℕ) → Option (List ℕ) → Option (List ℕ) → Seen → Seen → Result ℕ RunFault → Type 0
RanLines strict left leaves held holds old new (Ok done) =
    (lines : List (List ℕ)) × Come left leaves true lines × LinesAnswered strict held holds old lines new × (done ≡ counted_to (commands (bounded_entries_in lines)))
RanLines strict left leaves held holds old new (Err fault) =
    ReadsEnd strict left leaves held holds old new fault
    ⊎ ((ended : Bool) × (lines : List (List ℕ)) × Come left leaves ended lines × StopsAtLine strict held holds old new lines fault)
