-- Which task the words after the program's name ask for, by what was found in them.
use Rattle.std.specs.Prelude.{◌≡◌, ◌≢◌, ◌⊎◌, ℕ, ◌<◌, ◌^◌, Bool, true, false, List, [], Option, Some, None, unwrap_or, codes}
use Rattle.std.specs.Str.Parse.{IsNumeral, digits_value, without_leading_plus}
use Rattle.clap.specs.Walk.{Row, first_of, one_of}
use Rattle.page_looks.specs.declared.shown.Drawing.{Drawing}
use Rattle.page_looks.specs.declared.shown.Drawing.TheVariants.{Lines as DrawnLines, Picture}
use Rattle.rec_types.specs.LimitBounds.{Bounds, most_records, most_log_records, most_begins}
use Rattle.record_texts.specs.declared.form.Form.{Form}
use Rattle.record_texts.specs.declared.form.Form.TheVariants.{Tsv, Csv, Json}
use Rattle.record_texts.specs.declared.reading.Separator.{Separator}
use Rattle.record_texts.specs.declared.reading.Separator.TheVariants.{Tab, Comma}
use Rattle.recfile.specs.declared.manner.Feed.{Feed}
use Rattle.recfile.specs.declared.manner.Feed.TheVariants.{Lines, Script}
use Rattle.recfile.specs.declared.manner.Manner.{Manner}
use Rattle.recfile.specs.declared.telling.Telling.{Telling}
use Rattle.recfile.specs.declared.telling.Telling.TheVariants.{Explanation, Tree}
use Rattle.recfile.specs.declared.words.Task.{Task}
use Rattle.recfile.specs.declared.words.Task.TheVariants as tasks

-- the number that was found, of so many bits, or the default where none was
abbrev pub IsRead : ℕ → Option (List ℕ) → ℕ → ℕ → Type 0
IsRead bits None default n = n ≡ default
IsRead bits (Some text) default n =
    IsNumeral 10 (without_leading_plus text) → digits_value 10 (without_leading_plus text) < 2 ^ bits → n ≡ digits_value 10 (without_leading_plus text)

abbrev pub AreAskedLimits : List Row → Bounds → Type 0
AreAskedLimits rows limits =
    IsRead 32 (one_of (codes "records") rows) most_records limits.records
    × IsRead 32 (one_of (codes "log") rows) most_log_records limits.log_records
    × IsRead 32 (one_of (codes "begins") rows) most_begins limits.begins

-- whether an option is set
pub record IsFlag (rows : List Row) (name : List ℕ) (is_set : Bool) : Type 0 where
  pub none : one_of name rows ≡ None → is_set ≡ false
  pub set : one_of name rows ≡ Some (codes "true") → is_set ≡ true
  pub unset : one_of name rows ≡ Some (codes "false") → is_set ≡ false

-- a manner: how lines come, and whether a refusal ends them
abbrev pub IsManner : List Row → Feed → Manner → Type 0
IsManner rows feed manner = (manner.feed ≡ feed) × IsFlag rows (codes "strict") manner.strict

-- the form of a dump: the first of its options that is set
abbrev pub IsForm : List Row → Option Form → Type 0
IsForm rows (Some Tsv) = IsFlag rows (codes "tsv") true
IsForm rows (Some Csv) = IsFlag rows (codes "tsv") false × IsFlag rows (codes "csv") true
IsForm rows (Some Json) = IsFlag rows (codes "tsv") false × IsFlag rows (codes "csv") false × IsFlag rows (codes "json") true
IsForm rows None = IsFlag rows (codes "tsv") false × IsFlag rows (codes "csv") false × IsFlag rows (codes "json") false

-- what separates the fields of the lines to be loaded
abbrev pub IsSeparator : List Row → Separator → Type 0
IsSeparator rows Comma = IsFlag rows (codes "csv") true
IsSeparator rows Tab = IsFlag rows (codes "csv") false

-- how a tree is to be drawn
abbrev pub IsDrawing : List Row → Drawing → Type 0
IsDrawing rows Picture = IsFlag rows (codes "svg") true
IsDrawing rows DrawnLines = IsFlag rows (codes "svg") false

-- the word of that name, or none
abbrev pub word_in : List ℕ → List Row → List ℕ
word_in name rows = unwrap_or (first_of name rows) []

abbrev pub path_in : List Row → List ℕ
path_in rows = word_in (codes "FILE") rows

-- none of the names of commands that have a file, or may have one
abbrev pub IsOther : List ℕ → Type 0
IsOther name =
    (name ≢ codes "create") × (name ≢ codes "run") × (name ≢ codes "shell") × (name ≢ codes "check") × (name ≢ codes "copy") × (name ≢ codes "dump") × (name ≢ codes "rescue") × (name ≢ codes "load")
    × (name ≢ codes "explain") × (name ≢ codes "show")

-- the name of the command by which a file is told of
abbrev pub IsTelling : List ℕ → List Row → Telling → Type 0
IsTelling name rows Explanation = name ≡ codes "explain"
IsTelling name rows (Tree drawing) = (name ≡ codes "show") × IsDrawing rows drawing

-- the task of a shell: a session over the file, or where there is none over an empty one
abbrev pub IsShell : List Row → Task → Type 0
IsShell rows (tasks.Create order path) = ⊥
IsShell rows (tasks.Run limits manner durable path) =
    AreAskedLimits rows limits × IsManner rows Lines manner × IsFlag rows (codes "durable") durable × (first_of (codes "FILE") rows ≡ Some path.now)
IsShell rows (tasks.Check path) = ⊥
IsShell rows (tasks.Copy path to) = ⊥
IsShell rows (tasks.Dump form path) = ⊥
IsShell rows (tasks.Rescue path) = ⊥
IsShell rows (tasks.Load separator limits path) = ⊥
IsShell rows (tasks.Tell telling path) = ⊥
IsShell rows (tasks.Memory limits manner) =
    AreAskedLimits rows limits × IsManner rows Lines manner × (first_of (codes "FILE") rows ≡ None)

-- the task of a command of that name, in which this was found: a session runs a script, but that of a shell, which runs
-- lines
abbrev pub IsNamed : List ℕ → List Row → Task → Type 0
IsNamed name rows (tasks.Create order path) =
    (name ≡ codes "create") × IsRead 16 (one_of (codes "order") rows) 16 order × (path.now ≡ path_in rows)
IsNamed name rows (tasks.Run limits manner durable path) =
    ((name ≡ codes "run") × AreAskedLimits rows limits × IsManner rows Script manner × IsFlag rows (codes "durable") durable × (path.now ≡ path_in rows))
    ⊎ ((name ≡ codes "shell") × IsShell rows (tasks.Run limits manner durable path))
IsNamed name rows (tasks.Check path) = (name ≡ codes "check") × (path.now ≡ path_in rows)
IsNamed name rows (tasks.Copy path to) = (name ≡ codes "copy") × (path.now ≡ path_in rows) × (to.now ≡ word_in (codes "TO") rows)
IsNamed name rows (tasks.Dump form path) = (name ≡ codes "dump") × IsForm rows form × (path.now ≡ path_in rows)
IsNamed name rows (tasks.Rescue path) = (name ≡ codes "rescue") × (path.now ≡ path_in rows)
IsNamed name rows (tasks.Load separator limits path) =
    (name ≡ codes "load") × IsSeparator rows separator × AreAskedLimits rows limits × (path.now ≡ path_in rows)
IsNamed name rows (tasks.Tell telling path) = IsTelling name rows telling × (path.now ≡ path_in rows)
IsNamed name rows (tasks.Memory limits manner) =
    (IsOther name × AreAskedLimits rows limits × IsManner rows Script manner)
    ⊎ ((name ≡ codes "shell") × IsShell rows (tasks.Memory limits manner))

-- with no command it is a script over an empty file of the greatest limits, and no refusal ends it
abbrev pub AsksFor : Option (List ℕ × List Row) → Task → Type 0
AsksFor None task = task ≡ tasks.Memory (record { records = most_records; log_records = most_log_records; begins = most_begins }) (record { strict = false; feed = Script })
AsksFor (Some found) task = IsNamed found.0 found.1 task
