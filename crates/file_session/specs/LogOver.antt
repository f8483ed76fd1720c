-- What an opening finds in a page file and in the log of commits beside it.
use Rattle.std.specs.Prelude.{◌≡◌, ◌⊎◌, ◌≤◌, ℕ, List, [], ◌∷◌, ◌++◌, length, map, Option, Some, None, codes}
use Rattle.std.specs.Fmt.{decimal}
use Rattle.std.specs.FinMap as maps
use Rattle.std.specs.List.{All, flat_map}
use Rattle.rec_types.specs.Contents.{Contents}
use Rattle.rec_types.specs.LimitBounds.{most_records}
use Rattle.btree_insert.specs.declared.tree.Tree.{Tree}
use Rattle.btree_delete.specs.TableView.{IsClosed}
use Rattle.commit_paper.specs.Text.{units_of}
use Rattle.page_journal.specs.Files.{PageFile, Files, Belongs, recovered}
use Rattle.page_journal.specs.Sums.{sum_of_all}
use Rattle.command_text.specs.Grammar.{Read}
use Rattle.command_text.specs.Script.{entries_in}
use Rattle.command_text.specs.Units.{Write}
use Rattle.command_text.specs.declared.command.Command.{Command}
use Rattle.record_file.specs.Durable.{overlay}
use Rattle.file_session.specs.Overlaid.{IsLogCommand, writes_said}

-- the first line of a log of commits: its version, how many pages the file had when the log was begun, and the sum over them
abbrev pub head_text : ℕ → ℕ → List ℕ
head_text pages sum = codes "commits 1 " ++ (decimal pages ++ 32 ∷ decimal sum)

-- of one that is begun beside this file
abbrev pub head_line : PageFile → List ℕ
head_line file = head_text (length file.pages) (sum_of_all file.pages)

-- a first line of this version
abbrev pub IsHead : List ℕ → Type 0
IsHead line = (rest : List ℕ) × (line ≡ codes "commits 1 " ++ rest)

-- what the commits behind it say
abbrev pub said_by : List (List (List ℕ)) → List (Read Command)
said_by units = flat_map entries_in units

-- the keys that commands write, in their order
abbrev pub keys_said : List (Read Command) → List (List ℕ)
keys_said entries = map (λ e. e.0) (writes_said entries)

-- what stands at the keys that these writes name, in their order
abbrev pub values_at : Contents → List Write → List (Option (List ℕ))
values_at m es = map (λ e. maps.get m e.0) es

-- commands of a log, put over these records, make those
abbrev pub SayOver : Contents → List (Read Command) → Contents → Type 0
SayOver under entries records = All IsLogCommand entries × (records ≡ overlay under (writes_said entries))

-- so do commits behind a first line; where that is the line of another file, they change nothing
pub record PutsOver (head : List ℕ) (under records : Contents) (first : List ℕ) (units : List (List (List ℕ))) : Type 0 where
  pub is_head : IsHead first
  pub say : SayOver under (said_by units) records
  pub tied : (first ≡ head) ⊎ (records ≡ under)

-- so does a whole log, whose first unit is that line
abbrev pub IsLogOver : List ℕ → Contents → Contents → List (List (List ℕ)) → Type 0
IsLogOver head under records [] = ⊥
IsLogOver head under records ([] ∷ units) = ⊥
IsLogOver head under records ((first ∷ []) ∷ units) = PutsOver head under records first units
IsLogOver head under records ((first ∷ next ∷ lines) ∷ units) = ⊥

-- and where there is none, the records are those of the file
abbrev pub FindsLog : List ℕ → Contents → Contents → Option (List ℕ) → Type 0
FindsLog head under records None = records ≡ under
FindsLog head under records (Some bytes) = IsLogOver head under records (units_of bytes)

-- a file of either version that is closed and has these records, in a tree of this order, and no more than so many
abbrev pub HoldsWithin : ℕ → ℕ → Contents → PageFile → Type 0
HoldsWithin limit order records file = (version : ℕ) × (tree : Tree) × (tree.order ≡ order) × IsClosed version file.pages file.tail tree records × (tree.count ≤ limit)

-- as many as a file may have
abbrev pub HoldsRecords : ℕ → Contents → PageFile → Type 0
HoldsRecords order records file = HoldsWithin most_records order records file

-- The records that an opening finds, in a tree of this order: those of the file that the files stand for, with what the log beside it says put over them.
pub record Finds (order : ℕ) (records : Contents) (c : Files) : Type 0 where
  pub belongs : Belongs c
  pub under : Contents
  pub holds : HoldsRecords order under (recovered c)
  pub log : FindsLog (head_line (recovered c)) under records c.commits.log
