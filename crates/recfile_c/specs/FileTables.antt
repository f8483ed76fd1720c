-- A table of one of two kinds, as one table.
use Rattle.std.specs.Prelude.{ℕ, Bool, true, [], Option, Some, None}
use Rattle.rec_types.specs.Contents.{Contents}
use Rattle.rec_types.specs.Table.{Damages, no_damage}
use Rattle.rec_types.specs.declared.table_calls.TableCalls.{TableCalls}
use Rattle.rec_types.specs.declared.table_state.TableState.{Ghosts}
use Rattle.btree_delete.specs.Origins.{Origin, origin_of as table_origin}
use Rattle.btree_delete.specs.TableView.{table_contents}
use Rattle.recfile_c.specs.declared.file_table.FileTable.{FileTable}
use Rattle.recfile_c.specs.declared.file_table.FileTable.TheVariants.{Memory, Paged}

abbrev pub contents_in : FileTable → Contents
contents_in (Memory table) = table.contents
contents_in (Paged table) = table_contents table

abbrev pub limit_of : FileTable → ℕ
limit_of (Memory table) = table.limit
limit_of (Paged table) = table.limit

abbrev pub is_sound : FileTable → Bool
is_sound (Memory table) = true
is_sound (Paged table) = table.pages.steady

abbrev pub failures_in : FileTable → ℕ
failures_in (Memory table) = 0
failures_in (Paged table) = table.pages.failures

abbrev pub refusals_in : FileTable → ℕ
refusals_in (Memory table) = table.refusals
refusals_in (Paged table) = table.refusals

abbrev pub damages_of : FileTable → Damages
damages_of (Memory table) = no_damage
damages_of (Paged table) = table.damages

abbrev pub calls_of : FileTable → TableCalls
calls_of (Memory table) = table.calls
calls_of (Paged table) = table.calls

-- what a table in pages was made of
abbrev pub origin_in : FileTable → Option Origin
origin_in (Memory table) = None
origin_in (Paged table) = Some (table_origin table)

-- what contracts know of such a table; no commits are kept beside it
abbrev pub file_tables : Ghosts FileTable
file_tables = record { contents = contents_in; record_limit = limit_of; sound = is_sound; device_failures = failures_in; memory_refusals = refusals_in; damages = damages_of; calls = calls_of; Source = Option Origin; origin = origin_in; commits = λ _. []; doubt = λ _. [] }
