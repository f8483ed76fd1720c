-- What a dump of a page file writes, and why there is none.
use Rattle.std.specs.Prelude.{◌≡◌, ℕ, ◌<◌, ◌⊎◌, Bool, false, List, length, take, Option, Some, None, Result, Ok, Err}
use Rattle.std.specs.List.{All}
use Rattle.std.specs.Io.KnownBytes.{Appends}
use Rattle.rec_types.specs.declared.table.TableFault.{TableFault}
use Rattle.command_text.specs.Dump.{dump_text, CanBePut}
use Rattle.record_texts.specs.Forms.{records_text}
use Rattle.record_texts.specs.declared.form.Form.{Form}
use Rattle.file_session.specs.FileFaults.{fault_of_listing, is_file_device}
use Rattle.recfile.specs.declared.dump.DumpFault.{DumpFault}
use Rattle.recfile.specs.declared.dump.DumpFault.TheVariants.{File, Write}
use Rattle.file_session.specs.declared.file_fault.FileFault.{FileFault}
use Rattle.file_session.specs.Opened.{CanBeOpened, IsFirstOrOutside, IsOutsideFile}

-- whether the device failed
abbrev pub is_device_dump : {A : Type 0} → Result A DumpFault → Bool
is_device_dump (Ok x) = false
is_device_dump (Err (File fault)) = is_file_device fault
is_device_dump (Err Write) = false

-- it isn't the writer that failed
abbrev pub IsFileFault : DumpFault → Type 0
IsFileFault (File fault) = Unit {0}
IsFileFault Write = ⊥

-- the text isn't written where the file has a fault, and not whole where the writer has one
abbrev pub IsDumpFault : List (List ℕ) → ℕ → ℕ → DumpFault → Type 0
IsDumpFault stored tail limit (File fault) = IsFirstOrOutside stored tail limit fault
IsDumpFault stored tail limit Write = CanBeOpened stored tail limit

-- nothing is written where the file has a fault
abbrev pub IsSilent : Option (List ℕ) → Option (List ℕ) → DumpFault → Type 0
IsSilent held holds (File fault) = holds ≡ held
IsSilent held holds Write = Unit {0}

-- the text of records in a form, or as a script
abbrev pub text_in : Option Form → List (List ℕ × List ℕ) → List ℕ
text_in None records = dump_text records
text_in (Some form) records = records_text form records

-- records are such as the lines of a script can say, where they are written as one
abbrev pub AreSaidIn : Option Form → List (List ℕ × List ℕ) → Type 0
AreSaidIn None records = All CanBePut records
AreSaidIn (Some form) records = Unit {0}

-- the records are written in a form, or as a script, whose lines can say them
abbrev pub Dumps : Option Form → Option (List ℕ) → Option (List ℕ) → List (List ℕ × List ℕ) → Type 0
Dumps form held holds records = Appends held holds (text_in form records) × AreSaidIn form records

-- a fault of the listing of records
abbrev pub IsOfListing : FileFault → Type 0
IsOfListing fault = (late : TableFault) × (fault ≡ fault_of_listing late)

-- a front of the text is written, and not all of it
abbrev pub IsPartWritten : Option (List ℕ) → Option (List ℕ) → List ℕ → Type 0
IsPartWritten held holds text = (sent : ℕ) × (sent < length text) × Appends held holds (take sent text)

-- the fault is from outside, or the writer's, and then a front of the text is written
abbrev pub DumpStops : Option (List ℕ) → Option (List ℕ) → List ℕ → DumpFault → Type 0
DumpStops held holds text (File fault) = IsOutsideFile fault
DumpStops held holds text Write = IsPartWritten held holds text

-- the same of a text that is written while the file is read: a front of it may be written at a fault from outside too
abbrev pub ReadingStops : Option (List ℕ) → Option (List ℕ) → List ℕ → DumpFault → Type 0
ReadingStops held holds text (File fault) = IsOutsideFile fault × ((holds ≡ held) ⊎ IsPartWritten held holds text)
ReadingStops held holds text Write = IsPartWritten held holds text

-- nothing is written where the file has a fault that isn't from outside
abbrev pub IsSilentInside : Option (List ℕ) → Option (List ℕ) → DumpFault → Type 0
IsSilentInside held holds (File fault) = IsOutsideFile fault ⊎ (holds ≡ held)
IsSilentInside held holds Write = Unit {0}
