-- What is found at a path, and what a task of the program leaves of it.
use Rattle.std.specs.Prelude.{◌≡◌, ◌⊎◌, ℕ, ◌≤◌, Bool, true, false, List, length, Option, None, Result, Err, IsErr, IfSome, IfErr, OnOk, MatchOption, MatchResult, IsTrue}
use Rattle.std.specs.FinMap as maps
use Rattle.std.specs.Io.KnownBytes.{Appends}
use Rattle.rec_types.specs.Contents.{Contents}
use Rattle.rec_types.specs.LimitBounds.{Bounds}
use Rattle.rec_types.specs.Table.{counted}
use Rattle.page_store.specs.StoreCalls.{StaysStore}
use Rattle.page_store.specs.declared.store_state.StoreState.{Ghosts as StoreGhosts}
use Rattle.page_copy.specs.declared.copying.CopyFault.{CopyFault}
use Rattle.page_journal.specs.Files.{Files, Belongs, recovered}
use Rattle.page_journal.specs.declared.disk_state.DiskState.{Ghosts as DiskGhosts}
use Rattle.btree_node.specs.Layout.{second_version}
use Rattle.btree_insert.specs.declared.tree.Tree.{Tree}
use Rattle.btree_delete.specs.Created.{IsEmpty, IsOrder}
use Rattle.btree_delete.specs.TableView.{IsClosed}
use Rattle.record_texts.specs.declared.form.Form.{Form}
use Rattle.file_session.specs.Opened.{CanBeOpened, IsFirstOrOutside}
use Rattle.recfile.specs.Dumped.{DumpStops, Dumps, IsDumpFault, IsSilentInside, ReadingStops, text_in}
use Rattle.recfile.specs.Flushing.{InARow}
use Rattle.recfile.specs.FileFaults.{IsMakingFault, fault_of_copying}
use Rattle.file_session.specs.FileFaults.{is_file_device}
use Rattle.recfile.specs.Kept.{ClosesSafely, RunsOn}
use Rattle.file_session.specs.Closing.{IsOutsideDisk, IsUnopened, LeavesAs, LeavesOld}
use Rattle.file_session.specs.Settling.{SettlesAt}
use Rattle.recfile.specs.StoreWrites.{MakesIn}
use Rattle.recfile.specs.Streams.{CallsMade}
use Rattle.recfile.specs.TreeLine.{counts_in, counts_line}
use Rattle.recfile.specs.WholeSession.{EndsFile, opened_file}
use Rattle.recfile.specs.declared.copying.CopyingFault.{CopyingFault}
use Rattle.recfile.specs.declared.copying.CopyingFault.TheVariants.{OfFile, OfCopy}
use Rattle.recfile.specs.declared.dump.DumpFault.{DumpFault}
use Rattle.recfile.specs.declared.dump.DumpFault.TheVariants.{File}
use Rattle.file_session.specs.declared.file_fault.FileFault.{FileFault}
use Rattle.recfile.specs.declared.manner.Manner.{Manner}

-- these pages are the file of a path by itself: no side file stands beside it
pub record IsCleanAt (At : Files → Type 0) (pages : List (List ℕ)) (tail : ℕ) : Type 0 where
  pub files : Files
  pub at : At files
  pub main : files.main ≡ record { pages = pages; tail = tail }
  pub alone : files.side ≡ None

-- these pages are the file of a path, whatever stands beside it
abbrev pub IsFoundAt : (Files → Type 0) → List (List ℕ) → ℕ → Type 0
IsFoundAt At pages tail = (files : Files) × At files × (files.main ≡ record { pages = pages; tail = tail })

-- A session over a disk that was just opened, and what it leaves of what the reader has and the writer holds, of the
-- calls of both, of the disk, and as status. A crash at any moment of it leaves the old file or the one that the session closes.
pub record KeptSession {D : Type 0} (g : DiskGhosts D) (manner : Manner) (limits : Bounds)
    (left leaves held holds : Option (List ℕ)) (before after : CallsMade) (opened : D) (unopened unclosed : Option FileFault) (disk : D) (status : ℕ) : Type 0 where
  pub unread : IfSome unopened (λ _. (status ≡ 1) × (unclosed ≡ None) × (leaves ≡ left) × (holds ≡ held) × (after ≡ before))
  pub ran : unopened ≡ None → RunsOn g manner limits left leaves held holds before after unclosed status disk
  pub device : IfSome unopened (λ fault. g.failures disk ≡ counted (g.failures opened) (is_file_device fault))
  pub own : IsTrue (g.steady opened) → unopened ≡ None → Belongs (g.began opened)
  pub closed : IsTrue (g.steady opened) → unopened ≡ None → CanBeOpened (recovered (g.began opened)).pages (recovered (g.began opened)).tail limits.records
  pub first : IsTrue (g.steady opened) → IfSome unopened (IsUnopened (g.began opened) limits.records)
  pub untouched : IsTrue (g.steady opened) → IfSome unopened (λ _. LeavesAs g (g.began opened) disk)
  pub stopped : IsTrue (g.steady opened) → status ≡ 4 → LeavesOld g (recovered (g.began opened)) disk
  pub session : IsTrue (g.steady opened) → (tree : Tree) → (contents : Contents) → (version : ℕ)
      → IsClosed version (recovered (g.began opened)).pages (recovered (g.began opened)).tail tree contents → tree.count ≤ limits.records
      → MatchOption unopened (EndsFile manner left leaves held holds before after (opened_file contents limits (g.failures opened))
      (ClosesSafely g (recovered (g.began opened)) disk unclosed tree.order) unclosed status) (IsOutsideDisk (g.began opened))

-- sessions whose commits are kept before they are answered, each but the last ended by a flush; or one whose file is written when it is closed
abbrev pub SessionOf : {D : Type 0} → Bool → DiskGhosts D → Manner → Bounds → Option (List ℕ) → Option (List ℕ) → Option (List ℕ) → Option (List ℕ) → CallsMade → CallsMade → D → Option FileFault → Option FileFault → D → ℕ → Type 0
SessionOf false g manner limits left leaves held holds before after opened unopened unclosed disk status = KeptSession g manner limits left leaves held holds before after opened unopened unclosed disk status
SessionOf true g manner limits left leaves held holds before after opened unopened unclosed disk status = InARow g manner limits (record { disk = opened; left = left; held = held; calls = before }) (record { disk = disk; left = leaves; held = holds; calls = after }) unopened unclosed status

-- over the disk that was opened at a path, and put right
pub record RunsAt {D : Type 0} (g : DiskGhosts D) (At : Files → Type 0) (durable : Bool) (manner : Manner) (limits : Bounds)
    (left leaves held holds : Option (List ℕ)) (before after : CallsMade) (status : ℕ) : Type 0 where
  pub opened : D
  pub settles : SettlesAt g At opened
  pub unopened : Option FileFault
  pub unclosed : Option FileFault
  pub disk : D
  pub session : SessionOf durable g manner limits left leaves held holds before after opened unopened unclosed disk status

-- A text about the file that was opened to be read at a path. The text is whole only of a closed file within the limit,
-- and is Told of its tree and its records; else its fault says why. Nothing is written to the file.
pub record ReadsAt {S : Type 0} (g : StoreGhosts S) (At : Files → Type 0) (limit : ℕ) (Told : Tree → Contents → ℕ → Result (Unit {0}) DumpFault → Type 0)
    (held holds : Option (List ℕ)) (done : Result (Unit {0}) DumpFault) : Type 0 where
  pub opened : S
  pub found : IsTrue (g.steady opened) → IsCleanAt At (g.pages opened) (g.tail opened)
  pub store : S
  pub closed : IsTrue (g.steady opened) → OnOk done (CanBeOpened (g.pages opened) (g.tail opened) limit)
  pub first : IsTrue (g.steady opened) → IfErr done (IsDumpFault (g.pages opened) (g.tail opened) limit)
  pub silent : IsTrue (g.steady opened) → IfErr done (IsSilentInside held holds)
  pub told : IsTrue (g.steady opened) → (tree : Tree) → (contents : Contents) → (version : ℕ)
      → IsClosed version (g.pages opened) (g.tail opened) tree contents → tree.count ≤ limit
      → Told tree contents (length (g.pages opened)) done
  pub stays : StaysStore g opened store

-- the line of a check, or why it isn't whole
abbrev pub TellsTree : Option (List ℕ) → Option (List ℕ) → Tree → Contents → ℕ → Result (Unit {0}) DumpFault → Type 0
TellsTree held holds tree contents pages done =
    MatchResult done (λ _. Appends held holds (counts_line (counts_in tree contents pages)))
    (DumpStops held holds (counts_line (counts_in tree contents pages)))

-- the text of a dump, or why it isn't whole
abbrev pub TellsRecords : Option Form → Option (List ℕ) → Option (List ℕ) → Tree → Contents → ℕ → Result (Unit {0}) DumpFault → Type 0
TellsRecords form held holds tree contents pages done =
    MatchResult done (λ _. Dumps form held holds (maps.entries contents))
    (ReadingStops held holds (text_in form (maps.entries contents)))

-- An empty file was made at a path, and a tree of that order without records in it, or the fault says why not.
pub record MakesAt {S : Type 0} (g : StoreGhosts S) (order : ℕ) (made : Result (Unit {0}) FileFault) : Type 0 where
  pub empty : S
  pub was_empty : IsEmpty (g.pages empty) (g.tail empty)
  pub store : S
  pub closed : IsTrue (g.steady empty) → OnOk made ((tree : Tree) × (tree.order ≡ order)
      × IsClosed second_version (g.pages store) (g.tail store) tree maps.empty)
  pub of_order : OnOk made (IsOrder order)
  pub fault : IfErr made (IsMakingFault (g.pages empty) (g.tail empty) order)
  pub written : MakesIn g empty order made store

-- nothing was made at the path, or a file was
abbrev pub Creates : {S : Type 0} → StoreGhosts S → ℕ → Result (Unit {0}) FileFault → Type 0
Creates g order made = IsErr made ⊎ MakesAt g order made

-- no file is found at the path and nothing is written, or a text tells of it
abbrev pub TellsOfFile : {S : Type 0} → StoreGhosts S → (Files → Type 0) → ℕ → (Tree → Contents → ℕ → Result (Unit {0}) DumpFault → Type 0) → Option (List ℕ) → Option (List ℕ) → Result (Unit {0}) DumpFault → Type 0
TellsOfFile g At limit Told held holds done =
    ((fault : FileFault) × (done ≡ Err (File fault)) × (holds ≡ held)) ⊎ ReadsAt g At limit Told held holds done

-- why no copy was made: the file's first check that fails, or a fault from outside; or one of the copy, where the file is whole
abbrev pub IsCopyingFault : List (List ℕ) → ℕ → ℕ → CopyingFault → Type 0
IsCopyingFault stored tail limit (OfFile fault) = IsFirstOrOutside stored tail limit fault
IsCopyingFault stored tail limit (OfCopy fault) = CanBeOpened stored tail limit

abbrev pub IsOfCopy : CopyingFault → Type 0
IsOfCopy (OfFile fault) = ⊥
IsOfCopy (OfCopy fault) = Unit {0}

-- a fault of the copy, or that of the copying of its pages
abbrev pub IsOfCopying : Result (Unit {0}) CopyFault → CopyingFault → Type 0
IsOfCopying copied fault = IsOfCopy fault ⊎ ((why : CopyFault) × (copied ≡ Err why) × (fault ≡ fault_of_copying why))

-- a store with the pages of another
abbrev pub IsCopyOf : {S : Type 0} → StoreGhosts S → S → S → Type 0
IsCopyOf g old copy = (g.pages copy ≡ g.pages old) × (g.tail copy ≡ g.tail old)

-- A copy of the file that was opened to be read at a path. There is one only of a closed file within the limit, and it has
-- the same pages. Nothing is written to the file.
pub record CopiesAt {S : Type 0} (g : StoreGhosts S) (At : Files → Type 0) (limit : ℕ) (done : Result (Unit {0}) CopyingFault) : Type 0 where
  pub opened : S
  pub found : IsTrue (g.steady opened) → IsCleanAt At (g.pages opened) (g.tail opened)
  pub closed : IsTrue (g.steady opened) → OnOk done (CanBeOpened (g.pages opened) (g.tail opened) limit)
  pub copied : OnOk done ((copy : S) × (IsTrue (g.steady opened) → IsTrue (g.steady copy) → IsCopyOf g opened copy))
  pub fault : IsTrue (g.steady opened) → IfErr done (IsCopyingFault (g.pages opened) (g.tail opened) limit)
  pub store : S
  pub stays : StaysStore g opened store

-- no file is found at the path, or a copy of it is made
abbrev pub Copies : {S : Type 0} → StoreGhosts S → (Files → Type 0) → ℕ → Result (Unit {0}) CopyingFault → Type 0
Copies g At limit done = ((fault : FileFault) × (done ≡ Err (OfFile fault))) ⊎ CopiesAt g At limit done
