-- The names of what goes wrong with a page file.
use Rattle.std.specs.Prelude.{Bool, true, false, Option, Some, None, Result, Ok, Err}
use Rattle.page_journal.specs.declared.opening_fault.OpeningFault.{OpeningFault}
use Rattle.page_journal.specs.declared.opening_fault.OpeningFault.TheVariants as files
use Rattle.page_journal.specs.declared.recovery_fault.RecoveryFault.{RecoveryFault}
use Rattle.page_journal.specs.declared.recovery_fault.RecoveryFault.TheVariants as recovering
use Rattle.page_store.specs.declared.store_fault.StoreFault.{StoreFault}
use Rattle.page_store.specs.declared.store_fault.StoreFault.TheVariants as storing
use Rattle.page_store.specs.declared.page_edit.WriteFault.{WriteFault}
use Rattle.page_store.specs.declared.page_edit.WriteFault.TheVariants as closing
use Rattle.rec_types.specs.declared.table.TableFault.{TableFault}
use Rattle.rec_types.specs.declared.table.TableFault.TheVariants as listing
use Rattle.btree_delete.specs.declared.opening.open_fault.OpenFault.{OpenFault}
use Rattle.btree_delete.specs.declared.opening.open_fault.OpenFault.TheVariants as opening
use Rattle.btree_delete.specs.declared.table.tree_table.CreateFault.{CreateFault}
use Rattle.btree_delete.specs.declared.table.tree_table.CreateFault.TheVariants as making
use Rattle.file_session.specs.declared.overlaying.OverlayFault.{OverlayFault}
use Rattle.file_session.specs.declared.overlaying.OverlayFault.TheVariants as overlaying
use Rattle.file_session.specs.declared.file_fault.FileFault.{FileFault}
use Rattle.file_session.specs.declared.file_fault.FileFault.TheVariants.{Device, NotEmpty, BadLength, BadMagic, BadVersion, BadOrder, NotClean, BadHeader, Damaged, WrongCount, TooManyRecords, Memory, BadJournal, BadCommits}

abbrev pub fault_of_store : StoreFault → FileFault
fault_of_store storing.Failed = Device
fault_of_store storing.Memory = Memory

abbrev pub fault_of_recovery : RecoveryFault → FileFault
fault_of_recovery recovering.Device = Device
fault_of_recovery recovering.BadJournal = BadJournal

abbrev pub fault_of_files : OpeningFault → FileFault
fault_of_files files.Device = Device
fault_of_files files.BadJournal = BadJournal
fault_of_files files.BadCommits = BadCommits
fault_of_files files.Memory = Memory

abbrev pub fault_of_making : CreateFault → FileFault
fault_of_making making.BadOrder = BadOrder
fault_of_making making.Device = Device
fault_of_making making.NotEmpty = NotEmpty

abbrev pub fault_of_opening : OpenFault → FileFault
fault_of_opening opening.Device = Device
fault_of_opening opening.BadLength = BadLength
fault_of_opening opening.BadMagic = BadMagic
fault_of_opening (opening.BadVersion version) = BadVersion version
fault_of_opening opening.BadOrder = BadOrder
fault_of_opening opening.NotClean = NotClean
fault_of_opening opening.BadHeader = BadHeader
fault_of_opening (opening.Damaged page) = Damaged page
fault_of_opening opening.WrongCount = WrongCount
fault_of_opening opening.TooManyRecords = TooManyRecords
fault_of_opening opening.Memory = Memory

abbrev pub fault_of_closing : WriteFault → FileFault
fault_of_closing closing.Device = Device
fault_of_closing closing.Memory = Memory

-- a list never wants room
abbrev pub fault_of_listing : TableFault → FileFault
fault_of_listing listing.Device = Device
fault_of_listing (listing.Damaged page) = Damaged page
fault_of_listing listing.NoRoom = Damaged 0
fault_of_listing listing.Memory = Memory

-- what can't be put over a table of a log of commits
abbrev pub fault_of_overlay : OverlayFault → FileFault
fault_of_overlay overlaying.Line = BadCommits
fault_of_overlay (overlaying.Table listing.Device) = Device
fault_of_overlay (overlaying.Table (listing.Damaged page)) = Damaged page
fault_of_overlay (overlaying.Table listing.NoRoom) = TooManyRecords
fault_of_overlay (overlaying.Table listing.Memory) = Memory

-- what a store's answer to being closed is for a file
abbrev pub answer_of_store : Result (Unit {0}) StoreFault → Result (Unit {0}) FileFault
answer_of_store (Ok done) = Ok done
answer_of_store (Err fault) = Err (fault_of_store fault)

-- whether the device failed
abbrev pub is_file_device : FileFault → Bool
is_file_device Device = true
is_file_device fault = false

abbrev pub file_by_device : Option FileFault → Bool
file_by_device None = false
file_by_device (Some fault) = is_file_device fault

abbrev pub is_device_answer : {A : Type 0} → Result A FileFault → Bool
is_device_answer (Ok x) = false
is_device_answer (Err fault) = is_file_device fault

abbrev pub is_device_overlay : {A : Type 0} → Result A OverlayFault → Bool
is_device_overlay (Ok x) = false
is_device_overlay (Err fault) = is_file_device (fault_of_overlay fault)
