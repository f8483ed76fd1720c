-- What the methods of a disk in files note.
use Rattle.std.specs.Prelude.{◌≡◌, true, Result}
use Rattle.rec_types.specs.Table.{counted}
use Rattle.page_store.specs.StoreFaults.{is_failed}
use Rattle.page_store.specs.declared.store_fault.StoreFault.{StoreFault}
use Rattle.page_journal.specs.FileEvents.{FileCall, FileHistory, with_noted}

-- a call was made and noted, and its failure counted
abbrev pub Notes : {A : Type 0} → FileCall → FileHistory → Result A StoreFault → FileHistory → Type 0
Notes call old result new = new ≡ record (with_noted old (is_failed result) call) { failures = counted old.failures (is_failed result) }

-- nothing was done, and the failure counted
abbrev pub Refuses : {A : Type 0} → FileHistory → Result A StoreFault → FileHistory → Type 0
Refuses old result new = (is_failed result ≡ true) × (new ≡ record old { failures = counted old.failures true })
