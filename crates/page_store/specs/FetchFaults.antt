-- Which fault of a fetch an answer is.
use Rattle.std.specs.Prelude.{Bool, true, false, Result, Ok, Err}
use Rattle.page_store.specs.declared.page_edit.FetchFault.{FetchFault}
use Rattle.page_store.specs.declared.page_edit.FetchFault.TheVariants.{Device, OutOfRange}

-- whether a read of the store failed
abbrev pub is_fetch_device : {X : Type 0} → Result X FetchFault → Bool
is_fetch_device (Ok x) = false
is_fetch_device (Err Device) = true
is_fetch_device (Err OutOfRange) = false
