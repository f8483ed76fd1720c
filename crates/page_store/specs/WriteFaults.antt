-- Which fault of a writing back an answer is.
use Rattle.std.specs.Prelude.{Bool, true, false, Result, Ok, Err}
use Rattle.page_store.specs.declared.store_fault.StoreFault.{StoreFault}
use Rattle.page_store.specs.declared.store_fault.StoreFault.TheVariants.{Failed, Memory as NoMemory}
use Rattle.page_store.specs.declared.page_edit.WriteFault.{WriteFault}
use Rattle.page_store.specs.declared.page_edit.WriteFault.TheVariants.{Device, Memory}

-- whether a call of the store failed
abbrev pub write_by_device : {X : Type 0} → Result X WriteFault → Bool
write_by_device (Ok x) = false
write_by_device (Err Device) = true
write_by_device (Err Memory) = false

-- the fault that a fault of the store gives
abbrev pub told : StoreFault → WriteFault
told Failed = Device
told NoMemory = Memory
