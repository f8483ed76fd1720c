-- What comes to a call from outside: a failed device, a damaged page, or a want of memory; and what the table, whose
-- counts tell of them, has then counted.
use Rattle.std.specs.Prelude.{◌≡◌, ◌≢◌, ◌⊎◌, ℕ, Bool, true, false, Option, Some, IsTrue}
use Rattle.rec_types.specs.Table.{Damages, damaged_at}
use Rattle.rec_types.specs.declared.table.TableFault.{TableFault}
use Rattle.rec_types.specs.declared.table.TableFault.TheVariants as table_faults
use Rattle.record_file.specs.declared.fault.Cause.{Cause}
use Rattle.record_file.specs.declared.fault.Cause.TheVariants.{Device, Damaged, Memory}

-- A table that has no room where there was some isn't sound.
abbrev pub cause_of : TableFault → Cause
cause_of table_faults.Device = Device
cause_of (table_faults.Damaged page) = Damaged page
cause_of table_faults.NoRoom = Damaged 0
cause_of table_faults.Memory = Memory

-- a look wants neither room nor memory
abbrev pub look_cause : TableFault → Cause
look_cause (table_faults.Damaged page) = Damaged page
look_cause fault = Device

-- what the table has counted

abbrev pub by_device : Option Cause → Bool
by_device (Some Device) = true
by_device cause = false

abbrev pub by_memory : Option Cause → Bool
by_memory (Some Memory) = true
by_memory cause = false

-- a damaged page is answered where the table named it, and no answer hides one
abbrev pub named_by : Damages → Option Cause → Damages
named_by old (Some (Damaged page)) = damaged_at old page
named_by old cause = old

-- over a sound table no page is damaged, and no answer is one that no such table gives
abbrev pub NeverDamaged : Bool → Option Cause → Type 0
NeverDamaged sound cause = IsTrue sound → (page : ℕ) → cause ≢ Some (Damaged page)

-- A call that changes the table: page 0 also stands for an answer that no sound table gives.
abbrev pub TellsDamage : Damages → Option Cause → Damages → Type 0
TellsDamage old cause new = (new ≡ named_by old cause) ⊎ ((cause ≡ Some (Damaged 0)) × (new ≡ old))
