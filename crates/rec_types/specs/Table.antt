-- What a table's answers say.
use Rattle.std.specs.Prelude.{◌≢◌, ℕ, ◌+◌, Bool, true, false, ◌&&◌, nat_lt, if◌then◌else◌, Result, Ok, Err}
use Rattle.rec_types.specs.declared.table.TableFault.{TableFault}
use Rattle.rec_types.specs.declared.table.TableFault.TheVariants.{Device, Damaged, NoRoom, Memory}

abbrev pub is_device : {A : Type 0} → Result A TableFault → Bool
is_device (Ok x) = false
is_device (Err Device) = true
is_device (Err (Damaged page)) = false
is_device (Err NoRoom) = false
is_device (Err Memory) = false

abbrev pub is_memory : {A : Type 0} → Result A TableFault → Bool
is_memory (Ok x) = false
is_memory (Err Device) = false
is_memory (Err (Damaged page)) = false
is_memory (Err NoRoom) = false
is_memory (Err Memory) = true

-- the table doesn't answer that it has no room
abbrev pub NeverFull : {A : Type 0} → Result A TableFault → Type 0
NeverFull answer = answer ≢ Err NoRoom

-- the call asked for no memory
abbrev pub NeedsNoMemory : {A : Type 0} → Result A TableFault → Type 0
NeedsNoMemory answer = answer ≢ Err Memory

-- the greatest number of 64 bits
abbrev pub greatest_count : ℕ
greatest_count = 18446744073709551615

-- A number counted in 64 bits, one more where the test holds. It stays at the greatest value.
abbrev pub counted : ℕ → Bool → ℕ
counted n b = if b && nat_lt n greatest_count then n + 1 else n

-- how many answers were Damaged, and which page the last of them named
pub record Damages : Type 0 where
  pub count : ℕ
  pub page : ℕ

-- no answer was Damaged
abbrev pub no_damage : Damages
no_damage = record { count = 0; page = 0 }

-- one more answer was Damaged, and named the page
abbrev pub damaged_at : Damages → ℕ → Damages
damaged_at d page = record { count = counted d.count true; page = page }

-- what a table has told of damaged pages after this answer
abbrev pub damaged_by : {A : Type 0} → Damages → Result A TableFault → Damages
damaged_by d (Ok x) = d
damaged_by d (Err Device) = d
damaged_by d (Err (Damaged page)) = damaged_at d page
damaged_by d (Err NoRoom) = d
damaged_by d (Err Memory) = d
