-- How often a table was called, and what each call adds to that.
use Rattle.std.specs.Prelude.{◌≡◌, ℕ, Bool, true, false, List, Option, Some, None, Result, Ok, Err, refl}
use Rattle.std.specs.Coded.{Coded, code_by, coded×, coded_ℕ}
use Rattle.rec_types.specs.Table.{counted}
use Rattle.rec_types.specs.declared.table.TableFault.{TableFault}
use Rattle.rec_types.specs.declared.table.TableFault.TheVariants.{Device, Damaged, NoRoom, Memory}
use Rattle.rec_types.specs.declared.table_calls.TableCalls.{TableCalls}

abbrev pub coded_calls : Coded TableCalls
coded_calls = code_by (ℕ × (ℕ × (ℕ × (ℕ × ℕ)))) (coded× coded_ℕ (coded× coded_ℕ (coded× coded_ℕ (coded× coded_ℕ coded_ℕ)))) (λ c. (c.gets, (c.sets, (c.lists, (c.no_rooms, c.misses))))) (λ p. record { gets = p.0; sets = p.1.0; lists = p.1.1.0; no_rooms = p.1.1.1.0; misses = p.1.1.1.1 }) (λ _. refl)

-- no call was made
abbrev pub no_calls : TableCalls
no_calls = record { gets = 0; sets = 0; lists = 0; no_rooms = 0; misses = 0 }

-- the table had no room
abbrev pub is_no_room : {A : Type 0} → Result A TableFault → Bool
is_no_room (Ok x) = false
is_no_room (Err Device) = false
is_no_room (Err (Damaged page)) = false
is_no_room (Err NoRoom) = true
is_no_room (Err Memory) = false

-- a key was to be taken out, and nothing stood there
abbrev pub is_miss : Bool → Result (Option (List ℕ)) TableFault → Bool
is_miss takes_out (Ok None) = takes_out
is_miss takes_out (Ok (Some before)) = false
is_miss takes_out (Err fault) = false

-- one more look
abbrev pub with_get : TableCalls → TableCalls
with_get calls = record calls { gets = counted calls.gets true }

-- one more call of `set`, which was to take a key out or not, and answered so
abbrev pub with_set : TableCalls → Bool → Result (Option (List ℕ)) TableFault → TableCalls
with_set calls takes_out answer = record calls { sets = counted calls.sets true; no_rooms = counted calls.no_rooms (is_no_room answer); misses = counted calls.misses (is_miss takes_out answer) }

-- one more list
abbrev pub with_list : TableCalls → TableCalls
with_list calls = record calls { lists = counted calls.lists true }

-- one more list was made
abbrev pub CountsList : TableCalls → TableCalls → Type 0
CountsList old new = new ≡ with_list old
