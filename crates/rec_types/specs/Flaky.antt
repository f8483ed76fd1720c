-- A table whose device fails at chosen calls.
use Rattle.std.specs.Prelude.{ℕ, ◌+◌, ◌==◌, min, Bool, true, List, refl}
use Rattle.std.specs.Coded.{Coded, code_by, coded×, coded_ℕ, coded_list}
use Rattle.std.specs.List.{list_any}
use Rattle.rec_types.specs.Calls.{coded_calls}
use Rattle.rec_types.specs.Table.{counted, greatest_count}
use Rattle.rec_types.specs.declared.table_calls.TableCalls.{TableCalls}

-- the table below, the numbers of the calls of `set` that fail, how often this table was called, and how many calls of
-- `set` failed here
pub record FlakyState (T : Type 0) : Type 0 where
  pub inner : T
  pub failing : List ℕ
  pub calls : TableCalls
  pub failures : ℕ

abbrev pub coded_flaky_state : {T : Type 0} → Coded T → Coded (FlakyState T)
coded_flaky_state {T} t = code_by (T × (List ℕ × (TableCalls × ℕ))) (coded× t (coded× (coded_list coded_ℕ) (coded× coded_calls coded_ℕ))) (λ s. (s.inner, (s.failing, (s.calls, s.failures)))) (λ p. record { inner = p.0; failing = p.1.0; calls = p.1.1.0; failures = p.1.1.1 }) (λ _. refl)

-- the number of the next call of `set` is in the list
abbrev pub fails_next : {T : Type 0} → FlakyState T → Bool
fails_next s = list_any (λ n. n == counted s.calls.sets true) s.failing

-- after one more call, with the table below as it then is
abbrev pub called : {T : Type 0} → FlakyState T → T → TableCalls → Bool → FlakyState T
called s inner calls failed = record s { inner = inner; calls = calls; failures = counted s.failures failed }

-- how many calls a failed device read ended, below and here; it stays at the greatest value of 64 bits
abbrev pub failures_of : {T : Type 0} → (T → ℕ) → FlakyState T → ℕ
failures_of failures s = min (failures s.inner + s.failures) greatest_count
