-- A store that fails at chosen calls.
use Rattle.std.specs.Prelude.{◌≡◌, ℕ, ◌+◌, ◌==◌, min, Bool, true, false, List, Result, Err, IsTrue, refl}
use Rattle.std.specs.Coded.{Coded, code_by, coded×, coded_ℕ, coded_list}
use Rattle.std.specs.List.{list_any}
use Rattle.rec_types.specs.Table.{counted, greatest_count}
use Rattle.page_store.specs.StoreFaults.{is_failed}
use Rattle.page_store.specs.declared.store_fault.StoreFault.{StoreFault}
use Rattle.page_store.specs.declared.store_fault.StoreFault.TheVariants.{Failed}
use Rattle.page_store.specs.declared.store_state.StoreState.{Ghosts}

-- the store below, the numbers of the reads and of the changing calls that fail, how many of each there were, and how
-- many of each failed here
pub record FlakyStored (S : Type 0) : Type 0 where
  pub inner : S
  pub failing_reads : List ℕ
  pub failing_writes : List ℕ
  pub reads : ℕ
  pub writes : ℕ
  pub failed_reads : ℕ
  pub failed_writes : ℕ

abbrev pub coded_flaky_stored : {S : Type 0} → Coded S → Coded (FlakyStored S)
coded_flaky_stored {S} s = code_by (S × (List ℕ × (List ℕ × (ℕ × (ℕ × (ℕ × ℕ)))))) (coded× s (coded× (coded_list coded_ℕ) (coded× (coded_list coded_ℕ) (coded× coded_ℕ (coded× coded_ℕ (coded× coded_ℕ coded_ℕ)))))) (λ f. (f.inner, (f.failing_reads, (f.failing_writes, (f.reads, (f.writes, (f.failed_reads, f.failed_writes))))))) (λ p. record { inner = p.0; failing_reads = p.1.0; failing_writes = p.1.1.0; reads = p.1.1.1.0; writes = p.1.1.1.1.0; failed_reads = p.1.1.1.1.1.0; failed_writes = p.1.1.1.1.1.1 }) (λ _. refl)

-- the number of the next read is in its list
abbrev pub read_fails : {S : Type 0} → FlakyStored S → Bool
read_fails s = list_any (λ n. n == counted s.reads true) s.failing_reads

-- the number of the next changing call is in its list
abbrev pub write_fails : {S : Type 0} → FlakyStored S → Bool
write_fails s = list_any (λ n. n == counted s.writes true) s.failing_writes

-- one more read, which failed here or was passed on
abbrev pub with_read : {S : Type 0} → FlakyStored S → Bool → FlakyStored S
with_read s failed = record s { reads = counted s.reads true; failed_reads = counted s.failed_reads failed }

-- one more changing call, which failed here or was passed on
abbrev pub with_write : {S : Type 0} → FlakyStored S → Bool → FlakyStored S
with_write s failed = record s { writes = counted s.writes true; failed_writes = counted s.failed_writes failed }

-- how many reads there were, below and failed ones here; it stays at the greatest value of 64 bits
abbrev pub reads_of : {S : Type 0} → (S → ℕ) → FlakyStored S → ℕ
reads_of reads s = min (reads s.inner + s.failed_reads) greatest_count

-- how many changing calls there were, below and failed ones here; it stays at the greatest value of 64 bits
abbrev pub writes_of : {S : Type 0} → (S → ℕ) → FlakyStored S → ℕ
writes_of writes s = min (writes s.inner + s.failed_writes) greatest_count

-- how many calls failed, below and here; it stays at the greatest value of 64 bits
abbrev pub store_failures_of : {S : Type 0} → (S → ℕ) → FlakyStored S → ℕ
store_failures_of failures s = min (failures s.inner + (s.failed_reads + s.failed_writes)) greatest_count

-- a changing call: it fails where its number is in the list, and the store below isn't called; else it is one such call of that store, whose failure is handed on
pub record PassesWrite {S A : Type 0} (s : Ghosts S) (old : FlakyStored S) (answer : Result A StoreFault) (new : FlakyStored S) : Type 0 where
  pub fails : IsTrue (write_fails old) → (answer ≡ Err Failed) × (new.inner ≡ old.inner)
  pub passes : write_fails old ≡ false → s.failures new.inner ≡ counted (s.failures old.inner) (is_failed answer)
  pub reads_below : s.reads new.inner ≡ s.reads old.inner
  pub shapes_below : s.shapes new.inner ≡ s.shapes old.inner
  pub writes_below : write_fails old ≡ false → s.writes new.inner ≡ counted (s.writes old.inner) true
  pub rest : new ≡ record (with_write old (write_fails old)) { inner = new.inner }
