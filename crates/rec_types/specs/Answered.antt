-- What each call of a table leaves as it was, and what its answer adds to the counts.
use Rattle.std.specs.Prelude.{◌≡◌, ◌≢◌, ℕ, Result, Err, IsTrue}
use Rattle.rec_types.specs.Table.{is_device, is_memory, counted, damaged_by}
use Rattle.rec_types.specs.declared.table_state.TableState.{Ghosts}
use Rattle.rec_types.specs.declared.table.TableFault.{TableFault}
use Rattle.rec_types.specs.declared.table.TableFault.TheVariants.{Damaged}

pub record Answered {T A : Type 0} (t : Ghosts T) (old : T) (answer : Result A TableFault) (new : T) : Type 0 where
  pub limit : t.record_limit new ≡ t.record_limit old
  pub soundness : t.sound new ≡ t.sound old
  pub origin : t.origin new ≡ t.origin old
  pub device : t.device_failures new ≡ counted (t.device_failures old) (is_device answer)
  pub memory : t.memory_refusals new ≡ counted (t.memory_refusals old) (is_memory answer)
  pub damages : t.damages new ≡ damaged_by (t.damages old) answer
  -- a sound table tells of no damaged page
  pub whole : IsTrue (t.sound old) → (page : ℕ) → answer ≢ Err (Damaged page)
