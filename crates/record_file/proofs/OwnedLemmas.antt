-- A list that is handed on with the owners of its keys.
use Rattle.std.proofs.Common.{◌≡◌, Bool, true, false, List, Result, Ok, Err, IsTrue, refl, ap, ◌∙◌}
use Rattle.std.specs.FinMap as maps
use Rattle.rec_types.specs.Contents.{Contents}
use Rattle.rec_types.specs.Ordered.{all_beside}
use Rattle.rec_types.specs.Sorted.{Pairs}
use Rattle.rec_types.specs.declared.gap.Gap.{Gap}
use Rattle.rec_types.specs.declared.side.Side.{Side}
use Rattle.rec_types.specs.Told.{Takes, TakesPart}
use Rattle.rec_types.specs.declared.transaction.Entry.{Entry}
use Rattle.tx_log.specs.LogState.{LogState}
use Rattle.record_file.specs.Abstract.{Fits, file_of}
use Rattle.record_file.specs.OwnedRecords.{owned_by, owned_both}
use Rattle.record_file.specs.Steps.{entries_of, entries_beside}

-- the records of a sound table with their owners are the entries of the file
pub owned_all : (log : LogState) (now : Contents) → Fits log.changes now → owned_by log (maps.entries now) ≡ entries_of (file_of log now)
owned_all log now fits = ap (λ (m : Contents). owned_by log (maps.entries m)) fits.replayed

-- and those on a side of a gap the entries there
pub owned_beside : (log : LogState) (now : Contents) (side : Side) (gap : Gap) → Fits log.changes now → owned_by log (all_beside side now gap) ≡ entries_beside (file_of log now) side gap
owned_beside log now side gap fits = ap (λ (m : Contents). owned_by log (all_beside side m gap)) fits.replayed

-- a sound table told all, and any table some
pub told_of : {F : Type 0} (sound : Bool) (told : Pairs → Type 0) (stops : Pairs → F → Type 0) (all : Pairs) (r : Result (Unit {0}) F) → (IsTrue sound → Takes told stops all r) → ((es : Pairs) × Takes told stops es r) → (es : Pairs) × Takes told stops es r × (IsTrue sound → es ≡ all)
told_of true told stops all r whole some = (all, whole refl, λ _. refl)
told_of false told stops all r whole some = (some.0, some.1, λ sound. absurd (cc))

module _ {F : Type 0} (same : Type 0) (told : List Entry → Type 0) (stops : List Entry → F → Type 0) (log : LogState) where
  -- what was told with the owners
  pub handed : (es : Pairs) (r : Result (Unit {0}) F) → Takes (λ xs. same × told (owned_by log xs)) (λ xs fault. same × stops (owned_by log xs) fault) es r → Takes told stops (owned_by log es) r
  handed es (Ok done) is = is.1
  handed es (Err fault) is = is.1

  pub part_handed : (es : Pairs) → TakesPart (λ xs. same × told (owned_by log xs)) es → TakesPart told (owned_by log es)
  part_handed es part = record { front = owned_by log part.front; rest = owned_by log part.rest; whole = ap (owned_by log) part.whole ∙ owned_both log part.front part.rest; took = part.took.1 }
