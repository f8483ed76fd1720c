-- A rollback that was stopped, until it is finished.
use Rattle.std.proofs.Common.{◌≡◌, ℕ, ◌+◌, zero, Bool, true, false, cond, if◌then◌else◌, List, [], ◌∷◌, ◌++◌, Option, Some, None, option_map, slice_get, Ok, Err, refl, sym, ap, subst, ◌∙◌, arith, is_some}
use Rattle.std.specs.List.{All}
use Rattle.std.proofs.lemmas.List.Elements.{All-head, All-tail}
use Rattle.std.specs.FinMap as maps
use Rattle.std.specs.FinMap.{get}
use Rattle.rec_types.specs.History.{Change, live_from, take_back, take_newest}
use Rattle.tx_log.specs.LogState.{active_with, phase_of, rolling_to, finished, finished_by}
use Rattle.tx_log.specs.Transactions.{Transactions, Tx, fresh, place_of_savepoint}
use Rattle.tx_log.specs.declared.phase.BeginFault.TheVariants as begin_faults
use Rattle.tx_log.specs.declared.phase.Phase.TheVariants as phases
use Rattle.tx_log.specs.declared.phase.Rollback.{Rollback}
use Rattle.record_file.specs.Abstract.{File, phase_at, tx_of}
use Rattle.record_file.specs.Resumed.{StopsFirst, Finishes, TakesWhole}
use Rattle.record_file.specs.Runs.{Called, Event, Seen, Run, Answers, IsKeptSeen, Begin, Put, Claim, Remove, Get, Savepoint, Release, RollbackTo, Abort, Resume, Commit, Entries, Beside, EntriesBeside, CommittedAt, KeysOf, StatusOf, Charged, Begun, LogLen, LogUse, RecordAt, IntoTable}
use Rattle.record_file.specs.Steps.{active_refusal, tx_refusal, places_at, rolling_place}
use Rattle.record_file.specs.declared.refusal.Refusal.{Refusal}
use Rattle.record_file.specs.declared.fault.AbortFault.TheVariants as abort_faults
use Rattle.record_file.specs.declared.fault.ResumeFault.TheVariants as resume_faults
use Rattle.record_file.specs.declared.fault.RollbackToFault.TheVariants as rollback_faults
use Rattle.record_file.proofs.CallKindLemmas.{taken_all}
use Rattle.record_file.proofs.OpenTxLemmas.{same_tx, same_tx-is, get-insert_tx, get-remove_tx, get-inserted_tx, same_tx-refl}
use Rattle.record_file.proofs.TakenLemmas.{Stays, stays_same, stays_on, stays_push, stays_mine, stays_other}

module _ (t p : ℕ) where
  -- a rollback of the transaction to the place is under way
  pub record Under (f : File) : Type 0 where
    pub ends : Bool
    pub places : List ℕ
    pub is : tx_of f t ≡ Some (record { rollback = Some (record { to = p; ends = ends }); places = places })

  -- it still is, and its take is what it was
  record Passes (old new : File) : Type 0 where
    under : Under new
    stays : Stays t p old.history new.history

  module _ (old : File) (under : Under old) where
    rolls : phase_at old t ≡ Some (phases.Rolling under.ends)
    rolls = ap (option_map phase_of) under.is

    still : (new : File) → new ≡ old → Passes old new
    still new same = subst (Passes old) (sym same) (record { under = under; stays = stays_same t p old.history })

    -- what is known of this transaction, and its take, stay
    moves : (new : File) (h : List Change) (txs : Transactions) → new.history ≡ h → new.txs ≡ txs → get txs t ≡ tx_of old t → Stays t p old.history h → Passes old new
    moves new h txs history_is txs_is same stays = record {
      under = record { ends = under.ends; places = under.places; is = ap (λ (x : Transactions). get x t) txs_is ∙ same ∙ under.is };
      stays = subst (Stays t p old.history) (sym history_is) stays;
    }

    apart : (q : ℕ) → (q ≡ t → ⊥) → same_tx t q ≡ false
    apart q differ = at (same_tx t q) refl
      where
        at : (b : Bool) → same_tx t q ≡ b → b ≡ false
        at true same = absurd (differ (sym (same_tx-is t q same)))
        at false other = refl

    inserted : (q : ℕ) (tx : Tx) → (q ≡ t → ⊥) → get (maps.insert old.txs q tx) t ≡ tx_of old t
    inserted q tx differ = get-insert_tx old.txs q tx t ∙ ap (λ b. cond b (Some tx) (get old.txs t)) (apart q differ)

    removed : (q : ℕ) → (q ≡ t → ⊥) → get (maps.remove old.txs q) t ≡ tx_of old t
    removed q differ = get-remove_tx old.txs q t ∙ ap (λ b. cond b None (get old.txs t)) (apart q differ)

    finished_other : (q : ℕ) (o : Option Tx) → (q ≡ t → ⊥) → get (finished old.txs q o) t ≡ tx_of old t
    finished_other q None differ = refl
    finished_other q (Some tx) differ = at tx.rollback
      where
        by : (b : Bool) → get (if b then maps.remove old.txs q else maps.insert old.txs q (active_with tx.places)) t ≡ tx_of old t
        by true = removed q differ
        by false = inserted q (active_with tx.places) differ

        at : (r : Option Rollback) → get (finished_by old.txs q tx.places r) t ≡ tx_of old t
        at None = refl
        at (Some r) = by r.ends

    back_other : (q place : ℕ) → (q ≡ t → ⊥) → Stays t p old.history (take_back old.history q place)
    back_other q place differ = subst (Stays t p old.history) (sym (taken_all old.history q place)) (stays_other t p q place (live_from old.history q place) old.history differ)

    -- a call that a rolling transaction is refused is another's
    other : (q : ℕ) (more : Option Refusal) → tx_refusal old q more ≡ None → q ≡ t → ⊥
    other q more free same = absurd (cc (ap (active_refusal more) (sym (ap (phase_at old) same ∙ rolls)) ∙ free))

  passes : (old new : Seen) (called : Called) (failed refused : Bool) → IsKeptSeen old → Under old.file → (Finishes t called → ⊥) → Answers old called failed refused new → Passes old.file new.file
  passes old new (Begin (Ok tx)) failed refused kept under unfinished step =
      moves old.file under new.file old.file.history _ (ap (λ (f : File). f.history) step.1.2) (ap (λ (f : File). f.txs) step.1.2)
      (inserted old.file under (old.file.begun + 1) fresh (λ same. let low = kept.opens t (ap is_some under.is) in absurd (omega (arith, same, low.1))))
      (stays_same t p old.file.history)
  passes old new (Begin (Err begin_faults.BeginsSpent)) failed refused kept under unfinished step = still old.file under new.file step.1.1
  passes old new (Begin (Err begin_faults.Memory)) failed refused kept under unfinished step = still old.file under new.file step.1.1
  passes old new (Put q x r (Ok before)) failed refused kept under unfinished step =
      moves old.file under new.file _ old.file.txs (ap (λ (f : File). f.history) step.1.accepted.history) (ap (λ (f : File). f.txs) step.1.accepted.history) refl (stays_push t p old.file.history _)
  passes old new (Put q x r (Err fault)) failed refused kept under unfinished step = still old.file under new.file step.1.err.1
  passes old new (Claim q x (Ok before)) failed refused kept under unfinished step =
      moves old.file under new.file _ old.file.txs (ap (λ (f : File). f.history) step.1.accepted.history) (ap (λ (f : File). f.txs) step.1.accepted.history) refl (stays_push t p old.file.history _)
  passes old new (Claim q x (Err fault)) failed refused kept under unfinished step = still old.file under new.file step.1.err.1
  passes old new (Remove q x (Ok before)) failed refused kept under unfinished step =
      moves old.file under new.file _ old.file.txs (ap (λ (f : File). f.history) step.1.accepted.history) (ap (λ (f : File). f.txs) step.1.accepted.history) refl (stays_push t p old.file.history _)
  passes old new (Remove q x (Err fault)) failed refused kept under unfinished step = still old.file under new.file step.1.err.1
  passes old new (Get q x answer) failed refused kept under unfinished step = still old.file under new.file step.1.same.1
  passes old new (Savepoint q (Ok n)) failed refused kept under unfinished step =
      let differ = other old.file under q.0 _ step.1.0 in
      moves old.file under new.file old.file.history _ (ap (λ (f : File). f.history) step.1.2) (ap (λ (f : File). f.txs) step.1.2) (inserted old.file under q.0 _ differ) (stays_same t p old.file.history)
  passes old new (Savepoint q (Err fault)) failed refused kept under unfinished step = still old.file under new.file step.1.1
  passes old new (Release q n (Ok done)) failed refused kept under unfinished step =
      let differ = other old.file under q.0 _ step.1.0 in
      moves old.file under new.file old.file.history _ (ap (λ (f : File). f.history) step.1.1) (ap (λ (f : File). f.txs) step.1.1) (inserted old.file under q.0 _ differ) (stays_same t p old.file.history)
  passes old new (Release q n (Err fault)) failed refused kept under unfinished step = still old.file under new.file step.1.1
  passes old new (RollbackTo q n (Ok undone)) failed refused kept under unfinished step =
      let differ = other old.file under q.0 _ step.1.rolled.0 in
      let becomes = step.1.rolled.1.1 in
      moves old.file under new.file _ _ (ap (λ (f : File). f.history) becomes) (ap (λ (f : File). f.txs) becomes) (inserted old.file under q.0 _ differ) (back_other old.file under q.0 _ differ)
  passes old new (RollbackTo q n (Err rollback_faults.NoSuchTx)) failed refused kept under unfinished step = still old.file under new.file step.1.rolled.1
  passes old new (RollbackTo q n (Err rollback_faults.Rolling)) failed refused kept under unfinished step = still old.file under new.file step.1.rolled.1
  passes old new (RollbackTo q n (Err rollback_faults.NoSuchSave)) failed refused kept under unfinished step = still old.file under new.file step.1.rolled.1
  passes old new (RollbackTo q n (Err (rollback_faults.Stopped undone left cause))) failed refused kept under unfinished step =
      let differ = other old.file under q.0 _ step.1.rolled.0 in
      let becomes = step.1.rolled.1.2 in
      moves old.file under new.file _ _ (ap (λ (f : File). f.history) becomes) (ap (λ (f : File). f.txs) becomes) (inserted old.file under q.0 _ differ) (stays_other t p q.0 _ undone old.file.history differ)
  passes old new (Abort q (Ok undone)) failed refused kept under unfinished step =
      let differ = other old.file under q.0 _ step.1.rolled.0 in
      let becomes = step.1.rolled.1.1 in
      moves old.file under new.file _ _ (ap (λ (f : File). f.history) becomes) (ap (λ (f : File). f.txs) becomes) (removed old.file under q.0 differ) (back_other old.file under q.0 _ differ)
  passes old new (Abort q (Err abort_faults.NoSuchTx)) failed refused kept under unfinished step = still old.file under new.file step.1.rolled.1
  passes old new (Abort q (Err abort_faults.Rolling)) failed refused kept under unfinished step = still old.file under new.file step.1.rolled.1
  passes old new (Abort q (Err (abort_faults.Stopped undone left cause))) failed refused kept under unfinished step =
      let differ = other old.file under q.0 _ step.1.rolled.0 in
      let becomes = step.1.rolled.1.2 in
      moves old.file under new.file _ _ (ap (λ (f : File). f.history) becomes) (ap (λ (f : File). f.txs) becomes) (inserted old.file under q.0 _ differ) (stays_other t p q.0 _ undone old.file.history differ)
  passes old new (Resume q (Ok undone)) failed refused kept under unfinished step =
      let becomes = step.1.rolled.1.1 in
      moves old.file under new.file _ _ (ap (λ (f : File). f.history) becomes) (ap (λ (f : File). f.txs) becomes) (finished_other old.file under q.0 (tx_of old.file q.0) unfinished) (back_other old.file under q.0 _ unfinished)
  passes old new (Resume q (Err resume_faults.NoSuchTx)) failed refused kept under unfinished step = still old.file under new.file step.1.rolled.1
  passes old new (Resume q (Err resume_faults.NotRolling)) failed refused kept under unfinished step = still old.file under new.file step.1.rolled.1
  passes old new (Resume q (Err (resume_faults.Stopped undone left cause))) failed refused kept under unfinished step =
      let becomes = step.1.rolled.1.2 in
      moves old.file under new.file _ old.file.txs (ap (λ (f : File). f.history) becomes) (ap (λ (f : File). f.txs) becomes) refl (at (same_tx t q.0) refl)
    where
      at : (b : Bool) → same_tx t q.0 ≡ b → Stays t p old.file.history (take_newest old.file.history q.0 (rolling_place (tx_of old.file q.0)) undone)
      at true same =
          let is = same_tx-is t q.0 same in
          let place : rolling_place (tx_of old.file q.0) ≡ p = ap (λ k. rolling_place (tx_of old.file k)) (sym is) ∙ ap rolling_place under.is in
          subst (Stays t p old.file.history) (λ i. take_newest old.file.history (is i) (sym place i) undone) (stays_mine t p undone old.file.history)
      at false differ = stays_other t p q.0 _ undone old.file.history (λ mine. absurd (cc (sym differ ∙ same_refl mine)))
        where
          same_refl : q.0 ≡ t → same_tx t q.0 ≡ true
          same_refl mine = ap (same_tx t) mine ∙ same_tx-refl t
  passes old new (Commit q (Ok done)) failed refused kept under unfinished step =
      let differ = other old.file under q.0 _ step.1.0 in
      moves old.file under new.file old.file.history _ (ap (λ (f : File). f.history) step.1.1) (ap (λ (f : File). f.txs) step.1.1) (removed old.file under q.0 differ) (stays_same t p old.file.history)
  passes old new (Commit q (Err fault)) failed refused kept under unfinished step = still old.file under new.file step.1.1
  passes old new (Entries answer) failed refused kept under unfinished step = still old.file under new.file step.1.same.1
  passes old new (Beside side gap answer) failed refused kept under unfinished step = still old.file under new.file step.1.same.1
  passes old new (EntriesBeside side gap answer) failed refused kept under unfinished step = still old.file under new.file step.1.same.1
  passes old new (CommittedAt x answer) failed refused kept under unfinished step = still old.file under new.file step.1.same.1
  passes old new (KeysOf q answer) failed refused kept under unfinished step = still old.file under new.file (ap (λ (s : Seen). s.file) step.0.2)
  passes old new (StatusOf q answer) failed refused kept under unfinished step = still old.file under new.file (ap (λ (s : Seen). s.file) step.0.2)
  passes old new (Charged count) failed refused kept under unfinished step = still old.file under new.file (ap (λ (s : Seen). s.file) step.0.2)
  passes old new (Begun count) failed refused kept under unfinished step = still old.file under new.file (ap (λ (s : Seen). s.file) step.0.2)
  passes old new (LogLen count) failed refused kept under unfinished step = still old.file under new.file (ap (λ (s : Seen). s.file) step.0.2)
  passes old new (LogUse count) failed refused kept under unfinished step = still old.file under new.file (ap (λ (s : Seen). s.file) step.0.2)
  passes old new (RecordAt lsn answer) failed refused kept under unfinished step = still old.file under new.file (ap (λ (s : Seen). s.file) step.0.2)
  passes old new (IntoTable answer) failed refused kept under unfinished step = still old.file under new.file (ap (λ (s : Seen). s.file) step.0.2)

  -- the first stop
  stopped : (old new : Seen) (called : Called) (failed refused : Bool) → StopsFirst old.file t p called → Answers old called failed refused new → Passes old.file new.file
  stopped old new (RollbackTo q n (Err (rollback_faults.Stopped undone left cause))) failed refused first step =
      let becomes = step.1.rolled.1.2 in
      let place : p ≡ place_of_savepoint (places_at old.file q.0) n = first.1 ∙ ap (λ k. place_of_savepoint (places_at old.file k) n) (sym first.0) in
      record {
        under = record {
          ends = false;
          places = (rolling_to (places_at old.file q.0) n false).places;
          is = ap (λ (f : File). tx_of f t) becomes ∙ ap (get _) (sym first.0) ∙ get-inserted_tx old.file.txs q.0 (rolling_to (places_at old.file q.0) n false) ∙ (λ i. Some (record { rollback = Some (record { to = sym place i; ends = false }); places = (rolling_to (places_at old.file q.0) n false).places }));
        };
        stays = subst (Stays t p old.file.history) ((λ i. take_newest old.file.history (sym first.0 i) (place i) undone) ∙ sym (ap (λ (f : File). f.history) becomes)) (stays_mine t p undone old.file.history);
      }
  stopped old new (Abort q (Err (abort_faults.Stopped undone left cause))) failed refused first step =
      let becomes = step.1.rolled.1.2 in
      record {
        under = record {
          ends = true;
          places = (rolling_to (places_at old.file q.0) zero true).places;
          is = ap (λ (f : File). tx_of f t) becomes ∙ ap (get _) (sym first.0) ∙ get-inserted_tx old.file.txs q.0 (rolling_to (places_at old.file q.0) zero true) ∙ (λ i. Some (record { rollback = Some (record { to = sym first.1 i; ends = true }); places = (rolling_to (places_at old.file q.0) zero true).places }));
        };
        stays = subst (Stays t p old.file.history) ((λ i. take_newest old.file.history (sym first.0 i) (first.1 i) undone) ∙ sym (ap (λ (f : File). f.history) becomes)) (stays_mine t p undone old.file.history);
      }
  stopped old new called failed refused first step = absurd first

  -- the finish
  finish : (old new : Seen) (called : Called) (failed refused : Bool) → Under old.file → Finishes t called → Answers old called failed refused new → new.file.history ≡ take_back old.file.history t p
  finish old new (Resume q (Ok undone)) failed refused under last step =
      ap (λ (f : File). f.history) step.1.rolled.1.1 ∙ (λ i. take_back old.file.history (last i) (rolling_place (tx_of old.file (last i)))) ∙ ap (take_back old.file.history t) (ap rolling_place under.is)
  finish old new called failed refused under last step = absurd last

  goes_on : (h : List Change) (old new : Seen) (between : List Event) (last : Event) → Stays t p h old.file.history → Under old.file → All (λ (e : Event). Finishes t e.called → ⊥) between → Finishes t last.called → Run old (between ++ last ∷ []) new
      → (i : ℕ) (past : Change) → slice_get h i ≡ Some past → past.tx ≡ t → slice_get new.file.history i ≡ slice_get (take_back h t p) i
  goes_on h old new [] last stays under none over ran i past is mine =
      let done = ap (λ (s : Seen). s.file.history) ran.2 ∙ finish old ran.0 last.called last.failed last.refused under over ran.1.happens.answer in
      ap (λ (g : List Change). slice_get g i) done ∙ (stays i past is mine).3
  goes_on h old new (e ∷ es) last stays under none over ran i past is mine =
      let passed = passes old ran.0 e.called e.failed e.refused ran.1.kept under (All-head (λ (e : Event). Finishes t e.called → ⊥) e es none) ran.1.happens.answer in
      goes_on h ran.0 new es last (stays_on t p h old.file.history ran.0.file.history stays passed.stays) passed.under (All-tail (λ (e : Event). Finishes t e.called → ⊥) e es none) over ran.2 i past is mine

  -- from the first stop to the finish
  pub takes_whole : (old new : Seen) (first last : Event) (between : List Event) → StopsFirst old.file t p first.called → All (λ (e : Event). Finishes t e.called → ⊥) between → Finishes t last.called → Run old (first ∷ (between ++ last ∷ [])) new → TakesWhole old t p new
  takes_whole old new first last between stops none over ran =
      let begun = stopped old ran.0 first.called first.failed first.refused stops ran.1.happens.answer in
      goes_on old.file.history ran.0 new between last begun.stays begun.under none over ran.2
