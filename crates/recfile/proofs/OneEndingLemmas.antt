-- How one open transaction ends, by going on with its rollback and by its abort.
use Rattle.std.proofs.Common.{◌≡◌, ◌≢◌, ℕ, zero, Bool, true, false, cond, List, Option, Some, None, is_some, option_map, Result, Ok, Err, inl, inr, refl, sym, ap, subst, ◌∙◌, IsTrue}
use Rattle.std.specs.FinMap as maps
use Rattle.std.specs.FinMap.{get}
use Rattle.rec_types.specs.History.{take_back}
use Rattle.rec_types.specs.declared.transaction.TxId.{TxId}
use Rattle.tx_log.specs.Transactions.{Transactions, Tx}
use Rattle.tx_log.specs.declared.phase.Rollback.{Rollback}
use Rattle.tx_log.specs.LogState.{phase_of, rollback_phase, active_with, rolling_to, finished, finished_by, IsRolling}
use Rattle.tx_log.specs.declared.phase.Phase.{Phase}
use Rattle.tx_log.specs.declared.phase.Phase.TheVariants as phases
use Rattle.record_file.specs.Abstract.{IsWholeTx, File, open_of, tx_of, phase_at}
use Rattle.record_file.specs.Steps.{Becomes, Aborts, Resumes, active_refusal, rolling_refusal, tx_refusal, resuming_refusal, rolling_place, places_at}
use Rattle.record_file.specs.declared.refusal.Refusal.TheVariants as refusals
use Rattle.record_file.specs.declared.fault.AbortFault.{AbortFault}
use Rattle.record_file.specs.declared.fault.AbortFault.TheVariants as abort_faults
use Rattle.record_file.specs.declared.fault.ResumeFault.{ResumeFault}
use Rattle.record_file.specs.declared.fault.ResumeFault.TheVariants as resume_faults
use Rattle.record_file.proofs.OpenTxLemmas.{same_tx, same_tx-is, get-insert_tx, get-remove_tx, get-inserted_tx, remove-insert_tx, same_tx-refl}
use Rattle.recfile.specs.declared.endings.EndFault.{EndFault}
use Rattle.recfile.specs.declared.endings.EndFault.TheVariants.{Stopped}
use Rattle.recfile.specs.Ending.{EndsOne, EndsBelow, StopsOne, StopsEnding, resumed, aborted, stopped_tx}
use Rattle.recfile.proofs.EndingLemmas.{becomes_on, becomes_as, taken_twice}

-- a transaction with a rollback under way
pub record Under (f : File) (t : ℕ) : Type 0 where
  back : Rollback
  places : List ℕ
  is : tx_of f t ≡ Some (record { rollback = Some back; places = places })

under : (f : File) (t : ℕ) → resuming_refusal f t ≡ None → Under f t
under f t none = at (tx_of f t) refl none
  where
    in_tx : (tx : Tx) (r : Option Rollback) → tx_of f t ≡ Some tx → tx.rollback ≡ r → rolling_refusal (Some (rollback_phase r)) ≡ None → Under f t
    in_tx tx None is same none = absurd (cc)
    in_tx tx (Some r) is same none = record { back = r; places = tx.places; is = is ∙ (λ i. Some (record { rollback = same i; places = tx.places })) }

    at : (o : Option Tx) → tx_of f t ≡ o → rolling_refusal (option_map phase_of o) ≡ None → Under f t
    at None is none = absurd (cc)
    at (Some tx) is none = in_tx tx tx.rollback is refl none

-- an active transaction
active_by : (f : File) (t : ℕ) → tx_refusal f t None ≡ None → IsTrue (open_of f t)
active_by f t none = at (tx_of f t) none
  where
    at : (o : Option Tx) → active_refusal None (option_map phase_of o) ≡ None → is_some o ≡ true
    at None none = absurd (cc)
    at (Some tx) none = refl

-- its end, where the call went on with a rollback
pub record Went (old mid : File) (t : ℕ) : Type 0 where
  back : Rollback
  places : List ℕ
  tx : tx_of old t ≡ Some (record { rollback = Some back; places = places })
  history : mid.history ≡ take_back old.history t back.to
  txs : mid.txs ≡ finished_by old.txs t places (Some back)
  rest : Becomes old mid.history mid.txs mid

went : (old mid : File) (t more : ℕ) → Resumes old t (Ok more) mid → Went old mid t
went old mid t more step =
    let u = under old t step.0 in
    let place : rolling_place (tx_of old t) ≡ u.back.to = ap rolling_place u.is in
    let after : finished old.txs t (tx_of old t) ≡ finished_by old.txs t u.places (Some u.back) = ap (finished old.txs t) u.is in
    record {
      back = u.back;
      places = u.places;
      tx = u.is;
      history = ap (λ (f : File). f.history) step.1.1 ∙ ap (take_back old.history t) place;
      txs = ap (λ (f : File). f.txs) step.1.1 ∙ after;
      rest = becomes_as old mid _ _ mid.txs step.1.1 (sym (ap (λ (f : File). f.txs) step.1.1));
    }

whole_place : (o : Option Tx) (back : Rollback) (places : List ℕ) → o ≡ Some (record { rollback = Some back; places = places }) → IsWholeTx o → IsTrue back.ends → back.to ≡ 0
whole_place o back places is whole ends = subst IsWholeTx is whole ends

gone_phase : (f : File) (t : ℕ) (txs : Transactions) → f.txs ≡ maps.remove txs t → tx_of f t ≡ None
gone_phase f t txs is = ap (λ (x : Transactions). get x t) is ∙ get-remove_tx txs t t ∙ same
  where
    same : cond (same_tx t t) None (get txs t) ≡ None
    same = at (same_tx t t) refl
      where
        at : (b : Bool) → same_tx t t ≡ b → cond b None (get txs t) ≡ None
        at true is = refl
        at false is = absurd (cc (sym is ∙ same_tx-refl t))

ended_tx : (f : File) (t : ℕ) (txs : Transactions) → f.txs ≡ maps.remove txs t → phase_at f t ≡ None
ended_tx f t txs is = ap (option_map phase_of) (gone_phase f t txs is)

active_tx : (f : File) (t : ℕ) (txs : Transactions) (places : List ℕ) → f.txs ≡ maps.insert txs t (active_with places) → phase_at f t ≡ Some phases.Active
active_tx f t txs places is = ap (option_map phase_of) (ap (λ (x : Transactions). get x t) is ∙ get-inserted_tx txs t (active_with places))

-- an active transaction was given up
given_up : (old new : File) (t more : ℕ) → Aborts old t (Ok more) new → EndsOne old t new
given_up old new t more step = record {
  there = active_by old t step.0;
  history = ap (λ (f : File). f.history) step.1.1;
  rest = becomes_as old new _ _ _ step.1.1 refl;
}

-- one that was made active was given up
made_active : (old mid new : File) (t : ℕ) (answer : Result ℕ AbortFault) (w : Went old mid t) → w.back.ends ≡ false → aborted (record { 0 = t }) answer ≡ Ok tt → Aborts mid t answer new → EndsOne old t new
made_active old mid new t answer w stays ok step = at answer ok step
  where
    txs : mid.txs ≡ maps.insert old.txs t (active_with w.places)
    txs = w.txs ∙ ap (λ b. cond b (maps.remove old.txs t) (maps.insert old.txs t (active_with w.places))) stays

    active : tx_refusal mid t None ≡ None
    active = ap (active_refusal None) (active_tx mid t old.txs w.places txs)

    at : (a : Result ℕ AbortFault) → aborted (record { 0 = t }) a ≡ Ok tt → Aborts mid t a new → EndsOne old t new
    at (Ok more) ok step = record {
      there = ap is_some w.tx;
      history = ap (λ (f : File). f.history) step.1.1 ∙ ap (λ h. take_back h t zero) w.history ∙ taken_twice old.history t w.back.to;
      rest = becomes_as old new _ _ _ (becomes_on old mid new _ _ _ _ w.rest step.1.1) (ap (λ (x : Transactions). maps.remove x t) txs ∙ remove-insert_tx old.txs t (active_with w.places));
    }
    at (Err abort_faults.NoSuchTx) ok step = absurd (cc (sym active ∙ step.0))
    at (Err abort_faults.Rolling) ok step = absurd (cc (sym active ∙ step.0))
    at (Err (abort_faults.Stopped undone left cause)) ok step = absurd (cc ok)

-- one whose rollback has ended it is gone
went_away : (old mid new : File) (t : ℕ) (answer : Result ℕ AbortFault) (w : Went old mid t) → w.back.ends ≡ true → IsWholeTx (tx_of old t) → aborted (record { 0 = t }) answer ≡ Ok tt → Aborts mid t answer new → EndsOne old t new
went_away old mid new t answer w ends whole ok step = at answer ok step
  where
    txs : mid.txs ≡ maps.remove old.txs t
    txs = w.txs ∙ ap (λ b. cond b (maps.remove old.txs t) (maps.insert old.txs t (active_with w.places))) ends

    gone : tx_refusal mid t None ≡ Some refusals.NoSuchTx
    gone = ap (active_refusal None) (ended_tx mid t old.txs txs)

    at : (a : Result ℕ AbortFault) → aborted (record { 0 = t }) a ≡ Ok tt → Aborts mid t a new → EndsOne old t new
    at (Ok more) ok step = absurd (cc (sym gone ∙ step.0))
    at (Err abort_faults.NoSuchTx) ok step = subst (EndsOne old t) (sym step.1) (record {
      there = ap is_some w.tx;
      history = w.history ∙ ap (take_back old.history t) (whole_place (tx_of old t) w.back w.places w.tx whole ends);
      rest = becomes_as old mid _ _ _ w.rest txs;
    })
    at (Err abort_faults.Rolling) ok step = absurd (cc (sym gone ∙ step.0))
    at (Err (abort_faults.Stopped undone left cause)) ok step = absurd (cc ok)

after_going : (old mid new : File) (t : ℕ) (answer : Result ℕ AbortFault) (w : Went old mid t) → IsWholeTx (tx_of old t) → aborted (record { 0 = t }) answer ≡ Ok tt → Aborts mid t answer new → EndsOne old t new
after_going old mid new t answer w whole ok step = at w.back.ends refl
  where
    at : (b : Bool) → w.back.ends ≡ b → EndsOne old t new
    at true ends = went_away old mid new t answer w ends whole ok step
    at false stays = made_active old mid new t answer w stays ok step

-- an active transaction stays as it was where no rollback is under way
still_active : (old mid new : File) (t : ℕ) (answer : Result ℕ AbortFault) → resuming_refusal old t ≡ Some refusals.NotRolling → mid ≡ old → aborted (record { 0 = t }) answer ≡ Ok tt → Aborts mid t answer new → EndsOne old t new
still_active old mid new t answer not_rolling same ok step = at answer ok (subst (λ (f : File). Aborts f t answer new) same step)
  where
    active : (o : Option Phase) → rolling_refusal o ≡ Some refusals.NotRolling → active_refusal None o ≡ None
    active None is = absurd (cc)
    active (Some (phases.Rolling ends)) is = absurd (cc)
    active (Some phases.Active) is = refl

    at : (a : Result ℕ AbortFault) → aborted (record { 0 = t }) a ≡ Ok tt → Aborts old t a new → EndsOne old t new
    at (Ok more) ok step = given_up old new t more step
    at (Err abort_faults.NoSuchTx) ok step = absurd (cc (sym (active (phase_at old t) not_rolling) ∙ step.0))
    at (Err abort_faults.Rolling) ok step = absurd (cc (sym (active (phase_at old t) not_rolling) ∙ step.0))
    at (Err (abort_faults.Stopped undone left cause)) ok step = absurd (cc ok)

-- an open transaction has ended
pub ended_open : (old mid new : File) (tx : TxId) (went_on : Result ℕ ResumeFault) (answer : Result ℕ AbortFault)
    → IsWholeTx (tx_of old tx.0) → resumed tx went_on ≡ Ok true → Resumes old tx.0 went_on mid → aborted tx answer ≡ Ok tt → Aborts mid tx.0 answer new → EndsOne old tx.0 new
ended_open old mid new tx (Ok more) answer whole is step ok later = after_going old mid new tx.0 answer (went old mid tx.0 more step) whole ok later
ended_open old mid new tx (Err resume_faults.NoSuchTx) answer whole is step ok later = absurd (cc is)
ended_open old mid new tx (Err resume_faults.NotRolling) answer whole is step ok later = still_active old mid new tx.0 answer step.0 step.1 ok later
ended_open old mid new tx (Err (resume_faults.Stopped undone left cause)) answer whole is step ok later = absurd (cc is)

-- an abort was stopped
pub stopped_abort : (old mid new : File) (tx : TxId) (went_on : Result ℕ ResumeFault) (answer : Result ℕ AbortFault) (fault : EndFault)
    → resumed tx went_on ≡ Ok true → Resumes old tx.0 went_on mid → aborted tx answer ≡ Err fault → Aborts mid tx.0 answer new → StopsOne old fault new × (stopped_tx fault ≡ tx.0)
stopped_abort old mid new tx went_on (Ok more) fault is step stop later = absurd (cc stop)
stopped_abort old mid new tx went_on (Err abort_faults.NoSuchTx) fault is step stop later = absurd (cc stop)
stopped_abort old mid new tx went_on (Err abort_faults.Rolling) fault is step stop later = absurd (cc stop)
stopped_abort old mid new tx went_on (Err (abort_faults.Stopped undone left cause)) fault is step stop later = subst (λ (f : EndFault). StopsOne old f new × (stopped_tx f ≡ tx.0)) (fault_of stop) (at went_on is step, refl)
  where
    fault_of : ◌≡◌ {A = Result (Unit {0}) EndFault} (Err (Stopped tx undone left cause)) (Err fault) → Stopped tx undone left cause ≡ fault
    fault_of is = cc

    at : (r : Result ℕ ResumeFault) → resumed tx r ≡ Ok true → Resumes old tx.0 r mid → StopsOne old (Stopped tx undone left cause) new
    at (Ok more) is step = inr (inr (mid, more, step, later))
    at (Err resume_faults.NoSuchTx) is step = absurd (cc is)
    at (Err resume_faults.NotRolling) is step = inr (inl (subst (λ (f : File). Aborts f tx.0 (Err (abort_faults.Stopped undone left cause)) new) step.1 later))
    at (Err (resume_faults.Stopped undone left cause)) is step = absurd (cc is)

apart : (t n : ℕ) → t ≢ n → same_tx t n ≡ false
apart t n differ = at (same_tx t n) refl
  where
    at : (b : Bool) → same_tx t n ≡ b → b ≡ false
    at true same = absurd (differ (same_tx-is t n same))
    at false is = refl

others_put : (txs : Transactions) (n : ℕ) (tx : Tx) (t : ℕ) → t ≢ n → get (maps.insert txs n tx) t ≡ get txs t
others_put txs n tx t differ = get-insert_tx txs n tx t ∙ ap (λ b. cond b (Some tx) (get txs t)) (apart t n differ)

others_gone : (txs : Transactions) (n t : ℕ) → t ≢ n → get (maps.remove txs n) t ≡ get txs t
others_gone txs n t differ = get-remove_tx txs n t ∙ ap (λ b. cond b None (get txs t)) (apart t n differ)

others_went : (old mid : File) (n : ℕ) (w : Went old mid n) (t : ℕ) → t ≢ n → get mid.txs t ≡ get old.txs t
others_went old mid n w t differ = ap (λ (x : Transactions). get x t) w.txs ∙ at w.back.ends
  where
    at : (b : Bool) → get (cond b (maps.remove old.txs n) (maps.insert old.txs n (active_with w.places))) t ≡ get old.txs t
    at true = others_gone old.txs n t differ
    at false = others_put old.txs n (active_with w.places) t differ

-- the one that was stopped is rolling, and all others are as they were
pub record Others (now : File) (n : ℕ) (new : File) : Type 0 where
  rolling : IsRolling (phase_at new n)
  rest : (t : ℕ) → t ≢ n → get new.txs t ≡ get now.txs t

rolling_under : (now new : File) (n : ℕ) → Under now n → new.txs ≡ now.txs → IsRolling (phase_at new n)
rolling_under now new n u same = subst (λ (o : Option Tx). IsRolling (option_map phase_of o)) (sym (ap (λ (x : Transactions). get x n) same ∙ u.is)) tt

rolling_put : (new : File) (txs : Transactions) (places : List ℕ) (n : ℕ) → new.txs ≡ maps.insert txs n (rolling_to places zero true) → IsRolling (phase_at new n)
rolling_put new txs places n is = subst (λ (o : Option Tx). IsRolling (option_map phase_of o)) (sym (ap (λ (x : Transactions). get x n) is ∙ get-inserted_tx txs n (rolling_to places zero true))) tt

stop_leaves : (now new : File) (fault : EndFault) → StopsOne now fault new → Others now (stopped_tx fault) new
stop_leaves now new (Stopped tx undone left cause) (inl step) =
    let same = ap (λ (f : File). f.txs) step.1.2 in
    record {
      rolling = rolling_under now new tx.0 (under now tx.0 step.0) same;
      rest = λ t differ. ap (λ (x : Transactions). get x t) same;
    }
stop_leaves now new (Stopped tx undone left cause) (inr (inl step)) =
    let is = ap (λ (f : File). f.txs) step.1.2 in
    record {
      rolling = rolling_put new now.txs (places_at now tx.0) tx.0 is;
      rest = λ t differ. ap (λ (x : Transactions). get x t) is ∙ others_put now.txs tx.0 (rolling_to (places_at now tx.0) zero true) t differ;
    }
stop_leaves now new (Stopped tx undone left cause) (inr (inr steps)) =
    let is = ap (λ (f : File). f.txs) steps.3.1.2 in
    record {
      rolling = rolling_put new steps.0.txs (places_at steps.0 tx.0) tx.0 is;
      rest = λ t differ. ap (λ (x : Transactions). get x t) is ∙ others_put steps.0.txs tx.0 (rolling_to (places_at steps.0 tx.0) zero true) t differ ∙ others_went now steps.0 tx.0 (went now steps.0 tx.0 steps.1 steps.2) t differ;
    }

-- ending was stopped
pub stops_ending : (old now new : File) (n : ℕ) (fault : EndFault) → EndsBelow old n now → StopsOne now fault new → stopped_tx fault ≡ n → StopsEnding old fault new
stops_ending old now new n fault ended stopped is =
    let here : EndsBelow old (stopped_tx fault) now = subst (λ (k : ℕ). EndsBelow old k now) (sym is) ended in
    let left = stop_leaves now new fault stopped in
    record {
      mid = now;
      ended = here;
      stopped = stopped;
      rolling = left.rolling;
      others = λ t differ. left.rest t differ ∙ here.txs t;
    }
