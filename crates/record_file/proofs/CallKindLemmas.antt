-- What each call of a run does to the abstract file over a sound table, in seven kinds.
use Rattle.std.proofs.Common.{◌≡◌, ℕ, ◌≤◌, zero, Bool, true, false, cond, if◌then◌else◌, List, Option, Some, None, is_some, option_map, Ok, Err, refl, sym, ap, subst, ◌∙◌, IsTrue, arith}
use Rattle.std.specs.FinMap as maps
use Rattle.std.specs.FinMap.{get, len}
use Rattle.rec_types.specs.History.{Change, live_from, take_back, take_newest}
use Rattle.rec_types.proofs.HistoryLemmas.{take_newest-none, take_newest-all}
use Rattle.rec_types.specs.declared.transaction.TxId.{TxId}
use Rattle.tx_log.specs.Transactions.{Transactions, Tx, is_open}
use Rattle.tx_log.specs.declared.phase.Rollback.{Rollback}
use Rattle.tx_log.specs.LogState.{active_with, rolling_to, rollback_phase, phase_of, finished, finished_by}
use Rattle.tx_log.specs.declared.phase.BeginFault.TheVariants as begin_faults
use Rattle.record_file.specs.Abstract.{charged_of, EndsAtBeginning, IsWholeTx, AbortsWhole, File, records_of, open_of, tx_of, phase_at, is_full, with_change}
use Rattle.record_file.specs.Steps.{BeginStep, CommitStep, Becomes, Accepts, key_change, active_refusal, rolling_refusal, key_refusal, places_at, rolling_place, to_of}
use Rattle.record_file.specs.Runs.{Called, Event, Seen, Step, Answers, IsKeptSeen, Begin, Put, Claim, Remove, Get, Savepoint, Release, RollbackTo, Abort, Resume, Commit, Entries, Beside, EntriesBeside, CommittedAt, KeysOf, StatusOf, Charged, Begun, LogLen, LogUse, RecordAt, IntoTable}
use Rattle.record_file.specs.Undo.{old_record}
use Rattle.record_file.specs.Remaining.{begins_or_commits}
use Rattle.record_file.specs.declared.fault.RollbackToFault.TheVariants as rollback_faults
use Rattle.record_file.specs.declared.fault.AbortFault.TheVariants as abort_faults
use Rattle.record_file.specs.declared.fault.ResumeFault.TheVariants as resume_faults
use Rattle.record_file.proofs.AcceptedLemmas.{unrefused, accepted_stood, accepted_not_full}
use Rattle.record_file.proofs.OpenTxLemmas.{same_tx, same_tx-is, open-insert}
use Rattle.record_file.proofs.WholeTxLemmas.{whole_insert}

-- the same transactions are open
abbrev pub SameOpen : Transactions → Transactions → Type 0
SameOpen old new = (t : ℕ) → is_open new t ≡ is_open old t

same_open : (txs : Transactions) (t : ℕ) (tx : Tx) → is_open txs t ≡ true → SameOpen txs (maps.insert txs t tx)
same_open txs t tx there q = open-insert txs t tx q ∙ at (same_tx q t) refl
  where
    at : (b : Bool) → same_tx q t ≡ b → cond b true (is_open txs q) ≡ is_open txs q
    at true same = sym (ap (is_open txs) (same_tx-is q t same) ∙ there)
    at false apart = refl

-- what a call did to the file
pub data Move (old : File) (called : Called) (new : File) : Type 0 where
  Still : new ≡ old → old_record called ≡ None → begins_or_commits called ≡ false → Move old called new
  Began : (tx : TxId) → called ≡ Begin (Ok tx) → BeginStep old (Ok tx) new → Move old called new
  PutIn : (t : TxId) → (x r : List ℕ) → (before : Option (List ℕ)) → called ≡ Put t x r (Ok before) → key_refusal true old t.0 x ≡ None → is_full old x ≡ false → before ≡ get (records_of old) x → new ≡ with_change old t.0 x (Some (Some r)) → Move old called new
  ClaimIn : (t : TxId) → (x : List ℕ) → (before : Option (List ℕ)) → called ≡ Claim t x (Ok before) → key_refusal true old t.0 x ≡ None → is_full old x ≡ false → before ≡ get (records_of old) x → new ≡ with_change old t.0 x None → Move old called new
  TookOut : (t : TxId) → (x before : List ℕ) → called ≡ Remove t x (Ok before) → key_refusal true old t.0 x ≡ None → get (records_of old) x ≡ Some before → new ≡ with_change old t.0 x (Some None) → Move old called new
  Committed : (t : TxId) → (done : Unit {0}) → called ≡ Commit t (Ok done) → CommitStep old t.0 (Ok done) new → Move old called new
  WentBack : (t p n : ℕ) → (txs : Transactions) → open_of old t ≡ true → n ≤ live_from old.history t p → new ≡ record old { history = take_newest old.history t p n; txs = txs } → SameOpen old.txs txs → AbortsWhole txs → old_record called ≡ None → begins_or_commits called ≡ false → Move old called new
  Ended : (t : ℕ) → open_of old t ≡ true → new ≡ record old { history = take_back old.history t zero; txs = maps.remove old.txs t } → old_record called ≡ None → begins_or_commits called ≡ false → Move old called new

-- a transaction that has a phase is there
pub some_phase : (o : Option Tx) → (option_map phase_of o ≡ None → ⊥) → is_some o ≡ true
some_phase None none = absurd (none refl)
some_phase (Some tx) none = refl

-- a put that isn't refused is by an open transaction
put_open : (f : File) (t : ℕ) (x : List ℕ) → key_refusal true f t x ≡ None → open_of f t ≡ true
put_open f t x free = some_phase (tx_of f t) (λ none. absurd (cc (sym (ap (active_refusal _) none) ∙ free)))

-- a fault isn't told where none is
pub no_refusal : {X : Type 0} (fault : X) (o : Option X) → o ≡ Some fault → o ≡ None → ⊥
no_refusal fault o some none = absurd (cc (sym some ∙ none))

-- the place of the newest of all is the place itself
pub taken_all : (h : List Change) (t p : ℕ) → take_back h t p ≡ take_newest h t p (live_from h t p)
taken_all h t p = sym (take_newest-all h t p (live_from h t p) (omega arith))

-- the opening contents stay
becomes : (old new : File) (history : List Change) (txs : Transactions) → Becomes old history txs new → new.opening ≡ old.opening → new ≡ record old { history = history; txs = txs }
becomes old new history txs is opening = is ∙ (λ i. record old { opening = opening i; history = history; txs = txs })

module _ (old new : File) (called : Called) (no_record : old_record called ≡ None) (no_begin : begins_or_commits called ≡ false) where
  -- what is known of an open transaction changed
  known : (t : ℕ) (tx : Tx) → open_of old t ≡ true → new ≡ record old { txs = maps.insert old.txs t tx } → EndsAtBeginning tx.rollback → AbortsWhole old.txs → Move old called new
  known t tx there is first all = WentBack t zero 0 (maps.insert old.txs t tx) there (omega arith)
      (is ∙ (λ i. record old { history = sym (take_newest-none old.history t zero) i; txs = maps.insert old.txs t tx }))
      (same_open old.txs t tx there) (whole_insert old.txs t tx first all) no_record no_begin

  back : (t p : ℕ) (tx : Tx) → open_of old t ≡ true → new ≡ record old { history = take_back old.history t p; txs = maps.insert old.txs t tx } → EndsAtBeginning tx.rollback → AbortsWhole old.txs → Move old called new
  back t p tx there is first all = WentBack t p (live_from old.history t p) (maps.insert old.txs t tx) there (omega arith)
      (is ∙ (λ i. record old { history = taken_all old.history t p i; txs = maps.insert old.txs t tx }))
      (same_open old.txs t tx there) (whole_insert old.txs t tx first all) no_record no_begin

  -- a rollback under way is over
  resumed : (t : ℕ) → AbortsWhole old.txs → rolling_refusal (phase_at old t) ≡ None → new ≡ record old { history = take_back old.history t (rolling_place (tx_of old t)); txs = finished old.txs t (tx_of old t) } → Move old called new
  resumed t all refused is = at (tx_of old t) refl refused is
    where
      ends : (tx : Tx) (r : Rollback) → tx_of old t ≡ Some tx → tx.rollback ≡ Some r → (b : Bool) → r.ends ≡ b → new ≡ record old { history = take_back old.history t r.to; txs = if b then maps.remove old.txs t else maps.insert old.txs t (active_with tx.places) } → Move old called new
      ends tx r tx_is is true over becomes =
          let first : r.to ≡ 0 = subst EndsAtBeginning is (subst IsWholeTx tx_is (all t)) over in
          Ended t (ap is_some tx_is) (becomes ∙ (λ i. record old { history = take_back old.history t (first i); txs = maps.remove old.txs t })) no_record no_begin
      ends tx r tx_is is false over becomes = back t r.to (active_with tx.places) (ap is_some tx_is) becomes tt all

      by : (tx : Tx) → tx_of old t ≡ Some tx → (r : Option Rollback) → tx.rollback ≡ r → rolling_refusal (Some (rollback_phase r)) ≡ None → new ≡ record old { history = take_back old.history t (to_of r); txs = finished_by old.txs t tx.places r } → Move old called new
      by tx tx_is None is refused becomes = absurd (cc)
      by tx tx_is (Some r) is refused becomes = ends tx r tx_is is r.ends refl becomes

      at : (o : Option Tx) → tx_of old t ≡ o → rolling_refusal (option_map phase_of o) ≡ None → new ≡ record old { history = take_back old.history t (rolling_place o); txs = finished old.txs t o } → Move old called new
      at None tx_is refused becomes = absurd (cc)
      at (Some tx) tx_is refused becomes = by tx tx_is tx.rollback refl refused becomes

-- an accepted put or claim
record Placed (f new : File) (t : ℕ) (x : List ℕ) (before : Option (List ℕ)) (after : Option (Option (List ℕ))) : Type 0 where
  free : key_refusal true f t x ≡ None
  room : is_full f x ≡ false
  stood : before ≡ get (records_of f) x
  file : new ≡ with_change f t x after

placed : (old new : Seen) (t : TxId) (x : List ℕ) (before : Option (List ℕ)) (after : Option (Option (List ℕ))) → key_refusal true old.file t.0 x ≡ None → IsTrue old.sound → IsTrue new.sound → IsKeptSeen old → IsKeptSeen new → new.file.opening ≡ old.file.opening → Accepts old.file old.log (key_change t x before after) new.file new.log → Placed old.file new.file t.0 x before after
placed old new t x before after free sound still was is opening accepted =
    let file = becomes old.file new.file _ _ accepted.history opening in
    record {
      free = free;
      room = accepted_not_full old.file t.0 x after (put_open old.file t.0 x free) (subst (λ (f : File). len (charged_of f) ≤ f.limits.records) file (is.within still));
      stood = accepted_stood old new t x before after sound still was is opening accepted;
      file = file;
    }

move_called : (old new : Seen) (called : Called) (failed refused : Bool) → IsTrue old.sound → IsTrue new.sound → IsKeptSeen old → IsKeptSeen new → AbortsWhole old.file.txs → Answers old called failed refused new → Move old.file called new.file
move_called old new (Begin (Ok tx)) failed refused sound still was is all step = Began tx refl step.1
move_called old new (Begin (Err begin_faults.BeginsSpent)) failed refused sound still was is all step = Still step.1.1 refl refl
move_called old new (Begin (Err begin_faults.Memory)) failed refused sound still was is all step = Still step.1.1 refl refl
move_called old new (Put t x r (Ok before)) failed refused sound still was is all step = let a = placed old new t x before (Some (Some r)) (unrefused (new ≡ old) (key_refusal true old.file t.0 x) step.1.refused) sound still was is (step.1.opening sound) step.1.accepted in PutIn t x r before refl a.free a.room a.stood a.file
move_called old new (Put t x r (Err fault)) failed refused sound still was is all step = Still step.1.err.1 refl refl
move_called old new (Claim t x (Ok before)) failed refused sound still was is all step = let a = placed old new t x before None (unrefused (new ≡ old) (key_refusal true old.file t.0 x) step.1.refused) sound still was is (step.1.opening sound) step.1.accepted in ClaimIn t x before refl a.free a.room a.stood a.file
move_called old new (Claim t x (Err fault)) failed refused sound still was is all step = Still step.1.err.1 refl refl
move_called old new (Remove t x (Ok before)) failed refused sound still was is all step =
    let opening = step.1.opening sound in
    TookOut t x before refl (unrefused (new ≡ old) (key_refusal true old.file t.0 x) step.1.refused) (sym (accepted_stood old new t x (Some before) (Some None) sound still was is opening step.1.accepted)) (becomes old.file new.file _ _ step.1.accepted.history opening)
move_called old new (Remove t x (Err fault)) failed refused sound still was is all step = Still step.1.err.1 refl refl
move_called old new (Get t x answer) failed refused sound still was is all step = Still step.1.same.1 refl refl
move_called old new (Savepoint t (Ok n)) failed refused sound still was is all step =
    known old.file new.file (Savepoint t (Ok n)) refl refl t.0 _ (some_phase (tx_of old.file t.0) (λ none. no_refusal _ _ (ap (active_refusal _) none) step.1.0)) step.1.2 tt all
move_called old new (Savepoint t (Err fault)) failed refused sound still was is all step = Still step.1.1 refl refl
move_called old new (Release t n (Ok done)) failed refused sound still was is all step =
    known old.file new.file (Release t n (Ok done)) refl refl t.0 _ (some_phase (tx_of old.file t.0) (λ none. no_refusal _ _ (ap (active_refusal _) none) step.1.0)) step.1.1 tt all
move_called old new (Release t n (Err fault)) failed refused sound still was is all step = Still step.1.1 refl refl
move_called old new (RollbackTo t n (Ok undone)) failed refused sound still was is all step =
    back old.file new.file (RollbackTo t n (Ok undone)) refl refl t.0 _ _ (some_phase (tx_of old.file t.0) (λ none. no_refusal _ _ (ap (active_refusal _) none) step.1.rolled.0)) (becomes old.file new.file _ _ step.1.rolled.1.1 (step.1.opening sound)) tt all
move_called old new (RollbackTo t n (Err rollback_faults.NoSuchTx)) failed refused sound still was is all step = Still step.1.rolled.1 refl refl
move_called old new (RollbackTo t n (Err rollback_faults.Rolling)) failed refused sound still was is all step = Still step.1.rolled.1 refl refl
move_called old new (RollbackTo t n (Err rollback_faults.NoSuchSave)) failed refused sound still was is all step = Still step.1.rolled.1 refl refl
move_called old new (RollbackTo t n (Err (rollback_faults.Stopped undone left cause))) failed refused sound still was is all step =
    let there = some_phase (tx_of old.file t.0) (λ none. no_refusal _ _ (ap (active_refusal _) none) step.1.rolled.0) in
    let few = step.1.rolled.1.0 in
    WentBack t.0 _ undone _ there (omega (arith, few)) (becomes old.file new.file _ _ step.1.rolled.1.2 (step.1.opening sound)) (same_open old.file.txs t.0 _ there) (whole_insert old.file.txs t.0 (rolling_to (places_at old.file t.0) n false) (λ ends. absurd (cc ends)) all) refl refl
move_called old new (Abort t (Ok undone)) failed refused sound still was is all step =
    Ended t.0 (some_phase (tx_of old.file t.0) (λ none. no_refusal _ _ (ap (active_refusal None) none) step.1.rolled.0)) (becomes old.file new.file _ _ step.1.rolled.1.1 (step.1.opening sound)) refl refl
move_called old new (Abort t (Err abort_faults.NoSuchTx)) failed refused sound still was is all step = Still step.1.rolled.1 refl refl
move_called old new (Abort t (Err abort_faults.Rolling)) failed refused sound still was is all step = Still step.1.rolled.1 refl refl
move_called old new (Abort t (Err (abort_faults.Stopped undone left cause))) failed refused sound still was is all step =
    let there = some_phase (tx_of old.file t.0) (λ none. no_refusal _ _ (ap (active_refusal None) none) step.1.rolled.0) in
    let few = step.1.rolled.1.0 in
    WentBack t.0 _ undone _ there (omega (arith, few)) (becomes old.file new.file _ _ step.1.rolled.1.2 (step.1.opening sound)) (same_open old.file.txs t.0 _ there) (whole_insert old.file.txs t.0 (rolling_to (places_at old.file t.0) zero true) (λ ends. refl) all) refl refl
move_called old new (Resume t (Ok undone)) failed refused sound still was is all step =
    resumed old.file new.file (Resume t (Ok undone)) refl refl t.0 all step.1.rolled.0 (becomes old.file new.file _ _ step.1.rolled.1.1 (step.1.opening sound))
move_called old new (Resume t (Err resume_faults.NoSuchTx)) failed refused sound still was is all step = Still step.1.rolled.1 refl refl
move_called old new (Resume t (Err resume_faults.NotRolling)) failed refused sound still was is all step = Still step.1.rolled.1 refl refl
move_called old new (Resume t (Err (resume_faults.Stopped undone left cause))) failed refused sound still was is all step =
    let there = some_phase (tx_of old.file t.0) (λ none. no_refusal _ _ (ap rolling_refusal none) step.1.rolled.0) in
    let few = step.1.rolled.1.0 in
    WentBack t.0 _ undone old.file.txs there (omega (arith, few)) (becomes old.file new.file _ _ step.1.rolled.1.2 (step.1.opening sound)) (λ q. refl) all refl refl
move_called old new (Commit t (Ok done)) failed refused sound still was is all step = Committed t done refl step.1
move_called old new (Commit t (Err fault)) failed refused sound still was is all step = Still step.1.1 refl refl
move_called old new (Entries answer) failed refused sound still was is all step = Still step.1.same.1 refl refl
move_called old new (Beside side gap answer) failed refused sound still was is all step = Still step.1.same.1 refl refl
move_called old new (EntriesBeside side gap answer) failed refused sound still was is all step = Still step.1.same.1 refl refl
move_called old new (CommittedAt x answer) failed refused sound still was is all step = Still step.1.same.1 refl refl
move_called old new (KeysOf t answer) failed refused sound still was is all step = Still (ap (λ (s : Seen). s.file) step.0.2) refl refl
move_called old new (StatusOf t answer) failed refused sound still was is all step = Still (ap (λ (s : Seen). s.file) step.0.2) refl refl
move_called old new (Charged count) failed refused sound still was is all step = Still (ap (λ (s : Seen). s.file) step.0.2) refl refl
move_called old new (Begun count) failed refused sound still was is all step = Still (ap (λ (s : Seen). s.file) step.0.2) refl refl
move_called old new (LogLen count) failed refused sound still was is all step = Still (ap (λ (s : Seen). s.file) step.0.2) refl refl
move_called old new (LogUse count) failed refused sound still was is all step = Still (ap (λ (s : Seen). s.file) step.0.2) refl refl
move_called old new (RecordAt lsn answer) failed refused sound still was is all step = Still (ap (λ (s : Seen). s.file) step.0.2) refl refl
move_called old new (IntoTable answer) failed refused sound still was is all step = Still (ap (λ (s : Seen). s.file) step.0.2) refl refl

-- each event over a sound table is one of eight kinds
pub move_of : (old new : Seen) (e : Event) → IsTrue old.sound → Step old e new → Move old.file e.called new.file
move_of old new e sound step = move_called old new e.called e.failed e.refused sound (step.happens.sound ∙ sound) step.kept step.keeps step.kept.whole step.happens.answer
