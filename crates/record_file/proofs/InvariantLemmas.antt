-- What each change of the log keeps of the file's invariant.
use Rattle.std.proofs.Common.{◌≡◌, ℕ, ◌+◌, ◌≤◌, ◌<◌, Bool, true, false, cond, if◌then◌else◌, nat_lt, length, reverse, List, [], ◌∷◌, ◌++◌, Option, Some, None, is_some, refl, sym, ap, subst, ◌∙◌, IsTrue, arith, option_map, Result, Ok, Err, OnOk, OnErr}
use Rattle.std.specs.FinMap as maps
use Rattle.std.specs.FinMap.{get, len}
use Rattle.rec_types.specs.Contents.{Contents, write_to, has}
use Rattle.rec_types.specs.LimitBounds.{Bounds}
use Rattle.rec_types.specs.History.{Change, log_len, live_from, undo_last}
use Rattle.rec_types.proofs.HistoryLemmas.{newest_from-some, newest_from-live, history-undone}
use Rattle.std.proofs.lemmas.Bool.Decides.{nat_tests}
use Rattle.rec_types.specs.Kept.{Kept, back_of, newest_live, newest_from, undone, history_of, opening_of}
use Rattle.tx_log.specs.Transactions.{Transactions, Tx, is_open, fresh, left_in, left_to_undo}
use Rattle.tx_log.specs.declared.phase.Rollback.{Rollback}
use Rattle.tx_log.specs.declared.phase.BeginFault.{BeginFault}
use Rattle.rec_types.specs.declared.transaction.TxId.{TxId}
use Rattle.tx_log.specs.Owners.{charged}
use Rattle.tx_log.specs.LogState.{LogState, IsLog, new_log, open_in, history_in, phase_in, phase_of, update_in, tx_in, undo_in, undo_of, undo_from, step_of, undo_step, compensations_in, compensations_of, prev_in, finished, finished_by, active_with}
use Rattle.tx_log.specs.declared.phase.Phase.{Phase}
use Rattle.tx_log.specs.Log.{key_of_record, new_of, change_record, back_record, last_of, record_at}
use Rattle.tx_log.specs.declared.phase.UndoStep.{UndoStep}
use Rattle.tx_log.specs.declared.log_record.LogRecord.{LogRecord}
use Rattle.record_file.specs.Abstract.{EndsAtBeginning, AbortsWhole, File, Fits, IsRecordFile, written, Told, AllTold, file_of, with_change}
use Rattle.record_file.specs.Steps.{Accepts, key_change}
use Rattle.record_file.specs.TableCalls.{undone_by, step_key}
use Rattle.record_file.proofs.OpenTxLemmas.{same_tx, same_tx-is, open-insert, open-remove}
use Rattle.record_file.proofs.WholeTxLemmas.{whole_empty, whole_insert, whole_remove, whole_finished}
use Rattle.record_file.proofs.FileLemmas.{change, history-push, put_file, undo_file, opening_put, opening_undo, fits_put, fits_undo, charged_put, charged_undo, charged_within}

-- of the transactions 1 to n none opens
abbrev pub OpensNone : Transactions → Transactions → ℕ → Type 0
OpensNone old new n = (t : ℕ) → t ≤ n → IsTrue (is_open new t) → IsTrue (is_open old t)

-- a transaction that begins leaves that no later number is open
pub none_by_new : (txs : Transactions) (n : ℕ) (tx : Tx) → OpensNone txs (maps.insert txs (n + 1) tx) n
none_by_new txs n tx t le is = at (same_tx t (n + 1)) refl (sym (open-insert txs (n + 1) tx t) ∙ is)
  where
    at : (b : Bool) → same_tx t (n + 1) ≡ b → cond b true (is_open txs t) ≡ true → is_open txs t ≡ true
    at true same is = absurd (omega (arith, same_tx-is t (n + 1) same))
    at false apart is = is

-- writing an open one leaves it
pub none_by_known : (txs : Transactions) (n known : ℕ) (tx : Tx) → IsTrue (is_open txs known) → OpensNone txs (maps.insert txs known tx) n
none_by_known txs n known tx there t le is = at (same_tx t known) refl (sym (open-insert txs known tx t) ∙ is)
  where
    at : (b : Bool) → same_tx t known ≡ b → cond b true (is_open txs t) ≡ true → is_open txs t ≡ true
    at true same is = ap (is_open txs) (same_tx-is t known same) ∙ there
    at false apart is = is

-- ending one leaves it
pub none_by_end : (txs : Transactions) (n t : ℕ) → OpensNone txs (maps.remove txs t) n
none_by_end txs n ended t le is = at (same_tx t ended) (sym (open-remove txs ended t) ∙ is)
  where
    at : (b : Bool) → cond b false (is_open txs t) ≡ true → is_open txs t ≡ true
    at true is = absurd (cc)
    at false is = is

-- a transaction that has a phase is open
pub open_by_phase : (o : Option Tx) (p : Phase) → option_map phase_of o ≡ Some p → is_some o ≡ true
open_by_phase None p is = absurd (cc)
open_by_phase (Some tx) p is = refl

-- the log after a change was accepted
abbrev pub accepted : LogState → TxId → List ℕ → Option (List ℕ) → Option (Option (List ℕ)) → LogState
accepted s t x before w = record s { records = s.records ++ update_in s t x before w ∷ []; changes = s.changes ++ record { lsn = log_len (history_in s) + 1; tx = t.0; key = x; before = before; after = w; live = true } ∷ []; room = None }

-- the log after a change was taken back
abbrev pub compensated : LogState → TxId → LogState
compensated s t = record s { records = s.records ++ compensations_in s t; changes = undone t.0 s.changes; room = None }

written-push : (rs : List LogRecord) (r : LogRecord) (m : Contents) → written m (rs ++ r ∷ []) ≡ write_to (written m rs) (key_of_record r) (new_of r)
written-push [] r m = refl
written-push (s ∷ rs) r m = written-push rs r (write_to m (key_of_record s) (new_of s))

all_told_push : (rs : List LogRecord) (r : LogRecord) (m : Contents) → AllTold m rs → Told (written m rs) r → AllTold m (rs ++ r ∷ [])
all_told_push [] r m told tells = (tells, tt)
all_told_push (s ∷ rs) r m told tells = (told.0, all_told_push rs r (write_to m (key_of_record s) (new_of s)) told.1 tells)

-- one more record, which tells what stands at its key
pub told_push : (rs : List LogRecord) (r : LogRecord) (b c now : Contents) (x : List ℕ) (w : Option (Option (List ℕ))) → b ≡ c → key_of_record r ≡ x → new_of r ≡ w → Told now r → (now ≡ written b rs) × AllTold b rs → (write_to now x w ≡ written c (rs ++ r ∷ [])) × AllTold c (rs ++ r ∷ [])
told_push rs r b c now x w same key new tells told =
    subst (λ (n : Contents). (write_to now x w ≡ written n (rs ++ r ∷ [])) × AllTold n (rs ++ r ∷ [])) same (
      (λ i. write_to (told.0 i) (sym key i) (sym new i)) ∙ sym (written-push rs r b),
      all_told_push rs r b told.1 (subst (λ (n : Contents). Told n r) told.0 tells),
    )

-- the record of a change tells of it
pub key_made : (lsn prev : ℕ) (t : TxId) (x : List ℕ) (before : Option (List ℕ)) (w : Option (Option (List ℕ))) → key_of_record (change_record lsn prev t x before w) ≡ x
key_made lsn prev t x before None = refl
key_made lsn prev t x before (Some w) = refl

pub new_made : (lsn prev : ℕ) (t : TxId) (x : List ℕ) (before : Option (List ℕ)) (w : Option (Option (List ℕ))) → new_of (change_record lsn prev t x before w) ≡ w
new_made lsn prev t x before None = refl
new_made lsn prev t x before (Some w) = refl

pub told_made : (lsn prev : ℕ) (t : TxId) (x : List ℕ) (before : Option (List ℕ)) (w : Option (Option (List ℕ))) (now : Contents) → before ≡ get now x → Told now (change_record lsn prev t x before w)
told_made lsn prev t x before None now is = is
told_made lsn prev t x before (Some w) now is = is

-- and that of one that is taken back
key_back : (lsn prev : ℕ) (t : TxId) (x : List ℕ) (w : Option (Option (List ℕ))) (next : ℕ) → key_of_record (back_record lsn prev t x w next) ≡ x
key_back lsn prev t x None next = refl
key_back lsn prev t x (Some w) next = refl

new_back : (lsn prev : ℕ) (t : TxId) (x : List ℕ) (w : Option (Option (List ℕ))) (next : ℕ) → new_of (back_record lsn prev t x w next) ≡ w
new_back lsn prev t x None next = refl
new_back lsn prev t x (Some w) next = refl

told_back : (lsn prev : ℕ) (t : TxId) (x : List ℕ) (w : Option (Option (List ℕ))) (next : ℕ) (now : Contents) → Told now (back_record lsn prev t x w next)
told_back lsn prev t x None next now = tt
told_back lsn prev t x (Some w) next now = tt

-- what the record of a change wrote
pub change_written : (m : Contents) (lsn prev : ℕ) (t : TxId) (x : List ℕ) (before : Option (List ℕ)) (w : Option (Option (List ℕ))) → write_to m x w ≡ write_to m (key_of_record (change_record lsn prev t x before w)) (new_of (change_record lsn prev t x before w))
change_written m lsn prev t x before None = refl
change_written m lsn prev t x before (Some w) = refl

-- what the record of a change that was taken back wrote
pub back_written : (m : Contents) (lsn prev : ℕ) (t : TxId) (x : List ℕ) (w : Option (Option (List ℕ))) (next : ℕ) → write_to m (key_of_record (back_record lsn prev t x w next)) (new_of (back_record lsn prev t x w next)) ≡ write_to m x w
back_written m lsn prev t x None next = refl
back_written m lsn prev t x (Some w) next = refl

-- the key of an undo step
pub key_of_step : (x : List ℕ) (w : Option (Option (List ℕ))) → step_key (step_of x w) ≡ x
key_of_step x None = refl
key_of_step x (Some w) = refl

-- what an undo step writes
pub undone_is : (m : Contents) (x : List ℕ) (w : Option (Option (List ℕ))) → undone_by m (step_of x w) ≡ write_to m x w
undone_is m x None = refl
undone_is m x (Some w) = refl

none_by_finished : (txs : Transactions) (n t : ℕ) (places : List ℕ) (r : Option Rollback) → IsTrue (is_open txs t) → OpensNone txs (finished_by txs t places r) n
none_by_finished txs n t places None there q le is = is
none_by_finished txs n t places (Some r) there q le is = at r.ends is
  where
    at : (ends : Bool) → IsTrue (is_open (if ends then maps.remove txs t else maps.insert txs t (active_with places)) q) → IsTrue (is_open txs q)
    at true is = none_by_end txs n t q le is
    at false is = none_by_known txs n t (active_with places) there q le is

-- a rollback that is over opens no transaction
pub none_by_finish : (txs : Transactions) (n t : ℕ) (o : Option Tx) → maps.get txs t ≡ o → OpensNone txs (finished txs t o) n
none_by_finish txs n t None is q le opened = opened
none_by_finish txs n t (Some tx) is q le opened = none_by_finished txs n t tx.places tx.rollback (ap is_some is) q le opened

-- what a rollback has left is there to be taken back: its transaction's newest live change
pub undo_there : (cs : List Kept) (t : ℕ) (o : Option Tx) → 0 < left_in (history_of cs) t o → (u : Kept) × (undo_of cs t o ≡ Some u) × (newest_live t cs ≡ Some u) × (is_some o ≡ true)
undo_there cs t None some = absurd (omega arith)
undo_there cs t (Some tx) some = at tx.rollback some
  where
    found : (p : ℕ) → 0 < live_from (history_of cs) t p → (o : Option Kept) → newest_from cs t p ≡ o → (u : Kept) × (newest_from cs t p ≡ Some u) × (newest_live t cs ≡ Some u)
    found p some None is = absurd (cc (sym (ap is_some is) ∙ newest_from-some cs t p ∙ nat_lt_of 0 (live_from (history_of cs) t p) some))
      where
        nat_lt_of : (a b : ℕ) → a < b → nat_lt a b ≡ true
        nat_lt_of a b lt = grind (arith, nat_tests)
    found p some (Some u) is = (u, is, newest_from-live cs t p u is)

    at : (r : Option Rollback) → 0 < left_to_undo (history_of cs) t r → (u : Kept) × (undo_from cs t r ≡ Some u) × (newest_live t cs ≡ Some u) × (is_some (Some tx) ≡ true)
    at None some = absurd (omega arith)
    at (Some r) some = let u = found r.to some (newest_from cs t r.to) refl in (u.0, u.1, u.2, refl)

-- a table that isn't sound may hold anything
record_over : (sound : Bool) (now now2 : Contents) (limit : ℕ) (log : LogState) → (IsTrue sound → now2 ≡ now) → IsRecordFile sound now limit log → IsRecordFile sound now2 limit log
record_over sound now now2 limit log same old = record {
  limited = old.limited;
  whole = old.whole;
  fits = λ is. subst (λ (m : Contents). Fits log.changes m) (sym (same is)) (old.fits is);
  told = λ is. subst (λ (m : Contents). (m ≡ written (opening_of log.changes m) log.records) × AllTold (opening_of log.changes m) log.records) (sym (same is)) (old.told is);
  within = λ is. subst (λ (m : Contents). len (charged (open_in log) (history_in log) m) ≤ log.limits.records) (sym (same is)) (old.within is);
}

-- nothing has happened
pub file_new : (sound : Bool) (now : Contents) (limit : ℕ) (limits : Bounds) (log : LogState) → log ≡ new_log limits → limit ≡ limits.records → (IsTrue sound → len now ≤ limit) → IsRecordFile sound now limit log
file_new sound now limit limits log new is few = subst (IsRecordFile sound now limit) (sym new) (record {
  limited = is;
  whole = whole_empty;
  fits = λ here. record { replayed = refl; befores = tt };
  told = λ here. (refl, tt);
  within = λ here. omega (arith, few here, is);
})

module _ (sound : Bool) (now : Contents) (limit : ℕ) (log : LogState) (old : IsRecordFile sound now limit log) (kept : IsLog log) where
  -- other transactions are open, and none of those begun before opens
  pub file_txs : (txs : Transactions) (begun : ℕ) (room : Option (List ℕ)) → OpensNone log.txs txs log.begun → AbortsWhole txs → IsRecordFile sound now limit (record log { txs = txs; begun = begun; room = room })
  file_txs txs begun room none whole = record {
    limited = old.limited;
    whole = whole;
    fits = old.fits;
    told = old.told;
    within = λ is. charged_within (open_in log) (is_open txs) log.begun log.changes now log.limits.records none kept.begun (old.within is);
  }

  -- the room for a change
  pub file_room : (room : Option (List ℕ)) → IsRecordFile sound now limit (record log { room = room })
  file_room room = record { limited = old.limited; whole = old.whole; fits = old.fits; told = old.told; within = old.within }

  -- one more live change, put into the table
  pub file_put : (room : Option (List ℕ)) (r : LogRecord) (lsn t : ℕ) (x : List ℕ) (before : Option (List ℕ)) (w : Option (Option (List ℕ))) → key_of_record r ≡ x → new_of r ≡ w → (IsTrue sound → Told now r) → (IsTrue sound → before ≡ get now x) → (IsTrue sound → has (charged (open_in log) (history_in log) now) x ≡ false → len (charged (open_in log) (history_in log) now) < log.limits.records)
      → IsRecordFile sound (write_to now x w) limit (record log { records = log.records ++ r ∷ []; changes = log.changes ++ change lsn t x before w ∷ []; room = room })
  file_put room r lsn t x before w key new tells stood room_for = record {
    limited = old.limited;
    whole = old.whole;
    fits = λ is. fits_put log.changes now lsn t x before w (old.fits is) (stood is);
    told = λ is. told_push log.records r (opening_of log.changes now) (opening_of (log.changes ++ change lsn t x before w ∷ []) (write_to now x w)) now x w (sym (opening_put log.changes now lsn t x before w (stood is))) key new (tells is) (old.told is);
    within = λ is. charged_put (open_in log) log.changes now log.limits.records lsn t x before w (old.within is) (room_for is);
  }

  -- the newest live change of an open transaction taken back, in the table too
  pub file_undo : (room : Option (List ℕ)) (r : LogRecord) (t : ℕ) (u : Kept) → key_of_record r ≡ u.key → new_of r ≡ back_of u → Told now r → IsTrue (open_in log t) → newest_live t log.changes ≡ Some u → IsRecordFile sound (write_to now u.key (back_of u)) limit (record log { records = log.records ++ r ∷ []; changes = undone t log.changes; room = room })
  file_undo room r t u key new tells open_t newest = record {
    limited = old.limited;
    whole = old.whole;
    fits = λ is. fits_undo (open_in log) log.changes now t u kept.owned open_t newest (old.fits is);
    told = λ is. told_push log.records r (opening_of log.changes now) (opening_of (undone t log.changes) (write_to now u.key (back_of u))) now u.key (back_of u) (sym (opening_undo t log.changes u now newest)) key new tells (old.told is);
    within = λ is. charged_undo (open_in log) log.changes now log.limits.records t u open_t newest (old.within is);
  }

  -- a transaction is begun, or none is
  pub file_begun : (answer : Result TxId BeginFault) (new : LogState) → OnOk answer (new ≡ record log { begun = log.begun + 1; txs = maps.insert log.txs (log.begun + 1) fresh; room = None }) → OnErr answer (new ≡ record log { room = None }) → IsRecordFile sound now limit new
  file_begun (Ok tx) new ok err = subst (λ (s : LogState). IsRecordFile sound now limit s) (sym ok) (file_txs (maps.insert log.txs (log.begun + 1) fresh) (log.begun + 1) None (none_by_new log.txs log.begun fresh) (whole_insert log.txs (log.begun + 1) fresh tt old.whole))
  file_begun (Err fault) new ok err = subst (λ (s : LogState). IsRecordFile sound now limit s) (sym err) (file_room None)

  -- what is known of an open transaction changed
  pub file_known : (t : ℕ) (p : Phase) (answer : Option Phase) (tx : Tx) (new : LogState) → EndsAtBeginning tx.rollback → answer ≡ phase_in log t → answer ≡ Some p → new ≡ record log { txs = maps.insert log.txs t tx; room = None } → IsRecordFile sound now limit new
  file_known t p answer tx new here told is after = subst (λ (s : LogState). IsRecordFile sound now limit s) (sym after) (file_txs (maps.insert log.txs t tx) log.begun None (none_by_known log.txs log.begun t tx (open_by_phase (maps.get log.txs t) p (sym told ∙ is))) (whole_insert log.txs t tx here old.whole))

  -- a transaction ended
  pub file_ended : (t : ℕ) (new : LogState) → new ≡ record log { txs = maps.remove log.txs t; room = None } → IsRecordFile sound now limit new
  file_ended t new after = subst (λ (s : LogState). IsRecordFile sound now limit s) (sym after) (file_txs (maps.remove log.txs t) log.begun None (none_by_end log.txs log.begun t) (whole_remove log.txs t old.whole))

  -- the log after room was made at the key and a change was accepted there
  pub change_kept : (sound2 : Bool) (limit2 : ℕ) (now2 : Contents) (log1 log2 : LogState) (t : TxId) (x : List ℕ) (before told : Option (List ℕ)) (w : Option (Option (List ℕ))) → sound2 ≡ sound → limit2 ≡ limit → log1 ≡ record log { room = Some x } → (IsTrue sound → now2 ≡ write_to now x w) → (IsTrue sound → before ≡ get now x) → told ≡ before → log2 ≡ accepted log1 t x told w
      → (IsTrue sound → has (charged (open_in log) (history_in log) now) x ≡ false → len (charged (open_in log) (history_in log) now) < log.limits.records) → IsRecordFile sound2 now2 limit2 log2
  change_kept sound2 limit2 now2 log1 log2 t x before told w sound_is limit_is reserved put stood copied accepts room_for =
      let after : log2 ≡ accepted (record log { room = Some x }) t x told w = accepts ∙ ap (λ (s : LogState). accepted s t x told w) reserved in
      subst (λ (s : Bool). IsRecordFile s now2 limit2 log2) (sym sound_is)
      (subst (λ (n : ℕ). IsRecordFile sound now2 n log2) (sym limit_is)
      (record_over sound (write_to now x w) now2 limit log2 put
      (subst (λ (s : LogState). IsRecordFile sound (write_to now x w) limit s) (sym after)
      (file_put None (update_in log t x told w) (log_len (history_in log) + 1) t.0 x told w (key_made _ _ t x told w) (new_made _ _ t x told w) (λ is. told_made _ _ t x told w now (copied ∙ stood is)) (λ is. copied ∙ stood is) room_for))))

  pub change_file : (now2 : Contents) (log1 log2 : LogState) (t : TxId) (x : List ℕ) (before told : Option (List ℕ)) (w : Option (Option (List ℕ))) → log1 ≡ record log { room = Some x } → now2 ≡ write_to now x w → before ≡ get now x → told ≡ before → log2 ≡ accepted log1 t x told w → file_of log2 now2 ≡ with_change (file_of log now) t.0 x w
  change_file now2 log1 log2 t x before told w reserved put stood copied accepts =
      let after : log2 ≡ accepted (record log { room = Some x }) t x told w = accepts ∙ ap (λ (s : LogState). accepted s t x told w) reserved in
      (λ i. file_of (after i) (put i)) ∙ put_file log now (log.records ++ update_in log t x told w ∷ []) None (log_len (history_in log) + 1) t.0 x told w (copied ∙ stood)

  -- so it is over any table
  pub change_accepted : (now2 : Contents) (log1 log2 : LogState) (t : TxId) (x : List ℕ) (told : Option (List ℕ)) (w : Option (Option (List ℕ))) → log1 ≡ record log { room = Some x } → log2 ≡ accepted log1 t x told w → Accepts (file_of log now) log.records (key_change t x told w) (file_of log2 now2) log2.records
  change_accepted now2 log1 log2 t x told w reserved accepts =
      let c = change (log_len (history_in log) + 1) t.0 x told w in
      let after : log2 ≡ accepted (record log { room = Some x }) t x told w = accepts ∙ ap (λ (s : LogState). accepted s t x told w) reserved in
      record {
        history =
            ap (λ (s : LogState). file_of s now2) after
            ∙ ap (λ (h : List Change). let f : File = record { opening = opening_of (log.changes ++ c ∷ []) now2; history = h; begun = log.begun; txs = log.txs; limits = log.limits } in f) (history-push log.changes c)
            ∙ ap (λ (m : Contents). let f : File = record { opening = m; history = history_in log ++ record { tx = t.0; key = x; after = w; live = true } ∷ []; begun = log.begun; txs = log.txs; limits = log.limits } in f) (sym (ap (λ (s : LogState). opening_of s.changes now2) after));
        logged = ap (λ (s : LogState). s.records) after;
      }

  pub undo_becomes : (now2 : Contents) (log2 : LogState) (t : TxId) → log2 ≡ compensated log t → file_of log2 now2 ≡ record (file_of log now) { opening = (file_of log2 now2).opening; history = undo_last t.0 (history_in log) }
  undo_becomes now2 log2 t after =
      ap (λ (s : LogState). file_of s now2) after
      ∙ ap (λ (h : List Change). let f : File = record { opening = opening_of (undone t.0 log.changes) now2; history = h; begun = log.begun; txs = log.txs; limits = log.limits } in f) (history-undone t.0 log.changes)
      ∙ ap (λ (m : Contents). let f : File = record { opening = m; history = undo_last t.0 (history_in log); begun = log.begun; txs = log.txs; limits = log.limits } in f) (sym (ap (λ (s : LogState). opening_of s.changes now2) after))

  -- the record of a change that was taken back
  pub undo_record : (log2 : LogState) (t : TxId) (u : Kept) → undo_in log t.0 ≡ Some u → log2 ≡ compensated log t → log2.records ≡ log.records ++ back_record (length log.records + 1) (last_of t.0 (reverse log.records)) t u.key (back_of u) (prev_in (record_at log.records u.lsn)) ∷ []
  undo_record log2 t u next after = ap (λ (s : LogState). s.records) after ∙ ap (λ (o : Option Kept). log.records ++ compensations_of log t o) next

  -- a rollback is over
  pub file_finished : (t : ℕ) (new : LogState) → new ≡ record log { txs = finished log.txs t (tx_in log t); room = None } → IsRecordFile sound now limit new
  file_finished t new after = subst (λ (s : LogState). IsRecordFile sound now limit s) (sym after) (file_txs (finished log.txs t (tx_in log t)) log.begun None (none_by_finish log.txs log.begun t (tx_in log t) refl) (whole_finished log.txs t (tx_in log t) old.whole))

  -- the log after a change was taken back
  pub undo_kept : (sound2 : Bool) (limit2 : ℕ) (now2 : Contents) (log2 : LogState) (t : TxId) (u : Kept) (step : UndoStep) → sound2 ≡ sound → limit2 ≡ limit → undo_in log t.0 ≡ Some u → newest_live t.0 log.changes ≡ Some u → IsTrue (open_in log t.0) → step ≡ undo_step u → (IsTrue sound → now2 ≡ undone_by now step) → log2 ≡ compensated log t → IsRecordFile sound2 now2 limit2 log2
  undo_kept sound2 limit2 now2 log2 t u step sound_is limit_is next newest open_t is put after =
      subst (λ (s : Bool). IsRecordFile s now2 limit2 log2) (sym sound_is)
      (subst (λ (n : ℕ). IsRecordFile sound now2 n log2) (sym limit_is)
      (record_over sound (write_to now u.key (back_of u)) now2 limit log2 (λ here. put here ∙ ap (undone_by now) is ∙ undone_is now u.key (back_of u))
      (subst (λ (s : LogState). IsRecordFile sound (write_to now u.key (back_of u)) limit s) (sym (after ∙ ap (λ (o : Option Kept). let s : LogState = record log { records = log.records ++ compensations_of log t o; changes = undone t.0 log.changes; room = None } in s) next))
      (file_undo None (back_record (length log.records + 1) (last_of t.0 (reverse log.records)) t u.key (back_of u) (prev_in (record_at log.records u.lsn))) t.0 u (key_back _ _ t u.key (back_of u) _) (new_back _ _ t u.key (back_of u) _) (told_back _ _ t u.key (back_of u) _ now) open_t newest))))

  pub undo_file_is : (now2 : Contents) (log2 : LogState) (t : TxId) (u : Kept) (step : UndoStep) → newest_live t.0 log.changes ≡ Some u → step ≡ undo_step u → now2 ≡ undone_by now step → log2 ≡ compensated log t → file_of log2 now2 ≡ record (file_of log now) { history = undo_last t.0 (history_in log) }
  undo_file_is now2 log2 t u step newest is put after =
      (λ i. file_of (after i) ((put ∙ ap (undone_by now) is ∙ undone_is now u.key (back_of u)) i)) ∙ undo_file log now (log.records ++ compensations_in log t) None t.0 u newest

-- over a table that tells the same
pub file_same : (sound other : Bool) (now later : Contents) (limit most : ℕ) (log : LogState) → other ≡ sound → later ≡ now → most ≡ limit → IsRecordFile sound now limit log → IsRecordFile other later most log
file_same sound other now later limit most log sounds contents limits is =
    subst (λ b. IsRecordFile b later most log) (sym sounds) (subst (λ m. IsRecordFile sound m most log) (sym contents) (subst (λ n. IsRecordFile sound now n log) (sym limits) is))
