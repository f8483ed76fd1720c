-- What a step can't be.
use Rattle.std.proofs.Common.{◌≡◌, ℕ, ◌+◌, ◌≤◌, zero, suc, Bool, List, [], ◌∷◌, length, Ok, sym, ap, ◌∙◌, arith}
use Rattle.rec_types.specs.History.{Change, live_from, take_newest, log_len}
use Rattle.rec_types.specs.declared.transaction.TxId.{TxId}
use Rattle.rec_types.proofs.HistoryLemmas.{live_from-first, live_from-take_newest, take_newest-none, take_newest-more}
use Rattle.rec_types.proofs.LogUseLemmas.{log_len-undo_last}
use Rattle.tx_log.specs.Log.{lsn_of, prev_of}
use Rattle.tx_log.specs.Transactions.{place_of_savepoint}
use Rattle.tx_log.specs.declared.log_record.LogRecord.{LogRecord}
use Rattle.record_file.specs.Abstract.{File}
use Rattle.record_file.specs.Runs.{Seen, Step, IsKeptSeen, RollbackTo}
use Rattle.record_file.specs.Steps.{places_at}
use Rattle.record_file.proofs.CallKindLemmas.{taken_all}

-- the log is one record longer for each change that was taken back
log_len_back : (h : List Change) (t p n : ℕ) → n ≤ live_from h t p → log_len (take_newest h t p n) ≡ log_len h + n
log_len_back h t p zero le = ap log_len (take_newest-none h t p) ∙ omega arith
log_len_back h t p (suc n) le =
    let older = take_newest h t p n in
    let some = live_from-first older t p in
    let left = live_from-take_newest h t p n in
    ap log_len (take_newest-more h t p n (omega (arith, le)))
    ∙ log_len-undo_last t older (omega (arith, some, left, le))
    ∙ (let before = log_len_back h t p n (omega (arith, le)) in omega (arith, before))

-- the log is as long as the history tells
log_long : (s : Seen) → IsKeptSeen s → log_len s.file.history ≡ length s.log
log_long s kept = ap log_len (sym kept.chained.2) ∙ kept.chained.1.whole

-- a finished rollback logs each change that it took back
pub logs_each : (old new : Seen) (failed refused : Bool) (t : TxId) (n undone : ℕ) → Step old (record { called = RollbackTo t n (Ok undone); failed = failed; refused = refused }) new → length new.log ≡ length old.log + undone
logs_each old new failed refused t n undone step =
    let p = place_of_savepoint (places_at old.file t.0) n in
    let rolled = step.happens.answer.1.rolled.1 in
    let grown = ap (λ (f : File). log_len f.history) rolled.1 ∙ ap log_len (taken_all old.file.history t.0 p) ∙ log_len_back old.file.history t.0 p (live_from old.file.history t.0 p) (omega arith) in
    omega (arith, grown, rolled.0, log_long old step.kept, log_long new step.keeps)

-- the same first record has the same numbers
pub first_lsn : (a b : LogRecord) → a ∷ [] ≡ b ∷ [] → lsn_of a ≡ lsn_of b
first_lsn a b is = let same : a ≡ b = cc in ap lsn_of same

pub first_prev : (a b : LogRecord) → a ∷ [] ≡ b ∷ [] → prev_of a ≡ prev_of b
first_prev a b is = let same : a ≡ b = cc in ap prev_of same
