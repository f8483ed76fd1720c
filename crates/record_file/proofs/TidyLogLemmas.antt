-- What stays true of a file and its log that only begins, commits and changes have led to.
use Rattle.std.proofs.Common.{◌≡◌, ℕ, ◌+◌, ◌<◌, ◌≤◌, Bool, true, false, cond, ◌&&◌, ◌==◌, List, [], ◌∷◌, ◌++◌, length, reverse, Option, Some, None, is_some, refl, sym, ap, subst, ◌∙◌, IsTrue, arith}
use Rattle.std.proofs.lemmas.List.{reverse-append, length-reverse}
use Rattle.std.specs.List.{list_any}
use Rattle.std.specs.FinMap as maps
use Rattle.std.specs.FinMap.{get, get-empty, len}
use Rattle.std.specs.Ordering.{nat_cmp}
use Rattle.rec_types.specs.Contents.{Contents, write_to}
use Rattle.rec_types.specs.History.{Change, replay}
use Rattle.rec_types.specs.Kept.{Kept, change_of, history_of, BeforesFit, IsOwned, AllBegun}
use Rattle.rec_types.specs.declared.transaction.TxId.{TxId}
use Rattle.rec_types.proofs.TakeBackLemmas.{befores-push, begun-push, begun-more, owned-within}
use Rattle.tx_log.specs.Log.{last_of, kept_of, kept_by, change_record, IsNumbered, AllWritten, UndoesUnless, stack, tx_of_record}
use Rattle.tx_log.specs.LogState.{places_of}
use Rattle.tx_log.specs.Owners.{claims, owner_of, holder_of}
use Rattle.tx_log.specs.Transactions.{Tx, fresh, is_open, most_savepoints}
use Rattle.tx_log.specs.declared.log_record.LogRecord.{LogRecord}
use Rattle.tx_log.proofs.Chains.{last_of-le}
use Rattle.tx_log.proofs.LogLawLemmas.{is_chained}
use Rattle.tx_log.proofs.LogStepLemmas.{IsChangeOf, change_told_of}
use Rattle.tx_log.proofs.OwnerLemmas.{held-free, owned-push}
use Rattle.record_file.specs.Abstract.{AbortsWhole, File, AllTold, written, open_of, tx_of, use_of, held_by, records_of, charged_of, with_change}
use Rattle.record_file.specs.Asked.{Asked, after_asking}
use Rattle.record_file.specs.Runs.{Seen, IsKeptSeen}
use Rattle.record_file.specs.Undo.{Starts}
use Rattle.record_file.proofs.FileLemmas.{change, history-push, replay-push}
use Rattle.record_file.proofs.InvariantLemmas.{none_by_new, none_by_end, key_made, new_made, told_made, told_push}
use Rattle.record_file.proofs.OpenTxLemmas.{same_tx, same_tx-is, get-insert_tx, get-remove_tx, open-insert, open-remove}
use Rattle.record_file.proofs.OwnerLemmas.{owner_is}
use Rattle.record_file.proofs.WholeTxLemmas.{whole_empty, whole_insert, whole_remove}

-- what a change asks of a table that has room: a claim looks, a removal looks and sets, and a put sets
abbrev pub asked_by : Option (Option (List ℕ)) → Asked
asked_by None = record { looks = true; sets = false; no_room = false; lost = false }
asked_by (Some None) = record { looks = true; sets = true; no_room = false; lost = false }
asked_by (Some (Some r)) = record { looks = false; sets = true; no_room = false; lost = false }

-- the changes that the log tells of
abbrev logged : List LogRecord → List Kept
logged log = kept_of (reverse log)

pub record TidyLog (s : Seen) : Type 0 where
  pub replayed : s.records ≡ records_of s.file
  pub written : (s.records ≡ written s.file.opening s.log) × AllTold s.file.opening s.log
  pub numbered : IsNumbered (reverse s.log)
  pub follows : AllWritten (reverse s.log)
  pub history : history_of (logged s.log) ≡ s.file.history
  pub befores : BeforesFit s.file.opening (logged s.log)
  pub owned : IsOwned (open_of s.file) (logged s.log)
  pub all : AllBegun s.file.begun (logged s.log)
  pub opens : (t : ℕ) → IsTrue (open_of s.file t) → (0 < t) × (t ≤ s.file.begun)
  pub depths : (t : ℕ) → length (places_of (tx_of s.file t)) ≤ most_savepoints
  pub whole : AbortsWhole s.file.txs

-- a file is within its limits
pub record IsBounded (f : File) : Type 0 where
  pub within : len (charged_of f) ≤ f.limits.records
  pub used : use_of f ≤ f.limits.log_records
  pub begun : f.begun ≤ f.limits.begins

-- all that stays true of a file is true of it
pub tidy_kept : (s : Seen) → TidyLog s → IsBounded s.file → IsKeptSeen s
tidy_kept s tidy bounded = record {
  limited = refl;
  replayed = λ here. tidy.replayed;
  within = λ here. bounded.within;
  owned = λ t x owns. ap (λ (h : List Change). owner_of (open_of s.file) h x) (sym tidy.history)
      ∙ owner_is (open_of s.file) (logged s.log) t x tidy.owned (ap (λ (h : List Change). list_any (λ c. claims (open_of s.file) x c && (c.tx == t)) h) tidy.history ∙ owns);
  written = λ here. tidy.written;
  chained = (logged s.log, is_chained s.log tidy.numbered tidy.follows, tidy.history, λ here. tidy.befores);
  used = bounded.used;
  begun = bounded.begun;
  opens = tidy.opens;
  depths = tidy.depths;
  whole = tidy.whole;
}

-- a start has nothing in its log
pub start_tidy : (s : Seen) → Starts s → TidyLog s
start_tidy s start = subst TidyLog (λ i. let t : Seen = record s { file = sym start.file i; log = sym start.log i } in t) (record {
  replayed = refl;
  written = (refl, tt);
  numbered = tt;
  follows = tt;
  history = refl;
  befores = tt;
  owned = tt;
  all = tt;
  opens = λ t there. absurd (cc (sym (ap is_some (get-empty nat_cmp t)) ∙ there));
  depths = λ t. subst (λ (o : Option Tx). length (places_of o) ≤ most_savepoints) (sym (get-empty nat_cmp t)) (omega arith);
  whole = whole_empty;
})

module _ (s : Seen) (tidy : TidyLog s) where
  -- one more transaction was begun
  pub begun_tidy : (n : ℕ) → s.file.begun ≡ n → TidyLog (record s { file = record s.file { begun = n + 1; txs = maps.insert s.file.txs (n + 1) fresh } })
  begun_tidy n is = record {
    replayed = tidy.replayed;
    written = tidy.written;
    numbered = tidy.numbered;
    follows = tidy.follows;
    history = tidy.history;
    befores = tidy.befores;
    owned = owned-within (open_of s.file) (is_open (maps.insert s.file.txs (n + 1) fresh)) n (logged s.log) (none_by_new s.file.txs n fresh) all tidy.owned;
    all = begun-more n (n + 1) (logged s.log) (omega arith) all;
    opens = λ t there. opened t (same_tx t (n + 1)) refl (sym (open-insert s.file.txs (n + 1) fresh t) ∙ there);
    depths = λ t. subst (λ (o : Option Tx). length (places_of o) ≤ most_savepoints) (sym (get-insert_tx s.file.txs (n + 1) fresh t)) (few t (same_tx t (n + 1)));
    whole = whole_insert s.file.txs (n + 1) fresh tt tidy.whole;
  }
    where
      all : AllBegun n (logged s.log)
      all = subst (λ k. AllBegun k (logged s.log)) is tidy.all

      opened : (t : ℕ) (b : Bool) → same_tx t (n + 1) ≡ b → cond b true (open_of s.file t) ≡ true → (0 < t) × (t ≤ n + 1)
      opened t true same there = let here = same_tx-is t (n + 1) same in (omega (arith, here), omega (arith, here))
      opened t false apart there = let old = tidy.opens t there in (old.0, omega (arith, old.1, is))

      few : (t : ℕ) (b : Bool) → length (places_of (cond b (Some fresh) (tx_of s.file t))) ≤ most_savepoints
      few t true = omega arith
      few t false = tidy.depths t

  -- one has ended
  pub ended_tidy : (n : ℕ) → TidyLog (record s { file = record s.file { txs = maps.remove s.file.txs n } })
  ended_tidy n = record {
    replayed = tidy.replayed;
    written = tidy.written;
    numbered = tidy.numbered;
    follows = tidy.follows;
    history = tidy.history;
    befores = tidy.befores;
    owned = owned-within (open_of s.file) (is_open (maps.remove s.file.txs n)) s.file.begun (logged s.log) (none_by_end s.file.txs s.file.begun n) tidy.all tidy.owned;
    all = tidy.all;
    opens = λ t there. opened t (same_tx t n) (sym (open-remove s.file.txs n t) ∙ there);
    depths = λ t. subst (λ (o : Option Tx). length (places_of o) ≤ most_savepoints) (sym (get-remove_tx s.file.txs n t)) (few t (same_tx t n));
    whole = whole_remove s.file.txs n tidy.whole;
  }
    where
      opened : (t : ℕ) (b : Bool) → cond b false (open_of s.file t) ≡ true → (0 < t) × (t ≤ s.file.begun)
      opened t true there = absurd (cc)
      opened t false there = tidy.opens t there

      few : (t : ℕ) (b : Bool) → length (places_of (cond b None (tx_of s.file t))) ≤ most_savepoints
      few t true = omega arith
      few t false = tidy.depths t

  -- a change was made
  module _ (t : TxId) (x : List ℕ) (before : Option (List ℕ)) (after : Option (Option (List ℕ))) where
    -- the record of the change, with the next number
    abbrev pub next_record : LogRecord
    next_record = change_record (length s.log + 1) (last_of t.0 (reverse s.log)) t x before after

    -- the file after it
    abbrev pub made : Seen
    made = record s { file = with_change s.file t.0 x after; log = s.log ++ next_record ∷ []; records = write_to s.records x after; calls = after_asking s.calls (asked_by after) }

    told : IsChangeOf next_record (length s.log + 1) (last_of t.0 (reverse s.log)) t x before after
    told = change_told_of (length s.log + 1) (last_of t.0 (reverse s.log)) t x before after

    turned : reverse (s.log ++ next_record ∷ []) ≡ next_record ∷ reverse s.log
    turned = reverse-append s.log (next_record ∷ [])

    abbrev c : Kept
    c = change (length s.log + 1) t.0 x before after

    grown : logged (s.log ++ next_record ∷ []) ≡ logged s.log ++ c ∷ []
    grown = ap kept_of turned ∙ ap (λ b. kept_by b next_record (logged s.log)) told.up ∙ ap (λ (d : Kept). logged s.log ++ d ∷ []) told.told

    pub change_tidy : open_of s.file t.0 ≡ true → held_by s.file t.0 x ≡ None → before ≡ get (records_of s.file) x → TidyLog made
    change_tidy there free stood = record {
      replayed = ap (λ (m : Contents). write_to m x after) tidy.replayed ∙ sym (replay-push s.file.history (change_of c) s.file.opening);
      written = told_push s.log next_record s.file.opening s.file.opening s.records x after refl (key_made _ _ t x before after) (new_made _ _ t x before after) (told_made _ _ t x before after s.records (stood ∙ ap (λ (m : Contents). get m x) (sym tidy.replayed))) tidy.written;
      numbered = subst IsNumbered (sym turned) (
        told.lsn_is ∙ ap (λ n. n + 1) (sym (length-reverse s.log)),
        omega (arith, told.prev_is, last_of-le (reverse s.log) t.0 tidy.numbered),
        omega (arith, told.leads, last_of-le (reverse s.log) t.0 tidy.numbered),
        tidy.numbered,
      );
      follows = subst AllWritten (sym turned) (
        (told.prev_is ∙ ap (λ n. last_of n (reverse s.log)) (sym told.tx_is), subst (λ b. UndoesUnless b next_record (stack (tx_of_record next_record) (reverse s.log))) (sym told.up) tt),
        tidy.follows,
      );
      history = ap history_of grown ∙ history-push (logged s.log) c ∙ ap (λ (h : List Change). h ++ change_of c ∷ []) tidy.history;
      befores = subst (BeforesFit s.file.opening) (sym grown) (befores-push (logged s.log) c s.file.opening tidy.befores (stood ∙ ap (λ (h : List Change). get (replay s.file.opening h) x) (sym tidy.history)));
      owned = subst (IsOwned (open_of s.file)) (sym grown) (owned-push (open_of s.file) (logged s.log) c tidy.owned (held-free (open_of s.file) t.0 x (logged s.log) tidy.owned (ap (λ (h : List Change). holder_of (open_of s.file) h t.0 x) tidy.history ∙ free)));
      all = subst (AllBegun s.file.begun) (sym grown) (begun-push s.file.begun (logged s.log) c tidy.all (tidy.opens t.0 there).1);
      opens = tidy.opens;
      depths = tidy.depths;
      whole = tidy.whole;
    }
