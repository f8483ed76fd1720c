-- The abstract file.
use Rattle.std.specs.Prelude.{◌≡◌, ℕ, ◌≤◌, ◌<◌, ◌==◌, Bool, true, ◌&&◌, nat_le, is_none, List, [], ◌∷◌, ◌++◌, length, Option, Some, None, option_map, refl, IsTrue}
use Rattle.std.specs.Coded.{Coded, code_by, coded×, coded_ℕ, coded_bool, coded_list, coded_option}
use Rattle.std.specs.FinMap as maps
use Rattle.rec_types.specs.LimitBounds.{Bounds, coded_bounds}
use Rattle.rec_types.specs.Contents.{Contents, coded_contents, write_to}
use Rattle.rec_types.specs.History.{Change, replay, log_use}
use Rattle.rec_types.specs.Kept.{Kept, history_of, opening_of, BeforesFit}
use Rattle.tx_log.specs.Transactions.{Transactions, Tx, coded_transactions, is_open, most_savepoints}
use Rattle.tx_log.specs.Owners.{owner_of, holder_of, claims, charged}
use Rattle.tx_log.specs.LogLaws.{IsChained}
use Rattle.std.specs.List.{list_any}
use Rattle.tx_log.specs.LogState.{LogState, phase_of, open_in, history_in, places_of}
use Rattle.tx_log.specs.declared.phase.Phase.{Phase}
use Rattle.tx_log.specs.declared.phase.Rollback.{Rollback}
use Rattle.tx_log.specs.declared.log_record.LogRecord.{LogRecord}
use Rattle.tx_log.specs.declared.log_record.LogRecord.TheVariants.{Update, Compensation, Claim, Unclaim}
use Rattle.tx_log.specs.Log.{key_of_record, new_of}
use Rattle.tx_log.specs.LogCode.{coded_log_record}

-- the contents that the session opened with, the history of its changes, how many transactions were begun, those
-- that are open, and the limits
pub record File : Type 0 where
  pub opening : Contents
  pub history : List Change
  pub begun : ℕ
  pub txs : Transactions
  pub limits : Bounds

abbrev pub coded_change : Coded Change
coded_change = code_by (ℕ × (List ℕ × (Option (Option (List ℕ)) × Bool))) (coded× coded_ℕ (coded× (coded_list coded_ℕ) (coded× (coded_option (coded_option (coded_list coded_ℕ))) coded_bool))) (λ c. (c.tx, (c.key, (c.after, c.live)))) (λ p. record { tx = p.0; key = p.1.0; after = p.1.1.0; live = p.1.1.1 }) (λ _. refl)

abbrev pub coded_file : Coded File
coded_file = code_by (Contents × (List Change × (ℕ × (Transactions × Bounds)))) (coded× coded_contents (coded× (coded_list coded_change) (coded× coded_ℕ (coded× coded_transactions coded_bounds)))) (λ f. (f.opening, (f.history, (f.begun, (f.txs, f.limits))))) (λ p. record { opening = p.0; history = p.1.0; begun = p.1.1.0; txs = p.1.1.1.0; limits = p.1.1.1.1 }) (λ _. refl)

-- what the live changes leave of the opening contents
abbrev pub records_of : File → Contents
records_of f = replay f.opening f.history

abbrev pub open_of : File → ℕ → Bool
open_of f t = is_open f.txs t

abbrev pub tx_of : File → ℕ → Option Tx
tx_of f t = maps.get f.txs t

abbrev pub phase_at : File → ℕ → Option Phase
phase_at f t = option_map phase_of (tx_of f t)

abbrev pub use_of : File → ℕ
use_of f = log_use (open_of f) f.history

-- the transaction that owns the key, where it is another
abbrev pub held_by : File → ℕ → List ℕ → Option ℕ
held_by f t x = holder_of (open_of f) f.history t x

-- the keys that have a record, and those that are owned
abbrev pub charged_of : File → Contents
charged_of f = charged (open_of f) f.history (records_of f)

-- the key isn't charged, and the charged keys have reached the limit
abbrev pub is_full : File → List ℕ → Bool
is_full f x = is_none (maps.get (charged_of f) x) && nat_le f.limits.records (maps.len (charged_of f))

-- one more live change
abbrev pub with_change : File → ℕ → List ℕ → Option (Option (List ℕ)) → File
with_change f t x w = record f { history = f.history ++ record { tx = t; key = x; after = w; live = true } ∷ [] }

-- nothing was begun
abbrev pub new_file : Contents → Bounds → File
new_file m limits = record { opening = m; history = []; begun = 0; txs = maps.empty; limits = limits }

-- the table itself, the abstract file that it and the log stand for, and the records of the log, oldest first
pub record OpenFile (T : Type 0) : Type 0 where
  pub table : T
  pub file : File
  pub log : List LogRecord

abbrev pub coded_open_file : {T : Type 0} → Coded T → Coded (OpenFile T)
coded_open_file {T} t = code_by (T × (File × List LogRecord)) (coded× t (coded× coded_file (coded_list coded_log_record))) (λ s. (s.table, (s.file, s.log))) (λ p. record { table = p.0; file = p.1.0; log = p.1.1 }) (λ _. refl)

-- the open file with other transactions
abbrev pub with_open_txs : {T : Type 0} → OpenFile T → Transactions → OpenFile T
with_open_txs f txs = record { table = f.table; file = record f.file { txs = txs }; log = f.log }

-- the contents that the records of a log leave, in order: an update puts the new record at its key, a compensation the
-- old one, and a claim and an unclaim leave them
abbrev pub written : Contents → List LogRecord → Contents
written m [] = m
written m (r ∷ rs) = written (write_to m (key_of_record r) (new_of r)) rs

-- what an update tells of before, and what a claim has seen, is what the records before it leave at its key
abbrev pub Told : Contents → LogRecord → Type 0
Told m (Update lsn prev tx key before after) = before ≡ maps.get m key
Told m (Compensation lsn prev tx key restored undo_next) = Unit {0}
Told m (Claim lsn prev tx key seen) = seen ≡ maps.get m key
Told m (Unclaim lsn prev tx key undo_next) = Unit {0}

abbrev pub AllTold : Contents → List LogRecord → Type 0
AllTold m [] = Unit {0}
AllTold m (r ∷ rs) = Told m r × AllTold (write_to m (key_of_record r) (new_of r)) rs

-- The new log is the old one and what the call has written. Over a sound table that is what became of the contents;
-- over any table they are untouched where nothing was written.
abbrev pub Tells : Bool → Contents → List LogRecord → Contents → List LogRecord → Type 0
Tells sound m old n new =
    (more : List LogRecord) × (new ≡ old ++ more) × (IsTrue sound → n ≡ written m more) × (more ≡ [] → n ≡ m)

-- the file of a log over a table's present contents
abbrev pub file_of : LogState → Contents → File
file_of log m = record { opening = opening_of log.changes m; history = history_of log.changes; begun = log.begun; txs = log.txs; limits = log.limits }

-- the contents are the replay, and each live change knows what stood before it
pub record Fits (cs : List Kept) (now : Contents) : Type 0 where
  pub replayed : now ≡ replay (opening_of cs now) (history_of cs)
  pub befores : BeforesFit (opening_of cs now) cs

abbrev pub EndsAtBeginning : Option Rollback → Type 0
EndsAtBeginning None = Unit {0}
EndsAtBeginning (Some r) = IsTrue r.ends → r.to ≡ 0

abbrev pub IsWholeTx : Option Tx → Type 0
IsWholeTx None = Unit {0}
IsWholeTx (Some tx) = EndsAtBeginning tx.rollback

-- each rollback under way that ends its transaction goes back to the beginning, as every abort does
abbrev pub AbortsWhole : Transactions → Type 0
AbortsWhole txs = (t : ℕ) → IsWholeTx (maps.get txs t)

-- what is true of every file over a table: its limit is the log's, aborts go back to the beginning, and over a sound
-- table the contents are the replay and the charged keys don't exceed the limit
pub record IsRecordFile (sound : Bool) (now : Contents) (limit : ℕ) (log : LogState) : Type 0 where
  pub limited : limit ≡ log.limits.records
  pub whole : AbortsWhole log.txs
  pub fits : IsTrue sound → Fits log.changes now
  pub told : IsTrue sound → (now ≡ written (opening_of log.changes now) log.records) × AllTold (opening_of log.changes now) log.records
  pub within : IsTrue sound → maps.len (charged (open_in log) (history_in log) now) ≤ log.limits.records

-- the transaction hasn't ended, and one of its live changes is at the key
abbrev pub owns : File → ℕ → List ℕ → Bool
owns f t x = list_any (λ c. claims (open_of f) x c && (c.tx == t)) f.history

-- What stays true of a file from call to call: over a sound table the records are the replay, which the log leaves
-- too, each change tells what stood at its key before it, and the charged keys don't exceed the limit; a transaction
-- that owns a key is the one that does; no transaction has more savepoints than it may; a rollback under way that ends
-- its transaction goes back to the beginning; and the log tells the history by its laws.
pub record IsKeptFile (sound : Bool) (now : Contents) (limit : ℕ) (f : File) (log : List LogRecord) : Type 0 where
  pub limited : limit ≡ f.limits.records
  pub replayed : IsTrue sound → now ≡ records_of f
  pub within : IsTrue sound → maps.len (charged_of f) ≤ f.limits.records
  pub owned : (t : ℕ) (x : List ℕ) → IsTrue (owns f t x) → owner_of (open_of f) f.history x ≡ Some t
  pub written : IsTrue sound → (now ≡ written f.opening log) × AllTold f.opening log
  pub chained : (cs : List Kept) × IsChained log cs × (history_of cs ≡ f.history) × (IsTrue sound → BeforesFit f.opening cs)
  pub used : use_of f ≤ f.limits.log_records
  pub begun : f.begun ≤ f.limits.begins
  pub opens : (t : ℕ) → IsTrue (open_of f t) → (0 < t) × (t ≤ f.begun)
  pub depths : (t : ℕ) → length (places_of (tx_of f t)) ≤ most_savepoints
  pub whole : AbortsWhole f.txs
