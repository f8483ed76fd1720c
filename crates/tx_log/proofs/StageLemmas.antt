-- An open transaction whose stage and savepoints change.
use Rattle.std.proofs.Common.{◌≡◌, ℕ, zero, suc, ◌≤◌, Bool, List, [], ◌∷◌, ◌++◌, length, map, take, reverse, Option, Some, None, refl, sym, ap, subst, ◌∙◌, arith, length-take}
use Rattle.std.specs.FinMap as maps
use Rattle.std.specs.List.{take-map}
use Rattle.std.proofs.lemmas.List.{map-append}
use Rattle.rec_types.specs.History.{is_pending, own_count}
use Rattle.rec_types.specs.Kept.{Kept, history_of, IsOwned}
use Rattle.tx_log.proofs.AbsentOwnedLemmas.{absent_in}
use Rattle.tx_log.proofs.Counts.{count}
use Rattle.tx_log.proofs.KeptLogLemmas.{tx_of_entry}
use Rattle.tx_log.proofs.OpenTxLemmas.{found_fits, fit-put, opens-put, txs-put}
use Rattle.tx_log.proofs.PlaceLemmas.{kept_rises, place-zero, place-new}
use Rattle.tx_log.proofs.HoldSteps.{held_put}
use Rattle.tx_log.proofs.PlaceOf.{write_at}
use Rattle.tx_log.proofs.LogStateLemmas.{unroomed}
use Rattle.tx_log.specs.Finds.{Txs, found, PutsAt, StandsAt}
use Rattle.tx_log.specs.Holdings.{holdings_in}
use Rattle.indexmap.specs.IndexMap.{with_value_at}
use Rattle.tx_log.specs.declared.log.TxLog.TheInside.{Inside}
use Rattle.tx_log.specs.Fits.{AllUpTo, RollbackUpTo, FitsTx, left_above}
use Rattle.tx_log.specs.Log.{kept_of, last_of, stack, IsNumbered}
use Rattle.tx_log.specs.LogFields.{IsKept, IsTxLog, log_state_of}
use Rattle.tx_log.specs.LogState.{LogState, places_of, places_in, with_txs}
use Rattle.tx_log.specs.Places.{place_of_number}
use Rattle.tx_log.specs.OpenTxs.{rollback_at, tx_at}
use Rattle.tx_log.specs.Transactions.{Tx, Transactions, place_of_savepoint, most_savepoints}
use Rattle.tx_log.specs.declared.log_record.LogRecord.{LogRecord}
use Rattle.tx_log.specs.declared.open_tx.OpenTx.{OpenTx}
use Rattle.tx_log.specs.declared.phase.Rollback.{Rollback}

-- the transaction with the stage and the savepoints
abbrev pub moved : OpenTx → Option Rollback → ℕ → List ℕ → OpenTx
moved e s left ss = record e { rollback = s; left = left; saves = record { items = ss } }

-- a rollback and savepoints that a transaction may come to have
pub record IsMove (rs : List LogRecord) (t : ℕ) (s : Option Rollback) (left : ℕ) (ss : List ℕ) : Type 0 where
  pub remaining : left ≡ left_above (stack t rs) s
  pub saves : AllUpTo (length rs) ss
  pub depth : length ss ≤ most_savepoints
  pub rollback : RollbackUpTo (length rs) s

moved_fits : (rs : List LogRecord) (n t : ℕ) (e : OpenTx) (s : Option Rollback) (left : ℕ) (ss : List ℕ) → FitsTx rs n t e → IsMove rs t s left ss → FitsTx rs n t (moved e s left ss)
moved_fits rs n t e s left ss fits move = record {
  last = fits.last;
  live = fits.live;
  left = move.remaining;
  absent_keys = fits.absent_keys;
  saves = move.saves;
  depth = move.depth;
  rollback = move.rollback;
  some = fits.some;
  begun = fits.begun;
}

-- what is kept of a log stays true
moved_kept : (rs : List LogRecord) (old new : Txs) (begun pending gone t : ℕ) (e d : OpenTx) (s : Option Rollback) (left : ℕ) (ss : List ℕ) → IsKept rs old begun pending gone → old t ≡ Some e → PutsAt old new t (Some d) → d ≡ moved e s left ss → IsMove rs t s left ss → IsKept rs new begun pending gone
moved_kept rs old new begun pending gone t e d s left ss kept there puts new_is move =
    let fits : FitsTx rs begun t d = subst (FitsTx rs begun t) (sym new_is) (moved_fits rs begun t e s left ss (found_fits rs begun t old e kept.fit there) move) in
    let same = opens-put t old new d e puts there in
    record {
      numbered = kept.numbered;
      written = kept.written;
      fit = fit-put rs begun rs begun t old new (Some d) (λ u x apart fit. fit) puts fits kept.fit;
      known = kept.known;
      all_begun = kept.all_begun;
      owned = subst (λ (o : ℕ → Bool). IsOwned o (kept_of rs)) (sym same) kept.owned;
      pending_is = kept.pending_is ∙ ap (λ (o : ℕ → Bool). count (is_pending o) (kept_of rs)) (sym same);
      absent_is = kept.absent_is ∙ ap (λ (o : ℕ → Bool). maps.len (absent_in o (kept_of rs))) (sym same);
    }

-- the transaction as the state has it then
abbrev pub moved_tx : List Kept → ℕ → Option Rollback → List ℕ → Tx
moved_tx cs t s ss = record { rollback = rollback_at t cs s; places = map (λ k. place_of_number t k cs) ss }

-- what is known of the fields stays true when the transaction's entry is written
pub moved_log : (l : Inside) (t at : ℕ) (e d : OpenTx) (s : Option Rollback) (left : ℕ) (ss : List ℕ) → IsTxLog l → found l.txs t ≡ Some e → StandsAt l.txs t at → d ≡ moved e s left ss → IsMove (reverse l.records.items) t s left ss → IsTxLog (record l { txs = with_value_at l.txs at d; room_at = None })
moved_log l t at e d s left ss is there stands new_is move =
    let rs = reverse l.records.items in
    let new = found (with_value_at l.txs at d) in
    let puts = write_at l.txs t at d stands in
    record {
      log_kept = moved_kept rs (found l.txs) new l.begun l.pending l.gone t e d s left ss is.log_kept there puts new_is move;
      marked = is.marked;
      holding = held_put rs (found l.txs) new (holdings_in l.holdings) t e d puts there is.holding;
      busy_keys = is.busy_keys;
      reserved = tt;
      bounded = is.bounded;
      records_room = unroomed _ _ _ _ is.records_room;
      bytes_room = tt;
    }

-- the state has the entry's transaction then
pub moved_view : (l : Inside) (t at : ℕ) (e d : OpenTx) (s : Option Rollback) (left : ℕ) (ss : List ℕ) (tx : LogState → List ℕ → Tx) → found l.txs t ≡ Some e → StandsAt l.txs t at → d ≡ moved e s left ss → moved_tx (kept_of (reverse l.records.items)) t s ss ≡ tx (log_state_of l) (map (λ k. place_of_number t k (kept_of (reverse l.records.items))) e.saves.items) → (v : LogState) → log_state_of l ≡ v → log_state_of (record l { txs = with_value_at l.txs at d; room_at = None }) ≡ with_txs v (maps.insert v.txs t (tx v (places_in v t)))
moved_view l t at e d s left ss tx there stands new_is tx_is v view =
    let cs = kept_of (reverse l.records.items) in
    let old = log_state_of l in
    let new_txs = txs-put cs l.txs.entries (with_value_at l.txs at d).entries t d (write_at l.txs t at d stands) in
    ap (λ (m : Transactions). with_txs old m) (new_txs ∙ ap (λ (x : OpenTx). maps.insert old.txs t (tx_at t cs x)) new_is)
    ∙ ap (λ (x : Tx). with_txs old (maps.insert old.txs t x)) (tx_is ∙ ap (tx old) (sym (ap places_of (tx_of_entry cs l.txs.entries t e there))))
    ∙ ap (λ (w : LogState). with_txs w (maps.insert w.txs t (tx w (places_in w t)))) view

-- ---- savepoints

-- the first of some numbers are within their bound
pub up_to_take : (n m : ℕ) (ss : List ℕ) → AllUpTo m ss → AllUpTo m (take n ss)
up_to_take zero m ss up = tt
up_to_take (suc n) m [] up = tt
up_to_take (suc n) m (s ∷ ss) up = (up.0, up_to_take n m ss up.1)

-- one more number within the bound
pub up_to_push : (m : ℕ) (ss : List ℕ) (s : ℕ) → s ≤ m → AllUpTo m ss → AllUpTo m (ss ++ s ∷ [])
up_to_push m [] s h up = (h, tt)
up_to_push m (x ∷ ss) s h up = (up.0, up_to_push m ss s h up.1)

-- the number of a savepoint is within the bound
pub up_to_place : (m : ℕ) (ss : List ℕ) (n : ℕ) → AllUpTo m ss → place_of_savepoint ss n ≤ m
up_to_place m ss zero up = omega arith
up_to_place m [] (suc n) up = omega arith
up_to_place m (s ∷ ss) (suc zero) up = up.0
up_to_place m (s ∷ ss) (suc (suc n)) up = up_to_place m ss (suc n) up.1

-- a savepoint's place is that of its number
pub place_in-map : (f : ℕ → ℕ) (ss : List ℕ) (n : ℕ) → f 0 ≡ 0 → place_of_savepoint (map f ss) n ≡ f (place_of_savepoint ss n)
place_in-map f ss zero h = sym h
place_in-map f [] (suc n) h = sym h
place_in-map f (s ∷ ss) (suc zero) h = refl
place_in-map f (s ∷ ss) (suc (suc n)) h = place_in-map f ss (suc n) h

-- a rollback to savepoint n goes back to its place
pub rolling_is : (rs : List LogRecord) (t n : ℕ) (ends : Bool) (ss : List ℕ) → IsNumbered rs → moved_tx (kept_of rs) t (Some (record { to = place_of_savepoint ss n; ends = ends })) (take n ss) ≡ record { rollback = Some (record { to = place_of_savepoint (map (λ k. place_of_number t k (kept_of rs)) ss) n; ends = ends }); places = take n (map (λ k. place_of_number t k (kept_of rs)) ss) }
rolling_is rs t n ends ss is =
    let f : ℕ → ℕ = λ k. place_of_number t k (kept_of rs) in
    let none = place-zero t (kept_of rs) (length rs) (kept_rises rs is) in
    λ i. record { rollback = Some (record { to = sym (place_in-map f ss n none) i; ends = ends }); places = sym (take-map f n ss) i }

-- a new savepoint's place is the count of the transaction's changes
pub saved_is : (rs : List LogRecord) (t s : ℕ) (ss : List ℕ) → IsNumbered rs → s ≡ last_of t rs → moved_tx (kept_of rs) t None (ss ++ s ∷ []) ≡ record { rollback = None; places = map (λ k. place_of_number t k (kept_of rs)) ss ++ own_count (history_of (kept_of rs)) t ∷ [] }
saved_is rs t s ss is last =
    let f : ℕ → ℕ = λ k. place_of_number t k (kept_of rs) in
    let new : f s ≡ own_count (history_of (kept_of rs)) t = ap f last ∙ place-new t rs is in
    λ i. record { rollback = None; places = (map-append f ss (s ∷ []) ∙ ap (λ p. map f ss ++ p ∷ []) new) i }

-- the savepoints that stay, as places
pub kept_saves : (rs : List LogRecord) (t n : ℕ) (ss : List ℕ) → moved_tx (kept_of rs) t None (take n ss) ≡ record { rollback = None; places = take n (map (λ k. place_of_number t k (kept_of rs)) ss) }
kept_saves rs t n ss = λ i. record { rollback = None; places = sym (take-map (λ k. place_of_number t k (kept_of rs)) n ss) i }

-- the first of few are few
pub short_take : (n m : ℕ) (ss : List ℕ) → length ss ≤ m → length (take n ss) ≤ m
short_take n m ss h = omega (arith, length-take n ss)
