-- Transactions that begin and end.
use Rattle.std.proofs.Common.{◌≡◌, ℕ, suc, ◌+◌, ◌-◌, ◌<◌, ◌≤◌, Bool, true, false, cond, not, eqb, ◌&&◌, List, [], ◌∷◌, length, map, reverse, Option, Some, None, option_map, is_some, refl, sym, ap, subst, ◌∙◌, arith}
use Rattle.std.specs.FinMap as maps
use Rattle.std.specs.Ordering.{nat_cmp}
use Rattle.std.specs.Cmp.Lexicographic.{slice_cmp}
use Rattle.rec_types.specs.History.{Change, is_pending}
use Rattle.rec_types.specs.Kept.{Kept, change_of, is_own, IsOwned, AllBegun}
use Rattle.rec_types.specs.declared.transaction.TxId.{TxId}
use Rattle.rec_types.specs.LimitBounds.{Bounds}
use Rattle.tx_log.proofs.AbsentOwnedLemmas.{only, without, pending_of, absent_in, absent-parts, absent_is_gone, gone}
use Rattle.tx_log.proofs.Chains.{same_number, unequal}
use Rattle.tx_log.proofs.Counts.{count}
use Rattle.tx_log.proofs.Lives.{lives, stack_is_lives}
use Rattle.tx_log.proofs.OpenTxLemmas.{found_fits, fit-put, opens-remove, opens-more, txs-remove, txs-put}
use Rattle.tx_log.proofs.OwnerLemmas.{owned-fewer, and_left}
use Rattle.tx_log.proofs.OpenTxReadLemmas.{lives_length, phase_is}
use Rattle.tx_log.proofs.KeptLogLemmas.{tx_of_entry}
use Rattle.tx_log.proofs.LogStateLemmas.{state}
use Rattle.tx_log.specs.Finds.{Txs, finding, PutsAt}
use Rattle.tx_log.specs.Fits.{AllKnown, FitsTx}
use Rattle.tx_log.specs.Log.{tx_of_record, lsn_of, tells_change, kept_of, last_of, stepped, stack, noted}
use Rattle.tx_log.specs.LogFields.{IsKept, log_state_of}
use Rattle.tx_log.specs.LogState.{IsRolling, phase_of, places_of, active_with, finished, finished_by, rollback_phase, with_txs}
use Rattle.tx_log.specs.Owners.{Standing, nothing, standing, stands_by}
use Rattle.tx_log.specs.Places.{place_of_number}
use Rattle.tx_log.specs.OpenTxs.{ends_at, rollback_at, txs_of, opens}
use Rattle.tx_log.specs.Transactions.{Transactions, Tx, fresh}
use Rattle.tx_log.specs.declared.log.TxLog.TheInside.{Inside}
use Rattle.tx_log.specs.declared.log_record.LogRecord.{LogRecord}
use Rattle.tx_log.specs.declared.open_tx.OpenTx.{OpenTx}
use Rattle.tx_log.specs.declared.phase.Phase.TheVariants.{Active}
use Rattle.tx_log.specs.declared.phase.Rollback.{Rollback}
use Rattle.rec_types.proofs.TakeBackLemmas.{begun-more}
use Rattle.tx_log.proofs.PlaceLemmas.{length_single}

-- ---- the end of a transaction

-- a change is pending of the others, or of the one
one_of : (live opened mine : Bool) → (mine ≡ true → opened ≡ true) → (n m k : ℕ) → n ≡ m + k → cond (live && opened) (suc n) n ≡ cond (live && (opened && not mine)) (suc m) m + cond (mine && live) (suc k) k
one_of false opened true h n m k e = e
one_of false opened false h n m k e = e
one_of true true true h n m k e = omega arith
one_of true true false h n m k e = omega arith
one_of true false true h n m k e = absurd (let no : false ≡ true = h refl in cc)
one_of true false false h n m k e = e

length_cond : (b : Bool) (c : Change) (h : List Change) → length (cond b (c ∷ h) h) ≡ cond b (suc (length h)) (length h)
length_cond true c h = refl
length_cond false c h = refl

-- without one transaction as many live changes go as it has
pub count-without : (is_open : ℕ → Bool) (t : ℕ) (cs : List Kept) → is_open t ≡ true → count (is_pending is_open) cs ≡ count (is_pending (without t is_open)) cs + length (lives t cs)
count-without is_open t [] opened = refl
count-without is_open t (c ∷ cs) opened =
    length_cond (is_pending is_open (change_of c)) (change_of c) (pending_of is_open cs)
    ∙ one_of c.live (is_open c.tx) (eqb c.tx t) (λ mine. ap is_open (same_number c.tx t mine) ∙ opened) (count (is_pending is_open) cs) (count (is_pending (without t is_open)) cs) (length (lives t cs)) (count-without is_open t cs opened)
    ∙ (λ i. sym (length_cond (is_pending (without t is_open) (change_of c)) (change_of c) (pending_of (without t is_open) cs)) i + sym (length_single (lives t cs) (is_own t c) c) i)

-- what is kept of a log stays true when a transaction ends
pub closed : (rs : List LogRecord) (old new : Txs) (begun pending gone_keys t : ℕ) (e : OpenTx) → IsKept rs old begun pending gone_keys → old t ≡ Some e → PutsAt old new t None → IsKept rs new begun (pending - e.live) (gone_keys - e.absent)
closed rs old new begun pending gone_keys t e kept found puts =
    let cs = kept_of rs in
    let fits = found_fits rs begun t old e kept.fit found in
    let opened : opens old t ≡ true = ap is_some found in
    let same : opens new ≡ without t (opens old) = opens-remove t old new puts in
    let live_is : e.live ≡ length (lives t cs) = fits.live ∙ sym (lives_length t rs) in
    let absent_is : e.absent ≡ maps.len (absent_in (only t) cs) = fits.absent_keys in
    let pending_is = kept.pending_is in
    let gone_is = kept.absent_is in
    let counted = count-without (opens old) t cs opened in
    let parts = absent-parts (opens old) t cs kept.owned opened in
    let pending_left : pending - e.live ≡ count (is_pending (without t (opens old))) cs = omega arith in
    let gone_left : gone_keys - e.absent ≡ maps.len (absent_in (without t (opens old)) cs) = omega arith in
    record {
      numbered = kept.numbered;
      written = kept.written;
      fit = fit-put rs begun rs begun t old new None (λ u x apart fit. fit) puts tt kept.fit;
      known = kept.known;
      all_begun = kept.all_begun;
      owned = subst (λ (o : ℕ → Bool). IsOwned o cs) (sym same) (owned-fewer (opens old) (without t (opens old)) begun cs kept.all_begun (λ u low h. and_left (opens old u) (not (eqb u t)) h) kept.owned);
      pending_is = pending_left ∙ ap (λ (o : ℕ → Bool). count (is_pending o) cs) (sym same);
      absent_is = gone_left ∙ ap (λ (o : ℕ → Bool). maps.len (absent_in o cs)) (sym same);
    }

-- the state without that transaction
pub closed_state : (l : Inside) (fs : List (TxId × OpenTx)) (t : ℕ) → PutsAt (finding l.txs.entries) (finding fs) t None → state l.records.items fs l.begun l.limits None ≡ with_txs (log_state_of l) (maps.remove (log_state_of l).txs t)
closed_state l fs t puts = ap (with_txs (log_state_of l)) (txs-remove (kept_of (reverse l.records.items)) l.txs.entries fs t puts)

-- ---- a new transaction

-- a transaction that wasn't begun has no record
pub known_last : (rs : List LogRecord) (n t : ℕ) → n < t → AllKnown n rs → (last_of t rs ≡ 0) × (stack t rs ≡ [])
known_last [] n t up known = (refl, refl)
known_last (r ∷ rs) n t up known =
    let rest = known_last rs n t up known.1 in
    let other : eqb (tx_of_record r) t ≡ false = unequal (tx_of_record r) t (let low = known.0 in omega arith) in
    (ap (λ (b : Bool). cond b (lsn_of r) (last_of t rs)) other ∙ rest.0, ap (λ (b : Bool). cond b (stepped (tells_change r) r (stack t rs)) (stack t rs)) other ∙ rest.1)

pending_on : (o p : ℕ → Bool) (n : ℕ) (cs : List Kept) → AllBegun n cs → ((u : ℕ) → u ≤ n → o u ≡ p u) → pending_of o cs ≡ pending_of p cs
pending_on o p n [] begun h = refl
pending_on o p n (c ∷ cs) begun h =
    ap (λ (b : Bool). cond (c.live && b) (change_of c ∷ pending_of o cs) (pending_of o cs)) (h c.tx begun.0)
    ∙ ap (λ (xs : List Change). cond (c.live && p c.tx) (change_of c ∷ xs) xs) (pending_on o p n cs begun.1 h)

stands_on : (o p : ℕ → Bool) (n : ℕ) (cs : List Kept) (s : Standing) → AllBegun n cs → ((u : ℕ) → u ≤ n → o u ≡ p u) → stands_by o s cs ≡ stands_by p s cs
stands_on o p n [] s begun h = refl
stands_on o p n (c ∷ cs) s begun h =
    ap (λ (b : Bool). stands_by o (cond (c.live && b) (standing s c) s) cs) (h c.tx begun.0)
    ∙ stands_on o p n cs (cond (c.live && p c.tx) (standing s c) s) begun.1 h

known_more : (n m : ℕ) (rs : List LogRecord) → n ≤ m → AllKnown n rs → AllKnown m rs
known_more n m [] h known = tt
known_more n m (r ∷ rs) h known = (let low = known.0 in omega arith, known_more n m rs h known.1)

more_begun : (rs : List LogRecord) (n t : ℕ) (e : OpenTx) → FitsTx rs n t e → FitsTx rs (n + 1) t e
more_begun rs n t e fit = record { last = fit.last; live = fit.live; left = fit.left; absent_keys = fit.absent_keys; saves = fit.saves; depth = fit.depth; rollback = fit.rollback; some = fit.some; begun = (let low = fit.begun in omega arith) }

-- what is kept of a transaction that has just begun
abbrev pub fresh_entry : OpenTx
fresh_entry = record { rollback = None; last = 0; live = 0; left = 0; absent = 0; saves = record { items = [] } }

fresh_fits : (rs : List LogRecord) (n t : ℕ) → n < t → t ≤ n + 1 → AllKnown n rs → FitsTx rs (n + 1) t fresh_entry
fresh_fits rs n t up most known =
    let nothing = known_last rs n t up known in
    let no_keys : maps.len (absent_in (only t) (kept_of rs)) ≡ 0 =
    ap (λ (s : Standing). maps.len s.out) (absent_is_gone t (kept_of rs) ∙ ap gone (sym (stack_is_lives t rs) ∙ ap (map noted) nothing.1)) ∙ maps.len-empty (slice_cmp nat_cmp) (List ℕ) in
    record {
      last = sym nothing.0;
      live = sym (ap length nothing.1);
      left = refl;
      absent_keys = sym no_keys;
      saves = tt;
      depth = omega arith;
      rollback = tt;
      some = omega arith;
      begun = most;
    }

-- what is kept of a log stays true when a transaction begins
pub begun_kept : (rs : List LogRecord) (old new : Txs) (begun pending gone_keys : ℕ) → IsKept rs old begun pending gone_keys → PutsAt old new (begun + 1) (Some fresh_entry) → IsKept rs new (begun + 1) pending gone_keys
begun_kept rs old new begun pending gone_keys kept puts =
    let cs = kept_of rs in
    let t = begun + 1 in
    let fits : FitsTx rs (begun + 1) t fresh_entry = fresh_fits rs begun t (omega arith) (omega arith) kept.known in
    let same : (u : ℕ) → u ≤ begun → opens new u ≡ opens old u = λ u low. opens-more t old new fresh_entry u puts (omega arith) in
    let waits : pending_of (opens new) cs ≡ pending_of (opens old) cs = pending_on (opens new) (opens old) begun cs kept.all_begun same in
    record {
      numbered = kept.numbered;
      written = kept.written;
      fit = fit-put rs begun rs (begun + 1) t old new (Some fresh_entry) (λ u x apart fit. more_begun rs begun u x fit) puts fits kept.fit;
      known = known_more begun (begun + 1) rs (omega arith) kept.known;
      all_begun = begun-more begun (begun + 1) cs (omega arith) kept.all_begun;
      owned = owned-fewer (opens old) (opens new) begun cs kept.all_begun (λ u low h. sym (same u low) ∙ h) kept.owned;
      pending_is = kept.pending_is ∙ ap length (sym waits);
      absent_is = kept.absent_is ∙ ap (λ (s : Standing). maps.len s.out) (sym (stands_on (opens new) (opens old) begun cs nothing kept.all_begun same));
    }

-- the state with that transaction
pub begun_state : (records : List LogRecord) (es fs : List (TxId × OpenTx)) (begun : ℕ) (limits : Bounds) (room : Option (List ℕ)) → PutsAt (finding es) (finding fs) (begun + 1) (Some fresh_entry) → state records fs (begun + 1) limits None ≡ record (state records es begun limits room) { begun = begun + 1; txs = maps.insert (txs_of (kept_of (reverse records)) es) (begun + 1) fresh; room = None }
begun_state records es fs begun limits room puts =
    let cs = kept_of (reverse records) in
    let txs_are : txs_of cs fs ≡ maps.insert (txs_of cs es) (begun + 1) fresh = txs-put cs es fs (begun + 1) fresh_entry puts in
    λ j. record { records = records; changes = cs; txs = txs_are j; begun = begun + 1; limits = limits; room = None }

-- one transaction's live changes are some of all
pub live_part : (rs : List LogRecord) (es : List (TxId × OpenTx)) (begun pending gone_keys t : ℕ) (e : OpenTx) → IsKept rs (finding es) begun pending gone_keys → finding es t ≡ Some e → e.live ≤ pending
live_part rs es begun pending gone_keys t e kept found =
    let fits = found_fits rs begun t (finding es) e kept.fit found in
    let live_is : e.live ≡ length (lives t (kept_of rs)) = fits.live ∙ sym (lives_length t rs) in
    let pending_is = kept.pending_is in
    let counted = count-without (opens (finding es)) t (kept_of rs) (ap is_some found) in
    omega arith

-- ---- the end of a rollback

-- a transaction that is rolling is open
pub rolling_open : (o : Option Tx) → IsRolling (option_map phase_of o) → is_some o ≡ true
rolling_open None h = absurd h
rolling_open (Some x) h = refl

-- so is one that is active
pub active_open : (o : Option Tx) → option_map phase_of o ≡ Some Active → is_some o ≡ true
active_open None h = absurd (cc)
active_open (Some x) h = refl

finished_case : (cs : List Kept) (txs : Transactions) (t u : ℕ) (places : List ℕ) (s : Option Rollback) → IsRolling (Some (rollback_phase s)) → finished_by txs t places (rollback_at u cs s) ≡ cond (ends_at s) (maps.remove txs t) (maps.insert txs t (active_with places))
finished_case cs txs t u places None h = absurd h
finished_case cs txs t u places (Some r) h = refl

-- what a finished rollback leaves, by whether it ends its transaction
pub finished_is : (cs : List Kept) (es : List (TxId × OpenTx)) (t : ℕ) (e : OpenTx) → finding es t ≡ Some e → IsRolling (option_map phase_of (maps.get (txs_of cs es) t)) → finished (txs_of cs es) t (maps.get (txs_of cs es) t) ≡ cond (ends_at e.rollback) (maps.remove (txs_of cs es) t) (maps.insert (txs_of cs es) t (active_with (places_of (maps.get (txs_of cs es) t))))
finished_is cs es t e found h =
    let entry = tx_of_entry cs es t e found in
    ap (finished (txs_of cs es) t) entry
    ∙ finished_case cs (txs_of cs es) t t (map (λ s. place_of_number t s cs) e.saves.items) e.rollback (subst IsRolling (phase_is cs es t e found) h)
    ∙ ap (λ (o : Option Tx). cond (ends_at e.rollback) (maps.remove (txs_of cs es) t) (maps.insert (txs_of cs es) t (active_with (places_of o)))) (sym entry)

-- a rollback that ends its transaction takes it out
pub finished_ends : (cs : List Kept) (es : List (TxId × OpenTx)) (t : ℕ) (e : OpenTx) → finding es t ≡ Some e → IsRolling (option_map phase_of (maps.get (txs_of cs es) t)) → ends_at e.rollback ≡ true → finished (txs_of cs es) t (maps.get (txs_of cs es) t) ≡ maps.remove (txs_of cs es) t
finished_ends cs es t e found h ends =
    finished_is cs es t e found h ∙ ap (λ (b : Bool). cond b (maps.remove (txs_of cs es) t) (maps.insert (txs_of cs es) t (active_with (places_of (maps.get (txs_of cs es) t))))) ends

-- any other leaves it active
pub finished_goes : (cs : List Kept) (es : List (TxId × OpenTx)) (t : ℕ) (e : OpenTx) → finding es t ≡ Some e → IsRolling (option_map phase_of (maps.get (txs_of cs es) t)) → ends_at e.rollback ≡ false → finished (txs_of cs es) t (maps.get (txs_of cs es) t) ≡ maps.insert (txs_of cs es) t (active_with (places_of (maps.get (txs_of cs es) t)))
finished_goes cs es t e found h goes =
    finished_is cs es t e found h ∙ ap (λ (b : Bool). cond b (maps.remove (txs_of cs es) t) (maps.insert (txs_of cs es) t (active_with (places_of (maps.get (txs_of cs es) t))))) goes
