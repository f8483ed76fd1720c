-- What a kept log says of a transaction, of its state and of the sizes of its counts.
use Rattle.std.proofs.Common.{◌≡◌, ℕ, suc, ◌+◌, ◌<◌, ◌≤◌, Bool, true, false, cond, not, eqb, List, [], ◌∷◌, length, map, reverse, drop, Option, Some, None, option_map, is_some, IsSome, refl, sym, ap, subst, ◌∙◌, arith, length-drop}
use Rattle.std.specs.FinMap as maps
use Rattle.std.specs.Cmp.Lexicographic.{slice_cmp}
use Rattle.std.specs.Ordering.{nat_cmp}
use Rattle.std.proofs.lemmas.List.{length-map, length-reverse}
use Rattle.rec_types.specs.Contents.{Contents, write_to, has}
use Rattle.rec_types.specs.History.{is_pending, log_use}
use Rattle.rec_types.specs.declared.transaction.TxId.{TxId}
use Rattle.rec_types.specs.Kept.{Kept, change_of, history_of, IsOwned, AllBegun}
use Rattle.tx_log.proofs.AbsentOwnedLemmas.{only, pending_of, absent_in, absent-parts, absent_is_gone, gone, has-gone, len-said, none_of_len}
use Rattle.tx_log.proofs.Chains.{last_of-le}
use Rattle.tx_log.proofs.Counts.{count, log_len_is, newest_of_stack, pending-undone}
use Rattle.tx_log.proofs.Lives.{lives, stack_is_lives}
use Rattle.tx_log.proofs.OpenTxLemmas.{get-txs_of, opens_is, found_fits, begun_of}
use Rattle.tx_log.proofs.OwnerLemmas.{HeldBy, held-free}
use Rattle.tx_log.proofs.LogStepLemmas.{absent_noted, chain_of}
use Rattle.tx_log.proofs.WalkSteps.{IsStep}
use Rattle.tx_log.specs.declared.undo_chain.LiveChange.{LiveChange}
use Rattle.tx_log.specs.Finds.{finding}
use Rattle.tx_log.specs.Fits.{AllFit}
use Rattle.tx_log.specs.Log.{tx_of_record, tells_change, kept_of, stepped, stack, chain, noted}
use Rattle.tx_log.specs.LogFields.{log_state_of, IsKept, IsTxLog}
use Rattle.tx_log.specs.LogState.{LogState, phase_of, phase_in, open_in, use_in, places_of, IsLog}
use Rattle.tx_log.specs.Owners.{holder_of, says, lack, Standing, nothing, standing, stands_by}
use Rattle.tx_log.specs.Places.{place_of_number}
use Rattle.tx_log.specs.OpenTxs.{rollback_at, tx_at, txs_of, opens}
use Rattle.tx_log.specs.Transactions.{Tx, Transactions, is_open, most_savepoints}
use Rattle.tx_log.specs.Walks.{is_out, absent_at}
use Rattle.tx_log.specs.declared.log_record.LogRecord.{LogRecord}
use Rattle.tx_log.specs.declared.log.TxLog.TheInside.{Inside}
use Rattle.tx_log.specs.declared.open_tx.OpenTx.{OpenTx}
use Rattle.tx_log.specs.declared.phase.Rollback.{Rollback}
use Rattle.tx_log.specs.declared.phase.Phase.{Phase}
use Rattle.tx_log.specs.declared.phase.Phase.TheVariants.{Active}

-- ---- the transaction that a call names

phase_found : (t : ℕ) (cs : List Kept) (o : Option OpenTx) (p : Phase) → option_map phase_of (option_map (tx_at t cs) o) ≡ Some p → IsSome o
phase_found t cs None p h = absurd (cc)
phase_found t cs (Some e) p h = refl

-- an active transaction of the log is open in its map
pub active_open : (l : Inside) (s : LogState) (t : ℕ) → log_state_of l ≡ s → phase_in s t ≡ Some Active → IsSome (finding l.txs.entries t)
active_open l s t view active =
    let cs = kept_of (reverse l.records.items) in
    phase_found t cs (finding l.txs.entries t) Active (ap (option_map phase_of) (sym (get-txs_of cs l.txs.entries t)) ∙ ap (λ (s : LogState). phase_in s t) view ∙ active)

some_entry : (t : ℕ) (cs : List Kept) (o : Option OpenTx) → is_some (option_map (tx_at t cs) o) ≡ true → is_some o ≡ true
some_entry t cs None h = h
some_entry t cs (Some e) h = refl

-- a transaction of the state is one of the map
pub open_of_tx : (cs : List Kept) (es : List (TxId × OpenTx)) (t : ℕ) → is_some (maps.get (txs_of cs es) t) ≡ true → is_some (finding es t) ≡ true
open_of_tx cs es t h = some_entry t cs (finding es t) (ap is_some (sym (get-txs_of cs es t)) ∙ h)

active_case : (cs : List Kept) (t : ℕ) (s : Option Rollback) → phase_of (record { rollback = rollback_at t cs s; places = [] }) ≡ Active → s ≡ None
active_case cs t None h = refl
active_case cs t (Some r) h = absurd (cc)

-- equal options have equal values
pub some_of : {A : Type 0} (x y : A) → Some x ≡ Some y → x ≡ y
some_of x y h = cc

-- an active transaction has no rollback
pub active_calm : (l : Inside) (s : LogState) (t : ℕ) (e : OpenTx) → log_state_of l ≡ s → phase_in s t ≡ Some Active → finding l.txs.entries t ≡ Some e → e.rollback ≡ None
active_calm l s t e view active found =
    let cs = kept_of (reverse l.records.items) in
    active_case cs t e.rollback (some_of _ _ (ap (λ (o : Option OpenTx). option_map phase_of (option_map (tx_at t cs) o)) (sym found) ∙ ap (option_map phase_of) (sym (get-txs_of cs l.txs.entries t)) ∙ ap (λ (s : LogState). phase_in s t) view ∙ active))

-- what the state says of an open transaction
pub tx_of_entry : (cs : List Kept) (es : List (TxId × OpenTx)) (t : ℕ) (e : OpenTx) → finding es t ≡ Some e → maps.get (txs_of cs es) t ≡ Some (tx_at t cs e)
tx_of_entry cs es t e found = get-txs_of cs es t ∙ ap (option_map (tx_at t cs)) found

-- where no other holds a key, its live changes are the transaction's own
pub held_of_free : (cs : List Kept) (es : List (TxId × OpenTx)) (t : ℕ) (x : List ℕ) → IsOwned (opens (finding es)) cs → holder_of (is_open (txs_of cs es)) (history_of cs) t x ≡ None → HeldBy (opens (finding es)) t x cs
held_of_free cs es t x owned h = held-free (opens (finding es)) t x cs owned (ap (λ (o : ℕ → Bool). holder_of o (history_of cs) t x) (sym (opens_is cs es)) ∙ h)

-- ---- sizes

drop_le : (us : List LogRecord) (n : ℕ) → length us ≤ n → length (drop 1 us) ≤ n
drop_le us n h = omega (arith, length-drop 1 us)

stack_step : (k : Bool) (t n : ℕ) (r : LogRecord) (us : List LogRecord) → length us ≤ n → length (stepped k r us) ≤ suc n
stack_step true t n r us h = omega arith
stack_step false t n r us h = let d = drop_le us n h in omega arith

stack_case : (t n : ℕ) (r : LogRecord) (us : List LogRecord) → length us ≤ n → (b : Bool) → length (cond b (stepped (tells_change r) r us) us) ≤ suc n
stack_case t n r us h true = stack_step (tells_change r) t n r us h
stack_case t n r us h false = omega arith

-- a transaction has no more live changes than the log has records
pub stack-le : (t : ℕ) (rs : List LogRecord) → length (stack t rs) ≤ length rs
stack-le t [] = omega arith
stack-le t (r ∷ rs) = stack_case t (length rs) r (stack t rs) (stack-le t rs) (eqb (tx_of_record r) t)

one_more : (m : Contents) (x : List ℕ) (v : Option (Option (List ℕ))) → maps.len (write_to m x (option_map lack v)) ≤ maps.len m + 1
one_more m x v =
    let e = len-said m x v in
    let low = most_one (is_out v (has m x)) in
    omega arith
  where
    most_one : (b : Bool) → cond b 1 0 ≤ 1
    most_one true = omega arith
    most_one false = omega arith

gone-le : (us : List Kept) → maps.len (gone us).out ≤ length us
gone-le [] = let none = maps.len-empty (slice_cmp nat_cmp) (List ℕ) in omega arith
gone-le (u ∷ us) = let low = gone-le us in let e = one_more (gone us).out u.key (says u.after (has (gone us).owned u.key) u.before) in omega arith

absent-le : (is_open : ℕ → Bool) (s : Standing) (cs : List Kept) → maps.len (stands_by is_open s cs).out ≤ maps.len s.out + count (is_pending is_open) cs
absent-le is_open s [] = omega arith
absent-le is_open s (c ∷ cs) = absent_case (is_pending is_open (change_of c)) (λ s. absent-le is_open s cs)
  where
    absent_case : (b : Bool) → ((s : Standing) → maps.len (stands_by is_open s cs).out ≤ maps.len s.out + count (is_pending is_open) cs) → maps.len (stands_by is_open (cond b (standing s c) s) cs).out ≤ maps.len s.out + length (cond b (change_of c ∷ pending_of is_open cs) (pending_of is_open cs))
    absent_case true step = let low = step (standing s c) in let e = one_more s.out c.key (says c.after (has s.owned c.key) c.before) in omega arith
    absent_case false step = step s

-- no more keys are out than there are live changes
pub absent_at_most : (is_open : ℕ → Bool) (cs : List Kept) → maps.len (absent_in is_open cs) ≤ count (is_pending is_open) cs
absent_at_most is_open cs =
    let none = maps.len-empty (slice_cmp nat_cmp) (List ℕ) in
    let low = absent-le is_open nothing cs in
    omega arith

-- the counts of a log and of one of its transactions are within the log's length
pub record IsSized (rs : List LogRecord) (pending gone : ℕ) (e : OpenTx) : Type 0 where
  pub last : e.last ≤ length rs
  pub live : e.live ≤ length rs
  pub absent_keys : e.absent ≤ e.live
  pub gone_keys : gone ≤ pending
  pub absent_part : e.absent ≤ gone

-- they are, in a log that is kept
pub sized : (rs : List LogRecord) (es : List (TxId × OpenTx)) (begun pending gone_keys t : ℕ) (e : OpenTx) → IsKept rs (finding es) begun pending gone_keys → finding es t ≡ Some e → IsSized rs pending gone_keys e
sized rs es begun pending gone_keys t e kept found =
    let fits = found_fits rs begun t (finding es) e kept.fit found in
    let opened : opens (finding es) t ≡ true = ap is_some found in
    let parts = absent-parts (opens (finding es)) t (kept_of rs) kept.owned opened in
    let last_is = fits.last in
    let live_is = fits.live in
    let absent_is : e.absent ≡ maps.len (absent_in (only t) (kept_of rs)) = fits.absent_keys in
    let keys : maps.len (absent_in (only t) (kept_of rs)) ≤ length (lives t (kept_of rs)) = subst (λ (m : Standing). maps.len m.out ≤ length (lives t (kept_of rs))) (sym (absent_is_gone t (kept_of rs))) (gone-le (lives t (kept_of rs))) in
    let many : length (lives t (kept_of rs)) ≡ length (stack t rs) = ap length (sym (stack_is_lives t rs)) ∙ length-map (stack t rs) noted in
    let all_is = kept.absent_is in
    let pending_is = kept.pending_is in
    let most = absent_at_most (opens (finding es)) (kept_of rs) in
    record {
      last = omega (arith, last_of-le rs t kept.numbered);
      live = omega (arith, stack-le t rs);
      absent_keys = omega arith;
      gone_keys = omega arith;
      absent_part = omega arith;
    }

-- a key that is absent is counted
pub counted_key : (rs : List LogRecord) (es : List (TxId × OpenTx)) (begun pending gone_keys t prev : ℕ) (x : List ℕ) (e : OpenTx) → IsKept rs (finding es) begun pending gone_keys → finding es t ≡ Some e → prev ≡ e.last → absent_at x (chain rs prev) ≡ true → 0 < e.absent
counted_key rs es begun pending gone_keys t prev x e kept found at is =
    let fits = found_fits rs begun t (finding es) e kept.fit found in
    let there = chain_of rs t prev kept.numbered kept.written (at ∙ fits.last) in
    let had : has (absent_in (only t) (kept_of rs)) x ≡ true =
    ap (λ (s : Standing). has s.out x) (absent_is_gone t (kept_of rs) ∙ ap gone (sym (stack_is_lives t rs)))
    ∙ has-gone (map noted (stack t rs)) x
    ∙ absent_noted x (stack t rs)
    ∙ ap (absent_at x) (sym there)
    ∙ is in
    let some = none_of_len (absent_in (only t) (kept_of rs)) x had in
    let absent_is : e.absent ≡ maps.len (absent_in (only t) (kept_of rs)) = fits.absent_keys in
    omega arith

-- ---- the state

-- the log's use is its length and the live changes of open transactions
pub state_use : (rs : List LogRecord) (es : List (TxId × OpenTx)) (begun pending gone_keys : ℕ) → IsKept rs (finding es) begun pending gone_keys → log_use (is_open (txs_of (kept_of rs) es)) (history_of (kept_of rs)) ≡ length rs + pending
state_use rs es begun pending gone_keys kept =
    ap (λ (o : ℕ → Bool). log_use o (history_of (kept_of rs))) (opens_is (kept_of rs) es)
    ∙ (let n = log_len_is rs kept.written in let p = kept.pending_is in omega arith)

depth_found : (rs : List LogRecord) (n t : ℕ) (es : List (TxId × OpenTx)) → AllFit rs n (finding es) → length (places_of (maps.get (txs_of (kept_of rs) es) t)) ≤ most_savepoints
depth_found rs n t es fit = subst (λ (o : Option Tx). length (places_of o) ≤ most_savepoints) (sym (get-txs_of (kept_of rs) es t)) (depth_case (finding es t) refl)
  where
    depth_case : (o : Option OpenTx) → finding es t ≡ o → length (places_of (option_map (tx_at t (kept_of rs)) o)) ≤ most_savepoints
    depth_case None f = omega arith
    depth_case (Some e) f = let low = (found_fits rs n t (finding es) e fit f).depth in omega (arith, length-map e.saves.items (λ s. place_of_number t s (kept_of rs)))

-- a log that is kept within its limits is one
pub is_log : (s : LogState) (rs : List LogRecord) (es : List (TxId × OpenTx)) (pending gone_keys : ℕ) → IsKept rs (finding es) s.begun pending gone_keys → length rs + pending ≤ s.limits.log_records → s.begun ≤ s.limits.begins → s.changes ≡ kept_of rs → s.txs ≡ txs_of (kept_of rs) es → IsLog s
is_log s rs es pending gone_keys kept fits within cs_is txs_is =
    let opened : open_in s ≡ opens (finding es) = ap is_open txs_is ∙ opens_is (kept_of rs) es in
    let used : use_in s ≡ length rs + pending = (λ i. log_use (is_open (txs_is i)) (history_of (cs_is i))) ∙ state_use rs es s.begun pending gone_keys kept in
    record {
      opens = λ t h. begun_of rs s.begun t (finding es) kept.fit (sym (ap (λ (o : ℕ → Bool). o t) opened) ∙ h);
      begun = subst (AllBegun s.begun) (sym cs_is) kept.all_begun;
      owned = subst (λ (o : ℕ → Bool). IsOwned o s.changes) (sym opened) (subst (IsOwned (opens (finding es))) (sym cs_is) kept.owned);
      fits = omega arith;
      bounded = within;
      depths = λ t. subst (λ (m : Transactions). length (places_of (maps.get m t)) ≤ most_savepoints) (sym txs_is) (depth_found rs s.begun t es kept.fit);
    }

-- what the fields of a log say of it
pub kept_now : (l : Inside) → IsTxLog l → (s : LogState) → log_state_of l ≡ s → IsLog s
kept_now l is s view =
    subst IsLog view (is_log _ (reverse l.records.items) l.txs.entries l.pending l.gone is.log_kept (omega (arith, is.bounded.fits, length-reverse l.records.items)) is.bounded.within refl refl)

-- ---- a count that was made again

-- a count that loses one thing and gains another
pub recounted : (r n m : ℕ) (a b v w : Bool) → a ≡ b → v ≡ w → n ≡ m → r + cond a 1 0 ≡ n + cond v 1 0 → r + cond b 1 0 ≡ m + cond w 1 0
recounted r n m a b v w was will same e = ap (λ (x : Bool). r + cond x 1 0) (sym was) ∙ e ∙ ap (λ (k : ℕ). k + cond v 1 0) same ∙ ap (λ (x : Bool). m + cond x 1 0) will

-- two tests that are each other's opposite
pub none_is : (a b : Bool) → a ≡ not b → b ≡ not a
none_is true true e = absurd (let no : true ≡ false = e in cc)
none_is true false e = refl
none_is false true e = refl
none_is false false e = absurd (let no : false ≡ true = e in cc)

-- ---- the newest change of a transaction is counted

-- a change that is to be taken back is counted
pub record IsCounted (pending : ℕ) (change : LiveChange) (e : OpenTx) : Type 0 where
  pub live : 0 < e.live
  pub waits : 0 < pending

-- it is, in a log that is kept
pub counted_change : (rs : List LogRecord) (es : List (TxId × OpenTx)) (begun pending gone_keys t : ℕ) (e : OpenTx) (change : LiveChange) → IsKept rs (finding es) begun pending gone_keys → finding es t ≡ Some e → IsStep rs e.last change → IsCounted pending change e
counted_change rs es begun pending gone_keys t e change kept found step =
    let fits = found_fits rs begun t (finding es) e kept.fit found in
    let opened : opens (finding es) t ≡ true = ap is_some found in
    let there = chain_of rs t e.last kept.numbered kept.written fits.last in
    let whole : stack t rs ≡ step.update ∷ step.rest = sym there ∙ step.is in
    let live_is : e.live ≡ suc (length step.rest) = fits.live ∙ ap length whole in
    let newest = newest_of_stack t rs step.rest step.update whole in
    let fewer = pending-undone (opens (finding es)) t (kept_of rs) (noted step.update) opened newest in
    let pending_is = kept.pending_is in
    record {
      live = omega arith;
      waits = omega arith;
    }
