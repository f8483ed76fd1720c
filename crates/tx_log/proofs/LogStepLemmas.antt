-- A log that grows by a record, beside the open transactions and the counts.
use Rattle.std.proofs.Common.{◌≡◌, ℕ, suc, ◌+◌, ◌≤◌, Bool, true, false, cond, not, eqb, ◌&&◌, ◌||◌, List, [], ◌∷◌, ◌++◌, length, map, drop, Option, Some, None, option_map, is_some, refl, sym, ap, subst, ◌∙◌, arith, eq-eqb}
use Rattle.std.specs.FinMap as maps
use Rattle.std.specs.List.{find, list_any}
use Rattle.rec_types.specs.History.{is_pending}
use Rattle.rec_types.specs.Kept.{Kept, change_of, newest_live, undone, IsOwned, AllBegun}
use Rattle.rec_types.specs.declared.transaction.TxId.{TxId}
use Rattle.tx_log.specs.Transactions.{most_savepoints}
use Rattle.tx_log.proofs.AbsentOwnedLemmas.{only, without, absent_in, stands-push, absent-push_other, absent-undone_other, absent-parts, absent_is_gone, gone, lacks_at, len-gone}
use Rattle.tx_log.proofs.Chains.{last_of-le, chain_is_stack}
use Rattle.tx_log.proofs.Counts.{count, count-push, pending-undone, newest_of_stack}
use Rattle.tx_log.proofs.Lives.{lives, lives-undone, stack_is_lives}
use Rattle.tx_log.proofs.OpenTxLemmas.{found_fits, fit-put, opens-put, begun_of}
use Rattle.tx_log.proofs.OwnerLemmas.{kept_at, HeldBy, owned-push, owned-undone, begun-push, begun-undone}
use Rattle.tx_log.proofs.WalkSteps.{IsStep}
use Rattle.tx_log.specs.Finds.{Txs, PutsAt}
use Rattle.tx_log.specs.Fits.{AllUpTo, RollbackUpTo, FitsTx, left_above}
use Rattle.tx_log.specs.Log.{leads_to, lsn_of, prev_of, tx_of_record, key_of_record, old_of, new_of, back_in, tells_change, change_record, back_record, noted, kept_by, kept_of, last_of, stepped, stack, chain, IsNumbered, Undoes, UndoesUnless, IsWritten, AllWritten}
use Rattle.tx_log.specs.Owners.{says, Standing, nothing, standing, stands_by}
use Rattle.tx_log.specs.LogFields.{IsKept}
use Rattle.tx_log.specs.OpenTxs.{opens}
use Rattle.tx_log.specs.Walks.{is_at, is_out, absent_at}
use Rattle.tx_log.specs.declared.log_record.LogRecord.{LogRecord}
use Rattle.tx_log.specs.declared.open_tx.OpenTx.{OpenTx}
use Rattle.tx_log.specs.declared.phase.Rollback.{Rollback}
use Rattle.tx_log.specs.declared.undo_chain.LiveChange.{LiveChange}

up_to_more : (n : ℕ) (ss : List ℕ) → AllUpTo n ss → AllUpTo (suc n) ss
up_to_more n [] up = tt
up_to_more n (s ∷ ss) up = (let low = up.0 in omega arith, up_to_more n ss up.1)

rollback_more : (n : ℕ) (s : Option Rollback) → RollbackUpTo n s → RollbackUpTo (suc n) s
rollback_more n None up = tt
rollback_more n (Some r) up = omega arith

-- ---- the other transactions

absent_other : (k : Bool) (r : LogRecord) (rs : List LogRecord) (u : ℕ) → eqb (tx_of_record r) u ≡ false → absent_in (only u) (kept_by k r (kept_of rs)) ≡ absent_in (only u) (kept_of rs)
absent_other true r rs u other = absent-push_other (only u) (kept_of rs) (noted r) other
absent_other false r rs u other = absent-undone_other (only u) (tx_of_record r) (kept_of rs) other

-- a record of one transaction leaves what fits another
pub grow_other : (r : LogRecord) (rs : List LogRecord) (n t u : ℕ) (e : OpenTx) → tx_of_record r ≡ t → eqb t u ≡ false → FitsTx rs n u e → FitsTx (r ∷ rs) n u e
grow_other r rs n t u e own other fits =
    let apart : eqb (tx_of_record r) u ≡ false = ap (λ k. eqb k u) own ∙ other in
    record {
      last = fits.last ∙ sym (ap (λ (b : Bool). cond b (lsn_of r) (last_of u rs)) apart);
      live = fits.live ∙ sym (ap (λ (b : Bool). length (cond b (stepped (tells_change r) r (stack u rs)) (stack u rs))) apart);
      left = fits.left ∙ sym (ap (λ (b : Bool). left_above (cond b (stepped (tells_change r) r (stack u rs)) (stack u rs)) e.rollback) apart);
      absent_keys = fits.absent_keys ∙ sym (ap maps.len (absent_other (tells_change r) r rs u apart));
      saves = up_to_more (length rs) e.saves.items fits.saves;
      depth = fits.depth;
      rollback = rollback_more (length rs) e.rollback fits.rollback;
      some = fits.some;
      begun = fits.begun;
    }

-- ---- the transaction of the record

-- what a record of its own makes of a transaction
pub record IsOwnStep (r : LogRecord) (rs : List LogRecord) (t : ℕ) (e new : OpenTx) : Type 0 where
  pub rollback : new.rollback ≡ e.rollback
  pub saves : new.saves.items ≡ e.saves.items
  pub mine : tx_of_record r ≡ t
  pub last : new.last ≡ lsn_of r
  pub live : new.live ≡ length (stepped (tells_change r) r (stack t rs))
  pub left : new.left ≡ left_above (stepped (tells_change r) r (stack t rs)) e.rollback
  pub absent_keys : new.absent ≡ maps.len (absent_in (only t) (kept_of (r ∷ rs)))

-- what fits the transaction then
pub grow_own : (r : LogRecord) (rs : List LogRecord) (n t : ℕ) (e new : OpenTx) → FitsTx rs n t e → IsOwnStep r rs t e new → FitsTx (r ∷ rs) n t new
grow_own r rs n t e new fits step =
    let here : eqb (tx_of_record r) t ≡ true = eq-eqb (tx_of_record r) t step.mine in
    record {
      last = step.last ∙ sym (ap (λ (b : Bool). cond b (lsn_of r) (last_of t rs)) here);
      live = step.live ∙ sym (ap (λ (b : Bool). length (cond b (stepped (tells_change r) r (stack t rs)) (stack t rs))) here);
      left = step.left ∙ (λ i. left_above (sym (ap (λ (b : Bool). cond b (stepped (tells_change r) r (stack t rs)) (stack t rs)) here) i) (sym step.rollback i));
      absent_keys = step.absent_keys;
      saves = subst (AllUpTo (suc (length rs))) (sym step.saves) (up_to_more (length rs) e.saves.items fits.saves);
      depth = subst (λ (ss : List ℕ). length ss ≤ most_savepoints) (sym step.saves) fits.depth;
      rollback = subst (RollbackUpTo (suc (length rs))) (sym step.rollback) (rollback_more (length rs) e.rollback fits.rollback);
      some = fits.some;
      begun = fits.begun;
    }

-- ---- a record more

-- what a record makes of a log
pub record IsGrowth (r : LogRecord) (rs : List LogRecord) (txs : Txs) (t begun pending_new gone_new : ℕ) (e new : OpenTx) : Type 0 where
  pub own : IsOwnStep r rs t e new
  pub lsn : lsn_of r ≡ length rs + 1
  pub prev : prev_of r ≡ last_of t rs
  pub leads : leads_to r ≤ length rs
  pub written : IsWritten r rs
  pub all_begun : AllBegun begun (kept_of (r ∷ rs))
  pub owned : IsOwned (opens txs) (kept_of (r ∷ rs))
  pub pending_is : pending_new ≡ count (is_pending (opens txs)) (kept_of (r ∷ rs))
  pub absent_is : gone_new ≡ maps.len (absent_in (opens txs) (kept_of (r ∷ rs)))

-- the log is kept then
pub grown : (r : LogRecord) (rs : List LogRecord) (txs txs_new : Txs) (begun pending gone pending_new gone_new t : ℕ) (e new : OpenTx) → IsKept rs txs begun pending gone → txs t ≡ Some e → PutsAt txs txs_new t (Some new) → IsGrowth r rs txs t begun pending_new gone_new e new → IsKept (r ∷ rs) txs_new begun pending_new gone_new
grown r rs txs txs_new begun pending gone pending_new gone_new t e new kept found puts g =
    let fits = found_fits rs begun t txs e kept.fit found in
    let same = opens-put t txs txs_new new e puts found in
    record {
      numbered = (g.lsn, (let p = g.prev in omega (arith, last_of-le rs t kept.numbered)), g.leads, kept.numbered);
      written = (g.written, kept.written);
      fit = fit-put rs begun (r ∷ rs) begun t txs txs_new (Some new) (λ u x. grow_other r rs begun t u x g.own.mine) puts (grow_own r rs begun t e new fits g.own) kept.fit;
      known = ((let low = fits.begun in let mine = g.own.mine in omega arith), kept.known);
      all_begun = g.all_begun;
      owned = subst (λ (o : ℕ → Bool). IsOwned o (kept_of (r ∷ rs))) (sym same) g.owned;
      pending_is = g.pending_is ∙ ap (λ (o : ℕ → Bool). count (is_pending o) (kept_of (r ∷ rs))) (sym same);
      absent_is = g.absent_is ∙ ap (λ (o : ℕ → Bool). maps.len (absent_in o (kept_of (r ∷ rs)))) (sym same);
    }

-- ---- whether a key is absent, by the changes at it

-- the newest change at a key, as a log record and noted
pub find_noted : (x : List ℕ) (us : List LogRecord) → find (kept_at x) (map noted us) ≡ option_map noted (find (is_at x) us)
find_noted x [] = refl
find_noted x (u ∷ us) = noted_case (is_at x u) (find_noted x us)
  where
    noted_case : (b : Bool) → find (kept_at x) (map noted us) ≡ option_map noted (find (is_at x) us) → cond b (Some (noted u)) (find (kept_at x) (map noted us)) ≡ option_map noted (cond b (Some u) (find (is_at x) us))
    noted_case true e = refl
    noted_case false e = e

any_noted : (x : List ℕ) (us : List LogRecord) → list_any (kept_at x) (map noted us) ≡ list_any (is_at x) us
any_noted x [] = refl
any_noted x (u ∷ us) = ap (λ b. is_at x u || b) (any_noted x us)

-- a key is absent by log records as by the changes that they tell of
pub absent_noted : (x : List ℕ) (us : List LogRecord) → lacks_at x (map noted us) ≡ absent_at x us
absent_noted x [] = refl
absent_noted x (u ∷ us) = λ i. cond (is_at x u) (is_out (says (new_of u) (any_noted x us i) (old_of u)) (absent_noted x us i)) (absent_noted x us i)

-- how many keys are out after one change more
pub len_noted : (r : LogRecord) (us : List LogRecord) (key : List ℕ) → key_of_record r ≡ key → maps.len (gone (map noted (r ∷ us))).out + cond (absent_at key us) 1 0 ≡ maps.len (gone (map noted us)).out + cond (absent_at key (r ∷ us)) 1 0
len_noted r us key is =
    subst (λ (k : List ℕ). maps.len (gone (map noted (r ∷ us))).out + cond (absent_at k us) 1 0 ≡ maps.len (gone (map noted us)).out + cond (absent_at k (r ∷ us)) 1 0) is
    ((λ i. maps.len (gone (map noted (r ∷ us))).out + cond (sym (absent_noted (key_of_record r) us) i) 1 0)
    ∙ len-gone (map noted us) (noted r)
    ∙ ap (λ (b : Bool). maps.len (gone (map noted us)).out + cond b 1 0) (absent_noted (key_of_record r) (r ∷ us)))

-- the chain from a transaction's last record, found by its number
pub chain_of : (rs : List LogRecord) (t at : ℕ) → IsNumbered rs → AllWritten rs → at ≡ last_of t rs → chain rs at ≡ stack t rs
chain_of rs t at is w e = ap (chain rs) e ∙ chain_is_stack t rs is w

-- ---- an update

shut_itself : (t : ℕ) (is_open : ℕ → Bool) → without t is_open t ≡ false
shut_itself t is_open = ap (λ b. is_open t && not b) (eq-eqb t t refl) ∙ shut_case (is_open t)
  where
    shut_case : (b : Bool) → (b && false) ≡ false
    shut_case true = refl
    shut_case false = refl

-- the count over all goes as that of the transaction
total_goes : (all others one all_new others_new one_new count count_new was will : ℕ) → all ≡ others + one → all_new ≡ others_new + one_new → others_new ≡ others → one_new + was ≡ one + will → count ≡ all → count_new + was ≡ count + will → count_new ≡ all_new
total_goes all others one all_new others_new one_new count count_new was will a b c d e f = omega arith

one_goes : (one one_new count count_new was will : ℕ) → one_new + was ≡ one + will → count ≡ one → count_new + was ≡ count + will → count_new ≡ one_new
one_goes one one_new count count_new was will d e f = omega arith

-- the record tells of the change
pub record IsChangeOf (r : LogRecord) (lsn prev : ℕ) (tx : TxId) (key : List ℕ) (before : Option (List ℕ)) (after : Option (Option (List ℕ))) : Type 0 where
  pub up : tells_change r ≡ true
  pub lsn_is : lsn_of r ≡ lsn
  pub prev_is : prev_of r ≡ prev
  pub leads : leads_to r ≡ prev
  pub tx_is : tx_of_record r ≡ tx.0
  pub key_is : key_of_record r ≡ key
  pub told : noted r ≡ record { lsn = lsn; tx = tx.0; key = key; before = before; after = after; live = true }

-- as the one that is written for it does
pub change_told_of : (lsn prev : ℕ) (tx : TxId) (key : List ℕ) (before : Option (List ℕ)) (after : Option (Option (List ℕ))) → IsChangeOf (change_record lsn prev tx key before after) lsn prev tx key before after
change_told_of lsn prev tx key before None = record { up = refl; lsn_is = refl; prev_is = refl; leads = refl; tx_is = refl; key_is = refl; told = refl }
change_told_of lsn prev tx key before (Some after) = record { up = refl; lsn_is = refl; prev_is = refl; leads = refl; tx_is = refl; key_is = refl; told = refl }

-- the counts after a change
pub record IsAccepted (r : LogRecord) (lsn prev : ℕ) (tx : TxId) (key : List ℕ) (rs : List LogRecord) (txs : Txs) (pending gone pending_new gone_new : ℕ) (e new : OpenTx) : Type 0 where
  pub lsn_is : lsn ≡ length rs + 1
  pub prev_is : prev ≡ e.last
  pub held : HeldBy (opens txs) tx.0 key (kept_of rs)
  pub rollback_same : new.rollback ≡ e.rollback
  pub saves_same : new.saves.items ≡ e.saves.items
  pub last_new : new.last ≡ lsn
  pub live_new : new.live ≡ e.live + 1
  pub calm : e.rollback ≡ None
  pub left_same : new.left ≡ e.left
  pub absent_new : new.absent + cond (absent_at key (chain rs prev)) 1 0 ≡ e.absent + cond (absent_at key (r ∷ chain rs prev)) 1 0
  pub pending_one : pending_new ≡ pending + 1
  pub gone_one : gone_new + cond (absent_at key (chain rs prev)) 1 0 ≡ gone + cond (absent_at key (r ∷ chain rs prev)) 1 0

-- the log is kept after a change
pub accepted : (r : LogRecord) (lsn prev : ℕ) (tx : TxId) (key : List ℕ) (before : Option (List ℕ)) (after : Option (Option (List ℕ))) (rs : List LogRecord) (txs txs_new : Txs) (begun pending gone_old pending_new gone_new : ℕ) (e new : OpenTx) → IsChangeOf r lsn prev tx key before after → IsKept rs txs begun pending gone_old → txs tx.0 ≡ Some e → PutsAt txs txs_new tx.0 (Some new) → IsAccepted r lsn prev tx key rs txs pending gone_old pending_new gone_new e new → IsKept (r ∷ rs) txs_new begun pending_new gone_new
accepted r lsn prev tx key before after rs txs txs_new begun pending gone_old pending_new gone_new e new is kept found puts a =
    let d : Kept = noted r in
    let cs = kept_of rs in
    let us = chain rs prev in
    let t = tx.0 in
    let fits = found_fits rs begun t txs e kept.fit found in
    let prev_last : prev ≡ last_of t rs = a.prev_is ∙ fits.last in
    let own_prev : prev_of r ≡ last_of (tx_of_record r) rs = is.prev_is ∙ prev_last ∙ ap (λ u. last_of u rs) (sym is.tx_is) in
    let opened : opens txs t ≡ true = ap is_some found in
    let there : us ≡ stack t rs = chain_of rs t prev kept.numbered kept.written prev_last in
    let grows : kept_of (r ∷ rs) ≡ cs ++ d ∷ [] = ap (λ k. kept_by k r cs) is.up in
    let mine : only t d.tx ≡ true = eq-eqb d.tx t is.tx_is in
    let gone_old_is : stands_by (only t) nothing cs ≡ gone (map noted us) = absent_is_gone t cs ∙ ap gone (sym (stack_is_lives t rs) ∙ ap (map noted) (sym there)) in
    let gone_new_is : stands_by (only t) nothing (cs ++ d ∷ []) ≡ gone (map noted (r ∷ us)) = stands-push (only t) cs d refl mine ∙ ap (λ s. standing s d) gone_old_is in
    let one : maps.len (absent_in (only t) (cs ++ d ∷ [])) + cond (absent_at key us) 1 0 ≡ maps.len (absent_in (only t) cs) + cond (absent_at key (r ∷ us)) 1 0 =
    ap (λ (s : Standing). maps.len s.out + cond (absent_at key us) 1 0) gone_new_is
    ∙ len_noted r us key is.key_is
    ∙ ap (λ (s : Standing). maps.len s.out + cond (absent_at key (r ∷ us)) 1 0) (sym gone_old_is) in
    let owned = owned-push (opens txs) cs d kept.owned (subst (λ u. HeldBy (opens txs) u d.key cs) (sym is.tx_is) (subst (λ x. HeldBy (opens txs) t x cs) (sym is.key_is) a.held)) in
    let all = absent-parts (opens txs) t cs kept.owned opened in
    let all_new = absent-parts (opens txs) t (cs ++ d ∷ []) owned opened in
    let others = ap maps.len (absent-push_other (without t (opens txs)) cs d (ap (without t (opens txs)) is.tx_is ∙ shut_itself t (opens txs))) in
    let e_absent : e.absent ≡ maps.len (absent_in (only t) cs) = fits.absent_keys in
    let new_absent : new.absent ≡ maps.len (absent_in (only t) (cs ++ d ∷ [])) =
    one_goes _ _ e.absent new.absent (cond (absent_at key us) 1 0) (cond (absent_at key (r ∷ us)) 1 0) one e_absent a.absent_new in
    let total : gone_new ≡ maps.len (absent_in (opens txs) (cs ++ d ∷ [])) =
    total_goes _ _ _ _ _ _ gone_old gone_new (cond (absent_at key us) 1 0) (cond (absent_at key (r ∷ us)) 1 0) all all_new others one kept.absent_is a.gone_one in
    let pending_push : count (is_pending (opens txs)) (cs ++ d ∷ []) ≡ count (is_pending (opens txs)) cs + cond (is_pending (opens txs) (change_of d)) 1 0 = count-push (is_pending (opens txs)) cs d in
    let is_one : ◌≡◌ {A = ℕ} (cond (is_pending (opens txs) (change_of d)) 1 0) 1 = ap (λ (b : Bool). cond b 1 0) (ap (opens txs) is.tx_is ∙ opened) in
    let begun_is = begun_of rs begun t txs kept.fit opened in
    let stepped_is : stepped (tells_change r) r (stack t rs) ≡ r ∷ stack t rs = ap (λ k. stepped k r (stack t rs)) is.up in
    let own : IsOwnStep r rs t e new = record {
      rollback = a.rollback_same;
      saves = a.saves_same;
      mine = is.tx_is;
      last = a.last_new ∙ sym is.lsn_is;
      live = a.live_new ∙ (let n = fits.live in omega arith) ∙ sym (ap length stepped_is);
      left = a.left_same ∙ fits.left ∙ ap (left_above (stack t rs)) a.calm ∙ sym (ap (left_above (stepped (tells_change r) r (stack t rs))) a.calm);
      absent_keys = new_absent ∙ ap (λ xs. maps.len (absent_in (only t) xs)) (sym grows);
    } in
    grown r rs txs txs_new begun pending gone_old pending_new gone_new t e new kept found puts record {
      own = own;
      lsn = is.lsn_is ∙ a.lsn_is;
      prev = is.prev_is ∙ prev_last;
      leads = (let n = is.leads in omega (arith, last_of-le rs t kept.numbered));
      written = (own_prev, subst (λ k. UndoesUnless k r (stack (tx_of_record r) rs)) (sym is.up) tt);
      all_begun = subst (AllBegun begun) (sym grows) (begun-push begun cs d kept.all_begun (let n = is.tx_is in let m = begun_is.1 in omega arith));
      owned = subst (IsOwned (opens txs)) (sym grows) owned;
      pending_is = a.pending_one ∙ (let p = kept.pending_is in omega arith) ∙ ap (count (is_pending (opens txs))) (sym grows);
      absent_is = total ∙ ap (λ xs. maps.len (absent_in (opens txs) xs)) (sym grows);
    }

-- ---- a change that is taken back

-- the record tells of the taking back
pub record IsBackOf (r : LogRecord) (lsn prev : ℕ) (tx : TxId) (key : List ℕ) (back : Option (Option (List ℕ))) (undo_next : ℕ) : Type 0 where
  pub down : tells_change r ≡ false
  pub lsn_is : lsn_of r ≡ lsn
  pub prev_is : prev_of r ≡ prev
  pub leads : leads_to r ≡ undo_next
  pub tx_is : tx_of_record r ≡ tx.0
  pub key_is : key_of_record r ≡ key
  pub back_is : back_in r ≡ back

-- as the one that is written for it does
pub back_told_of : (lsn prev : ℕ) (tx : TxId) (key : List ℕ) (back : Option (Option (List ℕ))) (undo_next : ℕ) → IsBackOf (back_record lsn prev tx key back undo_next) lsn prev tx key back undo_next
back_told_of lsn prev tx key None undo_next = record { down = refl; lsn_is = refl; prev_is = refl; leads = refl; tx_is = refl; key_is = refl; back_is = refl }
back_told_of lsn prev tx key (Some restored) undo_next = record { down = refl; lsn_is = refl; prev_is = refl; leads = refl; tx_is = refl; key_is = refl; back_is = refl }

-- the counts after a change is taken back
pub record IsCompensated (lsn prev : ℕ) (tx : TxId) (change : LiveChange) (rs : List LogRecord) (txs : Txs) (pending gone pending_new gone_new : ℕ) (e new : OpenTx) : Type 0 where
  pub lsn_is : lsn ≡ length rs + 1
  pub prev_is : prev ≡ e.last
  pub step : IsStep rs prev change
  pub rollback_same : new.rollback ≡ e.rollback
  pub saves_same : new.saves.items ≡ e.saves.items
  pub last_new : new.last ≡ lsn
  pub live_new : new.live + 1 ≡ e.live
  pub left_new : new.left + 1 ≡ e.left
  pub above : left_above (step.update ∷ step.rest) e.rollback ≡ left_above step.rest e.rollback + 1
  pub absent_new : new.absent + cond (absent_at change.key (chain rs prev)) 1 0 ≡ e.absent + cond (absent_at change.key (chain rs change.prev)) 1 0
  pub pending_one : pending_new + 1 ≡ pending
  pub gone_one : gone_new + cond (absent_at change.key (chain rs prev)) 1 0 ≡ gone + cond (absent_at change.key (chain rs change.prev)) 1 0

undoes_step : (r : LogRecord) (rs : List LogRecord) (lsn prev t : ℕ) (tx : TxId) (change : LiveChange) → IsBackOf r lsn prev tx change.key (option_map (λ _. change.before) change.after) change.prev → IsStep rs prev change → chain rs prev ≡ stack t rs → Undoes r (stack t rs)
undoes_step r rs lsn prev t tx change is step there =
    subst (Undoes r) (sym step.is ∙ there)
    (is.leads ∙ ap (λ (c : LiveChange). c.prev) (sym step.told), is.key_is ∙ ap (λ (c : LiveChange). c.key) (sym step.told), is.back_is ∙ ap (λ (c : LiveChange). option_map (λ _. c.before) c.after) (sym step.told))

-- the log is kept after a change is taken back
pub compensated : (r : LogRecord) (lsn prev : ℕ) (tx : TxId) (change : LiveChange) (rs : List LogRecord) (txs txs_new : Txs) (begun pending gone_old pending_new gone_new : ℕ) (e new : OpenTx) → IsBackOf r lsn prev tx change.key (option_map (λ _. change.before) change.after) change.prev → IsKept rs txs begun pending gone_old → txs tx.0 ≡ Some e → PutsAt txs txs_new tx.0 (Some new) → IsCompensated lsn prev tx change rs txs pending gone_old pending_new gone_new e new → IsKept (r ∷ rs) txs_new begun pending_new gone_new
compensated r lsn prev tx change rs txs txs_new begun pending gone_old pending_new gone_new e new is kept found puts a =
    let cs = kept_of rs in
    let t = tx.0 in
    let fits = found_fits rs begun t txs e kept.fit found in
    let prev_last : prev ≡ last_of t rs = a.prev_is ∙ fits.last in
    let own_prev : prev_of r ≡ last_of (tx_of_record r) rs = is.prev_is ∙ prev_last ∙ ap (λ u. last_of u rs) (sym is.tx_is) in
    let opened : opens txs t ≡ true = ap is_some found in
    let there : chain rs prev ≡ stack t rs = chain_of rs t prev kept.numbered kept.written prev_last in
    let u = a.step.update in
    let us = a.step.rest in
    let whole : stack t rs ≡ u ∷ us = sym there ∙ a.step.is in
    let newest : newest_live t cs ≡ Some (noted u) = newest_of_stack t rs us u whole in
    let shrinks : kept_of (r ∷ rs) ≡ undone t cs = ap (λ k. kept_by k r cs) is.down ∙ ap (λ v. undone v cs) is.tx_is in
    let left : lives t (undone t cs) ≡ map noted us = lives-undone t cs ∙ ap (drop 1) (sym (stack_is_lives t rs) ∙ ap (map noted) whole) in
    let now : lives t cs ≡ map noted (u ∷ us) = sym (stack_is_lives t rs) ∙ ap (map noted) whole in
    let key_is : key_of_record u ≡ change.key = ap (λ (c : LiveChange). c.key) a.step.told in
    let old_gone : stands_by (only t) nothing cs ≡ gone (map noted (u ∷ us)) = absent_is_gone t cs ∙ ap gone now in
    let new_gone : stands_by (only t) nothing (undone t cs) ≡ gone (map noted us) = absent_is_gone t (undone t cs) ∙ ap gone left in
    let was : absent_at change.key (chain rs prev) ≡ absent_at change.key (u ∷ us) = ap (absent_at change.key) a.step.is in
    let will : absent_at change.key (chain rs change.prev) ≡ absent_at change.key us = ap (absent_at change.key) a.step.tail in
    let one : maps.len (absent_in (only t) (undone t cs)) + cond (absent_at change.key (chain rs prev)) 1 0 ≡ maps.len (absent_in (only t) cs) + cond (absent_at change.key (chain rs change.prev)) 1 0 =
    (λ i. maps.len (new_gone i).out + cond (was i) 1 0)
    ∙ sym (len_noted u us change.key key_is)
    ∙ (λ i. maps.len (sym old_gone i).out + cond (sym will i) 1 0) in
    let owned = owned-undone (opens txs) t cs kept.owned in
    let all = absent-parts (opens txs) t cs kept.owned opened in
    let all_new = absent-parts (opens txs) t (undone t cs) owned opened in
    let others = ap maps.len (absent-undone_other (without t (opens txs)) t cs (shut_itself t (opens txs))) in
    let e_absent : e.absent ≡ maps.len (absent_in (only t) cs) = fits.absent_keys in
    let new_absent : new.absent ≡ maps.len (absent_in (only t) (undone t cs)) =
    one_goes _ _ e.absent new.absent (cond (absent_at change.key (chain rs prev)) 1 0) (cond (absent_at change.key (chain rs change.prev)) 1 0) one e_absent a.absent_new in
    let total : gone_new ≡ maps.len (absent_in (opens txs) (undone t cs)) =
    total_goes _ _ _ _ _ _ gone_old gone_new (cond (absent_at change.key (chain rs prev)) 1 0) (cond (absent_at change.key (chain rs change.prev)) 1 0) all all_new others one kept.absent_is a.gone_one in
    let fewer = pending-undone (opens txs) t cs (noted u) opened newest in
    let live_is : e.live ≡ suc (length us) = fits.live ∙ ap length whole in
    let stepped_is : stepped (tells_change r) r (stack t rs) ≡ us = ap (λ k. stepped k r (stack t rs)) is.down ∙ ap (drop 1) whole in
    let live_left : new.live ≡ length us = (let n = a.live_new in omega arith) in
    let left_all : e.left ≡ left_above us e.rollback + 1 = fits.left ∙ ap (λ xs. left_above xs e.rollback) whole ∙ a.above in
    let left_left : new.left ≡ left_above us e.rollback = (let n = a.left_new in omega arith) in
    let own : IsOwnStep r rs t e new = record {
      rollback = a.rollback_same;
      saves = a.saves_same;
      mine = is.tx_is;
      last = a.last_new ∙ sym is.lsn_is;
      live = live_left ∙ sym (ap length stepped_is);
      left = left_left ∙ ap (λ xs. left_above xs e.rollback) (sym stepped_is);
      absent_keys = new_absent ∙ ap (λ xs. maps.len (absent_in (only t) xs)) (sym shrinks);
    } in
    grown r rs txs txs_new begun pending gone_old pending_new gone_new t e new kept found puts record {
      own = own;
      lsn = is.lsn_is ∙ a.lsn_is;
      prev = is.prev_is ∙ prev_last;
      leads = (let n = is.leads in omega (arith, a.step.falls, a.step.within));
      written = (own_prev, subst (λ k. UndoesUnless k r (stack (tx_of_record r) rs)) (sym is.down) (subst (λ v. Undoes r (stack v rs)) (sym is.tx_is) (undoes_step r rs lsn prev t tx change is a.step there)));
      all_begun = subst (AllBegun begun) (sym shrinks) (begun-undone begun t cs kept.all_begun);
      owned = subst (IsOwned (opens txs)) (sym shrinks) owned;
      pending_is = (let p = kept.pending_is in let n = a.pending_one in let q : pending_new ≡ count (is_pending (opens txs)) (undone t cs) = omega arith in q) ∙ ap (count (is_pending (opens txs))) (sym shrinks);
      absent_is = total ∙ ap (λ xs. maps.len (absent_in (opens txs) xs)) (sym shrinks);
    }
