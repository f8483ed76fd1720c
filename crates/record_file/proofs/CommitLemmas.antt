-- What the commits of a run make of the records that it began with.
use Rattle.std.proofs.Common.{◌≡◌, ◌⊎◌, inl, inr, ℕ, ◌+◌, ◌≤◌, zero, suc, Bool, true, false, cond, not, ◌&&◌, if◌then◌else◌, nat_lt, eqb, List, [], ◌∷◌, ◌++◌, filter, Option, Some, None, Ok, Err, refl, sym, ap, subst, ◌∙◌, IsTrue, arith}
use Rattle.std.proofs.lemmas.Bool.Decides.{nat_tests}
use Rattle.std.proofs.lemmas.List.{append-nil}
use Rattle.std.specs.FinMap as maps
use Rattle.std.specs.FinMap.{get}
use Rattle.rec_types.specs.Contents.{Contents, set_to, write_to, same_key}
use Rattle.rec_types.specs.History.{Change, applied, replay, live_of, live_from, taken_back, take_back, take_newest}
use Rattle.rec_types.specs.Kept.{Kept, change_of, history_of, OnlyOf, IsOwned, AllBegun}
use Rattle.rec_types.proofs.ContentsLemmas.{same_contents, get-set_to-here, get-set_to-there, same_key-is}
use Rattle.tx_log.specs.Transactions.{Transactions, is_open, fresh}
use Rattle.record_file.specs.Abstract.{File, open_of, tx_of, with_change}
use Rattle.record_file.specs.Steps.{active_refusal, key_refusal}
use Rattle.record_file.specs.Runs.{Called, Event, Seen, Run, Begin, Put, Claim, Remove, Get, Savepoint, Release, RollbackTo, Abort, Resume, Commit, Entries, Beside, EntriesBeside, CommittedAt, KeysOf, StatusOf, Charged, Begun, LogLen, LogUse, RecordAt, IntoTable}
use Rattle.rec_types.specs.declared.transaction.TxId.{TxId}
use Rattle.record_file.specs.Undo.{Starts, old_record, quiet}
use Rattle.record_file.specs.Remaining.{begins_or_commits}
use Rattle.tx_log.specs.Written.{own, writes, writes_if}
use Rattle.record_file.specs.Durable.{overlay, has_ended, ended, committed, Keeps, CommitsKept}
use Rattle.record_file.proofs.OpenTxLemmas.{same_tx, same_tx-refl, same_tx-is, open-insert, open-remove}
use Rattle.record_file.proofs.CallKindLemmas.{Move, Still, Began, PutIn, ClaimIn, TookOut, Committed, WentBack, Ended, move_of, some_phase}
use Rattle.record_file.proofs.UndoLemmas.{NoneLiveAt, replay_past}
use Rattle.record_file.proofs.InvariantLemmas.{open_by_phase}
use Rattle.tx_log.specs.declared.phase.Phase.TheVariants as phases
use Rattle.record_file.proofs.RunLemmas.{KeptRun, added, change_free, step_kept, start_kept}

abbrev pub Writes : Type 0
Writes = List (List ℕ × Option (List ℕ))

pub overlay-append : (es fs : Writes) (m : Contents) → overlay m (es ++ fs) ≡ overlay (overlay m es) fs
overlay-append [] fs m = refl
overlay-append (e ∷ es) fs m = overlay-append es fs (set_to m e.0 e.1)

-- a key that some writes don't name keeps its record, and the others get the same over any contents
named : (es : Writes) (x : List ℕ) → ((m : Contents) → get (overlay m es) x ≡ get m x) ⊎ ((m n : Contents) → get (overlay m es) x ≡ get (overlay n es) x)
named [] x = inl (λ m. refl)
named (e ∷ es) x = at (same_key x e.0) refl (named es x)
  where
    at : (b : Bool) → same_key x e.0 ≡ b → ((m : Contents) → get (overlay m es) x ≡ get m x) ⊎ ((m n : Contents) → get (overlay m es) x ≡ get (overlay n es) x) → ((m : Contents) → get (overlay (set_to m e.0 e.1) es) x ≡ get m x) ⊎ ((m n : Contents) → get (overlay (set_to m e.0 e.1) es) x ≡ get (overlay (set_to n e.0 e.1) es) x)
    at b is (inr same) = inr (λ m n. same (set_to m e.0 e.1) (set_to n e.0 e.1))
    at false is (inl stays) = inl (λ m. stays (set_to m e.0 e.1) ∙ get-set_to-there m e.0 e.1 x is)
    at true is (inl stays) = inr (λ m n. here m ∙ sym (here n))
      where
        here : (m : Contents) → get (overlay (set_to m e.0 e.1) es) x ≡ e.1
        here m = stays (set_to m e.0 e.1) ∙ ap (get (set_to m e.0 e.1)) (same_key-is x e.0 is) ∙ get-set_to-here m e.0 e.1

-- writes that are done again over what they made do nothing
pub overlay-again : (m : Contents) (es : Writes) → overlay (overlay m es) es ≡ overlay m es
overlay-again m es = same_contents _ _ (λ x. at x (named es x))
  where
    at : (x : List ℕ) → ((m : Contents) → get (overlay m es) x ≡ get m x) ⊎ ((m n : Contents) → get (overlay m es) x ≡ get (overlay n es) x) → get (overlay (overlay m es) es) x ≡ get (overlay m es) x
    at x (inl stays) = stays (overlay m es)
    at x (inr same) = same (overlay m es) m

-- the writes of a history are its replay
pub writes-replay : (m : Contents) (h : List Change) → overlay m (writes h) ≡ replay m h
writes-replay m [] = refl
writes-replay m (c ∷ h) = at c.live c.after (λ n. writes-replay n h)
  where
    at : (live : Bool) (after : Option (Option (List ℕ))) → ((n : Contents) → overlay n (writes h) ≡ replay n h) → overlay m (writes_if live c.key after (writes h)) ≡ replay (cond live (write_to m c.key after) m) h
    at true (Some w) ih = ih (set_to m c.key w)
    at true None ih = ih m
    at false after ih = ih m

-- where the same transactions have ended, of those that made changes
ended-same : (o p : ℕ → Bool) (n : ℕ) (cs : List Kept) → AllBegun n cs → ((u : ℕ) → u ≤ n → p u ≡ o u) → ended p (history_of cs) ≡ ended o (history_of cs)
ended-same o p n [] all same = refl
ended-same o p n (c ∷ cs) all same =
    let rest = ended-same o p n cs all.1 same in
    let here = same c.tx all.0 in
    λ i. cond (not (here i)) (change_of c ∷ rest i) (rest i)

-- a change of an open transaction
ended-push : (o : ℕ → Bool) (h : List Change) (c : Change) → o c.tx ≡ true → ended o (h ++ c ∷ []) ≡ ended o h
ended-push o [] c opened = ap (λ b. cond (not b) (c ∷ []) []) opened
ended-push o (d ∷ h) c opened = ap (λ (k : List Change). cond (not (o d.tx)) (d ∷ k) k) (ended-push o h c opened)

-- changes of an open transaction that are taken back
ended-newest : (o : ℕ → Bool) (t : ℕ) → o t ≡ true → (h : List Change) (p n : ℕ) → ended o (take_newest h t p n) ≡ ended o h
ended-newest o t opened [] p n = refl
ended-newest o t opened (c ∷ h) zero n = at (eqb c.tx t) c.live (nat_lt (live_from h t zero) n) refl (ended-newest o t opened h zero n)
  where
    at : (mine live few : Bool) → eqb c.tx t ≡ mine → ended o (take_newest h t zero n) ≡ ended o h → filter (has_ended o) ((if (mine && live) && few then taken_back c else c) ∷ take_newest h t zero n) ≡ filter (has_ended o) (c ∷ h)
    at true true true is rest =
        let here : o c.tx ≡ true = ap o (grind (arith, nat_tests)) ∙ opened in
        ap (λ (b : Bool). cond (not b) (taken_back c ∷ ended o (take_newest h t zero n)) (ended o (take_newest h t zero n))) here ∙ rest ∙ sym (ap (λ (b : Bool). cond (not b) (c ∷ ended o h) (ended o h)) here)
    at true true false is rest = ap (λ (k : List Change). cond (not (o c.tx)) (c ∷ k) k) rest
    at true false few is rest = ap (λ (k : List Change). cond (not (o c.tx)) (c ∷ k) k) rest
    at false live few is rest = ap (λ (k : List Change). cond (not (o c.tx)) (c ∷ k) k) rest
ended-newest o t opened (c ∷ h) (suc p) n = ap (λ (k : List Change). cond (not (o c.tx)) (c ∷ k) k) (at (eqb c.tx t) (ended-newest o t opened h p n) (ended-newest o t opened h (suc p) n))
  where
    at : (mine : Bool) → ended o (take_newest h t p n) ≡ ended o h → ended o (take_newest h t (suc p) n) ≡ ended o h → ended o (if mine then take_newest h t p n else take_newest h t (suc p) n) ≡ ended o h
    at true one same = one
    at false one same = same

-- all transactions but one are open as before, and that one was and isn't
pub record Ends (o p : ℕ → Bool) (t : ℕ) : Type 0 where
  pub was : o t ≡ true
  pub is : p t ≡ false
  pub others : (u : ℕ) → eqb u t ≡ false → p u ≡ o u

-- an abort leaves what the others made
aborted : (o p : ℕ → Bool) (t : ℕ) → Ends o p t → (h : List Change) (m : Contents) → replay m (ended p (take_back h t zero)) ≡ replay m (ended o h)
aborted o p t ends [] m = refl
aborted o p t ends (c ∷ h) m = at (eqb c.tx t) c.live refl refl (aborted o p t ends h)
  where
    at : (mine live : Bool) → eqb c.tx t ≡ mine → c.live ≡ live → ((n : Contents) → replay n (ended p (take_back h t zero)) ≡ replay n (ended o h)) → replay m (filter (has_ended p) ((if mine && live then taken_back c else c) ∷ take_back h t zero)) ≡ replay m (filter (has_ended o) (c ∷ h))
    at true true is live ih =
        let mine : c.tx ≡ t = grind (arith, nat_tests) in
        ap (λ (b : Bool). replay m (cond (not b) (taken_back c ∷ ended p (take_back h t zero)) (ended p (take_back h t zero)))) (ap p mine ∙ ends.is)
        ∙ ih m
        ∙ sym (ap (λ (b : Bool). replay m (cond (not b) (c ∷ ended o h) (ended o h))) (ap o mine ∙ ends.was))
    at true false is live ih =
        let mine : c.tx ≡ t = grind (arith, nat_tests) in
        ap (λ (b : Bool). replay m (cond (not b) (c ∷ ended p (take_back h t zero)) (ended p (take_back h t zero)))) (ap p mine ∙ ends.is)
        ∙ ap (λ (b : Bool). replay (cond b (write_to m c.key c.after) m) (ended p (take_back h t zero))) live
        ∙ ih m
        ∙ sym (ap (λ (b : Bool). replay m (cond (not b) (c ∷ ended o h) (ended o h))) (ap o mine ∙ ends.was))
    at false live is live_is ih =
        ap (λ (b : Bool). replay m (cond (not b) (c ∷ ended p (take_back h t zero)) (ended p (take_back h t zero)))) (ends.others c.tx is)
        ∙ apart (o c.tx)
      where
        apart : (b : Bool) → replay m (cond (not b) (c ∷ ended p (take_back h t zero)) (ended p (take_back h t zero))) ≡ replay m (cond (not b) (c ∷ ended o h) (ended o h))
        apart true = ih m
        apart false = ih (applied c m)

-- where only an open transaction has live changes at a key, those that have ended have none
pub none_ended : (o : ℕ → Bool) (t : ℕ) (x : List ℕ) (cs : List Kept) → o t ≡ true → OnlyOf t x cs → NoneLiveAt x (ended o (history_of cs))
none_ended o t x [] opened only = tt
none_ended o t x (d ∷ ds) opened only = at (o d.tx) refl (none_ended o t x ds opened only.1)
  where
    at : (b : Bool) → o d.tx ≡ b → NoneLiveAt x (ended o (history_of ds)) → NoneLiveAt x (cond (not b) (change_of d ∷ ended o (history_of ds)) (ended o (history_of ds)))
    at true is rest = rest
    at false is rest = (λ live here. absurd (cc (sym is ∙ ap o (only.0 live here) ∙ opened)), rest)

-- a commit adds what its transaction made, over what the others made
commit_adds : (o p : ℕ → Bool) (t : ℕ) → Ends o p t → (cs : List Kept) → IsOwned o cs → (m : Contents) → replay m (ended p (history_of cs)) ≡ replay (replay m (ended o (history_of cs))) (own t (history_of cs))
commit_adds o p t ends [] owned m = refl
commit_adds o p t ends (c ∷ cs) owned m = at (eqb c.tx t) c.live refl refl (commit_adds o p t ends cs owned.1)
  where
    at : (mine live : Bool) → eqb c.tx t ≡ mine → c.live ≡ live → ((n : Contents) → replay n (ended p (history_of cs)) ≡ replay (replay n (ended o (history_of cs))) (own t (history_of cs)))
        → replay m (filter (has_ended p) (change_of c ∷ history_of cs)) ≡ replay (replay m (filter (has_ended o) (change_of c ∷ history_of cs))) (cond (mine && live) (change_of c ∷ own t (history_of cs)) (own t (history_of cs)))
    at true true is live ih =
        let mine : c.tx ≡ t = grind (arith, nat_tests) in
        let opened : o c.tx ≡ true = ap o mine ∙ ends.was in
        let none : NoneLiveAt c.key (ended o (history_of cs)) = none_ended o c.tx c.key cs opened (owned.0 live opened) in
        ap (λ (b : Bool). replay m (cond (not b) (change_of c ∷ ended p (history_of cs)) (ended p (history_of cs)))) (ap p mine ∙ ends.is)
        ∙ ap (λ (b : Bool). replay (cond b (write_to m c.key c.after) m) (ended p (history_of cs))) live
        ∙ ih (write_to m c.key c.after)
        ∙ ap (λ (n : Contents). replay n (own t (history_of cs))) (replay_past (ended o (history_of cs)) m c.key c.after none)
        ∙ sym (ap (λ (b : Bool). replay (cond b (write_to (replay m (ended o (history_of cs))) c.key c.after) (replay m (ended o (history_of cs)))) (own t (history_of cs))) live)
        ∙ sym (ap (λ (b : Bool). replay (replay m (cond (not b) (change_of c ∷ ended o (history_of cs)) (ended o (history_of cs)))) (change_of c ∷ own t (history_of cs))) opened)
    at true false is live ih =
        let mine : c.tx ≡ t = grind (arith, nat_tests) in
        ap (λ (b : Bool). replay m (cond (not b) (change_of c ∷ ended p (history_of cs)) (ended p (history_of cs)))) (ap p mine ∙ ends.is)
        ∙ ap (λ (b : Bool). replay (cond b (write_to m c.key c.after) m) (ended p (history_of cs))) live
        ∙ ih m
        ∙ sym (ap (λ (b : Bool). replay (replay m (cond (not b) (change_of c ∷ ended o (history_of cs)) (ended o (history_of cs)))) (own t (history_of cs))) (ap o mine ∙ ends.was))
    at false live is live_is ih =
        ap (λ (b : Bool). replay m (cond (not b) (change_of c ∷ ended p (history_of cs)) (ended p (history_of cs)))) (ends.others c.tx is)
        ∙ apart (o c.tx)
      where
        apart : (b : Bool) → replay m (cond (not b) (change_of c ∷ ended p (history_of cs)) (ended p (history_of cs))) ≡ replay (replay m (cond (not b) (change_of c ∷ ended o (history_of cs)) (ended o (history_of cs)))) (own t (history_of cs))
        apart true = ih m
        apart false = ih (applied (change_of c) m)

-- where none is open all have ended
pub ended-all : (o : ℕ → Bool) (h : List Change) → ((t : ℕ) → o t ≡ false) → ended o h ≡ h
ended-all o [] none = refl
ended-all o (c ∷ h) none = ap (λ (b : Bool). cond (not b) (c ∷ ended o h) (ended o h)) (none c.tx) ∙ ap (λ (k : List Change). c ∷ k) (ended-all o h none)

ended-alike : (o p : ℕ → Bool) (h : List Change) → ((u : ℕ) → p u ≡ o u) → ended p h ≡ ended o h
ended-alike o p [] same = refl
ended-alike o p (c ∷ h) same =
    let rest = ended-alike o p h same in
    let here = same c.tx in
    λ i. cond (not (here i)) (c ∷ rest i) (rest i)

-- a call that isn't an accepted commit keeps nothing
no_writes : (f : File) (called : Called) (es : Writes) → begins_or_commits called ≡ false → Keeps f called es → es ≡ []
no_writes f (Begin answer) es quiet keeps = keeps
no_writes f (Put t x r answer) es quiet keeps = keeps
no_writes f (Claim t x answer) es quiet keeps = keeps
no_writes f (Remove t x answer) es quiet keeps = keeps
no_writes f (Get t x answer) es quiet keeps = keeps
no_writes f (Savepoint t answer) es quiet keeps = keeps
no_writes f (Release t n answer) es quiet keeps = keeps
no_writes f (RollbackTo t n answer) es quiet keeps = keeps
no_writes f (Abort t answer) es quiet keeps = keeps
no_writes f (Resume t answer) es quiet keeps = keeps
no_writes f (Commit t (Ok done)) es quiet keeps = absurd (cc)
no_writes f (Commit t (Err fault)) es quiet keeps = keeps
no_writes f (Entries answer) es quiet keeps = keeps
no_writes f (Beside side gap answer) es quiet keeps = keeps
no_writes f (EntriesBeside side gap answer) es quiet keeps = keeps
no_writes f (CommittedAt x answer) es quiet keeps = keeps
no_writes f (KeysOf t answer) es quiet keeps = keeps
no_writes f (StatusOf t answer) es quiet keeps = keeps
no_writes f (Charged count) es quiet keeps = keeps
no_writes f (Begun count) es quiet keeps = keeps
no_writes f (LogLen count) es quiet keeps = keeps
no_writes f (LogUse count) es quiet keeps = keeps
no_writes f (RecordAt lsn answer) es quiet keeps = keeps
no_writes f (IntoTable answer) es quiet keeps = keeps

ends_removed : (txs : Transactions) (t : ℕ) → is_open txs t ≡ true → Ends (is_open txs) (is_open (maps.remove txs t)) t
ends_removed txs t was = record {
  was = was;
  is = open-remove txs t t ∙ ap (λ (b : Bool). cond b false (is_open txs t)) (same_tx-refl t);
  others = λ u apart. open-remove txs t u ∙ at u apart (same_tx u t) refl;
}
  where
    at : (u : ℕ) → eqb u t ≡ false → (b : Bool) → same_tx u t ≡ b → cond b false (is_open txs u) ≡ is_open txs u
    at u apart true same = let is : u ≡ t = same_tx-is u t same in absurd (grind (arith, nat_tests))
    at u apart false same = refl

module _ (m : Contents) (answered : List (Option (List ℕ))) (old : File) (kept : KeptRun m answered old) where
  same_as : (n : ℕ) (txs : Transactions) → ((u : ℕ) → u ≤ old.begun → is_open txs u ≡ open_of old u) → ended (is_open txs) old.history ≡ ended (open_of old) old.history
  same_as n txs same = subst (λ (h : List Change). ended (is_open txs) h ≡ ended (open_of old) h) kept.history (ended-same (open_of old) (is_open txs) old.begun kept.cs kept.holds.all same)

  begun_same : committed (record old { begun = old.begun + 1; txs = maps.insert old.txs (old.begun + 1) fresh }) ≡ committed old
  begun_same = ap (λ (h : List Change). replay old.opening h) (same_as 0 (maps.insert old.txs (old.begun + 1) fresh) (λ u low. open-insert old.txs (old.begun + 1) fresh u ∙ at u low (same_tx u (old.begun + 1)) refl))
    where
      at : (u : ℕ) → u ≤ old.begun → (b : Bool) → same_tx u (old.begun + 1) ≡ b → cond b true (is_open old.txs u) ≡ is_open old.txs u
      at u low true same = absurd (omega (arith, low, same_tx-is u (old.begun + 1) same))
      at u low false same = refl

  push_same : (t : ℕ) (x : List ℕ) (after : Option (Option (List ℕ))) → key_refusal true old t x ≡ None → committed (with_change old t x after) ≡ committed old
  push_same t x after free = ap (λ (h : List Change). replay old.opening h) (ended-push (open_of old) old.history (record { tx = t; key = x; after = after; live = true }) (open_by_phase (tx_of old t) phases.Active (change_free old t x free).0))

  commit_same : (t : ℕ) → open_of old t ≡ true → committed (record old { txs = maps.remove old.txs t }) ≡ replay (committed old) (own t old.history)
  commit_same t opened = subst (λ (h : List Change). replay old.opening (ended (is_open (maps.remove old.txs t)) h) ≡ replay (replay old.opening (ended (open_of old) h)) (own t h)) kept.history (commit_adds (open_of old) (is_open (maps.remove old.txs t)) t (ends_removed old.txs t opened) kept.cs kept.holds.owned old.opening)

  -- a call adds to the records of the commits what it keeps
  pub move_commits : (called : Called) (new : File) (es : Writes) → Move old called new → Keeps old called es → committed new ≡ overlay (committed old) es
  move_commits called new es move keeps = at move
    where
      none : es ≡ [] → committed old ≡ overlay (committed old) es
      none is = sym (ap (λ (k : Writes). overlay (committed old) k) is)

      by : (other : Called) → called ≡ other → Keeps old other es
      by other is = subst (λ (k : Called). Keeps old k es) is keeps

      at : Move old called new → committed new ≡ overlay (committed old) es
      at (Still is no_record no_begin) = ap committed is ∙ none (no_writes old called es no_begin keeps)
      at (Began tx called_is step) = ap committed step.2 ∙ begun_same ∙ none (by (Begin (Ok tx)) called_is)
      at (PutIn t x r before called_is free room stood is) = ap committed is ∙ push_same t.0 x (Some (Some r)) free ∙ none (by (Put t x r (Ok before)) called_is)
      at (ClaimIn t x before called_is free room stood is) = ap committed is ∙ push_same t.0 x None free ∙ none (by (Claim t x (Ok before)) called_is)
      at (TookOut t x before called_is free stood is) = ap committed is ∙ push_same t.0 x (Some None) free ∙ none (by (Remove t x (Ok before)) called_is)
      at (Committed t done called_is step) =
          let opened : open_of old t.0 ≡ true = some_phase (tx_of old t.0) (λ absent. absurd (cc (sym (ap (active_refusal None) absent) ∙ step.0))) in
          ap committed step.1 ∙ commit_same t.0 opened ∙ sym (by (Commit t (Ok done)) called_is (committed old))
      at (WentBack t p n txs there le is same ends no_record no_begin) =
          ap committed is
          ∙ ap (λ (h : List Change). replay old.opening h) (ended-alike (open_of old) (is_open txs) (take_newest old.history t p n) same ∙ ended-newest (open_of old) t there old.history p n)
          ∙ none (no_writes old called es no_begin keeps)
      at (Ended t there is no_record no_begin) =
          ap committed is
          ∙ aborted (open_of old) (is_open (maps.remove old.txs t)) t (ends_removed old.txs t there) old.history old.opening
          ∙ none (no_writes old called es no_begin keeps)

-- what the commits of a run keep makes the records of the transactions that have ended
pub run_commits : (m : Contents) (answered : List (Option (List ℕ))) (old new : Seen) (es : List Event) (kept : Writes) → IsTrue old.sound → KeptRun m answered old.file → CommitsKept old es new kept → overlay (committed old.file) kept ≡ committed new.file
run_commits m answered old new [] kept sound holds ran = ap (λ (k : Writes). overlay (committed old.file) k) ran.1 ∙ sym (ap (λ (s : Seen). committed s.file) ran.0)
run_commits m answered old new (e ∷ es) kept sound holds ran =
    ap (λ (k : Writes). overlay (committed old.file) k) ran.4
    ∙ overlay-append ran.2 ran.3 (committed old.file)
    ∙ ap (λ (n : Contents). overlay n ran.3) (sym (move_commits m answered old.file holds e.called ran.0.file ran.2 (move_of old ran.0 e sound ran.1) ran.5))
    ∙ run_commits m (added answered (old_record e.called)) ran.0 new es ran.3 (ran.1.happens.sound ∙ sound) (step_kept m answered old ran.0 e sound holds ran.1) ran.6

pub start_commits : (old new : Seen) (es : List Event) (kept : Writes) → Starts old → CommitsKept old es new kept → overlay old.records kept ≡ committed new.file
start_commits old new es kept start ran =
    ap (λ (n : Contents). overlay n kept) (sym (ap committed start.file))
    ∙ run_commits old.records [] old new es kept start.sound (start_kept old start) ran

-- each call has something that it keeps
kept_by : (f : File) (called : Called) → (es : Writes) × Keeps f called es
kept_by f (Begin answer) = ([], refl)
kept_by f (Put t x r answer) = ([], refl)
kept_by f (Claim t x answer) = ([], refl)
kept_by f (Remove t x answer) = ([], refl)
kept_by f (Get t x answer) = ([], refl)
kept_by f (Savepoint t answer) = ([], refl)
kept_by f (Release t n answer) = ([], refl)
kept_by f (RollbackTo t n answer) = ([], refl)
kept_by f (Abort t answer) = ([], refl)
kept_by f (Resume t answer) = ([], refl)
kept_by f (Commit t (Ok done)) = (writes (own t.0 f.history), λ m. writes-replay m (own t.0 f.history))
kept_by f (Commit t (Err fault)) = ([], refl)
kept_by f (Entries answer) = ([], refl)
kept_by f (Beside side gap answer) = ([], refl)
kept_by f (EntriesBeside side gap answer) = ([], refl)
kept_by f (CommittedAt x answer) = ([], refl)
kept_by f (KeysOf t answer) = ([], refl)
kept_by f (StatusOf t answer) = ([], refl)
kept_by f (Charged count) = ([], refl)
kept_by f (Begun count) = ([], refl)
kept_by f (LogLen count) = ([], refl)
kept_by f (LogUse count) = ([], refl)
kept_by f (RecordAt lsn answer) = ([], refl)
kept_by f (IntoTable answer) = ([], refl)

pub all_kept : (old new : Seen) (es : List Event) → Run old es new → (kept : Writes) × CommitsKept old es new kept
all_kept old new [] ran = ([], (ran, refl))
all_kept old new (e ∷ es) ran =
    let first = kept_by old.file e.called in
    let rest = all_kept ran.0 new es ran.2 in
    (first.0 ++ rest.0, (ran.0, ran.1, first.0, rest.0, refl, first.1, rest.1))

itself : (n : ℕ) → eqb n n ≡ true
itself n = at (eqb n n) refl
  where
    at : (b : Bool) → eqb n n ≡ b → eqb n n ≡ true
    at true is = is
    at false is = absurd (grind (arith, nat_tests))

-- What is kept of a transaction that puts one record: nothing, until it commits.
pub begun_kept : (old new : Seen) (t : TxId) (x r : List ℕ) (kept : Writes) → CommitsKept old (quiet (Begin (Ok t)) ∷ quiet (Put t x r (Ok None)) ∷ []) new kept → kept ≡ []
begun_kept old new t x r kept ran =
    let put = ran.6 in
    ran.4 ∙ ap (λ (es : Writes). es ++ ran.3) ran.5 ∙ put.4 ∙ ap (λ (es : Writes). es ++ put.3) put.5 ∙ put.6.1

abbrev put_by : TxId → List ℕ → List ℕ → Change
put_by t x r = record { tx = t.0; key = x; after = Some (Some r); live = true }

-- What the first commit keeps, and what the later ones do.
pub record FirstKept (old : Seen) (t : TxId) (x r : List ℕ) (more : List Event) (new : Seen) (kept : Writes) : Type 0 where
  pub mid : Seen
  pub first : Writes
  pub rest : Writes
  pub is : kept ≡ first ++ rest
  pub makes : (m : Contents) → overlay m first ≡ replay m (own t.0 (old.file.history ++ put_by t x r ∷ []))
  pub later : CommitsKept mid more new rest

pub first_kept : (old new : Seen) (t : TxId) (x r : List ℕ) (before : Option (List ℕ)) (more : List Event) (kept : Writes) → CommitsKept old (quiet (Begin (Ok t)) ∷ quiet (Put t x r (Ok before)) ∷ quiet (Commit t (Ok tt)) ∷ more) new kept → FirstKept old t x r more new kept
first_kept old new t x r before more kept ran =
    let put = ran.6 in
    let commit = put.6 in
    let grown : put.0.file.history ≡ old.file.history ++ put_by t x r ∷ [] =
    ap (λ (f : File). f.history) put.1.happens.answer.1.accepted.history ∙ ap (λ (f : File). f.history ++ put_by t x r ∷ []) ran.1.happens.answer.1.2 in
    record {
      mid = commit.0;
      first = commit.2;
      rest = commit.3;
      is = ran.4 ∙ ap (λ (es : Writes). es ++ ran.3) ran.5 ∙ put.4 ∙ ap (λ (es : Writes). es ++ put.3) put.5 ∙ commit.4;
      makes = λ m. commit.5 m ∙ ap (λ (h : List Change). replay m (own t.0 h)) grown;
      later = commit.6;
    }

pub put_kept : (old new : Seen) (t : TxId) (x r : List ℕ) (kept : Writes) → Starts old → CommitsKept old (quiet (Begin (Ok t)) ∷ quiet (Put t x r (Ok None)) ∷ quiet (Commit t (Ok tt)) ∷ []) new kept → overlay old.records kept ≡ set_to old.records x (Some r)
put_kept old new t x r kept start ran =
    let one = first_kept old new t x r None [] kept ran in
    ap (λ (es : Writes). overlay old.records es) (one.is ∙ ap (λ (es : Writes). one.first ++ es) one.later.1 ∙ append-nil one.first)
    ∙ one.makes old.records
    ∙ ap (λ (f : File). replay old.records (own t.0 (f.history ++ put_by t x r ∷ []))) start.file
    ∙ ap (λ (b : Bool). replay old.records (cond (b && true) (put_by t x r ∷ []) [])) (itself t.0)

-- the newest change of a transaction decides what is at its key
newest_wins : (t : TxId) (x r : List ℕ) (h : List Change) (m : Contents) → get (replay m (own t.0 (h ++ put_by t x r ∷ []))) x ≡ Some r
newest_wins t x r [] m = ap (λ (b : Bool). get (replay m (cond (b && true) (put_by t x r ∷ []) [])) x) (itself t.0) ∙ get-set_to-here m x (Some r)
newest_wins t x r (c ∷ h) m = at (live_of t.0 c) (newest_wins t x r h)
  where
    at : (b : Bool) → ((n : Contents) → get (replay n (own t.0 (h ++ put_by t x r ∷ []))) x ≡ Some r) → get (replay m (cond b (c ∷ own t.0 (h ++ put_by t x r ∷ [])) (own t.0 (h ++ put_by t x r ∷ [])))) x ≡ Some r
    at true ih = ih (applied c m)
    at false ih = ih m

-- of two commits the last one decides
pub last_commit : (old new : Seen) (t u : TxId) (x r s : List ℕ) (before found : Option (List ℕ)) (kept : Writes) (m : Contents) → CommitsKept old (quiet (Begin (Ok t)) ∷ quiet (Put t x r (Ok before)) ∷ quiet (Commit t (Ok tt)) ∷ quiet (Begin (Ok u)) ∷ quiet (Put u x s (Ok found)) ∷ quiet (Commit u (Ok tt)) ∷ []) new kept → get (overlay m kept) x ≡ Some s
last_commit old new t u x r s before found kept m ran =
    let one = first_kept old new t x r before (quiet (Begin (Ok u)) ∷ quiet (Put u x s (Ok found)) ∷ quiet (Commit u (Ok tt)) ∷ []) kept ran in
    let two = first_kept one.mid new u x s found [] one.rest one.later in
    let rest : one.rest ≡ two.first = two.is ∙ ap (λ (es : Writes). two.first ++ es) two.later.1 ∙ append-nil two.first in
    ap (λ (es : Writes). get (overlay m es) x) (one.is ∙ ap (λ (es : Writes). one.first ++ es) rest)
    ∙ ap (λ (n : Contents). get n x) (overlay-append one.first two.first m ∙ two.makes (overlay m one.first))
    ∙ newest_wins u x s one.mid.file.history (overlay m one.first)
