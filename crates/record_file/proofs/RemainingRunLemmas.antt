-- The remaining calls of a run, made by themselves.
use Rattle.std.proofs.Common.{◌≡◌, ℕ, ◌+◌, ◌-◌, ◌<◌, ◌≤◌, zero, suc, Bool, true, false, cond, if◌then◌else◌, ◌&&◌, eqb, nat_lt, nat_le, List, [], ◌∷◌, ◌++◌, length, Option, Some, None, is_some, is_none, not, option_map, Ok, IfSome, inl, refl, sym, ap, subst, ◌∙◌, IsTrue, arith}
use Rattle.std.proofs.lemmas.Bool.Decides.{nat_tests}
use Rattle.std.specs.FinMap as maps
use Rattle.std.specs.FinMap.{get, get-empty, len}
use Rattle.std.specs.Ordering.{nat_cmp}
use Rattle.rec_types.specs.Contents.{Contents, set_to, write_to, has}
use Rattle.rec_types.specs.History.{Change, replay, live_from, take_back, take_newest, log_use}
use Rattle.rec_types.specs.LimitBounds.{Bounds}
use Rattle.rec_types.specs.Table.{counted}
use Rattle.rec_types.specs.declared.transaction.TxId.{TxId}
use Rattle.rec_types.proofs.HistoryLemmas.{live_from-take_newest}
use Rattle.rec_types.proofs.Sizes.{len-within}
use Rattle.tx_log.specs.Transactions.{Transactions, Tx, is_open, fresh}
use Rattle.tx_log.specs.LogState.{phase_of}
use Rattle.tx_log.specs.Owners.{holder_of, charged, keys_owned}
use Rattle.tx_log.specs.declared.phase.Phase.TheVariants as phases
use Rattle.tx_log.proofs.OwnerLemmas.{held-free}
use Rattle.tx_log.proofs.RemainingLemmas.{leaves-take_newest, leaves-take_back}
use Rattle.record_file.specs.Abstract.{File, open_of, tx_of, phase_at, use_of, held_by, is_full, charged_of, records_of, with_change}
use Rattle.record_file.specs.Steps.{active_refusal, held_refusal, key_refusal, tx_refusal}
use Rattle.record_file.specs.Runs.{Called, Event, Seen, Step, Run, Answers, IsKeptSeen, cause_in, Begin, Put, Claim, Remove, Commit}
use Rattle.record_file.specs.Asked.{looked_unless}
use Rattle.record_file.specs.Undo.{Starts, old_record}
use Rattle.record_file.specs.Outside.{NeverDamaged}
use Rattle.record_file.specs.declared.fault.Cause.{Cause}
use Rattle.record_file.proofs.TidyLogLemmas.{TidyLog, IsBounded, tidy_kept, start_tidy, begun_tidy, ended_tidy, change_tidy, asked_by, made, next_record}
use Rattle.record_file.specs.Remaining.{is_change, begins_or_commits, first_lives, past_first, remains, front_if, remaining, NothingFails}
use Rattle.record_file.specs.Leads.{LeadsTo, part, past}
use Rattle.record_file.specs.declared.refusal.Refusal.{Refusal}
use Rattle.record_file.specs.declared.refusal.Refusal.TheVariants.{LogFull}
use Rattle.record_file.proofs.AskedLemmas.{looked_is}
use Rattle.record_file.proofs.OpenTxLemmas.{same_tx, same_tx-is, get-insert_tx, get-remove_tx, open-insert, open-remove}
use Rattle.record_file.proofs.InvariantLemmas.{open_by_phase, change_written}
use Rattle.record_file.proofs.FullnessLemmas.{change_fits, room_of, below_not_full}
use Rattle.record_file.proofs.LogGrowthLemmas.{tells_none, tells_one}
use Rattle.record_file.proofs.CallKindLemmas.{Move, Still, Began, PutIn, ClaimIn, TookOut, Committed, WentBack, Ended, move_of, taken_all, some_phase, no_refusal}
use Rattle.record_file.proofs.RunLemmas.{KeptRun, added, change_free, step_kept, start_kept}
use Rattle.record_file.proofs.HistoryLeadLemmas.{run_leads}
use Rattle.record_file.proofs.LivePartLemmas.{length-push, leaves-length, past-push, part-push, part-stays, AgreeOn, agree-map, agree-push, use_less, KeptAt, PendingAll, pending_all, kept_at, same_record, charged_less, charged_kept, free_part, part_whole, keys_whole}

-- The file of the remaining calls beside the file of all calls, where g is the final history: its history is the part
-- that is live in the end, and what is open is active in it.
pub record Alone (f : File) (g : List Change) (s : Seen) : Type 0 where
  pub sound : IsTrue s.sound
  pub opening : s.file.opening ≡ f.opening
  pub limits : s.file.limits ≡ f.limits
  pub begun : s.file.begun ≡ f.begun
  pub history : s.file.history ≡ part f.history g
  pub active : (t : ℕ) → IsTrue (open_of f t) → phase_at s.file t ≡ Some phases.Active
  pub tidy : TidyLog s
  pub agree : AgreeOn (open_of f) (open_of s.file) (part f.history g)

-- it is within its limits, since it has no more of anything
alone_kept : (f : File) (g : List Change) (s : Seen) → IsBounded f → LeadsTo (open_of f) f.history g → Alone f g s → IsKeptSeen s
alone_kept f g s bounded leads alone =
    let less = len-within _ _ (charged_less (open_of f) (open_of s.file) f.history g f.opening leads alone.agree) in
    let charge : charged_of s.file ≡ charged (open_of s.file) (part f.history g) (replay f.opening (part f.history g)) = λ i. charged (open_of s.file) (alone.history i) (replay (alone.opening i) (alone.history i)) in
    let used = subst (λ (h : List Change). log_use (open_of s.file) h ≤ use_of f) (sym alone.history) (use_less (open_of f) (open_of s.file) f.history g leads alone.agree) in
    tidy_kept s alone.tidy (record {
      within = omega (arith, less, bounded.within, ap len charge, ap (λ (b : Bounds). b.records) alone.limits);
      used = omega (arith, used, bounded.used, ap (λ (b : Bounds). b.log_records) alone.limits);
      begun = omega (arith, bounded.begun, alone.begun, ap (λ (b : Bounds). b.begins) alone.limits);
    })

-- so it is after an event
abbrev Keeps : File → List Change → Type 0
Keeps f2 g = (s2 : Seen) → Alone f2 g s2 → IsKeptSeen s2

-- what the remaining calls do of an event: they make it, with nothing from outside, or leave it out
abbrev pub Follows : Bool → Seen → Event → Seen → Type 0
Follows true s e s2 = Step s e s2 × (e.failed ≡ false) × (e.refused ≡ false)
Follows false s e s2 = s2 ≡ s

-- what a change at a key finds in both files
record Alike (f : File) (g : List Change) (s : Seen) (t : ℕ) (x : List ℕ) : Type 0 where
  pub active : phase_at s.file t ≡ Some phases.Active
  pub free : held_by s.file t x ≡ None
  pub room : use_of s.file + 2 ≤ s.file.limits.log_records
  pub stood : first_lives (past (length f.history) g) ≡ true → get (records_of s.file) x ≡ get (records_of f) x
  pub not_full : first_lives (past (length f.history) g) ≡ true → is_full f x ≡ false → is_full s.file x ≡ false

-- where the remaining calls, made alone, have come to after an event
abbrev pub Goes : File → List Change → Event → File → Seen → Type 0
Goes f g e f2 s =
    (s2 : Seen) × Follows (remains e.called (past (length f.history) g)) s e s2 × Alone f2 g s2
    × (past (length f2.history) g ≡ (if is_change e.called then past_first (past (length f.history) g) else past (length f.history) g))

phase-insert : (txs : Transactions) (n : ℕ) (tx : Tx) (t : ℕ) → option_map phase_of (get (maps.insert txs n tx) t) ≡ cond (same_tx t n) (Some (phase_of tx)) (option_map phase_of (get txs t))
phase-insert txs n tx t = ap (option_map phase_of) (get-insert_tx txs n tx t) ∙ at (same_tx t n)
  where
    at : (b : Bool) → option_map phase_of (cond b (Some tx) (get txs t)) ≡ cond b (Some (phase_of tx)) (option_map phase_of (get txs t))
    at true = refl
    at false = refl

phase-remove : (txs : Transactions) (n t : ℕ) → option_map phase_of (get (maps.remove txs n) t) ≡ cond (same_tx t n) None (option_map phase_of (get txs t))
phase-remove txs n t = ap (option_map phase_of) (get-remove_tx txs n t) ∙ at (same_tx t n)
  where
    at : (b : Bool) → option_map phase_of (cond b None (get txs t)) ≡ cond b None (option_map phase_of (get txs t))
    at true = refl
    at false = refl

not_true : (b : Bool) → (IsTrue b → false ≡ true) → b ≡ false
not_true true never = absurd (cc (never refl))
not_true false never = refl

below : (a b : ℕ) → b ≤ a → nat_lt a b ≡ false
below a b le = grind (arith, nat_tests)

-- a change that is free in an active transaction's room isn't refused
none_refused : (f : File) (t : ℕ) (x : List ℕ) → phase_at f t ≡ Some phases.Active → held_by f t x ≡ None → use_of f + 2 ≤ f.limits.log_records → key_refusal true f t x ≡ None
none_refused f t x active free room = ap (active_refusal (held_refusal true f (held_by f t x))) active ∙ ap (held_refusal true f) free ∙ ap (λ b. if b then Some LogFull else None) (below f.limits.log_records (use_of f + 2) room)

none_some : (o : Option (List ℕ)) (b : Bool) → is_some o ≡ true → is_none o && b ≡ false
none_some None b some = absurd (cc)
none_some (Some r) b some = refl

names_none : (sound : Bool) (cause : Option Cause) → cause ≡ None → NeverDamaged sound cause
names_none sound cause none here page is = absurd (cc (sym none ∙ is))

module _ (g : List Change) (e : Event) where
  -- an event that is left out
  left_out : (f f2 : File) (s : Seen) → old_record e.called ≡ None → begins_or_commits e.called ≡ false → length f2.history ≡ length f.history → Alone f2 g s → Goes f g e f2 s
  left_out f f2 s no_record no_begin same alone =
      let p = past (length f.history) g in (
        s,
        subst (λ b. Follows b s e s) (sym (ap (λ (o : Option (Option (List ℕ))). if is_some o then first_lives p else begins_or_commits e.called) no_record ∙ no_begin)) refl,
        alone,
        ap (λ n. past n g) same ∙ ap (λ (o : Option (Option (List ℕ))). if is_some o then past_first p else p) (sym no_record),
      )

  module _ (f : File) (s : Seen) (alone : Alone f g s) (was : IsKeptSeen s) where
    -- a call that is made again, and leaves the records and the log
    made_again : (c : Called) (new : File) → e.called ≡ c → cause_in c ≡ None → IsKeptSeen (record s { file = new }) → e.failed ≡ false → e.refused ≡ false → remains c (past (length f.history) g) ≡ true → Answers s c e.failed e.refused (record s { file = new }) → Follows (remains e.called (past (length f.history) g)) s e (record s { file = new })
    made_again c new called_is no_cause is failed refused stays answers = subst (λ b. Follows b s e (record s { file = new })) (sym (ap (λ c. remains c (past (length f.history) g)) called_is ∙ stays)) (
      record {
        kept = was;
        keeps = is;
        happens = record {
          undamaged = names_none s.sound (cause_in e.called) (ap cause_in called_is ∙ no_cause);
          failures = ap (counted s.failures) (sym failed);
          refusals = ap (counted s.refusals) (sym refused);
          sound = refl;
          logged = refl;
          commits = λ _. refl;
          told = tells_none s.sound s.records s.records s.log s.log refl refl;
          answer = subst (λ c. Answers s c e.failed e.refused (record s { file = new })) (sym called_is) answers;
        };
      },
      failed,
      refused,
    )

    begun_alone : (tx : TxId) → e.called ≡ Begin (Ok tx) → e.failed ≡ false → e.refused ≡ false → f.begun < f.limits.begins → tx.0 ≡ f.begun + 1 → Keeps (record f { begun = f.begun + 1; txs = maps.insert f.txs (f.begun + 1) fresh }) g → Goes f g e (record f { begun = f.begun + 1; txs = maps.insert f.txs (f.begun + 1) fresh }) s
    begun_alone tx called_is failed refused below is keeps = (
      s2,
      made_again (Begin (Ok tx)) s2.file called_is refl (keeps s2 alone2) failed refused refl (
        (failed, refused, refl),
        (
          omega (arith, below, alone.begun, ap (λ (b : Bounds). b.begins) alone.limits),
          is ∙ ap (λ n. n + 1) (sym alone.begun),
          λ i. record s.file { begun = sym alone.begun i + 1; txs = maps.insert s.file.txs (sym alone.begun i + 1) fresh },
        ),
      ),
      alone2,
      ap (λ c. if is_change c then past_first (past (length f.history) g) else past (length f.history) g) (sym called_is),
    )
      where
        s2 : Seen
        s2 = record s { file = record s.file { begun = f.begun + 1; txs = maps.insert s.file.txs (f.begun + 1) fresh } }

        at : (t : ℕ) (b : Bool) → cond b true (open_of f t) ≡ true → cond b (Some phases.Active) (phase_at s.file t) ≡ Some phases.Active
        at t true there = refl
        at t false there = alone.active t there

        alone2 : Alone (record f { begun = f.begun + 1; txs = maps.insert f.txs (f.begun + 1) fresh }) g s2
        alone2 = record {
          sound = alone.sound;
          opening = alone.opening;
          limits = alone.limits;
          begun = refl;
          history = alone.history;
          active = λ t there. phase-insert s.file.txs (f.begun + 1) fresh t ∙ at t (same_tx t (f.begun + 1)) (sym (open-insert f.txs (f.begun + 1) fresh t) ∙ there);
          tidy = begun_tidy s alone.tidy f.begun alone.begun;
          agree = agree-map (open_of f) (open_of s.file) (is_open (maps.insert f.txs (f.begun + 1) fresh)) (is_open (maps.insert s.file.txs (f.begun + 1) fresh)) (part f.history g)
              (λ t same. open-insert s.file.txs (f.begun + 1) fresh t ∙ ap (cond (same_tx t (f.begun + 1)) true) same ∙ sym (open-insert f.txs (f.begun + 1) fresh t)) alone.agree;
        }

    commit_alone : (t : TxId) (done : Unit {0}) → e.called ≡ Commit t (Ok done) → e.failed ≡ false → e.refused ≡ false → tx_refusal f t.0 None ≡ None → Keeps (record f { txs = maps.remove f.txs t.0 }) g → Goes f g e (record f { txs = maps.remove f.txs t.0 }) s
    commit_alone t done called_is failed refused free keeps = (
      s2,
      made_again (Commit t (Ok done)) s2.file called_is refl (keeps s2 alone2) failed refused refl (
        (failed, refused, refl),
        (ap (active_refusal None) (alone.active t.0 (some_phase (tx_of f t.0) (λ none. no_refusal _ _ (ap (active_refusal None) none) free))), refl),
      ),
      alone2,
      ap (λ c. if is_change c then past_first (past (length f.history) g) else past (length f.history) g) (sym called_is),
    )
      where
        s2 : Seen
        s2 = record s { file = record s.file { txs = maps.remove s.file.txs t.0 } }

        at : (q : ℕ) (b : Bool) → cond b false (open_of f q) ≡ true → cond b None (phase_at s.file q) ≡ Some phases.Active
        at q true there = absurd (cc)
        at q false there = alone.active q there

        alone2 : Alone (record f { txs = maps.remove f.txs t.0 }) g s2
        alone2 = record {
          sound = alone.sound;
          opening = alone.opening;
          limits = alone.limits;
          begun = alone.begun;
          history = alone.history;
          active = λ q there. phase-remove s.file.txs t.0 q ∙ at q (same_tx q t.0) (sym (open-remove f.txs t.0 q) ∙ there);
          tidy = ended_tidy s alone.tidy t.0;
          agree = agree-map (open_of f) (open_of s.file) (is_open (maps.remove f.txs t.0)) (is_open (maps.remove s.file.txs t.0)) (part f.history g)
              (λ q same. open-remove s.file.txs t.0 q ∙ ap (cond (same_tx q t.0) false) same ∙ sym (open-remove f.txs t.0 q)) alone.agree;
        }

    -- a rollback, whole or stopped, is no step of the remaining calls
    back_alone : (h2 : List Change) (txs : Transactions) → part h2 g ≡ part f.history g → length h2 ≡ length f.history → ((q : ℕ) → IsTrue (is_open txs q) → IsTrue (open_of f q)) → AgreeOn (is_open txs) (open_of s.file) (part h2 g) → old_record e.called ≡ None → begins_or_commits e.called ≡ false → Goes f g e (record f { history = h2; txs = txs }) s
    back_alone h2 txs same length_is opens agree no_record no_begin = left_out f (record f { history = h2; txs = txs }) s no_record no_begin length_is (record {
      sound = alone.sound;
      opening = alone.opening;
      limits = alone.limits;
      begun = alone.begun;
      history = alone.history ∙ sym same;
      active = λ q there. alone.active q (opens q there);
      tidy = alone.tidy;
      agree = agree;
    })

    -- a change that is live in the end, in an active transaction's room, at a key that no other transaction holds
    module _ (m : Contents) (answered : List (Option (List ℕ))) (kept : KeptRun m answered f) (tx : TxId) (x : List ℕ) (after : Option (Option (List ℕ))) (active : phase_at f tx.0 ≡ Some phases.Active) (free : held_by f tx.0 x ≡ None) (room : use_of f + 2 ≤ f.limits.log_records)
        (leads : LeadsTo (open_of f) f.history g) (on : LeadsTo (open_of f) (with_change f tx.0 x after).history g) where
      there : open_of f tx.0 ≡ true
      there = open_by_phase (tx_of f tx.0) phases.Active active

      pending : PendingAll (open_of f) tx.0 x f.history
      pending = subst (PendingAll (open_of f) tx.0 x) kept.history (pending_all (open_of f) tx.0 x kept.cs (held-free (open_of f) tx.0 x kept.cs kept.holds.owned (ap (λ (h : List Change). holder_of (open_of f) h tx.0 x) kept.history ∙ free)))

      use_alone : use_of s.file ≤ use_of f
      use_alone = subst (λ (h : List Change). log_use (open_of s.file) h ≤ use_of f) (sym alone.history) (use_less (open_of f) (open_of s.file) f.history g leads alone.agree)

      now : records_of s.file ≡ replay f.opening (part f.history g)
      now i = replay (alone.opening i) (alone.history i)

      charge : charged_of s.file ≡ charged (open_of s.file) (part f.history g) (replay f.opening (part f.history g))
      charge i = charged (open_of s.file) (alone.history i) (now i)

      kept_here : first_lives (past (length f.history) g) ≡ true → KeptAt x f.history g
      kept_here lasts = kept_at (open_of f) tx.0 x f.history g _ pending refl on lasts

      alike : Alike f g s tx.0 x
      alike = record {
        active = alone.active tx.0 there;
        free = ap (λ (h : List Change). holder_of (open_of s.file) h tx.0 x) alone.history ∙ free_part (open_of f) (open_of s.file) tx.0 x f.history g leads alone.agree pending;
        room = omega (arith, use_alone, room, ap (λ (b : Bounds). b.log_records) alone.limits);
        stood = λ lasts. ap (λ (n : Contents). get n x) now ∙ same_record (open_of f) x f.history g f.opening f.opening leads (kept_here lasts) refl;
        not_full = λ lasts not_full. at lasts not_full (has (charged_of f) x) refl;
      }
        where
          at : first_lives (past (length f.history) g) ≡ true → is_full f x ≡ false → (b : Bool) → has (charged_of f) x ≡ b → is_full s.file x ≡ false
          at lasts not_full true is = none_some (get (charged_of s.file) x) (nat_le s.file.limits.records (len (charged_of s.file)))
              (ap (λ (c : Contents). has c x) charge ∙ charged_kept (open_of f) (open_of s.file) x f.history g f.opening leads alone.agree (kept_here lasts) is)
          at lasts not_full false is = sym (below_not_full s.file x (len (charged_of s.file)) refl
              (omega (arith, room_of f x (sym not_full) is, len-within _ _ (charged_less (open_of f) (open_of s.file) f.history g f.opening leads alone.agree), ap len charge, ap (λ (b : Bounds). b.records) alone.limits)))

      made_alone : (before : Option (List ℕ)) → before ≡ get (records_of f) x → first_lives (past (length f.history) g) ≡ true → Alone (with_change f tx.0 x after) g (made s alone.tidy tx x before after)
      made_alone before stood lasts =
          let c : Change = record { tx = tx.0; key = x; after = after; live = true } in
          let opened : open_of s.file tx.0 ≡ true = open_by_phase (tx_of s.file tx.0) phases.Active alike.active in
          let grown : part (f.history ++ c ∷ []) g ≡ part f.history g ++ c ∷ [] = part-push f.history g c ∙ ap (λ b. if b then part f.history g ++ c ∷ [] else part f.history g) lasts in
          record {
            sound = alone.sound;
            opening = alone.opening;
            limits = alone.limits;
            begun = alone.begun;
            history = ap (λ (h : List Change). h ++ c ∷ []) alone.history ∙ sym grown;
            active = alone.active;
            tidy = change_tidy s alone.tidy tx x before after opened alike.free (stood ∙ sym (alike.stood lasts));
            agree = subst (AgreeOn (open_of f) (open_of s.file)) (sym grown) (agree-push (open_of f) (open_of s.file) (part f.history g) c alone.agree (opened ∙ sym there));
          }

      -- the change left out
      left_alone : first_lives (past (length f.history) g) ≡ false → Alone (with_change f tx.0 x after) g s
      left_alone dies =
          let c : Change = record { tx = tx.0; key = x; after = after; live = true } in
          let same : part (f.history ++ c ∷ []) g ≡ part f.history g = part-push f.history g c ∙ ap (λ b. if b then part f.history g ++ c ∷ [] else part f.history g) dies in
          record {
            sound = alone.sound;
            opening = alone.opening;
            limits = alone.limits;
            begun = alone.begun;
            history = alone.history ∙ sym same;
            active = alone.active;
            tidy = alone.tidy;
            agree = subst (AgreeOn (open_of f) (open_of s.file)) (sym same) alone.agree;
          }

      changed_alone : (before : Option (List ℕ)) → before ≡ get (records_of f) x → Keeps (with_change f tx.0 x after) g → old_record e.called ≡ Some before → (first_lives (past (length f.history) g) ≡ true → IsKeptSeen (made s alone.tidy tx x before after) → Step s e (made s alone.tidy tx x before after) × (e.failed ≡ false) × (e.refused ≡ false)) → Goes f g e (with_change f tx.0 x after) s
      changed_alone before stood keeps record_is steps = at (first_lives (past (length f.history) g)) refl
        where
          p : List Change
          p = past (length f.history) g

          stays : (b : Bool) → first_lives p ≡ b → b ≡ remains e.called p
          stays b is = sym is ∙ ap (λ (o : Option (Option (List ℕ))). if is_some o then first_lives p else begins_or_commits e.called) (sym record_is)

          places : past (length (with_change f tx.0 x after).history) g ≡ (if is_change e.called then past_first p else p)
          places = ap (λ n. past n g) (length-push f.history _) ∙ past-push (length f.history) g ∙ ap (λ (o : Option (Option (List ℕ))). if is_some o then past_first p else p) (sym record_is)

          at : (b : Bool) → first_lives p ≡ b → Goes f g e (with_change f tx.0 x after) s
          at true is = (made s alone.tidy tx x before after, subst (λ b. Follows b s e (made s alone.tidy tx x before after)) (stays true is) (steps is (keeps (made s alone.tidy tx x before after) (made_alone before stood is))), made_alone before stood is, places)
          at false is = (s, subst (λ b. Follows b s e s) (stays false is) refl, left_alone is, places)

not_risen : (n : ℕ) → nat_lt n n ≡ false
not_risen n = grind (arith, nat_tests)

-- a transaction that went back to the beginning has no live change
gone : (h : List Change) (t : ℕ) → live_from (take_back h t zero) t zero ≡ 0
gone h t = ap (λ (g : List Change). live_from g t zero) (taken_all h t zero) ∙ live_from-take_newest h t zero (live_from h t zero) ∙ none (live_from h t zero)
  where
    none : (n : ℕ) → n - n ≡ 0
    none n = omega arith

no_longer : (f : File) (t : ℕ) (also : ℕ → Bool) (h g : List Change) (opened : ℕ → Bool) → LeadsTo opened h g → live_from h t zero ≡ 0 → AgreeOn (open_of f) also (part h g) → AgreeOn (is_open (maps.remove f.txs t)) also (part h g)
no_longer f t also [] g opened leads none agree = tt
no_longer f t also (c ∷ h) [] opened leads none agree = tt
no_longer f t also (c ∷ h) (d ∷ g) opened leads none agree = at d.live (eqb c.tx t) c.live refl refl refl none agree (λ gone agreed. no_longer f t also h g opened leads.3 gone agreed)
  where
    at : (dl own cl : Bool) → d.live ≡ dl → eqb c.tx t ≡ own → c.live ≡ cl → cond (own && cl) (suc (live_from h t zero)) (live_from h t zero) ≡ 0 → AgreeOn (open_of f) also (if dl then c ∷ part h g else part h g) → (live_from h t zero ≡ 0 → AgreeOn (open_of f) also (part h g) → AgreeOn (is_open (maps.remove f.txs t)) also (part h g)) → AgreeOn (is_open (maps.remove f.txs t)) also (if dl then c ∷ part h g else part h g)
    at dl true true dl_is own_is cl_is none agree ih = absurd (omega (arith, none))
    at true own false dl_is own_is cl_is none agree ih = absurd (cc (sym cl_is ∙ leads.1 dl_is))
    at false true false dl_is own_is cl_is none agree ih = ih none agree
    at false false cl dl_is own_is cl_is none agree ih = ih none agree
    at true false true dl_is own_is cl_is none agree ih = (agree.0 ∙ sym (open-remove f.txs t c.tx ∙ ap (λ b. cond b false (open_of f c.tx)) (other (same_tx c.tx t) refl)), ih none agree.1)
      where
        other : (b : Bool) → same_tx c.tx t ≡ b → same_tx c.tx t ≡ false
        other true same = let tx_is = same_tx-is c.tx t same in absurd (grind (arith, nat_tests))
        other false apart = apart

step_alone : (m : Contents) (answered : List (Option (List ℕ))) (fs fs2 : Seen) (e : Event) (g : List Change) (s : Seen) → IsTrue fs.sound → KeptRun m answered fs.file → Step fs e fs2 → Move fs.file e.called fs2.file → LeadsTo (open_of fs.file) fs.file.history g → LeadsTo (open_of fs2.file) fs2.file.history g → Alone fs.file g s → Goes fs.file g e fs2.file s
step_alone m answered fs fs2 e g s sound kept step move leads on alone = at move
  where
    bounds : (q : Seen) → IsTrue q.sound → IsKeptSeen q → IsBounded q.file
    bounds q sound is = record { within = is.within sound; used = is.used; begun = is.begun }

    was : IsKeptSeen s
    was = alone_kept fs.file g s (bounds fs sound step.kept) leads alone

    keeps : (f2 : File) → fs2.file ≡ f2 → Keeps f2 g
    keeps f2 is = subst (λ (f2 : File). Keeps f2 g) is (λ s2 alone2. alone_kept fs2.file g s2 (bounds fs2 (step.happens.sound ∙ sound) step.keeps) on alone2)

    f : File
    f = fs.file

    over : (f2 : File) → fs2.file ≡ f2 → Goes f g e f2 s → Goes f g e fs2.file s
    over f2 is goes = subst (λ (f2 : File). Goes f g e f2 s) (sym is) goes

    led : (f2 : File) → fs2.file ≡ f2 → LeadsTo (open_of f2) f2.history g
    led f2 is = subst (λ (f2 : File). LeadsTo (open_of f2) f2.history g) is on

    called : (c : Called) → e.called ≡ c → Answers fs c e.failed e.refused fs2
    called c is = subst (λ c. Answers fs c e.failed e.refused fs2) is step.happens.answer

    -- a change that is put or claimed
    placed : (t : TxId) (x : List ℕ) (after : Option (Option (List ℕ))) (before : Option (List ℕ)) → old_record e.called ≡ Some before → cause_in e.called ≡ None → e.failed ≡ false → e.refused ≡ false → key_refusal true f t.0 x ≡ None → is_full f x ≡ false → before ≡ get (records_of f) x → fs2.file ≡ with_change f t.0 x after → (key_refusal true s.file t.0 x ≡ None → is_full s.file x ≡ false → before ≡ get (records_of s.file) x → Answers s e.called e.failed e.refused (made s alone.tidy t x before after)) → Goes f g e (with_change f t.0 x after) s
    placed t x after before record_is no_cause quiet unrefused free room stood is answers =
        let it = change_free f t.0 x free in
        let fits = change_fits f t.0 x free in
        let next = led (with_change f t.0 x after) is in
        let now = alike g e f s alone was m answered kept t x after it.0 it.1 fits leads next in
        changed_alone g e f s alone was m answered kept t x after it.0 it.1 fits leads next before stood (keeps _ is) record_is (λ lasts now_kept. (
          record {
            kept = was;
            keeps = now_kept;
            happens = record {
              undamaged = names_none s.sound (cause_in e.called) no_cause;
              failures = ap (counted s.failures) (sym quiet);
              refusals = ap (counted s.refusals) (sym unrefused);
              sound = refl;
              logged = refl;
              commits = λ _. refl;
              told = tells_one s.sound s.records (write_to s.records x after) s.log s.log (made s alone.tidy t x before after).log (next_record s alone.tidy t x before after) refl refl (λ here. change_written s.records _ _ t x before after);
              answer = answers (none_refused s.file t.0 x now.active now.free now.room) (now.not_full lasts room) (stood ∙ sym (now.stood lasts));
            };
          },
          quiet,
          unrefused,
        ))

    put : (t : TxId) (x r : List ℕ) (before : Option (List ℕ)) → e.called ≡ Put t x r (Ok before) → key_refusal true f t.0 x ≡ None → is_full f x ≡ false → before ≡ get (records_of f) x → fs2.file ≡ with_change f t.0 x (Some (Some r)) → Goes f g e (with_change f t.0 x (Some (Some r))) s
    put t x r before called_is free room stood is =
        let a = called (Put t x r (Ok before)) called_is in
        let s2 = made s alone.tidy t x before (Some (Some r)) in
        placed t x (Some (Some r)) before (ap old_record called_is) (ap cause_in called_is) a.0.0 (not_true e.refused a.0.1) free room stood is (λ none not_full here_stood.
        subst (λ c. Answers s c e.failed e.refused s2) (sym called_is) (
          a.0,
          record {
            step = λ here few. (none, not_risen s.failures, not_full, here_stood, refl);
            refused = subst (λ o. IfSome o (λ refusal. (None ≡ Some refusal) × (s2 ≡ s))) (sym none) tt;
            refused_only = tt;
            accepted = record { history = refl; logged = refl };
            opening = λ here. refl;
            err = tt;
            damages = inl refl;
            asks = record {
              asked = asked_by (Some (Some r));
              allowed = record { accepted = refl; full = λ full. absurd (cc full); looks = λ here looked. absurd (cc looked) };
              calls = refl;
              lost = refl;
            };
          },
        ))

    claim : (t : TxId) (x : List ℕ) (before : Option (List ℕ)) → e.called ≡ Claim t x (Ok before) → key_refusal true f t.0 x ≡ None → is_full f x ≡ false → before ≡ get (records_of f) x → fs2.file ≡ with_change f t.0 x None → Goes f g e (with_change f t.0 x None) s
    claim t x before called_is free room stood is =
        let a = called (Claim t x (Ok before)) called_is in
        let s2 = made s alone.tidy t x before None in
        placed t x None before (ap old_record called_is) (ap cause_in called_is) a.0.0 (not_true e.refused a.0.1) free room stood is (λ none not_full here_stood.
        subst (λ c. Answers s c e.failed e.refused s2) (sym called_is) (
          a.0,
          record {
            step = λ here few. (none, not_risen s.failures, not_full, here_stood, refl);
            refused = subst (λ o. IfSome o (λ refusal. (None ≡ Some refusal) × (s2 ≡ s))) (sym none) tt;
            refused_only = tt;
            accepted = record { history = refl; logged = refl };
            opening = λ here. refl;
            err = tt;
            damages = refl;
            asks = sym (looked_is true s.calls) ∙ ap (λ (o : Option Refusal). looked_unless (is_some o) s.calls) (sym none);
          },
        ))

    take : (t : TxId) (x before : List ℕ) → e.called ≡ Remove t x (Ok before) → key_refusal true f t.0 x ≡ None → get (records_of f) x ≡ Some before → fs2.file ≡ with_change f t.0 x (Some None) → Goes f g e (with_change f t.0 x (Some None)) s
    take t x before called_is free stood is =
        let it = change_free f t.0 x free in
        let a = called (Remove t x (Ok before)) called_is in
        let refused = not_true e.refused a.0.1 in
        let fits = change_fits f t.0 x free in
        let next = led (with_change f t.0 x (Some None)) is in
        let now = alike g e f s alone was m answered kept t x (Some None) it.0 it.1 fits leads next in
        let none = none_refused s.file t.0 x now.active now.free now.room in
        let s2 = made s alone.tidy t x (Some before) (Some None) in
        changed_alone g e f s alone was m answered kept t x (Some None) it.0 it.1 fits leads next (Some before) (sym stood) (keeps _ is) (ap old_record called_is) (λ lasts now_kept. (
          record {
            kept = was;
            keeps = now_kept;
            happens = record {
              undamaged = names_none s.sound (cause_in e.called) (ap cause_in called_is);
              failures = ap (counted s.failures) (sym a.0.0);
              refusals = ap (counted s.refusals) (sym refused);
              sound = refl;
              logged = refl;
              commits = λ _. refl;
              told = tells_one s.sound s.records (set_to s.records x None) s.log s.log s2.log (next_record s alone.tidy t x (Some before) (Some None)) refl refl (λ here. refl);
              answer = subst (λ c. Answers s c e.failed e.refused s2) (sym called_is) (
                a.0,
                record {
                  step = λ here few. (
                    none,
                    not_risen s.failures,
                    now.stood lasts ∙ stood,
                    refl,
                  );
                  refused = subst (λ o. IfSome o (λ refusal. (None ≡ Some refusal) × (s2 ≡ s))) (sym none) tt;
                  refused_only = tt;
                  accepted = record { history = refl; logged = refl };
                  opening = λ here. refl;
                  err = tt;
                  damages = inl refl;
                  asks = record {
                    asked = asked_by (Some None);
                    allowed = record { accepted = refl; absent = λ absent. absurd (cc absent); looks = ap (λ (o : Option Refusal). not (is_some o)) (sym none) };
                    calls = refl;
                    lost = refl;
                  };
                },
              );
            };
          },
          a.0.0,
          refused,
        ))

    at : Move f e.called fs2.file → Goes f g e fs2.file s
    at (Still is no_record no_begin) = over f is (left_out g e f f s no_record no_begin refl alone)
    at (Began tx called_is begun) = let a = called (Begin (Ok tx)) called_is in over _ begun.2 (begun_alone g e f s alone was tx called_is a.0.0 a.0.1 begun.0 begun.1 (keeps _ begun.2))
    at (PutIn t x r before called_is free room stood is) = over _ is (put t x r before called_is free room stood is)
    at (ClaimIn t x before called_is free room stood is) = over _ is (claim t x before called_is free room stood is)
    at (TookOut t x before called_is free stood is) = over _ is (take t x before called_is free stood is)
    at (Committed t done called_is ended) = let a = called (Commit t (Ok done)) called_is in over _ ended.1 (commit_alone g e f s alone was t done called_is a.0.0 a.0.1 ended.0 (keeps _ ended.1))
    at (WentBack t p n txs opened le is same ends no_record no_begin) =
        let leaves = leaves-take_newest f.history t p n in
        let part_is = part-stays (is_open txs) f.history (take_newest f.history t p n) g leaves (led _ is) in
        over _ is (back_alone g e f s alone was (take_newest f.history t p n) txs part_is (leaves-length f.history (take_newest f.history t p n) leaves) (λ q here. sym (same q) ∙ here)
        (subst (AgreeOn (is_open txs) (open_of s.file)) (sym part_is) (agree-map (open_of f) (open_of s.file) (is_open txs) (open_of s.file) (part f.history g) (λ q agrees. agrees ∙ sym (same q)) alone.agree)) no_record no_begin)
    at (Ended t here is no_record no_begin) =
        let leaves = leaves-take_back f.history t zero in
        let next = led _ is in
        let part_is = part-stays (is_open (maps.remove f.txs t)) f.history (take_back f.history t zero) g leaves next in
        over _ is (back_alone g e f s alone was (take_back f.history t zero) (maps.remove f.txs t) part_is (leaves-length f.history (take_back f.history t zero) leaves) (λ q here. fewer q (same_tx q t) (sym (open-remove f.txs t q) ∙ here))
        (no_longer f t (open_of s.file) (take_back f.history t zero) g (is_open (maps.remove f.txs t)) next (gone f.history t) (subst (AgreeOn (open_of f) (open_of s.file)) (sym part_is) alone.agree)) no_record no_begin)
      where
        fewer : (q : ℕ) (b : Bool) → cond b false (open_of f q) ≡ true → open_of f q ≡ true
        fewer q true here = absurd (cc)
        fewer q false here = here

front : (b : Bool) (e : Event) (es : List Event) (s s2 end : Seen) → Follows b s e s2 → Run s2 es end → NothingFails es → Run s (front_if b e es) end × NothingFails (front_if b e es)
front true e es s s2 end follows ran quiet = ((s2, follows.0, ran), (follows.1, follows.2, quiet))
front false e es s s2 end follows ran quiet = (subst (λ (s : Seen). Run s es end) follows ran, quiet)

-- the remaining calls of a run are a run by themselves
pub run_alone : (m : Contents) (answered : List (Option (List ℕ))) (fs new : Seen) (es : List Event) (s : Seen) → IsTrue fs.sound → KeptRun m answered fs.file → Run fs es new → Alone fs.file new.file.history s
    → (end : Seen) × Run s (remaining es (past (length fs.file.history) new.file.history)) end × NothingFails (remaining es (past (length fs.file.history) new.file.history)) × Alone new.file new.file.history end
run_alone m answered fs new [] s sound kept ran alone = (s, refl, tt, subst (λ (q : Seen). Alone q.file new.file.history s) (sym ran) alone)
run_alone m answered fs new (e ∷ es) s sound kept ran alone =
    let then_sound = ran.1.happens.sound ∙ sound in
    let then_kept = step_kept m answered fs ran.0 e sound kept ran.1 in
    let goes = step_alone m answered fs ran.0 e new.file.history s sound kept ran.1 (move_of fs ran.0 e sound ran.1) (run_leads m answered fs new (e ∷ es) sound kept ran) (run_leads m (added answered (old_record e.called)) ran.0 new es then_sound then_kept ran.2) alone in
    let rest = run_alone m (added answered (old_record e.called)) ran.0 new es goes.0 then_sound then_kept ran.2 goes.2 in
    let later = remaining es (if is_change e.called then past_first (past (length fs.file.history) new.file.history) else past (length fs.file.history) new.file.history) in
    let both = front (remains e.called (past (length fs.file.history) new.file.history)) e later s goes.0 rest.0 goes.1
    (subst (λ p. Run goes.0 (remaining es p) rest.0) goes.3 rest.1)
    (subst (λ p. NothingFails (remaining es p)) goes.3 rest.2) in
    (rest.0, both.0, both.1, rest.3)

start_alone : (old : Seen) (g : List Change) → Starts old → Alone old.file g old
start_alone old g start =
    let none = ap (λ (f : File). f.history) start.file in
    let opened = ap (λ (f : File). f.txs) start.file in
    record {
      sound = start.sound;
      opening = refl;
      limits = refl;
      begun = refl;
      history = none ∙ ap (λ (h : List Change). part h g) (sym none);
      active = λ t there. absurd (cc (sym (ap is_some (get-empty nat_cmp t)) ∙ ap (λ (txs : Transactions). is_open txs t) (sym opened) ∙ there));
      tidy = start_tidy old start;
      agree = subst (λ (h : List Change). AgreeOn (open_of old.file) (open_of old.file) (part h g)) (sym none) tt;
    }

-- the remaining calls of a run from a start
pub alone_of_run : (old new : Seen) (es : List Event) → Starts old → Run old es new
    → (end : Seen) × Run old (remaining es new.file.history) end × NothingFails (remaining es new.file.history) × (records_of end.file ≡ records_of new.file) × ((t : ℕ) → IsTrue (open_of new.file t) → keys_owned (open_of end.file) end.file.history t ≡ keys_owned (open_of new.file) new.file.history t)
alone_of_run old new es start ran =
    let g = new.file.history in
    let first : past (length old.file.history) g ≡ g = ap (λ (h : List Change). past (length h) g) (ap (λ (f : File). f.history) start.file) in
    let it = run_alone old.records [] old new es old start.sound (start_kept old start) ran (start_alone old g start) in (
      it.0,
      subst (λ p. Run old (remaining es p) it.0) first it.1,
      subst (λ p. NothingFails (remaining es p)) first it.2,
      (λ i. replay (it.3.opening i) (it.3.history i)) ∙ part_whole g new.file.opening,
      λ t there. ap (λ (h : List Change). keys_owned (open_of it.0.file) h t) it.3.history ∙ keys_whole (open_of new.file) (open_of it.0.file) g t it.3.agree,
    )
