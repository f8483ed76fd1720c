-- What stays true of the abstract file over every run.
use Rattle.std.proofs.Common.{◌≡◌, ℕ, ◌+◌, ◌<◌, ◌≤◌, zero, suc, Bool, true, false, cond, List, [], ◌∷◌, ◌++◌, map, Option, Some, None, is_some, nat_lt, refl, sym, ap, subst, ◌∙◌, IsTrue, arith}
use Rattle.std.proofs.lemmas.Bool.Decides.{nat_tests}
use Rattle.std.specs.FinMap as maps
use Rattle.std.specs.FinMap.{get, get-empty, len}
use Rattle.std.specs.Ordering.{nat_cmp}
use Rattle.rec_types.specs.Contents.{Contents, has}
use Rattle.rec_types.specs.History.{Change, replay, live_from, take_back, take_newest, undo_last}
use Rattle.rec_types.specs.Kept.{Kept, change_of, history_of, newest_live, newest_from, is_own, undone, undone_or, BeforesFit, IsOwned, AllBegun}
use Rattle.rec_types.proofs.TakeBackLemmas.{replay-back, befores-undone, owned-undone, begun-undone, befores-push, begun-push, begun-more, owned-within}
use Rattle.rec_types.proofs.HistoryLemmas.{take_newest-none, take_newest-more, live_from-take_newest, newest_from-some, newest_from-live, history-undone}
use Rattle.tx_log.specs.Transactions.{Transactions, is_open, fresh}
use Rattle.tx_log.specs.Owners.{charged, holder_of}
use Rattle.tx_log.specs.declared.phase.Phase.{Phase}
use Rattle.tx_log.specs.declared.phase.Phase.TheVariants as phases
use Rattle.tx_log.proofs.OwnerLemmas.{held-free, owned-push}
use Rattle.record_file.specs.Abstract.{AbortsWhole, File, open_of, tx_of, phase_at, held_by, records_of, charged_of, with_change}
use Rattle.record_file.specs.Steps.{active_refusal, held_refusal, key_refusal}
use Rattle.record_file.specs.Runs.{Called, Event, Seen, Step, Run}
use Rattle.record_file.specs.Undo.{Starts, old_record, with_first, old_records}
use Rattle.record_file.proofs.OpenTxLemmas.{same_tx, same_tx-is, open-insert, open-remove}
use Rattle.record_file.proofs.FileLemmas.{change, history-push, replay-push, charged_put, charged_undo, charged_within}
use Rattle.record_file.proofs.FullnessLemmas.{room_of, present_charged}
use Rattle.record_file.proofs.InvariantLemmas.{open_by_phase, none_by_new, none_by_end}
use Rattle.record_file.proofs.WholeTxLemmas.{whole_empty, whole_insert, whole_remove}
use Rattle.record_file.proofs.CallKindLemmas.{SameOpen, Move, Still, Began, PutIn, ClaimIn, TookOut, Committed, WentBack, Ended, move_of, taken_all}

-- The changes know what stood before each, keys have one owner, and the charged keys don't exceed the limit.
pub record Holds (opened : ℕ → Bool) (m : Contents) (begun limit : ℕ) (cs : List Kept) : Type 0 where
  pub befores : BeforesFit m cs
  pub owned : IsOwned opened cs
  pub all : AllBegun begun cs
  pub within : len (charged opened (history_of cs) (replay m (history_of cs))) ≤ limit

befores_undone : (t : ℕ) (cs : List Kept) → map (λ (c : Kept). c.before) (undone t cs) ≡ map (λ (c : Kept). c.before) cs
befores_undone t [] = refl
befores_undone t (c ∷ cs) = at (newest_live t cs) (is_own t c) (befores_undone t cs)
  where
    at : (o : Option Kept) (b : Bool) → map (λ (c : Kept). c.before) (undone t cs) ≡ map (λ (c : Kept). c.before) cs → map (λ (c : Kept). c.before) (undone_or o b c cs (undone t cs)) ≡ c.before ∷ map (λ (c : Kept). c.before) cs
    at (Some d) b ih = ap (λ bs. c.before ∷ bs) ih
    at None true ih = refl
    at None false ih = refl

befores_pushed : (cs : List Kept) (c : Kept) → map (λ (d : Kept). d.before) (cs ++ c ∷ []) ≡ map (λ (d : Kept). d.before) cs ++ c.before ∷ []
befores_pushed [] c = refl
befores_pushed (d ∷ cs) c = ap (λ bs. d.before ∷ bs) (befores_pushed cs c)

module _ (opened : ℕ → Bool) (m : Contents) (begun limit : ℕ) where
  holds_undone : (cs : List Kept) (t : ℕ) (u : Kept) → opened t ≡ true → newest_live t cs ≡ Some u → Holds opened m begun limit cs → Holds opened m begun limit (undone t cs)
  holds_undone cs t u there newest held = record {
    befores = befores-undone opened t cs m held.owned there held.befores;
    owned = owned-undone opened t cs held.owned;
    all = begun-undone begun t cs held.all;
    within = subst (λ (n : Contents). len (charged opened (history_of (undone t cs)) n) ≤ limit) (sym (replay-back opened t cs u m held.owned there held.befores newest)) (charged_undo opened cs (replay m (history_of cs)) limit t u there newest held.within);
  }

  -- with fewer transactions open, or one more of which there is no change
  holds_within : (cs : List Kept) (also : ℕ → Bool) (more : ℕ) → begun ≤ more → ((t : ℕ) → t ≤ begun → IsTrue (also t) → IsTrue (opened t)) → Holds opened m begun limit cs → Holds also m more limit cs
  holds_within cs also more le none held = record {
    befores = held.befores;
    owned = owned-within opened also begun cs none held.all held.owned;
    all = begun-more begun more cs le held.all;
    within = charged_within opened also begun cs (replay m (history_of cs)) limit none held.all held.within;
  }

  -- one more change, at a key that no other transaction holds
  holds_push : (cs : List Kept) (t : ℕ) (x : List ℕ) (before : Option (List ℕ)) (after : Option (Option (List ℕ))) → t ≤ begun → holder_of opened (history_of cs) t x ≡ None → before ≡ get (replay m (history_of cs)) x
      → (has (charged opened (history_of cs) (replay m (history_of cs))) x ≡ false → len (charged opened (history_of cs) (replay m (history_of cs))) < limit)
      → Holds opened m begun limit cs → Holds opened m begun limit (cs ++ change 0 t x before after ∷ [])
  holds_push cs t x before after known free stood room held =
      let c = change 0 t x before after in
      record {
        befores = befores-push cs c m held.befores stood;
        owned = owned-push opened cs c held.owned (held-free opened t x cs held.owned free);
        all = begun-push begun cs c held.all known;
        within = subst (λ (n : Contents). len (charged opened (history_of (cs ++ c ∷ [])) n) ≤ limit) (sym (replay-push (history_of cs) (change_of c) m) ∙ ap (replay m) (sym (history-push cs c))) (charged_put opened cs (replay m (history_of cs)) limit 0 t x before after held.within room);
      }

  abbrev WentBackTo : List Kept → ℕ → ℕ → ℕ → Type 0
  WentBackTo cs t p n = (ds : List Kept) × (history_of ds ≡ take_newest (history_of cs) t p n) × (map (λ (c : Kept). c.before) ds ≡ map (λ (c : Kept). c.before) cs) × Holds opened m begun limit ds

  one_more : (cs : List Kept) (t p n : ℕ) → opened t ≡ true → suc n ≤ live_from (history_of cs) t p → WentBackTo cs t p n → WentBackTo cs t p (suc n)
  one_more cs t p n there le earlier = at (newest_from earlier.0 t p) refl
    where
      nat_lt_of : (a b : ℕ) → a < b → nat_lt a b ≡ true
      nat_lt_of a b lt = grind (arith, nat_tests)

      some : nat_lt 0 (live_from (history_of earlier.0) t p) ≡ true
      some = nat_lt_of 0 (live_from (history_of earlier.0) t p) (omega (arith, le, ap (λ (h : List Change). live_from h t p) earlier.1, live_from-take_newest (history_of cs) t p n))

      at : (o : Option Kept) → newest_from earlier.0 t p ≡ o → WentBackTo cs t p (suc n)
      at None is = absurd (cc (sym (ap is_some is) ∙ newest_from-some earlier.0 t p ∙ some))
      at (Some u) is = (
        undone t earlier.0,
        history-undone t earlier.0 ∙ ap (undo_last t) earlier.1 ∙ sym (take_newest-more (history_of cs) t p n (omega (arith, le))),
        befores_undone t earlier.0 ∙ earlier.2,
        holds_undone earlier.0 t u there (newest_from-live earlier.0 t p u is) earlier.3,
      )

  -- the newest changes of an open transaction taken back
  holds_back : (cs : List Kept) (t p n : ℕ) → opened t ≡ true → n ≤ live_from (history_of cs) t p → Holds opened m begun limit cs → WentBackTo cs t p n
  holds_back cs t p zero there le held = (cs, sym (take_newest-none (history_of cs) t p), refl, held)
  holds_back cs t p (suc n) there le held = one_more cs t p n there le (holds_back cs t p n there (omega (arith, le)) held)

-- The file of a run from opening contents, after changes that answered these old records.
pub record KeptRun (m : Contents) (answered : List (Option (List ℕ))) (f : File) : Type 0 where
  pub cs : List Kept
  pub opening : f.opening ≡ m
  pub history : history_of cs ≡ f.history
  pub answers : map (λ (c : Kept). c.before) cs ≡ answered
  pub holds : Holds (open_of f) m f.begun f.limits.records cs
  pub opens : (t : ℕ) → IsTrue (open_of f t) → t ≤ f.begun
  pub ends : AbortsWhole f.txs

-- the old records that answers tell, with those of one more call
abbrev pub added : List (Option (List ℕ)) → Option (Option (List ℕ)) → List (Option (List ℕ))
added answered None = answered
added answered (Some before) = answered ++ before ∷ []

-- a change that isn't refused is by an active transaction, at a key that no other holds
pub change_free : (f : File) (t : ℕ) (x : List ℕ) → key_refusal true f t x ≡ None → (phase_at f t ≡ Some phases.Active) × (held_by f t x ≡ None)
change_free f t x none = at (phase_at f t) refl (held_by f t x) refl none
  where
    at : (p : Option Phase) → phase_at f t ≡ p → (h : Option ℕ) → held_by f t x ≡ h → active_refusal (held_refusal true f h) p ≡ None → (phase_at f t ≡ Some phases.Active) × (held_by f t x ≡ None)
    at None p_is h h_is none = absurd (cc)
    at (Some (phases.Rolling ends)) p_is h h_is none = absurd (cc)
    at (Some phases.Active) p_is (Some owner) h_is none = absurd (cc)
    at (Some phases.Active) p_is None h_is none = (p_is, h_is)

module _ (m : Contents) (answered : List (Option (List ℕ))) (old : File) (kept : KeptRun m answered old) where
  begun_kept : KeptRun m answered (record old { begun = old.begun + 1; txs = maps.insert old.txs (old.begun + 1) fresh })
  begun_kept = record {
    cs = kept.cs;
    opening = kept.opening;
    history = kept.history;
    answers = kept.answers;
    holds = holds_within (open_of old) m old.begun old.limits.records kept.cs (is_open (maps.insert old.txs (old.begun + 1) fresh)) (old.begun + 1) (omega arith) (none_by_new old.txs old.begun fresh) kept.holds;
    opens = λ t there. at t (same_tx t (old.begun + 1)) refl (sym (open-insert old.txs (old.begun + 1) fresh t) ∙ there);
    ends = whole_insert old.txs (old.begun + 1) fresh tt kept.ends;
  }
    where
      at : (t : ℕ) (b : Bool) → same_tx t (old.begun + 1) ≡ b → cond b true (is_open old.txs t) ≡ true → t ≤ old.begun + 1
      at t true same there = omega (arith, same_tx-is t (old.begun + 1) same)
      at t false apart there = omega (arith, kept.opens t there)

  end_kept : (history : List Change) (t : ℕ) → (ds : List Kept) → history_of ds ≡ history → map (λ (c : Kept). c.before) ds ≡ answered → Holds (open_of old) m old.begun old.limits.records ds → KeptRun m answered (record old { history = history; txs = maps.remove old.txs t })
  end_kept history t ds is same held = record {
    cs = ds;
    opening = kept.opening;
    history = is;
    answers = same;
    holds = holds_within (open_of old) m old.begun old.limits.records ds (is_open (maps.remove old.txs t)) old.begun (omega arith) (none_by_end old.txs old.begun t) held;
    opens = λ q there. at q (same_tx q t) (sym (open-remove old.txs t q) ∙ there);
    ends = whole_remove old.txs t kept.ends;
  }
    where
      at : (q : ℕ) (b : Bool) → cond b false (is_open old.txs q) ≡ true → q ≤ old.begun
      at q true there = absurd (cc)
      at q false there = kept.opens q there

  back_kept : (t p n : ℕ) (txs : Transactions) → open_of old t ≡ true → n ≤ live_from old.history t p → SameOpen old.txs txs → AbortsWhole txs → KeptRun m answered (record old { history = take_newest old.history t p n; txs = txs })
  back_kept t p n txs there le same ends =
      let back = holds_back (open_of old) m old.begun old.limits.records kept.cs t p n there (subst (λ (h : List Change). n ≤ live_from h t p) (sym kept.history) le) kept.holds in
      record {
        cs = back.0;
        opening = kept.opening;
        history = back.1 ∙ ap (λ (h : List Change). take_newest h t p n) kept.history;
        answers = back.2 ∙ kept.answers;
        holds = holds_within (open_of old) m old.begun old.limits.records back.0 (is_open txs) old.begun (omega arith) (λ q le is. sym (same q) ∙ is) back.3;
        opens = λ q is. kept.opens q (sym (same q) ∙ is);
        ends = ends;
      }

  ended_kept : (t : ℕ) → open_of old t ≡ true → KeptRun m answered (record old { history = take_back old.history t zero; txs = maps.remove old.txs t })
  ended_kept t there =
      let back = holds_back (open_of old) m old.begun old.limits.records kept.cs t zero (live_from (history_of kept.cs) t zero) there (omega arith) kept.holds in
      end_kept (take_back old.history t zero) t back.0 (back.1 ∙ sym (taken_all (history_of kept.cs) t zero) ∙ ap (λ (h : List Change). take_back h t zero) kept.history) (back.2 ∙ kept.answers) back.3

  now : replay m (history_of kept.cs) ≡ records_of old
  now i = replay (sym kept.opening i) (kept.history i)

  push_kept : (t : ℕ) (x : List ℕ) (before : Option (List ℕ)) (after : Option (Option (List ℕ))) → open_of old t ≡ true → held_by old t x ≡ None → before ≡ get (records_of old) x → (has (charged_of old) x ≡ false → len (charged_of old) < old.limits.records) → KeptRun m (answered ++ before ∷ []) (with_change old t x after)
  push_kept t x before after there free stood room = record {
    cs = kept.cs ++ change 0 t x before after ∷ [];
    opening = kept.opening;
    history = history-push kept.cs (change 0 t x before after) ∙ ap (λ (h : List Change). h ++ record { tx = t; key = x; after = after; live = true } ∷ []) kept.history;
    answers = befores_pushed kept.cs (change 0 t x before after) ∙ ap (λ (bs : List (Option (List ℕ))). bs ++ before ∷ []) kept.answers;
    holds = holds_push (open_of old) m old.begun old.limits.records kept.cs t x before after (kept.opens t there)
        (ap (λ (h : List Change). holder_of (open_of old) h t x) kept.history ∙ free)
        (stood ∙ ap (λ (n : Contents). get n x) (sym now))
        (subst (λ (c : Contents). has c x ≡ false → len c < old.limits.records) (λ i. charged (open_of old) (sym kept.history i) (sym now i)) room)
        kept.holds;
    opens = kept.opens;
    ends = kept.ends;
  }

move_kept : (m : Contents) (answered : List (Option (List ℕ))) (old : File) (called : Called) (new : File) → KeptRun m answered old → Move old called new → KeptRun m (added answered (old_record called)) new
move_kept m answered old called new kept move = at move
  where
    over : (o : Option (Option (List ℕ))) (f : File) → old_record called ≡ o → new ≡ f → KeptRun m (added answered o) f → KeptRun m (added answered (old_record called)) new
    over o f record_is is here = subst (λ (o : Option (Option (List ℕ))). KeptRun m (added answered o) new) (sym record_is) (subst (λ (f : File). KeptRun m (added answered o) f) (sym is) here)

    at : Move old called new → KeptRun m (added answered (old_record called)) new
    at (Still is no_record no_begin) = over None old no_record is kept
    at (Began tx called_is step) = over None _ (ap old_record called_is) step.2 (begun_kept m answered old kept)
    at (PutIn t x r before called_is free room stood is) =
        let it = change_free old t.0 x free in
        over (Some before) _ (ap old_record called_is) is (push_kept m answered old kept t.0 x before (Some (Some r)) (open_by_phase (tx_of old t.0) phases.Active it.0) it.1 stood (room_of old x (sym room)))
    at (ClaimIn t x before called_is free room stood is) =
        let it = change_free old t.0 x free in
        over (Some before) _ (ap old_record called_is) is (push_kept m answered old kept t.0 x before None (open_by_phase (tx_of old t.0) phases.Active it.0) it.1 stood (room_of old x (sym room)))
    at (TookOut t x before called_is free stood is) =
        let it = change_free old t.0 x free in
        over (Some (Some before)) _ (ap old_record called_is) is (push_kept m answered old kept t.0 x (Some before) (Some None) (open_by_phase (tx_of old t.0) phases.Active it.0) it.1 (sym stood) (λ absent. absurd (present_charged (open_of old) old.history (records_of old) x (Some before) (sym stood) refl absent)))
    at (Committed t done called_is step) = over None _ (ap old_record called_is) step.1 (end_kept m answered old kept old.history t.0 kept.cs kept.history kept.answers kept.holds)
    at (WentBack t p n txs there le is same ends no_record no_begin) = over None _ no_record is (back_kept m answered old kept t p n txs there le same ends)
    at (Ended t there is no_record no_begin) = over None _ no_record is (ended_kept m answered old kept t there)

-- a sound table is sound after a run
pub run_sound : (old new : Seen) (es : List Event) → IsTrue old.sound → Run old es new → IsTrue new.sound
run_sound old new [] sound ran = ap (λ (s : Seen). s.sound) ran ∙ sound
run_sound old new (e ∷ es) sound ran = run_sound ran.0 new es (ran.1.happens.sound ∙ sound) ran.2

with_added : (answered : List (Option (List ℕ))) (o : Option (Option (List ℕ))) (later : List (Option (List ℕ))) → added answered o ++ later ≡ answered ++ with_first o later
with_added answered None later = refl
with_added [] (Some before) later = refl
with_added (b ∷ bs) (Some before) later = ap (λ rest. b ∷ rest) (with_added bs (Some before) later)

append_none : (answered : List (Option (List ℕ))) → answered ++ [] ≡ answered
append_none [] = refl
append_none (b ∷ bs) = ap (λ rest. b ∷ rest) (append_none bs)

-- an event keeps what a run keeps
pub step_kept : (m : Contents) (answered : List (Option (List ℕ))) (old new : Seen) (e : Event) → IsTrue old.sound → KeptRun m answered old.file → Step old e new → KeptRun m (added answered (old_record e.called)) new.file
step_kept m answered old new e sound kept step = move_kept m answered old.file e.called new.file kept (move_of old new e sound step)

-- so do all events of a run
pub run_kept : (m : Contents) (answered : List (Option (List ℕ))) (old new : Seen) (es : List Event) → IsTrue old.sound → KeptRun m answered old.file → Run old es new → KeptRun m (answered ++ old_records es) new.file
run_kept m answered old new [] sound kept ran =
    subst (λ (bs : List (Option (List ℕ))). KeptRun m bs new.file) (sym (append_none answered)) (subst (λ (f : File). KeptRun m answered f) (sym (ap (λ (s : Seen). s.file) ran)) kept)
run_kept m answered old new (e ∷ es) sound kept ran =
    subst (λ (bs : List (Option (List ℕ))). KeptRun m bs new.file) (with_added answered (old_record e.called) (old_records es))
    (run_kept m (added answered (old_record e.called)) ran.0 new es (ran.1.happens.sound ∙ sound) (step_kept m answered old ran.0 e sound kept ran.1) ran.2)

-- it holds at a start
pub start_kept : (old : Seen) → Starts old → KeptRun old.records [] old.file
start_kept old start = subst (λ (f : File). KeptRun old.records [] f) (sym start.file) (record {
  cs = [];
  opening = refl;
  history = refl;
  answers = refl;
  holds = record { befores = tt; owned = tt; all = tt; within = start.within };
  opens = λ t there. absurd (cc (sym (ap is_some (get-empty nat_cmp t)) ∙ there));
  ends = whole_empty;
})

-- what is kept of a run from a start
pub kept_of_run : (old new : Seen) (es : List Event) → Starts old → Run old es new → KeptRun old.records (old_records es) new.file
kept_of_run old new es start ran = run_kept old.records [] old new es start.sound (start_kept old start) ran
