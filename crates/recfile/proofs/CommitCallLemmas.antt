-- What a commit that a keeper is asked to keep tells.
use Rattle.std.proofs.Common.{◌≡◌, ◌⊎◌, inl, inr, ◌∙◌, ℕ, Bool, true, false, if◌then◌else◌, [], ◌∷◌, List, Option, None, Result, Ok, Err, IsTrue, refl, sym, ap, subst}
use Rattle.rec_types.specs.declared.table_state.TableState.{Ghosts}
use Rattle.rec_types.specs.declared.transaction.TxId.{TxId}
use Rattle.tx_log.specs.Written.{own, writes}
use Rattle.command_text.specs.declared.command.Command.TheVariants as commands
use Rattle.record_file.specs.Abstract.{OpenFile}
use Rattle.record_file.specs.Durable.{AskedIf, AsksKeeper, KeptStep}
use Rattle.std.proofs.lemmas.Bool.{false≢true}
use Rattle.record_file.specs.Runs.{Commit, IsKeptSeen, Run, is_commit, seen_as, undoubted}
use Rattle.record_file.specs.Seen.{commits_of, doubt_of}
use Rattle.record_file.specs.Steps.{CommitStep, tx_refusal}
use Rattle.record_file.specs.TableCalls.{SameTable}
use Rattle.record_file.specs.declared.fault.CommitFault.{CommitFault}
use Rattle.record_file.specs.declared.keeper.KeepFault.{KeepFault}
use Rattle.record_file.specs.declared.keeper.KeepFault.TheVariants as keep_faults
use Rattle.record_file.specs.declared.keeper.KeeperFault.{KeeperFault}
use Rattle.record_file.specs.declared.keeper.KeeperFault.TheVariants as keeper_faults
use Rattle.record_file.proofs.CallStepLemmas.{names_none}
use Rattle.record_file.proofs.LogGrowthLemmas.{tells_none}
use Rattle.recfile.specs.Run.{AddsIf, HasReply, TellsWrites, commit_reply}
use Rattle.file_session.specs.LogKeeping.{AddsWrites, SaysWrites}

abbrev Writes : Type 0
Writes = List (List ℕ × Option (List ℕ))

module _ {T : Type 0} (t : Ghosts T) (old new : OpenFile T) (same : SameTable t old.table new.table) (log : new.log ≡ old.log) where
  -- all but the abstract file, the commits and the one in doubt stays
  rest_same : (keeps : Bool) → undoubted (seen_as keeps t new) ≡ record (undoubted (seen_as keeps t old)) { file = new.file; commits = commits_of keeps t new.table }
  rest_same keeps i = record {
    file = new.file;
    log = log i;
    records = same.contents i;
    sound = same.soundness i;
    failures = same.device i;
    refusals = same.memory i;
    damages = same.damages i;
    calls = same.calls i;
    logged = keeps;
    commits = commits_of keeps t new.table;
    doubt = [];
  }

  one_step : (keeps : Bool) (tx : TxId) (answer : Result (Unit {0}) CommitFault) → IsKeptSeen (seen_as keeps t old) → IsKeptSeen (seen_as keeps t new) → CommitStep old.file tx.0 answer new.file → (is_commit (Commit tx answer) ≡ false → commits_of keeps t new.table ≡ commits_of keeps t old.table) → Run (undoubted (seen_as keeps t old)) (record { called = Commit tx answer; failed = false; refused = false } ∷ []) (undoubted (seen_as keeps t new))
  one_step keeps tx answer was is step commits = (
    undoubted (seen_as keeps t new),
    record {
      kept = was;
      keeps = is;
      happens = record {
        undamaged = names_none (t.sound old.table);
        failures = same.device;
        refusals = same.memory;
        sound = same.soundness;
        logged = refl;
        commits = commits;
        told = tells_none (t.sound old.table) (t.contents old.table) (t.contents new.table) old.log new.log same.contents log;
        answer = ((refl, refl, rest_same keeps), step);
      };
    },
    refl,
  )

  no_step : (keeps : Bool) → new.file ≡ old.file → commits_of keeps t new.table ≡ commits_of keeps t old.table → undoubted (seen_as keeps t new) ≡ undoubted (seen_as keeps t old)
  no_step keeps file commits = rest_same keeps ∙ (λ i. record (undoubted (seen_as keeps t old)) { file = file i; commits = commits i })

  known : (table : T) → t.sound table ≡ true → commits_of true t table ≡ t.commits (t.origin table)
  known table sound = ap (λ b. if b then t.commits (t.origin table) else []) sound

  pick : (b : Bool) (x y : List (List (List ℕ))) → (b ≡ true → x ≡ y) → (if b then x else []) ≡ (if b then y else [])
  pick true x y is = is refl
  pick false x y is = refl

  unkept_same : (keeps : Bool) → (IsTrue (t.sound old.table) → t.commits (t.origin new.table) ≡ t.commits (t.origin old.table)) → commits_of keeps t new.table ≡ commits_of keeps t old.table
  unkept_same false is = refl
  unkept_same true is = ap (λ b. if b then t.commits (t.origin new.table) else []) same.soundness ∙ pick (t.sound old.table) (t.commits (t.origin new.table)) (t.commits (t.origin old.table)) is

  undoubted_same : (keeps : Bool) → t.doubt (t.origin new.table) ≡ t.doubt (t.origin old.table) → doubt_of keeps t new.table ≡ doubt_of keeps t old.table
  undoubted_same false is = refl
  undoubted_same true is = λ i. if same.soundness i then is i else []

  doubted : (keeps : Bool) (tx : TxId) (es : Writes) → tx_refusal old.file tx.0 None ≡ None → (t.doubt (t.origin new.table) ≡ t.doubt (t.origin old.table)) ⊎ SaysWrites es (t.doubt (t.origin new.table)) → (doubt_of keeps t new.table ≡ doubt_of keeps t old.table) ⊎ ((tx_refusal old.file tx.0 None ≡ None) × SaysWrites es (doubt_of keeps t new.table))
  doubted keeps tx es accepted (inl is) = inl (undoubted_same keeps is)
  doubted false tx es accepted (inr says) = inl refl
  doubted true tx es accepted (inr says) = at (t.sound old.table) refl
    where
      at : (b : Bool) → t.sound old.table ≡ b → (doubt_of true t new.table ≡ doubt_of true t old.table) ⊎ ((tx_refusal old.file tx.0 None ≡ None) × SaysWrites es (doubt_of true t new.table))
      at true is = inr (accepted, subst (λ b. SaysWrites es (if b then t.doubt (t.origin new.table) else [])) (sym (same.soundness ∙ is)) says)
      at false is = inl (ap (λ b. if b then t.doubt (t.origin new.table) else []) (same.soundness ∙ is) ∙ sym (ap (λ b. if b then t.doubt (t.origin old.table) else []) is))

  module _ (keeps : Bool) (answers : T → Writes → Result (Unit {0}) KeeperFault → T → Type 0) (tx : TxId) (tells : (answer : Result (Unit {0}) KeeperFault) → answers old.table (writes (own tx.0 old.file.history)) answer new.table → keeps ≡ true → TellsWrites t old.table (writes (own tx.0 old.file.history)) answer new.table) where
    kept_so : (done : Unit {0}) (b : Bool) → keeps ≡ b → AskedIf b (answers old.table (writes (own tx.0 old.file.history)) (Ok done) new.table) (new.table ≡ old.table) → IsTrue (t.sound old.table) → AddsIf b (commits_of b t old.table) (writes (own tx.0 old.file.history)) (commits_of b t new.table)
    kept_so done true is asked sound =
        subst (λ k. AddsWrites k (writes (own tx.0 old.file.history)) (commits_of true t new.table)) (sym (known old.table sound))
        (subst (λ k. AddsWrites (t.commits (t.origin old.table)) (writes (own tx.0 old.file.history)) k) (sym (known new.table (same.soundness ∙ sound)))
        ((tells (Ok done) asked is).0 sound))
    kept_so done false is asked sound = refl

    undoubted_so : (done : Unit {0}) (b : Bool) → keeps ≡ b → AskedIf b (answers old.table (writes (own tx.0 old.file.history)) (Ok done) new.table) (new.table ≡ old.table) → doubt_of b t new.table ≡ doubt_of b t old.table
    undoubted_so done true is asked = undoubted_same true (tells (Ok done) asked is).1
    undoubted_so done false is asked = refl

    pub commit_told : (result : Result (Unit {0}) KeepFault) → KeptStep keeps old.file tx.0 result new.file → AsksKeeper answers keeps (writes (own tx.0 old.file.history)) old.table result new.table → IsKeptSeen (seen_as keeps t old) → IsKeptSeen (seen_as keeps t new) → HasReply (seen_as keeps t old) (Ok (commands.Commit tx)) (commit_reply result) (seen_as keeps t new)
    commit_told (Ok done) step asked was is = record {
      events = record { called = Commit tx (Ok done); failed = false; refused = false } ∷ [];
      told = refl;
      kept = λ sound. kept_so done keeps refl asked sound;
      doubt = undoubted_so done keeps refl asked;
      alone = λ other. absurd (false≢true (sym other));
      ran = one_step keeps tx (Ok done) was is step (λ other. absurd (false≢true (sym other)));
    }
    commit_told (Err (keep_faults.Refused fault)) step asked was is = record {
      events = record { called = Commit tx (Err fault); failed = false; refused = false } ∷ [];
      told = refl;
      kept = tt;
      doubt = ap (doubt_of keeps t) asked;
      alone = λ _. refl;
      ran = one_step keeps tx (Err fault) was is step (λ _. ap (commits_of keeps t) asked);
    }
    commit_told (Err keep_faults.Memory) step asked was is = record { events = []; told = (step.0, refl, step.1); kept = tt; doubt = ap (doubt_of keeps t) asked; alone = λ _. refl; ran = no_step keeps step.2 (ap (commits_of keeps t) asked) }
    commit_told (Err (keep_faults.Unkept keeper_faults.Memory)) step asked was is = record { events = []; told = (step.0, refl, step.1); kept = tt; doubt = undoubted_same keeps (tells (Err keeper_faults.Memory) asked step.0).1; alone = λ _. refl; ran = no_step keeps step.2 (unkept_same keeps (tells (Err keeper_faults.Memory) asked step.0).0) }
    commit_told (Err (keep_faults.Unkept keeper_faults.Room)) step asked was is = record { events = []; told = (step.0, refl, step.1); kept = tt; doubt = undoubted_same keeps (tells (Err keeper_faults.Room) asked step.0).1; alone = λ _. refl; ran = no_step keeps step.2 (unkept_same keeps (tells (Err keeper_faults.Room) asked step.0).0) }
    commit_told (Err (keep_faults.Unkept keeper_faults.Doubt)) step asked was is = record { events = []; told = (step.0, refl, step.1); kept = tt; doubt = doubted keeps tx (writes (own tx.0 old.file.history)) step.1 (tells (Err keeper_faults.Doubt) asked step.0).1; alone = λ _. refl; ran = no_step keeps step.2 (unkept_same keeps (tells (Err keeper_faults.Doubt) asked step.0).0) }
