use Rattle.std.proofs.Common.{rules, ℕ, List, Option, true, false, not, is_some, refl, Ok, Err, Some, None, ◌≤◌, ◌+◌, ap, sym, subst, [], ◌∷◌, ◌++◌, ◌≡◌, IsTrue, ◌∙◌}
use Rattle.std.specs.FinMap as maps
use Rattle.rec_types.specs.Contents.{set_to}
use Rattle.tx_log.specs.LogState.{LogState, use_in, update_in, open_in, history_in}
use Rattle.record_file.specs.Asked.{looked_unless}
use Rattle.record_file.specs.Outside.{cause_of}
use Rattle.std.proofs.lemmas.Result.{err_from_is_err_and}
use Rattle.rec_types.specs.Calls.{with_get, is_no_room, is_miss}
use Rattle.rec_types.specs.Table.{damaged_by}
use Rattle.record_file.specs.Abstract.{File, OpenFile, file_of, records_of, with_change}
use Rattle.record_file.specs.declared.refusal.Refusal.{Refusal}
use Rattle.record_file.specs.Steps.{key_refusal, Accepts, key_change}
use Rattle.record_file.proofs.AskedLemmas.{looking, set_after, told_named, told_lost, found_loses_none, none_is_lost, never_absent}
use Rattle.record_file.proofs.FaultLemmas.{rose_same}
use Rattle.record_file.proofs.FullnessLemmas.{change_fits, present_charged}
use Rattle.record_file.proofs.InvariantLemmas.{change_kept, change_file, change_accepted}
use Rattle.record_file.proofs.MadeLemmas.{free_of, remove_made, remove_refused}
use Rattle.record_file.proofs.TableCallLemmas.{answered_then, changes_set}
use Rattle.record_file.proofs.file.RecordFile.remove.Given as given
use Rattle.record_file.proofs.file.RecordFile.remove.Goals as goal
use Rattle.record_file.proofs.file.RecordFile.remove.Goals.{After-get, After-accept-lsn}

-- what the change did to the table that was lent
module _ (g : given.Over) (c : After-accept-lsn g) where
  put : IsTrue (g.T.TableState.sound c.self.inside.table) → g.T.TableState.contents c.set.new.self ≡ set_to (g.T.TableState.contents c.self.inside.table) c.args.key None
  put sound = c.in_ok-taken.ensures.ok (c.in_ok-get.ensures.answered.soundness ∙ sound) ∙ ap (λ m. set_to m c.args.key None) c.in_ok-get.ensures.same

  stood : IsTrue (g.T.TableState.sound c.self.inside.table) → c.in_ok-taken.field-0 ≡ maps.get (g.T.TableState.contents c.self.inside.table) c.args.key
  stood sound = c.in_ok-taken.ensures.value (c.in_ok-get.ensures.answered.soundness ∙ sound) ∙ ap (λ m. maps.get m c.args.key) c.in_ok-get.ensures.same

pub accept-lsn-requires-clause-fits : goal.accept-lsn-requires-clause-fits
accept-lsn-requires-clause-fits g c =
    let link = ap (λ (s : OpenFile _). s.file) c.self.view_is in
    let none = ap (λ (f : File). key_refusal true f c.args.tx.0 c.args.key) link ∙ sym c.in_ok-allow_change.ensures in
    subst (λ (s : LogState). use_in s + 2 ≤ s.limits.log_records) (sym c.in_ok-reserve.ensures.ok) (change_fits (file_of c.self.inside.log (g.T.TableState.contents c.self.inside.table)) c.args.tx.0 c.args.key none)

pub invariant_of-self-in-Some : goal.invariant_of-self-in-Some
invariant_of-self-in-Some g c =
    let key = c.args.key in
    let place = (goal.at.invariant_of-self-in-Some g c).After-accept-lsn in
    change_kept _ _ _ c.self.inside.log c.self.invariant c.in_ok-reserve.ensures.kept
    _ _ _ c.reserve.new.self c.accept-lsn.new.self c.args.tx key c.in_ok-taken.field-0 (Some c.in-Some.taken) (Some None)
    (c.in_ok-taken.ensures.answered.soundness ∙ c.in_ok-get.ensures.answered.soundness) (c.in_ok-taken.ensures.answered.limit ∙ c.in_ok-get.ensures.answered.limit) c.in_ok-reserve.ensures.ok (put g place) (stood g place) (sym c.in-Some.is) c.accept-lsn.ensures.after
    (λ sound absent. absurd (present_charged (open_in c.self.inside.log) (history_in c.self.inside.log) (g.T.TableState.contents c.self.inside.table) key c.in_ok-get.field-0 (c.in_ok-get.ensures.value sound) c.if-is_none.ensures absent))

module _ (g : given.Over) (c : After-get g) where
  unrefused : key_refusal true c.args.self.now.file c.args.tx.0 c.args.key ≡ None
  unrefused = sym c.in_ok-allow_change.ensures

  looked : true ≡ not (is_some (key_refusal true c.args.self.now.file c.args.tx.0 c.args.key))
  looked = sym (ap (λ o. not (is_some o)) unrefused)

  seen : g.T.TableState.calls c.get.new.self ≡ looked_unless (not true) (g.T.TableState.calls c.args.self.now.table)
  seen = c.get.ensures.calls ∙ ap (λ (s : OpenFile _). with_get (g.T.TableState.calls s.table)) c.self.view_is

  named : g.T.TableState.damages c.self.inside.table ≡ g.T.TableState.damages c.args.self.now.table
  named = ap (λ (s : OpenFile _). g.T.TableState.damages s.table) c.self.view_is

pub returns-in-Some : goal.returns-in-Some
returns-in-Some g c =
    remove_made g.T.TableState _ _ c.args.tx c.args.key _
    (λ sound lt.
    let key = c.args.key in
    let link = ap (λ (s : OpenFile _). s.file) c.self.view_is in
    let here = ap (λ (s : OpenFile _). g.T.TableState.sound s.table) c.self.view_is ∙ sound in
    let none = sym c.in_ok-allow_change.ensures in
    let counts = c.in_ok-taken.ensures.answered.device ∙ c.in_ok-get.ensures.answered.device ∙ ap (λ (s : OpenFile _). g.T.TableState.device_failures s.table) c.self.view_is in
    let place = (goal.at.returns-in-Some g c).After-accept-lsn in (
      none,
      rose_same (g.T.TableState.device_failures c.args.self.now.table) (g.T.TableState.device_failures c.set.new.self) counts,
      sym (sym c.in-Some.is ∙ stood g place here ∙ ap (λ m. maps.get m key) (c.self.invariant.fits here).replayed ∙ ap (λ (f : File). maps.get (records_of f) key) link),
      change_file _ _ _ c.self.inside.log c.self.invariant c.in_ok-reserve.ensures.kept (g.T.TableState.contents c.set.new.self) c.reserve.new.self c.accept-lsn.new.self c.args.tx key c.in_ok-taken.field-0 (Some c.in-Some.taken) (Some None) c.in_ok-reserve.ensures.ok (put g place here) (stood g place here) (sym c.in-Some.is) c.accept-lsn.ensures.after
          ∙ ap (λ (f : File). with_change f c.args.tx.0 key (Some None)) link,
    ))
    (free_of _ _ (sym c.in_ok-allow_change.ensures))
    tt
    (subst (λ (s : OpenFile _). Accepts s.file s.log (key_change c.args.tx c.args.key (Some c.in-Some.taken) (Some None)) (file_of c.accept-lsn.new.self (g.T.TableState.contents c.set.new.self)) c.accept-lsn.new.self.records) c.self.view_is
    (change_accepted _ _ _ c.self.inside.log c.self.invariant c.in_ok-reserve.ensures.kept (g.T.TableState.contents c.set.new.self) c.reserve.new.self c.accept-lsn.new.self c.args.tx c.args.key (Some c.in-Some.taken) (Some None) c.in_ok-reserve.ensures.ok c.accept-lsn.ensures.after))
    tt
    (let place = (goal.at.returns-in-Some g c).After-accept-lsn in
    changes_set g.T.TableState _ _ _ _ _ c.self.view_is (answered_then g.T.TableState _ _ _ _ _ c.in_ok-get.ensures.answered c.in_ok-taken.ensures.answered)
    (ap (λ (s : LogState). s.records) c.accept-lsn.ensures.after ∙ ap (λ (s : LogState). s.records ++ update_in s c.args.tx c.args.key (Some c.in-Some.taken) (Some None) ∷ []) c.in_ok-reserve.ensures.ok)
    (put g place)
    (λ here. ap (λ (f : File). f.opening) (change_file _ _ _ c.self.inside.log c.self.invariant c.in_ok-reserve.ensures.kept (g.T.TableState.contents c.set.new.self) c.reserve.new.self c.accept-lsn.new.self c.args.tx c.args.key c.in_ok-taken.field-0 (Some c.in-Some.taken) (Some None) c.in_ok-reserve.ensures.ok (put g place here) (stood g place here) (sym c.in-Some.is) c.accept-lsn.ensures.after)))
    (search rules) (search rules)
    (let place = (goal.at.returns-in-Some g c).After-get in
    record {
      asked = record { looks = true; sets = true; no_room = false; lost = is_miss true (Ok c.in_ok-taken.field-0) };
      allowed = record { accepted = refl; absent = λ is. absurd (cc); looks = looked g place };
      calls = set_after true true (g.T.TableState.calls c.args.self.now.table) (g.T.TableState.calls c.get.new.self) (g.T.TableState.calls c.set.new.self) (Ok c.in_ok-taken.field-0) (seen g place) c.in_ok-taken.ensures.calls;
      lost = found_loses_none c.in_ok-taken.field-0 c.in-Some.taken _ _ c.in-Some.is (c.in_ok-taken.ensures.answered.damages ∙ c.in_ok-get.ensures.answered.damages ∙ named g place);
    })

-- the file alone refuses it
pub returns-in_err-allow_change : goal.returns-in_err-allow_change
returns-in_err-allow_change g c =
    let told = err_from_is_err_and c.from_residual.result c.from_residual.ensures.1 in
    rw told.1 (remove_refused g.T.TableState c.args.self.now c.args.tx c.args.key told.0 (sym c.in_err-allow_change.ensures ∙ ap (λ (r : Refusal). Some r) (sym told.2)))

-- a look failed
pub returns-in_err-get : goal.returns-in_err-get
returns-in_err-get g c =
    remove_made g.T.TableState _ _ c.args.tx c.args.key _
    (search rules) (search rules) (search rules) (search rules) (search rules) (search rules) (search rules) (search rules)
    (let place = (goal.at.returns-in_err-get g c).After-get in
    let told = err_from_is_err_and c.from_residual-in_err-get.result c.from_residual-in_err-get.ensures.1 in
    let fault = c.in_err-get.field-0.0 in
    rw (told.1, told.2) (record {
      asked = looking true;
      allowed = record { accepted = tt; absent = λ _. refl; looks = looked g place };
      calls = seen g place;
      lost = told_named (Option (List ℕ)) fault _ _ (λ is. c.in_err-get.ensures.no_room (ap Err is)) (c.in_err-get.ensures.answered.damages ∙ ap (λ d. damaged_by {A = Option (List ℕ)} d (Err fault)) (named g place));
    }))

-- no record stands there
pub returns-then-is_none : goal.returns-then-is_none
returns-then-is_none g c =
    remove_made g.T.TableState _ _ c.args.tx c.args.key _
    (search rules) (search rules) (search rules) (search rules) (search rules) (search rules) (search rules) (search rules)
    (let place = (goal.at.returns-then-is_none g c).After-get in
    record {
      asked = looking true;
      allowed = record { accepted = tt; absent = λ _. refl; looks = looked g place };
      calls = seen g place;
      lost = c.in_ok-get.ensures.answered.damages ∙ named g place;
    })

-- the log has no room
pub returns-in_err-reserve : goal.returns-in_err-reserve
returns-in_err-reserve g c =
    remove_made g.T.TableState _ _ c.args.tx c.args.key _
    (search rules) (search rules) (search rules) (search rules) (search rules) (search rules) (search rules) (search rules)
    (let place = (goal.at.returns-in_err-reserve g c).After-get in
    let told = err_from_is_err_and c.from_residual-in_err-reserve.result c.from_residual-in_err-reserve.ensures.1 in
    rw (told.1, told.2) (record {
      asked = looking true;
      allowed = record { accepted = tt; absent = λ _. refl; looks = looked g place };
      calls = seen g place;
      lost = c.in_ok-get.ensures.answered.damages ∙ named g place;
    }))

-- the table refused the change
pub returns-in_err-taken : goal.returns-in_err-taken
returns-in_err-taken g c =
    remove_made g.T.TableState _ _ c.args.tx c.args.key _
    (search rules) (search rules) (search rules) (search rules) (search rules) (search rules) (search rules) (search rules)
    (let place = (goal.at.returns-in_err-taken g c).After-get in
    let told = err_from_is_err_and c.from_residual-in_err-taken.result c.from_residual-in_err-taken.ensures.1 in
    let fault = c.in_err-taken.field-0.0 in
    rw (told.1, told.2) (record {
      asked = record { looks = true; sets = true; no_room = is_no_room {A = Option (List ℕ)} (Err fault); lost = false };
      allowed = record { accepted = tt; absent = λ is. absurd (never_absent told.0 (cause_of fault) told.2 is); looks = looked g place };
      calls = set_after true true (g.T.TableState.calls c.args.self.now.table) (g.T.TableState.calls c.get.new.self) (g.T.TableState.calls c.set.new.self) (Err fault) (seen g place) c.in_err-taken.ensures.calls;
      lost = told_lost (Option (List ℕ)) fault _ _ (c.in_err-taken.ensures.answered.damages ∙ ap (λ d. damaged_by {A = Option (List ℕ)} d (Err fault)) (c.in_ok-get.ensures.answered.damages ∙ named g place));
    }))

-- the record that was seen is lost
pub returns-in-None : goal.returns-in-None
returns-in-None g c =
    remove_made g.T.TableState _ _ c.args.tx c.args.key _
    (search rules) (search rules) (search rules) (search rules) (search rules) (search rules) (search rules) (search rules)
    (let place = (goal.at.returns-in-None g c).After-get in
    record {
      asked = record { looks = true; sets = true; no_room = false; lost = is_miss true (Ok c.in_ok-taken.field-0) };
      allowed = record { accepted = tt; absent = λ is. absurd (cc); looks = looked g place };
      calls = set_after true true (g.T.TableState.calls c.args.self.now.table) (g.T.TableState.calls c.get.new.self) (g.T.TableState.calls c.set.new.self) (Ok c.in_ok-taken.field-0) (seen g place) c.in_ok-taken.ensures.calls;
      lost = none_is_lost c.in_ok-taken.field-0 _ _ c.in-None.is (c.in_ok-taken.ensures.answered.damages ∙ c.in_ok-get.ensures.answered.damages ∙ named g place);
    })
