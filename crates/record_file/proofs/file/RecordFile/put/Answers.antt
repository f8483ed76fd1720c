use Rattle.std.proofs.Common.{ℕ, Bool, false, List, Option, not, true, refl, Ok, Err, ◌≡◌, ◌≤◌, ◌+◌, Some, None, IsTrue, ap, sym, subst, [], ◌∷◌, ◌++◌, ◌∙◌, rules, arith}
use Rattle.std.specs.FinMap as maps
use Rattle.tx_log.specs.LogState.{LogState, use_in, update_in}
use Rattle.tx_log.specs.declared.log_record.LogRecord.{LogRecord}
use Rattle.record_file.specs.Asked.{looked_unless}
use Rattle.record_file.specs.Outside.{cause_of}
use Rattle.rec_types.specs.Calls.{is_no_room, is_miss}
use Rattle.record_file.specs.Abstract.{File, OpenFile, file_of, is_full, records_of, with_change}
use Rattle.std.proofs.lemmas.Result.{err_from_is_err_and}
use Rattle.rec_types.specs.Table.{is_device, counted, damaged_by}
use Rattle.rec_types.specs.declared.table.TableFault.TheVariants as table_faults
use Rattle.record_file.specs.declared.refusal.Refusal.{Refusal}
use Rattle.record_file.specs.Steps.{rose, key_refusal, RefusedFor, Accepts, key_change}
use Rattle.record_file.proofs.AskedLemmas.{looking, looked_is, set_after, told_named, told_lost, put_loses_none, never_full}
use Rattle.record_file.proofs.FaultLemmas.{rose_same, refused_by_table, untold}
use Rattle.record_file.proofs.FileLemmas.{put_has_room}
use Rattle.record_file.proofs.FullnessLemmas.{change_fits, room_now}
use Rattle.record_file.proofs.InvariantLemmas.{change_kept, change_file, change_accepted}
use Rattle.record_file.proofs.MadeLemmas.{free_of, put_made, put_refused}
use Rattle.record_file.proofs.CallStepLemmas.{names_none}
use Rattle.record_file.proofs.TableCallLemmas.{changes_asked, changes_set, changes_then}
use Rattle.record_file.proofs.file.RecordFile.put.Given as given
use Rattle.record_file.proofs.file.RecordFile.put.Goals as goal
use Rattle.record_file.proofs.file.RecordFile.put.Goals.{After-reserve}

-- what the calls before the change left, and found
module _ (g : given.Over) (c : After-reserve g) where
  link : file_of c.self.inside.log (g.T.TableState.contents c.self.inside.table) ≡ c.args.self.now.file
  link = ap (λ (s : OpenFile _). s.file) c.self.view_is ∙ c.is_full.ensures.same.1

  sound_is : g.T.TableState.sound c.self.inside.table ≡ g.T.TableState.sound c.args.self.now.table
  sound_is = ap (λ (s : OpenFile _). g.T.TableState.sound s.table) c.self.view_is ∙ c.is_full.ensures.answered.soundness

  none : key_refusal true c.args.self.now.file c.args.tx.0 c.args.key ≡ None
  none = sym c.in_ok-allow_change.ensures

  not_full : IsTrue (g.T.TableState.sound c.args.self.now.table) → is_full c.args.self.now.file c.args.key ≡ false
  not_full sound = sym (c.in_ok-is_full.ensures.value sound) ∙ c.if-branch.false

  -- so a sound table has room
  has_room : IsTrue (g.T.TableState.sound c.args.self.now.table) → maps.get (g.T.TableState.contents c.self.inside.table) c.args.key ≡ None → g.T.TableState.record_limit c.self.inside.table ≤ maps.len (g.T.TableState.contents c.self.inside.table) → ⊥
  has_room sound absent reached =
      let here = sound_is ∙ sound in
      let room = room_now c.self.inside.log (g.T.TableState.contents c.self.inside.table) c.args.key (c.self.invariant.fits here) (sym (not_full sound) ∙ ap (λ (f : File). is_full f c.args.key) (sym link)) in
      put_has_room _ c.self.inside.log.changes (g.T.TableState.contents c.self.inside.table) c.self.inside.log.limits.records c.args.key (c.self.invariant.within here) room absent (omega (arith, reached, c.self.invariant.limited))

  -- how often the table was asked before
  seen : g.T.TableState.calls c.self.inside.table ≡ looked_unless (not c.is_full.ensures.looks.0) (g.T.TableState.calls c.args.self.now.table)
  seen = ap (λ (s : OpenFile _). g.T.TableState.calls s.table) c.self.view_is ∙ c.is_full.ensures.looks.1

  named : g.T.TableState.damages c.self.inside.table ≡ g.T.TableState.damages c.is_full.new.self.table
  named = ap (λ (s : OpenFile _). g.T.TableState.damages s.table) c.self.view_is

pub accept-lsn-requires-clause-fits : goal.accept-lsn-requires-clause-fits
accept-lsn-requires-clause-fits g c =
    let place = (goal.at.accept-lsn-requires-clause-fits g c).After-reserve in
    let none_here = ap (λ (f : File). key_refusal true f c.args.tx.0 c.args.key) (link g place) ∙ none g place in
    subst (λ (s : LogState). use_in s + 2 ≤ s.limits.log_records) (sym c.in_ok-reserve.ensures.ok) (change_fits (file_of c.self.inside.log (g.T.TableState.contents c.self.inside.table)) c.args.tx.0 c.args.key none_here)

pub invariant_of-self-2 : goal.invariant_of-self-2
invariant_of-self-2 g c =
    let place = (goal.at.invariant_of-self-2 g c).After-reserve in
    change_kept _ _ _ c.self.inside.log c.self.invariant c.in_ok-reserve.ensures.kept
    _ _ _ c.reserve.new.self c.accept-lsn.new.self c.args.tx c.args.key c.in_ok-before.before c.copied-told.result _
    c.in_ok-before.ensures.answered.soundness c.in_ok-before.ensures.answered.limit c.in_ok-reserve.ensures.ok c.in_ok-before.ensures.ok c.in_ok-before.ensures.value
    (c.copied-told.ensures ∙ c.as_ref.ensures.value) c.accept-lsn.ensures.after
    (λ sound. room_now c.self.inside.log (g.T.TableState.contents c.self.inside.table) c.args.key (c.self.invariant.fits sound)
    (sym (not_full g place (sym (sound_is g place) ∙ sound)) ∙ ap (λ (f : File). is_full f c.args.key) (sym (link g place))))

pub returns : goal.returns
returns g c =
    let place = (goal.at.returns g c).After-reserve in
    let F = file_of c.accept-lsn.new.self (g.T.TableState.contents c.set.new.self) in
    let looks = c.is_full.ensures.looks in
    put_made g.T.TableState _ _ c.args.tx c.args.key c.args.value _
    (λ sound lt.
    let here = sound_is g place ∙ sound in
    let counts = c.in_ok-before.ensures.answered.device ∙ ap (λ (s : OpenFile _). g.T.TableState.device_failures s.table) c.self.view_is ∙ c.in_ok-is_full.ensures.answered.device in
    let stood = c.in_ok-before.ensures.value here in (
      none g place,
      rose_same (g.T.TableState.device_failures c.args.self.now.table) (g.T.TableState.device_failures c.set.new.self) counts,
      not_full g place sound,
      stood ∙ ap (λ m. maps.get m c.args.key) (c.self.invariant.fits here).replayed ∙ ap (λ (f : File). maps.get (records_of f) c.args.key) (link g place),
      change_file _ _ _ c.self.inside.log c.self.invariant c.in_ok-reserve.ensures.kept (g.T.TableState.contents c.set.new.self) c.reserve.new.self c.accept-lsn.new.self c.args.tx c.args.key c.in_ok-before.before c.copied-told.result _ c.in_ok-reserve.ensures.ok (c.in_ok-before.ensures.ok here) stood (c.copied-told.ensures ∙ c.as_ref.ensures.value) c.accept-lsn.ensures.after
          ∙ ap (λ (f : File). with_change f c.args.tx.0 c.args.key (Some (Some c.args.value))) (link g place),
    ))
    (free_of _ _ (none g place))
    tt
    (subst (λ (o : Option (List ℕ)). Accepts c.args.self.now.file c.args.self.now.log (key_change c.args.tx c.args.key o (Some (Some c.args.value))) F c.accept-lsn.new.self.records) (c.copied-told.ensures ∙ c.as_ref.ensures.value)
    (subst (λ (l : List LogRecord). Accepts c.args.self.now.file l (key_change c.args.tx c.args.key c.copied-told.result (Some (Some c.args.value))) F c.accept-lsn.new.self.records) (ap (λ (s : OpenFile _). s.log) c.self.view_is ∙ c.is_full.ensures.same.2)
    (subst (λ (f : File). Accepts f c.self.inside.log.records (key_change c.args.tx c.args.key c.copied-told.result (Some (Some c.args.value))) F c.accept-lsn.new.self.records) (link g place)
    (change_accepted _ _ _ c.self.inside.log c.self.invariant c.in_ok-reserve.ensures.kept (g.T.TableState.contents c.set.new.self) c.reserve.new.self c.accept-lsn.new.self c.args.tx c.args.key c.copied-told.result (Some (Some c.args.value)) c.in_ok-reserve.ensures.ok c.accept-lsn.ensures.after))))
    tt
    (changes_then g.T.TableState _ c.is_full.new.self _ None
    (changes_asked g.T.TableState _ _ _ c.in_ok-is_full.ensures.answered c.is_full.ensures.same)
    (changes_set g.T.TableState _ _ _ _ _ c.self.view_is c.in_ok-before.ensures.answered
    (ap (λ (s : LogState). s.records) c.accept-lsn.ensures.after ∙ ap (λ (s : LogState). s.records ++ update_in s c.args.tx c.args.key c.copied-told.result (Some (Some c.args.value)) ∷ []) c.in_ok-reserve.ensures.ok)
    c.in_ok-before.ensures.ok
    (λ here. ap (λ (f : File). f.opening) (change_file _ _ _ c.self.inside.log c.self.invariant c.in_ok-reserve.ensures.kept (g.T.TableState.contents c.set.new.self) c.reserve.new.self c.accept-lsn.new.self c.args.tx c.args.key c.in_ok-before.before c.copied-told.result _ c.in_ok-reserve.ensures.ok (c.in_ok-before.ensures.ok here) (c.in_ok-before.ensures.value here) (c.copied-told.ensures ∙ c.as_ref.ensures.value) c.accept-lsn.ensures.after))))
    (false, search rules, λ none. absurd (cc))
    (names_none _)
    (record {
      asked = record { looks = looks.0; sets = true; no_room = false; lost = is_miss false (Ok c.in_ok-before.before) };
      allowed = record { accepted = refl; full = λ is. absurd (cc); looks = λ sound looked. sym (looks.2 sound) ∙ looked };
      calls = set_after looks.0 false (g.T.TableState.calls c.args.self.now.table) (g.T.TableState.calls c.self.inside.table) (g.T.TableState.calls c.set.new.self) (Ok c.in_ok-before.before) (seen g place) c.in_ok-before.ensures.calls;
      lost = put_loses_none c.in_ok-before.before _ _ (c.in_ok-before.ensures.answered.damages ∙ named g place ∙ c.in_ok-is_full.ensures.answered.damages);
    })

-- the file alone refuses it
pub returns-in_err-allow_change : goal.returns-in_err-allow_change
returns-in_err-allow_change g c =
    let told = err_from_is_err_and c.from_residual.result c.from_residual.ensures.1 in
    rw told.1 (put_refused g.T.TableState c.args.self.now c.args.tx c.args.key c.args.value told.0 (sym c.in_err-allow_change.ensures ∙ ap (λ (r : Refusal). Some r) (sym told.2)))

-- a look failed
pub returns-in_err-is_full : goal.returns-in_err-is_full
returns-in_err-is_full g c =
    let told = err_from_is_err_and c.from_residual-in_err-is_full.result c.from_residual-in_err-is_full.ensures.1 in
    let fault = c.in_err-is_full.field-0.0 in
    let looks = c.is_full.ensures.looks in
    put_made g.T.TableState _ _ c.args.tx c.args.key c.args.value _
    (search rules) (search rules) (search rules) (search rules) (search rules) (search rules) (search rules) (search rules)
    (rw (told.1, told.2) (record {
      asked = looking looks.0;
      allowed = record { accepted = tt; full = λ _. refl; looks = λ sound looked. sym (looks.2 sound) ∙ looked };
      calls = looks.1 ∙ looked_is looks.0 (g.T.TableState.calls c.args.self.now.table);
      lost = told_named Bool fault _ _ (λ is. c.in_err-is_full.ensures.no_room (ap Err is)) c.in_err-is_full.ensures.answered.damages;
    }))

-- the file is full
pub returns-then-branch : goal.returns-then-branch
returns-then-branch g c =
    let looks = c.is_full.ensures.looks in
    put_made g.T.TableState _ _ c.args.tx c.args.key c.args.value _
    (search rules) (search rules) (search rules) (search rules) (search rules) (search rules) (search rules) (search rules)
    (record {
      asked = looking looks.0;
      allowed = record { accepted = tt; full = λ _. refl; looks = λ sound looked. sym (looks.2 sound) ∙ looked };
      calls = looks.1 ∙ looked_is looks.0 (g.T.TableState.calls c.args.self.now.table);
      lost = c.in_ok-is_full.ensures.answered.damages;
    })

-- the log has no room
pub returns-in_err-reserve : goal.returns-in_err-reserve
returns-in_err-reserve g c =
    let told = err_from_is_err_and c.from_residual-in_err-reserve.result c.from_residual-in_err-reserve.ensures.1 in
    let looks = c.is_full.ensures.looks in
    put_made g.T.TableState _ _ c.args.tx c.args.key c.args.value _
    (search rules) (search rules) (search rules) (search rules) (search rules) (search rules) (search rules) (search rules)
    (rw (told.1, told.2) (record {
      asked = looking looks.0;
      allowed = record { accepted = tt; full = λ _. refl; looks = λ sound looked. sym (looks.2 sound) ∙ looked };
      calls = ap (λ (s : OpenFile _). g.T.TableState.calls s.table) c.self.view_is ∙ looks.1 ∙ looked_is looks.0 (g.T.TableState.calls c.args.self.now.table);
      lost = ap (λ (s : OpenFile _). g.T.TableState.damages s.table) c.self.view_is ∙ c.in_ok-is_full.ensures.answered.damages;
    }))

-- the table refused the change
pub returns-in_err-before : goal.returns-in_err-before
returns-in_err-before g c =
    let place = (goal.at.returns-in_err-before g c).After-reserve in
    let told = err_from_is_err_and c.from_residual-in_err-before.result c.from_residual-in_err-before.ensures.1 in
    let fault = c.in_err-before.field-0.0 in
    let looks = c.is_full.ensures.looks in
    put_made g.T.TableState _ _ c.args.tx c.args.key c.args.value _
    (λ sound lt.
    let here = sound_is g place ∙ sound in
    let counts = c.in_err-before.ensures.answered.device ∙ ap (λ n. counted n (is_device {A = Option (List ℕ)} (Err fault))) (ap (λ (s : OpenFile _). g.T.TableState.device_failures s.table) c.self.view_is ∙ c.in_ok-is_full.ensures.answered.device) in
    let same = (λ i. file_of (c.in_ok-reserve.ensures.ok i) (c.in_err-before.ensures.err i)) ∙ link g place in
    rw told.1 (
      subst (λ (r : Refusal). RefusedFor (key_refusal true c.args.self.now.file c.args.tx.0 c.args.key) (is_full c.args.self.now.file c.args.key) (rose (g.T.TableState.device_failures c.args.self.now.table) (g.T.TableState.device_failures c.set.new.self)) r) (sym told.2)
          (refused_by_table _ _ _ _ fault (none g place) (not_full g place sound) lt counts
          (λ (is : fault ≡ table_faults.NoRoom).
          let full = c.in_err-before.ensures.no_room here (ap Err is) in
          absurd (has_room g place sound full.1 full.2))
          (λ (page : ℕ) (is : fault ≡ table_faults.Damaged page). c.in_err-before.ensures.answered.whole here page (ap Err is))),
      same,
    ))
    (search rules) (search rules) (search rules) (search rules) (search rules) (search rules)
    (λ sound page.
    let here = sound_is g place ∙ sound in
    rw (told.1, told.2) (λ is. untold fault
    (λ (is : fault ≡ table_faults.NoRoom). let full = c.in_err-before.ensures.no_room here (ap Err is) in has_room g place sound full.1 full.2)
    (λ (page : ℕ) (is : fault ≡ table_faults.Damaged page). c.in_err-before.ensures.answered.whole here page (ap Err is)) page is))
    (rw (told.1, told.2) (record {
      asked = record { looks = looks.0; sets = true; no_room = is_no_room {A = Option (List ℕ)} (Err fault); lost = false };
      allowed = record { accepted = tt; full = λ is. absurd (never_full told.0 (cause_of fault) told.2 is); looks = λ sound looked. sym (looks.2 sound) ∙ looked };
      calls = set_after looks.0 false (g.T.TableState.calls c.args.self.now.table) (g.T.TableState.calls c.self.inside.table) (g.T.TableState.calls c.set.new.self) (Err fault) (seen g place) c.in_err-before.ensures.calls;
      lost = told_lost (Option (List ℕ)) fault _ _ (c.in_err-before.ensures.answered.damages ∙ ap (λ d. damaged_by {A = Option (List ℕ)} d (Err fault)) (named g place ∙ c.in_ok-is_full.ensures.answered.damages));
    }))
