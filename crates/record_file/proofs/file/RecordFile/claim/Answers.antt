use Rattle.std.proofs.Common.{rules, ℕ, Some, ◌&&◌, true, not, is_some, is_none, false, List, Option, ◌≡◌, ◌≤◌, ◌+◌, None, IsTrue, ap, sym, subst, [], ◌∷◌, ◌++◌, ◌∙◌}
use Rattle.std.specs.FinMap as maps
use Rattle.std.proofs.lemmas.Result.{err_from_is_err_and}
use Rattle.record_file.specs.declared.refusal.Refusal.{Refusal}
use Rattle.tx_log.specs.LogState.{LogState, use_in, update_in}
use Rattle.tx_log.specs.declared.log_record.LogRecord.{LogRecord}
use Rattle.record_file.specs.Abstract.{File, OpenFile, file_of, is_full, records_of, with_change}
use Rattle.record_file.specs.Steps.{key_refusal, Accepts, key_change}
use Rattle.record_file.proofs.FaultLemmas.{rose_same}
use Rattle.record_file.proofs.FullnessLemmas.{change_fits, room_now, stands_not_full}
use Rattle.record_file.proofs.InvariantLemmas.{change_kept, change_file, change_accepted}
use Rattle.record_file.proofs.MadeLemmas.{free_of, claim_made, claim_refused}
use Rattle.record_file.proofs.TableCallLemmas.{changes_set}
use Rattle.record_file.proofs.file.RecordFile.claim.Given as given
use Rattle.record_file.proofs.file.RecordFile.claim.Goals as goal
use Rattle.record_file.proofs.file.RecordFile.claim.Goals.{After-reserve, else-full-via-then-full+else-is_none, else-full-via-else-full}

-- what the calls before the change left, and found
module _ (g : given.Over) (c : After-reserve g) where
  link : file_of c.self.inside.log (g.T.TableState.contents c.self.inside.table) ≡ c.args.self.now.file
  link = ap (λ (s : OpenFile _). s.file) c.self.view_is

  sound_is : g.T.TableState.sound c.self.inside.table ≡ g.T.TableState.sound c.args.self.now.table
  sound_is = ap (λ (s : OpenFile _). g.T.TableState.sound s.table) c.self.view_is

  none : key_refusal true c.args.self.now.file c.args.tx.0 c.args.key ≡ None
  none = sym c.in_ok-allow_change.ensures

  stood : IsTrue (g.T.TableState.sound c.args.self.now.table) → c.in_ok-seen.seen ≡ maps.get (records_of c.args.self.now.file) c.args.key
  stood sound =
      let here = sound_is ∙ sound in
      c.in_ok-seen.ensures.value here ∙ ap (λ m. maps.get m c.args.key) (c.self.invariant.fits here).replayed ∙ ap (λ (f : File). maps.get (records_of f) c.args.key) link

  not_full : IsTrue (g.T.TableState.sound c.args.self.now.table) → is_full c.args.self.now.file c.args.key ≡ false
  not_full sound =
      let told = c.is_full_if_absent-full.ensures.full sound in
      let found = ap (λ o. is_some o) (stood sound) in
      elim c.else-full.branch [
        | else-full-via-then-full+else-is_none w ↦ stands_not_full _ _ (maps.get (records_of c.args.self.now.file) c.args.key) told (sym found ∙ w.is_none.ensures ∙ ap not w.if-is_none.false)
        | else-full-via-else-full w ↦ told ∙ ap (λ b. b && is_none (maps.get (records_of c.args.self.now.file) c.args.key)) w.if-full.false
      ]

pub accept_claim-lsn-requires-clause-fits : goal.accept_claim-lsn-requires-clause-fits
accept_claim-lsn-requires-clause-fits g c =
    let place = (goal.at.accept_claim-lsn-requires-clause-fits g c).After-reserve in
    let none_here = ap (λ (f : File). key_refusal true f c.args.tx.0 c.args.key) (link g place) ∙ none g place in
    subst (λ (s : LogState). use_in s + 2 ≤ s.limits.log_records) (sym c.in_ok-reserve.ensures.ok) (change_fits (file_of c.self.inside.log (g.T.TableState.contents c.self.inside.table)) c.args.tx.0 c.args.key none_here)

pub invariant_of-self-2 : goal.invariant_of-self-2
invariant_of-self-2 g c =
    let place = (goal.at.invariant_of-self-2 g c).After-reserve in
    change_kept _ _ _ c.self.inside.log c.self.invariant c.in_ok-reserve.ensures.kept
    _ _ _ c.reserve.new.self c.accept_claim-lsn.new.self c.args.tx c.args.key c.in_ok-seen.seen c.copied-told.result _
    c.in_ok-seen.ensures.answered.soundness c.in_ok-seen.ensures.answered.limit c.in_ok-reserve.ensures.ok (λ _. c.in_ok-seen.ensures.same) c.in_ok-seen.ensures.value
    (c.copied-told.ensures ∙ c.as_ref.ensures.value) c.accept_claim-lsn.ensures.after
    (λ sound. room_now c.self.inside.log (g.T.TableState.contents c.self.inside.table) c.args.key (c.self.invariant.fits sound)
    (sym (not_full g place (sym (sound_is g place) ∙ sound)) ∙ ap (λ (f : File). is_full f c.args.key) (sym (link g place))))

pub returns : goal.returns
returns g c =
    let place = (goal.at.returns g c).After-reserve in
    let F = file_of c.accept_claim-lsn.new.self (g.T.TableState.contents c.get.new.self) in
    claim_made g.T.TableState _ _ c.args.tx c.args.key _
    (λ sound lt.
    let here = sound_is g place ∙ sound in
    let counts = c.in_ok-seen.ensures.answered.device ∙ ap (λ (s : OpenFile _). g.T.TableState.device_failures s.table) c.self.view_is in (
      none g place,
      rose_same (g.T.TableState.device_failures c.args.self.now.table) (g.T.TableState.device_failures c.get.new.self) counts,
      not_full g place sound,
      stood g place sound,
      change_file _ _ _ c.self.inside.log c.self.invariant c.in_ok-reserve.ensures.kept (g.T.TableState.contents c.get.new.self) c.reserve.new.self c.accept_claim-lsn.new.self c.args.tx c.args.key c.in_ok-seen.seen c.copied-told.result _ c.in_ok-reserve.ensures.ok c.in_ok-seen.ensures.same (c.in_ok-seen.ensures.value here) (c.copied-told.ensures ∙ c.as_ref.ensures.value) c.accept_claim-lsn.ensures.after
          ∙ ap (λ (f : File). with_change f c.args.tx.0 c.args.key None) (link g place),
    ))
    (free_of _ _ (none g place))
    tt
    (subst (λ (o : Option (List ℕ)). Accepts c.args.self.now.file c.args.self.now.log (key_change c.args.tx c.args.key o None) F c.accept_claim-lsn.new.self.records) (c.copied-told.ensures ∙ c.as_ref.ensures.value)
    (subst (λ (l : List LogRecord). Accepts c.args.self.now.file l (key_change c.args.tx c.args.key c.copied-told.result None) F c.accept_claim-lsn.new.self.records) (ap (λ (s : OpenFile _). s.log) c.self.view_is)
    (subst (λ (f : File). Accepts f c.self.inside.log.records (key_change c.args.tx c.args.key c.copied-told.result None) F c.accept_claim-lsn.new.self.records) (link g place)
    (change_accepted _ _ _ c.self.inside.log c.self.invariant c.in_ok-reserve.ensures.kept (g.T.TableState.contents c.get.new.self) c.reserve.new.self c.accept_claim-lsn.new.self c.args.tx c.args.key c.copied-told.result None c.in_ok-reserve.ensures.ok c.accept_claim-lsn.ensures.after))))
    tt
    (changes_set g.T.TableState _ _ _ _ _ c.self.view_is c.in_ok-seen.ensures.answered
    (ap (λ (s : LogState). s.records) c.accept_claim-lsn.ensures.after ∙ ap (λ (s : LogState). s.records ++ update_in s c.args.tx c.args.key c.copied-told.result None ∷ []) c.in_ok-reserve.ensures.ok)
    (λ _. c.in_ok-seen.ensures.same)
    (λ here. ap (λ (f : File). f.opening) (change_file _ _ _ c.self.inside.log c.self.invariant c.in_ok-reserve.ensures.kept (g.T.TableState.contents c.get.new.self) c.reserve.new.self c.accept_claim-lsn.new.self c.args.tx c.args.key c.in_ok-seen.seen c.copied-told.result _ c.in_ok-reserve.ensures.ok c.in_ok-seen.ensures.same (c.in_ok-seen.ensures.value here) (c.copied-told.ensures ∙ c.as_ref.ensures.value) c.accept_claim-lsn.ensures.after)))
    (search rules) (search rules) (search rules) (search rules)

-- the file alone refuses it
pub returns-in_err-allow_change : goal.returns-in_err-allow_change
returns-in_err-allow_change g c =
    let told = err_from_is_err_and c.from_residual.result c.from_residual.ensures.1 in
    rw told.1 (claim_refused g.T.TableState c.args.self.now c.args.tx c.args.key told.0 (sym c.in_err-allow_change.ensures ∙ ap (λ (r : Refusal). Some r) (sym told.2)))

-- a look failed
pub returns-in_err-seen : goal.returns-in_err-seen
returns-in_err-seen g c =
    claim_made g.T.TableState _ _ c.args.tx c.args.key _
    (search rules) (search rules) (search rules) (search rules) (search rules) (search rules) (search rules) (search rules) (search rules) (search rules)

-- the log has no room
pub returns-in_err-reserve : goal.returns-in_err-reserve
returns-in_err-reserve g c =
    claim_made g.T.TableState _ _ c.args.tx c.args.key _
    (search rules) (search rules) (search rules) (search rules) (search rules) (search rules) (search rules) (search rules) (search rules) (search rules)
