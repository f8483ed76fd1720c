use Rattle.std.proofs.Common.{rules, ◌≡◌, IsTrue, Ok, Err, ap, subst, refl, ◌∙◌}
use Rattle.std.proofs.lemmas.Result.{err_from_is_err_and}
use Rattle.rec_types.specs.Ordered.{all_beside}
use Rattle.rec_types.specs.Told.{TakesPart}
use Rattle.tx_log.specs.LogState.{open_in, history_in}
use Rattle.record_file.specs.Abstract.{OpenFile}
use Rattle.record_file.specs.OwnedRecords.{owned_by}
use Rattle.record_file.specs.Steps.{TellOwners, entries_beside}
use Rattle.record_file.proofs.MadeLemmas.{list_beside_made}
use Rattle.record_file.proofs.OwnedLemmas.{owned_beside, told_of, handed, part_handed}
use Rattle.record_file.proofs.OwnerLemmas.{tell_owners}
use Rattle.record_file.proofs.file.RecordFile.tell_beside.Goals as goal

-- the table gave no list
pub returns-in_err-taken-clause-told : goal.returns-in_err-taken-clause-told
returns-in_err-taken-clause-told g c =
    let p = err_from_is_err_and c.from_residual.result c.from_residual.ensures.1 in
    let some = c.in_err-taken.ensures.some in
    rw p.1 (
      Err p.0,
      list_beside_made g.T.TableState _ _ c.args.side c.args.gap.now (Err p.0)
          (search (rules, p.2)) tt (search (rules, p.2)) (search (rules, p.2)) (search (rules, p.2)) (search rules),
      (refl, (owned_by c.self.inside.log some.0, some.1.1)),
    )

pub returns-in_err-taken-clause-part : goal.returns-in_err-taken-clause-part
returns-in_err-taken-clause-part g c = λ sound.
    let p = err_from_is_err_and c.from_residual.result c.from_residual.ensures.1 in
    let log = c.self.inside.log in
    let now = g.T.TableState.contents c.self.inside.table in
    let here = ap (λ (s : OpenFile _). g.T.TableState.sound s.table) c.self.view_is ∙ sound in
    let part = part_handed (c.tell_beside.new.sink.log.now ≡ log) (λ es. g.K.EntrySink.told c.args.sink.now es c.tell_beside.new.out) (λ es fault. g.K.EntrySink.stops c.args.sink.now es fault c.tell_beside.new.out) log (all_beside c.args.side now c.args.gap.now) (c.in_err-taken.ensures.told here) in
    rw p.1 (subst (TakesPart (λ es. g.K.EntrySink.told c.args.sink.now es c.tell_beside.new.out)) (owned_beside log now c.args.side c.args.gap.now (c.self.invariant.fits here) ∙ ap (λ (s : OpenFile _). entries_beside s.file c.args.side c.args.gap.now) c.self.view_is) part)

pub returns-clause-told : goal.returns-clause-told
returns-clause-told g c =
    let log = c.self.inside.log in
    let now = g.T.TableState.contents c.self.inside.table in
    let told = told_of (g.T.TableState.sound c.self.inside.table)
    (λ es. (c.tell_beside.new.sink.log.now ≡ log) × g.K.EntrySink.told c.args.sink.now (owned_by log es) c.tell_beside.new.out) (λ es fault. (c.tell_beside.new.sink.log.now ≡ log) × g.K.EntrySink.stops c.args.sink.now (owned_by log es) fault c.tell_beside.new.out)
    (all_beside c.args.side now c.args.gap.now) c.in_ok-taken.taken c.in_ok-taken.ensures.told c.in_ok-taken.ensures.some in
    let owned = owned_by log told.0 in
    let is_open = open_in log in
    let history = history_in log in
    let all : IsTrue (g.T.TableState.sound c.args.self.now.table) → owned ≡ entries_beside c.args.self.now.file c.args.side c.args.gap.now = λ sound.
    let here = ap (λ (s : OpenFile _). g.T.TableState.sound s.table) c.self.view_is ∙ sound in
    ap (owned_by log) (told.2 here) ∙ owned_beside log now c.args.side c.args.gap.now (c.self.invariant.fits here) ∙ ap (λ (s : OpenFile _). entries_beside s.file c.args.side c.args.gap.now) c.self.view_is in (
      Ok owned,
      list_beside_made g.T.TableState _ _ c.args.side c.args.gap.now (Ok owned)
          (λ sound below. (search rules, all sound, search rules))
          (subst (λ (s : OpenFile _). TellOwners s.file owned) c.self.view_is (tell_owners is_open history told.0))
          (search rules) (search rules) (search rules) (search rules),
      handed (c.tell_beside.new.sink.log.now ≡ log) (λ es. g.K.EntrySink.told c.args.sink.now es c.tell_beside.new.out) (λ es fault. g.K.EntrySink.stops c.args.sink.now es fault c.tell_beside.new.out) log told.0 c.in_ok-taken.taken told.1,
    )
