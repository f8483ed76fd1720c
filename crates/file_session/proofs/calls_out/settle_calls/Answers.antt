use Rattle.std.proofs.Common.{IfErr, OnOk, Result, refl, sym, subst, ◌∙◌}
use Rattle.file_session.specs.Beside.{IsSettlingFault, LeavesFiles}
use Rattle.file_session.specs.CallsOut.{LastsAlone, StandsWithLog}
use Rattle.file_session.specs.LogOver.{Finds}
use Rattle.file_session.specs.declared.file_fault.FileFault.{FileFault}
use Rattle.file_session.proofs.CallsOutLemmas.{alone_out, fronts_out}
use Rattle.file_session.proofs.calls_out.settle_calls.Goals as goal

pub returns-clause-fronts : goal.returns-clause-fronts
returns-clause-fronts c order records finds =
    fronts_out c.settle-disk.result.0 c.out_of.result.disk c.out_of.ensures.told (Finds order records) (c.settle-disk.ensures.kept refl order records finds)

pub returns-clause-lasts : goal.returns-clause-lasts
returns-clause-lasts c order records finds =
    subst (λ (r : Result (Unit {0}) FileFault). OnOk r (LastsAlone order records c.out_of.result.disk)) (sym c.out_of.ensures.done)
    (alone_out c.settle-disk.result.0 c.out_of.result.disk c.out_of.ensures.told order records c.settle-disk.result.1 (c.settle-disk.ensures.settled refl order records finds))

pub returns-clause-found : goal.returns-clause-found
returns-clause-found c (order, records, finds) =
    subst (λ (r : Result (Unit {0}) FileFault). IfErr r IsSettlingFault) (sym c.out_of.ensures.done) (c.settle-disk.ensures.found refl order records finds)

pub returns-clause-unfound : goal.returns-clause-unfound
returns-clause-unfound c none =
    fronts_out c.settle-disk.result.0 c.out_of.result.disk c.out_of.ensures.told (StandsWithLog c.args.disk.first) (c.settle-disk.ensures.unfound refl none)

pub returns-clause-bad_commits : goal.returns-clause-bad_commits
returns-clause-bad_commits c is =
    fronts_out c.settle-disk.result.0 c.out_of.result.disk c.out_of.ensures.told (LeavesFiles c.args.disk.first)
    (c.settle-disk.ensures.bad_commits refl (sym c.out_of.ensures.done ∙ is))
