use Rattle.std.proofs.Common.{◌∙◌, Result, sym, ap}
use Rattle.rec_types.specs.Table.{counted}
use Rattle.file_session.specs.FileFaults.{is_device_answer}
use Rattle.file_session.specs.declared.file_fault.FileFault.{FileFault}
use Rattle.file_session.proofs.ClosingCountLemmas.{device_of_store}
use Rattle.file_session.proofs.settling.end_beside.Goals as goal

pub returns-clause-failures : goal.returns-clause-failures
returns-clause-failures g c =
    let before = g.D.DiskState.failures c.args.disk in
    c.end_log-done.ensures.counted.failures
    ∙ ap (counted before) (device_of_store c.end_log-done.result)
    ∙ ap (λ (r : Result (Unit {0}) FileFault). counted before (is_device_answer r)) (sym c.told.ensures)
