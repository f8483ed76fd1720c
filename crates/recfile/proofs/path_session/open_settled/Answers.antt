use Rattle.std.proofs.Common.{◌∙◌, Result, refl, ap, subst}
use Rattle.rec_types.specs.Table.{counted}
use Rattle.file_session.specs.Settling.{PutsRight}
use Rattle.file_session.specs.declared.file_fault.FileFault.{FileFault}
use Rattle.recfile.proofs.path_session.open_settled.Goals as goal

pub returns-clause-settles : goal.returns-clause-settles
returns-clause-settles g c =
    let d = g.P.Device.DiskState in
    let right = subst (λ (r : Result (Unit {0}) FileFault). PutsRight d c.in_ok-disk.disk r c.settle-disk.result.0) c.in_ok-settled.was c.settle-disk.ensures in
    record {
      opened = c.in_ok-disk.disk;
      found = c.in_ok-disk.ensures.found;
      settled = c.settle-disk.result.0;
      right = right;
      again = c.in_ok-begin_again.ensures.again;
      unfailed = c.in_ok-begin_again.ensures.fault.failures ∙ right.failures.failures ∙ ap (counted (g.P.Device.DiskState.failures c.in_ok-disk.disk)) (right.failures.once refl) ∙ c.in_ok-disk.ensures.failures;
    }
