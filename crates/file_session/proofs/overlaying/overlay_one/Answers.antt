use Rattle.std.proofs.Common.{◌∙◌, Ok, IfErr, Result, sym, ap, subst}
use Rattle.std.proofs.lemmas.Result.{err_from_is_err_and}
use Rattle.rec_types.specs.Table.{counted}
use Rattle.file_session.specs.Beside.{IsOverlayFault}
use Rattle.file_session.specs.FileFaults.{fault_of_overlay, is_file_device, is_device_overlay}
use Rattle.file_session.specs.Overlaid.{IsLogCommand}
use Rattle.file_session.specs.declared.overlaying.OverlayFault.{OverlayFault}
use Rattle.file_session.proofs.OverlayFaultLemmas.{overlay_counts, overlay_fault}
use Rattle.file_session.proofs.overlaying.overlay_one.Goals as goal

pub returns-in_err-set-in-Put-clause-refused : goal.returns-in_err-set-in-Put-clause-refused
returns-in_err-set-in-Put-clause-refused g c sound =
    let p = err_from_is_err_and c.from_residual.result c.from_residual.ensures.1 in
    let Logged = IsLogCommand (Ok c.args.command.now) in
    subst (λ (r : Result (Unit {0}) OverlayFault). IfErr r (IsOverlayFault Logged)) (sym p.1) (subst (IsOverlayFault Logged) (sym p.2) (overlay_fault Logged c.in_err-set-in-Put.field-0.0 (c.in_err-set-in-Put.ensures.answered.whole sound)))

pub returns-in_err-set-in-Del-clause-refused : goal.returns-in_err-set-in-Del-clause-refused
returns-in_err-set-in-Del-clause-refused g c sound =
    let p = err_from_is_err_and c.from_residual-in_err-set-in-Del.result c.from_residual-in_err-set-in-Del.ensures.1 in
    let Logged = IsLogCommand (Ok c.args.command.now) in
    subst (λ (r : Result (Unit {0}) OverlayFault). IfErr r (IsOverlayFault Logged)) (sym p.1) (subst (IsOverlayFault Logged) (sym p.2) (overlay_fault Logged c.in_err-set-in-Del.field-0.0 (c.in_err-set-in-Del.ensures.answered.whole sound)))

pub returns-in_err-set-in-Put-clause-failures : goal.returns-in_err-set-in-Put-clause-failures
returns-in_err-set-in-Put-clause-failures g c =
    let p = err_from_is_err_and c.from_residual.result c.from_residual.ensures.1 in
    overlay_counts g.T.TableState c.args.table.now c.set.new.self c.in_err-set-in-Put.field-0.0 c.in_err-set-in-Put.ensures.answered
    ∙ ap (λ (f : OverlayFault). counted (g.T.TableState.device_failures c.args.table.now) (is_file_device (fault_of_overlay f))) (sym p.2)
    ∙ ap (λ (r : Result (Unit {0}) OverlayFault). counted (g.T.TableState.device_failures c.args.table.now) (is_device_overlay r)) (sym p.1)

pub returns-in_err-set-in-Del-clause-failures : goal.returns-in_err-set-in-Del-clause-failures
returns-in_err-set-in-Del-clause-failures g c =
    let p = err_from_is_err_and c.from_residual-in_err-set-in-Del.result c.from_residual-in_err-set-in-Del.ensures.1 in
    overlay_counts g.T.TableState c.args.table.now c.set-in-Del.new.self c.in_err-set-in-Del.field-0.0 c.in_err-set-in-Del.ensures.answered
    ∙ ap (λ (f : OverlayFault). counted (g.T.TableState.device_failures c.args.table.now) (is_file_device (fault_of_overlay f))) (sym p.2)
    ∙ ap (λ (r : Result (Unit {0}) OverlayFault). counted (g.T.TableState.device_failures c.args.table.now) (is_device_overlay r)) (sym p.1)
