use Rattle.std.proofs.Common.{◌≡◌, Ok, Some, rules}
use Rattle.std.specs.List.{All}
use Rattle.std.proofs.lemmas.Result.{IfErr-weaker}
use Rattle.file_session.specs.Beside.{IsOverlayFault}
use Rattle.file_session.specs.Overlaid.{IsLogCommand, line_entries}
use Rattle.file_session.proofs.OverlayFaultLemmas.{no_command, one_command, overlay_part}
use Rattle.file_session.proofs.overlaying.overlay_line.Goals as goal

pub returns-in-Ok-Some-clause-refused : goal.returns-in-Ok-Some-clause-refused
returns-in-Ok-Some-clause-refused g c sound =
    let is : c.args.said.now ≡ Ok (Some c.in-Ok-Some.command) = search rules in
    IfErr-weaker c.overlay_one.result (IsOverlayFault (IsLogCommand (Ok c.in-Ok-Some.command))) (IsOverlayFault (All IsLogCommand (line_entries c.args.said.now)))
    (λ fault. overlay_part (IsLogCommand (Ok c.in-Ok-Some.command)) (All IsLogCommand (line_entries c.args.said.now)) fault (one_command c.args.said.now c.in-Ok-Some.command is))
    (c.overlay_one.ensures.refused sound)

pub returns-in-Err-clause-refused : goal.returns-in-Err-clause-refused
returns-in-Err-clause-refused g c sound = no_command c.args.said.now c.in-Err.field-0 c.in-Err.is
