use Rattle.std.proofs.Common.{◌≡◌, rules, ap, ◌∙◌, arith}
use Rattle.std.specs.List.{All}
use Rattle.commit_paper.specs.Text.{unit_text}
use Rattle.command_text.specs.Script.{commands_of}
use Rattle.command_text.specs.Units.{unit_lines, CanBeWritten}
use Rattle.command_text.proofs.UnitLemmas.{unit_said, unit_is}
use Rattle.command_text.proofs.unit.write_unit.Goals as goal

pub returns-clause-unit : goal.returns-clause-unit
returns-clause-unit c =
    let can : All CanBeWritten c.args.writes.now = search rules in
    unit_is c.args.tx.0 (omega arith) c.args.writes.now can

pub returns-clause-said : goal.returns-clause-said
returns-clause-said c =
    let can : All CanBeWritten c.args.writes.now = search rules in
    let text : c.into_bytes.result.items ≡ unit_text (unit_lines c.args.tx.0 c.args.writes.now) = search rules in
    ap commands_of text ∙ unit_said c.args.tx.0 (omega arith) c.args.writes.now can
