use Rattle.std.proofs.Common.{◌≡◌, ◌++◌, ◌∙◌, sym, codes, arith}
use Rattle.std.proofs.lemmas.Grind.{common_steps}
use Rattle.std.specs.List.{flat_map}
use Rattle.std.specs.String.{string_bytes}
use Rattle.commit_paper.specs.Text.{line_text}
use Rattle.command_text.specs.Units.{write_line, commit_text}
use Rattle.command_text.proofs.UnitLemmas.{unit_text_is}
use Rattle.command_text.proofs.unit.text_of_unit.Goals as goal

pub returns-clause-text : goal.returns-clause-text
returns-clause-text c =
    let text : string_bytes c.write.new.self ≡ line_text (codes "begin") ++ (flat_map (write_line c.args.number) c.args.writes.now ++ line_text (commit_text c.args.number)) = grind (arith, common_steps) in
    text ∙ sym (unit_text_is c.args.number c.args.writes.now)
