use Rattle.std.proofs.Common.{◌≡◌, rules, ap, ◌∙◌}
use Rattle.std.specs.List.{All}
use Rattle.command_text.specs.Dump.{dump_text, CanBePut}
use Rattle.command_text.specs.Script.{commands_of}
use Rattle.command_text.proofs.DumpLemmas.{dump_said}
use Rattle.command_text.proofs.dump.write_dump.Goals as goal

pub returns-clause-said : goal.returns-clause-said
returns-clause-said c =
    let puts : All CanBePut c.args.records.now = search rules in
    let text : c.into_bytes.result.items ≡ dump_text c.args.records.now = search rules in
    ap commands_of text ∙ dump_said c.args.records.now puts
