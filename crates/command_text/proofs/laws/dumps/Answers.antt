use Rattle.std.proofs.Common.{refl}
use Rattle.percent_encoding.specs.Percent.{percent_encode_byte}
use Rattle.command_text.specs.Texts.{escaped}
use Rattle.command_text.proofs.DumpLemmas.{dump_said}
use Rattle.command_text.proofs.laws.dumps.Goals as goal

pub returns-clause-said : goal.returns-clause-said
returns-clause-said c = dump_said

pub returns-clause-one : goal.returns-clause-one
unfolding percent_encode_byte escaped
returns-clause-one c = refl
