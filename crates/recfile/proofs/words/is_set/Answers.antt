use Rattle.std.proofs.Common.{◌∙◌}
use Rattle.clap.specs.Matches.{found_of}
use Rattle.clap.proofs.WalkLemmas.{one_text-rows}
use Rattle.recfile.proofs.words.is_set.Goals as goal

pub returns : goal.returns
returns c =
    let same = one_text-rows (found_of c.args.found.now) c.args.id.now in
    record { none = λ is. c.get_flag.ensures.none (same ∙ is); set = λ is. c.get_flag.ensures.value (same ∙ is); unset = λ is. c.get_flag.ensures.other (same ∙ is) }
