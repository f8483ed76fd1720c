use Rattle.std.proofs.Common.{◌∙◌}
use Rattle.std.specs.contracts.prelude.U32FromStr.TheImpl as text
use Rattle.clap.specs.Matches.{found_of}
use Rattle.clap.proofs.WalkLemmas.{one_text-rows}
use Rattle.recfile.proofs.WordLemmas.{read}
use Rattle.recfile.proofs.words.number_of.Goals as goal

pub returns : goal.returns
returns c =
    let same = one_text-rows (found_of c.args.found.now) c.args.id.now in
    read _ text.ghosts.from_str_gives 32 _ _ c.get_one.result _ (λ t is. c.get_one.ensures.value t (same ∙ is)) (λ t r given. given.0) c.unwrap_or.ensures (λ is. c.get_one.ensures.none (same ∙ is))
