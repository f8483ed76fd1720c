use Rattle.std.proofs.Common.{◌∙◌, codes}
use Rattle.std.specs.contracts.prelude.U16FromStr.TheImpl as text
use Rattle.clap.specs.Matches.{found_of}
use Rattle.clap.proofs.WalkLemmas.{one_text-rows}
use Rattle.recfile.proofs.WordLemmas.{read}
use Rattle.recfile.proofs.words.order_of.Goals as goal

pub returns : goal.returns
returns c =
    let same = one_text-rows (found_of c.args.found.now) (codes "order") in
    read _ text.ghosts.from_str_gives 16 _ _ c.get_one.result _ (λ t is. c.get_one.ensures.value t (same ∙ is)) (λ t r given. given.0) c.unwrap_or.ensures (λ is. c.get_one.ensures.none (same ∙ is))
