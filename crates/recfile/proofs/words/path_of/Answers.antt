use Rattle.std.proofs.Common.{ℕ, List, Option, Bor, option_map, unwrap_or, [], sym, ap, ◌∙◌}
use Rattle.clap.specs.Matches.{found_of}
use Rattle.clap.proofs.WalkLemmas.{first_value-rows}
use Rattle.recfile.proofs.words.path_of.Goals as goal

pub returns-in-Some : goal.returns-in-Some
returns-in-Some c =
    let first = sym (first_value-rows (found_of c.args.found.now) c.args.id.now) ∙ sym c.get_str.ensures ∙ ap (option_map (λ (s : Bor (List ℕ)). s.now)) c.in-Some.is in
    sym (ap (λ (o : Option (List ℕ)). unwrap_or o []) first)

pub returns-in-None : goal.returns-in-None
returns-in-None c =
    let first = sym (first_value-rows (found_of c.args.found.now) c.args.id.now) ∙ sym c.get_str.ensures ∙ ap (option_map (λ (s : Bor (List ℕ)). s.now)) c.in-None.is in
    sym (ap (λ (o : Option (List ℕ)). unwrap_or o []) first)
