use Rattle.std.proofs.Common.{ℕ, List, Bor, option_map, sym, ap, ◌∙◌, codes}
use Rattle.clap.specs.Matches.{found_of}
use Rattle.clap.proofs.WalkLemmas.{first_value-rows}
use Rattle.recfile.proofs.words.shell_of.Goals as goal

pub returns-in-Some : goal.returns-in-Some
returns-in-Some c =
    let first = sym (first_value-rows (found_of c.args.found.now) (codes "FILE")) ∙ sym c.get_str.ensures ∙ ap (option_map (λ (s : Bor (List ℕ)). s.now)) c.in-Some.is in
    (c.in_ok-limits.ensures, c.manner_of-manner.ensures, c.is_set.ensures, first)

pub returns-in-None : goal.returns-in-None
returns-in-None c =
    let first = sym (first_value-rows (found_of c.args.found.now) (codes "FILE")) ∙ sym c.get_str.ensures ∙ ap (option_map (λ (s : Bor (List ℕ)). s.now)) c.in-None.is in
    (c.in_ok-limits.ensures, c.manner_of-manner.ensures, first)
