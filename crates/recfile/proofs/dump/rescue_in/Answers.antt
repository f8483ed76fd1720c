use Rattle.std.proofs.Common.{ℕ, List, None, ap, ◌∙◌}
use Rattle.command_text.specs.Dump.{dump_text}
use Rattle.recfile.proofs.SavedLemmas.{written}
use Rattle.recfile.proofs.dump.rescue_in.Goals as goal

pub returns-clause-saved : goal.returns-clause-saved
returns-clause-saved g c steady =
    written None c.write_script.result _ _ c.deref.result.now
    (λ text is. (c.in_ok-rescued.rescued, c.in_ok-rescued.ensures.saved steady, is ∙ ap (λ (r : List (List ℕ × List ℕ)). dump_text r) c.deref.ensures.value))
    c.write_script.ensures.dumped c.write_script.ensures.stops c.write_script.ensures.silent
