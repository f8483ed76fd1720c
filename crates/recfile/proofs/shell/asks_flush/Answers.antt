use Rattle.std.proofs.Common.{[], sym, subst, ◌∙◌}
use Rattle.std.proofs.lemmas.Bool.{false≢true}
use Rattle.recfile.specs.PartLine.{IsPartOfLine, Part, no_part}
use Rattle.recfile.proofs.ShellLemmas.{part_begins}
use Rattle.recfile.proofs.shell.asks_flush.Goals as goal
use Rattle.recfile.proofs.shell.asks_flush.Goals.{then-idle, else-idle, then-keeps, else-keeps}

pub returns-else-is_new-clause-unasked : goal.returns-else-is_new-clause-unasked
returns-else-is_new-clause-unasked g c = elim c.if-keeps.branch [
  | then-keeps w ↦ λ no asks. false≢true (sym no ∙ w.value-is ∙ w.is_new.ensures.some [] (subst (λ (p : Part). IsPartOfLine p []) (sym asks.begins) part_begins))
  | else-keeps w ↦ elim c.if-idle.branch [
    | then-idle v ↦ λ no asks. false≢true (sym w.if-keeps.false ∙ v.value-is ∙ v.keeps.ensures ∙ asks.kept)
    | else-idle v ↦ λ no asks. v.if-idle.false (c.open_count-idle.ensures ∙ asks.none)
  ]
]
