use Rattle.std.proofs.Common.{length, ap, sym, ◌∙◌, rules}
use Rattle.page_store.specs.Journal.{carry, carried}
use Rattle.recfile_c.specs.Steps.{JournalView, pages_after}
use Rattle.recfile_c.proofs.Journals.{carried-snoc}
use Rattle.recfile_c.proofs.journal.JournalStore.note.Goals as goal

pub invariant_of-self : goal.invariant_of-self
invariant_of-self c = (
  c.requires ∙ ap (λ (j : JournalView). length (carry (pages_after j) c.args.step)) (sym c.self.view_is)
      ∙ sym (ap length (ap (carried c.self.inside.opened.items) c.in-Ok.ensures.items ∙ carried-snoc c.self.inside.opened.items c.self.inside.steps.items c.args.step)),
  search rules,
)

pub returns-in-Ok-clause-carried : goal.returns-in-Ok-clause-carried
returns-in-Ok-clause-carried c =
    ap (carried c.self.inside.opened.items) c.in-Ok.ensures.items ∙ carried-snoc c.self.inside.opened.items c.self.inside.steps.items c.args.step
    ∙ ap (λ (j : JournalView). carry (pages_after j) c.args.step) c.self.view_is
