use Rattle.std.proofs.Common.{rules, ◌≡◌, List, ℕ, Err, length, true, false, Some, ap, sym, ◌∙◌, refl, subst, arith}
use Rattle.std.proofs.lemmas.Bool.{false≢true}
use Rattle.page_store.specs.Guards.{AllowsAll}
use Rattle.page_store.specs.Journal.{noted_steps, NotesFront, writing_back}
use Rattle.page_store.specs.PagesView.{memory_pages}
use Rattle.page_store.specs.declared.step.Step.{Step}
use Rattle.btree_delete.specs.Closing.{closing, StopsAnywhere}
use Rattle.btree_delete.specs.TableView.{TableView, IsClosed, table_contents, table_of}
use Rattle.btree_delete.proofs.ClosedFileLemmas.{written_back}
use Rattle.btree_delete.proofs.CloseFrontLemmas.{closing_is, either_idle, again_idle, either_changed, again_changed}
use Rattle.btree_delete.proofs.table.tree_table.TreeTable.close.Given as given
use Rattle.btree_delete.proofs.table.tree_table.TreeTable.close.Goals as goal
use Rattle.btree_delete.proofs.table.tree_table.TreeTable.close.Goals.{After-write_back-arg-2-1, Then-not-changed}

-- the calls that write the table back, and what a front of them leaves
module _ (g : given.Over) (c : After-write_back-arg-2-1 g) where
  abbrev here : TableView
  here = table_of c.self.inside.pages c.self.inside.tree c.self.inside.limit c.self.inside.faults c.self.inside.calls

  changed : here.pages.changed ≡ true
  changed = sym c.changed.ensures.value ∙ c.if-not-changed.false

  steps : writing_back (memory_pages here.pages) (length here.pages.pages) c.write_header.result c.write_header-2.result ≡ closing here
  steps = closing_is here c.page_count.result c.write_header.result c.write_header-2.result changed c.page_count.ensures.value c.write_header.ensures c.write_header-2.ensures

  allowed_here : AllowsAll c.args.self.pages.guard (closing c.args.self) → AllowsAll here.pages.guard (writing_back (memory_pages here.pages) (length here.pages.pages) c.write_header.result c.write_header-2.result)
  allowed_here all = subst (AllowsAll here.pages.guard) (sym steps) (subst (λ (t : TableView). AllowsAll t.pages.guard (closing t)) (sym c.self.view_is) all)

  stops : StopsAnywhere (closing c.args.self)
  stops = subst (λ (t : TableView). StopsAnywhere (closing t)) c.self.view_is (record {
    fronts = λ old ks file. either_changed here old ks changed (omega (arith, c.page_count.ensures.value, c.page_count.ensures.some)) c.page_count.ensures.header file;
    again = λ old ks. again_changed here old ks changed;
  })

  never_idle : c.args.self.pages.changed ≡ false → ⊥
  never_idle idle = false≢true (sym idle ∙ sym (ap (λ (t : TableView). t.pages.changed) c.self.view_is) ∙ changed)

-- nothing was changed
module _ (g : given.Over) (c : Then-not-changed g) where
  abbrev unchanged : TableView
  unchanged = table_of c.self.inside.pages c.self.inside.tree c.self.inside.limit c.self.inside.faults c.self.inside.calls

  idle : unchanged.pages.changed ≡ false
  idle = sym c.changed.ensures.value ∙ c.if-not-changed.true

pub returns-in-Ok-clause-closed : goal.returns-in-Ok-clause-closed
returns-in-Ok-clause-closed g c = λ steady.
    let inv = c.self.invariant in
    let steady2 = ap (λ (t : TableView). t.pages.steady) c.self.view_is ∙ steady in
    let t = here g (goal.at.returns-in-Ok-clause-closed g c).After-write_back-arg-2-1 in
    let closed = written_back c.self.inside.pages c.write_back.new.self.stored c.write_back.new.self.tail c.page_count.result c.self.inside.tree (inv.holds steady2) c.in-Ok.ensures.written.count c.in-Ok.ensures.written.tail c.page_count.ensures.value c.page_count.ensures.some c.page_count.ensures.most c.page_count.ensures.header
    (c.in-Ok.ensures.written.header steady2 ∙ ap Some c.write_header-2.ensures) (c.in-Ok.ensures.written.stored steady2) inv.tree.order.0 inv.tree.order.1 inv.tree.count in
    subst (λ (t : TableView). IsClosed 2 (g.S.StoreState.pages c.into_store-in-Ok.result) (g.S.StoreState.tail c.into_store-in-Ok.result) t.tree (table_contents t)) c.self.view_is
    (subst (λ (pages : List (List ℕ)). IsClosed 2 pages (g.S.StoreState.tail c.into_store-in-Ok.result) c.self.inside.tree (table_contents t)) (sym c.into_store-in-Ok.ensures.pages)
    (subst (λ (tail : ℕ). IsClosed 2 c.write_back.new.self.stored tail c.self.inside.tree (table_contents t)) (sym c.into_store-in-Ok.ensures.tail) closed))

pub returns-in-Ok-clause-journal : goal.returns-in-Ok-clause-journal
returns-in-Ok-clause-journal g c =
    let place = (goal.at.returns-in-Ok-clause-journal g c).After-write_back-arg-2-1 in
    c.into_store-in-Ok.ensures.journal ∙ c.in-Ok.ensures.calls.journal ∙ ap (noted_steps c.self.inside.pages.journal) (steps g place) ∙ ap (λ (t : TableView). noted_steps t.pages.journal (closing t)) c.self.view_is

pub returns-in-Err-clause-journal : goal.returns-in-Err-clause-journal
returns-in-Err-clause-journal g c =
    let place = (goal.at.returns-in-Err-clause-journal g c).After-write_back-arg-2-1 in
    subst (λ (t : TableView). NotesFront (closing t) t.pages.journal c.write_back.new.self.journal) c.self.view_is
    (subst (λ (all : List Step). NotesFront all c.self.inside.pages.journal c.write_back.new.self.journal) (steps g place) c.in-Err.ensures.calls.journal_err)

-- what is closed with the calls of the table's view is closed with those of the table
pub returns-in-Ok-clause-allowed : goal.returns-in-Ok-clause-allowed
returns-in-Ok-clause-allowed g c = λ all.
    let place = (goal.at.returns-in-Ok-clause-allowed g c).After-write_back-arg-2-1 in
    c.into_store-in-Ok.ensures.guard ∙ c.in-Ok.ensures.calls.guard (allowed_here g place all) ∙ ap (λ (t : TableView). t.pages.guard) c.self.view_is

pub returns-in-Err-clause-allowed : goal.returns-in-Err-clause-allowed
returns-in-Err-clause-allowed g c = λ all.
    let place = (goal.at.returns-in-Err-clause-allowed g c).After-write_back-arg-2-1 in
    c.in-Err.ensures.calls.guard (allowed_here g place all) ∙ ap (λ (t : TableView). t.pages.guard) c.self.view_is

pub returns-in-Ok-clause-stops : goal.returns-in-Ok-clause-stops
returns-in-Ok-clause-stops g c = stops g (goal.at.returns-in-Ok-clause-stops g c).After-write_back-arg-2-1

pub returns-in-Ok-clause-idle : goal.returns-in-Ok-clause-idle
returns-in-Ok-clause-idle g c = λ idle. absurd (never_idle g (goal.at.returns-in-Ok-clause-idle g c).After-write_back-arg-2-1 idle)

pub returns-in-Err-clause-stops : goal.returns-in-Err-clause-stops
returns-in-Err-clause-stops g c = stops g (goal.at.returns-in-Err-clause-stops g c).After-write_back-arg-2-1

pub returns-in-Err-clause-idle : goal.returns-in-Err-clause-idle
returns-in-Err-clause-idle g c = λ idle. absurd (never_idle g (goal.at.returns-in-Err-clause-idle g c).After-write_back-arg-2-1 idle)

pub returns-then-not-changed-clause-stops : goal.returns-then-not-changed-clause-stops
returns-then-not-changed-clause-stops g c =
    let place = (goal.at.returns-then-not-changed-clause-stops g c).Then-not-changed in
    subst (λ (t : TableView). StopsAnywhere (closing t)) c.self.view_is (record {
      fronts = λ old ks file. either_idle (unchanged g place) old ks (idle g place);
      again = λ old ks. again_idle (unchanged g place) old ks (idle g place);
    })

pub returns-then-not-changed-clause-idle : goal.returns-then-not-changed-clause-idle
returns-then-not-changed-clause-idle g c = λ _. (
  record {
    pages = search rules;
    tail = search rules;
    steady = search rules;
    opening = search rules;
    reads = search rules;
    shapes = search rules;
    writes = search rules;
    failures = search rules;
    journal = search rules;
    guard = search rules;
  },
  refl,
)

pub returns-then-not-changed-clause-store : goal.returns-then-not-changed-clause-store
returns-then-not-changed-clause-store g c = record {
  steady = search rules;
  opening = search rules;
  reads = search rules;
  shapes = search rules;
  failures = search rules;
}

pub returns-in-Ok-clause-store : goal.returns-in-Ok-clause-store
returns-in-Ok-clause-store g c = record {
  steady = search rules;
  opening = search rules;
  reads = search rules;
  shapes = search rules;
  failures = search rules;
}

pub returns-in-Err-clause-fault : goal.returns-in-Err-clause-fault
returns-in-Err-clause-fault g c = record {
  device = search rules;
  memory = λ is. (c.in-Err.ensures.memory (ap Err is)).journal ∙ ap (λ (t : TableView). t.pages.journal) c.self.view_is;
  table = search rules;
}
