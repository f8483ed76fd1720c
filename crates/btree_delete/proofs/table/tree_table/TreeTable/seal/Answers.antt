use Rattle.std.proofs.Common.{◌∙◌, ◌==◌, ◌||◌, length, sym, ap, subst}
use Rattle.page_store.specs.Guards.{AllowsAll, SealsGuard}
use Rattle.page_store.specs.PagesView.{PagesView, is_in_memory}
use Rattle.btree_delete.specs.Closing.{closing}
use Rattle.btree_delete.specs.TableView.{TableView, table_of}
use Rattle.btree_delete.proofs.SealedTableLemmas.{idle_allows, seal_allows}
use Rattle.btree_delete.proofs.table.tree_table.TreeTable.seal.Goals as goal

pub returns-clause-guard : goal.returns-clause-guard
returns-clause-guard g c = λ changed tail.
    subst (λ (t : TableView). SealsGuard (λ n. n == 0 || is_in_memory t.pages n) (length t.pages.stored) t.pages.guard c.seal.result c.seal.new.self.guard) c.self.view_is
    (c.seal.ensures.guard (ap (λ (t : TableView). t.pages.tail) c.self.view_is ∙ tail))

pub returns-clause-allowed : goal.returns-clause-allowed
returns-clause-allowed g c = λ refusals unsealed tail.
    seal_allows c.args.self.now (table_of c.seal.new.self c.self.inside.tree c.self.inside.limit c.self.inside.faults c.self.inside.calls) c.seal.result refusals
    (ap (λ (v : PagesView). v.in_memory) c.seal.ensures.same ∙ ap (λ (t : TableView). t.pages.in_memory) c.self.view_is)
    (returns-clause-guard g c (sym (ap (λ (t : TableView). t.pages.changed) c.self.view_is) ∙ sym c.changed.ensures.value ∙ c.if-not-changed.false) tail)
    unsealed

pub returns-then-not-changed-clause-allowed : goal.returns-then-not-changed-clause-allowed
returns-then-not-changed-clause-allowed g c = λ refusals unsealed tail.
    subst (λ (t : TableView). AllowsAll t.pages.guard (closing t)) c.self.view_is (idle_allows (table_of c.self.inside.pages c.self.inside.tree c.self.inside.limit c.self.inside.faults c.self.inside.calls) (sym c.changed.ensures.value ∙ c.if-not-changed.true))
