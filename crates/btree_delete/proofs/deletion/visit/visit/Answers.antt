use Rattle.std.proofs.Common.{◌≡◌, ℕ, List, true, ap, sym, ◌∙◌}
use Rattle.std.proofs.lemmas.Bool.{false≢true}
use Rattle.btree_insert.specs.Edits.{IsInUse}
use Rattle.btree_insert.proofs.ReachLemmas.{on_ok}
use Rattle.btree_delete.specs.Tidy.{is_visited, Visited}
use Rattle.btree_delete.proofs.deletion.visit.visit.Goals as goal

pub returns-then-was_visited-clause-exact : goal.returns-then-was_visited-clause-exact
returns-then-was_visited-clause-exact g c = λ steady node spells kind within unvisited.
    let visited : is_visited c.args.visited.now.items c.args.tree.now.page ≡ true = ap (λ (xs : List ℕ). is_visited xs c.args.tree.now.page) (sym c.as_slice.ensures.value) ∙ sym c.was_visited.ensures ∙ c.if-was_visited.true in
    absurd (false≢true (sym unvisited ∙ visited))

pub returns-clause-visited : goal.returns-clause-visited
returns-clause-visited g c =
    on_ok c.read_into.result (IsInUse c.args.pages.now.pages c.args.tree.now.page) (Visited c.args.visited.now.items c.push.new.self.items c.args.tree.now.page)
    (λ _. record {
      added = c.push.ensures.items;
      fresh = ap (λ (xs : List ℕ). is_visited xs c.args.tree.now.page) (sym c.as_slice.ensures.value) ∙ sym c.was_visited.ensures ∙ c.if-was_visited.false;
    }) c.read_into.ensures.in_use
