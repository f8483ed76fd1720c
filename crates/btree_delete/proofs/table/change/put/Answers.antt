use Rattle.std.proofs.Common.{◌≡◌, ℕ, ◌<◌, ◌≤◌, List, Option, Some, None, Result, MatchResult, length, ap, sym, ◌∙◌, subst, arith}
use Rattle.rec_types.specs.declared.table.TableFault.{TableFault}
use Rattle.page_store.specs.PageMap.{at}
use Rattle.page_store.specs.PagesView.{PagesView}
use Rattle.btree_insert.specs.declared.tree.Tree.{Tree}
use Rattle.btree_insert.specs.Contents.{lookup_in}
use Rattle.btree_delete.specs.TableView.{Fills}
use Rattle.btree_delete.specs.TableAnswers.{IsSet, MayRefuse}
use Rattle.btree_delete.proofs.TableAnswerLemmas.{put_answer}
use Rattle.btree_delete.proofs.table.change.put.Goals as goal

pub returns-clause-set : goal.returns-clause-set
returns-clause-set g c = λ steady es us fills few.
    let T = c.args.tree.now in
    let P = c.is_full_for.new.pages.pages in
    let Q = c.insert_in_place.new.pages.pages in
    let same = c.is_full_for.ensures.unchanged in
    let pages_is = ap (λ (v : PagesView). v.pages) same in
    let long = ap length pages_is in
    let there = subst (λ (ps : List (Option (List ℕ))). Fills ps T es us) (sym pages_is) fills in
    let full = c.in_ok-is_full_for.ensures.full steady es us fills.holds in
    let room : lookup_in c.args.key es ≡ None → T.count < c.args.limit = λ none.
    let low : c.args.limit ≤ T.count → ⊥ = λ high. absurd (let yes_is = sym (full.1 (none, high)) ∙ c.if-branch.false in cc) in
    omega (arith, low) in
    let count = c.page_count-count.ensures in
    subst (λ (r : Result (Tree × Option (List ℕ)) TableFault). MatchResult r (λ x. IsSet Q x.0 c.args.limit es c.args.key (Some c.args.value) x.1) (MayRefuse c.args.limit T.count es c.args.key (Some c.args.value))) (sym c.told.ensures)
    (put_answer P Q T es us c.args.key c.args.value c.args.limit c.insert_in_place.result c.requires.tree.0.order.0 (omega (arith, long, count.value, count.some)) (omega (arith, long, count.value, count.most)) (ap (λ (ps : List (Option (List ℕ))). at ps 0) pages_is ∙ count.header) c.requires.limit
    there few room (c.insert_in_place.ensures.inserted (ap (λ (v : PagesView). v.steady) same ∙ steady) es us there.holds))
