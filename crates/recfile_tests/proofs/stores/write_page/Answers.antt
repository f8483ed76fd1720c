use Rattle.std.proofs.Common.{ℕ, List, [], ◌∷◌, ◌++◌, IsSome, length, sym, ap, subst, ◌∙◌, arith}
use Rattle.page_store.specs.PagesView.{PagesView}
use Rattle.page_store.specs.PageMap.{at}
use Rattle.recfile_tests.proofs.Fetched.{in_use_where_fetched}
use Rattle.recfile_tests.proofs.OnePage.{can_write}
use Rattle.recfile_tests.proofs.stores.write_page.Goals as goal

pub staged-requires : goal.staged-requires
staged-requires g c =
    let used : IsSome (at c.args.pages.now.pages c.args.n) = in_use_where_fetched c.fetch.result (at c.args.pages.now.pages c.args.n) (cc) c.fetch.ensures.out_of_range in
    let stays = ap (λ (v : PagesView). v.pages) c.fetch.ensures.unchanged in
    let size = ap (λ (v : PagesView). length v.pages) c.fetch.ensures.unchanged in
    can_write _ c.args.n c.filled-2.result _ _ (subst (λ pages. IsSome (at pages c.args.n)) (sym stays) used) (omega arith) (c.in_ok-push.ensures.items ∙ ap (λ (xs : List (ℕ × List ℕ)). xs ++ (c.args.n, c.filled-2.result) ∷ []) c.new-writes.ensures.items) c.new.ensures.items
