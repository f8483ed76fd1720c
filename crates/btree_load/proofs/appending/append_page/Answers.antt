use Rattle.std.proofs.Common.{◌+◌, ℕ, List, take, ap, ◌∙◌, arith}
use Rattle.std.proofs.lemmas.List.{take_more_set}
use Rattle.btree_load.proofs.appending.append_page.Goals as goal

pub returns-clause-pages : goal.returns-clause-pages
returns-clause-pages g c = λ steady.
    let old = g.S.StoreState.pages c.args.store.now in
    ap (λ (ps : List (List ℕ)). take (c.args.count.now + 1) ps) (c.in_ok-write.ensures.page steady)
    ∙ take_more_set old c.args.count.now c.args.page.now (omega (arith, c.requires.room))
