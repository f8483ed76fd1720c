use Rattle.std.proofs.Common.{◌≡◌, ℕ, List, length, slice_set, sym, ◌∙◌, ap, subst, arith}
use Rattle.std.proofs.lemmas.List.{take_all}
use Rattle.btree_node.specs.HeaderSpelling.{header_spelling, clean_state}
use Rattle.btree_insert.proofs.ReachLemmas.{on_ok}
use Rattle.btree_load.specs.Trees.{HasRoot, IsFilled}
use Rattle.btree_load.proofs.FileLemmas.{file_filled, grown, header_for}
use Rattle.btree_load.proofs.filling.fill.Goals as goal

pub returns-clause-filled : goal.returns-clause-filled
returns-clause-filled g c = λ steady.
    let k = c.args.k in
    let records = c.args.records.now in
    let total = c.page_total.result in
    let built = c.in_ok-header.ensures in
    let root = c.in_ok-header.field-0 in
    let made = g.S.StoreState.pages c.write_tree.new.store in
    let old = g.S.StoreState.pages c.sync.new.self in
    let new = g.S.StoreState.pages c.put_header-2.new.store in
    let begun = c.put_header.ensures.fills.steady ∙ (c.set_pages.ensures.changes.steady ∙ steady) in
    let still = c.sync.ensures.changes.steady ∙ (built.fills.steady ∙ begun) in
    let all = take_all c.write_tree.new.count made (omega (arith, built.all)) in
    let has : HasRoot k old root records = subst (λ (ps : List (List ℕ)). HasRoot k ps root records) (all ∙ sym c.sync.ensures.same_pages) (built.tree begun) in
    let first = grown (g.S.StoreState.pages c.args.store.now) (g.S.StoreState.pages c.set_pages.new.self) total (omega (arith, c.requires.short, c.page_total.ensures.levels.2)) c.in_ok-set_pages.ensures.pages in
    let long : length old ≡ total = ap length c.sync.ensures.same_pages ∙ (built.long.pages ∙ (c.put_header.ensures.long.pages ∙ first)) in
    let tail = c.put_header-2.ensures.long.tail ∙ (c.sync.ensures.same_tail ∙ (built.long.tail ∙ (c.put_header.ensures.long.tail ∙ c.in_ok-set_pages.ensures.tail))) in
    on_ok c.put_header-2.result (new ≡ slice_set old 0 (header_spelling (header_for k total root (length records)) clean_state)) (IsFilled k new (g.S.StoreState.tail c.put_header-2.new.store) records)
    (λ is. file_filled k root total old new (g.S.StoreState.tail c.put_header-2.new.store) records c.requires.order c.requires.ascends c.requires.few (omega (arith, c.page_total.ensures.levels.2)) (omega (arith, c.page_total.ensures.most, c.requires.few)) long has is c.put_header-2.ensures.long.pages tail)
    (c.put_header-2.ensures.page still)
