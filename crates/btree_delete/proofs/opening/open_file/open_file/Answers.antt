use Rattle.std.proofs.Common.{rules, ◌≡◌, ℕ, ◌≤◌, List, length, IsTrue, ap, sym, ◌∙◌, subst, arith, refl}
use Rattle.std.specs.BTreeSet.{contains}
use Rattle.std.specs.BTreeMap.{is_at}
use Rattle.std.specs.List.{list_any}
use Rattle.std.specs.Ordering.{nat_cmp}
use Rattle.page_store.specs.PageMap.{PageMap, at}
use Rattle.page_store.specs.PagesView.{PagesView}
use Rattle.btree_node.specs.Lists.{Element}
use Rattle.btree_node.specs.declared.header.Header.{Header}
use Rattle.btree_insert.specs.declared.tree.Tree.{Tree}
use Rattle.btree_delete.specs.CleanFile.{in_file, HasTree, IsCleanFile, FailsTree}
use Rattle.btree_delete.proofs.ClosedFileLemmas.{file_map, opened, fails_first, the_header, tree_there}
use Rattle.btree_insert.specs.Spelt.{AreSpeltIn}
use Rattle.btree_delete.specs.Survey.{stored_page, AreFresh}
use Rattle.btree_delete.proofs.FreedPageLemmas.{spelt_left}
use Rattle.btree_delete.proofs.opening.open_file.open_file.Given as given
use Rattle.btree_delete.proofs.opening.open_file.open_file.Goals as goal
use Rattle.btree_delete.proofs.opening.open_file.open_file.Goals.{After-records}

-- the pages that are measured are those of the file
module _ (g : given.Over) (c : After-records g) where
  abbrev stored : List (List ℕ)
  stored = g.S.StoreState.pages c.args.store

  map_is : at c.new-pages.result.pages ≡ in_file stored
  map_is = file_map stored (g.S.StoreState.pages c.check_file.new.store) c.new-pages.result.pages c.in-Ok.header.pages (contains nat_cmp c.new.result) c.check_file.ensures.asks.stays.pages c.in-Ok.ensures.long.0 c.new-pages.ensures.count c.new-pages.ensures.pages
      (λ n. ap (λ (keys : List ℕ). list_any (is_at (nat_cmp n)) keys) c.new.ensures.empty)

  stored_is : c.new-pages.result.stored ≡ stored
  stored_is = ap (λ (v : PagesView). v.stored) c.new-pages.ensures.store ∙ c.check_file.ensures.asks.stays.pages

  fresh : AreFresh c.new-pages.result
  fresh = record {
    whole = c.new-pages.ensures.count ∙ c.in-Ok.ensures.long.0 ∙ ap (λ (xs : List (List ℕ)). length xs) (sym stored_is);
    same = λ n. ap (λ (f : PageMap). f n) map_is ∙ ap (λ (xs : List (List ℕ)). in_file xs n) (sym stored_is);
    none = c.new-pages.ensures.in_memory;
  }

  stays_steady : IsTrue (g.S.StoreState.steady c.args.store) → IsTrue c.new-pages.result.steady
  stays_steady steady = ap (λ (v : PagesView). v.steady) c.new-pages.ensures.store ∙ c.check_file.ensures.asks.stays.steady ∙ steady

  -- a clean file's tree stands in them, and is as large as the header says
  clean_tree : IsTrue (g.S.StoreState.steady c.args.store) → (h : Header) (tree : Tree) (es : List Element) (us : List ℕ) → IsCleanFile stored (g.S.StoreState.tail c.args.store) h tree es us → h.count ≤ c.args.limits.records
      → HasTree (at c.new-pages.result.pages) c.in-Ok.header tree es us × (tree.count ≡ c.in-Ok.header.count) × (c.in-Ok.header.count ≤ c.records.result)
  clean_tree steady h tree es us clean few =
      let header_is = the_header c.in-Ok.header h (c.in-Ok.ensures.only steady h clean.begins) in
      let same = ap (λ (x : Header). x.count) header_is in
      (tree_there stored (at c.new-pages.result.pages) h c.in-Ok.header tree es us map_is header_is clean.there, clean.count ∙ sym same, omega (arith, few, same, c.records.ensures.value))

pub returns-in-Err-clause-fault : goal.returns-in-Err-clause-fault
returns-in-Err-clause-fault g c = λ steady. c.in-Err.ensures.fault steady c.args.limits.records

pub measure_file-requires-clause-fresh : goal.measure_file-requires-clause-fresh
measure_file-requires-clause-fresh g c = fresh g (goal.at.measure_file-requires-clause-fresh g c).After-records

pub without_free-requires-clause-same : goal.without_free-requires-clause-same
without_free-requires-clause-same g c = λ other n.
    let reads = c.measure_file.ensures.surveys.same other in
    ap (λ (v : PagesView). at v.pages n) reads ∙ (fresh g (goal.at.without_free-requires-clause-same g c).After-records).same n ∙ sym (ap (λ (v : PagesView). stored_page v n) reads)

pub returns-in_ok-without_free-in-Ok-measure_file-clause-found : goal.returns-in_ok-without_free-in-Ok-measure_file-clause-found
returns-in_ok-without_free-in-Ok-measure_file-clause-found g c = λ steady.
    let place = (goal.at.returns-in_ok-without_free-in-Ok-measure_file-clause-found g c).After-records in
    let rest = c.in_ok-without_free-in-Ok-measure_file.ensures in
    let kept = ap (λ (v : PagesView). v.stored) c.measure_file.ensures.surveys.store ∙ stored_is g place in
    opened (stored g place) (g.S.StoreState.tail c.args.store) c.args.limits.records c.in-Ok.header c.new-pages.result.pages c.measure_file.new.pages c.in_ok-without_free-in-Ok-measure_file.field-0 c.in-Ok-measure_file.tree (contains nat_cmp c.in-Ok-measure_file.free) (g.S.StoreState.reads c.args.store) c.new-pages.result.reads c.measure_file.new.pages.reads
    (c.in-Ok.ensures.found steady) (map_is g place) (c.new-pages.ensures.count ∙ c.in-Ok.ensures.long.0) c.in-Ok.ensures.order.1 (c.in-Ok-measure_file.ensures.found (stays_steady g place steady)) (c.in-Ok-measure_file.ensures.count.0, omega (arith, c.in-Ok-measure_file.ensures.count.1, c.records.ensures.value))
    kept (ap (λ (v : PagesView). v.stored) rest.freed.rest ∙ kept) (c.in-Ok-measure_file.ensures.left.respelt (stays_steady g place steady)) rest.freed.pages c.without_free.ensures.header
    (rest.freed.count ∙ c.in-Ok-measure_file.ensures.left.whole ∙ ap (λ (xs : List (List ℕ)). length xs) kept) rest.changed
    (ap (λ (v : PagesView). v.reads) c.new-pages.ensures.store ∙ c.in-Ok.ensures.reads refl) (ap (λ (v : PagesView). v.reads) rest.freed.rest)

pub returns-in_ok-without_free-in-Ok-measure_file-clause-exact : goal.returns-in_ok-without_free-in-Ok-measure_file-clause-exact
returns-in_ok-without_free-in-Ok-measure_file-clause-exact g c = λ steady h tree es us clean few.
    let place = (goal.at.returns-in_ok-without_free-in-Ok-measure_file-clause-exact g c).After-records in
    let (there, count, low) = clean_tree g place steady h tree es us clean few in
    c.in-Ok-measure_file.ensures.exact (stays_steady g place steady) tree es us there count low

pub returns-in_ok-without_free-in-Ok-measure_file-clause-spelt : goal.returns-in_ok-without_free-in-Ok-measure_file-clause-spelt
returns-in_ok-without_free-in-Ok-measure_file-clause-spelt g c =
    let rest = c.in_ok-without_free-in-Ok-measure_file.ensures in
    subst (λ (k : ℕ). AreSpeltIn k c.in_ok-without_free-in-Ok-measure_file.field-0) (sym c.in-Ok-measure_file.ensures.small.0)
    (spelt_left c.in-Ok.header.order c.measure_file.new.pages c.in_ok-without_free-in-Ok-measure_file.field-0 (contains nat_cmp c.in-Ok-measure_file.free) rest.freed.in_memory rest.freed.pages c.in-Ok-measure_file.ensures.left.spelt)

pub returns-in-Err-measure_file-clause-exact : goal.returns-in-Err-measure_file-clause-exact
returns-in-Err-measure_file-clause-exact g c = λ steady h tree es us clean few.
    let place = (goal.at.returns-in-Err-measure_file-clause-exact g c).After-records in
    let (there, count, low) = clean_tree g place steady h tree es us clean few in
    c.in-Err-measure_file.ensures.exact (stays_steady g place steady) tree es us there count low

pub returns-in-Err-measure_file-clause-fault : goal.returns-in-Err-measure_file-clause-fault
returns-in-Err-measure_file-clause-fault g c = λ steady.
    let place = (goal.at.returns-in-Err-measure_file-clause-fault g c).After-records in
    let fails = c.in-Err-measure_file.ensures.fault (stays_steady g place steady) in
    fails_first (stored g place) (g.S.StoreState.tail c.args.store) c.args.limits.records c.in-Ok.header c.in-Err-measure_file.fault (c.in-Ok.ensures.found steady)
    (subst (λ (limit : ℕ). FailsTree (in_file (stored g place)) c.in-Ok.header limit c.in-Err-measure_file.fault) c.records.ensures.value (subst (λ (f : PageMap). FailsTree f c.in-Ok.header c.records.result c.in-Err-measure_file.fault) (map_is g place) fails))

pub returns-in_ok-without_free-in-Ok-measure_file-clause-no_tail : goal.returns-in_ok-without_free-in-Ok-measure_file-clause-no_tail
returns-in_ok-without_free-in-Ok-measure_file-clause-no_tail g c =
    ap (λ (v : PagesView). v.tail) c.in_ok-without_free-in-Ok-measure_file.ensures.freed.rest ∙ ap (λ (v : PagesView). v.tail) c.measure_file.ensures.surveys.store ∙ ap (λ (v : PagesView). v.tail) c.new-pages.ensures.store ∙ c.check_file.ensures.asks.stays.tail ∙ c.in-Ok.ensures.long.1.no_tail

pub returns-in_ok-without_free-in-Ok-measure_file-clause-over : goal.returns-in_ok-without_free-in-Ok-measure_file-clause-over
returns-in_ok-without_free-in-Ok-measure_file-clause-over g c = record {
  stored = search rules;
  tail = search rules;
  steady = search rules;
  opening = search rules;
  shapes = search rules;
  writes = search rules;
  failures = search rules;
  journal = search rules;
  guard = search rules;
}

pub returns-in-Err-clause-back : goal.returns-in-Err-clause-back
returns-in-Err-clause-back g c = record {
  stays = search rules;
  shapes = search rules;
  failures = search rules;
}

pub returns-in-Err-measure_file-clause-back : goal.returns-in-Err-measure_file-clause-back
returns-in-Err-measure_file-clause-back g c = record {
  stays = search rules;
  shapes = search rules;
  failures = search rules;
}
