use Rattle.std.proofs.Common.{List, [], arith}
use Rattle.page_store.specs.PageMap.{at}
use Rattle.btree_node.specs.Lists.{Element}
use Rattle.btree_insert.specs.Bounds.{unbounded}
use Rattle.btree_insert.specs.PageTrees.{Spells, TreeOf}
use Rattle.btree_insert.specs.Reached.{Adds, Walks}
use Rattle.btree_insert.proofs.BoundLemmas.{Between-all}
use Rattle.btree_insert.proofs.DistinctPageLemmas.{walked_there}
use Rattle.btree_insert.proofs.HeadNodeLemmas.{root_tree}
use Rattle.btree_insert.proofs.ToldLemmas.{Told, if_taken}
use Rattle.btree_insert.proofs.walking.tell.Goals as goal

pub returns-then-tree-eq0-clause-some : goal.returns-then-tree-eq0-clause-some
returns-then-tree-eq0-clause-some g c = ([], g.met.K.RecordSink.told_none c.args.sink.now c.args.out.now)

pub returns-clause-told : goal.returns-clause-told
returns-clause-told g c = λ steady es us holds.
    (c.tell_below.ensures.told steady 1 es us (root_tree c.args.tree.now.order (at c.args.pages.now.pages) c.args.tree.now.height c.args.tree.now.root es us (omega arith) holds.tree) (Between-all es holds.ascends) (omega (arith, holds.used))).0

pub returns-clause-there : goal.returns-clause-there
returns-clause-there g c = λ steady.
    let k = c.args.tree.now.order in
    let pages = at c.args.pages.now.pages in
    let told : Told = λ xs. g.K.RecordSink.told c.args.sink.now c.args.out.now xs c.tell_below.new.sink c.tell_below.new.out in
    if_taken c.tell_below.result (Adds (TreeOf (Spells k pages) 1 1 c.args.tree.now.height c.args.tree.now.root) unbounded told c.args.tree.now.used c.tell_below.new.left)
    ((es : List Element) × Walks (Spells k pages) c.args.tree.now es × told es)
    (λ adds. (adds.es, (λ none. absurd (omega (arith, none)), λ some. walked_there k pages c.args.tree.now told c.tell_below.new.left (omega arith) adds), adds.added))
    (c.tell_below.ensures.adds steady)
