use Rattle.std.proofs.Common.{rules, arith}
use Rattle.page_store.specs.PageMap.{at}
use Rattle.btree_insert.proofs.RootSpotLemmas.{spot_tree}
use Rattle.btree_insert.proofs.finding.find.Goals as goal

pub returns : goal.returns
returns g c = record {
  found = λ steady es us holds.
      let root = spot_tree c.root_spot.result c.args.tree.now (at c.args.pages.now.pages) es us c.root_spot.ensures (omega arith) holds in
      c.read_below.ensures.found steady 1 es us root.0 root.1;
  led = search rules;
  leads = search rules;
  reading = search rules;
}
