use Rattle.std.proofs.Common.{◌+◌, arith}
use Rattle.btree_node.specs.Spelling.{spelling}
use Rattle.btree_insert.proofs.EditFitLemmas.{took_fits}
use Rattle.btree_insert.proofs.inserting.add_node.Goals as goal

pub returns-clause-edit : goal.returns-clause-edit
returns-clause-edit g c = record {
  fits = took_fits c.args.pages.now.pages c.args.edit.now.writes.items c.write_node.new.edit.writes.items c.args.edit.now.taken (c.write_node.new.edit.taken + 1) c.candidate-number.result (spelling c.args.node.now c.args.order)
      c.in_ok-write_node.ensures.writes (omega (arith, c.in_ok-write_node.ensures.edit.taken)) c.candidate-number.ensures.value c.requires.fits;
  spelt = c.in_ok-write_node.ensures.edit.spelt;
  freed = c.in_ok-write_node.ensures.edit.freed;
}
