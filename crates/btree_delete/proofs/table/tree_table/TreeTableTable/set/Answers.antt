use Rattle.std.proofs.Common.{rules, ℕ, List, Option, Ok, Err, ap, sym, ◌∙◌}
use Rattle.page_store.specs.PagesView.{PagesView}
use Rattle.rec_types.specs.declared.table.TableFault.TheVariants.{NoRoom}
use Rattle.rec_types.specs.declared.table_calls.TableCalls.{TableCalls}
use Rattle.btree_delete.specs.TableView.{TableView, IsTable, table_of}
use Rattle.btree_delete.proofs.TableViewLemmas.{set_table, set_value, set_contents, set_full, same_fault, refused_room, full_refused, absent_refused}
use Rattle.btree_delete.proofs.table.tree_table.TreeTableTable.set.Given as given
use Rattle.btree_delete.proofs.table.tree_table.TreeTableTable.set.Goals as goal
use Rattle.btree_delete.proofs.table.tree_table.TreeTableTable.set.Goals.{In-Ok}

-- the table after the change
module _ (g : given.Over) (c : In-Ok g) (calls : TableCalls) where
  changed : IsTable (table_of c.change-changed.new.pages c.in-Ok.tree c.self.inside.limit c.note.new.self calls)
  changed =
      let here = table_of c.self.inside.pages c.self.inside.tree c.self.inside.limit c.self.inside.faults c.self.inside.calls in
      let call = c.change-changed.ensures in
      set_table here c.change-changed.new.pages c.args.key c.args.to c.change-changed.result c.in-Ok.tree c.in-Ok.before c.note.new.self calls c.self.invariant call.set c.in-Ok.is call.limits call.changed call.stages call.spelt

pub invariant_of-self : goal.invariant_of-self
invariant_of-self g c = changed g (goal.at.invariant_of-self g c).In-Ok c.note_set.new.self

pub returns-in-Ok-clause-value : goal.returns-in-Ok-clause-value
returns-in-Ok-clause-value g c = λ steady.
    let here = table_of c.self.inside.pages c.self.inside.tree c.self.inside.limit c.self.inside.faults c.self.inside.calls in
    set_value here c.args.self.now c.change-changed.new.pages.pages c.args.key c.args.to c.change-changed.result c.self.view_is c.self.invariant c.change-changed.ensures.set steady c.in-Ok.tree c.in-Ok.before c.in-Ok.is

pub returns-in-Ok-clause-ok : goal.returns-in-Ok-clause-ok
returns-in-Ok-clause-ok g c = λ steady.
    let here = table_of c.self.inside.pages c.self.inside.tree c.self.inside.limit c.self.inside.faults c.self.inside.calls in
    set_contents here c.args.self.now c.change-changed.new.pages.pages c.args.key c.args.to c.change-changed.result c.self.view_is c.self.invariant c.change-changed.ensures.set steady c.in-Ok.tree c.in-Ok.before c.in-Ok.is c.change-changed.ensures.limits

pub returns-in-Ok-clause-tree : goal.returns-in-Ok-clause-tree
returns-in-Ok-clause-tree g c = record {
  in_class = λ steady.
      (changed g (goal.at.returns-in-Ok-clause-tree g c).In-Ok c.note_set.new.self).holds (ap (λ (v : PagesView). v.steady) c.change-changed.ensures.stages.store ∙ ap (λ (t : TableView). t.pages.steady) c.self.view_is ∙ steady);
  order = search rules;
  store = search rules;
  staged = search rules;
  nothing_staged = search rules;
  refused = search rules;
}

pub returns-in-Err-clause-tree : goal.returns-in-Err-clause-tree
returns-in-Err-clause-tree g c = record {
  in_class = search rules;
  order = search rules;
  store = search rules;
  staged = search rules;
  nothing_staged = search rules;
  refused = search rules;
}

pub returns-in-Ok-clause-reads : goal.returns-in-Ok-clause-reads
returns-in-Ok-clause-reads g c = record {
  one_descent = search rules;
  taking_reads = search rules;
  most = search rules;
}

pub returns-in-Err-clause-reads : goal.returns-in-Err-clause-reads
returns-in-Err-clause-reads g c = record {
  one_descent = search rules;
  taking_reads = search rules;
  most = search rules;
}

pub returns-in-Ok-clause-full : goal.returns-in-Ok-clause-full
returns-in-Ok-clause-full g c = λ steady puts absent full _.
    let here = table_of c.self.inside.pages c.self.inside.tree c.self.inside.limit c.self.inside.faults c.self.inside.calls in
    absurd (set_full here c.args.self.now c.change-changed.new.pages.pages c.args.key c.args.to c.change-changed.result c.self.view_is c.self.invariant c.change-changed.ensures.set steady c.in-Ok.tree c.in-Ok.before c.in-Ok.is puts absent full)

pub returns-in-Err-clause-no_room : goal.returns-in-Err-clause-no_room
returns-in-Err-clause-no_room g c = λ steady told.
    let here = table_of c.self.inside.pages c.self.inside.tree c.self.inside.limit c.self.inside.faults c.self.inside.calls in
    refused_room here c.args.self.now c.change-changed.new.pages.pages c.args.key c.args.to c.change-changed.result c.self.view_is c.self.invariant c.change-changed.ensures.set steady c.in-Err.fault c.in-Err.is (same_fault c.in-Err.fault NoRoom told)

pub returns-in-Err-clause-full : goal.returns-in-Err-clause-full
returns-in-Err-clause-full g c = λ steady puts absent full device.
    let here = table_of c.self.inside.pages c.self.inside.tree c.self.inside.limit c.self.inside.faults c.self.inside.calls in
    ap Err (full_refused here c.args.self.now c.change-changed.new.pages.pages c.args.key c.args.to c.change-changed.result c.self.view_is c.self.invariant c.change-changed.ensures.set steady (Option (List ℕ)) c.in-Err.fault c.in-Err.is puts absent full device)

pub returns-in-Ok-clause-absent : goal.returns-in-Ok-clause-absent
returns-in-Ok-clause-absent g c = λ steady _ absent _.
    let here = table_of c.self.inside.pages c.self.inside.tree c.self.inside.limit c.self.inside.faults c.self.inside.calls in
    ap Ok (set_value here c.args.self.now c.change-changed.new.pages.pages c.args.key c.args.to c.change-changed.result c.self.view_is c.self.invariant c.change-changed.ensures.set steady c.in-Ok.tree c.in-Ok.before c.in-Ok.is ∙ absent)

pub returns-in-Err-clause-absent : goal.returns-in-Err-clause-absent
returns-in-Err-clause-absent g c = λ steady none absent device.
    let here = table_of c.self.inside.pages c.self.inside.tree c.self.inside.limit c.self.inside.faults c.self.inside.calls in
    absurd (let failed = sym (absent_refused here c.args.self.now c.change-changed.new.pages.pages c.args.key c.args.to c.change-changed.result c.self.view_is c.self.invariant c.change-changed.ensures.set steady (Option (List ℕ)) c.in-Err.fault c.in-Err.is none absent) ∙ device in cc)

pub returns-in-Ok-clause-answered : goal.returns-in-Ok-clause-answered
returns-in-Ok-clause-answered g c = search rules
