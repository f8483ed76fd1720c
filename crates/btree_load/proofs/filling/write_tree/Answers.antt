use Rattle.std.proofs.Common.{◌≡◌, ◌<◌, [], ℕ, List, suc, length, vec_len, Ok, refl, ap, sym, ◌∙◌, subst, arith}
use Rattle.btree_node.specs.declared.node.NodeKind.TheVariants.{Inner}
use Rattle.btree_node.specs.Lists.{Element}
use Rattle.btree_insert.proofs.SonsLemmas.{nonempty}
use Rattle.btree_load.specs.Filling.{written_pages}
use Rattle.btree_load.specs.Rows.{HasLevelRoom, wide, NodeStandsFor, AreFewest}
use Rattle.btree_load.proofs.FillLemmas.{fills_any, fills_then, same_then}
use Rattle.btree_load.proofs.TreeLemmas.{Rows, level_above, many_left, levels_first, levels_rest, levels_done, root_of, is_none, is_some}
use Rattle.btree_load.proofs.filling.write_tree.Goals as goal

pub loop-alloc-init : goal.loop-alloc-init
loop-alloc-init g c =
    let ok = c.in_ok-row.ensures in
    let k = c.args.k in
    let records = c.args.records.now in
    let row = c.in_ok-row.row in
    let some : 0 < length records = nonempty records c.is_empty.result c.is_empty.ensures c.if-is_empty.false in
    record {
      stands = ok.wide;
      rows = λ steady. record {
        h = 0;
        any = ok.row steady 1 0 records [] c.requires.order.0 (omega (arith, some)) (refl, refl, refl);
        many = λ two. ok.row steady k 0 records [] (omega arith) (many_left k (length records) (length row.sons.items) (omega (arith, two, ok.wide.sons.0)) ok.fewest) (refl, refl, refl);
      };
      room = levels_rest g.S.StoreState k c.args.count.now (length records) c.write_row.new.count (length row.sons.items) (length row.between.items) c.args.store.now c.write_row.new.store some c.requires.room ok.long ok.fewest ok.count (sym ok.wide.sons.0);
      same = ok.long;
      fills = fills_any g.S.StoreState c.args.store.now c.write_row.new.store row ok.fills;
    }

pub loop-alloc-preserved : goal.loop-alloc-preserved
loop-alloc-preserved g c =
    let ok = c.in_ok-row-2.ensures in
    let i = c.loop-alloc.invariant in
    let k = c.args.k in
    let records = c.args.records.now in
    let old = c.loop-alloc.row in
    let row = c.in_ok-row-2.row in
    let els = c.deref.result.now in
    let sons = c.deref-in-loop-alloc.result.now in
    let long : length els ≡ length old.between.items = ap length c.deref.ensures.value in
    let some : 0 < length old.between.items = omega (arith, is_some (vec_len old.between) c.loop-alloc-test.ensures, old.between.ok.0) in
    let fewest = subst (λ (n : ℕ). AreFewest k n (length row.sons.items)) long ok.fewest in
    let stored = written_pages g.S.StoreState c.loop-alloc.count c.loop-alloc.store in
    record {
      stands = ok.wide;
      rows = λ steady.
          let below : Rows k stored (wide Inner old.between.items old.sons.items) records = i.rows steady in
          let above = level_above k stored old.between.items old.sons.items records some below in
          let stands : NodeStandsFor k stored (suc below.h) (wide Inner els sons) records above.0 =
          subst (λ (bs : List Element). NodeStandsFor k stored (suc below.h) (wide Inner bs sons) records above.0) (sym c.deref.ensures.value)
          (subst (λ (ss : List ℕ). NodeStandsFor k stored (suc below.h) (wide Inner old.between.items ss) records above.0) (sym c.deref-in-loop-alloc.ensures.value) above.1) in
          let still = i.fills.steady ∙ steady in
          record {
            h = suc below.h;
            any = ok.row still 1 (suc below.h) records above.0 c.requires.order.0 (omega (arith, some, long)) stands;
            many = λ two. ok.row still k (suc below.h) records above.0 (omega arith) (many_left k (length els) (length row.sons.items) (omega (arith, two, ok.wide.sons.0)) ok.fewest) stands;
          };
      room = levels_rest g.S.StoreState k c.loop-alloc.count (length old.between.items) c.write_row-in-loop-alloc.new.count (length row.sons.items) (length row.between.items) c.loop-alloc.store c.write_row-in-loop-alloc.new.store some i.room ok.long fewest ok.count (sym ok.wide.sons.0);
      same = same_then g.S.StoreState c.args.store.now c.loop-alloc.store c.write_row-in-loop-alloc.new.store i.same ok.long;
      fills = fills_then g.S.StoreState c.args.store.now c.loop-alloc.store c.write_row-in-loop-alloc.new.store tt (Ok tt) i.fills (fills_any g.S.StoreState c.loop-alloc.store c.write_row-in-loop-alloc.new.store row ok.fills);
    }

pub returns-clause-tree : goal.returns-clause-tree
returns-clause-tree g c = λ steady.
    root_of c.args.k (written_pages g.S.StoreState c.loop-alloc.count c.loop-alloc.store) c.loop-alloc.row.between.items c.loop-alloc.row.sons.items c.args.records.now c.index.result.now (omega (arith, is_none (vec_len c.loop-alloc.row.between) c.loop-alloc-test.ensures, c.loop-alloc.row.between.ok.0)) c.loop-alloc.invariant.stands.sons.0 c.index.ensures (c.loop-alloc.invariant.rows steady)

pub returns-clause-all : goal.returns-clause-all
returns-clause-all g c =
    levels_done g.S.StoreState c.args.k c.loop-alloc.count (length c.loop-alloc.row.between.items) c.loop-alloc.store (omega (arith, is_none (vec_len c.loop-alloc.row.between) c.loop-alloc-test.ensures, c.loop-alloc.row.between.ok.0)) c.loop-alloc.invariant.room

pub write_row-requires-clause-room : goal.write_row-requires-clause-room
write_row-requires-clause-room g c =
    levels_first g.S.StoreState c.args.k c.args.count.now (length c.args.records.now) c.args.store.now (nonempty c.args.records.now c.is_empty.result c.is_empty.ensures c.if-is_empty.false) c.requires.room

pub write_row-requires-in-loop-alloc-clause-room : goal.write_row-requires-in-loop-alloc-clause-room
write_row-requires-in-loop-alloc-clause-room g c =
    let old = c.loop-alloc.row in
    subst (λ (n : ℕ). HasLevelRoom g.S.StoreState c.args.k c.loop-alloc.count n c.loop-alloc.store) (sym (ap length c.deref.ensures.value))
    (levels_first g.S.StoreState c.args.k c.loop-alloc.count (length old.between.items) c.loop-alloc.store (omega (arith, is_some (vec_len old.between) c.loop-alloc-test.ensures, old.between.ok.0)) c.loop-alloc.invariant.room)

pub returns-then-is_empty-clause-all : goal.returns-then-is_empty-clause-all
returns-then-is_empty-clause-all g c =
    levels_done g.S.StoreState c.args.k c.args.count.now (length c.args.records.now) c.args.store.now (is_none (length c.args.records.now) (sym c.if-is_empty.true ∙ c.is_empty.ensures)) c.requires.room
