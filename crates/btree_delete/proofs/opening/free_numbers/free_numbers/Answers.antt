use Rattle.std.proofs.Common.{ℕ, ◌+◌, false, true, ap, sym, ◌∙◌, arith}
use Rattle.std.proofs.lemmas.List.{get_or_default}
use Rattle.std.specs.BTreeSet.{contains, btree_set_len}
use Rattle.std.specs.Ordering.{nat_cmp}
use Rattle.btree_delete.proofs.FreeNumberLemmas.{free_kept, free_added, count_visited, count_unvisited, new_number, one_counted}
use Rattle.btree_delete.proofs.opening.free_numbers.free_numbers.Goals as goal

pub loop-n-preserved-then-reached-n : goal.loop-n-preserved-then-reached-n
loop-n-preserved-then-reached-n c =
    let visited = get_or_default c.args.reached.now c.loop-n.n true false c.loop-n-test.true ∙ c.if-reached-n.true in
    record {
      from = omega (arith, c.loop-n.invariant.from);
      free = λ q. c.loop-n.invariant.free q ∙ free_kept c.args.reached.now c.loop-n.n q visited;
      count = c.loop-n.invariant.count ∙ sym (count_visited c.args.reached.now c.loop-n.n c.loop-n.invariant.from c.loop-n-test.true visited);
    }

pub loop-n-preserved : goal.loop-n-preserved
loop-n-preserved c =
    let unvisited = get_or_default c.args.reached.now c.loop-n.n true false c.loop-n-test.true ∙ c.if-reached-n.false in
    let old = contains nat_cmp c.loop-n.free c.loop-n.n in
    record {
      from = omega (arith, c.loop-n.invariant.from);
      free = λ q. free_added c.args.reached.now c.loop-n.n q (contains nat_cmp c.loop-n.free q) (contains nat_cmp c.insert.new.self q) c.loop-n.invariant.from unvisited (c.loop-n.invariant.free q) (c.in_ok-insert.ensures.updates.0 q);
      count = one_counted (btree_set_len c.loop-n.free) (btree_set_len c.insert.new.self) c.in_ok-insert.field-0 old c.in_ok-insert.ensures.added (new_number c.args.reached.now c.loop-n.n old (c.loop-n.invariant.free c.loop-n.n)) c.in_ok-insert.ensures.len
          ∙ ap (λ (n : ℕ). n + 1) c.loop-n.invariant.count ∙ sym (count_unvisited c.args.reached.now c.loop-n.n c.loop-n.invariant.from unvisited);
    }
