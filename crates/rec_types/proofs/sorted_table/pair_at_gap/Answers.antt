use Rattle.std.proofs.Common.{◌≡◌, ℕ, ◌-◌, ◌<◌, suc, length, map, None, Some, [], sym, ap, ◌∙◌, arith}
use Rattle.std.proofs.lemmas.List.{get_or-map, length-map}
use Rattle.rec_types.specs.Ordered.{before_gap}
use Rattle.rec_types.specs.Sorted.{pair_at}
use Rattle.rec_types.proofs.GapLemmas.{behind_none, behind_some, before_some}
use Rattle.rec_types.proofs.sorted_table.pair_at_gap.Goals as goal

pub returns-then-left-places : goal.returns-then-left-places
returns-then-left-places c =
    let list = map (pair_at c.args.records.now) c.args.places.now in
    rw c.in-After.is (sym (behind_none list c.args.left None (omega (arith, length-map c.args.places.now (pair_at c.args.records.now), c.if-left-places.true))))

pub returns-else-left-places : goal.returns-else-left-places
returns-else-left-places c =
    let es = c.args.records.now in
    let list = map (pair_at es) c.args.places.now in
    let low : c.args.left < length c.args.places.now = omega (arith, c.requires.within, c.if-left-places.false) in
    rw c.in-After.is (ap Some (c.pair.ensures ∙ sym (get_or-map (pair_at es) c.args.places.now c.args.left 0 ([], []) low)) ∙ sym (behind_some list c.args.left ([], []) None (omega (arith, length-map c.args.places.now (pair_at es), low))))

pub returns-else-left-eq0 : goal.returns-else-left-eq0
returns-else-left-eq0 c =
    let es = c.args.records.now in
    let list = map (pair_at es) c.args.places.now in
    let j = c.args.left - 1 in
    let low : j < length c.args.places.now = omega (arith, c.requires.within, c.if-left-eq0.false) in
    let is : suc j ≡ c.args.left = omega (arith, c.if-left-eq0.false) in
    rw c.in-Before.is (ap Some (c.pair-in-Before.ensures ∙ sym (get_or-map (pair_at es) c.args.places.now j 0 ([], []) low)) ∙ sym (before_some list j ([], []) None (omega (arith, length-map c.args.places.now (pair_at es), low))) ∙ ap (λ (n : ℕ). before_gap list n None) is)
