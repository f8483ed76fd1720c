use Rattle.std.proofs.Common.{◌≡◌, ◌+◌, ◌-◌, ◌<◌, ℕ, suc, Some, List, [], ◌∷◌, ◌++◌, length, get_or, take, drop, refl, ap, sym, ◌∙◌, subst, arith}
use Rattle.std.proofs.lemmas.List.{take_rest}
use Rattle.std.proofs.lemmas.Result.{err_from_is_err_and}
use Rattle.page_store.specs.PagesView.{PagesView}
use Rattle.page_store.specs.PageMap.{at}
use Rattle.btree_node.specs.Lists.{Element}
use Rattle.btree_insert.specs.declared.bounds.Bounds.{Bounds}
use Rattle.btree_insert.specs.declared.tree.TreeFault.TheVariants.{Device}
use Rattle.btree_insert.specs.Bounds.{Between}
use Rattle.btree_insert.specs.PageTrees.{Spells, Fan, TreeOf, TreeAt}
use Rattle.btree_insert.specs.Reached.{Adds}
use Rattle.btree_insert.proofs.ReachLemmas.{on_ok, adds_leaf, adds_inner, adds_more, adds_below, rest_within}
use Rattle.btree_insert.proofs.BoundLemmas.{Between-left, Between-right}
use Rattle.btree_insert.proofs.HeadNodeLemmas.{top, read_top}
use Rattle.btree_insert.proofs.SonsLemmas.{fan_first, one_page, pages_of_both, take_one, body_fan, nonempty}
use Rattle.btree_insert.proofs.ToldLemmas.{Told, if_taken, taken_told, none_told, front_of_more, all_behind, some_behind, body_some, took, stopped, all_taken}
use Rattle.btree_insert.proofs.walking.+walking.Goals as goal

pub tell_below-returns-then-left-eq0-clause-some : goal.tell_below-returns-then-left-eq0-clause-some
tell_below-returns-then-left-eq0-clause-some g t c = ([], g.met.K.RecordSink.told_none c.args.sink.now c.args.out.now)

pub tell_below-returns-in_err-read_into-clause-some : goal.tell_below-returns-in_err-read_into-clause-some
tell_below-returns-in_err-read_into-clause-some g t c =
    let p = err_from_is_err_and c.from_residual.result c.from_residual.ensures.1 in
    rw p.1 ([], g.met.K.RecordSink.told_none c.args.sink.now c.args.out.now)

pub tell_below-returns-in_err-read_into-clause-told : goal.tell_below-returns-in_err-read_into-clause-told
tell_below-returns-in_err-read_into-clause-told g t c = λ steady least es us tree between few.
    let p = err_from_is_err_and c.from_residual.result c.from_residual.ensures.1 in
    let h = c.args.above.now.height - 1 in
    let head = top c.args.order (at c.args.pages.now.pages) least c.args.above.now.height h c.args.n es us c.args.above.now.bounds (omega arith) tree between in
    let device = c.in_err-read_into.ensures.exact steady head.0 head.1.spells (head.1.kind ∙ sym c.kind_of_level.ensures) head.1.within in
    let some = body_some (TreeAt c.args.order (at c.args.pages.now.pages) c.args.order h) h head.0 es head.1.below head.1.spells.stands.some head.1.body in
    rw p.1 ((p.2 ∙ device, none_told (λ xs. g.K.RecordSink.told c.args.sink.now c.args.out.now xs c.args.sink.now c.args.out.now) es some (g.met.K.RecordSink.told_none c.args.sink.now c.args.out.now)), tt)

pub tell_below-returns-then-above-eq1-clause-adds : goal.tell_below-returns-then-above-eq1-clause-adds
tell_below-returns-then-above-eq1-clause-adds g t c = λ steady.
    let node = c.read_into.new.node in
    let told : Told = λ xs. g.K.RecordSink.told c.args.sink.now c.args.out.now xs c.tell_elements.new.sink c.tell_elements.new.out in
    let took = taken_told c.tell_elements.result told (λ xs fault. g.K.RecordSink.stops c.args.sink.now c.args.out.now xs fault c.tell_elements.new.sink c.tell_elements.new.out) c.as_slice-elements.result.now c.tell_elements.ensures in
    on_ok c.tell_elements.result (told c.as_slice-elements.result.now)
    (Adds (TreeOf (Spells c.args.order (at c.args.pages.now.pages)) 1 1 c.args.above.now.height c.args.n) c.args.above.now.bounds told c.args.left.now (c.args.left.now - 1))
    (λ is. adds_leaf (Spells c.args.order (at c.args.pages.now.pages)) c.args.above.now.height c.args.n c.args.above.now.bounds node told c.args.left.now (c.args.left.now - 1) (omega arith)
    (c.in_ok-read_into.ensures.spells steady) (c.in_ok-read_into.ensures.stands.1 ∙ c.kind_of_level.ensures) c.in_ok-read_into.ensures.stands.0.some c.in_ok-read_into.ensures.stands.0.ascends c.in_ok-read_into.ensures.within
    (subst told c.as_slice-elements.ensures.value is) (omega arith)) took

pub tell_below-returns-clause-told : goal.tell_below-returns-clause-told
tell_below-returns-clause-told g t c = λ steady least es us tree between few.
    let head = read_top c.args.order (at c.args.pages.now.pages) least c.args.above.now.height c.args.n es us c.args.above.now.bounds c.kind_of_level.result c.read_into.new.node c.requires.height c.kind_of_level.ensures (c.in_ok-read_into.ensures.exact steady) tree between in
    let h = c.args.above.now.height - 1 in
    let fan = body_fan (TreeAt c.args.order (at c.args.pages.now.pages) c.args.order h) h c.read_into.new.node es head.below (omega arith) head.body in
    let fan2 = subst (λ (ss : List ℕ). Fan (TreeAt c.args.order (at c.args.pages.now.pages) c.args.order h) ss c.as_slice-elements.result.now es head.below) (sym c.as_slice.ensures.value)
    (subst (λ (els : List Element). Fan (TreeAt c.args.order (at c.args.pages.now.pages) c.args.order h) c.read_into.new.node.sons.items els es head.below) (sym c.as_slice-elements.ensures.value) fan) in
    let fan3 = subst (λ (v : PagesView). Fan (TreeAt c.args.order (at v.pages) c.args.order h) c.as_slice.result.now c.as_slice-elements.result.now es head.below) (sym c.read_into.ensures.reading.unchanged) fan2 in
    let size = one_page us c.args.n head.below head.us_is in
    let call = c.tell_sons.ensures.told (ap (λ (v : PagesView). v.steady) c.read_into.ensures.reading.unchanged ∙ steady) es head.below fan3 between (omega (arith, size, few)) in
    (call.0, if_taken c.tell_sons.result (c.tell_sons.new.left + length head.below ≡ c.args.left.now - 1) (c.tell_sons.new.left + length us ≡ c.args.left.now) (λ is. omega (arith, is, size, few)) call.1)

pub tell_below-returns-clause-adds : goal.tell_below-returns-clause-adds
tell_below-returns-clause-adds g t c = λ steady.
    let node = c.read_into.new.node in
    let k = c.args.order in
    let pages_is : at c.read_into.new.pages.pages ≡ at c.args.pages.now.pages = ap (λ (v : PagesView). at v.pages) c.read_into.ensures.reading.unchanged in
    let between : Between c.args.above.now.bounds c.as_slice-elements.result.now = subst (Between c.args.above.now.bounds) (sym c.as_slice-elements.ensures.value) (record { ascends = c.in_ok-read_into.ensures.stands.0.ascends; within = c.in_ok-read_into.ensures.within }) in
    let low_is : c.args.above.now.height - 1 ≡ suc (c.args.above.now.height - 2) = omega arith in
    let told : Told = λ xs. g.K.RecordSink.told c.args.sink.now c.args.out.now xs c.tell_sons.new.sink c.tell_sons.new.out in
    if_taken c.tell_sons.result (Adds (Fan (TreeOf (Spells k (at c.read_into.new.pages.pages)) 1 1 (c.args.above.now.height - 1)) c.as_slice.result.now c.as_slice-elements.result.now) c.args.above.now.bounds told (c.args.left.now - 1) c.tell_sons.new.left)
    (Adds (TreeOf (Spells k (at c.args.pages.now.pages)) 1 1 c.args.above.now.height c.args.n) c.args.above.now.bounds told c.args.left.now c.tell_sons.new.left)
    (λ adds. adds_inner (Spells k (at c.args.pages.now.pages)) c.args.above.now.height (c.args.above.now.height - 2) c.args.n c.args.above.now.bounds node told c.args.left.now (c.args.left.now - 1) c.tell_sons.new.left (omega (arith, low_is))
    (c.in_ok-read_into.ensures.spells steady) (c.in_ok-read_into.ensures.stands.1 ∙ c.kind_of_level.ensures) c.in_ok-read_into.ensures.stands.0.some (omega arith)
    (adds_below k (at c.args.pages.now.pages) (at c.read_into.new.pages.pages) (c.args.above.now.height - 1) (suc (c.args.above.now.height - 2)) node.sons.items c.as_slice.result.now node.elements.items c.as_slice-elements.result.now c.args.above.now.bounds told (c.args.left.now - 1) c.tell_sons.new.left
    pages_is low_is c.as_slice.ensures.value c.as_slice-elements.ensures.value adds))
    (c.tell_sons.ensures.adds (ap (λ (v : PagesView). v.steady) c.read_into.ensures.reading.unchanged ∙ steady) between)

pub tell_sons-returns-in_err-fault-clause-told : goal.tell_sons-returns-in_err-fault-clause-told
tell_sons-returns-in_err-fault-clause-told g t c = λ steady es us fan between few.
    let p = err_from_is_err_and c.from_residual.result c.from_residual.ensures.1 in
    let x : Element = c.index-elements-0.result in
    let x_is : x ≡ get_or c.args.elements.now 0 x = c.index-elements-0.is in
    let one = fan_first (TreeAt c.args.order (at c.args.pages.now.pages) c.args.order c.args.above.now.height) c.args.sons.now c.args.elements.now es us (nonempty c.args.elements.now c.is_empty.result c.is_empty.ensures c.if-is_empty.false) fan in
    let size = pages_of_both us one.here one.rest one.us_is in
    let call = c.in_err-fault.ensures.told steady c.args.order one.xs one.here one.first (Between-left c.args.above.now.bounds one.xs x one.ys (subst (Between c.args.above.now.bounds) (one.es_is x x_is) between)) (omega (arith, size, few)) in
    rw p.1 ((p.2 ∙ call.0.0, front_of_more (λ xs. g.K.RecordSink.told c.args.sink.now c.args.out.now xs c.tell_below-2.new.sink c.tell_below-2.new.out) one.xs one.ys es x (one.es_is x x_is) call.0.1), tt)

pub tell_sons-returns-in-Err-clause-told : goal.tell_sons-returns-in-Err-clause-told
tell_sons-returns-in-Err-clause-told g t c = λ steady es us fan between few.
    let x : Element = c.index-elements-0.result in
    let x_is : x ≡ get_or c.args.elements.now 0 x = c.index-elements-0.is in
    let one = fan_first (TreeAt c.args.order (at c.args.pages.now.pages) c.args.order c.args.above.now.height) c.args.sons.now c.args.elements.now es us (nonempty c.args.elements.now c.is_empty.result c.is_empty.ensures c.if-is_empty.false) fan in
    let size = pages_of_both us one.here one.rest one.us_is in
    let call = c.in_ok-fault.ensures.told steady c.args.order one.xs one.here one.first (Between-left c.args.above.now.bounds one.xs x one.ys (subst (Between c.args.above.now.bounds) (one.es_is x x_is) between)) (omega (arith, size, few)) in
    let stop = stopped (λ xs. g.K.RecordSink.told c.args.sink.now c.args.out.now xs c.tell_below-2.new.sink c.tell_below-2.new.out) (λ xs fault. g.K.RecordSink.stops c.args.sink.now c.args.out.now xs fault c.tell_below-2.new.sink c.tell_below-2.new.out) one.xs c.in_ok-fault.field-0 c.in-Err.fault c.in-Err.is call.0 in (
      subst (λ zs. g.K.RecordSink.stops c.args.sink.now c.args.out.now zs c.in-Err.fault c.tell_below-2.new.sink c.tell_below-2.new.out) (sym (one.es_is x x_is))
          (g.met.K.RecordSink.stops_before c.args.sink.now c.tell_below-2.new.sink c.args.out.now c.tell_below-2.new.out one.xs (x ∷ one.ys) c.in-Err.fault stop),
      tt,
    )

pub tell_sons-returns-in-Err-tell_elements-clause-told : goal.tell_sons-returns-in-Err-tell_elements-clause-told
tell_sons-returns-in-Err-tell_elements-clause-told g t c = λ steady es us fan between few.
    let x : Element = c.index-elements-0.result in
    let x_is : x ≡ get_or c.args.elements.now 0 x = c.index-elements-0.is in
    let some : 0 < length c.args.elements.now = nonempty c.args.elements.now c.is_empty.result c.is_empty.ensures c.if-is_empty.false in
    let one = fan_first (TreeAt c.args.order (at c.args.pages.now.pages) c.args.order c.args.above.now.height) c.args.sons.now c.args.elements.now es us some fan in
    let size = pages_of_both us one.here one.rest one.us_is in
    let call = c.in_ok-fault.ensures.told steady c.args.order one.xs one.here one.first (Between-left c.args.above.now.bounds one.xs x one.ys (subst (Between c.args.above.now.bounds) (one.es_is x x_is) between)) (omega (arith, size, few)) in
    let first = took (λ xs. g.K.RecordSink.told c.args.sink.now c.args.out.now xs c.tell_below-2.new.sink c.tell_below-2.new.out) (λ xs fault. g.K.RecordSink.stops c.args.sink.now c.args.out.now xs fault c.tell_below-2.new.sink c.tell_below-2.new.out) one.xs c.in_ok-fault.field-0 c.in_default.field-0 c.in_default.is call.0 in
    let stop = subst (λ zs. g.K.RecordSink.stops c.tell_below-2.new.sink c.tell_below-2.new.out zs c.in-Err-tell_elements.fault c.tell_elements.new.sink c.tell_elements.new.out) (take_one c.args.elements.now x some x_is) c.in-Err-tell_elements.ensures in
    let longer = g.met.K.RecordSink.stops_before c.tell_below-2.new.sink c.tell_elements.new.sink c.tell_below-2.new.out c.tell_elements.new.out (x ∷ []) one.ys c.in-Err-tell_elements.fault stop in (
      subst (λ zs. g.K.RecordSink.stops c.args.sink.now c.args.out.now zs c.in-Err-tell_elements.fault c.tell_elements.new.sink c.tell_elements.new.out) (sym (one.es_is x x_is))
          (g.met.K.RecordSink.stops_on c.args.sink.now c.tell_below-2.new.sink c.tell_elements.new.sink c.args.out.now c.tell_below-2.new.out c.tell_elements.new.out one.xs (x ∷ one.ys) c.in-Err-tell_elements.fault first longer),
      tt,
    )

pub tell_sons-returns-in-Err-tell_elements-clause-some : goal.tell_sons-returns-in-Err-tell_elements-clause-some
tell_sons-returns-in-Err-tell_elements-clause-some g t c =
    let xs = c.in_ok-fault.ensures.some.0 in
    let first = took (λ xs. g.K.RecordSink.told c.args.sink.now c.args.out.now xs c.tell_below-2.new.sink c.tell_below-2.new.out) (λ xs fault. g.K.RecordSink.stops c.args.sink.now c.args.out.now xs fault c.tell_below-2.new.sink c.tell_below-2.new.out) xs c.in_ok-fault.field-0 c.in_default.field-0 c.in_default.is c.in_ok-fault.ensures.some.1 in (
      xs ++ take 1 c.args.elements.now,
      g.met.K.RecordSink.stops_on c.args.sink.now c.tell_below-2.new.sink c.tell_elements.new.sink c.args.out.now c.tell_below-2.new.out c.tell_elements.new.out xs (take 1 c.args.elements.now) c.in-Err-tell_elements.fault first c.in-Err-tell_elements.ensures,
    )

pub tell_sons-returns-clause-some : goal.tell_sons-returns-clause-some
tell_sons-returns-clause-some g t c =
    let x : Element = c.index-elements-0.result in
    let some : 0 < length c.args.elements.now = nonempty c.args.elements.now c.is_empty.result c.is_empty.ensures c.if-is_empty.false in
    let xs = c.in_ok-fault.ensures.some.0 in
    let first = took (λ xs. g.K.RecordSink.told c.args.sink.now c.args.out.now xs c.tell_below-2.new.sink c.tell_below-2.new.out) (λ xs fault. g.K.RecordSink.stops c.args.sink.now c.args.out.now xs fault c.tell_below-2.new.sink c.tell_below-2.new.out) xs c.in_ok-fault.field-0 c.in_default.field-0 c.in_default.is c.in_ok-fault.ensures.some.1 in
    let second = subst (λ zs. g.K.RecordSink.told c.tell_below-2.new.sink c.tell_below-2.new.out zs c.tell_elements.new.sink c.tell_elements.new.out) (take_one c.args.elements.now x some c.index-elements-0.is) c.in_default-tell_elements.ensures in
    some_behind (λ zs. g.K.RecordSink.told c.tell_elements.new.sink c.tell_elements.new.out zs c.tell_sons.new.sink c.tell_sons.new.out) (λ zs. g.K.RecordSink.told c.args.sink.now c.args.out.now zs c.tell_sons.new.sink c.tell_sons.new.out)
    (λ zs fault. g.K.RecordSink.stops c.tell_elements.new.sink c.tell_elements.new.out zs fault c.tell_sons.new.sink c.tell_sons.new.out) (λ zs fault. g.K.RecordSink.stops c.args.sink.now c.args.out.now zs fault c.tell_sons.new.sink c.tell_sons.new.out) xs x c.tell_sons.result
    (λ zs last. g.met.K.RecordSink.told_on c.args.sink.now c.tell_below-2.new.sink c.tell_sons.new.sink c.args.out.now c.tell_below-2.new.out c.tell_sons.new.out xs (x ∷ zs) first (g.met.K.RecordSink.told_on c.tell_below-2.new.sink c.tell_elements.new.sink c.tell_sons.new.sink c.tell_below-2.new.out c.tell_elements.new.out c.tell_sons.new.out (x ∷ []) zs second last))
    (λ zs fault stop. g.met.K.RecordSink.stops_on c.args.sink.now c.tell_below-2.new.sink c.tell_sons.new.sink c.args.out.now c.tell_below-2.new.out c.tell_sons.new.out xs (x ∷ zs) fault first (g.met.K.RecordSink.stops_on c.tell_below-2.new.sink c.tell_elements.new.sink c.tell_sons.new.sink c.tell_below-2.new.out c.tell_elements.new.out c.tell_sons.new.out (x ∷ []) zs fault second stop))
    c.tell_sons.ensures.some

pub tell_sons-returns-clause-told : goal.tell_sons-returns-clause-told
tell_sons-returns-clause-told g t c = λ steady es us fan between few.
    let x : Element = c.index-elements-0.result in
    let x_is : x ≡ get_or c.args.elements.now 0 x = c.index-elements-0.is in
    let some : 0 < length c.args.elements.now = nonempty c.args.elements.now c.is_empty.result c.is_empty.ensures c.if-is_empty.false in
    let one = fan_first (TreeAt c.args.order (at c.args.pages.now.pages) c.args.order c.args.above.now.height) c.args.sons.now c.args.elements.now es us some fan in
    let size = pages_of_both us one.here one.rest one.us_is in
    let bounded = subst (Between c.args.above.now.bounds) (one.es_is x x_is) between in
    let head = c.in_ok-fault.ensures.told steady c.args.order one.xs one.here one.first (Between-left c.args.above.now.bounds one.xs x one.ys bounded) (omega (arith, size, few)) in
    let first = took (λ xs. g.K.RecordSink.told c.args.sink.now c.args.out.now xs c.tell_below-2.new.sink c.tell_below-2.new.out) (λ xs fault. g.K.RecordSink.stops c.args.sink.now c.args.out.now xs fault c.tell_below-2.new.sink c.tell_below-2.new.out) one.xs c.in_ok-fault.field-0 c.in_default.field-0 c.in_default.is head.0 in
    let left_is = all_taken c.in_ok-fault.field-0 (c.tell_below-2.new.left + length one.here ≡ c.args.left.now) c.in_default.field-0 c.in_default.is head.1 in
    let second = subst (λ zs. g.K.RecordSink.told c.tell_below-2.new.sink c.tell_below-2.new.out zs c.tell_elements.new.sink c.tell_elements.new.out) (take_one c.args.elements.now x some x_is) c.in_default-tell_elements.ensures in
    let fan2 = subst (λ (ss : List ℕ). Fan (TreeAt c.args.order (at c.args.pages.now.pages) c.args.order c.args.above.now.height) ss (drop 1 c.args.elements.now) one.ys one.rest) (sym (take_rest c.args.sons.now 1)) one.more in
    let fan3 = subst (λ (els : List Element). Fan (TreeAt c.args.order (at c.args.pages.now.pages) c.args.order c.args.above.now.height) (take (length c.args.sons.now - 1) (drop 1 c.args.sons.now)) els one.ys one.rest) (sym (take_rest c.args.elements.now 1)) fan2 in
    let fan4 = subst (λ (v : PagesView). Fan (TreeAt c.args.order (at v.pages) c.args.order c.args.above.now.height) (take (length c.args.sons.now - 1) (drop 1 c.args.sons.now)) (take (length c.args.elements.now - 1) (drop 1 c.args.elements.now)) one.ys one.rest) (sym c.in_ok-fault.ensures.reading.0.unchanged) fan3 in
    let call = c.tell_sons.ensures.told (ap (λ (v : PagesView). v.steady) c.in_ok-fault.ensures.reading.0.unchanged ∙ steady) one.ys one.rest fan4 (Between-right c.args.above.now.bounds one.xs x one.ys bounded) (omega (arith, size, few, left_is)) in (
      all_behind Device (λ zs. g.K.RecordSink.told c.tell_elements.new.sink c.tell_elements.new.out zs c.tell_sons.new.sink c.tell_sons.new.out) (λ zs. g.K.RecordSink.told c.args.sink.now c.args.out.now zs c.tell_sons.new.sink c.tell_sons.new.out)
          (λ zs fault. g.K.RecordSink.stops c.tell_elements.new.sink c.tell_elements.new.out zs fault c.tell_sons.new.sink c.tell_sons.new.out) (λ zs fault. g.K.RecordSink.stops c.args.sink.now c.args.out.now zs fault c.tell_sons.new.sink c.tell_sons.new.out) one.xs one.ys es x c.tell_sons.result (one.es_is x x_is)
          (λ zs last. g.met.K.RecordSink.told_on c.args.sink.now c.tell_below-2.new.sink c.tell_sons.new.sink c.args.out.now c.tell_below-2.new.out c.tell_sons.new.out one.xs (x ∷ zs) first (g.met.K.RecordSink.told_on c.tell_below-2.new.sink c.tell_elements.new.sink c.tell_sons.new.sink c.tell_below-2.new.out c.tell_elements.new.out c.tell_sons.new.out (x ∷ []) zs second last))
          (λ zs fault stop. g.met.K.RecordSink.stops_on c.args.sink.now c.tell_below-2.new.sink c.tell_sons.new.sink c.args.out.now c.tell_below-2.new.out c.tell_sons.new.out one.xs (x ∷ zs) fault first (g.met.K.RecordSink.stops_on c.tell_below-2.new.sink c.tell_elements.new.sink c.tell_sons.new.sink c.tell_below-2.new.out c.tell_elements.new.out c.tell_sons.new.out (x ∷ []) zs fault second stop))
          call.0,
      if_taken c.tell_sons.result (c.tell_sons.new.left + length one.rest ≡ c.tell_below-2.new.left) (c.tell_sons.new.left + length us ≡ c.args.left.now) (λ is. omega (arith, is, left_is, size)) call.1,
    )

pub tell_sons-returns-clause-adds : goal.tell_sons-returns-clause-adds
tell_sons-returns-clause-adds g t c = λ steady between.
    let x : Element = c.index-elements-0.result in
    let x_is : x ≡ get_or c.args.elements.now 0 x = c.index-elements-0.is in
    let some : 0 < length c.args.elements.now = nonempty c.args.elements.now c.is_empty.result c.is_empty.ensures c.if-is_empty.false in
    let k = c.args.order in
    let before : Bounds = record { low = c.args.above.now.bounds.low; high = Some x.0 } in
    let behind : Bounds = record { low = Some x.0; high = c.args.above.now.bounds.high } in
    let tree = TreeOf (Spells k (at c.args.pages.now.pages)) 1 1 c.args.above.now.height in
    let pages_is : at c.tell_below-2.new.pages.pages ≡ at c.args.pages.now.pages = ap (λ (v : PagesView). at v.pages) c.in_ok-fault.ensures.reading.0.unchanged in
    let sons = take (length c.args.sons.now - 1) (drop 1 c.args.sons.now) in
    let els = take (length c.args.elements.now - 1) (drop 1 c.args.elements.now) in
    let els_is : els ≡ drop 1 c.args.elements.now = take_rest c.args.elements.now 1 in
    let front_told : Told = λ xs. g.K.RecordSink.told c.args.sink.now c.args.out.now xs c.tell_below-2.new.sink c.tell_below-2.new.out in
    let back_told : Told = λ xs. g.K.RecordSink.told c.tell_elements.new.sink c.tell_elements.new.out xs c.tell_sons.new.sink c.tell_sons.new.out in
    let all_told : Told = λ xs. g.K.RecordSink.told c.args.sink.now c.args.out.now xs c.tell_sons.new.sink c.tell_sons.new.out in
    let front = all_taken c.in_ok-fault.field-0 (Adds (tree (get_or c.args.sons.now 0 0)) before front_told c.args.left.now c.tell_below-2.new.left) c.in_default.field-0 c.in_default.is (c.in_ok-fault.ensures.adds steady) in
    let second = subst (λ zs. g.K.RecordSink.told c.tell_below-2.new.sink c.tell_below-2.new.out zs c.tell_elements.new.sink c.tell_elements.new.out) (take_one c.args.elements.now x some x_is) c.in_default-tell_elements.ensures in
    if_taken c.tell_sons.result (Adds (Fan (TreeOf (Spells k (at c.tell_below-2.new.pages.pages)) 1 1 c.args.above.now.height) sons els) behind back_told c.tell_below-2.new.left c.tell_sons.new.left)
    (Adds (Fan tree c.args.sons.now c.args.elements.now) c.args.above.now.bounds all_told c.args.left.now c.tell_sons.new.left)
    (λ back. adds_more tree c.args.sons.now c.args.elements.now x c.args.above.now.bounds front_told back_told all_told c.args.left.now c.tell_below-2.new.left c.tell_sons.new.left
    some c.requires.sons x_is between front
    (λ xs zs first last. g.met.K.RecordSink.told_on c.args.sink.now c.tell_below-2.new.sink c.tell_sons.new.sink c.args.out.now c.tell_below-2.new.out c.tell_sons.new.out xs (x ∷ zs) first (g.met.K.RecordSink.told_on c.tell_below-2.new.sink c.tell_elements.new.sink c.tell_sons.new.sink c.tell_below-2.new.out c.tell_elements.new.out c.tell_sons.new.out (x ∷ []) zs second last))
    (adds_below k (at c.args.pages.now.pages) (at c.tell_below-2.new.pages.pages) c.args.above.now.height c.args.above.now.height (drop 1 c.args.sons.now) sons (drop 1 c.args.elements.now) els behind back_told c.tell_below-2.new.left c.tell_sons.new.left
    pages_is refl (take_rest c.args.sons.now 1) els_is back))
    (c.tell_sons.ensures.adds (ap (λ (v : PagesView). v.steady) c.in_ok-fault.ensures.reading.0.unchanged ∙ steady) (subst (Between behind) (sym els_is) (rest_within c.args.above.now.bounds c.args.elements.now x some x_is between)))
