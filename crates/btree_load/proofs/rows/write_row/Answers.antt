use Rattle.std.proofs.Common.{◌≡◌, ◌+◌, ◌-◌, ◌<◌, ◌≤◌, ⊎_elim, inl, inr, [], ◌∷◌, ◌++◌, ℕ, List, suc, length, Ok, refl, ap, sym, ◌∙◌, subst, arith}
use Rattle.btree_node.specs.declared.node.Node.{Node}
use Rattle.btree_node.specs.declared.node.NodeKind.TheVariants.{Inner}
use Rattle.btree_node.specs.Cut.{left_of}
use Rattle.btree_node.specs.Lists.{Element, Each}
use Rattle.btree_node.specs.Spelling.{spelling, CanStand, IsElement, IsSon}
use Rattle.btree_load.specs.Filling.{written_pages}
use Rattle.btree_load.specs.Rows.{wide, from, IsWide, IsRow}
use Rattle.btree_load.proofs.FillLemmas.{none_yet, fills_then, same_length, same_then, written_long}
use Rattle.btree_load.proofs.RowLemmas.{has_next, Progress, IsFront, row_begins, row_step, row_ends, front_begins, front_step, front_ends, page_stands, last_stands, Fullness, full_begins, full_step, longer}
use Rattle.btree_load.proofs.rows.write_row.Goals as goal

pub loop-at-init : goal.loop-at-init
loop-at-init g c = record {
  within = omega arith;
  enough = inl refl;
  front = front_begins c.args.kind c.args.elements.now c.new-2.result.items c.args.sons.now c.new.result.items c.new.ensures.items c.new-2.ensures.items c.requires.wide;
  full = full_begins c.args.k (length c.args.elements.now) c.new-2.result.items c.new-2.ensures.items;
  count = omega (arith, ap length c.new-2.ensures.items);
  same = same_length g.S.StoreState c.args.store.now;
  progress = λ steady least h es us low enough stands. row_begins c.args.k (written_pages g.S.StoreState c.args.count.now c.args.store.now) least h c.args.kind c.args.elements.now es c.new-2.result.items c.args.sons.now us c.new.result.items c.new.ensures.items c.new-2.ensures.items stands;
  fills = none_yet g.S.StoreState c.args.store.now;
}

pub encode-page-requires-clause-stands : goal.encode-page-requires-clause-stands
encode-page-requires-clause-stands g c =
    let all = wide c.args.kind c.args.elements.now c.args.sons.now in
    subst (λ (n : Node). CanStand n c.args.k) (sym c.node_of.ensures.same)
    (page_stands c.args.k c.loop-at.at c.share-size.result all (subst (λ (n : Node). Each IsElement n.elements.items) c.node_of.ensures.same c.node_of.ensures.fit) (omega (arith, c.requires.order.0, c.share-size.ensures.least)) c.share-size.ensures.most (omega (arith, c.share-size.ensures.next, c.loop-at.invariant.within)) c.requires.wide)

pub loop-at-preserved : goal.loop-at-preserved
loop-at-preserved g c =
    let all = wide c.args.kind c.args.elements.now c.args.sons.now in
    let k = c.args.k in
    let at = c.loop-at.at in
    let size = c.share-size.result in
    let i = c.loop-at.invariant in
    let share = c.share-size.ensures in
    let x : Element = c.index-elements-at.result in
    let low : at + size < length c.args.elements.now = omega (arith, share.next, i.within) in
    let some : 0 < size = omega (arith, c.requires.order.0, share.least) in
    let ok = c.in_ok-append_page.ensures in
    let q = c.in_ok-append_page.field-0 in
    let has = has_next g.S.StoreState k (length c.args.elements.now) at (length c.loop-at.row.between.items) c.args.count.now c.loop-at.count c.args.store.now c.loop-at.store c.requires.room i.same i.count i.full i.within in
    let son : IsSon q = record { some = omega (arith, ok.number, has.start); most = omega (arith, ok.number, has.room, has.most) } in
    let long = written_long g.S.StoreState c.loop-at.count 1 c.loop-at.store has in
    let page_is : c.encode-page.result ≡ spelling (left_of size (from at all)) k = c.encode-page.ensures ∙ ap (λ (n : Node). spelling n k) c.node_of.ensures.same in
    let fits : CanStand (left_of size (from at all)) k = page_stands k at size all (subst (λ (n : Node). Each IsElement n.elements.items) c.node_of.ensures.same c.node_of.ensures.fit) some share.most low c.requires.wide in
    let stored = written_pages g.S.StoreState c.loop-at.count c.loop-at.store in
    let new = written_pages g.S.StoreState c.append_page.new.count c.append_page.new.store in
    record {
      within = omega (arith, low);
      enough = inr (omega (arith, share.next, i.within));
      front = subst (λ (ss : List ℕ). IsFront (at + (size + 1)) all ss c.push-in-loop-at.new.self.items) (sym c.in_ok-push.ensures.items)
          (subst (λ (bs : List Element). IsFront (at + (size + 1)) all (c.loop-at.row.sons.items ++ q ∷ []) bs) (sym c.in_ok-push-2.ensures.items)
          (front_step at size q all c.loop-at.row.sons.items c.loop-at.row.between.items x son low c.index-elements-at.is i.front));
      full = subst (λ (m : ℕ). Fullness k (length c.args.elements.now) (at + (size + 1)) m) (sym (longer c.push-in-loop-at.new.self.items c.loop-at.row.between.items x c.in_ok-push-2.ensures.items))
          (full_step k (length c.args.elements.now) at size (length c.loop-at.row.between.items) share i.full (omega (arith, c.loop-at-test.true)));
      count = omega (arith, ok.count, i.count, longer c.push-in-loop-at.new.self.items c.loop-at.row.between.items x c.in_ok-push-2.ensures.items);
      same = same_then g.S.StoreState c.args.store.now c.loop-at.store c.append_page.new.store i.same ok.long;
      progress = λ steady least h es us few enough stands.
          let new_is : new ≡ stored ++ spelling (left_of size (from at all)) k ∷ [] = ok.pages (i.fills.steady ∙ steady) ∙ ap (λ (page : List ℕ). stored ++ page ∷ []) page_is in
          subst (λ (ss : List ℕ). Progress k new least h (at + (size + 1)) all ss c.push-in-loop-at.new.self.items es) (sym c.in_ok-push.ensures.items)
          (subst (λ (bs : List Element). Progress k new least h (at + (size + 1)) all (c.loop-at.row.sons.items ++ q ∷ []) bs es) (sym c.in_ok-push-2.ensures.items)
          (row_step k least h at size q stored new all c.loop-at.row.sons.items c.loop-at.row.between.items es x fits (omega (arith, long, has.start)) new_is (ok.number ∙ sym long) (omega (arith, few, share.least)) low c.index-elements-at.is
          (i.progress steady least h es us few enough stands)));
      fills = fills_then g.S.StoreState c.args.store.now c.loop-at.store c.append_page.new.store tt (Ok tt) i.fills (record {
        steady = ok.fills.steady;
        opening = ok.fills.opening;
        reads = ok.fills.reads;
        shapes = ok.fills.shapes;
        failures = ok.fills.failures;
        guard = ok.fills.guard;
      });
    }

pub encode-page-requires-2-clause-stands : goal.encode-page-requires-2-clause-stands
encode-page-requires-2-clause-stands g c =
    let all = wide c.args.kind c.args.elements.now c.args.sons.now in
    let i = c.loop-at.invariant in
    let at = c.loop-at.at in
    let size = length c.args.elements.now - at in
    subst (λ (n : Node). CanStand n c.args.k) (sym c.node_of-2.ensures.same)
    (last_stands c.args.k at size all (subst (λ (n : Node). Each IsElement n.elements.items) c.node_of-2.ensures.same c.node_of-2.ensures.fit)
    (⊎_elim (λ (is : at ≡ 0). omega (arith, is, c.requires.some)) (λ (far : at + c.args.k ≤ length c.args.elements.now). omega (arith, far, c.requires.order.0)) i.enough)
    c.loop-at-test.false (omega (arith, i.within)) c.requires.wide)

pub returns-clause-row : goal.returns-clause-row
returns-clause-row g c = λ steady least h es us few enough stands.
    let all = wide c.args.kind c.args.elements.now c.args.sons.now in
    let k = c.args.k in
    let at = c.loop-at.at in
    let size = length c.args.elements.now - at in
    let i = c.loop-at.invariant in
    let ok = c.in_ok-append_page-2.ensures in
    let q = c.in_ok-append_page-2.field-0 in
    let has = has_next g.S.StoreState k (length c.args.elements.now) at (length c.loop-at.row.between.items) c.args.count.now c.loop-at.count c.args.store.now c.loop-at.store c.requires.room i.same i.count i.full i.within in
    let long = written_long g.S.StoreState c.loop-at.count 1 c.loop-at.store has in
    let stored = written_pages g.S.StoreState c.loop-at.count c.loop-at.store in
    let new = written_pages g.S.StoreState c.append_page-2.new.count c.append_page-2.new.store in
    let page_is : c.encode-page-2.result ≡ spelling (left_of size (from at all)) k = c.encode-page-2.ensures ∙ ap (λ (n : Node). spelling n k) c.node_of-2.ensures.same in
    let new_is : new ≡ stored ++ spelling (left_of size (from at all)) k ∷ [] = ok.pages (i.fills.steady ∙ steady) ∙ ap (λ (page : List ℕ). stored ++ page ∷ []) page_is in
    let some : 0 < size = ⊎_elim (λ (is : at ≡ 0). omega (arith, is, c.requires.some)) (λ (far : at + k ≤ length c.args.elements.now). omega (arith, far, c.requires.order.0)) i.enough in
    let least_is : least ≤ size = ⊎_elim (λ (is : at ≡ 0). omega (arith, is, enough)) (λ (far : at + k ≤ length c.args.elements.now). omega (arith, far, few)) i.enough in
    let fits : CanStand (left_of size (from at all)) k = last_stands k at size all (subst (λ (n : Node). Each IsElement n.elements.items) c.node_of-2.ensures.same c.node_of-2.ensures.fit) some c.loop-at-test.false (omega (arith, i.within)) c.requires.wide in
    subst (λ (ss : List ℕ). IsRow k new least (suc h) (wide Inner c.loop-at.row.between.items ss) es) (sym c.in_ok-push-3.ensures.items)
    (row_ends k least h at size q stored new all c.loop-at.row.sons.items c.loop-at.row.between.items es c.requires.wide fits (omega (arith, long, has.start)) new_is (ok.number ∙ sym long) least_is (omega (arith, i.within))
    (i.progress steady least h es us few enough stands))

pub returns-clause-wide : goal.returns-clause-wide
returns-clause-wide g c =
    let all = wide c.args.kind c.args.elements.now c.args.sons.now in
    let i = c.loop-at.invariant in
    let ok = c.in_ok-append_page-2.ensures in
    let q = c.in_ok-append_page-2.field-0 in
    let has = has_next g.S.StoreState c.args.k (length c.args.elements.now) c.loop-at.at (length c.loop-at.row.between.items) c.args.count.now c.loop-at.count c.args.store.now c.loop-at.store c.requires.room i.same i.count i.full i.within in
    let son : IsSon q = record { some = omega (arith, ok.number, has.start); most = omega (arith, ok.number, has.room, has.most) } in
    subst (λ (ss : List ℕ). IsWide (wide Inner c.loop-at.row.between.items ss)) (sym c.in_ok-push-3.ensures.items)
    (front_ends c.loop-at.at q all c.loop-at.row.sons.items c.loop-at.row.between.items son i.front)

pub append_page-requires : goal.append_page-requires
append_page-requires g c =
    let i = c.loop-at.invariant in
    has_next g.S.StoreState c.args.k (length c.args.elements.now) c.loop-at.at (length c.loop-at.row.between.items) c.args.count.now c.loop-at.count c.args.store.now c.loop-at.store c.requires.room i.same i.count i.full i.within

pub append_page-requires-2 : goal.append_page-requires-2
append_page-requires-2 g c =
    let i = c.loop-at.invariant in
    has_next g.S.StoreState c.args.k (length c.args.elements.now) c.loop-at.at (length c.loop-at.row.between.items) c.args.count.now c.loop-at.count c.args.store.now c.loop-at.store c.requires.room i.same i.count i.full i.within
