use Rattle.std.proofs.Common.{ℕ, List, subst, arith}
use Rattle.page_rescue.specs.Rescue.{GrowsBy, HasPageAt, IsInPages}
use Rattle.page_rescue.proofs.RescueLemmas.{both_set, grows_more, pages_more, stays_on, steady_on}
use Rattle.page_rescue.proofs.rescue.take_whole.Goals as goal

pub loop-n-preserved : goal.loop-n-preserved
loop-n-preserved g c =
    let s = g.S.StoreState in
    let stays = c.loop-n.invariant.stays in
    record {
      stays = stays_on s c.args.store.now c.loop-n.store c.take_at.new.store stays c.take_at.ensures.stays;
      grows = grows_more s c.args.store.now c.loop-n.store c.args.table.now.contents c.loop-n.table.contents c.take_at.new.table.contents stays c.loop-n.invariant.grows c.in_ok-was_read.ensures.grows;
      has = λ steady complete.
          let set = both_set c.loop-n.complete c.in_ok-was_read.was_read complete in
          let now = steady_on s c.args.store.now c.loop-n.store stays steady in
          let grew = subst (λ (pages : List (List ℕ)). GrowsBy (IsInPages pages) c.loop-n.table.contents c.take_at.new.table.contents) stays.pages (c.in_ok-was_read.ensures.grows now) in
          pages_more (s.pages c.args.store.now) c.loop-n.n c.loop-n.table.contents c.take_at.new.table.contents grew (c.loop-n.invariant.has steady set.0)
          (subst (HasPageAt c.loop-n.n c.take_at.new.table.contents) stays.pages (c.in_ok-was_read.ensures.has now set.1));
    }

pub returns-clause-has : goal.returns-clause-has
returns-clause-has g c steady complete n less = c.loop-n.invariant.has steady complete n (omega (arith, less, c.loop-n-test.false))
