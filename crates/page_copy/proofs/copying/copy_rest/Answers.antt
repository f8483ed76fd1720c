use Rattle.std.proofs.Common.{◌∙◌, sym, arith, length}
use Rattle.std.proofs.lemmas.Result.{err_from_is_err_and}
use Rattle.page_store.specs.Journal.{writes_below}
use Rattle.page_store.proofs.JournalLemmas.{failed_writes, write_noted}
use Rattle.page_store.proofs.WriteBackLemmas.{pages_put}
use Rattle.page_copy.specs.Copying.{behind_first}
use Rattle.page_copy.proofs.CopyingLemmas.{behind_some, stopped, stored_at}
use Rattle.page_copy.proofs.copying.copy_rest.Goals as goal

pub returns-in_err-copy_page-clause-calls : goal.returns-in_err-copy_page-clause-calls
returns-in_err-copy_page-clause-calls g c steady =
    let told = err_from_is_err_and c.from_residual.result c.from_residual.ensures.1 in
    let pages = g.S.StoreState.pages c.args.source.now in
    let below = c.loop-n-test.true in
    let count = c.requires.count in
    stopped (writes_below (behind_first pages) (length pages)) _ _ told.0 c.from_residual.result told.1
    (failed_writes (behind_first pages) c.loop-n.n (length pages) _ (g.T.StoreState.journal c.loop-n.copy) _ (omega arith) (c.loop-n.invariant.calls steady) c.in_err-copy_page.ensures.no_call)

pub loop-n-preserved : goal.loop-n-preserved
loop-n-preserved g c =
    let pages = g.S.StoreState.pages c.args.source.now in
    let low = c.loop-n.auto.n in
    let below = c.loop-n-test.true in
    let long = c.loop-n.invariant.long in
    let as_long = c.requires.long in
    let count = c.requires.count in
    let old = c.loop-n.invariant in
    record {
      put = λ steady steady_copy.
          pages_put (behind_first pages) (g.T.StoreState.pages c.loop-n.copy) _ c.loop-n.n c.copy_page.new.page (omega arith) (old.put steady steady_copy)
          (behind_some pages (g.S.StoreState.pages c.loop-n.source) c.loop-n.n c.copy_page.new.page (omega arith) old.stays.pages (c.in_ok-copy_page.ensures.read (old.stays.steady ∙ steady)))
          (c.in_ok-copy_page.ensures.put (old.steady ∙ steady_copy));
      long = c.copy_page.ensures.shape.0 ∙ old.long;
      tail = c.copy_page.ensures.shape.1 ∙ old.tail;
      calls = λ steady.
          write_noted (behind_first pages) c.loop-n.n c.copy_page.new.page _ (g.T.StoreState.journal c.loop-n.copy) _
          (sym (behind_some pages (g.S.StoreState.pages c.loop-n.source) c.loop-n.n c.copy_page.new.page (omega arith) old.stays.pages (c.in_ok-copy_page.ensures.read (old.stays.steady ∙ steady))))
          (old.calls steady) c.in_ok-copy_page.ensures.call;
      stays = record {
        pages = c.copy_page.ensures.stays.pages ∙ old.stays.pages;
        tail = c.copy_page.ensures.stays.tail ∙ old.stays.tail;
        steady = c.copy_page.ensures.stays.steady ∙ old.stays.steady;
        opening = c.copy_page.ensures.stays.opening ∙ old.stays.opening;
        writes = c.copy_page.ensures.stays.writes ∙ old.stays.writes;
        journal = c.copy_page.ensures.stays.journal ∙ old.stays.journal;
        guard = c.copy_page.ensures.stays.guard ∙ old.stays.guard;
      };
      fails = c.in_ok-copy_page.ensures.fails ∙ old.fails;
      copy_fails = c.in_ok-copy_page.ensures.copy_fails ∙ old.copy_fails;
      steady = c.copy_page.ensures.shape.2 ∙ old.steady;
    }

pub returns-clause-put : goal.returns-clause-put
returns-clause-put g c steady steady_copy n some =
    let pages = g.S.StoreState.pages c.args.source.now in
    let done = c.loop-n-test.false in
    let count = c.requires.count in
    c.loop-n.invariant.put steady steady_copy n (let below = stored_at pages n some in omega arith) some
