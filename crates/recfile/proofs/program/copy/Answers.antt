use Rattle.std.proofs.Common.{inr, ℕ, ap, subst}
use Rattle.rec_types.specs.LimitBounds.{Bounds}
use Rattle.recfile.specs.FilesAt.{Copies}
use Rattle.recfile.proofs.CopiedLemmas.{copy_of_old, fault_of_old, ok_so, stays_on, still_opened}
use Rattle.recfile.proofs.program.copy.Goals as goal

pub returns : goal.returns
returns g c =
    let stores = g.P.Pages.StoreState in
    let opened = c.in_ok-store.store in
    let whole = c.in_ok-store-2.store in
    let limit = c.greatest_limits.result.records in
    let stays = c.in_ok-store-2.ensures.stays in
    let done = c.copy_into.result in
    subst (λ (n : ℕ). Copies stores (g.P.PageFiles.at c.args.files.now c.args.path.now) n done) (ap (λ (l : Bounds). l.records) c.greatest_limits.ensures)
    (inr (record {
      opened = opened;
      found = c.in_ok-store.ensures.found;
      closed = λ steady. ok_so done _ (c.in_ok-store-2.ensures.closed steady);
      copied = copy_of_old stores opened whole stays done c.copy_into.ensures.copied;
      fault = λ steady. fault_of_old stores opened whole stays limit done (c.copy_into.ensures.fault limit (still_opened stores opened whole stays limit (c.in_ok-store-2.ensures.closed steady)));
      store = c.copy_into.new.source;
      stays = stays_on stores opened whole stays c.copy_into.new.source c.copy_into.ensures.stays;
    }))
