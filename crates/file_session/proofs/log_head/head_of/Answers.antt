use Rattle.std.proofs.Common.{◌<◌, inr, refl, arith, rules, length}
use Rattle.page_store.specs.FreeNumbers.{greatest_page_count}
use Rattle.file_session.proofs.log_head.head_of.Goals as goal

pub returns-then-pages-from-clause-fault : goal.returns-then-pages-from-clause-fault
returns-then-pages-from-clause-fault g c = λ steady.
    let more : greatest_page_count < length (g.D.DiskState.seen c.args.store.now.disk).main.pages = search rules in
    inr (refl, (λ has. absurd (omega (arith, has.most, more))))
