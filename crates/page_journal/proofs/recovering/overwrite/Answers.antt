use Rattle.page_journal.proofs.RunLemmas.{holds_begin, holds_write}
use Rattle.page_journal.proofs.recovering.overwrite.Goals as goal

pub returns-clause-sealed : goal.returns-clause-sealed
returns-clause-sealed g c = λ kept base sealed may.
    let d = g.D.DiskState in
    let old = c.args.disk.now in
    let holds = holds_write d kept base c.args.n old old c.write.new.self (holds_begin d kept base old (g.met.D.Disk.only_now old) sealed) may c.write.ensures.does.0 in
    (holds.sealed, holds.time)
