use Rattle.tx_log.proofs.MarkLemmas.{absent_read}
use Rattle.tx_log.proofs.mark.is_absent_below.Goals as goal

pub returns : goal.returns
returns c = λ rs us n u is marked e at.
    absent_read c.args.log.now.marks rs us n c.args.lsn u c.mark.result is marked e at c.requires.some c.requires.within c.mark.ensures
