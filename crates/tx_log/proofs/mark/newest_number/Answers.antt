use Rattle.std.proofs.Common.{arith}
use Rattle.tx_log.proofs.MarkLemmas.{none_read, newest_read}
use Rattle.tx_log.proofs.mark.newest_number.Goals as goal

pub returns-then-from-eq0 : goal.returns-then-from-eq0
returns-then-from-eq0 c = λ rs is marked. none_read rs c.args.from is c.if-from-eq0.true

pub returns-else-from-eq0 : goal.returns-else-from-eq0
returns-else-from-eq0 c = λ rs is marked. newest_read c.args.log.now.marks rs c.args.from c.mark.result is marked (let no = c.if-from-eq0.false in omega arith) c.requires c.mark.ensures
