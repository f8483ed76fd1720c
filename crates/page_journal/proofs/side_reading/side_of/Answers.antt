use Rattle.std.proofs.Common.{arith}
use Rattle.page_journal.proofs.SideReadingLemmas.{side_is}
use Rattle.page_journal.proofs.side_reading.side_of.Goals as goal

pub returns-clause-value : goal.returns-clause-value
returns-clause-value c = side_is c.args.bytes.now c.number_said-long.result c.number_said-said.result c.in-Some.count c.rest_said-rest.result c.in_ok-pages.pages.items c.rest_said-rest.ensures c.number_said-long.ensures c.number_said-said.ensures (omega arith) c.in_ok-pages.ensures
