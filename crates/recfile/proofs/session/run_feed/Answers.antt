use Rattle.std.proofs.Common.{rules}
use Rattle.recfile.proofs.session.run_feed.Goals as goal

pub returns-in-Script-clause-ran : goal.returns-in-Script-clause-ran
returns-in-Script-clause-ran g c = search rules
