use Rattle.std.proofs.Common.{[]}
use Rattle.recfile_tests.proofs.running.lying.LyingTableTable.tell_beside.Goals as goal

-- nothing was told
pub returns-in-Some-Damaged-clause-some : goal.returns-in-Some-Damaged-clause-some
returns-in-Some-Damaged-clause-some g c = ([], g.met.K.RecordSink.told_none c.args.sink.now c.args.out.now)
