use Rattle.std.proofs.Common.{rules}
use Rattle.recfile.proofs.streams.StreamCalls.new.Goals as goal

pub returns : goal.returns
returns g c = search rules
