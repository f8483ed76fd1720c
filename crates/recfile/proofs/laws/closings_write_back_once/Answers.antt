use Rattle.std.proofs.Common.{refl}
use Rattle.recfile.proofs.WritingLemmas.{nothing_written, written_twice, kept_first, unchanged}
use Rattle.recfile.proofs.laws.closings_write_back_once.Goals as goal

pub returns : goal.returns
returns c = record {
  nothing = nothing_written;
  twice = written_twice;
  kept_first = kept_first;
  unchanged = unchanged;
  no_memory = λ old new t written. written.1 refl;
}
