use Rattle.std.proofs.Common.{◌≡◌, take}
use Rattle.record_file.specs.Runs.{seen}
use Rattle.record_file.specs.Calls.{MakesAll}
use Rattle.record_file.proofs.call.run_calls.Given as goal

-- the calls up to here are made
abbrev pub invariant-loop-call : goal.invariant-loop-call
invariant-loop-call g l = record {
  made : l.made ≡ l.call-index;
  all : MakesAll (seen g.T.TableState l.fn.file) (take l.call-index l.fn.calls) l.answers.items (seen g.T.TableState l.file);
}
