use Rattle.std.proofs.Common.{◌≡◌, take, map}
use Rattle.tx_log.specs.LogState.{open_in, history_in}
use Rattle.record_file.specs.Steps.{entry_with}
use Rattle.record_file.proofs.file.looks.with_owners.Given as goal

abbrev pub invariant-loop-key : goal.invariant-loop-key
invariant-loop-key l = l.entries.items ≡ map (entry_with (open_in l.log) (history_in l.log)) (take l.key-index l.records)
