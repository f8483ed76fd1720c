use Rattle.std.proofs.Common.{◌≡◌}
use Rattle.page_journal.specs.Sums.{sum_words}
use Rattle.page_journal.proofs.side_bytes.sum_on.Given as goal

abbrev pub invariant-loop-i : goal.invariant-loop-i
invariant-loop-i l = l.sum ≡ sum_words l.i l.fn.sum l.bytes
