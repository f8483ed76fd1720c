use Rattle.std.proofs.Common.{◌≡◌, IsTrue, get_or, false}
use Rattle.page_journal.specs.Sums.{sum_without}
use Rattle.page_journal.specs.Steps.{Stays}
use Rattle.page_journal.proofs.sealing.sum_of_rest.Given as goal

abbrev pub invariant-loop-n : goal.invariant-loop-n
invariant-loop-n g l = record {
  stays : Stays g.D.DiskState l.fn.disk l.disk;
  failures : g.D.DiskState.failures l.disk ≡ g.D.DiskState.failures l.fn.disk;
  sum : IsTrue (g.D.DiskState.steady l.fn.disk) → l.sum ≡ sum_without (λ k. get_or l.marks k false) l.n (g.D.DiskState.seen l.fn.disk).main.pages;
}
