use Rattle.std.proofs.Common.{◌≡◌, ◌≤◌, IsTrue}
use Rattle.page_journal.specs.Sums.{SumsOn}
use Rattle.page_journal.specs.Steps.{Stays}
use Rattle.page_journal.proofs.recovering.sum_pages.Given as goal

abbrev pub invariant-loop-n : goal.invariant-loop-n
invariant-loop-n g l = record {
  stays : Stays g.D.DiskState l.fn.disk l.disk;
  failures : g.D.DiskState.failures l.disk ≡ g.D.DiskState.failures l.fn.disk;
  above : l.fn.from ≤ l.n;
  sum : IsTrue (g.D.DiskState.steady l.fn.disk) → SumsOn (g.D.DiskState.seen l.fn.disk).main.pages l.fn.from l.n l.fn.sum l.sum;
}
