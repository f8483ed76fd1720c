use Rattle.std.proofs.Common.{◌≡◌, ◌≤◌, length, IsTrue}
use Rattle.page_journal.specs.Crash.{LeavesLogs}
use Rattle.page_journal.proofs.PuttingLemmas.{Gathers}
use Rattle.page_journal.proofs.sealing.gather.Given as goal

abbrev pub invariant-loop-n : goal.invariant-loop-n
invariant-loop-n g l = record {
  steady : g.D.DiskState.steady l.disk ≡ g.D.DiskState.steady l.fn.disk;
  began : g.D.DiskState.began l.disk ≡ g.D.DiskState.began l.fn.disk;
  logs : LeavesLogs g.D.DiskState l.fn.disk l.disk;
  same : (g.D.DiskState.seen l.disk).main ≡ (g.D.DiskState.seen l.fn.disk).main;
  failures : g.D.DiskState.failures l.disk ≡ g.D.DiskState.failures l.fn.disk;
  inside : l.n ≤ length l.marks;
  had : IsTrue (g.D.DiskState.steady l.fn.disk) → Gathers g.D.DiskState (g.D.DiskState.seen l.fn.disk).main l.marks l.n l.fn.disk l.disk;
}
