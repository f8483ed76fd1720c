use Rattle.std.proofs.Common.{◌≡◌, ◌≤◌, Some, IsTrue}
use Rattle.page_journal.specs.Files.{SideFile}
use Rattle.page_journal.specs.Steps.{Stays, side_shape}
use Rattle.page_journal.proofs.BelongLemmas.{Passed}
use Rattle.page_journal.proofs.recovering.sum_of_others.Given as goal

abbrev pub invariant-loop-i : goal.invariant-loop-i
invariant-loop-i g l = record {
  stays : Stays g.D.DiskState l.fn.disk l.disk;
  failures : g.D.DiskState.failures l.disk ≡ g.D.DiskState.failures l.fn.disk;
  below : l.next ≤ l.side.long;
  passed : IsTrue (g.D.DiskState.steady l.fn.disk) → (kept : SideFile) → (g.D.DiskState.seen l.fn.disk).side ≡ Some kept → side_shape (Some kept) ≡ Some l.side → Passed kept (g.D.DiskState.seen l.fn.disk).main.pages l.i l.next l.sum;
}
