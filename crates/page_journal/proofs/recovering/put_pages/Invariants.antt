use Rattle.std.proofs.Common.{◌≡◌, ℕ, List, length, IsTrue}
use Rattle.page_journal.specs.Files.{SideFile}
use Rattle.page_journal.specs.Crash.{IsSealed, LeavesLogs}
use Rattle.page_journal.proofs.PuttingLemmas.{Puts}
use Rattle.page_journal.proofs.recovering.put_pages.Given as goal

abbrev pub invariant-loop-i : goal.invariant-loop-i
invariant-loop-i g l = record {
  long : l.long ≡ length (g.D.DiskState.seen l.disk).main.pages;
  steady : g.D.DiskState.steady l.disk ≡ g.D.DiskState.steady l.fn.disk;
  began : g.D.DiskState.began l.disk ≡ g.D.DiskState.began l.fn.disk;
  logs : LeavesLogs g.D.DiskState l.fn.disk l.disk;
  tail : (g.D.DiskState.seen l.disk).main.tail ≡ (g.D.DiskState.seen l.fn.disk).main.tail;
  failures : g.D.DiskState.failures l.disk ≡ g.D.DiskState.failures l.fn.disk;
  put : IsTrue (g.D.DiskState.steady l.fn.disk) → (kept : SideFile) (base : List (List ℕ)) → kept.long ≡ l.long → length kept.pages ≡ l.count → IsSealed g.D.DiskState kept base l.fn.disk → Puts g.D.DiskState kept base l.i l.fn.disk l.disk;
}
