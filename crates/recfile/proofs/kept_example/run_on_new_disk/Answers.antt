use Rattle.std.proofs.Common.{ℕ, MatchOption, refl, ap, subst, arith}
use Rattle.std.specs.FinMap as maps
use Rattle.btree_node.specs.Layout.{second_version}
use Rattle.page_journal.specs.Files.{recovered}
use Rattle.page_journal.specs.declared.mem_disk.MemDisk.{MemDisk}
use Rattle.page_journal.specs.contracts.mem_disk.MemDiskDiskState.TheImpl.{ghosts}
use Rattle.recfile.specs.Kept.{ClosesSafely}
use Rattle.file_session.specs.Closing.{IsOutsideDisk}
use Rattle.recfile.specs.WholeSession.{EndsFile, opened_file}
use Rattle.recfile.proofs.OpenedLemmas.{no_records}
use Rattle.recfile.proofs.kept_example.run_on_new_disk.Goals as goal

pub returns : goal.returns
returns g c =
    let first = c.in_ok-disk.disk.first in
    let there = c.in_ok-disk.ensures.records in
    let counts = no_records second_version (recovered first).pages (recovered first).tail there.0 there.2 in (
      first,
      there,
      subst (λ (x : ℕ × ℕ). MatchOption c.run_kept.result.unopened (EndsFile c.args.manner (g.R.CountedRead.left c.args.reader.now) (g.R.CountedRead.left c.run_kept.new.reader) (g.W.CountedWrite.held c.args.out.now) (g.W.CountedWrite.held c.run_kept.new.out) c.args.calls.now c.run_kept.new.calls
          (opened_file maps.empty c.args.limits x.0) (ClosesSafely ghosts (recovered first) c.run_kept.result.disk c.run_kept.result.unclosed x.1) c.run_kept.result.unclosed c.run_kept.result.status) (IsOutsideDisk first))
          (λ i. (ap (λ (d : MemDisk). d.failures) c.in_ok-disk.ensures.new i, there.1 i))
          (c.run_kept.ensures.session refl there.0 maps.empty second_version there.2 (omega (arith, counts))),
    )
