use Rattle.std.proofs.Common.{◌∷◌, [], ℕ, MatchOption, refl, ap, subst, arith}
use Rattle.std.specs.FinMap as maps
use Rattle.btree_node.specs.Layout.{second_version}
use Rattle.page_journal.specs.Files.{recovered}
use Rattle.page_journal.specs.declared.mem_disk.MemDisk.{MemDisk}
use Rattle.page_journal.specs.contracts.mem_disk.MemDiskDiskState.TheImpl.{ghosts}
use Rattle.recfile.specs.DurableSession.{EndsDurably}
use Rattle.file_session.specs.Closing.{IsOutsideDisk}
use Rattle.file_session.specs.LogOver.{head_line}
use Rattle.recfile.proofs.OpenedLemmas.{no_records}
use Rattle.recfile.proofs.kept_example.run_durably_on_new_disk.Goals as goal

pub returns : goal.returns
returns g c =
    let first = c.in_ok-disk.disk.first in
    let there = c.in_ok-disk.ensures.records in
    let counts = no_records second_version (recovered first).pages (recovered first).tail there.0 there.2 in (
      first,
      there,
      subst (λ (n : ℕ). MatchOption c.run_durable.result.unopened (EndsDurably ghosts c.args.manner (g.R.CountedRead.left c.args.reader.now) (g.R.CountedRead.left c.run_durable.new.reader) (g.W.CountedWrite.held c.args.out.now) (g.W.CountedWrite.held c.run_durable.new.out) c.args.calls.now c.run_durable.new.calls
          c.args.order maps.empty c.args.limits n ((head_line (recovered first) ∷ []) ∷ []) c.run_durable.result.unclosed c.run_durable.result.status c.run_durable.result.flushed c.run_durable.result.disk) (IsOutsideDisk first))
          (ap (λ (d : MemDisk). d.failures) c.in_ok-disk.ensures.new)
          (c.run_durable.ensures.session refl c.args.order maps.empty (second_version, there.0, there.1, there.2, omega (arith, counts))),
    )
