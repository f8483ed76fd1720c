use Rattle.std.proofs.Common.{◌≡◌, List, ℕ, Result, OnOk, refl, sym, subst}
use Rattle.std.specs.FinMap as maps
use Rattle.rec_types.specs.Contents.{Contents}
use Rattle.btree_insert.specs.declared.tree.Tree.{Tree}
use Rattle.btree_node.specs.Layout.{second_version}
use Rattle.btree_delete.specs.TableView.{IsClosed}
use Rattle.page_journal.specs.Files.{recovered}
use Rattle.page_journal.specs.declared.mem_disk.MemDisk.{MemDisk}
use Rattle.file_session.specs.declared.file_fault.FileFault.{FileFault}
use Rattle.recfile.proofs.kept_example.new_disk.Goals as goal

-- and no bytes after its pages
untailed : (version : ℕ) (pages : List (List ℕ)) (tail : ℕ) (tree : Tree) (contents : Contents) → IsClosed version pages tail tree contents → IsClosed version pages 0 tree contents
untailed version pages tail tree contents closed = subst (λ k. IsClosed version pages k tree contents) closed.clean.begins.long.no_tail closed

pub returns-in-Ok-clause-records : goal.returns-in-Ok-clause-records
returns-in-Ok-clause-records c =
    let made = subst (λ (r : Result (Unit {0}) FileFault). OnOk r ((tree : Tree) × (tree.order ≡ c.args.order) × IsClosed second_version c.create_in-store.result.0.pages c.create_in-store.result.0.tail tree maps.empty)) c.in_ok-made.was (c.create_in-store.ensures.made refl) in (
      made.0,
      made.1,
      subst (λ (d : MemDisk). IsClosed second_version (recovered d.first).pages (recovered d.first).tail made.0 maps.empty) (sym c.in-Ok.ensures)
          (subst (λ (ps : List (List ℕ)). IsClosed second_version ps 0 made.0 maps.empty) (sym c.pages.ensures) (untailed second_version c.create_in-store.result.0.pages c.create_in-store.result.0.tail made.0 maps.empty made.2)),
    )
