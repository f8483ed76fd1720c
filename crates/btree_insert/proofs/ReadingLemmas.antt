-- Calls that read pages, one after another.
use Rattle.std.proofs.Common.{ℕ, ◌+◌, ◌≤◌, Result, Ok, ap, ◌∙◌, arith}
use Rattle.rec_types.specs.Table.{counted}
use Rattle.page_store.specs.PagesView.{PagesView, with_reads}
use Rattle.btree_insert.specs.declared.tree.TreeFault.{TreeFault}
use Rattle.btree_insert.specs.Edits.{Reads}
use Rattle.btree_insert.specs.Faults.{is_tree_device}

-- a call that succeeds and one behind it
pub reads_then : {A B : Type 0} (m n most : ℕ) (old mid new : PagesView) (x : A) (answer : Result B TreeFault) → m + n ≤ most → Reads m old (Ok x) mid → Reads n mid answer new → Reads most old answer new
reads_then m n most old mid new x answer few first second = record {
  unchanged = second.unchanged ∙ ap (λ (v : PagesView). with_reads v new) first.unchanged;
  device = second.device ∙ ap (λ (f : ℕ). counted f (is_tree_device answer)) first.device;
  reads = omega (arith, first.reads, second.reads, few);
}
