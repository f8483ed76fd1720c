-- What closing a file leaves.
use Rattle.std.proofs.Common.{◌≡◌, ◌≤◌, inl, inr, Result, Ok, Err, OnOk, refl, sym, subst}
use Rattle.rec_types.specs.Contents.{Contents}
use Rattle.rec_types.specs.LimitBounds.{most_records}
use Rattle.btree_delete.specs.TableView.{TableView, IsClosed, table_contents}
use Rattle.page_journal.specs.Files.{PageFile, Files}
use Rattle.page_journal.specs.Crash.{IsSettled}
use Rattle.page_journal.specs.Recovery.{IsForeign}
use Rattle.page_journal.specs.declared.disk_state.DiskState.{Ghosts}
use Rattle.page_journal.specs.declared.recovery_fault.RecoveryFault.{RecoveryFault}
use Rattle.page_journal.specs.declared.recovery_fault.RecoveryFault.TheVariants as recovering
use Rattle.file_session.specs.FileFaults.{fault_of_recovery}
use Rattle.file_session.specs.Closing.{HasRecords, IsKeptWith, IsOutsideDisk}
use Rattle.file_session.specs.LogOver.{HoldsRecords}
use Rattle.file_session.specs.declared.file_fault.FileFault.{FileFault}

pub has_records : (was now : TableView) (file found : PageFile) → was.tree.order ≡ now.tree.order → table_contents was ≡ table_contents now → found ≡ file
    → IsClosed 2 file.pages file.tail was.tree (table_contents was) → HasRecords now.tree.order (table_contents now) found
has_records was now file found order same is closed =
    subst (HasRecords now.tree.order (table_contents now)) (sym is) (was.tree, order, subst (λ (m : Contents). IsClosed 2 file.pages file.tail was.tree m) same closed)

pub holds_records : (was now : TableView) (file found : PageFile) → was.tree.order ≡ now.tree.order → table_contents was ≡ table_contents now → found ≡ file
    → IsClosed 2 file.pages file.tail was.tree (table_contents was) → was.tree.count ≤ most_records → HoldsRecords now.tree.order (table_contents now) found
holds_records was now file found order same is closed count =
    subst (HoldsRecords now.tree.order (table_contents now)) (sym is) (2, was.tree, order, subst (λ (m : Contents). IsClosed 2 file.pages file.tail was.tree m) same closed, count)

pub kept_so : {D E : Type 0} (g : Ghosts D) (answer : Result (Unit {0}) E) (was now : TableView) (file : PageFile) (disk : D) → was.tree.order ≡ now.tree.order → table_contents was ≡ table_contents now → (g.seen disk).main ≡ file
    → IsClosed 2 file.pages file.tail was.tree (table_contents was) → OnOk answer (IsSettled g file disk) → OnOk answer (IsKeptWith g now.tree.order (table_contents now) disk)
kept_so g (Ok x) was now file disk order same is closed settled = record {
  has = has_records was now file (g.seen disk).main order same is closed;
  settled = subst (λ (f : PageFile). IsSettled g f disk) (sym is) settled;
}
kept_so g (Err e) was now file disk order same is closed settled = tt

pub not_recovered : (files : Files) (fault : RecoveryFault) (named : FileFault) → named ≡ fault_of_recovery fault → (fault ≡ recovering.BadJournal → IsForeign files) → IsOutsideDisk files named
not_recovered files recovering.Device named is foreign = inl (inl is)
not_recovered files recovering.BadJournal named is foreign = inr (is, foreign refl)

pub always : {A E : Type 0} (answer : Result A E) (P : Type 0) → P → OnOk answer P
always (Ok x) P known = known
always (Err e) P known = tt

pub ok_wider : {A E : Type 0} (answer : Result A E) (P Q : Type 0) → (P → Q) → OnOk answer P → OnOk answer Q
ok_wider (Ok x) P Q more known = more known
ok_wider (Err e) P Q more known = tt
