-- What a session over a disk leaves.
use Rattle.std.proofs.Common.{◌≡◌, ℕ, Option, Some, None, MatchOption, sym, subst}
use Rattle.btree_delete.specs.TableView.{TableView, table_contents}
use Rattle.page_journal.specs.Files.{PageFile}
use Rattle.page_journal.specs.declared.disk_state.DiskState.{Ghosts}
use Rattle.recfile.specs.Kept.{ClosesSafely}
use Rattle.file_session.specs.declared.file_fault.FileFault.{FileFault}

-- the same of the table that a file has
pub safely : {D : Type 0} (g : Ghosts D) (old : PageFile) (disk : D) (unclosed : Option FileFault) (t now : TableView) (order : ℕ) → t ≡ now → now.tree.order ≡ order
    → ClosesSafely g old disk unclosed t.tree.order (table_contents t) → ClosesSafely g old disk unclosed order (table_contents now)
safely g old disk unclosed t now order table is known =
    subst (λ (k : ℕ). ClosesSafely g old disk unclosed k (table_contents now)) is
    (subst (λ (x : TableView). ClosesSafely g old disk unclosed x.tree.order (table_contents x)) table known)

pub wider : {A : Type 0} (o : Option A) (P : Type 0) (Q R : A → Type 0) → ((x : A) → Q x → R x) → MatchOption o P Q → MatchOption o P R
wider None P Q R more known = known
wider (Some x) P Q R more known = more x known

pub at_some : {A : Type 0} (o : Option A) (x : A) (P : Type 0) (Q : A → Type 0) → o ≡ Some x → Q x → MatchOption o P Q
at_some o x P Q is known = subst (λ y. MatchOption y P Q) (sym is) known
