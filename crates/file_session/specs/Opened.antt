-- Which page files are opened, and why one is not.
use Rattle.std.specs.Prelude.{◌≡◌, ℕ, ◌≤◌, ◌⊎◌, List}
use Rattle.rec_types.specs.Contents.{Contents}
use Rattle.btree_insert.specs.declared.tree.Tree.{Tree}
use Rattle.btree_delete.specs.CleanFile.{IsFirst}
use Rattle.btree_delete.specs.TableView.{IsClosed}
use Rattle.btree_delete.specs.declared.opening.open_fault.OpenFault.{OpenFault}
use Rattle.file_session.specs.FileFaults.{fault_of_opening}
use Rattle.file_session.specs.declared.file_fault.FileFault.{FileFault}
use Rattle.file_session.specs.declared.file_fault.FileFault.TheVariants.{Device, Memory}

-- the pages are a closed file of at most so many records
abbrev pub CanBeOpened : List (List ℕ) → ℕ → ℕ → Type 0
CanBeOpened stored tail limit =
    (tree : Tree) × (contents : Contents) × (version : ℕ) × IsClosed version stored tail tree contents × (tree.count ≤ limit)

-- a fault from outside
abbrev pub IsOutsideFile : FileFault → Type 0
IsOutsideFile fault = (fault ≡ Device) ⊎ (fault ≡ Memory)

-- a fault from outside, or the first check of the file that fails
abbrev pub IsFirstOrOutside : List (List ℕ) → ℕ → ℕ → FileFault → Type 0
IsFirstOrOutside stored tail limit fault =
    IsOutsideFile fault ⊎ ((first : OpenFault) × IsFirst stored tail limit first × (fault ≡ fault_of_opening first))
