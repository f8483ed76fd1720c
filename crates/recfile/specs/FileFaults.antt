-- Why a page file isn't made, or not copied.
use Rattle.std.specs.Prelude.{◌≡◌, ◌⊎◌, ℕ, List}
use Rattle.page_copy.specs.declared.copying.CopyFault.{CopyFault}
use Rattle.page_copy.specs.declared.copying.CopyFault.TheVariants as copying
use Rattle.btree_delete.specs.Created.{IsEmpty, IsOrder}
use Rattle.recfile.specs.declared.copying.CopyingFault.{CopyingFault}
use Rattle.recfile.specs.declared.copying.CopyingFault.TheVariants.{OfFile, OfCopy}
use Rattle.file_session.specs.declared.file_fault.FileFault.{FileFault}
use Rattle.file_session.specs.declared.file_fault.FileFault.TheVariants.{Device, NotEmpty, BadLength, BadOrder, Memory}
use Rattle.file_session.specs.FileFaults.{fault_of_store}

-- Why no page file was made: the first check that fails has that name. Device and Memory come from outside, Memory
-- once the file is being written.
abbrev pub IsMakingFault : List (List ℕ) → ℕ → ℕ → FileFault → Type 0
IsMakingFault stored tail k BadOrder = IsOrder k → ⊥
IsMakingFault stored tail k Device = IsOrder k
IsMakingFault stored tail k NotEmpty = IsOrder k × (IsEmpty stored tail → ⊥)
IsMakingFault stored tail k Memory = IsOrder k × IsEmpty stored tail
IsMakingFault stored tail k other = ⊥

-- a fault by which nothing was written
abbrev pub IsRefusal : FileFault → Type 0
IsRefusal fault = (fault ≡ BadOrder) ⊎ (fault ≡ NotEmpty)

-- why a copy wasn't made, by why its pages weren't copied
abbrev pub fault_of_copying : CopyFault → CopyingFault
fault_of_copying copying.Source = OfFile Device
fault_of_copying copying.Length = OfFile BadLength
fault_of_copying (copying.Copy fault) = OfCopy (fault_of_store fault)
