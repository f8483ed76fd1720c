-- Which lists of pages are a file that was closed, and why one is not opened.
use Rattle.std.specs.Prelude.{◌≡◌, ℕ, ◌<◌, ◌≤◌, ◌⊎◌, ◌+◌, Bool, true, false, List, length, Some, None, IsSome, ◌==◌, if◌then◌else◌, Result, Ok, Err, slice_get}
use Rattle.page_store.specs.Calls.{counted_times}
use Rattle.page_store.specs.FreeNumbers.{greatest_page_count}
use Rattle.page_store.specs.PageMap.{PageMap, at}
use Rattle.page_store.specs.PagesView.{PagesView}
use Rattle.page_store.specs.declared.page_edit.WriteFault.{WriteFault}
use Rattle.page_store.specs.declared.page_edit.WriteFault.TheVariants.{Device as WriteFailed, Memory as NoGrowth}
use Rattle.btree_node.specs.declared.header.Header.{Header}
use Rattle.btree_node.specs.declared.header.HeaderFault.{HeaderFault}
use Rattle.btree_node.specs.declared.header.HeaderFault.TheVariants.{BadMagic as NoMagic, BadVersion as OtherVersion, BadOrder as NoOrder, NotClean as Unclean, BadHeader as NoHeader}
use Rattle.btree_node.specs.HeaderSpelling.{HeaderFits, header_spelling, clean_state, FirstHeaderFault}
use Rattle.btree_node.specs.Lists.{Element}
use Rattle.btree_insert.specs.declared.tree.Tree.{Tree}
use Rattle.btree_insert.specs.declared.tree.TreeFault.{TreeFault}
use Rattle.btree_insert.specs.declared.tree.TreeFault.TheVariants.{Device as ReadFailed, Damaged as NoTreePage, Memory as NoMemory}
use Rattle.btree_insert.specs.PageTrees.{IsIn, Holds, HoldsIn}
use Rattle.btree_node.specs.Layout.{first_version, layout_of}
use Rattle.btree_delete.specs.declared.opening.open_fault.OpenFault.{OpenFault}
use Rattle.btree_delete.specs.declared.opening.open_fault.OpenFault.TheVariants.{Device, BadLength, BadMagic, BadVersion, BadOrder, NotClean, BadHeader, Damaged, WrongCount, TooManyRecords, Memory}

-- the pages of a file by their numbers: page 0 is no page of the tree
abbrev pub in_file : List (List ℕ) → PageMap
in_file stored n = if n == 0 then None else slice_get stored n

-- no bytes after the last page, and 1 to 1,000,001 pages
pub record HasLength (stored : List (List ℕ)) (tail : ℕ) : Type 0 where
  pub no_tail : tail ≡ 0
  pub some : 1 ≤ length stored
  pub most : length stored ≤ greatest_page_count

-- page 0 spells the header of a closed file
pub record HasHeader (stored : List (List ℕ)) (h : Header) : Type 0 where
  pub fits : HeaderFits h
  pub page : slice_get stored 0 ≡ Some (header_spelling h clean_state)

-- which tells the number of pages, and a root that is one of them or 0
pub record Agrees (stored : List (List ℕ)) (h : Header) : Type 0 where
  pub pages : h.pages ≡ length stored
  pub root : h.root < length stored

pub record Begins (stored : List (List ℕ)) (tail : ℕ) (h : Header) : Type 0 where
  pub long : HasLength stored tail
  pub header : HasHeader stored h
  pub agrees : Agrees stored h

-- the pages hold a tree of the class that has the header's order and root
pub record HasTree (pages : PageMap) (h : Header) (tree : Tree) (es : List Element) (us : List ℕ) : Type 0 where
  pub order : tree.order ≡ h.order
  pub root : tree.root ≡ h.root
  pub holds : HoldsIn (layout_of h.version) pages tree es us

-- a closed file: its header, and a tree with as many elements as the header says
pub record IsCleanFile (stored : List (List ℕ)) (tail : ℕ) (h : Header) (tree : Tree) (es : List Element) (us : List ℕ) : Type 0 where
  pub begins : Begins stored tail h
  pub there : HasTree (in_file stored) h tree es us
  pub count : tree.count ≡ h.count

-- page 0 has that fault
pub record HasHeaderFault (stored : List (List ℕ)) (tail : ℕ) (fault : HeaderFault) : Type 0 where
  pub long : HasLength stored tail
  pub page : List ℕ
  pub there : slice_get stored 0 ≡ Some page
  pub first : FirstHeaderFault page fault

-- the header is one, but not that of this file
pub record Disagrees (stored : List (List ℕ)) (tail : ℕ) : Type 0 where
  pub long : HasLength stored tail
  pub h : Header
  pub header : HasHeader stored h
  pub fails : Agrees stored h → ⊥

-- the root has no tree of the class
pub record HasNoTree (stored : List (List ℕ)) (tail : ℕ) : Type 0 where
  pub h : Header
  pub begins : Begins stored tail h
  pub none : (tree : Tree) (es : List Element) (us : List ℕ) → HasTree (in_file stored) h tree es us → ⊥

-- the tree has another number of elements than the header says
pub record CountsOther (stored : List (List ℕ)) (tail : ℕ) : Type 0 where
  pub h : Header
  pub begins : Begins stored tail h
  pub tree : Tree
  pub es : List Element
  pub us : List ℕ
  pub there : HasTree (in_file stored) h tree es us
  pub fails : tree.count ≡ h.count → ⊥

-- a closed file with more records than the limit
pub record IsTooLarge (stored : List (List ℕ)) (tail limit : ℕ) : Type 0 where
  pub h : Header
  pub tree : Tree
  pub es : List Element
  pub us : List ℕ
  pub clean : IsCleanFile stored tail h tree es us
  pub more : limit < h.count

-- the first check that fails has that name. Device and Memory come from outside.
abbrev pub IsFirst : List (List ℕ) → ℕ → ℕ → OpenFault → Type 0
IsFirst stored tail limit Device = Unit {0}
IsFirst stored tail limit BadLength = HasLength stored tail → ⊥
IsFirst stored tail limit BadMagic = HasHeaderFault stored tail NoMagic
IsFirst stored tail limit (BadVersion version) = HasHeaderFault stored tail (OtherVersion version)
IsFirst stored tail limit BadOrder = HasHeaderFault stored tail NoOrder
IsFirst stored tail limit NotClean = HasHeaderFault stored tail Unclean
IsFirst stored tail limit BadHeader = HasHeaderFault stored tail NoHeader ⊎ Disagrees stored tail
IsFirst stored tail limit (Damaged page) = HasNoTree stored tail
IsFirst stored tail limit WrongCount = CountsOther stored tail
IsFirst stored tail limit TooManyRecords = IsTooLarge stored tail limit
IsFirst stored tail limit Memory = Unit {0}

-- the same of the pages behind a header
abbrev pub FailsTree : PageMap → Header → ℕ → OpenFault → Type 0
FailsTree pages h limit Device = Unit {0}
FailsTree pages h limit BadLength = ⊥
FailsTree pages h limit BadMagic = ⊥
FailsTree pages h limit (BadVersion version) = ⊥
FailsTree pages h limit BadOrder = ⊥
FailsTree pages h limit NotClean = ⊥
FailsTree pages h limit BadHeader = ⊥
FailsTree pages h limit (Damaged page) = (tree : Tree) (es : List Element) (us : List ℕ) → HasTree pages h tree es us → ⊥
FailsTree pages h limit WrongCount = (tree : Tree) × (es : List Element) × (us : List ℕ) × HasTree pages h tree es us × (tree.count ≡ h.count → ⊥)
FailsTree pages h limit TooManyRecords = (tree : Tree) × (es : List Element) × (us : List ℕ) × HasTree pages h tree es us × (tree.count ≡ h.count) × (limit < h.count)
FailsTree pages h limit Memory = Unit {0}

-- a closed file was opened: its pages are there, its tree is known, no other page is in use, and page 0 and each page of the tree were read once
pub record Opens (stored : List (List ℕ)) (tail limit reads : ℕ) (pages : PagesView) (tree : Tree) : Type 0 where
  pub h : Header
  pub es : List Element
  pub us : List ℕ
  pub clean : IsCleanFile stored tail h tree es us
  pub few : h.count ≤ limit
  pub holds : Holds (at pages.pages) tree es us
  pub alone : (n : ℕ) → IsSome (at pages.pages n) → IsIn n us
  pub count : length pages.pages ≡ length stored
  pub changed : pages.changed ≡ (h.version == first_version)
  pub read : pages.reads ≡ counted_times reads (tree.used + 1)

-- whether a call of the store failed
abbrev pub is_open_device_fault : OpenFault → Bool
is_open_device_fault Device = true
is_open_device_fault BadLength = false
is_open_device_fault BadMagic = false
is_open_device_fault (BadVersion version) = false
is_open_device_fault BadOrder = false
is_open_device_fault NotClean = false
is_open_device_fault BadHeader = false
is_open_device_fault (Damaged page) = false
is_open_device_fault WrongCount = false
is_open_device_fault TooManyRecords = false
is_open_device_fault Memory = false

abbrev pub is_open_device : {X : Type 0} → Result X OpenFault → Bool
is_open_device (Ok x) = false
is_open_device (Err fault) = is_open_device_fault fault

-- the fault of a file whose header has a fault
abbrev pub header_fault : HeaderFault → OpenFault
header_fault NoMagic = BadMagic
header_fault (OtherVersion version) = BadVersion version
header_fault NoOrder = BadOrder
header_fault Unclean = NotClean
header_fault NoHeader = BadHeader

-- a fault from outside
abbrev pub IsOutside : OpenFault → Type 0
IsOutside fault = (fault ≡ Device) ⊎ (fault ≡ Memory)

-- the fault of a file whose tree has a fault
abbrev pub tree_fault : TreeFault → OpenFault
tree_fault ReadFailed = Device
tree_fault (NoTreePage page) = Damaged page
tree_fault NoMemory = Memory

abbrev pub is_close_device_fault : WriteFault → Bool
is_close_device_fault WriteFailed = true
is_close_device_fault NoGrowth = false
