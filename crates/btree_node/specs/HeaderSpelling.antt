-- Which header a page spells, and the first fault of a page that spells none.
use Rattle.std.specs.Prelude.{◌≡◌, ℕ, ◌^◌, ◌<◌, List, [], ◌∷◌, ◌++◌, drop, slice_index, ◌⊎◌}
use Rattle.byteorder.specs.Endian.{big_bytes}
use Rattle.rec_types.specs.Padded.{padded}
use Rattle.rec_types.specs.Widths.{page_width}
use Rattle.btree_node.specs.declared.header.Header.{Header}
use Rattle.btree_node.specs.declared.header.HeaderFault.{HeaderFault}
use Rattle.btree_node.specs.declared.header.HeaderFault.TheVariants.{BadMagic, BadVersion, BadOrder, NotClean, BadHeader}
use Rattle.btree_node.specs.Layout.{IsVersion, IsOrder}
use Rattle.btree_node.specs.Reading.{part, number_at, IsZero}

-- the text BMKRFILE
unfoldable pub magic : List ℕ
magic = 0x42 ∷ 0x4d ∷ 0x4b ∷ 0x52 ∷ 0x46 ∷ 0x49 ∷ 0x4c ∷ 0x45 ∷ []

-- what the state byte says
abbrev pub clean_state : ℕ
clean_state = 1

abbrev pub writing_state : ℕ
writing_state = 2

-- the magic, the version, the order, the number of pages, the root, the number of records, the state
unfoldable pub header_bytes : Header → ℕ → List ℕ
header_bytes h state =
    magic ++ big_bytes 2 h.version ++ big_bytes 2 h.order ++ big_bytes 4 h.pages ++ big_bytes 4 h.root ++ big_bytes 4 h.count ++ (state ∷ [])

-- those, padded to a page
unfoldable pub header_spelling : Header → ℕ → List ℕ
header_spelling h state = padded page_width (header_bytes h state)

-- what a page can hold: an order, and numbers of four bytes
pub record HeaderFits (h : Header) : Type 0 where
  pub version : IsVersion h.version
  pub order : IsOrder h.order
  pub pages : h.pages < 2 ^ 32
  pub root : h.root < 2 ^ 32
  pub count : h.count < 2 ^ 32

abbrev pub version_at : List ℕ → ℕ
version_at page = number_at 2 8 page

abbrev pub order_at : List ℕ → ℕ
order_at page = number_at 2 10 page

-- the header that a page spells, if it spells one
unfoldable pub header_at : List ℕ → Header
header_at page = record { version = version_at page; order = order_at page; pages = number_at 4 12 page; root = number_at 4 16 page; count = number_at 4 20 page }

unfoldable pub state_at : List ℕ → ℕ
state_at page = slice_index page 24

-- the page passes the test for a fault. The last test is of the state and of the bytes behind it.
unfoldable pub HeaderPasses : List ℕ → HeaderFault → Type 0
HeaderPasses page BadMagic = part 0 8 page ≡ magic
HeaderPasses page (BadVersion version) = IsVersion (version_at page)
HeaderPasses page BadOrder = IsOrder (order_at page)
HeaderPasses page NotClean = state_at page ≡ writing_state → ⊥
HeaderPasses page BadHeader = ((state_at page ≡ clean_state) ⊎ (state_at page ≡ writing_state)) × IsZero (drop 25 page)

-- the page passes the tests before that for a fault
abbrev pub HeaderPassesBefore : List ℕ → HeaderFault → Type 0
HeaderPassesBefore page BadMagic = Unit {0}
HeaderPassesBefore page (BadVersion version) = (HeaderPasses page BadMagic) × (version_at page ≡ version)
HeaderPassesBefore page BadOrder = HeaderPasses page BadMagic × HeaderPasses page (BadVersion 0)
HeaderPassesBefore page NotClean = HeaderPasses page BadMagic × HeaderPasses page (BadVersion 0) × HeaderPasses page BadOrder
HeaderPassesBefore page BadHeader = HeaderPasses page BadMagic × HeaderPasses page (BadVersion 0) × HeaderPasses page BadOrder × HeaderPasses page NotClean

-- the page fails the test for a fault, and none before it. BadVersion tells the version of the page.
pub record FirstHeaderFault (page : List ℕ) (fault : HeaderFault) : Type 0 where
  pub before : HeaderPassesBefore page fault
  pub fails : HeaderPasses page fault → ⊥
