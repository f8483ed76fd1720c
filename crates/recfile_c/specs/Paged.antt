-- Opening and closing a page file, of which the pages are handed in and the steps handed out.
use Rattle.std.specs.Prelude.{◌≡◌, ◌≢◌, ◌⊎◌, ℕ, zero, suc, ℤ, pos, true, false, List, [], ◌∷◌, ◌++◌, Option, Some, None, Result, Ok, Err, IsTrue, length, take, slice_get}
use Rattle.std.specs.FinMap as maps
use Rattle.std.specs.declared.boxed.Box.{Box}
use Rattle.rec_types.specs.LimitBounds.{Bounds}
use Rattle.page_store.specs.Fronts.{tried}
use Rattle.page_store.specs.Journal.{carried, noted_steps, untouched, NotesFront}
use Rattle.rec_types.specs.declared.limits.LimitFault.{LimitFault}
use Rattle.btree_node.specs.Layout.{second_version}
use Rattle.btree_delete.specs.declared.opening.open_fault.OpenFault.{OpenFault}
use Rattle.btree_delete.specs.declared.opening.open_fault.OpenFault.TheVariants as open_faults
use Rattle.btree_delete.specs.declared.table.tree_table.CreateFault.{CreateFault}
use Rattle.btree_delete.specs.declared.table.tree_table.CreateFault.TheVariants as create_faults
use Rattle.btree_delete.specs.CleanFile.{IsFirst, Opens}
use Rattle.btree_delete.specs.Closing.{closing, IsNewOrFile, IsEither}
use Rattle.btree_delete.specs.Created.{IsCreated, IsCreateFault}
use Rattle.btree_delete.specs.TableView.{TableView, IsClosed, table_contents}
use Rattle.record_file.specs.Abstract.{new_file}
use Rattle.recfile_c.specs.declared.file_table.FileTable.{FileTable}
use Rattle.recfile_c.specs.declared.file_table.FileTable.TheVariants.{Memory, Paged}
use Rattle.recfile_c.specs.declared.held.Held.{Held}
use Rattle.recfile_c.specs.declared.held.Held.TheVariants.{Image, Open, Unclosed, Closed}
use Rattle.recfile_c.specs.declared.outcome.Outcome.{Outcome}
use Rattle.page_store.specs.declared.step.Step.{Step}
use Rattle.recfile_c.specs.declared.shown.StepShown.{StepShown}
use Rattle.recfile_c.specs.Shown.{step_shown, page_left, no_step}
use Rattle.recfile_c.specs.Steps.{JournalView, pages_after, journal_of}
use Rattle.recfile_c.specs.Outcomes.{just, ok, closed, memory, not_closed, no_such_entry, bad_length, limits_outcome, open_outcome, create_outcome, still_open_by}
use Rattle.recfile_c.specs.Calls.{FileState}
use Rattle.recfile_c.specs.Opening.{IsOpened}

-- a file over a table, in which nothing was begun
abbrev pub paged_file : TableView → Bounds → FileState
paged_file t limits = record { table = Paged t; file = new_file (table_contents t) limits; log = [] }

-- the table's store was made of these pages and has kept no step so far
abbrev pub HasNoStep : TableView → List (List ℕ) → Type 0
HasNoStep t opened = untouched t.pages.journal ≡ Some opened

-- the table's store was made of these pages and keeps the steps of tries to close the table, each of which stopped
abbrev pub HasTried : TableView → List (List ℕ) → List ℕ → Type 0
HasTried t opened ks = t.pages.journal ≡ Some (record { opened = opened; steps = tried ks (closing t) })

-- The pages are a closed file, whose tree and records the table has; its store is steady, and has these pages.
pub record OpensPages (pages : List (List ℕ)) (limits : Bounds) (t : TableView) : Type 0 where
  pub opens : Opens pages 0 limits.records 0 t.pages t.tree
  pub stored : t.pages.stored ≡ pages
  pub steady : t.pages.steady ≡ true
  pub failures : t.pages.failures ≡ 0
  pub refusals : t.refusals ≡ 0
  pub limit : t.limit ≡ limits.records
  pub steps : HasNoStep t pages

-- an empty table of that order over no pages
pub record MakesPages (k : ℕ) (limits : Bounds) (t : TableView) : Type 0 where
  pub created : IsCreated [] 0 k t
  pub empty : table_contents t ≡ maps.empty
  pub steady : t.pages.steady ≡ true
  pub failures : t.pages.failures ≡ 0
  pub refusals : t.refusals ≡ 0
  pub limit : t.limit ≡ limits.records
  pub steps : HasNoStep t []

-- A file is opened from these pages, or the first check that fails is named; no device can fail.
abbrev pub OpensFrom : List (List ℕ) → Result Bounds LimitFault → Result Held Outcome → Type 0
OpensFrom pages (Ok limits) (Ok held) = (t : TableView) × OpensPages pages limits t × IsOpened (paged_file t limits) held
OpensFrom pages (Ok limits) (Err told) = (fault : OpenFault) × IsFirst pages 0 limits.records fault × (told ≡ open_outcome fault) × (fault ≢ open_faults.Device)
OpensFrom pages (Err fault) (Ok held) = ⊥
OpensFrom pages (Err fault) (Err told) = told ≡ limits_outcome fault

-- A new file of an order, or why there is none.
abbrev pub CreatesOf : ℕ → Result Bounds LimitFault → Result Held Outcome → Type 0
CreatesOf k (Ok limits) (Ok held) = (t : TableView) × MakesPages k limits t × IsOpened (paged_file t limits) held
CreatesOf k (Ok limits) (Err told) = (fault : CreateFault) × IsCreateFault [] 0 k fault × (told ≡ create_outcome fault) × (fault ≢ create_faults.Device)
CreatesOf k (Err fault) (Ok held) = ⊥
CreatesOf k (Err fault) (Err told) = told ≡ limits_outcome fault

-- what lies behind a handle opens a file from its pages, or has no page left
abbrev pub BecomesOpen : (Result Held Outcome → Type 0) → Outcome → Held → Type 0
BecomesOpen makes told (Open s) = (told ≡ just ok) × makes (Ok (Open s))
BecomesOpen makes told (Image rest) = (rest.items ≡ []) × makes (Err told)
BecomesOpen makes told held = ⊥

abbrev pub OpensImage : Result Bounds LimitFault → Outcome → Held → Held → Type 0
OpensImage limits told (Image pages) new = BecomesOpen (OpensFrom pages.items limits) told new
OpensImage limits told held new = (told ≡ just not_closed) × (new ≡ held)

-- a new file where no page was handed in
abbrev pub CreatesImage : ℕ → Result Bounds LimitFault → Outcome → Held → Held → Type 0
CreatesImage k limits told (Image pages) new = (pages.items ≡ [] → BecomesOpen (CreatesOf k limits) told new) × (pages.items ≢ [] → (told ≡ just bad_length) × (new ≡ Image pages))
CreatesImage k limits told held new = (told ≡ just not_closed) × (new ≡ held)

-- handles

-- no page was handed in yet
abbrev pub IsBlank : Held → Type 0
IsBlank (Image pages) = pages.items ≡ []
IsBlank held = ⊥

-- A handle behind which nothing lies is taken for one whose file has no page yet, or there is no memory for that.
abbrev pub OnImage : Type 0 → Option Held → Option Held → (Held → Held → Type 0) → Type 0
OnImage refused (Some old) (Some new) step = step old new
OnImage refused (Some old) None step = ⊥
OnImage refused None (Some new) step = (blank : Held) × IsBlank blank × step blank new
OnImage refused None None step = refused

-- nothing is done to a handle behind which nothing lies
abbrev pub OnHeld : Type 0 → Option Held → Option Held → (Held → Held → Type 0) → Type 0
OnHeld nothing (Some old) (Some new) step = step old new
OnHeld nothing (Some old) None step = ⊥
OnHeld nothing None new step = nothing × (new ≡ None)

-- whatever lies behind a handle is given up
abbrev pub Discards : ℤ → Option Held → Option Held → Type 0
Discards status (Some old) new = (status ≡ pos ok) × (new ≡ None)
Discards status None new = (status ≡ pos closed) × (new ≡ None)

-- what is taken from a handle: what lies behind it, or a file with no page, or nothing for want of memory
abbrev pub TakesImage : {Z : Type 0} → Option Held → Option (Box Held Z) → Type 0
TakesImage (Some old) (Some b) = b.value ≡ old
TakesImage (Some old) None = ⊥
TakesImage None (Some b) = IsBlank b.value
TakesImage None None = Unit {0}

-- closing

-- The steps lead from the old pages to a closed file of the second version with the table's tree and records; where nothing was changed they lead to
-- the pages that the table had been opened with. They are those of a close, after the ones that were there. Where these were
-- none, or those of tries to close the same table, the steps are to be carried out on the pages that were handed in; and over a
-- new file or a closed one each front of them leads to the old file, or to one that opening refuses, or to the new one.
pub record Settles (t : TableView) (j : JournalView) : Type 0 where
  pub closed : IsTrue t.pages.steady → IsClosed second_version (pages_after j) 0 t.tree (table_contents t)
  pub idle : t.pages.changed ≡ false → pages_after j ≡ t.pages.stored
  pub steps : journal_of j ≡ noted_steps t.pages.journal (closing t)
  pub opened : (opened : List (List ℕ)) (ks : List ℕ) → HasTried t opened ks → j.opened ≡ opened
  pub fronts : (ks : List ℕ) → HasTried t j.opened ks → IsNewOrFile j.opened → (k : ℕ) → IsEither j.opened (pages_after j) (carried j.opened (take k j.steps))

-- a table whose closing found no memory has its tree and its records, and the first of its steps were kept: one more try
pub record KeepsUnclosed (old new : TableView) : Type 0 where
  pub tree : new.tree ≡ old.tree
  pub contents : table_contents new ≡ table_contents old
  pub steady : new.pages.steady ≡ old.pages.steady
  pub steps : NotesFront (closing old) old.pages.journal new.pages.journal
  pub tries : (opened : List (List ℕ)) (ks : List ℕ) → HasTried old opened ks → (k : ℕ) × HasTried new opened (ks ++ k ∷ [])

-- so many closes that found no memory
abbrev pub IsTriedAgain : ℕ → TableView → TableView → Type 0
IsTriedAgain zero old new = new ≡ old
IsTriedAgain (suc n) old new = (mid : TableView) × KeepsUnclosed old mid × IsTriedAgain n mid new

abbrev pub ClosesTable : Outcome → TableView → Held → Type 0
ClosesTable told t (Closed j) = (told ≡ just ok) × Settles t j
ClosesTable told t (Unclosed u) = (told ≡ just memory) × KeepsUnclosed t u
ClosesTable told t held = ⊥

-- a file in memory leaves nothing to be done
abbrev pub ClosesKind : Outcome → FileTable → Held → Type 0
ClosesKind told (Memory t) (Closed j) = (told ≡ just ok) × (j.steps ≡ [])
ClosesKind told (Memory t) held = ⊥
ClosesKind told (Paged t) held = ClosesTable told t held

-- A file is closed once every transaction has ended.
abbrev pub Closes : Outcome → Held → Held → Type 0
Closes told (Open old) new =
    ((maps.len old.file.file.txs ≡ 0) × ClosesKind told old.file.table new)
    ⊎ ((maps.len old.file.file.txs ≢ 0) × (told ≡ still_open_by (maps.len old.file.file.txs)) × (new ≡ Open old))
Closes told (Unclosed t) new = ClosesTable told t new
Closes told held new = (told ≡ just closed) × (new ≡ held)

-- handing pages in

-- one more page, or no memory for it
abbrev pub AddsPage : List ℕ → ℤ → Held → Held → Type 0
AddsPage page status (Image old) (Image new) = ((status ≡ pos ok) × (new.items ≡ old.items ++ page ∷ [])) ⊎ ((status ≡ pos memory) × (new.items ≡ old.items))
AddsPage page status (Image old) new = ⊥
AddsPage page status held new = (status ≡ pos not_closed) × (new ≡ held)

-- handing steps out

abbrev pub CountsSteps : ℤ → ℕ → Held → Held → Type 0
CountsSteps status n (Closed j) new = (status ≡ pos ok) × (n ≡ length j.steps) × (new ≡ Closed j)
CountsSteps status n held new = (status ≡ pos not_closed) × (n ≡ 0) × (new ≡ held)

abbrev pub ShowsStep : Option Step → ℤ → StepShown → List ℕ → List ℕ → Type 0
ShowsStep (Some s) status told before page = (status ≡ pos ok) × (step_shown told page ≡ s) × (page ≡ page_left s before)
ShowsStep None status told before page = (status ≡ pos no_such_entry) × (told ≡ no_step) × (page ≡ before)

-- the i-th step, from 0, and its page where it writes one; else the page stays
abbrev pub StepAt : ℕ → ℤ → StepShown → List ℕ → List ℕ → Held → Held → Type 0
StepAt i status told before page (Closed j) new = ShowsStep (slice_get j.steps i) status told before page × (new ≡ Closed j)
StepAt i status told before page held new = (status ≡ pos not_closed) × (told ≡ no_step) × (page ≡ before) × (new ≡ held)
