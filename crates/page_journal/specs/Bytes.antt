-- What the files of a disk are in bytes, and what calls of the system make of them, as reads see it.
use Rattle.std.specs.Prelude.{◌≡◌, ℕ, ◌+◌, zero, suc, List, [], ◌∷◌, ◌++◌, Option, Some, None, option_map, length, take, drop, ⊤}
use Rattle.commit_paper.specs.Text.{zeros}
use Rattle.rec_types.specs.Widths.{page_width}
use Rattle.page_journal.specs.SideBytes.{entries_bytes}
use Rattle.page_journal.specs.Lowering.{Sys, WriteAt, SetLength, Make, SetMode, Rename, Unlink, Sync, SyncData, SyncFolder}
use Rattle.page_journal.specs.declared.system_call.CallFile.TheVariants.{Main, FreshSide, Side, FreshLog, Log}

-- the file, and what has each of the four names beside it
pub record Stored : Type 0 where
  pub main : List ℕ
  pub fresh : Option (List ℕ)
  pub side : Option (List ℕ)
  pub fresh_log : Option (List ℕ)
  pub log : Option (List ℕ)

-- bytes written from a place on; what is between the end and that place is zero
abbrev pub written_at : ℕ → List ℕ → List ℕ → List ℕ
written_at at bytes old = take at (old ++ zeros at) ++ (bytes ++ drop (at + length bytes) old)

-- so many bytes, new ones zero
abbrev pub sized : ℕ → List ℕ → List ℕ
sized n old = take n (old ++ zeros n)

abbrev pub carried_in_bytes : Sys → Stored → Stored
carried_in_bytes (WriteAt Main at bytes) s = record s { main = written_at at bytes s.main }
carried_in_bytes (WriteAt FreshSide at bytes) s = record s { fresh = option_map (written_at at bytes) s.fresh }
carried_in_bytes (WriteAt Side at bytes) s = record s { side = option_map (written_at at bytes) s.side }
carried_in_bytes (WriteAt FreshLog at bytes) s = record s { fresh_log = option_map (written_at at bytes) s.fresh_log }
carried_in_bytes (WriteAt Log at bytes) s = record s { log = option_map (written_at at bytes) s.log }
carried_in_bytes (SetLength Main n) s = record s { main = sized n s.main }
carried_in_bytes (SetLength FreshSide n) s = record s { fresh = option_map (sized n) s.fresh }
carried_in_bytes (SetLength Side n) s = record s { side = option_map (sized n) s.side }
carried_in_bytes (SetLength FreshLog n) s = record s { fresh_log = option_map (sized n) s.fresh_log }
carried_in_bytes (SetLength Log n) s = record s { log = option_map (sized n) s.log }
carried_in_bytes (Make FreshSide) s = record s { fresh = Some [] }
carried_in_bytes (Make FreshLog) s = record s { fresh_log = Some [] }
carried_in_bytes (Make other) s = s
carried_in_bytes (SetMode file) s = s
carried_in_bytes (Rename FreshSide Side) s = record s { fresh = None; side = s.fresh }
carried_in_bytes (Rename FreshLog Log) s = record s { fresh_log = None; log = s.fresh_log }
carried_in_bytes (Rename file other) s = s
carried_in_bytes (Unlink Side) s = record s { side = None }
carried_in_bytes (Unlink Log) s = record s { log = None }
carried_in_bytes (Unlink file) s = s
carried_in_bytes (Sync file) s = s
carried_in_bytes (SyncData file) s = s
carried_in_bytes SyncFolder s = s

-- after these calls, the first of which stands first
abbrev pub all_carried : List Sys → Stored → Stored
all_carried [] s = s
all_carried (call ∷ calls) s = all_carried calls (carried_in_bytes call s)

-- the first m pages of w bytes
abbrev pub pages_in : ℕ → ℕ → List ℕ → List (List ℕ)
pages_in w zero file = []
pages_in w (suc m) file = take w file ∷ pages_in w m (drop w file)

-- a side file that is being made, before it has its header
abbrev pub fresh_bytes : List (ℕ × List ℕ) → List ℕ
fresh_bytes [] = []
fresh_bytes (p ∷ pages) = zeros 40 ++ entries_bytes (p ∷ pages)

-- old pages are whole
abbrev pub AreWhole : List (ℕ × List ℕ) → Type 0
AreWhole [] = ⊤
AreWhole (p ∷ pages) = (length p.1 ≡ page_width) × AreWhole pages
