-- Sessions over a page file, one after another, of which each but the last is ended by a flush.
use Rattle.std.specs.Prelude.{◌≡◌, ◌⊎◌, ℕ, zero, suc, ◌<◌, ◌++◌, Bool, true, false, List, [], ◌∷◌, length, take, codes, Option, None, IfSome, MatchOption, IsTrue}
use Rattle.std.specs.Io.KnownBytes.{Appends}
use Rattle.rec_types.specs.Contents.{Contents}
use Rattle.rec_types.specs.LimitBounds.{Bounds}
use Rattle.page_journal.specs.Crash.{BeginsAgain}
use Rattle.page_journal.specs.Files.{Files, recovered}
use Rattle.page_journal.specs.Steps.{Stays}
use Rattle.page_journal.specs.declared.disk_state.DiskState.{Ghosts}
use Rattle.record_file.specs.Durable.{overlay}
use Rattle.recfile.specs.DurableSession.{EndsDurably, RunsLogged}
use Rattle.file_session.specs.Beginning.{StandForClosed, StandsUnbegun}
use Rattle.file_session.specs.FileFaults.{is_file_device}
use Rattle.file_session.specs.Closing.{CountsClosing, IsOutsideDisk, IsUnopened, LeavesOld}
use Rattle.file_session.specs.LogOver.{HoldsWithin, head_line}
use Rattle.file_session.specs.Overlaid.{writes_in_turn}
use Rattle.recfile.specs.Streams.{CallsMade}
use Rattle.file_session.specs.declared.file_fault.FileFault.{FileFault}
use Rattle.file_session.specs.declared.file_fault.FileFault.TheVariants.{Device}
use Rattle.recfile.specs.declared.manner.Manner.{Manner}

-- A session over a disk that was just opened, beside which stands no log of commits, and where each commit is kept before it is answered: what it leaves of what the reader has and the writer holds, of the calls of both, and of the disk; its status, and whether it ended at a flush with its file closed.
pub record DurableSession {D : Type 0} (g : Ghosts D) (manner : Manner) (limits : Bounds)
    (left leaves held holds : Option (List ℕ)) (before after : CallsMade) (opened : D) (unopened unclosed : Option FileFault) (flushed : Bool) (disk : D) (status : ℕ) : Type 0 where
  pub unread : IfSome unopened (λ _. (status ≡ 1) × (unclosed ≡ None) × (leaves ≡ left) × (holds ≡ held) × (after ≡ before) × (flushed ≡ false))
  pub ran : unopened ≡ None → RunsLogged manner limits left leaves held holds before after unclosed status flushed
  -- once more where the log that was begun isn't taken away either
  pub device : IfSome unopened (λ fault. CountsClosing (g.failures opened) true (is_file_device fault) (g.failures disk))
  pub steady : unopened ≡ None → g.steady disk ≡ g.steady opened
  pub opens : IsTrue (g.steady opened) → unopened ≡ None → StandForClosed limits.records (g.began opened)
  pub first : IsTrue (g.steady opened) → IfSome unopened (IsUnopened (g.began opened) limits.records)
  pub untouched : IsTrue (g.steady opened) → IfSome unopened (λ _. (c : Files) → g.left_since disk 0 c → StandsUnbegun (g.began opened) c)
  pub stopped : IsTrue (g.steady opened) → status ≡ 4 → LeavesOld g (recovered (g.began opened)) disk
  pub session : IsTrue (g.steady opened) → (order : ℕ) → (contents : Contents) → HoldsWithin limits.records order contents (recovered (g.began opened))
      → MatchOption unopened (EndsDurably g manner left leaves held holds before after order contents limits (g.failures opened)
      ((head_line (recovered (g.began opened)) ∷ []) ∷ []) unclosed status flushed disk) (IsOutsideDisk (g.began opened))

-- where a session begins or ends: a disk, what the reader has and the writer holds, and the calls of both
pub record SessionPoint (D : Type 0) : Type 0 where
  pub disk : D
  pub left : Option (List ℕ)
  pub held : Option (List ℕ)
  pub calls : CallsMade

-- such a session from here to there
abbrev pub RunsTo : {D : Type 0} → Ghosts D → Manner → Bounds → SessionPoint D → SessionPoint D → Option FileFault → Option FileFault → Bool → ℕ → Type 0
RunsTo g manner limits old new unopened unclosed flushed status =
    DurableSession g manner limits old.left new.left old.held new.held old.calls new.calls old.disk unopened unclosed flushed new.disk status

-- the reply to a flush
abbrev pub flush_reply : List ℕ
flush_reply = codes "ok" ++ 10 ∷ []

-- Since a session ended at a flush with its file closed, the reply was written, and the disk counts as one that was just opened.
pub record BeginsNext {D : Type 0} (g : Ghosts D) (closed new : SessionPoint D) : Type 0 where
  pub told : Appends closed.held new.held flush_reply
  pub left : new.left ≡ closed.left
  pub calls : new.calls ≡ closed.calls
  pub again : BeginsAgain g closed.disk new.disk

-- The reply wasn't written whole, or the disk can't begin again: the file is closed.
pub record BeginsNone {D : Type 0} (g : Ghosts D) (closed new : SessionPoint D) (unopened unclosed : Option FileFault) (status : ℕ) : Type 0 where
  pub left : new.left ≡ closed.left
  pub closes : unclosed ≡ None
  pub why : MatchOption unopened
      ((status ≡ 3) × ((sent : ℕ) × (sent < length flush_reply) × Appends closed.held new.held (take sent flush_reply)) × (new.calls ≡ record closed.calls { write_failed = true }) × (new.disk ≡ closed.disk))
      (λ fault. (status ≡ 1) × (fault ≡ Device) × Appends closed.held new.held flush_reply × (new.calls ≡ closed.calls) × Stays g closed.disk new.disk)

-- A session ended at a flush, and the next one can begin: its file has the records that the commits made of those of the file before.
pub record Flushes {D : Type 0} (g : Ghosts D) (manner : Manner) (limits : Bounds) (old new : SessionPoint D) : Type 0 where
  pub closed : SessionPoint D
  pub status : ℕ
  pub session : RunsTo g manner limits old closed None None true status
  pub next : BeginsNext g closed new
  pub records : (steady : IsTrue (g.steady old.disk)) → (order : ℕ) → (contents : Contents) → (holds : HoldsWithin limits.records order contents (recovered (g.began old.disk)))
      → HoldsWithin limits.records order (overlay contents (writes_in_turn (session.session steady order contents holds).made.kept)) (recovered (g.began new.disk))

-- so many did, one after another
abbrev pub FlushesTimes : {D : Type 0} → Ghosts D → Manner → Bounds → ℕ → SessionPoint D → SessionPoint D → Type 0
FlushesTimes g manner limits zero old new = new ≡ old
FlushesTimes {D = D} g manner limits (suc n) old new = (mid : SessionPoint D) × FlushesTimes g manner limits n old mid × Flushes g manner limits mid new

-- the last one, however it ended; or it ended at a flush, and none can follow
abbrev pub EndsRow : {D : Type 0} → Ghosts D → Manner → Bounds → SessionPoint D → SessionPoint D → Option FileFault → Option FileFault → ℕ → Type 0
EndsRow {D = D} g manner limits old new unopened unclosed status =
    ((flushed : Bool) × RunsTo g manner limits old new unopened unclosed flushed status)
    ⊎ ((closed : SessionPoint D) × (was : ℕ) × RunsTo g manner limits old closed None None true was × BeginsNone g closed new unopened unclosed status)

-- Durable sessions in a row.
pub record InARow {D : Type 0} (g : Ghosts D) (manner : Manner) (limits : Bounds) (old new : SessionPoint D) (unopened unclosed : Option FileFault) (status : ℕ) : Type 0 where
  pub before : ℕ
  pub last : SessionPoint D
  pub flushes : FlushesTimes g manner limits before old last
  pub end : EndsRow g manner limits last new unopened unclosed status
