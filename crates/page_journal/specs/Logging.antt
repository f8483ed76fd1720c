-- A log of commits that is ready for one more unit, and what a crash leaves of it.
use Rattle.std.specs.Prelude.{◌≡◌, ◌⊎◌, ℕ, ◌+◌, ◌^◌, ◌<◌, ◌≤◌, List, [], ◌∷◌, ◌++◌, Some, None, length, take}
use Rattle.commit_paper.specs.Text.{units_of, log_text, AreUnits}
use Rattle.commit_paper.specs.Shown.{Shows}
use Rattle.page_journal.specs.Files.{Files}
use Rattle.page_journal.specs.declared.disk_state.DiskState.{Ghosts}
use Rattle.page_journal.specs.declared.log_place.LogPlace.{LogPlace}

-- a log has the name that an opening looks for, and its bytes have P
abbrev pub HasLog : (List ℕ → Type 0) → Files → Type 0
HasLog P f = (bytes : List ℕ) × (f.commits.log ≡ Some bytes) × P bytes

-- these units stand in it before a place
abbrev pub StandsInLog : List (List (List ℕ)) → LogPlace → Files → Type 0
StandsInLog units place f = HasLog (λ bytes. take place.end bytes ≡ log_text units) f

-- it is that of an outcome of a crash then, or there is none
abbrev pub HasLogOf : {D : Type 0} → Ghosts D → D → Files → Type 0
HasLogOf g old c = (c.commits.log ≡ None) ⊎ ((d : Files) × g.may_leave old d × (c.commits.log ≡ d.commits.log))

-- it says these units
abbrev pub Says : List (List (List ℕ)) → Files → Type 0
Says units f = HasLog (λ bytes. units_of bytes ≡ units) f

-- it says these, or one more
abbrev pub SaysEither : List (List (List ℕ)) → List (List ℕ) → Files → Type 0
SaysEither units unit f = Says units f ⊎ Says (units ++ unit ∷ []) f

-- a text is that of the finished units of these bytes
abbrev pub IsTextOf : List ℕ → List ℕ → Type 0
IsTextOf text bytes = (text ≡ log_text (units_of bytes)) × AreUnits (units_of bytes)

-- no log has the name, or it says these
abbrev pub SaysNoneOr : List (List (List ℕ)) → Files → Type 0
SaysNoneOr units f = (f.commits.log ≡ None) ⊎ Says units f

-- no log has the name, as reads see it and in each outcome of a crash
pub record HasNoLog {D : Type 0} (g : Ghosts D) (disk : D) : Type 0 where
  pub seen : (g.seen disk).commits.log ≡ None
  pub crash : (c : Files) → g.may_leave disk c → c.commits.log ≡ None

-- These units are in the log, as reads see it and in each outcome of a crash, and behind them is known to be room.
pub record IsReady {D : Type 0} (g : Ghosts D) (units : List (List (List ℕ))) (place : LogPlace) (disk : D) : Type 0 where
  pub room : ℕ
  pub whole : AreUnits units
  pub some : 1 ≤ room
  pub end : place.end ≡ length (log_text units)
  pub long : place.long ≡ place.end + room
  pub seen : HasLog (Shows units room) (g.seen disk)
  pub crash : (c : Files) → g.may_leave disk c → HasLog (Shows units room) c

-- the text ends where it did, within what is known of the log
abbrev pub StaysWithin : LogPlace → LogPlace → Type 0
StaysWithin old new = (new.end ≡ old.end) × (new.end ≤ new.long)

-- more room than that is known to be there
pub record HasRoom (room : ℕ) (place : LogPlace) : Type 0 where
  pub fits : place.end + room < place.long
  pub most : place.long ≤ 2 ^ 42
