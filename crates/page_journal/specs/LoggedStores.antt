-- What a store knows of the commits that it has kept, and what a crash leaves of them.
use Rattle.std.specs.Prelude.{◌≡◌, ◌≢◌, ◌⊎◌, refl, ℕ, ◌≤◌, List, [], ◌∷◌, ◌++◌, Option, Some, None, take}
use Rattle.std.specs.Coded.{Coded, code_by, coded×, coded_ℕ}
use Rattle.commit_paper.specs.Text.{units_of, unit_text, IsUnit, AreUnits}
use Rattle.page_journal.specs.Files.{PageFile, Files}
use Rattle.page_journal.specs.Crash.{FilesStandFor}
use Rattle.page_journal.specs.Logging.{Says, IsReady, StandsInLog}
use Rattle.page_journal.specs.declared.disk_state.DiskState.{Ghosts}
use Rattle.page_journal.specs.declared.log_place.LogPlace.{LogPlace}
use Rattle.page_journal.specs.declared.seal_state.SealState.{SealState}
use Rattle.page_journal.specs.declared.seal_state.SealState.TheVariants.{Unsealed, Sealed, Stopped}

abbrev pub coded_place : Coded LogPlace
coded_place = code_by (ℕ × ℕ) (coded× coded_ℕ coded_ℕ) (λ p. (p.end, p.long)) (λ p. record { end = p.0; long = p.1 }) (λ _. refl)

-- the place lies within its log
abbrev pub FitsIn : Option LogPlace → Type 0
FitsIn None = Unit {0}
FitsIn (Some place) = place.end ≤ place.long

-- the units that end before a place of these bytes
abbrev pub units_before : ℕ → Option (List ℕ) → List (List (List ℕ))
units_before end None = []
units_before end (Some bytes) = units_of (take end bytes)

-- those that were kept in the log of commits, where one was begun
abbrev pub commits_in : Option LogPlace → Files → List (List (List ℕ))
commits_in None f = []
commits_in (Some place) f = units_before place.end f.commits.log

-- some of these units, from the first on
abbrev pub AreFirst : List (List (List ℕ)) → List (List (List ℕ)) → Type 0
AreFirst first units = (rest : List (List (List ℕ))) × (units ≡ first ++ rest)

-- no log has the name that an opening looks for, or it says some of these units, at least the first
abbrev pub SaysFirst : List (List (List ℕ)) → Files → Type 0
SaysFirst units f = (f.commits.log ≡ None) ⊎ ((first : List (List (List ℕ))) × AreFirst first units × (first ≢ []) × Says first f)

-- it says these, and one more of this text
abbrev pub SaysDoubt : List (List (List ℕ)) → List ℕ → Files → Type 0
SaysDoubt units text f = (unit : List (List ℕ)) × IsUnit unit × (text ≡ unit_text unit) × Says (units ++ unit ∷ []) f

-- What a crash may have left of the commits since the disk was opened: some from the first on, or all, and with them the one that is in doubt. Where no log was begun, there is the log that there was.
abbrev pub MayFind : Option LogPlace → Files → List (List (List ℕ)) → List ℕ → Files → Type 0
MayFind None began units doubt f = f.commits.log ≡ began.commits.log
MayFind (Some place) began units doubt f = SaysFirst units f ⊎ SaysDoubt units doubt f

-- what a crash leaves of them now, where none is in doubt: all
abbrev pub FindsAll : Option LogPlace → Files → List (List (List ℕ)) → Files → Type 0
FindsAll None began units f = f.commits.log ≡ began.commits.log
FindsAll (Some place) began units f = Says units f

-- all that were kept, and perhaps the one that is in doubt
abbrev pub SaysAll : List (List (List ℕ)) → List ℕ → Files → Type 0
SaysAll units doubt f = Says units f ⊎ SaysDoubt units doubt f

-- So much of the commits a crash leaves now: each that was kept.
abbrev pub FindsNow : Option LogPlace → Files → List (List (List ℕ)) → List ℕ → Files → Type 0
FindsNow None began units doubt f = f.commits.log ≡ began.commits.log
FindsNow (Some place) began units doubt f = SaysAll units doubt f

-- these units stand in the log before a place, a crash leaves all of them, and unless one is in doubt the log is ready for another
pub record HoldsLog {D : Type 0} (g : Ghosts D) (place : LogPlace) (doubt : List ℕ) (disk : D) : Type 0 where
  pub units : List (List (List ℕ))
  pub some : units ≢ []
  pub whole : AreUnits units
  pub stand : StandsInLog units place (g.seen disk)
  pub now : (c : Files) → g.may_leave disk c → SaysAll units doubt c
  pub ready : doubt ≡ [] → IsReady g units place disk

abbrev pub HoldsCommits : {D : Type 0} → Ghosts D → Option LogPlace → List ℕ → D → Type 0
HoldsCommits g None doubt disk = (g.seen disk).commits.log ≡ (g.began disk).commits.log
HoldsCommits g (Some place) doubt disk = HoldsLog g place doubt disk

-- and each crash since the disk was opened leaves what it may
pub record IsLogged {D : Type 0} (g : Ghosts D) (log : Option LogPlace) (doubt : List ℕ) (disk : D) : Type 0 where
  pub holds : HoldsCommits g log doubt disk
  pub time : (c : Files) → g.left_since disk 0 c → MayFind log (g.began disk) (commits_in log (g.seen disk)) doubt c

-- where a log was begun, none stood beside the file when the disk was opened
abbrev pub BeganAlone : {D : Type 0} → Ghosts D → Option LogPlace → D → Type 0
BeganAlone g None disk = Unit {0}
BeganAlone g (Some place) disk = (g.began disk).commits.log ≡ None

-- what is known of the commits then, whatever reads give
abbrev pub KnowsCommits : {D : Type 0} → Ghosts D → Option LogPlace → List ℕ → D → Type 0
KnowsCommits g log doubt disk = BeganAlone g log disk → IsLogged g log doubt disk

-- only a store that lets nothing be written over is in doubt
abbrev pub DoubtStops : SealState → List ℕ → Type 0
DoubtStops Unsealed doubt = doubt ≡ []
DoubtStops Sealed doubt = doubt ≡ []
DoubtStops Stopped doubt = Unit {0}

-- A crash leaves the old file, and of the commits what it may; or the new file, and all of them.
abbrev pub LeavesWithCommits : Option LogPlace → Files → List (List (List ℕ)) → List ℕ → PageFile → PageFile → Files → Type 0
LeavesWithCommits log began units doubt old new c =
    (FilesStandFor old c × MayFind log began units doubt c) ⊎ (FilesStandFor new c × FindsAll log began units c)
