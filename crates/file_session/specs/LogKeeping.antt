-- What a log of commits beside a page file keeps of a session.
use Rattle.std.specs.Prelude.{◌≡◌, ◌⊎◌, ℕ, Bool, List, [], ◌∷◌, ◌++◌, Option, Result, Ok, Err, IsTrue}
use mathlib.Core.Path.{◌∙◌, sym}
use Rattle.commit_paper.specs.Text.{IsUnit, unit_text}
use Rattle.btree_delete.specs.Origins.{origin_of}
use Rattle.btree_delete.specs.TableView.{TableView}
use Rattle.record_file.specs.declared.keeper.KeeperFault.{KeeperFault}
use Rattle.record_file.specs.declared.keeper.KeeperFault.TheVariants as keeper_faults
use Rattle.command_text.specs.Script.{entries_in}
use Rattle.command_text.specs.Units.{unit_lines, unit_commands}

-- These writes are kept, where any are: a script that makes them in a transaction of some number and commits it, and that is read so.
abbrev pub AddsWrites : List (List (List ℕ)) → List (List ℕ × Option (List ℕ)) → List (List (List ℕ)) → Type 0
AddsWrites old [] new = new ≡ old
AddsWrites old (w ∷ ws) new = (n : ℕ) × (new ≡ old ++ unit_lines n (w ∷ ws) ∷ []) × (entries_in (unit_lines n (w ∷ ws)) ≡ unit_commands n (w ∷ ws))

-- a text of a log that makes these writes in a transaction of some number and commits it, and is read so
abbrev pub SaysWrites : List (List ℕ × Option (List ℕ)) → List ℕ → Type 0
SaysWrites es text = (n : ℕ) × (text ≡ unit_text (unit_lines n es)) × IsUnit (unit_lines n es) × (entries_in (unit_lines n es) ≡ unit_commands n es)

-- What is kept of a commit is a script that makes its writes, where any are; at a fault nothing more is.
abbrev pub TellsWritesOf : Bool → List (List (List ℕ)) → List (List ℕ × Option (List ℕ)) → Result (Unit {0}) KeeperFault → List (List (List ℕ)) → Type 0
TellsWritesOf sound old es (Ok done) new = IsTrue sound → AddsWrites old es new
TellsWritesOf sound old es (Err fault) new = IsTrue sound → new ≡ old

-- What is in doubt stays so; and only where the keeper answers Doubt it may be a script that makes these writes.
abbrev pub DoubtsWrites : List ℕ → List (List ℕ × Option (List ℕ)) → Result (Unit {0}) KeeperFault → List ℕ → Type 0
DoubtsWrites old es (Err keeper_faults.Doubt) new = (new ≡ old) ⊎ SaysWrites es new
DoubtsWrites old es answer new = new ≡ old

-- What the table was made of is the same, but for the commits that are kept beside it, the one that is in doubt, and for which pages may be written over after a doubt.
abbrev pub IsKeptBeside : TableView → TableView → Type 0
IsKeptBeside old new = origin_of new ≡ record (origin_of old) { opening = record (origin_of old).opening { commits = new.pages.opening.commits; doubt = new.pages.opening.doubt }; guard = new.pages.guard }

pub beside_none : (old new : TableView) → origin_of new ≡ origin_of old → IsKeptBeside old new
beside_none old new same = same ∙ (λ i. record (origin_of old) { opening = record (origin_of old).opening { commits = (sym same i).opening.commits; doubt = (sym same i).opening.doubt }; guard = (sym same i).guard })

pub beside_on : (a b c : TableView) → IsKeptBeside a b → IsKeptBeside b c → IsKeptBeside a c
beside_on a b c first second = second ∙ (λ i. record (first i) { opening = record (first i).opening { commits = c.pages.opening.commits; doubt = c.pages.opening.doubt }; guard = c.pages.guard })

-- What a keeper answered that was asked to keep these writes.
abbrev pub MadeKept : List (List ℕ × Option (List ℕ)) → TableView → Result (Unit {0}) KeeperFault → TableView → Type 0
MadeKept es old answer new =
    TellsWritesOf old.pages.steady old.pages.opening.commits es answer new.pages.opening.commits
    × DoubtsWrites old.pages.opening.doubt es answer new.pages.opening.doubt
