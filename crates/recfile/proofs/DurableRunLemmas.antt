-- A session over a file beside which a log was begun.
use Rattle.std.proofs.Common.{◌≡◌, ◌⊎◌, inl, inr, ℕ, ◌≤◌, true, List, [], ◌++◌, Option, Result, OnOk, IsTrue, if◌then◌else◌, refl, sym, ap, ◌∙◌, arith}
use Rattle.rec_types.specs.Contents.{Contents}
use Rattle.rec_types.specs.LimitBounds.{Bounds, most_records}
use Rattle.page_journal.specs.Files.{PageFile}
use Rattle.btree_delete.specs.Origins.{Origin}
use Rattle.btree_delete.specs.TableView.{TableView}
use Rattle.record_file.specs.Abstract.{OpenFile, open_of}
use Rattle.record_file.specs.Durable.{overlay}
use Rattle.record_file.specs.Runs.{Seen, seen_as, undoubted}
use Rattle.recfile.specs.DurableSession.{logged_file}
use Rattle.command_text.specs.Units.{Write}
use Rattle.file_session.specs.Closing.{opening_file}
use Rattle.file_session.specs.LogKeeping.{IsKeptBeside}
use Rattle.file_session.specs.LogOver.{HoldsRecords, HoldsWithin}
use Rattle.file_session.specs.Overlaid.{writes_in_turn}
use Rattle.recfile.specs.SessionCommits.{IsInDoubt, MakesCommits, in_doubt}
use Rattle.recfile.specs.WholeSession.{IsSession}
use Rattle.recfile.specs.declared.endings.EndFault.{EndFault}
use Rattle.recfile.specs.declared.manner.Manner.{Manner}
use Rattle.recfile.specs.declared.script.RunFault.{RunFault}
use Rattle.recfile.proofs.DurableLemmas.{DoubtIs, kept_make, rest_ended}
use Rattle.file_session.proofs.ClosingLemmas.{ok_wider}
use Rattle.recfile.proofs.OpenedLemmas.{treed}
use Rattle.recfile.proofs.SessionCommitLemmas.{session_made}

module _ (contents : Contents) (limits : Bounds) (failures : ℕ) (commits : List (List (List ℕ))) (manner : Manner) (left leaves held holds : Option (List ℕ)) (mid : Seen) (answer : Result ℕ RunFault) (ended : Result ℕ EndFault) (new : Seen) (session : IsSession manner left leaves held holds (logged_file contents limits failures commits) mid answer ended new) where
  -- what was kept
  pub made : MakesCommits (logged_file contents limits failures commits) mid
  made = session_made manner answer left leaves held holds (logged_file contents limits failures commits) mid session.script refl refl

  pub mid_sound : IsTrue mid.sound
  mid_sound = made.sound

  pub new_commits : new.commits ≡ commits ++ made.units
  new_commits = session.commits ∙ made.commits

  pub new_doubt : new.doubt ≡ mid.doubt
  new_doubt = session.doubt

  pub records_made : OnOk ended (new.records ≡ overlay contents (writes_in_turn made.kept))
  records_made = ok_wider ended _ _
      (λ are.
      are
      ∙ rest_ended mid.file.opening (open_of mid.file) mid.file.history
      ∙ sym (kept_make contents limits (undoubted (logged_file contents limits failures commits)) (undoubted mid) made.events (writes_in_turn made.kept) refl refl refl refl made.ran))
      (session.records mid_sound)

-- what is kept beside a table, and what is not
pub opening_kept : (old new : TableView) → IsKeptBeside old new → (opening_file new.pages.opening ≡ opening_file old.pages.opening) × (new.pages.opening.logged ≡ old.pages.opening.logged)
opening_kept old new is = (ap (λ (o : Origin). opening_file o.opening) is, ap (λ (o : Origin). o.opening.logged) is)

pub order_kept : (old new : TableView) → IsKeptBeside old new → new.tree.order ≡ old.tree.order
order_kept old new is = ap (λ (o : Origin). o.order) is

pub limit_kept : (old new : TableView) → IsKeptBeside old new → new.limit ≡ old.limit
limit_kept old new is = ap (λ (o : Origin). o.limit) is

-- the commit in doubt at the end is one of the session, where none was before
pub doubt_is : (old new : Seen) (made : MakesCommits old new) → old.doubt ≡ [] → DoubtIs new.doubt (in_doubt made.doubted)
doubt_is old new made none = at made.doubted
  where
    at : (d : (new.doubt ≡ old.doubt) ⊎ ((es : List Write) × IsInDoubt old new es)) → DoubtIs new.doubt (in_doubt d)
    at (inl same) = inl (same ∙ none, refl)
    at (inr some) = inr (some.0, refl, some.1.says)

-- what a run sees of the commits that are kept beside a steady table
pub logged_commits : (f : OpenFile TableView) → IsTrue f.table.pages.steady → (seen_as true treed f).commits ≡ f.table.pages.opening.commits
logged_commits f steady = ap (λ b. if b then f.table.pages.opening.commits else []) steady

pub logged_doubt : (f : OpenFile TableView) → IsTrue f.table.pages.steady → (seen_as true treed f).doubt ≡ f.table.pages.opening.doubt
logged_doubt f steady = ap (λ b. if b then f.table.pages.opening.doubt else []) steady

-- no more records than a session may have are no more than a file may have
pub within : (limit order : ℕ) (contents : Contents) (file : PageFile) → limit ≤ most_records → HoldsWithin limit order contents file → HoldsRecords order contents file
within limit order contents file few holds = (holds.0, holds.1, holds.2, holds.3, omega (arith, holds.4, few))
