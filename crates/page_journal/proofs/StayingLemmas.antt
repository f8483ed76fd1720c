-- A store whose disk was only read is what it was.
use Rattle.std.proofs.Common.{◌≤◌, ℕ, Bool, List, Option, IsTrue, sym, ◌∙◌}
use Rattle.page_journal.specs.Files.{Files}
use Rattle.page_journal.specs.Steps.{Stays}
use Rattle.page_journal.specs.KeptStores.{IsGuarded, old_file_of}
use Rattle.page_journal.specs.LoggedStores.{BeganAlone, KnowsCommits}
use Rattle.page_journal.specs.declared.disk_state.DiskState.{Ghosts}
use Rattle.page_journal.specs.declared.log_place.LogPlace.{LogPlace}
use Rattle.page_journal.specs.declared.seal_state.SealState.{SealState}
use Rattle.page_journal.proofs.KeptStoreLemmas.{guarded_stays, same_guard}
use Rattle.page_journal.proofs.LogLemmas.{logs_begin, logs_stays}
use Rattle.page_journal.proofs.LoggedLemmas.{alone_same, logged_leaves}

module _ {D : Type 0} (g : Ghosts D) (counts : (disk : D) (t : ℕ) (c : Files) → t ≤ g.moment disk → g.may_leave disk c → g.left_since disk t c) where
  -- what is known where reads give what was written
  abbrev pub Guards : SealState → List Bool → Option LogPlace → D → Type 0
  Guards state flags log disk = IsTrue (g.steady disk) → IsGuarded g (old_file_of g disk) state flags disk × BeganAlone g log disk

  pub guards_stay : (state : SealState) (flags : List Bool) (log : Option LogPlace) (old new : D) → Guards state flags log old → Stays g old new → Guards state flags log new
  guards_stay state flags log old new held stays = λ st.
      let was = held (sym stays.steady ∙ st) in (
        same_guard g state flags old new new stays.began (guarded_stays g (old_file_of g old) counts state flags old new was.0 stays),
        alone_same g log old new stays.began was.1,
      )

  -- and what it knows of its commits
  pub logged_stays : (log : Option LogPlace) (doubt : List ℕ) (old new : D) → ((c : Files) → g.left_since old (g.moment old) c → g.may_leave old c) → KnowsCommits g log doubt old → Stays g old new → KnowsCommits g log doubt new
  logged_stays log doubt old new only knows stays = logged_leaves g counts log doubt old new (logs_stays g old old new (logs_begin g old only) stays) stays.began knows
