-- What a store keeps of commits beside its pages.
use Rattle.std.specs.Prelude.{◌≡◌, ◌≢◌, ◌⊎◌, Bool, List, ℕ, [], ◌∷◌, ◌++◌, Result, Err, OnOk, OnErr, IsTrue}
use Rattle.commit_paper.specs.Text.{IsUnit, unit_text}
use Rattle.page_store.specs.Guards.{Guard}
use Rattle.page_store.specs.Opening.{Opening}
use Rattle.page_store.specs.declared.append_fault.AppendFault.{AppendFault}
use Rattle.page_store.specs.declared.append_fault.AppendFault.TheVariants.{Doubt}
use Rattle.page_store.specs.declared.store_state.StoreState.{Ghosts}

-- the text of a commit: lines of which the last, and no other, ends it
abbrev pub IsCommit : List ℕ → Type 0
IsCommit text = (unit : List (List ℕ)) × IsUnit unit × (text ≡ unit_text unit)

-- What was opened is the same, and the commits that are kept are those that were, and this one at Ok. After a doubt pages may not be written over any more.
pub record KeepsCommit (steady : Bool) (text : List ℕ) (was : Opening) (guarded : Guard) (answer : Result (Unit {0}) AppendFault) (now : Opening) (guard : Guard) : Type 0 where
  pub opened : now ≡ record was { commits = now.commits; doubt = now.doubt }
  pub kept : IsTrue steady → (unit : List (List ℕ)) → IsUnit unit → text ≡ unit_text unit → OnOk answer (now.commits ≡ was.commits ++ unit ∷ [])
  pub unkept : IsTrue steady → OnErr answer (now.commits ≡ was.commits)
  pub doubted : (now.doubt ≡ was.doubt) ⊎ ((answer ≡ Err Doubt) × (now.doubt ≡ text))
  pub guarded_still : answer ≢ Err Doubt → guard ≡ guarded

-- a call that keeps a commit changes no page, and counts as no call of the store
pub record CommitsStore {S : Type 0} (s : Ghosts S) (text : List ℕ) (old : S) (answer : Result (Unit {0}) AppendFault) (new : S) : Type 0 where
  pub pages : s.pages new ≡ s.pages old
  pub tail : s.tail new ≡ s.tail old
  pub steady : s.steady new ≡ s.steady old
  pub reads : s.reads new ≡ s.reads old
  pub shapes : s.shapes new ≡ s.shapes old
  pub writes : s.writes new ≡ s.writes old
  pub failures : s.failures new ≡ s.failures old
  pub journal : s.journal new ≡ s.journal old
  pub commits : KeepsCommit (s.steady old) text (s.opening old) (s.guard old) answer (s.opening new) (s.guard new)
