-- What a session keeps of its commits, where they are kept before they are answered.
use Rattle.std.specs.Prelude.{◌≡◌, ◌⊎◌, List, [], ◌∷◌, ℕ, None, ◌++◌}
use mathlib.Core.Logic.{inl, inr}
use Rattle.tx_log.specs.Written.{own, writes}
use Rattle.command_text.specs.Units.{Write}
use Rattle.record_file.specs.Durable.{CommitsKept}
use Rattle.record_file.specs.Runs.{Event, Run, Seen, undoubted}
use Rattle.record_file.specs.Steps.{tx_refusal}
use Rattle.file_session.specs.Overlaid.{SayWrites, writes_in_turn}
use Rattle.file_session.specs.LogKeeping.{SaysWrites}

-- What is in doubt is what a commit had to keep: on the way from one to the other calls led to a file at which the commit of a transaction would be accepted, and that writes this.
pub record IsInDoubt (old new : Seen) (es : List Write) : Type 0 where
  pub mid : Seen
  pub before : List Event
  pub led : Run (undoubted old) before (undoubted mid)
  pub tx : ℕ
  pub accepted : tx_refusal mid.file tx None ≡ None
  pub written : es ≡ writes (own tx mid.file.history)
  pub later : List Event
  pub leads : Run (undoubted mid) later (undoubted new)
  pub says : SaysWrites es new.doubt

-- A run of calls leads from one to the other; what each of its accepted commits has to keep is kept behind what was, as a unit that says its writes; those without writes keep nothing. The commit in doubt is the one that was, or one of this run.
pub record MakesCommits (old new : Seen) : Type 0 where
  pub kept : List (List Write)
  pub units : List (List (List ℕ))
  pub commits : new.commits ≡ old.commits ++ units
  pub says : SayWrites units kept
  pub events : List Event
  pub ran : CommitsKept (undoubted old) events (undoubted new) (writes_in_turn kept)
  pub sound : new.sound ≡ old.sound
  pub logged : new.logged ≡ old.logged
  pub doubted : (new.doubt ≡ old.doubt) ⊎ ((es : List Write) × IsInDoubt old new es)

-- the writes of the commit that came to be in doubt, if one did
abbrev pub in_doubt : {A : Type 0} {P : List Write → Type 0} → A ⊎ ((es : List Write) × P es) → List (List Write)
in_doubt (inl none) = []
in_doubt (inr some) = some.0 ∷ []
