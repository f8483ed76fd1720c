-- What the commits of a run make of the records that it began with, without the transactions that haven't committed.
use Rattle.std.specs.Prelude.{◌≡◌, ℕ, Bool, List, [], ◌∷◌, ◌++◌, Option, Some, None, Result, Ok, Err, IsTrue, true, false}
use Rattle.rec_types.specs.Contents.{Contents, set_to}
use Rattle.rec_types.specs.History.{replay}
use Rattle.tx_log.specs.Written.{own, writes}
use Rattle.record_file.specs.declared.fault.ChangesFault.{ChangesFault}
use Rattle.record_file.specs.declared.fault.ChangesFault.TheVariants as changes_faults
use Rattle.record_file.specs.declared.fault.CommitFault.TheVariants as commit_faults
use Rattle.record_file.specs.declared.keeper.KeepFault.{KeepFault}
use Rattle.record_file.specs.declared.keeper.KeepFault.TheVariants as keep_faults
use Rattle.record_file.specs.declared.keeper.KeeperFault.{KeeperFault}
use Rattle.record_file.specs.Abstract.{File}
pub use Rattle.record_file.specs.Committed.{has_ended, ended, committed}
use Rattle.record_file.specs.Refusals.{changes_refusal}
use Rattle.record_file.specs.Steps.{tx_refusal, CommitStep}
use Rattle.record_file.specs.Runs.{Called, Event, Seen, Step, Commit}

-- keys with the record that is put there, or with none where the key is taken out: one after another over the contents
abbrev pub overlay : Contents → List (List ℕ × Option (List ℕ)) → Contents
overlay m [] = m
overlay m (e ∷ es) = overlay (set_to m e.0 e.1) es

-- what a call has to keep: an accepted commit what does the same as the live changes of its transaction, whatever stood
-- there before; any other call nothing
abbrev pub Keeps : File → Called → List (List ℕ × Option (List ℕ)) → Type 0
Keeps f (Commit t (Ok done)) es = (m : Contents) → overlay m es ≡ replay m (own t.0 f.history)
Keeps f called es = es ≡ []

-- a run whose commits are kept, each when it is made
abbrev pub CommitsKept : Seen → List Event → Seen → List (List ℕ × Option (List ℕ)) → Type 0
CommitsKept old [] new kept = (new ≡ old) × (kept ≡ [])
CommitsKept old (e ∷ es) new kept =
    (mid : Seen) × Step old e mid × (first : List (List ℕ × Option (List ℕ))) × (rest : List (List ℕ × Option (List ℕ)))
    × (kept ≡ first ++ rest) × Keeps old.file e.called first × CommitsKept mid es new rest

-- What a transaction writes is told where a commit of it is accepted: what its live changes write, in order. It is refused
-- exactly as a commit is, and else for memory alone.
abbrev pub ChangesStep : File → ℕ → Result (List (List ℕ × Option (List ℕ))) ChangesFault → Type 0
ChangesStep f t (Ok es) = (tx_refusal f t None ≡ None) × (es ≡ writes (own t f.history))
ChangesStep f t (Err changes_faults.Memory) = tx_refusal f t None ≡ None
ChangesStep f t (Err fault) = tx_refusal f t None ≡ Some (changes_refusal fault)

-- A commit that a keeper has to keep is refused exactly as a commit is; at any other fault a commit would be accepted, and
-- the file is as it was. Where the keeper keeps nothing there is no other fault.
abbrev pub KeptStep : Bool → File → ℕ → Result (Unit {0}) KeepFault → File → Type 0
KeptStep keeps old t (Ok done) new = CommitStep old t (Ok done) new
KeptStep keeps old t (Err (keep_faults.Refused fault)) new = CommitStep old t (Err fault) new
KeptStep keeps old t (Err fault) new = IsTrue keeps × (tx_refusal old t None ≡ None) × (new ≡ old)

-- the one where something is kept, and else the other
abbrev pub AskedIf : Bool → Type 0 → Type 0 → Type 0
AskedIf true P Q = P
AskedIf false P Q = Q

-- The keeper is asked to keep these writes beside the table, and the answer is its own; where the commit is refused, memory is
-- wanting, or nothing is kept, it isn't asked.
abbrev pub AsksKeeper : {T : Type 0} → (T → List (List ℕ × Option (List ℕ)) → Result (Unit {0}) KeeperFault → T → Type 0) → Bool → List (List ℕ × Option (List ℕ)) → T → Result (Unit {0}) KeepFault → T → Type 0
AsksKeeper answers keeps es old (Ok done) new = AskedIf keeps (answers old es (Ok done) new) (new ≡ old)
AsksKeeper answers keeps es old (Err (keep_faults.Unkept fault)) new = answers old es (Err fault) new
AsksKeeper answers keeps es old (Err fault) new = new ≡ old

-- what ends a commit before the keeper is asked
abbrev pub unasked : ChangesFault → KeepFault
unasked changes_faults.NoSuchTx = keep_faults.Refused commit_faults.NoSuchTx
unasked changes_faults.Rolling = keep_faults.Refused commit_faults.Rolling
unasked changes_faults.Memory = keep_faults.Memory
