-- What calls on a file answer, one after another.
use Rattle.std.specs.Prelude.{◌≡◌, List, [], ◌∷◌}
use Rattle.record_file.specs.declared.call.Call.{Call}
use Rattle.record_file.specs.declared.call.Call.TheVariants as call
use Rattle.record_file.specs.declared.call.Answer.{Answer}
use Rattle.record_file.specs.declared.call.Answer.TheVariants as answer
use Rattle.record_file.specs.Steps.{listed}
use Rattle.record_file.specs.Runs.{Called, Event, Seen, Step, Run, Begin, Put, Claim, Remove, Get, Savepoint, Release, RollbackTo, Abort, Resume, Commit, Entries, Beside, CommittedAt, KeysOf, StatusOf, Charged, Begun, LogLen, LogUse, RecordAt}

-- the call and its answer, as a run tells of them; a call has no other answer
abbrev pub TellsOf : Call → Answer → Called → Type 0
TellsOf call.Begin (answer.Begin told) called = called ≡ Begin told
TellsOf (call.Put t x r) (answer.Put told) called = called ≡ Put t x r told
TellsOf (call.Claim t x) (answer.Claim told) called = called ≡ Claim t x told
TellsOf (call.Remove t x) (answer.Remove told) called = called ≡ Remove t x told
TellsOf (call.Get t x) (answer.Get told) called = called ≡ Get t x told
TellsOf (call.Savepoint t) (answer.Savepoint told) called = called ≡ Savepoint t told
TellsOf (call.Release t n) (answer.Release told) called = called ≡ Release t n told
TellsOf (call.RollbackTo t n) (answer.RollbackTo told) called = called ≡ RollbackTo t n told
TellsOf (call.Abort t) (answer.Abort told) called = called ≡ Abort t told
TellsOf (call.Resume t) (answer.Resume told) called = called ≡ Resume t told
TellsOf (call.Commit t) (answer.Commit told) called = called ≡ Commit t told
TellsOf call.Entries (answer.Entries told) called = called ≡ Entries (listed told)
TellsOf (call.Beside side gap) (answer.Beside told) called = called ≡ Beside side gap told
TellsOf (call.Committed x) (answer.Committed told) called = called ≡ CommittedAt x told
TellsOf (call.KeysOf t) (answer.KeysOf told) called = called ≡ KeysOf t (listed told)
TellsOf (call.Status t) (answer.Status told) called = called ≡ StatusOf t told
TellsOf call.Charged (answer.Charged told) called = called ≡ Charged told
TellsOf call.Begun (answer.Begun told) called = called ≡ Begun told
TellsOf call.LogLen (answer.LogLen told) called = called ≡ LogLen told
TellsOf call.LogUse (answer.LogUse told) called = called ≡ LogUse told
TellsOf (call.LogRecord lsn) (answer.LogRecord told) called = called ≡ RecordAt lsn told
TellsOf asked told called = ⊥

-- from old, the call has this answer by one step, which leads to new
pub record Makes (old : Seen) (asked : Call) (told : Answer) (new : Seen) : Type 0 where
  pub event : Event
  pub tells : TellsOf asked told event.called
  pub step : Step old event new

-- the events of these calls with these answers
abbrev pub AreEvents : List Call → List Answer → List Event → Type 0
AreEvents [] [] [] = Unit {0}
AreEvents (asked ∷ calls) (told ∷ answers) (e ∷ es) = TellsOf asked told e.called × AreEvents calls answers es
AreEvents calls answers events = ⊥

-- From old, the calls have these answers by a run, which leads to new.
pub record MakesAll (old : Seen) (calls : List Call) (answers : List Answer) (new : Seen) : Type 0 where
  pub events : List Event
  pub tell : AreEvents calls answers events
  pub ran : Run old events new
