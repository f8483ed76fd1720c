use Rattle.std.proofs.Common.{refl, sym, subst}
use Rattle.record_file.specs.Runs.{seen, Begin, Put, Claim, Remove, Get, Savepoint, Release, RollbackTo, Abort, Resume, Commit, Entries, Beside, CommittedAt, KeysOf, StatusOf, Charged, Begun, LogLen, LogUse, RecordAt}
use Rattle.record_file.specs.Steps.{listed}
use Rattle.record_file.specs.declared.call.Call.{Call}
use Rattle.record_file.specs.declared.call.Call.TheVariants as call
use Rattle.record_file.specs.declared.call.Answer.TheVariants as answer
use Rattle.record_file.specs.Calls.{Makes}
use Rattle.record_file.proofs.CallStepLemmas.{call_makes}
use Rattle.record_file.proofs.call.ask.Goals as goal

pub returns-in-Begin : goal.returns-in-Begin
returns-in-Begin g c = λ was is. subst (λ (k : Call). Makes (seen g.T.TableState c.args.file.now) k (answer.Begin c.begin.result) (seen g.T.TableState c.begin.new.self)) (sym c.in-Begin.is)
    (call_makes g.T.TableState c.args.file.now c.begin.new.self call.Begin (answer.Begin c.begin.result) (Begin c.begin.result) refl c.begin.ensures was is)

pub returns-in-Savepoint : goal.returns-in-Savepoint
returns-in-Savepoint g c = λ was is. subst (λ (k : Call). Makes (seen g.T.TableState c.args.file.now) k (answer.Savepoint c.savepoint.result) (seen g.T.TableState c.savepoint.new.self)) (sym c.in-Savepoint.is)
    (call_makes g.T.TableState c.args.file.now c.savepoint.new.self (call.Savepoint c.in-Savepoint.tx) (answer.Savepoint c.savepoint.result) (Savepoint c.in-Savepoint.tx c.savepoint.result) refl c.savepoint.ensures was is)

pub returns-in-Release : goal.returns-in-Release
returns-in-Release g c = λ was is. subst (λ (k : Call). Makes (seen g.T.TableState c.args.file.now) k (answer.Release c.release.result) (seen g.T.TableState c.release.new.self)) (sym c.in-Release.is)
    (call_makes g.T.TableState c.args.file.now c.release.new.self (call.Release c.in-Release.tx c.in-Release.n) (answer.Release c.release.result) (Release c.in-Release.tx c.in-Release.n c.release.result) refl c.release.ensures was is)

pub returns-in-Commit : goal.returns-in-Commit
returns-in-Commit g c = λ was is. subst (λ (k : Call). Makes (seen g.T.TableState c.args.file.now) k (answer.Commit c.commit.result) (seen g.T.TableState c.commit.new.self)) (sym c.in-Commit.is)
    (call_makes g.T.TableState c.args.file.now c.commit.new.self (call.Commit c.in-Commit.tx) (answer.Commit c.commit.result) (Commit c.in-Commit.tx c.commit.result) refl c.commit.ensures was is)

pub returns-in-Put : goal.returns-in-Put
returns-in-Put g c = λ was is. subst (λ (k : Call). Makes (seen g.T.TableState c.args.file.now) k (answer.Put c.put.result) (seen g.T.TableState c.put.new.self)) (sym c.in-Put.is)
    (call_makes g.T.TableState c.args.file.now c.put.new.self (call.Put c.in-Put.tx c.in-Put.key c.in-Put.value) (answer.Put c.put.result) (Put c.in-Put.tx c.in-Put.key c.in-Put.value c.put.result) refl c.put.ensures was is)

pub returns-in-Claim : goal.returns-in-Claim
returns-in-Claim g c = λ was is. subst (λ (k : Call). Makes (seen g.T.TableState c.args.file.now) k (answer.Claim c.claim.result) (seen g.T.TableState c.claim.new.self)) (sym c.in-Claim.is)
    (call_makes g.T.TableState c.args.file.now c.claim.new.self (call.Claim c.in-Claim.tx c.in-Claim.key) (answer.Claim c.claim.result) (Claim c.in-Claim.tx c.in-Claim.key c.claim.result) refl c.claim.ensures was is)

pub returns-in-Remove : goal.returns-in-Remove
returns-in-Remove g c = λ was is. subst (λ (k : Call). Makes (seen g.T.TableState c.args.file.now) k (answer.Remove c.remove.result) (seen g.T.TableState c.remove.new.self)) (sym c.in-Remove.is)
    (call_makes g.T.TableState c.args.file.now c.remove.new.self (call.Remove c.in-Remove.tx c.in-Remove.key) (answer.Remove c.remove.result) (Remove c.in-Remove.tx c.in-Remove.key c.remove.result) refl c.remove.ensures was is)

pub returns-in-Get : goal.returns-in-Get
returns-in-Get g c = λ was is. subst (λ (k : Call). Makes (seen g.T.TableState c.args.file.now) k (answer.Get c.get.result) (seen g.T.TableState c.get.new.self)) (sym c.in-Get.is)
    (call_makes g.T.TableState c.args.file.now c.get.new.self (call.Get c.in-Get.tx c.in-Get.key) (answer.Get c.get.result) (Get c.in-Get.tx c.in-Get.key c.get.result) refl c.get.ensures was is)

pub returns-in-RollbackTo : goal.returns-in-RollbackTo
returns-in-RollbackTo g c = λ was is. subst (λ (k : Call). Makes (seen g.T.TableState c.args.file.now) k (answer.RollbackTo c.rollback_to.result) (seen g.T.TableState c.rollback_to.new.self)) (sym c.in-RollbackTo.is)
    (call_makes g.T.TableState c.args.file.now c.rollback_to.new.self (call.RollbackTo c.in-RollbackTo.tx c.in-RollbackTo.n) (answer.RollbackTo c.rollback_to.result) (RollbackTo c.in-RollbackTo.tx c.in-RollbackTo.n c.rollback_to.result) refl c.rollback_to.ensures was is)

pub returns-in-Abort : goal.returns-in-Abort
returns-in-Abort g c = λ was is. subst (λ (k : Call). Makes (seen g.T.TableState c.args.file.now) k (answer.Abort c.abort.result) (seen g.T.TableState c.abort.new.self)) (sym c.in-Abort.is)
    (call_makes g.T.TableState c.args.file.now c.abort.new.self (call.Abort c.in-Abort.tx) (answer.Abort c.abort.result) (Abort c.in-Abort.tx c.abort.result) refl c.abort.ensures was is)

pub returns-in-Resume : goal.returns-in-Resume
returns-in-Resume g c = λ was is. subst (λ (k : Call). Makes (seen g.T.TableState c.args.file.now) k (answer.Resume c.resume.result) (seen g.T.TableState c.resume.new.self)) (sym c.in-Resume.is)
    (call_makes g.T.TableState c.args.file.now c.resume.new.self (call.Resume c.in-Resume.tx) (answer.Resume c.resume.result) (Resume c.in-Resume.tx c.resume.result) refl c.resume.ensures was is)

pub returns-in-KeysOf : goal.returns-in-KeysOf
returns-in-KeysOf g c = λ was is. subst (λ (k : Call). Makes (seen g.T.TableState c.args.file.now) k (answer.KeysOf c.keys_of.result) (seen g.T.TableState c.args.file.now)) (sym c.in-KeysOf.is)
    (call_makes g.T.TableState c.args.file.now c.args.file.now (call.KeysOf c.in-KeysOf.tx) (answer.KeysOf c.keys_of.result) (KeysOf c.in-KeysOf.tx (listed c.keys_of.result)) refl c.keys_of.ensures was is)

pub returns-in-Status : goal.returns-in-Status
returns-in-Status g c = λ was is. subst (λ (k : Call). Makes (seen g.T.TableState c.args.file.now) k (answer.Status c.status.result) (seen g.T.TableState c.args.file.now)) (sym c.in-Status.is)
    (call_makes g.T.TableState c.args.file.now c.args.file.now (call.Status c.in-Status.tx) (answer.Status c.status.result) (StatusOf c.in-Status.tx c.status.result) refl c.status.ensures was is)

pub returns-in-Charged : goal.returns-in-Charged
returns-in-Charged g c = λ was is. subst (λ (k : Call). Makes (seen g.T.TableState c.args.file.now) k (answer.Charged c.charged.result) (seen g.T.TableState c.args.file.now)) (sym c.in-Charged.is)
    (call_makes g.T.TableState c.args.file.now c.args.file.now call.Charged (answer.Charged c.charged.result) (Charged c.charged.result) refl c.charged.ensures was is)

pub returns-in-Begun : goal.returns-in-Begun
returns-in-Begun g c = λ was is. subst (λ (k : Call). Makes (seen g.T.TableState c.args.file.now) k (answer.Begun c.begun.result) (seen g.T.TableState c.args.file.now)) (sym c.in-Begun.is)
    (call_makes g.T.TableState c.args.file.now c.args.file.now call.Begun (answer.Begun c.begun.result) (Begun c.begun.result) refl c.begun.ensures.made was is)

pub returns-in-LogLen : goal.returns-in-LogLen
returns-in-LogLen g c = λ was is. subst (λ (k : Call). Makes (seen g.T.TableState c.args.file.now) k (answer.LogLen c.log_len.result) (seen g.T.TableState c.args.file.now)) (sym c.in-LogLen.is)
    (call_makes g.T.TableState c.args.file.now c.args.file.now call.LogLen (answer.LogLen c.log_len.result) (LogLen c.log_len.result) refl c.log_len.ensures was is)

pub returns-in-LogUse : goal.returns-in-LogUse
returns-in-LogUse g c = λ was is. subst (λ (k : Call). Makes (seen g.T.TableState c.args.file.now) k (answer.LogUse c.log_use.result) (seen g.T.TableState c.args.file.now)) (sym c.in-LogUse.is)
    (call_makes g.T.TableState c.args.file.now c.args.file.now call.LogUse (answer.LogUse c.log_use.result) (LogUse c.log_use.result) refl c.log_use.ensures was is)

pub returns-in-LogRecord : goal.returns-in-LogRecord
returns-in-LogRecord g c = λ was is. subst (λ (k : Call). Makes (seen g.T.TableState c.args.file.now) k (answer.LogRecord c.log_record.result) (seen g.T.TableState c.args.file.now)) (sym c.in-LogRecord.is)
    (call_makes g.T.TableState c.args.file.now c.args.file.now (call.LogRecord c.in-LogRecord.lsn) (answer.LogRecord c.log_record.result) (RecordAt c.in-LogRecord.lsn c.log_record.result) refl c.log_record.ensures was is)

pub returns-in-Entries : goal.returns-in-Entries
returns-in-Entries g c = λ was is. subst (λ (k : Call). Makes (seen g.T.TableState c.args.file.now) k (answer.Entries c.entries.result) (seen g.T.TableState c.entries.new.self)) (sym c.in-Entries.is)
    (call_makes g.T.TableState c.args.file.now c.entries.new.self call.Entries (answer.Entries c.entries.result) (Entries (listed c.entries.result)) refl c.entries.ensures was is)

pub returns-in-Beside : goal.returns-in-Beside
returns-in-Beside g c = λ was is. subst (λ (k : Call). Makes (seen g.T.TableState c.args.file.now) k (answer.Beside c.beside.result) (seen g.T.TableState c.beside.new.self)) (sym c.in-Beside.is)
    (call_makes g.T.TableState c.args.file.now c.beside.new.self (call.Beside c.in-Beside.side c.in-Beside.gap) (answer.Beside c.beside.result) (Beside c.in-Beside.side c.in-Beside.gap c.beside.result) refl c.beside.ensures was is)

pub returns-in-Committed : goal.returns-in-Committed
returns-in-Committed g c = λ was is. subst (λ (k : Call). Makes (seen g.T.TableState c.args.file.now) k (answer.Committed c.committed.result) (seen g.T.TableState c.committed.new.self)) (sym c.in-Committed.is)
    (call_makes g.T.TableState c.args.file.now c.committed.new.self (call.Committed c.in-Committed.key) (answer.Committed c.committed.result) (CommittedAt c.in-Committed.key c.committed.result) refl c.committed.ensures was is)
