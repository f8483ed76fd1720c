use Rattle.std.proofs.Common.{◌∙◌, ℕ, ap, inl, subst, rules}
use Rattle.std.proofs.lemmas.Result.{IfErr-weaker}
use Rattle.std.specs.Result.{is_err}
use Rattle.rec_types.specs.Table.{counted}
use Rattle.page_store.specs.Opening.{Opening}
use Rattle.btree_delete.specs.Origins.{Origin}
use Rattle.btree_delete.specs.TableView.{table_contents}
use Rattle.file_session.specs.Beside.{IsSettledWith, LeavesOpening}
use Rattle.file_session.specs.Opened.{IsOutsideFile}
use Rattle.file_session.specs.FileFaults.{is_device_answer}
use Rattle.file_session.specs.Closing.{CountsClosing, refused_calls}
use Rattle.file_session.specs.LogOver.{IsLogOver}
use Rattle.file_session.proofs.ClosingLemmas.{ok_wider}
use Rattle.file_session.proofs.settling.settle_table.Goals as goal

pub returns-clause-over : goal.returns-clause-over
returns-clause-over g c steady units are is =
    let table = c.put_over.new.table in
    let sound = c.put_over.ensures.stays.sound ∙ steady in
    let over : IsLogOver c.args.head.now (table_contents c.args.table) (table_contents table) units = search rules in
    let order = ap (λ (o : Origin). o.order) c.put_over.ensures.stays.origin in
    ok_wider c.close_beside.result.1 _ _ (λ settled. (table_contents table, over, subst (λ (n : ℕ). IsSettledWith g.D.DiskState n (table_contents table) c.close_beside.result.0) order settled)) (c.close_beside.ensures.settled sound)

pub returns-in-Err-clause-failures : goal.returns-in-Err-clause-failures
returns-in-Err-clause-failures g c unsealed tail =
    let guard = ap (λ (o : Origin). o.guard) c.put_over.ensures.stays.origin ∙ unsealed in
    let given_back = c.give_back.ensures.device (ap refused_calls guard) in
    record {
      again = given_back.0;
      failures = given_back.1 ∙ ap (λ n. counted n given_back.0) c.in-Err.ensures.stays.failures;
      once = λ never. absurd (cc never);
    }

pub returns-clause-failures : goal.returns-clause-failures
returns-clause-failures g c unsealed tail =
    let origin = c.put_over.ensures.stays.origin in
    subst (λ n. CountsClosing n (is_err c.close_beside.result.1) (is_device_answer c.close_beside.result.1) (g.D.DiskState.failures c.close_beside.result.0))
    c.in_default.ensures.stays.failures
    (c.close_beside.ensures.failures (ap (λ (o : Origin). o.guard) origin ∙ unsealed) (ap (λ (o : Origin). o.tail) origin ∙ tail))

pub returns-clause-fault : goal.returns-clause-fault
returns-clause-fault g c steady units are is = IfErr-weaker c.close_beside.result.1 IsOutsideFile _ (λ fault outside. inl (inl outside)) c.close_beside.ensures.fault

pub returns-in-Err-clause-unput : goal.returns-in-Err-clause-unput
returns-in-Err-clause-unput g c steady units are is none left since =
    subst (λ (o : Opening). LeavesOpening o left) (ap (λ (o : Origin). o.opening) c.put_over.ensures.stays.origin) (c.give_back.ensures.commits (c.put_over.ensures.stays.sound ∙ steady) left since)

pub returns-clause-unput : goal.returns-clause-unput
returns-clause-unput g c steady units are is none left since =
    let over : IsLogOver c.args.head.now (table_contents c.args.table) (table_contents c.put_over.new.table) units = search rules in
    absurd (none (table_contents c.put_over.new.table) over)
