use Rattle.std.proofs.Common.{◌≡◌, rules, true, Some, None, Ok, sym, ap, ◌∙◌}
use Rattle.std.proofs.lemmas.Result.{err_from_is_err_and}
use Rattle.record_file.specs.Runs.{seen}
use Rattle.recfile.specs.Ending.{stop_of}
use Rattle.recfile.proofs.AskingLemmas.{asks_on}
use Rattle.recfile.proofs.OneEndingLemmas.{ended_open, stopped_abort}
use Rattle.recfile.proofs.endings.end_one.Goals as goal

pub returns-clause-ended : goal.returns-clause-ended
returns-clause-ended g c =
    let going = c.in_ok-go_on.ensures.step in
    let giving = c.in_ok-give_up.ensures.step in
    let open_then : c.in_ok-go_on.field-0 ≡ true = search rules in
    ended_open c.args.file.now.file c.go_on.new.file.file c.give_up.new.file.file c.args.tx going.0 giving.0 (c.begun-begun.ensures.kept.whole c.args.tx.0) (sym going.1 ∙ ap Ok open_then) going.2 (sym giving.1) giving.2

pub returns-clause-asks : goal.returns-clause-asks
returns-clause-asks g c = asks_on (seen g.T.TableState c.args.file.now) (seen g.T.TableState c.go_on.new.file) (seen g.T.TableState c.give_up.new.file) None c.in_ok-go_on.ensures.asks c.in_ok-give_up.ensures.asks

pub returns-in_err-give_up-clause-stopped : goal.returns-in_err-give_up-clause-stopped
returns-in_err-give_up-clause-stopped g c =
    let p = err_from_is_err_and c.from_residual-in_err-give_up.result c.from_residual-in_err-give_up.ensures.1 in
    let going = c.in_ok-go_on.ensures.step in
    let giving = c.in_err-give_up.ensures.step in
    let open_then : c.in_ok-go_on.field-0 ≡ true = search rules in
    rw (p.1, p.2)
    (stopped_abort c.args.file.now.file c.go_on.new.file.file c.give_up.new.file.file c.args.tx going.0 giving.0 c.in_err-give_up.field-0.0 (sym going.1 ∙ ap Ok open_then) going.2 (sym giving.1) giving.2).0

pub returns-in_err-give_up-clause-asks : goal.returns-in_err-give_up-clause-asks
returns-in_err-give_up-clause-asks g c =
    let p = err_from_is_err_and c.from_residual-in_err-give_up.result c.from_residual-in_err-give_up.ensures.1 in
    rw (p.1, p.2)
    (asks_on (seen g.T.TableState c.args.file.now) (seen g.T.TableState c.go_on.new.file) (seen g.T.TableState c.give_up.new.file) (Some (stop_of c.in_err-give_up.field-0.0)) c.in_ok-go_on.ensures.asks c.in_err-give_up.ensures.asks)
