use Rattle.record_file.proofs.CallStepLemmas.{kept_seen}
use Rattle.record_file.proofs.call.make_call.Goals as goal

pub returns : goal.returns
returns g c = c.ask-answer.ensures (kept_seen g.T.TableState c.args.file.now c.stays_true.ensures) (kept_seen g.T.TableState c.ask-answer.new.file c.stays_true-2.ensures)
