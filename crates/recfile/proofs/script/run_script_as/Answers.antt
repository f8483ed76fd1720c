use Rattle.recfile.proofs.ScriptAnswerLemmas.{ran_lines}
use Rattle.recfile.proofs.StreamLemmas.{tells_last}
use Rattle.recfile.proofs.script.run_script_as.Goals as goal

pub returns-clause-ran : goal.returns-clause-ran
returns-clause-ran g c = ran_lines c.args.strict c.run_lines.result _ _ _ _ _ _ c.deref.result.now c.in_ok-script.script.items c.deref.ensures.value c.in_ok-script.ensures.whole c.run_lines.ensures.finished c.run_lines.ensures.stops

pub returns-clause-failed : goal.returns-clause-failed
returns-clause-failed g c = tells_last c.args.calls.now c.read_script.new.calls c.run_lines.new.calls _ _ c.in_ok-script.ensures.failed.read c.in_ok-script.ensures.failed.written c.run_lines.ensures.failed c.run_lines.ensures.faults
