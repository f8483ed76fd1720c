use Rattle.recfile.proofs.ScriptAnswerLemmas.{not_refused, finished_by, faulted_by}
use Rattle.recfile.proofs.script.run_script.Goals as goal

pub unrefused-requires : goal.unrefused-requires
unrefused-requires g c = not_refused _ _ _ _ _ _ _ c.run_script_as.ensures.ran

pub returns-clause-finished : goal.returns-clause-finished
returns-clause-finished g c = finished_by c.unrefused.result c.run_script_as.result _ _ _ _ _ _ c.unrefused.ensures c.run_script_as.ensures.ran

pub returns-clause-faulted : goal.returns-clause-faulted
returns-clause-faulted g c = faulted_by c.unrefused.result c.run_script_as.result _ _ _ _ _ _ c.unrefused.ensures c.run_script_as.ensures.ran
