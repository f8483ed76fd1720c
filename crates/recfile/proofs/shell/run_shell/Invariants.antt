use Rattle.record_file.specs.Runs.{seen_as}
use Rattle.recfile.proofs.shell.run_shell.Given as goal

abbrev pub ghost-run_answered : goal.ghost-run_answered
ghost-run_answered g a = record {
  strict = a.strict;
  left = g.R.CountedRead.left a.reader.now;
  held = g.W.CountedWrite.held a.writer.now;
  old = seen_as g.K.Keeper.keeps g.T.TableState a.file.now;
}
