use Rattle.std.proofs.Common.{sym, ◌∙◌}
use Rattle.std.proofs.lemmas.Bool.{false≢true}
use Rattle.recfile.proofs.laws.unkept_commits_by_example.Goals as goal

pub returns : goal.returns
returns c = record {
  refused = λ old t refused told. refused told.2;
  unlogged = λ old t unlogged told. false≢true (sym unlogged ∙ told.0);
}
