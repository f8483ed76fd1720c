use Rattle.std.proofs.Common.{refl}
use Rattle.recfile.proofs.DurableExampleLemmas.{answered_lost, commit_made_up, doubt_alone, doubt_unbegun, doubt_unwritten, kept_unlogged, ok_of}
use Rattle.recfile.proofs.laws.durable_sessions_by_example.Goals as goal

pub returns : goal.returns
returns c = record {
  lost = λ manner left leaves held holds before after order contents limits failures commits unclosed status flushed disk ends es left_so is none differ may found. answered_lost order contents ends.made.kept _ es left_so is none differ (ends.lasts left_so may) found;
  made_up = λ manner left leaves held holds before after order contents limits failures commits unclosed status flushed disk ends others left_so is none differ since found. commit_made_up order contents others ends.made.kept _ left_so is none differ (ends.any_moment left_so since) found;
  alone = λ manner left leaves held holds before after order contents limits failures commits unclosed status flushed disk ends a b left_so is doubt first both may found. doubt_alone order contents ends.made.kept _ a b left_so is doubt first both (ends.lasts left_so may) found;
  unended = λ manner left leaves held holds before after order contents limits failures commits status flushed disk ends count left_so is may some. some ((ok_of ends.run.ended count is _ ends.closed refl).no_log.crash left_so may);
  unbegun = doubt_unbegun;
  unwritten = doubt_unwritten;
  unkept = kept_unlogged;
}
