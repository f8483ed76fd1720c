use Rattle.std.proofs.Common.{Result, Ok, Err, IfOk, IfErr, MatchResult}
use Rattle.record_file.specs.Runs.{seen_as}
use Rattle.record_file.proofs.CallStepLemmas.{same_commits}
use Rattle.recfile.specs.Ending.{end_cause}
use Rattle.recfile.proofs.CallRunLemmas.{ending_as, same_doubt}
use Rattle.recfile.proofs.session.run_session.Goals as goal

matched : {A F : Type 0} (answer : Result A F) (P : A → Type 0) (Q : F → Type 0) → IfOk answer P → IfErr answer Q → MatchResult answer P Q
matched (Ok x) P Q ok err = ok
matched (Err x) P Q ok err = err

pub returns-clause-session : goal.returns-clause-session
returns-clause-session g c = (
  seen_as g.K.Keeper.keeps g.T.TableState c.run_feed-script.new.file,
  record {
    script = c.run_feed-script.ensures.ran;
    ending = matched c.end_all-ended.result _ _ c.end_all-ended.ensures.ended c.end_all-ended.ensures.stopped;
    asks = ending_as g.T.TableState g.K.Keeper.keeps c.run_feed-script.new.file c.end_all-ended.new.file (end_cause c.end_all-ended.result) c.end_all-ended.ensures.asks;
    commits = same_commits g.K.Keeper.keeps g.T.TableState c.run_feed-script.new.file.table c.end_all-ended.new.file.table c.end_all-ended.ensures.asks.sound c.end_all-ended.ensures.origin;
    doubt = same_doubt g.K.Keeper.keeps g.T.TableState c.run_feed-script.new.file.table c.end_all-ended.new.file.table c.end_all-ended.ensures.asks.sound c.end_all-ended.ensures.origin;
    records = c.end_all-ended.ensures.records;
  },
)

pub returns-clause-moves : goal.returns-clause-moves
returns-clause-moves g c = g.met.K.Keeper.moves_on _ _ _ c.run_feed-script.ensures.moves (g.met.K.Keeper.moves_none _ _ c.end_all-ended.ensures.origin)
