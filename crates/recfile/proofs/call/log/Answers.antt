use Rattle.std.proofs.Common.{[], ◌∷◌, refl}
use Rattle.command_text.specs.declared.reply.Reply.TheVariants as replies
use Rattle.record_file.specs.Runs.{event_of, seen_as, undoubted, LogLen, LogUse}
use Rattle.record_file.proofs.CallStepLemmas.{step_of}
use Rattle.recfile.proofs.CallRunLemmas.{one_ran}
use Rattle.recfile.proofs.call.log.Goals as goal

pub returns : goal.returns
returns g c =
    let file = c.args.file.now in
    record {
      told = λ logged was is. (
        replies.Log c.log_len.result c.log_use.result,
        record {
          events = event_of (LogLen c.log_len.result) c.log_len.ensures.refused ∷ event_of (LogUse c.log_use.result) c.log_use.ensures.refused ∷ [];
          told = refl;
          kept = tt;
          alone = λ _. refl;
          doubt = refl;
          ran = (
            undoubted (seen_as logged g.T.TableState file),
            step_of g.T.TableState logged file file (LogLen c.log_len.result) c.log_len.ensures was was,
            one_ran g.T.TableState logged file file (LogUse c.log_use.result) c.log_use.ensures was is,
          );
        },
        c.tell.ensures,
      );
      moves_so = refl;
    }
