use Rattle.std.proofs.Common.{Ok, refl}
use Rattle.command_text.specs.declared.command.Command.TheVariants as commands
use Rattle.command_text.specs.declared.reply.Reply.TheVariants as replies
use Rattle.record_file.specs.Runs.{Abort}
use Rattle.recfile.proofs.CallRunLemmas.{told_by}
use Rattle.recfile.proofs.call.abort.Goals as goal

pub returns : goal.returns
returns g c = told_by g.T.TableState c.args.file.now c.abort.new.self (Abort c.args.tx c.abort.result) c.abort.ensures (Ok (commands.Abort c.args.tx)) (replies.Abort c.abort.result) c.tell.result _ (λ logged. refl) (λ logged. tt) (λ logged same. same) refl c.tell.ensures
