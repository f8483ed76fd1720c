use Rattle.std.proofs.Common.{Ok, refl}
use Rattle.command_text.specs.declared.command.Command.TheVariants as commands
use Rattle.command_text.specs.declared.reply.Reply.TheVariants as replies
use Rattle.record_file.specs.Runs.{Savepoint}
use Rattle.recfile.proofs.CallRunLemmas.{told_by}
use Rattle.recfile.proofs.call.savepoint.Goals as goal

pub returns : goal.returns
returns g c = told_by g.T.TableState c.args.file.now c.savepoint.new.self (Savepoint c.args.tx c.savepoint.result) c.savepoint.ensures (Ok (commands.Save c.args.tx)) (replies.Save c.savepoint.result) c.tell.result _ (λ logged. refl) (λ logged. tt) (λ logged same. same) refl c.tell.ensures
