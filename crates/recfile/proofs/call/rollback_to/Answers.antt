use Rattle.std.proofs.Common.{Ok, refl}
use Rattle.command_text.specs.declared.command.Command.TheVariants as commands
use Rattle.command_text.specs.declared.reply.Reply.TheVariants as replies
use Rattle.record_file.specs.Runs.{RollbackTo}
use Rattle.recfile.proofs.CallRunLemmas.{told_by}
use Rattle.recfile.proofs.call.rollback_to.Goals as goal

pub returns : goal.returns
returns g c = told_by g.T.TableState c.args.file.now c.rollback_to.new.self (RollbackTo c.args.tx c.args.n c.rollback_to.result) c.rollback_to.ensures (Ok (commands.Back c.args.tx c.args.n)) (replies.Back c.rollback_to.result) c.tell.result _ (λ logged. refl) (λ logged. tt) (λ logged same. same) refl c.tell.ensures
