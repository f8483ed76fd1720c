use Rattle.std.proofs.Common.{Ok, refl}
use Rattle.command_text.specs.declared.command.Command.TheVariants as commands
use Rattle.command_text.specs.declared.reply.Reply.TheVariants as replies
use Rattle.record_file.specs.Runs.{Remove}
use Rattle.recfile.proofs.CallRunLemmas.{told_by}
use Rattle.recfile.proofs.call.remove.Goals as goal

pub returns : goal.returns
returns g c = told_by g.T.TableState c.args.file.now c.remove.new.self (Remove c.args.tx c.args.key c.remove.result) c.remove.ensures (Ok (commands.Del c.args.tx c.args.key)) (replies.Del c.remove.result) c.tell.result _ (λ logged. refl) (λ logged. tt) (λ logged same. same) refl c.tell.ensures
