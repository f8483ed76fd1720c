use Rattle.std.proofs.Common.{Ok, refl}
use Rattle.command_text.specs.declared.command.Command.TheVariants as commands
use Rattle.command_text.specs.declared.reply.Reply.TheVariants as replies
use Rattle.record_file.specs.Runs.{Put}
use Rattle.recfile.proofs.CallRunLemmas.{told_by}
use Rattle.recfile.proofs.call.put.Goals as goal

pub returns : goal.returns
returns g c = told_by g.T.TableState c.args.file.now c.put.new.self (Put c.args.tx c.args.key c.args.value c.put.result) c.put.ensures (Ok (commands.Put c.args.tx c.args.key c.args.value)) (replies.Put c.put.result) c.tell.result _ (λ logged. refl) (λ logged. tt) (λ logged same. same) refl c.tell.ensures
