use Rattle.std.proofs.Common.{Ok, refl}
use Rattle.command_text.specs.declared.command.Command.TheVariants as commands
use Rattle.command_text.specs.declared.reply.Reply.TheVariants as replies
use Rattle.record_file.specs.Runs.{Resume}
use Rattle.recfile.proofs.CallRunLemmas.{told_by}
use Rattle.recfile.proofs.call.resume.Goals as goal

pub returns : goal.returns
returns g c = told_by g.T.TableState c.args.file.now c.resume.new.self (Resume c.args.tx c.resume.result) c.resume.ensures (Ok (commands.Resume c.args.tx)) (replies.Resume c.resume.result) c.tell.result _ (λ logged. refl) (λ logged. tt) (λ logged same. same) refl c.tell.ensures
