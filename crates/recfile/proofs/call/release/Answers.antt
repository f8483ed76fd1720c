use Rattle.std.proofs.Common.{Ok, refl}
use Rattle.command_text.specs.declared.command.Command.TheVariants as commands
use Rattle.command_text.specs.declared.reply.Reply.TheVariants as replies
use Rattle.record_file.specs.Runs.{Release}
use Rattle.recfile.proofs.CallRunLemmas.{told_by}
use Rattle.recfile.proofs.call.release.Goals as goal

pub returns : goal.returns
returns g c = told_by g.T.TableState c.args.file.now c.release.new.self (Release c.args.tx c.args.n c.release.result) c.release.ensures (Ok (commands.Release c.args.tx c.args.n)) (replies.Release c.release.result) c.tell.result _ (λ logged. refl) (λ logged. tt) (λ logged same. same) refl c.tell.ensures
