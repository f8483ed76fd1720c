use Rattle.std.proofs.Common.{Ok, refl}
use Rattle.command_text.specs.declared.command.Command.TheVariants as commands
use Rattle.command_text.specs.declared.reply.Reply.TheVariants as replies
use Rattle.record_file.specs.Runs.{Claim}
use Rattle.recfile.proofs.CallRunLemmas.{told_by}
use Rattle.recfile.proofs.call.claim.Goals as goal

pub returns : goal.returns
returns g c = told_by g.T.TableState c.args.file.now c.claim.new.self (Claim c.args.tx c.args.key c.claim.result) c.claim.ensures (Ok (commands.Claim c.args.tx c.args.key)) (replies.Claim c.claim.result) c.tell.result _ (λ logged. refl) (λ logged. tt) (λ logged same. same) refl c.tell.ensures
