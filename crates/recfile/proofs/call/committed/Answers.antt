use Rattle.std.proofs.Common.{Ok, refl}
use Rattle.command_text.specs.declared.command.Command.TheVariants as commands
use Rattle.command_text.specs.declared.reply.Reply.TheVariants as replies
use Rattle.record_file.specs.Runs.{CommittedAt}
use Rattle.recfile.proofs.CallRunLemmas.{told_by}
use Rattle.recfile.proofs.call.committed.Goals as goal

pub returns : goal.returns
returns g c = told_by g.T.TableState c.args.file.now c.committed.new.self (CommittedAt c.args.key.now c.committed.result) c.committed.ensures (Ok (commands.Committed c.args.key.now)) (replies.Committed c.committed.result) c.tell.result _ (λ logged. refl) (λ logged. tt) (λ logged same. same) refl c.tell.ensures
