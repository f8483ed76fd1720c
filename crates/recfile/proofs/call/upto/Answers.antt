use Rattle.std.proofs.Common.{Ok, refl}
use Rattle.rec_types.specs.declared.gap.Gap.TheVariants as gaps
use Rattle.rec_types.specs.declared.side.Side.TheVariants.{Before}
use Rattle.command_text.specs.declared.command.Command.TheVariants as commands
use Rattle.command_text.specs.declared.reply.Reply.TheVariants as replies
use Rattle.record_file.specs.AtMost.{limited_to}
use Rattle.record_file.specs.Runs.{EntriesBeside}
use Rattle.recfile.proofs.CallRunLemmas.{told_by}
use Rattle.recfile.proofs.call.upto.Goals as goal

pub returns : goal.returns
returns g c =
    let told = c.list_beside.ensures in
    told_by g.T.TableState c.args.file.now c.list_beside.new.file (EntriesBeside Before (gaps.Behind c.args.key) told.0) told.1 (Ok (commands.Upto c.args.key c.args.n)) (replies.List (limited_to c.args.n told.0)) c.list_beside.result _ (λ logged. (told.0, refl, refl)) (λ logged. tt) (λ logged same. same) refl told.2
