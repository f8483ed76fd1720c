use Rattle.std.proofs.Common.{◌≡◌, Option, [], Err, refl, sym, subst}
use Rattle.std.proofs.lemmas.Result.{err_from_is_err_and}
use Rattle.std.specs.String.{string_bytes}
use Rattle.command_text.specs.declared.command.Command.{Command}
use Rattle.command_text.specs.declared.command.LineFault.{LineFault}
use Rattle.command_text.specs.declared.reply.Reply.TheVariants as replies
use Rattle.command_text.specs.Grammar.{Read}
use Rattle.recfile.specs.Run.{LineTold, LineHasReply}
use Rattle.record_file.specs.Runs.{Seen, seen_as}
use Rattle.recfile.proofs.call.reply_to.Goals as goal

-- a line that can't be read makes no call
bad_line : (old : Seen) (said : Read (Option Command)) (fault : LineFault) → said ≡ Err fault → LineHasReply old said (replies.Bad fault) old
bad_line old said fault is = subst (λ (s : Read (Option Command)). LineHasReply old s (replies.Bad fault) old) (sym is) (record { events = []; told = (refl, refl); kept = tt; alone = λ _. refl; doubt = refl; ran = refl })

pub returns-in_err-bad-in-Err-clause-told : goal.returns-in_err-bad-in-Err-clause-told
returns-in_err-bad-in-Err-clause-told g c =
    let old = seen_as g.K.Keeper.keeps g.T.TableState c.args.file.now in
    let told = err_from_is_err_and c.from_residual-in_err-bad-in-Err.result c.from_residual-in_err-bad-in-Err.ensures.1 in
    subst (λ r. LineTold old c.args.said.now r (string_bytes c.bad.new.text) old) (sym told.1)
    (replies.Bad c.in-Err.fault, bad_line old c.args.said.now c.in-Err.fault c.in-Err.is)

pub returns-in_ok-bad-in-Err-clause-told : goal.returns-in_ok-bad-in-Err-clause-told
returns-in_ok-bad-in-Err-clause-told g c = (replies.Bad c.in-Err.fault, bad_line (seen_as g.K.Keeper.keeps g.T.TableState c.args.file.now) c.args.said.now c.in-Err.fault c.in-Err.is, c.in_ok-bad-in-Err.ensures.0, c.in_ok-bad-in-Err.ensures.1)
