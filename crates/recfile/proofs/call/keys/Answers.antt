use Rattle.std.proofs.Common.{◌≡◌, ℕ, List, Result, Ok, refl, sym, subst, rules}
use Rattle.command_text.specs.declared.command.Command.TheVariants as commands
use Rattle.command_text.specs.declared.reply.Reply.TheVariants as replies
use Rattle.record_file.specs.declared.fault.KeysOfFault.{KeysOfFault}
use Rattle.record_file.specs.Runs.{Made, KeysOf}
use Rattle.record_file.specs.Steps.{listed}
use Rattle.recfile.proofs.CallRunLemmas.{told_by}
use Rattle.recfile.proofs.call.keys.Goals as goal

pub returns : goal.returns
returns g c =
    let file = c.args.file.now in
    let mapped : c.map.result ≡ listed c.keys_of.result = search rules in
    told_by g.T.TableState file file (KeysOf c.args.tx c.map.result) (subst (λ (told : Result (List (List ℕ)) KeysOfFault). Made g.T.TableState file (KeysOf c.args.tx told) file) (sym mapped) c.keys_of.ensures) (Ok (commands.Keys c.args.tx)) (replies.Keys c.map.result) c.tell.result _ (λ logged. refl) (λ logged. tt) (λ logged same. same) refl c.tell.ensures
