use Rattle.std.proofs.Common.{rules, Some, sym, ap, ◌∙◌}
use Rattle.std.proofs.lemmas.Result.{err_from_is_err_and}
use Rattle.record_file.specs.declared.refusal.Refusal.{Refusal}
use Rattle.record_file.proofs.MadeLemmas.{get_made, get_refused}
use Rattle.record_file.proofs.file.RecordFile.get.Goals as goal

pub returns : goal.returns
returns g c =
    get_made g.T.TableState _ _ c.args.tx c.args.key.now _
    (search rules) (search rules) (search rules) (search rules) (search rules) (search rules) (search rules)

-- the file alone refuses it
pub returns-in_err-allow_look : goal.returns-in_err-allow_look
returns-in_err-allow_look g c =
    let told = err_from_is_err_and c.from_residual.result c.from_residual.ensures.1 in
    rw told.1 (get_refused g.T.TableState c.args.self.now c.args.tx c.args.key.now told.0 (sym c.in_err-allow_look.ensures ∙ ap (λ (r : Refusal). Some r) (sym told.2)))

-- the look failed
pub returns-in_err-get : goal.returns-in_err-get
returns-in_err-get g c =
    get_made g.T.TableState _ _ c.args.tx c.args.key.now _
    (search rules) (search rules) (search rules) (search rules) (search rules) (search rules) (search rules)
