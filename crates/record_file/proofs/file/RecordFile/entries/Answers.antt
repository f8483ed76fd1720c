use Rattle.std.proofs.Common.{rules, ◌≡◌, Ok, List, map, sym, subst, arith}
use Rattle.std.proofs.lemmas.Grind.{common_steps}
use Rattle.rec_types.specs.declared.transaction.Entry.{Entry}
use Rattle.tx_log.specs.LogState.{open_in, history_in}
use Rattle.record_file.specs.Abstract.{OpenFile}
use Rattle.record_file.specs.Steps.{TellOwners, entry_with}
use Rattle.record_file.proofs.MadeLemmas.{entries_made}
use Rattle.record_file.proofs.OwnerLemmas.{tell_owners}
use Rattle.record_file.proofs.file.RecordFile.entries.Goals as goal

pub returns : goal.returns
returns g c =
    entries_made g.T.TableState _ _ (Ok c.in_ok-entries.entries)
    (grind (arith, common_steps))
    (let is_open = open_in c.self.inside.log in
    let history = history_in c.self.inside.log in
    subst (λ (s : OpenFile _). TellOwners s.file c.in_ok-entries.entries.items) c.self.view_is
    (subst (λ (es : List Entry). es ≡ map (λ (e : Entry). entry_with is_open history (e.key, e.value)) es) (sym c.in_ok-entries.ensures)
    (tell_owners is_open history c.deref.result.now)))
    (search rules) (search rules) (search rules) (search rules)

-- the table gave no list
pub returns-in_err-records : goal.returns-in_err-records
returns-in_err-records g c =
    entries_made g.T.TableState _ _ c.from_residual.result
    (search rules) (search rules) (search rules) (search rules) (search rules) (search rules)

-- there was no memory for the owners
pub returns-in_err-entries : goal.returns-in_err-entries
returns-in_err-entries g c =
    entries_made g.T.TableState _ _ c.from_residual-in_err-entries.result
    (search rules) (search rules) (search rules) (search rules) (search rules) (search rules)
