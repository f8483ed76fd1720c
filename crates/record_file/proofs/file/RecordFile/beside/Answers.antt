use Rattle.std.proofs.Common.{rules, ◌≡◌, ℕ, Bool, false, List, Ok, Option, option_map, sym, ap, subst, ◌∙◌, arith}
use Rattle.rec_types.specs.Ordered.{beside}
use Rattle.rec_types.specs.declared.gap.Gap.{Gap}
use Rattle.rec_types.specs.declared.side.Side.{Side}
use Rattle.std.proofs.lemmas.Grind.{common_steps}
use Rattle.rec_types.specs.declared.transaction.Entry.{Entry}
use Rattle.tx_log.specs.LogState.{open_in, history_in}
use Rattle.record_file.specs.Abstract.{OpenFile, File, records_of}
use Rattle.record_file.specs.Steps.{TellsOwner, BesideStep, entry_with, entry_of}
use Rattle.record_file.proofs.MadeLemmas.{beside_made}
use Rattle.record_file.proofs.OwnerLemmas.{tells_owner}
use Rattle.record_file.proofs.file.RecordFile.beside.Goals as goal

-- the step of a found record, part by part
found_step : (f f2 : File) (side : Side) (gap : Gap) (found : Option (List ℕ × List ℕ)) (entry : Option Entry) (failed : Bool) → failed ≡ false → f2 ≡ f → found ≡ beside side (records_of f) gap → entry ≡ option_map (entry_of f) found → BesideStep f side gap failed (Ok entry) f2
found_step f f2 side gap found entry failed failed_is same found_is entry_is = (failed_is, entry_is ∙ ap (option_map (entry_of f)) found_is, same)

pub returns : goal.returns
returns g c =
    beside_made g.T.TableState _ _ c.args.side c.args.gap.now (Ok c.with_owner-entry.result)
    (λ sound few.
    found_step c.args.self.now.file _ c.args.side c.args.gap.now c.in_ok-found.found c.with_owner-entry.result _ (first_of (search rules, grind (arith, common_steps))) (first_of (search rules, grind (arith, common_steps)))
    (let here = ap (λ (s : OpenFile _). g.T.TableState.sound s.table) c.self.view_is ∙ sound in
    c.in_ok-found.ensures.value here ∙ ap (λ m. beside c.args.side m c.args.gap.now) (c.self.invariant.fits here).replayed ∙ ap (λ (f : File). beside c.args.side (records_of f) c.args.gap.now) (ap (λ (s : OpenFile _). s.file) c.self.view_is))
    (subst (λ (s : OpenFile _). c.with_owner-entry.result ≡ option_map (entry_of s.file) c.in_ok-found.found) c.self.view_is c.with_owner-entry.ensures))
    (let is_open = open_in c.self.inside.log in
    let history = history_in c.self.inside.log in
    subst (λ (s : OpenFile _). TellsOwner s.file c.with_owner-entry.result) c.self.view_is
    (subst (λ (o : Option Entry). o ≡ option_map (λ (e : Entry). entry_with is_open history (e.key, e.value)) o) (sym c.with_owner-entry.ensures)
    (tells_owner is_open history c.in_ok-found.found)))
    (search rules) (search rules) (search rules) (search rules)

-- the table gave none
pub returns-in_err-found : goal.returns-in_err-found
returns-in_err-found g c =
    beside_made g.T.TableState _ _ c.args.side c.args.gap.now c.from_residual.result
    (search rules) (search rules) (search rules) (search rules) (search rules) (search rules)
