use Rattle.std.proofs.Common.{◌≡◌, Some, length, option_map, slice_get, refl, sym, ap, ◌∙◌, arith}
use Rattle.std.proofs.lemmas.List.{length-map}
use Rattle.std.proofs.lemmas.Option.{slice_get-map, slice_get_read}
use Rattle.tx_log.specs.Compact.{RecordsView, mark_in}
use Rattle.tx_log.proofs.records.Records.mark.Goals as goal

pub returns : goal.returns
returns c =
    let es = c.self.inside.entries.items in
    let marks = ap (λ (v : RecordsView). v.marks) c.self.view_is in
    let there : slice_get es c.args.i ≡ Some c.index.result.now = slice_get_read es (length es) c.args.i c.index.result.now refl (omega (arith, c.requires, ap length marks, length-map es mark_in)) c.index.ensures in
    ap (λ ms. slice_get ms c.args.i) (sym marks) ∙ slice_get-map mark_in es c.args.i ∙ ap (option_map mark_in) there ∙ ap Some (sym c.mark.ensures)
