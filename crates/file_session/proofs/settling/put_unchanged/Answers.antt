use Rattle.std.proofs.Common.{◌≡◌, IfErr, IsTrue, Result, inr, refl, sym, ap, subst, ◌∙◌}
use Rattle.std.specs.List.{All}
use Rattle.std.proofs.lemmas.Bool.{false≢true}
use Rattle.std.proofs.lemmas.Result.{err_from_is_err_and}
use Rattle.rec_types.specs.Contents.{Contents}
use Rattle.command_text.specs.Script.{commands_of}
use Rattle.record_file.specs.Durable.{overlay}
use Rattle.file_session.specs.Beside.{IsUnput}
use Rattle.file_session.specs.LogOver.{SayOver, values_at}
use Rattle.file_session.specs.Overlaid.{IsLogCommand, writes_said}
use Rattle.file_session.specs.declared.file_fault.FileFault.{FileFault}
use Rattle.file_session.proofs.LogOverLemmas.{unchanged, values_decide}
use Rattle.file_session.proofs.OverlayFaultLemmas.{unput_fault}
use Rattle.file_session.proofs.settling.put_unchanged.Goals as goal

pub returns-then-eq-clause-over : goal.returns-then-eq-clause-over
returns-then-eq-clause-over g c sound =
    let t = g.T.TableState in
    let under = t.contents c.args.table.now in
    let es = writes_said (commands_of c.args.text.now) in
    let mid : IsTrue (t.sound c.values_of.new.table) = c.values_of.ensures.sound ∙ sound in
    let late : IsTrue (t.sound c.overlay_text.new.table) = c.overlay_text.ensures.sound ∙ mid in
    let made : t.contents c.overlay_text.new.table ≡ overlay under es = c.in_ok-overlay_text.ensures.said mid ∙ ap (λ (m : Contents). overlay m es) c.values_of.ensures.same in
    let same = (values_decide c.in_ok-before.before.items c.in_ok-after.after.items).0 (sym c.eq.ensures ∙ c.if-eq.true) in
    let still : values_at under es ≡ values_at (overlay under es) es =
    sym (c.in_ok-before.ensures.values sound) ∙ same ∙ c.in_ok-after.ensures.values late ∙ ap (λ (m : Contents). values_at m es) made in
    let now : t.contents c.values_of-2.new.table ≡ overlay under es = c.values_of-2.ensures.same ∙ made in
    ((c.in_ok-overlay_text.ensures.logged, now), now ∙ unchanged under es still)

pub returns-clause-fault : goal.returns-clause-fault
returns-clause-fault g c sound = inr (
  refl,
  λ over.
      let t = g.T.TableState in
      let under = t.contents c.args.table.now in
      let es = writes_said (commands_of c.args.text.now) in
      let mid : IsTrue (t.sound c.values_of.new.table) = c.values_of.ensures.sound ∙ sound in
      let late : IsTrue (t.sound c.overlay_text.new.table) = c.overlay_text.ensures.sound ∙ mid in
      let made : t.contents c.overlay_text.new.table ≡ overlay under es = c.in_ok-overlay_text.ensures.said mid ∙ ap (λ (m : Contents). overlay m es) c.values_of.ensures.same in
      let same = c.in_ok-before.ensures.values sound ∙ ap (λ (m : Contents). values_at m es) (over.1 ∙ sym made) ∙ sym (c.in_ok-after.ensures.values late) in
      absurd (false≢true (sym c.if-eq.false ∙ c.eq.ensures ∙ (values_decide c.in_ok-before.before.items c.in_ok-after.after.items).1 same)),
)

pub returns-in_err-overlay_text-clause-fault : goal.returns-in_err-overlay_text-clause-fault
returns-in_err-overlay_text-clause-fault g c sound =
    let t = g.T.TableState in
    let under = t.contents c.args.table.now in
    let es = commands_of c.args.text.now in
    let p = err_from_is_err_and c.from_residual-in_err-overlay_text.result c.from_residual-in_err-overlay_text.ensures.1 in
    subst (λ (r : Result (Unit {0}) FileFault). IfErr r (IsUnput (SayOver under es under))) (sym p.1)
    (unput_fault (All IsLogCommand es) (SayOver under es under) c.in_err-overlay_text.field-0.0 p.0 p.2 (λ over. over.0) (c.in_err-overlay_text.ensures.refused (c.values_of.ensures.sound ∙ sound)))
