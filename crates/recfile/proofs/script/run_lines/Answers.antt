use Rattle.std.proofs.Common.{◌≡◌, ◌++◌, ◌∷◌, ◌||◌, [], ℕ, ◌+◌, Bool, true, false, if◌then◌else◌, List, Option, Ok, Err, Result, IfErr, IsTrue, refl, sym, ap, subst, ◌∙◌, arith}
use Rattle.std.proofs.lemmas.Result.{err_from_is_err_and}
use Rattle.std.proofs.lemmas.List.Elements.{All-nil}
use Rattle.command_text.specs.Refusals.{is_refusal}
use Rattle.record_file.specs.Runs.{seen_as}
use Rattle.recfile.specs.declared.script.RunFault.{RunFault}
use Rattle.std.specs.List.{flat_map}
use Rattle.std.specs.Io.KnownBytes.{Appends}
use Rattle.command_text.specs.declared.command.Command.{Command}
use Rattle.command_text.specs.Grammar.{Read}
use Rattle.command_text.specs.Texts.{text_of}
use Rattle.recfile.specs.Run.{LinesStop, LineSent, says_command}
use Rattle.recfile.specs.Streams.{is_write}
use Rattle.recfile.proofs.ScriptRunLemmas.{Walked, walked_none, walked-more, walked-on, served, served-all, written-none, written-more, accepted-more, refused_at, stops_at, count_fits, lines_fit}
use Rattle.file_session.proofs.ScriptCutLemmas.{nothing_left}
use Rattle.recfile.proofs.script.run_lines.Goals as goal
use Rattle.recfile.proofs.script.run_lines.Goals.{else-strict-via-then-strict+else-refused, else-strict-via-else-strict}

both_ways : (b : Bool) → b ≡ true → b ≡ false → ⊥
both_ways b is isnt = absurd (cc)

pub loop-rest-init : goal.loop-rest-init
loop-rest-init g c = ([], walked_none c.args.script.now _, written-none (g.W.CountedWrite.held c.args.writer.now), omega (arith, c.requires), omega (arith, c.requires), λ strict. All-nil _, g.met.K.Keeper.moves_none _ _ refl, refl)

pub loop-rest-preserved-in_default : goal.loop-rest-preserved-in_default
loop-rest-preserved-in_default g c =
    let known = c.loop-rest.invariant in
    let sent = subst (λ (o : Option Bool). LineSent (g.W.CountedWrite.held c.loop-rest.writer) (g.W.CountedWrite.held c.answer.new.writer) (seen_as g.K.Keeper.keeps g.T.TableState c.loop-rest.file) c.read_line-said.result (seen_as g.K.Keeper.keeps g.T.TableState c.answer.new.file) (c.loop-rest.done + c.command_count-done.result) (Ok o)) c.in_default.is c.in_ok-refused.ensures.sent in
    let none : c.command_count-done.result ≡ 0 = c.command_count-done.ensures ∙ ap (λ (s : Read (Option Command)). if says_command s then 1 else 0) sent.0 in
    let same : c.loop-rest.done + c.command_count-done.result ≡ c.loop-rest.done = omega (arith, none) in (
      known.0,
      subst (λ (n : ℕ). Walked c.args.script.now c.next_line.result.1.now (seen_as g.K.Keeper.keeps g.T.TableState c.args.file.now) known.0 (seen_as g.K.Keeper.keeps g.T.TableState c.answer.new.file) n (c.loop-rest.lines + 1)) (sym same)
          (walked-on c.args.script.now c.loop-rest.rest.now c.next_line.result.1.now c.next_line.result.0.now _ _ _ known.0 c.loop-rest.done c.loop-rest.lines c.read_line-said.result known.1 c.next_line.ensures.cut c.read_line-said.ensures sent.0 sent.1),
      subst (λ (h : Option (List ℕ)). Appends (g.W.CountedWrite.held c.args.writer.now) h (flat_map text_of known.0)) (sym sent.2) known.2,
      count_fits (says_command c.read_line-said.result) c.loop-rest.done c.command_count-done.result _ _ _ c.command_count-done.ensures known.3 c.next_line.ensures.shorter,
      lines_fit c.loop-rest.lines _ _ _ known.4 c.next_line.ensures.shorter,
      known.5,
      g.met.K.Keeper.moves_on _ _ _ known.6 c.answer.ensures.moves,
      c.in_ok-refused.ensures.failed ∙ known.7,
    )

pub returns-in_err-refused-clause-stops : goal.returns-in_err-refused-clause-stops
returns-in_err-refused-clause-stops g c =
    let known = c.loop-rest.invariant in
    let sent = c.in_err-refused.ensures.sent in
    let more = walked-more c.args.script.now c.loop-rest.rest.now c.next_line.result.1.now c.next_line.result.0.now _ _ _ known.0 c.loop-rest.done (c.loop-rest.done + c.command_count-done.result) c.loop-rest.lines c.read_line-said.result sent.0 known.1 c.next_line.ensures.cut c.read_line-said.ensures sent.1 (ap (λ n. c.loop-rest.done + n) c.command_count-done.ensures) in
    let told = err_from_is_err_and c.from_residual.result c.from_residual.ensures.1 in
    subst (λ (r : Result ℕ RunFault). IfErr r (LinesStop c.args.strict (g.W.CountedWrite.held c.args.writer.now) (g.W.CountedWrite.held c.answer.new.writer) (seen_as g.K.Keeper.keeps g.T.TableState c.args.file.now) (seen_as g.K.Keeper.keeps g.T.TableState c.answer.new.file) c.args.script.now)) (sym (told.1 ∙ ap Err told.2))
    (stops_at c.args.strict (g.W.CountedWrite.held c.args.writer.now) (g.W.CountedWrite.held c.loop-rest.writer) (g.W.CountedWrite.held c.answer.new.writer) _ _ c.args.script.now c.next_line.result.1.now known.0 sent.0 (c.loop-rest.done + c.command_count-done.result) c.in_err-refused.field-0.0
    (served c.args.script.now c.next_line.result.1.now _ _ _ _ (c.loop-rest.lines + 1) more) known.2 sent.2 known.5)

pub returns-then-refused-clause-stops : goal.returns-then-refused-clause-stops
returns-then-refused-clause-stops g c =
    let known = c.loop-rest.invariant in
    let sent = subst (λ (o : Option Bool). LineSent (g.W.CountedWrite.held c.loop-rest.writer) (g.W.CountedWrite.held c.answer.new.writer) (seen_as g.K.Keeper.keeps g.T.TableState c.loop-rest.file) c.read_line-said.result (seen_as g.K.Keeper.keeps g.T.TableState c.answer.new.file) (c.loop-rest.done + c.command_count-done.result) (Ok o)) c.in-Some.is c.in_ok-refused.ensures.sent in (
      c.if-strict.true,
      refused_at (g.W.CountedWrite.held c.args.writer.now) (g.W.CountedWrite.held c.answer.new.writer) c.args.script.now c.loop-rest.rest.now c.next_line.result.1.now c.next_line.result.0.now _ _ _ known.0 c.loop-rest.done c.loop-rest.lines c.read_line-said.result sent.0 known.1 c.next_line.ensures.cut c.read_line-said.ensures sent.1 (known.5 c.if-strict.true) (sym sent.3 ∙ c.if-refused.true)
          (written-more (g.W.CountedWrite.held c.args.writer.now) (g.W.CountedWrite.held c.loop-rest.writer) (g.W.CountedWrite.held c.answer.new.writer) known.0 sent.0 _ known.2 sent.2 refl),
    )

pub loop-rest-preserved : goal.loop-rest-preserved
loop-rest-preserved g c =
    let known = c.loop-rest.invariant in
    let sent = subst (λ (o : Option Bool). LineSent (g.W.CountedWrite.held c.loop-rest.writer) (g.W.CountedWrite.held c.answer.new.writer) (seen_as g.K.Keeper.keeps g.T.TableState c.loop-rest.file) c.read_line-said.result (seen_as g.K.Keeper.keeps g.T.TableState c.answer.new.file) (c.loop-rest.done + c.command_count-done.result) (Ok o)) c.in-Some.is c.in_ok-refused.ensures.sent in
    let accepted : IsTrue c.args.strict → is_refusal sent.0 ≡ false = λ strict. elim c.else-strict.branch [
      | else-strict-via-then-strict+else-refused w ↦ sym sent.3 ∙ w.if-refused.false
      | else-strict-via-else-strict w ↦ absurd (both_ways c.args.strict strict w.if-strict.false)
    ] in (
      known.0 ++ sent.0 ∷ [],
      walked-more c.args.script.now c.loop-rest.rest.now c.next_line.result.1.now c.next_line.result.0.now _ _ _ known.0 c.loop-rest.done (c.loop-rest.done + c.command_count-done.result) c.loop-rest.lines c.read_line-said.result sent.0 known.1 c.next_line.ensures.cut c.read_line-said.ensures sent.1 (ap (λ n. c.loop-rest.done + n) c.command_count-done.ensures),
      written-more (g.W.CountedWrite.held c.args.writer.now) (g.W.CountedWrite.held c.loop-rest.writer) (g.W.CountedWrite.held c.answer.new.writer) known.0 sent.0 _ known.2 sent.2 refl,
      count_fits (says_command c.read_line-said.result) c.loop-rest.done c.command_count-done.result _ _ _ c.command_count-done.ensures known.3 c.next_line.ensures.shorter,
      lines_fit c.loop-rest.lines _ _ _ known.4 c.next_line.ensures.shorter,
      accepted-more c.args.strict known.0 sent.0 known.5 accepted,
      g.met.K.Keeper.moves_on _ _ _ known.6 c.answer.ensures.moves,
      c.in_ok-refused.ensures.failed ∙ known.7,
    )

pub returns-clause-finished : goal.returns-clause-finished
returns-clause-finished g c =
    let known = c.loop-rest.invariant in
    let all = served-all c.args.script.now c.loop-rest.rest.now _ _ known.0 c.loop-rest.done (served c.args.script.now c.loop-rest.rest.now _ _ known.0 c.loop-rest.done c.loop-rest.lines known.1) (nothing_left c.loop-rest.rest.now c.loop-rest-test.ensures) in
    (known.0, all.0, known.2, all.1, known.5)

pub returns-in_err-refused-clause-failed : goal.returns-in_err-refused-clause-failed
returns-in_err-refused-clause-failed g c =
    let known = c.loop-rest.invariant in
    let told = err_from_is_err_and c.from_residual.result c.from_residual.ensures.1 in
    rw (told.1, told.2) (c.in_err-refused.ensures.failed ∙ (λ i. record (known.7 i) { write_failed = is_write c.in_err-refused.field-0.0 || (known.7 i).write_failed }))

pub returns-in_err-refused-clause-faults : goal.returns-in_err-refused-clause-faults
returns-in_err-refused-clause-faults g c =
    let told = err_from_is_err_and c.from_residual.result c.from_residual.ensures.1 in
    rw (told.1, told.2) c.in_err-refused.ensures.faults

pub returns-then-refused-clause-failed : goal.returns-then-refused-clause-failed
returns-then-refused-clause-failed g c = c.in_ok-refused.ensures.failed ∙ c.loop-rest.invariant.7

pub returns-clause-failed : goal.returns-clause-failed
returns-clause-failed g c = c.loop-rest.invariant.7
