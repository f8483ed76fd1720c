use Rattle.std.proofs.Common.{◌≡◌, ℕ, List, [], ◌∷◌, ◌++◌, ◌||◌, Result, Err, MatchResult, refl, sym, ap, subst, ◌∙◌, append_assoc, append-nil}
use Rattle.std.proofs.lemmas.Result.{err_from_is_err_and}
use Rattle.command_text.specs.Script.{ended_lines}
use Rattle.record_file.specs.Runs.{seen_as}
use Rattle.recfile.specs.declared.script.RunFault.{RunFault}
use Rattle.recfile.specs.Shell.{AnsweredSoFar, StopsAtLine}
use Rattle.recfile.specs.Streams.{run_write_fault}
use Rattle.recfile.proofs.ShellLemmas.{so_far_ended, so_far_on, stops_ended}
use Rattle.recfile.proofs.shell.answer_lines.Goals as goal

-- a line is cut off the rest
cut_off : (bytes front rest last after : List ℕ) → bytes ≡ front ++ rest → rest ≡ last ++ 10 ∷ after → bytes ≡ front ++ (last ++ 10 ∷ after)
cut_off bytes front rest last after is cut = is ∙ ap (λ (text : List ℕ). front ++ text) cut

regrouped : (front last after : List ℕ) → front ++ (last ++ 10 ∷ after) ≡ (front ++ (last ++ 10 ∷ [])) ++ after
regrouped front last after = ap (λ (text : List ℕ). front ++ text) (sym (append_assoc last (10 ∷ []) after)) ∙ sym (append_assoc front (last ++ 10 ∷ []) after)

pub loop-last-init : goal.loop-last-init
loop-last-init g c = record {
  answered = λ held old taken so_far. (
    [],
    refl,
    subst (λ (text : List ℕ). AnsweredSoFar c.args.strict held (g.W.CountedWrite.held c.args.writer.now) old (seen_as g.K.Keeper.keeps g.T.TableState c.args.file.now) text c.args.part.now c.args.counts.now) (sym (append-nil taken)) so_far,
  );
  moves = g.met.K.Keeper.moves_none _ _ refl;
  calls = refl;
}

pub loop-last-preserved : goal.loop-last-preserved
loop-last-preserved g c = record {
  answered = λ held old taken so_far.
      let known = c.loop-last.invariant.answered held old taken so_far in
      let last : List ℕ = c.in-Some.last.now in
      let after : List ℕ = c.in-Some.after.now in (
        known.0 ++ (last ++ 10 ∷ []),
        cut_off c.args.bytes.now known.0 c.loop-last.rest.now last after known.1 c.in-Some.ensures.0 ∙ regrouped known.0 last after,
        subst (λ (text : List ℕ). AnsweredSoFar c.args.strict held (g.W.CountedWrite.held c.answer_line.new.writer) old (seen_as g.K.Keeper.keeps g.T.TableState c.answer_line.new.file) text c.end-said.new.self c.answer_line.new.counts) (append_assoc taken known.0 (last ++ 10 ∷ []))
            (so_far_ended c.args.strict held (g.W.CountedWrite.held c.loop-last.writer) (g.W.CountedWrite.held c.answer_line.new.writer) old _ _ (taken ++ known.0) last c.loop-last.part c.end-said.new.self c.loop-last.counts c.answer_line.new.counts c.end-said.result known.2 c.in-Some.ensures.1 c.end-said.ensures.said c.end-said.ensures.next c.in_ok-answer_line.ensures.answered c.answer_line.ensures.done c.answer_line.ensures.lines),
      );
  moves = g.met.K.Keeper.moves_on _ _ _ c.loop-last.invariant.moves c.answer_line.ensures.moves;
  calls = c.in_ok-answer_line.ensures.failed ∙ c.loop-last.invariant.calls;
}

pub returns-in_err-answer_line-clause-answered : goal.returns-in_err-answer_line-clause-answered
returns-in_err-answer_line-clause-answered g c held old taken so_far =
    let known = c.loop-last.invariant.answered held old taken so_far in
    let last : List ℕ = c.in-Some.last.now in
    let after : List ℕ = c.in-Some.after.now in
    let told = err_from_is_err_and c.from_residual.result c.from_residual.ensures.1 in
    subst (λ (r : Result (Unit {0}) RunFault). MatchResult r (λ _. AnsweredSoFar c.args.strict held (g.W.CountedWrite.held c.answer_line.new.writer) old (seen_as g.K.Keeper.keeps g.T.TableState c.answer_line.new.file) (taken ++ c.args.bytes.now) c.end-said.new.self c.answer_line.new.counts) (λ fault. StopsAtLine c.args.strict held (g.W.CountedWrite.held c.answer_line.new.writer) old (seen_as g.K.Keeper.keeps g.T.TableState c.answer_line.new.file) (ended_lines (taken ++ c.args.bytes.now)) fault)) (sym (told.1 ∙ ap Err told.2))
    (stops_ended c.args.strict held (g.W.CountedWrite.held c.loop-last.writer) (g.W.CountedWrite.held c.answer_line.new.writer) old _ _ (taken ++ known.0) last after (taken ++ c.args.bytes.now) c.loop-last.part c.loop-last.counts c.answer_line.new.counts c.end-said.result c.in_err-answer_line.field-0.0 known.2 c.in-Some.ensures.1 c.end-said.ensures.said
    (ap (λ (text : List ℕ). taken ++ text) (cut_off c.args.bytes.now known.0 c.loop-last.rest.now last after known.1 c.in-Some.ensures.0) ∙ sym (append_assoc taken known.0 (last ++ 10 ∷ after)))
    c.in_err-answer_line.ensures.stops c.answer_line.ensures.done c.answer_line.ensures.lines)

pub returns-clause-answered : goal.returns-clause-answered
returns-clause-answered g c held old taken so_far =
    let known = c.loop-last.invariant.answered held old taken so_far in
    subst (λ (text : List ℕ). AnsweredSoFar c.args.strict held (g.W.CountedWrite.held c.loop-last.writer) old (seen_as g.K.Keeper.keeps g.T.TableState c.loop-last.file) text c.push.new.self c.loop-last.counts) (append_assoc taken known.0 c.loop-last.rest.now ∙ ap (λ (text : List ℕ). taken ++ text) (sym known.1))
    (so_far_on c.args.strict held (g.W.CountedWrite.held c.loop-last.writer) old (seen_as g.K.Keeper.keeps g.T.TableState c.loop-last.file) (taken ++ known.0) c.loop-last.rest.now c.loop-last.part c.push.new.self c.loop-last.counts known.2 c.in_default.ensures c.push.ensures)

pub returns-in_err-answer_line-clause-failed : goal.returns-in_err-answer_line-clause-failed
returns-in_err-answer_line-clause-failed g c =
    let told = err_from_is_err_and c.from_residual.result c.from_residual.ensures.1 in
    let same = c.loop-last.invariant.calls in
    rw (told.1, told.2) (c.in_err-answer_line.ensures.failed ∙ (λ i. record (same i) { write_failed = run_write_fault {A = Unit {0}} (Err c.in_err-answer_line.field-0.0) || (same i).write_failed }))

pub returns-in_err-answer_line-clause-faults : goal.returns-in_err-answer_line-clause-faults
returns-in_err-answer_line-clause-faults g c =
    let told = err_from_is_err_and c.from_residual.result c.from_residual.ensures.1 in
    rw (told.1, told.2) c.in_err-answer_line.ensures.faults

pub returns-clause-failed : goal.returns-clause-failed
returns-clause-failed g c = c.loop-last.invariant.calls
