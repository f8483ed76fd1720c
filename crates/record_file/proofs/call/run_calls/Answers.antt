use Rattle.std.proofs.Common.{◌≡◌, ℕ, ◌+◌, ◌<◌, false, List, [], ◌∷◌, ◌++◌, length, take, get_or, Result, Ok, Err, OnOk, refl, sym, ap, subst, ◌∙◌, arith, is_err}
use Rattle.std.proofs.lemmas.Grind.{common_steps}
use Rattle.std.proofs.lemmas.List.{take_more}
use Rattle.record_file.specs.Runs.{Seen, seen}
use Rattle.record_file.specs.declared.call.Call.{Call}
use Rattle.record_file.specs.declared.call.Answer.{Answer}
use Rattle.record_file.specs.Calls.{Makes, MakesAll}
use Rattle.record_file.proofs.ExactLemmas.{kept_exact, makes_none, makes_more}
use Rattle.record_file.proofs.call.run_calls.Goals as goal

one_more : (old mid new : Seen) (calls : List Call) (i : ℕ) (asked : Call) (told : Answer) (answers : List Answer) → i < length calls → asked ≡ get_or calls i asked → MakesAll old (take i calls) answers mid → Makes mid asked told new → MakesAll old (take (i + 1) calls) (answers ++ told ∷ []) new
one_more old mid new calls i asked told answers lt is made makes =
    subst (λ (cs : List Call). MakesAll old cs (answers ++ told ∷ []) new) (sym (take_more calls i asked lt ∙ ap (λ (c : Call). take i calls ++ c ∷ []) (sym is)))
    (makes_more old mid new (take i calls) answers asked told made makes)

ok_of : {A E : Type 0} (answer : Result A E) (P : Type 0) → is_err answer ≡ false → OnOk answer P → P
ok_of (Ok done) P is ok = ok
ok_of (Err fault) P is ok = absurd (cc)

pub loop-call-init : goal.loop-call-init
loop-call-init g c = record {
  made = refl;
  all = subst (λ (answers : List Answer). MakesAll (seen g.T.TableState c.args.file.now) [] answers (seen g.T.TableState c.args.file.now)) (sym c.new-answers.ensures.items) (makes_none _);
}

pub loop-call-preserved : goal.loop-call-preserved
loop-call-preserved g c =
    let more = one_more (seen g.T.TableState c.args.file.now) (seen g.T.TableState c.loop-call.file) (seen g.T.TableState c.make_call-answer.new.file) c.args.calls.now c.loop-call.call-index c.call-item.result c.make_call-answer.result c.loop-call.answers.items (grind (arith, common_steps, c.loop-call-test.true)) c.call-item.is c.loop-call.invariant.all c.make_call-answer.ensures in
    record {
      made = ap (λ n. n + 1) c.loop-call.invariant.made;
      all = subst (λ (answers : List Answer). MakesAll (seen g.T.TableState c.args.file.now) (take (c.loop-call.call-index + 1) c.args.calls.now) answers (seen g.T.TableState c.make_call-answer.new.file))
          (sym (ok_of c.keep.result _ (sym c.is_err.ensures.value ∙ c.if-is_err.false) c.keep.ensures)) more;
    }

pub returns-then-is_err-clause-stopped : goal.returns-then-is_err-clause-stopped
returns-then-is_err-clause-stopped g c = (
  c.loop-call.answers.items ++ c.make_call-answer.result ∷ [],
  subst (λ n. MakesAll (seen g.T.TableState c.args.file.now) (take (n + 1) c.args.calls.now) (c.loop-call.answers.items ++ c.make_call-answer.result ∷ []) (seen g.T.TableState c.make_call-answer.new.file)) (sym c.loop-call.invariant.made)
      (one_more (seen g.T.TableState c.args.file.now) (seen g.T.TableState c.loop-call.file) (seen g.T.TableState c.make_call-answer.new.file) c.args.calls.now c.loop-call.call-index c.call-item.result c.make_call-answer.result c.loop-call.answers.items (grind (arith, common_steps, c.loop-call-test.true)) c.call-item.is c.loop-call.invariant.all c.make_call-answer.ensures),
)

pub returns-then-is_err-clause-exact : goal.returns-then-is_err-clause-exact
returns-then-is_err-clause-exact g c = kept_exact _ _ _ _ _ c.stays_true.ensures

pub returns-clause-exact : goal.returns-clause-exact
returns-clause-exact g c = kept_exact _ _ _ _ _ c.stays_true-2.ensures
