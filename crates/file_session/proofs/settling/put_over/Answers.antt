use Rattle.std.proofs.Common.{◌≡◌, inl, inr, ⊎_elim, ℕ, ◌<◌, true, false, List, [], ◌∷◌, IfErr, Result, codes, drop, length, refl, sym, subst, ◌∙◌, arith, rules}
use Rattle.std.proofs.lemmas.Bool.{false≢true}
use Rattle.std.proofs.lemmas.Result.{IfErr-weaker, err_from_is_err_and}
use Rattle.std.proofs.lemmas.Slice.Eq.{starts_is}
use Rattle.std.specs.Cmp.{unsigned_Decides}
use Rattle.std.specs.Cmp.Lexicographic.{pointwise_decides}
use Rattle.std.specs.List.{All}
use Rattle.rec_types.specs.Contents.{Contents}
use Rattle.command_text.specs.Script.{commands_of}
use Rattle.file_session.specs.Beside.{IsUnput}
use Rattle.file_session.specs.LogOver.{IsHead, IsLogOver, SayOver}
use Rattle.file_session.specs.Overlaid.{IsLogCommand}
use Rattle.file_session.specs.declared.file_fault.FileFault.{FileFault}
use Rattle.file_session.proofs.ClosingLemmas.{ok_wider}
use Rattle.file_session.proofs.LogOverLemmas.{found_head, found_some, over_first}
use Rattle.file_session.proofs.OverlayFaultLemmas.{unput_fault, unput_part}
use Rattle.file_session.proofs.settling.put_over.Given as given
use Rattle.file_session.proofs.settling.put_over.Goals as goal
use Rattle.file_session.proofs.settling.put_over.Goals.{After-eq}

-- the text has a first line of this version
module _ (g : given.Over) (c : After-eq g) where
  some : 0 < length c.args.text.now
  some = search rules

  is_head : IsHead c.next_line.result.0.now
  is_head =
      let tested : c.starts_with.result ≡ true = search rules in
      (drop 10 c.next_line.result.0.now, (starts_is unsigned_Decides c.next_line.result.0.now (codes "commits 1 ") c.starts_with.result c.starts_with.ensures.value).0 tested)

-- the records that a log of these units makes
abbrev Over : List ℕ → Contents → List (List (List ℕ)) → Type 0
Over head under units = (records : Contents) × IsLogOver head under records units

no_bytes : (text : List ℕ) → length text ≡ 0 → text ≡ []
no_bytes [] is = refl
no_bytes (b ∷ bs) is = absurd (omega (arith, is))

pub returns-then-is_empty-clause-fault : goal.returns-then-is_empty-clause-fault
returns-then-is_empty-clause-fault g c sound units are is =
    let none : length c.args.text.now ≡ 0 = search rules in
    inr (refl, λ over. found_some c.args.head.now (g.T.TableState.contents c.args.table.now) over.0 units c.args.text.now is over.1 (no_bytes c.args.text.now none))

pub returns-then-not-starts_with-clause-fault : goal.returns-then-not-starts_with-clause-fault
returns-then-not-starts_with-clause-fault g c sound units are is = inr (
  refl,
  λ over.
      let found = found_head c.args.head.now (g.T.TableState.contents c.args.table.now) over.0 units c.args.text.now c.next_line.result.0.now c.next_line.result.1.now are is c.next_line.ensures.cut over.1 in
      let tested : c.starts_with.result ≡ false = search rules in
      absurd (false≢true (sym tested ∙ (starts_is unsigned_Decides c.next_line.result.0.now (codes "commits 1 ") c.starts_with.result c.starts_with.ensures.value).1 found.0.0 found.0.1)),
)

pub returns-in_err-overlay_text-clause-fault : goal.returns-in_err-overlay_text-clause-fault
returns-in_err-overlay_text-clause-fault g c sound units are is =
    let under = g.T.TableState.contents c.args.table.now in
    let p = err_from_is_err_and c.from_residual.result c.from_residual.ensures.1 in
    subst (λ (r : Result (Unit {0}) FileFault). IfErr r (IsUnput (Over c.args.head.now under units))) (sym p.1)
    (unput_fault (All IsLogCommand (commands_of c.next_line.result.1.now)) (Over c.args.head.now under units) c.in_err-overlay_text.field-0.0 p.0 p.2
    (λ over. (found_head c.args.head.now under over.0 units c.args.text.now c.next_line.result.0.now c.next_line.result.1.now are is c.next_line.ensures.cut over.1).1.0)
    (c.in_err-overlay_text.ensures.refused sound))

pub returns-then-eq-clause-over : goal.returns-then-eq-clause-over
returns-then-eq-clause-over g c sound units are is =
    let here = (goal.at.returns-then-eq-clause-over g c).After-eq in
    let same = (pointwise_decides unsigned_Decides c.next_line.result.0.now c.args.head.now).0 (sym c.eq.ensures ∙ c.if-eq.true) in
    over_first c.args.head.now (g.T.TableState.contents c.args.table.now) (g.T.TableState.contents c.overlay_text.new.table) units c.args.text.now c.next_line.result.0.now c.next_line.result.1.now are is (some g here) c.next_line.ensures.cut (is_head g here) (c.in_ok-overlay_text.ensures.logged, c.in_ok-overlay_text.ensures.said sound) (inl same)

pub returns-clause-over : goal.returns-clause-over
returns-clause-over g c sound units are is =
    let here = (goal.at.returns-clause-over g c).After-eq in
    ok_wider c.put_unchanged.result _ _ (λ had. over_first c.args.head.now (g.T.TableState.contents c.args.table.now) (g.T.TableState.contents c.put_unchanged.new.table) units c.args.text.now c.next_line.result.0.now c.next_line.result.1.now are is (some g here) c.next_line.ensures.cut (is_head g here) had.0 (inr had.1)) (c.put_unchanged.ensures.over sound)

pub returns-clause-fault : goal.returns-clause-fault
returns-clause-fault g c sound units are is =
    let under = g.T.TableState.contents c.args.table.now in
    IfErr-weaker c.put_unchanged.result (IsUnput (SayOver under (commands_of c.next_line.result.1.now) under)) (IsUnput (Over c.args.head.now under units))
    (λ fault. unput_part (SayOver under (commands_of c.next_line.result.1.now) under) (Over c.args.head.now under units) fault (λ over.
    let found = found_head c.args.head.now under over.0 units c.args.text.now c.next_line.result.0.now c.next_line.result.1.now are is c.next_line.ensures.cut over.1 in
    ⊎_elim
    (λ same. absurd (false≢true (sym c.if-eq.false ∙ c.eq.ensures ∙ (pointwise_decides unsigned_Decides c.next_line.result.0.now c.args.head.now).1 same)))
    (λ none. (found.1.0, sym none ∙ found.1.1))
    found.2))
    (c.put_unchanged.ensures.fault sound)
