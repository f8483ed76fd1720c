use Rattle.std.proofs.Common.{◌≡◌, List, ℕ, [], ◌∷◌, ◌++◌, Option, Result, IfErr, refl, sym, ap, subst, ◌∙◌}
use Rattle.std.specs.List.{All}
use Rattle.std.proofs.lemmas.List.Concat.{flat_map-append}
use Rattle.std.proofs.lemmas.List.Elements.{All-append, All-cons, All-head, All-nil, All-tail}
use Rattle.rec_types.specs.Contents.{Contents}
use Rattle.command_text.specs.declared.command.Command.{Command}
use Rattle.command_text.specs.Grammar.{Read, line_of}
use Rattle.command_text.specs.Script.{entries_in, commands_of, keep, lines_of}
use Rattle.record_file.specs.Durable.{overlay}
use Rattle.record_file.proofs.CommitLemmas.{overlay-append}
use Rattle.file_session.specs.Overlaid.{IsLogCommand, line_entries, write_said, writes_said}
use Rattle.file_session.proofs.ScriptCutLemmas.{keep-append, nothing_left}
use Rattle.std.proofs.lemmas.Result.{err_from_is_err_and}
use Rattle.rec_types.specs.Table.{counted}
use Rattle.file_session.specs.Beside.{IsOverlayFault}
use Rattle.file_session.specs.FileFaults.{fault_of_overlay, is_file_device, is_device_overlay}
use Rattle.file_session.proofs.OverlayFaultLemmas.{overlay_part}
use Rattle.file_session.specs.declared.overlaying.OverlayFault.{OverlayFault}
use Rattle.file_session.proofs.overlaying.overlay_text.Goals as goal

-- the entries of a text are those of its first line and then the others
cut_entries : (rest line after : List ℕ) (said : Read (Option Command)) → lines_of rest ≡ line ∷ lines_of after → said ≡ line_of line → commands_of rest ≡ line_entries said ++ commands_of after
cut_entries rest line after said cut is =
    ap entries_in cut
    ∙ ap (λ (s : Read (Option Command)). keep s (commands_of after)) (sym is)
    ∙ keep-append said [] (commands_of after)

-- a line is put over, and then the others
line_over : (m mid : Contents) (rest after : List ℕ) (first : List (Read Command)) → commands_of rest ≡ first ++ commands_of after → mid ≡ overlay m (writes_said first) → overlay mid (writes_said (commands_of after)) ≡ overlay m (writes_said (commands_of rest))
line_over m mid rest after first cut is =
    ap (λ (n : Contents). overlay n (writes_said (commands_of after))) is
    ∙ sym (overlay-append (writes_said first) (writes_said (commands_of after)) m)
    ∙ ap (λ (es : List (List ℕ × Option (List ℕ))). overlay m es) (sym (flat_map-append write_said first (commands_of after)))
    ∙ ap (λ (es : List (Read Command)). overlay m (writes_said es)) (sym cut)

-- all of both, of a line and then the others
first_all : (xs ys : List (Read Command)) → All IsLogCommand (xs ++ ys) → All IsLogCommand xs
first_all [] ys all = All-nil IsLogCommand
first_all (x ∷ xs) ys all = All-cons IsLogCommand x xs (All-head IsLogCommand x (xs ++ ys) all) (first_all xs ys (All-tail IsLogCommand x (xs ++ ys) all))

later_all : (xs ys : List (Read Command)) → All IsLogCommand (xs ++ ys) → All IsLogCommand ys
later_all [] ys all = all
later_all (x ∷ xs) ys all = later_all xs ys (All-tail IsLogCommand x (xs ++ ys) all)

pub loop-rest-init : goal.loop-rest-init
loop-rest-init g c = (λ sound. refl, λ all. all, λ all. all, refl, refl, refl)

pub loop-rest-preserved : goal.loop-rest-preserved
loop-rest-preserved g c =
    let t = g.T.TableState in
    let known = c.loop-rest.invariant in
    let cut = cut_entries c.loop-rest.rest.now c.next_line.result.0.now c.next_line.result.1.now c.read_line.result c.next_line.ensures.cut c.read_line.ensures in (
      λ sound. line_over (t.contents c.loop-rest.table) (t.contents c.overlay_line.new.table) c.loop-rest.rest.now c.next_line.result.1.now (line_entries c.read_line.result) cut (c.in_ok-overlay_line.ensures.said (known.3 ∙ sound)) ∙ known.0 sound,
      λ all. known.1 (subst (λ (es : List (Read Command)). All IsLogCommand es) (sym cut) (All-append IsLogCommand (line_entries c.read_line.result) (commands_of c.next_line.result.1.now) c.in_ok-overlay_line.ensures.logged all)),
      λ all. later_all (line_entries c.read_line.result) (commands_of c.next_line.result.1.now) (subst (λ (es : List (Read Command)). All IsLogCommand es) cut (known.2 all)),
      c.overlay_line.ensures.sound ∙ known.3,
      c.overlay_line.ensures.origin ∙ known.4,
      c.in_ok-overlay_line.ensures.failures ∙ known.5,
    )

pub returns-clause-said : goal.returns-clause-said
returns-clause-said g c = λ sound.
    sym (ap (λ (es : List (Read Command)). overlay (g.T.TableState.contents c.loop-rest.table) (writes_said es)) (nothing_left c.loop-rest.rest.now c.loop-rest-test.ensures))
    ∙ c.loop-rest.invariant.0 sound

pub returns-clause-logged : goal.returns-clause-logged
returns-clause-logged g c = c.loop-rest.invariant.1 (subst (λ (es : List (Read Command)). All IsLogCommand es) (sym (nothing_left c.loop-rest.rest.now c.loop-rest-test.ensures)) (All-nil IsLogCommand))

pub returns-in_err-overlay_line-clause-refused : goal.returns-in_err-overlay_line-clause-refused
returns-in_err-overlay_line-clause-refused g c sound =
    let known = c.loop-rest.invariant in
    let cut = cut_entries c.loop-rest.rest.now c.next_line.result.0.now c.next_line.result.1.now c.read_line.result c.next_line.ensures.cut c.read_line.ensures in
    let p = err_from_is_err_and c.from_residual.result c.from_residual.ensures.1 in
    let Logged = All IsLogCommand (commands_of c.args.text.now) in
    let faults = overlay_part (All IsLogCommand (line_entries c.read_line.result)) Logged c.in_err-overlay_line.field-0.0
    (λ all. first_all (line_entries c.read_line.result) (commands_of c.next_line.result.1.now) (subst (λ (es : List (Read Command)). All IsLogCommand es) cut (known.2 all)))
    (c.in_err-overlay_line.ensures.refused (known.3 ∙ sound)) in
    subst (λ (r : Result (Unit {0}) OverlayFault). IfErr r (IsOverlayFault Logged)) (sym p.1) (subst (IsOverlayFault Logged) (sym p.2) faults)

pub returns-in_err-overlay_line-clause-failures : goal.returns-in_err-overlay_line-clause-failures
returns-in_err-overlay_line-clause-failures g c =
    let t = g.T.TableState in
    let p = err_from_is_err_and c.from_residual.result c.from_residual.ensures.1 in
    c.in_err-overlay_line.ensures.failures
    ∙ (λ i. counted (c.loop-rest.invariant.5 i) (is_file_device (fault_of_overlay (sym p.2 i))))
    ∙ ap (λ (r : Result (Unit {0}) OverlayFault). counted (t.device_failures c.args.table.now) (is_device_overlay r)) (sym p.1)
