use Rattle.std.proofs.Common.{◌≡◌, ℕ, List, length, slice_index_or, take, Some, ap, sym, ◌∙◌, arith}
use Rattle.std.proofs.lemmas.List.{take_all}
use Rattle.std.proofs.lemmas.Option.{slice_get-get_or}
use Rattle.page_store.specs.Blank.{blank}
use Rattle.page_store.specs.Journal.{carried}
use Rattle.recfile_c.proofs.Journals.{carried-more}
use Rattle.recfile_c.proofs.journal.page_after.Goals as goal

pub loop-step-preserved : goal.loop-step-preserved
loop-step-preserved c =
    let told = c.follow.ensures (carried c.args.opened.now (take c.loop-step.step-index c.args.steps.now)) c.loop-step.invariant.count c.loop-step.invariant.page in
    let more = carried-more c.args.opened.now c.args.steps.now c.loop-step.step-index _ (omega (arith, c.loop-step-test.true)) in
    record { count = told.0 ∙ ap length (sym more); page = told.1 ∙ ap (λ ps. slice_index_or ps c.args.n blank) (sym more) }

pub returns : goal.returns
returns c =
    let o = c.args.opened.now in let s = c.args.steps.now in
    let all : take c.loop-step.step-index s ≡ s = take_all c.loop-step.step-index s c.loop-step-test.false in
    slice_get-get_or (carried o s) c.args.n blank c.requires
    ∙ ap (λ (page : List ℕ). Some page) (sym (c.loop-step.invariant.page ∙ ap (λ steps. slice_index_or (carried o steps) c.args.n blank) all))
