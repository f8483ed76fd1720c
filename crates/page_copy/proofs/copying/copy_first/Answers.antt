use Rattle.std.proofs.Common.{[], refl, ◌∙◌}
use Rattle.std.proofs.lemmas.Result.{err_from_is_err_and}
use Rattle.page_store.proofs.JournalLemmas.{noted_none}
use Rattle.page_copy.specs.Copying.{last_calls}
use Rattle.page_copy.proofs.CopyingLemmas.{stopped}
use Rattle.page_copy.proofs.copying.copy_first.Goals as goal

pub returns-in_err-copy_page-clause-calls : goal.returns-in_err-copy_page-clause-calls
returns-in_err-copy_page-clause-calls g c steady =
    let told = err_from_is_err_and c.from_residual.result c.from_residual.ensures.1 in
    stopped (last_calls (g.S.StoreState.pages c.args.source.now)) _ _ told.0 c.from_residual.result told.1 ([], last_calls (g.S.StoreState.pages c.args.source.now), refl, c.in_err-copy_page.ensures.no_call ∙ noted_none (g.T.StoreState.journal c.args.copy.now))
