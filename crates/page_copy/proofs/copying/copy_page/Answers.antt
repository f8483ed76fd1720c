use Rattle.std.proofs.Common.{refl}
use Rattle.std.proofs.lemmas.Result.{err_from_is_err_and}
use Rattle.page_copy.proofs.CopyingLemmas.{copy_failed}
use Rattle.page_copy.proofs.copying.copy_page.Goals as goal

pub returns-in_default-clause-copy_fails : goal.returns-in_default-clause-copy_fails
returns-in_default-clause-copy_fails g c = refl

pub returns-in_err-write-clause-copy_fails : goal.returns-in_err-write-clause-copy_fails
returns-in_err-write-clause-copy_fails g c =
    let told = err_from_is_err_and c.from_residual.result c.from_residual.ensures.1 in
    copy_failed c.write.result c.from_residual.result _ _ c.in_err-write.field-0.0 c.in_err-write.was told c.write.ensures.changes.failures

pub returns-clause-copy_fails : goal.returns-clause-copy_fails
returns-clause-copy_fails g c = c.in_ok-write.ensures.changes.failures
