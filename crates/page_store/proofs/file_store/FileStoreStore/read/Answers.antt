use Rattle.std.proofs.Common.{rules, sym, ap, ◌∙◌}
use Rattle.std.proofs.lemmas.Bool.{false≢true}
use Rattle.page_store.specs.OpenedFile.{OpenedFile}
use Rattle.page_store.proofs.RealFiles.{gives_back-is}
use Rattle.page_store.proofs.file_store.FileStoreStore.read.Goals as goal

pub returns-clause-page : goal.returns-clause-page
returns-clause-page g c = λ steady.
    absurd (false≢true (sym gives_back-is ∙ ap (λ (o : OpenedFile). o.steady) c.self.view_is ∙ steady))

pub returns-clause-leaves : goal.returns-clause-leaves
returns-clause-leaves g c = search rules
