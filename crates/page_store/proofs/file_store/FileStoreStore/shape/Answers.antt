use Rattle.std.proofs.Common.{rules, List, ℕ, length, sym, ap, ◌∙◌}
use Rattle.std.proofs.lemmas.List.{length-replicate}
use Rattle.page_store.specs.Blank.{blank}
use Rattle.page_store.specs.OpenedFile.{OpenedFile}
use Rattle.page_store.proofs.RealFiles.{pages_in_file-are}
use Rattle.page_store.proofs.file_store.FileStoreStore.shape.Goals as goal

pub returns-clause-pages : goal.returns-clause-pages
returns-clause-pages g c =
    sym (length-replicate c.self.inside.pages blank)
    ∙ ap (λ (pages : List (List ℕ)). length pages) (sym (pages_in_file-are c.self.inside.pages))
    ∙ ap (λ (o : OpenedFile). length o.pages) c.self.view_is

pub returns-clause-tail : goal.returns-clause-tail
returns-clause-tail g c = search rules
