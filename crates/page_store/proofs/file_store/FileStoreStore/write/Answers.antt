use Rattle.std.proofs.Common.{rules, ap, ◌∙◌, [], get_or, sym}
use Rattle.std.proofs.lemmas.List.{set-get_or}
use Rattle.std.proofs.lemmas.Bool.{false≢true}
use Rattle.page_store.specs.OpenedFile.{OpenedFile}
use Rattle.page_store.proofs.RealFiles.{gives_back-is}
use Rattle.page_store.proofs.file_store.FileStoreStore.write.Goals as goal

pub returns-clause-other_pages : goal.returns-clause-other_pages
returns-clause-other_pages g c =
    let pages = c.args.self.now.pages in
    (get_or pages c.args.n [], ap (λ (o : OpenedFile). o.pages) c.self.view_is ∙ sym (set-get_or pages c.args.n []))

pub returns-clause-page : goal.returns-clause-page
returns-clause-page g c = λ steady.
    absurd (false≢true (sym gives_back-is ∙ ap (λ (o : OpenedFile). o.steady) c.self.view_is ∙ steady))

pub returns-clause-changes : goal.returns-clause-changes
returns-clause-changes g c = search rules
