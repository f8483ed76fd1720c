use Rattle.std.proofs.Common.{◌≡◌, ◌≤◌, ℕ, List, ◌-◌, ◌++◌, length, sym, ap, ◌∙◌, arith}
use Rattle.std.proofs.lemmas.List.{length-replicate}
use Rattle.page_store.specs.Blank.{blank, blanks}
use Rattle.page_store.specs.OpenedFile.{OpenedFile}
use Rattle.page_store.specs.FileValues.{pages_in_file}
use Rattle.page_store.proofs.RealFiles.{pages_in_file-are}
use Rattle.page_store.proofs.BlankLemmas.{blanks_more}
use Rattle.page_store.proofs.file_store.FileStoreStore.set_pages.Goals as goal

pub returns-clause-pages : goal.returns-clause-pages
returns-clause-pages g c =
    let was : blanks c.self.inside.pages ≡ c.args.self.now.pages = sym (pages_in_file-are c.self.inside.pages) ∙ ap (λ (o : OpenedFile). o.pages) c.self.view_is in
    let long = ap (λ (pages : List (List ℕ)). length pages) was in
    let made : c.from-self-inside.result ≡ c.args.n = omega (arith, c.from-self-inside.ensures) in
    ap pages_in_file made
    ∙ pages_in_file-are c.args.n
    ∙ blanks_more c.self.inside.pages c.args.n (omega (arith, long, c.requires, length-replicate c.self.inside.pages blank))
    ∙ ap (λ (pages : List (List ℕ)). pages ++ blanks (c.args.n - length pages)) was

pub overflow_mul-self-inside : goal.overflow_mul-self-inside
overflow_mul-self-inside g c =
    let was : blanks c.self.inside.pages ≡ c.args.self.now.pages = sym (pages_in_file-are c.self.inside.pages) ∙ ap (λ (o : OpenedFile). o.pages) c.self.view_is in
    let long = ap (λ (pages : List (List ℕ)). length pages) was in
    let few : c.self.inside.pages ≤ c.args.n = omega (arith, long, c.requires, length-replicate c.self.inside.pages blank) in
    omega (arith, few, c.ranges.n.fits)
