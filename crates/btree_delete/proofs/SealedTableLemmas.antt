-- A table whose pages were kept may be closed.
use Rattle.std.proofs.Common.{◌≡◌, ◌∙◌, ◌==◌, ◌||◌, ℕ, Bool, true, false, if◌then◌else◌, List, [], length, Option, None, Result, Ok, Err, OnOk, is_some, slice_index_or, refl, sym, subst}
use Rattle.page_store.specs.Guards.{Guard, Unsealed, AllowsAll, KeepsExactly, SealsGuard}
use Rattle.page_store.specs.PageMap.{at}
use Rattle.page_store.specs.PagesView.{is_in_memory, memory_pages}
use Rattle.page_store.specs.declared.page_edit.WriteFault.{WriteFault}
use Rattle.page_store.specs.declared.step.Step.{Step}
use Rattle.page_store.proofs.GuardLemmas.{sealed_allows}
use Rattle.btree_node.specs.HeaderSpelling.{header_spelling, clean_state, writing_state}
use Rattle.btree_delete.specs.Closing.{closing, header_of}
use Rattle.btree_delete.specs.TableView.{TableView}

-- some calls, or none
allows_if : (guard : Guard) (steps : List Step) (b : Bool) → (b ≡ true → AllowsAll guard steps) → AllowsAll guard (if b then steps else [])
allows_if guard steps true all = all refl
allows_if guard steps false all = tt

in_memory : (o : Option (List ℕ)) (header b : Bool) → is_some (if b then o else None) ≡ true → header || b ≡ true
in_memory o true b some = refl
in_memory o false true some = refl
in_memory o false false some = absurd (cc some)

-- where nothing was changed there is no call
pub idle_allows : (t : TableView) → t.pages.changed ≡ false → AllowsAll t.pages.guard (closing t)
idle_allows t idle = allows_if t.pages.guard _ t.pages.changed (λ changed. absurd (cc (sym idle ∙ changed)))

kept_allows : (t : TableView) (long refusals : ℕ) → KeepsExactly (λ n. n == 0 || is_in_memory t.pages n) long refusals t.pages.guard → AllowsAll t.pages.guard (closing t)
kept_allows t long refusals keeps = allows_if t.pages.guard _ t.pages.changed (λ changed.
    sealed_allows (λ n. n == 0 || is_in_memory t.pages n) long refusals t.pages.guard (memory_pages t.pages) (length t.pages.pages) (header_spelling (header_of t) writing_state) (header_spelling (header_of t) clean_state) keeps refl (λ n some. in_memory (at t.pages.pages n) (n == 0) (is_in_memory t.pages n) some))

-- what was kept allows the closing
pub seal_allows : (t new : TableView) (answer : Result (Unit {0}) WriteFault) (refusals : ℕ) → new.pages.in_memory ≡ t.pages.in_memory → SealsGuard (λ n. n == 0 || is_in_memory t.pages n) (length t.pages.stored) t.pages.guard answer new.pages.guard → t.pages.guard ≡ Unsealed refusals → OnOk answer (AllowsAll new.pages.guard (closing new))
seal_allows t new (Err fault) refusals same seals is = tt
seal_allows t new (Ok done) refusals same seals is =
    let keeps = subst (λ (k : Guard). SealsGuard {F = WriteFault} (λ n. n == 0 || is_in_memory t.pages n) (length t.pages.stored) k (Ok done) new.pages.guard) is seals in
    kept_allows new (length t.pages.stored) refusals (subst (λ (bits : List Bool). KeepsExactly (λ n. n == 0 || slice_index_or bits n false) (length t.pages.stored) refusals new.pages.guard) (sym same) keeps)
