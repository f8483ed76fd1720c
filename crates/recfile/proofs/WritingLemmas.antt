-- What closing a table writes to its store.
use Rattle.std.proofs.Common.{◌≡◌, ℕ, ◌++◌, Bool, true, false, List, [], ◌∷◌, length, Option, Some, None, refl, sym, ap, ◌∙◌, arith, append-nil, length-append, if◌then◌else◌}
use Rattle.page_store.specs.Journal.{Journal, noted_steps, writing_back}
use Rattle.page_store.specs.PagesView.{memory_pages}
use Rattle.page_store.specs.declared.step.Step.{Step}
use Rattle.page_store.specs.declared.step.Step.TheVariants.{SetPages, Write, Sync}
use Rattle.btree_node.specs.HeaderSpelling.{header_spelling, clean_state, writing_state}
use Rattle.btree_delete.specs.Closing.{header_of, closing}
use Rattle.btree_delete.specs.TableView.{TableView}
use Rattle.recfile.specs.StoreWrites.{WritesBack}
use Rattle.file_session.specs.declared.file_fault.FileFault.{FileFault}

-- the steps of a journal
abbrev steps_in : Option Journal → List Step
steps_in None = []
steps_in (Some j) = j.steps

-- 1 of a step that makes the store longer, and 0 of another
abbrev growth_of : Step → ℕ
growth_of (SetPages n) = 1
growth_of (Write n page) = 0
growth_of Sync = 0

abbrev first_growth : List Step → ℕ
first_growth [] = 0
first_growth (s ∷ steps) = growth_of s

-- the calls of a closing begin by making the store longer, where the table was changed
grows : (t : TableView) → t.pages.changed ≡ true → first_growth (closing t) ≡ 1
grows t changed = ap (λ (b : Bool). first_growth (if b then writing_back (memory_pages t.pages) (length t.pages.pages) (header_spelling (header_of t) writing_state) (header_spelling (header_of t) clean_state) else [])) changed

none : (t : TableView) → t.pages.changed ≡ false → closing t ≡ []
none t unchanged = ap (λ (b : Bool). if b then writing_back (memory_pages t.pages) (length t.pages.pages) (header_spelling (header_of t) writing_state) (header_spelling (header_of t) clean_state) else []) unchanged

-- a list that stays when steps come behind it
nothing_added : (xs more : List Step) → xs ≡ xs ++ more → more ≡ []
nothing_added xs [] same = refl
nothing_added xs (s ∷ more) same = let e = ap {B = ℕ} length same in let long = length-append xs (s ∷ more) in absurd (omega (arith, e, long))

never : (xs : List Step) (t : TableView) → t.pages.changed ≡ true → xs ≡ xs ++ closing t → ⊥
never xs t changed same =
    let first : ◌≡◌ {A = ℕ} 0 1 = sym (ap first_growth (nothing_added xs (closing t) same)) ∙ grows t changed in
    omega (arith, first)

pub nothing_written : (old : Journal) (t : TableView) → t.pages.changed ≡ true → WritesBack (Some old) t None (Some old) → ⊥
nothing_written old t changed written = never old.steps t changed (ap steps_in written)

pub written_twice : (old : Journal) (t : TableView) → t.pages.changed ≡ true → WritesBack (Some old) t None (noted_steps (noted_steps (Some old) (closing t)) (closing t)) → ⊥
written_twice old t changed written = never (old.steps ++ closing t) t changed (sym (ap steps_in written))

pub kept_first : (old : Journal) (t : TableView) (fault : FileFault) → old.steps ≡ [] → t.pages.changed ≡ true → WritesBack (Some old) t (Some fault) (noted_steps (Some old) (Sync ∷ [])) → ⊥
kept_first old t fault empty changed written =
    let front = written.0 in
    let begins : Sync ∷ [] ≡ front.0 = sym (ap (λ (ss : List Step). ss ++ Sync ∷ []) empty) ∙ ap steps_in front.3 ∙ ap (λ (ss : List Step). ss ++ front.0) empty in
    let first : ◌≡◌ {A = ℕ} 1 0 = sym (grows t changed) ∙ ap first_growth front.2 ∙ sym (ap (λ (ss : List Step). first_growth (ss ++ front.1)) begins) in
    omega (arith, first)

pub unchanged : (old new : Journal) (t : TableView) → t.pages.changed ≡ false → WritesBack (Some old) t None (Some new) → new.steps ≡ old.steps
unchanged old new t same written = ap steps_in written ∙ ap (λ (ss : List Step). old.steps ++ ss) (none t same) ∙ append-nil old.steps
