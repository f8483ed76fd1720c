-- The steps of a close, and what a front of them leaves.
use Rattle.std.proofs.Common.{◌≡◌, ℕ, ◌-◌, ◌≤◌, ◌++◌, ◌⊎◌, inl, inr, Bool, true, false, List, [], ◌∷◌, length, Option, Some, None, slice_get, zero, suc, refl, sym, ap, ◌∙◌, subst, ⊎_elim, arith, append-nil, length-append, if◌then◌else◌}
use Rattle.std.proofs.lemmas.List.{length-replicate}
use Rattle.rec_types.specs.Padded.{padded}
use Rattle.page_store.specs.Blank.{blank, blanks}
use Rattle.page_store.specs.PageMap.{at}
use Rattle.page_store.specs.PagesView.{memory_pages, is_in_memory}
use Rattle.page_store.specs.Journal.{carried, writing_back}
use Rattle.page_store.specs.Fronts.{IsPartWay, tried}
use Rattle.page_store.specs.declared.step.Step.{Step}
use Rattle.page_store.proofs.TryLemmas.{tries_part_way, tries_then_all}
use Rattle.page_store.proofs.WriteBackLemmas.{kept_left}
use Rattle.btree_node.specs.declared.header.Header.{Header}
use Rattle.btree_node.specs.HeaderSpelling.{magic, header_bytes, header_spelling, state_at, clean_state, writing_state}
use Rattle.btree_node.proofs.HeaderLemmas.{header_reads, fields_same}
use Rattle.btree_delete.specs.Closing.{header_of, closing, IsNoCleanFile, IsFile, IsEither}
use Rattle.btree_delete.specs.TableView.{TableView}
use Rattle.btree_delete.proofs.ClosedFileLemmas.{one_page}

state_is : (h : Header) (state : ℕ) → state_at (header_spelling h state) ≡ state
unfolding header_spelling padded header_bytes magic state_at
state_is h state = refl

blank_state : state_at blank ≡ 0
unfolding state_at blank
blank_state = refl

-- page 0 isn't in the state of a closed file
other_state : (pages : List (List ℕ)) (page : List ℕ) (state : ℕ) → slice_get pages 0 ≡ Some page → state_at page ≡ state → (state ≡ clean_state → ⊥) → IsNoCleanFile pages
other_state pages page state there is other h tree es us clean =
    other (sym is ∙ ap state_at (one_page pages page (header_spelling h clean_state) there clean.begins.header.page) ∙ state_is h clean_state)

marked_refused : (pages : List (List ℕ)) (h : Header) → slice_get pages 0 ≡ Some (header_spelling h writing_state) → IsNoCleanFile pages
marked_refused pages h there = other_state pages (header_spelling h writing_state) writing_state there (state_is h writing_state) (λ same. omega (arith, same))

-- a closed file with pages behind it
longer_file : (old : List (List ℕ)) (more : List (List ℕ)) → IsFile old → 1 ≤ length more → IsNoCleanFile (old ++ more)
longer_file old more file some h tree es us clean =
    let some_old = file.clean.begins.long.some in
    let long = length-append old more in
    let page = header_spelling file.h clean_state in
    let same : page ≡ header_spelling h clean_state = one_page (old ++ more) page (header_spelling h clean_state) (kept_left old more 0 (omega (arith, some_old)) ∙ file.clean.begins.header.page) clean.begins.header.page in
    let one = fields_same page file.h clean_state (header_reads page file.h clean_state file.clean.begins.header.fits refl) in
    let two = fields_same page h clean_state (header_reads page h clean_state clean.begins.header.fits same) in
    let pages = ap (λ (x : Header). x.pages) (sym one ∙ two) in
    omega (arith, pages, long, some, file.clean.begins.agrees.pages, clean.begins.agrees.pages)

blank_refused : (n : ℕ) → IsNoCleanFile (blanks (suc n))
blank_refused n = other_state (blanks (suc n)) blank 0 refl blank_state (λ same. omega (arith, same))

length-blanks : (n : ℕ) → length (blanks n) ≡ n
length-blanks n = length-replicate n blank

longer : (old : List (List ℕ)) (n : ℕ) → (old ≡ []) ⊎ IsFile old → (old ++ blanks n ≡ old) ⊎ IsNoCleanFile (old ++ blanks n)
longer old zero file = inl (append-nil old)
longer old (suc n) (inl empty) = inr (subst (λ (ps : List (List ℕ)). IsNoCleanFile (ps ++ blanks (suc n))) (sym empty) (blank_refused n))
longer old (suc n) (inr file) = inr (longer_file old (blanks (suc n)) file (omega (arith, length-blanks (suc n))))

either_by : (old new all : List (List ℕ)) (count : ℕ) (h : Header) → (old ≡ []) ⊎ IsFile old → IsPartWay old count (header_spelling h writing_state) all new → IsEither old all new
either_by old new all count h file (inl same) = inl same
either_by old new all count h file (inr (inl same)) =
    ⊎_elim (λ (as_was : old ++ blanks (count - length old) ≡ old). inl (same ∙ as_was))
    (λ (refused : IsNoCleanFile (old ++ blanks (count - length old))). inr (inl (subst IsNoCleanFile (sym same) refused)))
    (longer old (count - length old) file)
either_by old new all count h file (inr (inr (inl marked))) = inr (inl (marked_refused new h marked))
either_by old new all count h file (inr (inr (inr same))) = inr (inr same)

no_steps : (ks : List ℕ) → tried ks [] ≡ []
no_steps [] = refl
no_steps (zero ∷ ks) = no_steps ks
no_steps (suc k ∷ ks) = no_steps ks

-- the steps by which a changed table is closed, and one that isn't
pub closing_changed : (t : TableView) → t.pages.changed ≡ true → closing t ≡ writing_back (memory_pages t.pages) (length t.pages.pages) (header_spelling (header_of t) writing_state) (header_spelling (header_of t) clean_state)
closing_changed t changed = ap (λ (b : Bool). if b then writing_back (memory_pages t.pages) (length t.pages.pages) (header_spelling (header_of t) writing_state) (header_spelling (header_of t) clean_state) else []) changed

-- where nothing was changed a close makes no call
pub closing_idle : (t : TableView) → t.pages.changed ≡ false → closing t ≡ []
closing_idle t idle = ap (λ (b : Bool). if b then writing_back (memory_pages t.pages) (length t.pages.pages) (header_spelling (header_of t) writing_state) (header_spelling (header_of t) clean_state) else []) idle

-- those that were made of the header that was written
pub closing_is : (t : TableView) (count : ℕ) (writing clean : List ℕ) → t.pages.changed ≡ true → count ≡ length t.pages.pages → writing ≡ header_spelling (record { version = 2; order = t.tree.order; pages = count; root = t.tree.root; count = t.tree.count }) writing_state
    → clean ≡ header_spelling (record { version = 2; order = t.tree.order; pages = count; root = t.tree.root; count = t.tree.count }) clean_state → writing_back (memory_pages t.pages) (length t.pages.pages) writing clean ≡ closing t
closing_is t count writing clean changed is writing_is clean_is =
    ap (λ (w : List ℕ). writing_back (memory_pages t.pages) (length t.pages.pages) w clean) writing_is
    ∙ ap (λ (x : List ℕ). writing_back (memory_pages t.pages) (length t.pages.pages) (header_spelling (record { version = 2; order = t.tree.order; pages = count; root = t.tree.root; count = t.tree.count }) writing_state) x) clean_is
    ∙ ap (λ (n : ℕ). writing_back (memory_pages t.pages) (length t.pages.pages) (header_spelling (record { version = 2; order = t.tree.order; pages = n; root = t.tree.root; count = t.tree.count }) writing_state) (header_spelling (record { version = 2; order = t.tree.order; pages = n; root = t.tree.root; count = t.tree.count }) clean_state)) is
    ∙ sym (closing_changed t changed)

-- so its tries leave the old file
pub either_idle : (t : TableView) (old : List (List ℕ)) (ks : List ℕ) → t.pages.changed ≡ false → IsEither old (carried old (closing t)) (carried old (tried ks (closing t)))
either_idle t old ks idle = inl (ap (λ (steps : List Step). carried old (tried ks steps)) (closing_idle t idle) ∙ ap (carried old) (no_steps ks))

pub again_idle : (t : TableView) (old : List (List ℕ)) (ks : List ℕ) → t.pages.changed ≡ false → carried (carried old (tried ks (closing t))) (closing t) ≡ carried old (closing t)
again_idle t old ks idle =
    subst (λ (steps : List Step). carried (carried old (tried ks steps)) steps ≡ carried old steps) (sym (closing_idle t idle)) (ap (carried old) (no_steps ks))

pub again_changed : (t : TableView) (old : List (List ℕ)) (ks : List ℕ) → t.pages.changed ≡ true → carried (carried old (tried ks (closing t))) (closing t) ≡ carried old (closing t)
again_changed t old ks changed =
    subst (λ (steps : List Step). carried (carried old (tried ks steps)) steps ≡ carried old steps) (sym (closing_changed t changed))
    (tries_then_all old (memory_pages t.pages) (length t.pages.pages) (header_spelling (header_of t) writing_state) (header_spelling (header_of t) clean_state) ks)

-- where something was changed they leave the old file, one that is refused, or the new one
pub either_changed : (t : TableView) (old : List (List ℕ)) (ks : List ℕ) → t.pages.changed ≡ true → 1 ≤ length t.pages.pages → at t.pages.pages 0 ≡ None → (old ≡ []) ⊎ IsFile old → IsEither old (carried old (closing t)) (carried old (tried ks (closing t)))
either_changed t old ks changed some header file =
    subst (λ (steps : List Step). IsEither old (carried old steps) (carried old (tried ks steps))) (sym (closing_changed t changed))
    (either_by old _ _ (length t.pages.pages) (header_of t) file (tries_part_way old (memory_pages t.pages) (length t.pages.pages) (header_spelling (header_of t) writing_state) (header_spelling (header_of t) clean_state) ks some (unused_either (is_in_memory t.pages 0) (at t.pages.pages 0) header)))
  where
    unused_either : (b : Bool) (page : Option (List ℕ)) → page ≡ None → (if b then page else None) ≡ None
    unused_either true page none = none
    unused_either false page none = refl
