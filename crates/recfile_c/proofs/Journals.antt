-- Steps carried out one after another.
use Rattle.std.proofs.Common.{◌≡◌, ℕ, ◌+◌, ◌<◌, List, [], ◌∷◌, ◌++◌, length, take, slice_index_or, slice_set, Result, Ok, Err, OnOk, OnErr, refl, ap, sym, ◌∙◌}
use Rattle.std.proofs.lemmas.List.{set-get_or}
use Rattle.std.proofs.lemmas.Grind.{take_at_read}
use Rattle.page_store.specs.declared.step.Step.{Step}
use Rattle.page_store.specs.Journal.{carry, carried}

-- one more step at the end
pub carried-snoc : (pages : List (List ℕ)) (steps : List Step) (s : Step) → carried pages (steps ++ s ∷ []) ≡ carry (carried pages steps) s
carried-snoc pages [] s = refl
carried-snoc pages (t ∷ steps) s = carried-snoc (carry pages t) steps s

-- one more step carried out
pub carried-more : (pages : List (List ℕ)) (steps : List Step) (i : ℕ) (d : Step) → i < length steps → carried pages (take (i + 1) steps) ≡ carry (carried pages (take i steps)) (slice_index_or steps i d)
carried-more pages steps i d below = ap (carried pages) (take_at_read steps i d below).1 ∙ carried-snoc pages (take i steps) (slice_index_or steps i d)

-- a write that fails leaves its page too
pub other_pages : {X E : Type 0} (r : Result X E) (old new : List (List ℕ)) (n : ℕ) (page : List ℕ) → OnOk r (new ≡ slice_set old n page) → OnErr r (new ≡ old) → (any : List ℕ) × (new ≡ slice_set old n any)
other_pages (Ok x) old new n page written same = (page, written)
other_pages (Err fault) old new n page written same = (slice_index_or old n [], same ∙ sym (set-get_or old n []))
