-- Pages put into their slots.
use Rattle.std.specs.Prelude.{◌≡◌, ℕ, List, [], ◌∷◌, Option, Some, ◌&&◌, not, is_some, map, slice_set}
use Rattle.std.specs.declared.boxed.Box.{Box}
use Rattle.page_store.specs.PageMap.{at, is_written}

-- numbered pages in memory as their numbers and bytes
abbrev pub bytes_in : {Z : Type 0} → List (ℕ × Box (List ℕ) Z) → List (ℕ × List ℕ)
bytes_in {Z} pages = map (λ (p : ℕ × Box (List ℕ) Z). (p.0, p.1.value)) pages

-- each page in the slot of its number
abbrev pub put_slots : List (Option (List ℕ)) → List (ℕ × List ℕ) → List (Option (List ℕ))
put_slots slots [] = slots
put_slots slots (w ∷ writes) = put_slots (slice_set slots w.0 (Some w.1)) writes

-- the pages that are made for an edit: one for each number that is written and has no page yet
abbrev pub AreTheNew : List (Option (List ℕ)) → List (ℕ × List ℕ) → List (ℕ × List ℕ) → Type 0
AreTheNew slots writes made = (n : ℕ) → is_written made n ≡ (is_written writes n && not (is_some (at slots n)))
