-- Pages that are kept in memory as they were read.
use Rattle.std.proofs.Common.{◌≡◌, ◌<◌, ◌⊎◌, ℕ, zero, suc, List, [], ◌∷◌, length, Option, Some, None, IsSome, Box, set, refl, sym, ap, subst, ◌∙◌, inl, inr, ⊎_elim, arith}
use Rattle.std.specs.Option.{option_map}
use Rattle.std.proofs.lemmas.List.{map-set}
use Rattle.btree_node.specs.Spelling.{IsSpelt}
use Rattle.page_store.specs.PageMap.{at}
use Rattle.page_store.specs.Overlaid.{slots_of}
use Rattle.page_store.specs.KeptPages.{SlotsAreSpelt}

bytes_or : List ℕ → Option (List ℕ) → List ℕ
bytes_or other None = other
bytes_or other (Some page) = page

-- what stands in a slot was put there, or stood there
put_slot : (slots : List (Option (List ℕ))) (n q : ℕ) (page kept : List ℕ) → at (set slots n (Some page)) q ≡ Some kept → (at slots q ≡ Some kept) ⊎ ((q ≡ n) × (kept ≡ page))
unfolding bytes_or
put_slot [] n q page kept is = inl is
put_slot (slot ∷ slots) zero zero page kept is = inr (refl, ap (bytes_or page) (sym is))
put_slot (slot ∷ slots) zero (suc q) page kept is = inl is
put_slot (slot ∷ slots) (suc n) zero page kept is = inl is
put_slot (slot ∷ slots) (suc n) (suc q) page kept is =
    ⊎_elim (λ (was : at slots q ≡ Some kept). inl was) (λ (new : (q ≡ n) × (kept ≡ page)). inr (ap suc new.0, new.1)) (put_slot slots n q page kept is)

pub put_box : {Z : Type 0} (items : List (Option (Box (List ℕ) Z))) (n q : ℕ) (box : Box (List ℕ) Z) (kept : List ℕ) → at (slots_of (set items n (Some box))) q ≡ Some kept → (at (slots_of items) q ≡ Some kept) ⊎ ((q ≡ n) × (kept ≡ box.value))
put_box {Z} items n q box kept is =
    put_slot (slots_of items) n q box.value kept
    (ap (λ (slots : List (Option (List ℕ))). at slots q) (sym (map-set (option_map (λ (page : Box (List ℕ) Z). page.value)) items n (Some box))) ∙ is)

pub put_spelt : {Z : Type 0} (order : ℕ) (items : List (Option (Box (List ℕ) Z))) (n : ℕ) (box : Box (List ℕ) Z) → SlotsAreSpelt order (slots_of items) → IsSpelt order box.value → SlotsAreSpelt order (slots_of (set items n (Some box)))
put_spelt {Z} order items n box all spelt q kept is =
    ⊎_elim (λ (was : at (slots_of items) q ≡ Some kept). all q kept was)
    (λ (new : (q ≡ n) × (kept ≡ box.value)). subst (λ (page : List ℕ). IsSpelt order page) (sym new.1) spelt)
    (put_box items n q box kept is)

-- a page in use is below the count
pub below_count : (pages : List (Option (List ℕ))) (n : ℕ) → IsSome (at pages n) → n < length pages
below_count [] n some = absurd (no_page some)
  where
    no_page : IsSome {T = List ℕ} None → ⊥
    no_page none = cc
below_count (page ∷ pages) zero some = omega arith
below_count (page ∷ pages) (suc n) some = let before = below_count pages n some in omega arith
