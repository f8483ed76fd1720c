-- What a place reads as.
use Rattle.std.proofs.Common.{◌≡◌, ℕ, ◌<◌, ◌≤◌, List, [], ◌∷◌, ◌++◌, length, take, drop, refl, ap, sym, ◌∙◌, append_assoc, arith, length-append, slice_index}
use Rattle.std.proofs.lemmas.List.{get_or_at, drop_at, take-append-le}
use Rattle.std.proofs.Math.Nat.{mul-le-mul}
use Rattle.rec_types.specs.Padded.{padded}
use Rattle.rec_types.proofs.Padding.{length-padded, take-padded}
use Rattle.btree_node.specs.declared.layout.Layout.{Layout}
use Rattle.btree_node.specs.Layout.{place_width, place_start}
use Rattle.btree_node.specs.Lists.{Element}
use Rattle.btree_node.specs.Spelling.{field, place, ElementFits}
use Rattle.btree_node.specs.Reading.{part, key_length, record_length, element_in}
use Rattle.btree_node.proofs.PagePartLemmas.{length-part}
use Rattle.btree_node.proofs.WriterLemmas.{length-field}

-- a place is as wide as the layout says
pub length-place : (layout : Layout) (e : Element) → ElementFits layout e → length (place layout e) ≡ place_width layout
unfolding place
length-place layout e fits =
    omega (arith, length-append (field 16 e.0) (field layout.record_width e.1), length-field 16 e.0 fits.key_most, length-field layout.record_width e.1 fits.record_most)

-- it tells its key's length
pub key_length-place : (layout : Layout) (e : Element) → key_length (place layout e) ≡ length e.0
unfolding place field key_length
key_length-place layout e = refl

-- and its record's
pub record_length-place : (layout : Layout) (e : Element) → ElementFits layout e → record_length (place layout e) ≡ length e.1
unfolding place field record_length
record_length-place layout e fits = get_or_at (padded 16 e.0) (length e.1) (padded layout.record_width e.1) 0 16 (length-padded 16 e.0 fits.key_most)

key_part : (layout : Layout) (e : Element) → ElementFits layout e → part 1 (length e.0) (place layout e) ≡ e.0
unfolding place field part
key_part layout e fits =
    take-append-le (length e.0) (padded 16 e.0) (length e.1 ∷ padded layout.record_width e.1) (omega (arith, length-padded 16 e.0 fits.key_most, fits.key_most))
    ∙ take-padded 16 e.0

record_part : (layout : Layout) (e : Element) → ElementFits layout e → part 18 (length e.1) (place layout e) ≡ e.1
unfolding place field part
record_part layout e fits =
    let behind : drop 17 (padded 16 e.0 ++ length e.1 ∷ padded layout.record_width e.1) ≡ padded layout.record_width e.1 =
    ap (drop 17) (sym (append_assoc (padded 16 e.0) (length e.1 ∷ []) (padded layout.record_width e.1)))
    ∙ drop_at (padded 16 e.0 ++ length e.1 ∷ []) (padded layout.record_width e.1) 17 (omega (arith, length-append (padded 16 e.0) (length e.1 ∷ []), length-padded 16 e.0 fits.key_most)) in
    ap (take (length e.1)) behind ∙ take-padded layout.record_width e.1

first_byte : (layout : Layout) (e : Element) → slice_index (place layout e) 0 ≡ length e.0
unfolding key_length
first_byte layout e = key_length-place layout e

later_byte : (layout : Layout) (e : Element) → ElementFits layout e → slice_index (place layout e) 17 ≡ length e.1
unfolding record_length
later_byte layout e fits = record_length-place layout e fits

-- a place reads as its element
pub element_in-place : (layout : Layout) (e : Element) → ElementFits layout e → element_in (place layout e) ≡ e
unfolding element_in
element_in-place layout e fits =
    let key : part 1 (slice_index (place layout e) 0) (place layout e) ≡ e.0 = ap (λ n. part 1 n (place layout e)) (first_byte layout e) ∙ key_part layout e fits in
    let value : part 18 (slice_index (place layout e) 17) (place layout e) ≡ e.1 = ap (λ n. part 18 n (place layout e)) (later_byte layout e fits) ∙ record_part layout e fits in
    λ i. (key i, value i)

-- the places lie in the page, and the sons behind them
pub places_within : (layout : Layout) (i : ℕ) → layout.record_width ≤ 100 → i ≤ 32 → place_start layout i ≤ 3784
places_within layout i narrow few = omega (arith, mul-le-mul {n₁ = place_width layout} {m₁ = i} {n₂ = 118} {m₂ = 32} (omega arith) few)

-- what is read at a place fits, where its lengths do
pub element_in_fits : (layout : Layout) (place : List ℕ) → length place ≡ place_width layout → 0 < key_length place → key_length place ≤ 16 → record_length place ≤ layout.record_width → ElementFits layout (element_in place)
unfolding element_in key_length record_length
element_in_fits layout place size some most record_most =
    let key = length-part 1 (slice_index place 0) place (omega arith) in
    let value = length-part 18 (slice_index place 17) place (omega arith) in
    record { key_some = omega arith; key_most = omega arith; record_most = omega arith }
