-- Zeros between the fields: a page whose padding is zero is the spelling of what it reads as, and the other way round.
use Rattle.std.proofs.Common.{◌≡◌, ℕ, zero, suc, ◌+◌, ◌*◌, ◌<◌, ◌≤◌, List, [], ◌∷◌, ◌++◌, map, length, take, drop, replicate, slice_index, refl, ap, sym, ◌∙◌, arith}
use Rattle.std.specs.List.{flat_map, range_with_len}
use Rattle.std.proofs.lemmas.Nat.{be_bytes_2, be_bytes_4}
use Rattle.std.proofs.lemmas.List.{take-append-drop, drop-drop, drop-take, take-take, drop_more, append-nil}
use Rattle.std.proofs.lemmas.List.Concat.{flat_map-append}
use Rattle.std.proofs.lemmas.List.FromFn.{map-range_with_len_more}
use Rattle.std.proofs.Math.Nat.{mul-suc}
use Rattle.byteorder.specs.Endian.{big_bytes, big_number}
use Rattle.btree_node.specs.Reading.{part, number_at, IsZero}
use Rattle.btree_node.proofs.PagePartLemmas.{length-part, part_bytes}

-- a list of zeros
pub zeros : (bytes : List ℕ) → IsZero bytes → bytes ≡ replicate (length bytes) 0
zeros [] each = refl
zeros (b ∷ bs) each = ap (λ x. x ∷ bs) each.0 ∙ ap (λ rest. 0 ∷ rest) (zeros bs each.1)

-- zeros are zero
pub all_zero : (n : ℕ) → IsZero (replicate n 0)
all_zero zero = tt
all_zero (suc n) = (refl, all_zero n)

-- a part and what follows it
pub part-drop : (at width : ℕ) (page : List ℕ) → part at width page ++ drop (at + width) page ≡ drop at page
unfolding part
part-drop at width page = ap (λ rest. take width (drop at page) ++ rest) (sym (drop-drop width at page)) ∙ take-append-drop width (drop at page)

-- two parts side by side
pub part-part : (at width more : ℕ) (page : List ℕ) → part at (width + more) page ≡ part at width page ++ part (at + width) more page
unfolding part
part-part at width more page =
    sym (take-append-drop width (take (width + more) (drop at page)))
    ∙ ap (λ front. front ++ drop width (take (width + more) (drop at page))) (take-take width (width + more) (drop at page) (omega arith))
    ∙ ap (λ back. take width (drop at page) ++ back) (drop-take width more (drop at page) ∙ ap (take more) (drop-drop width at page))

-- blocks of one width, each what f makes of what g reads
pub blocks_are : {X : Type 0} (f : X → List ℕ) (g : ℕ → X) (at width count : ℕ) (page : List ℕ) → ((i : ℕ) → i < count → part (at + width * i) width page ≡ f (g i)) → part at (width * count) page ≡ flat_map f (map g (range_with_len 0 count))
unfolding part
blocks_are f g at width zero page each = let none : width * 0 ≡ 0 = omega arith in ap (λ n. take n (drop at page)) none
blocks_are f g at width (suc n) page each =
    let less : width * suc n ≡ width * n + width = omega (arith, mul-suc width n) in
    let next : n + 1 ≡ suc n = omega arith in
    ap (λ m. part at m page) less
    ∙ part-part at (width * n) width page
    ∙ ap (λ front. front ++ part (at + width * n) width page) (blocks_are f g at width n page (λ i low. each i (omega arith)))
    ∙ ap (λ back. flat_map f (map g (range_with_len 0 n)) ++ back) (each n (omega arith) ∙ sym (append-nil (f (g n))))
    ∙ sym (flat_map-append f (map g (range_with_len 0 n)) (g n ∷ []))
    ∙ ap (flat_map f) (sym (map-range_with_len_more g 0 n n (omega arith)) ∙ ap (λ m. map g (range_with_len 0 m)) next)

-- two bytes are those of the number that they read as
pub two_bytes : (at : ℕ) (page : List ℕ) → ((i : ℕ) → slice_index page i < 256) → at + 2 ≤ length page → part at 2 page ≡ big_bytes 2 (number_at 2 at page)
unfolding number_at
two_bytes at page bytes within = sym (be_bytes_2 (part at 2 page) (big_number 2 (part at 2 page)) (length-part at 2 page within) (part_bytes at 2 page bytes) (omega arith))

-- four bytes likewise
pub four_bytes : (at : ℕ) (page : List ℕ) → ((i : ℕ) → slice_index page i < 256) → at + 4 ≤ length page → part at 4 page ≡ big_bytes 4 (number_at 4 at page)
unfolding number_at
four_bytes at page bytes within = sym (be_bytes_4 (part at 4 page) (big_number 4 (part at 4 page)) (length-part at 4 page within) (part_bytes at 4 page bytes) (omega arith))

-- one byte
pub one_byte : (at : ℕ) (page : List ℕ) → at + 1 ≤ length page → part at 1 page ≡ slice_index page at ∷ []
unfolding part
one_byte at page within = ap (take 1) (drop_more page at 0 (omega arith))

-- zeros of a part
pub zero_part : (at width : ℕ) (page : List ℕ) → at + width ≤ length page → IsZero (part at width page) → part at width page ≡ replicate width 0
zero_part at width page within each = zeros (part at width page) each ∙ ap (λ n. replicate n 0) (length-part at width page within)
