-- Parts of a page that is made of blocks, and numbers in it.
use Rattle.std.proofs.Common.{◌≡◌, ℕ, zero, suc, ◌+◌, ◌*◌, ◌^◌, ◌<◌, ◌≤◌, List, [], ◌∷◌, ◌++◌, map, length, get_or, take, drop, slice_index, refl, ap, sym, ◌∙◌, append_assoc, inl, inr, arith, length-append}
use Rattle.std.specs.List.{flat_map, range_with_len}
use Rattle.std.proofs.lemmas.List.{take_at, drop_at, append-nil, length-take, get_or-take, get_or-drop, get_or_past, length-drop, length-take-le}
use Rattle.std.proofs.lemmas.Bool.{cases_lt}
use Rattle.std.proofs.lemmas.List.FromFn.{fill_by_all, map-range_with_len_more}
use Rattle.std.proofs.Math.Nat.{mul-suc}
use Rattle.byteorder.specs.Endian.{big_bytes, big_number}
use Rattle.byteorder.specs.Numbers.{big_number-reads_back, big_from-lt}
use Rattle.btree_node.specs.Lists.{Each}
use Rattle.btree_node.specs.Reading.{part, number_at}

-- a part in the middle of a list
pub part_middle : (at width : ℕ) (pre bytes post : List ℕ) → length pre ≡ at → length bytes ≡ width → part at width (pre ++ (bytes ++ post)) ≡ bytes
unfolding part
part_middle at width pre bytes post before size = ap (take width) (drop_at pre (bytes ++ post) at before) ∙ take_at bytes post width size

-- a part of a page is as long as asked for
pub length-part : (at width : ℕ) (page : List ℕ) → at + width ≤ length page → length (part at width page) ≡ width
unfolding part
length-part at width page within = length-take-le width (drop at page) (omega (arith, length-drop {A = ℕ}))

-- a byte of a part is a byte of the page
pub part_bytes : (at width : ℕ) (page : List ℕ) → ((i : ℕ) → slice_index page i < 256) → (i : ℕ) → slice_index (part at width page) i < 256
unfolding part
part_bytes at width page bytes i =
    elim (cases_lt i width) [
      | inl low ↦ let e = get_or-take width (drop at page) i 0 low ∙ get_or-drop at page i 0 in omega (arith, e, bytes (at + i))
      | inr high ↦ let e = get_or_past (take width (drop at page)) i 0 (omega (arith, length-take {A = ℕ})) in omega (arith, e)
    ]

-- one of several blocks of one width
pub block_at : {X : Type 0} (f : X → List ℕ) (width : ℕ) (xs : List X) (pre post : List ℕ) (at i : ℕ) (d : X)
    → Each (λ x. length (f x) ≡ width) xs → length pre ≡ at → i < length xs → part (at + width * i) width (pre ++ (flat_map f xs ++ post)) ≡ f (get_or xs i d)
block_at f width [] pre post at i d each before low = absurd (omega arith)
block_at f width (x ∷ xs) pre post at zero d each before low =
    ap (λ (n : ℕ). part n width (pre ++ ((f x ++ flat_map f xs) ++ post))) (omega arith)
    ∙ ap (λ (ys : List ℕ). part at width (pre ++ ys)) (append_assoc (f x) (flat_map f xs) post)
    ∙ part_middle at width pre (f x) (flat_map f xs ++ post) before each.0
block_at f width (x ∷ xs) pre post at (suc i) d each before low =
    let place : at + width * suc i ≡ at + width + width * i = omega (arith, mul-suc width i) in
    ap (λ (n : ℕ). part n width (pre ++ ((f x ++ flat_map f xs) ++ post))) place
    ∙ ap (part (at + width + width * i) width) (ap (λ (ys : List ℕ). pre ++ ys) (append_assoc (f x) (flat_map f xs) post) ∙ sym (append_assoc pre (f x) (flat_map f xs ++ post)))
    ∙ block_at f width xs (pre ++ f x) post (at + width) i d each.1 (omega (arith, length-append {A = ℕ}, each.0)) (omega arith)

-- a number is read from its bytes
pub number_reads : (width at x : ℕ) (page : List ℕ) → part at width page ≡ big_bytes width x → x < 256 ^ width → number_at width at page ≡ x
unfolding number_at
number_reads width at x page is fits =
    ap (big_number width) (is ∙ sym (append-nil (big_bytes width x))) ∙ big_number-reads_back width x [] fits

-- a number of some bytes is small
pub number_fits : (width at : ℕ) (page : List ℕ) → ((i : ℕ) → slice_index page i < 256) → number_at width at page < 256 ^ width
unfolding number_at
number_fits width at page bytes = big_from-lt 0 width (part at width page) (part_bytes at width page bytes)

-- a list read element by element
pub read_all : {X : Type 0} (f : ℕ → X) (xs : List X) → ((i : ℕ) (d : X) → i < length xs → f i ≡ get_or xs i d) → map f (range_with_len 0 (length xs)) ≡ xs
read_all f [] at = refl
read_all f (x ∷ xs) at = sym (fill_by_all f (x ∷ xs) (suc (length xs)) x refl (λ i low. sym (at i x low)))

-- one element more is read
pub read_more : {X : Type 0} (f : ℕ → X) (n : ℕ) (xs ys : List X) (x : X) → xs ≡ map f (range_with_len 0 n) → ys ≡ xs ++ x ∷ [] → x ≡ f n → ys ≡ map f (range_with_len 0 (n + 1))
read_more f n xs ys x is more one =
    more ∙ ap (λ zs. zs ++ x ∷ []) is ∙ ap (λ z. map f (range_with_len 0 n) ++ z ∷ []) one ∙ sym (map-range_with_len_more f 0 n n (omega arith))
