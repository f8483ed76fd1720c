-- What the quick path knows of a place and of the rest of a page.
use Rattle.std.proofs.Common.{◌≡◌, ℕ, ◌+◌, ◌-◌, ◌*◌, ◌<◌, ◌≤◌, Some, IsSome, unwrap_or, List, [], ◌∷◌, length, get_or, take, drop, slice_index, slice_index_or, bit_or, subst, refl, ap, sym, ◌∙◌, arith}
use Rattle.std.proofs.lemmas.List.{get_or-drop, get_or-take, get_or_default, length-drop, take-take, take_all, take_more}
use Rattle.std.proofs.lemmas.Nat.{le_or_l, le_or_r}
use Rattle.rec_types.specs.Padded.{IsZeroFrom}
use Rattle.std.specs.List.{All}
use Rattle.btree_node.specs.Layout.{second_layout, place_width, place_start, sons_start}
use Rattle.btree_node.specs.Lists.{Ascends}
use Rattle.btree_node.specs.Reading.{part, kind_at, kind_read, count_at, place_at, key_length, record_length, element_in, elements_at, sons_of_kind, IsZero, IsGoodPlace, Passes, PassesBefore}
use Rattle.btree_node.specs.declared.node.NodeKind.{NodeKind}
use Rattle.btree_node.specs.declared.node.NodeKind.TheVariants.{Leaf}
use Rattle.btree_node.specs.declared.node.NodeFault.TheVariants.{NotZero}
use Rattle.btree_node.proofs.PagePartLemmas.{length-part}
use Rattle.btree_node.proofs.ElementOrderLemmas.{Each-append, Each_from}

-- a byte of a part
byte_of_part : (at width i d : ℕ) (bytes : List ℕ) → i < width → get_or (part at width bytes) i d ≡ get_or bytes (at + i) d
unfolding part
byte_of_part at width i d bytes low = get_or-take width (drop at bytes) i d low ∙ get_or-drop at bytes i d

-- a part that is zero from a place on
pub part_zero : (at width len : ℕ) (bytes : List ℕ) → at + width ≤ length bytes → len ≤ width → IsZeroFrom len (part at width bytes) → IsZero (part (at + len) (width - len) bytes)
part_zero at width len bytes within short zeros =
    Each_from (λ byte. byte ≡ 0) (part (at + len) (width - len) bytes)
    (λ i d low.
    let size = length-part (at + len) (width - len) bytes (omega (arith, within, short)) in
    let behind : i < width - len = omega (arith, low, size) in
    let same : at + (len + i) ≡ at + len + i = omega arith in
    let inside : at + len + i < length bytes = omega (arith, behind, within, short) in
    byte_of_part (at + len) (width - len) i d bytes behind
    ∙ get_or_default bytes (at + len + i) d 0 inside
    ∙ sym (byte_of_part at width (len + i) 0 bytes (omega (arith, behind)) ∙ ap (slice_index bytes) same)
    ∙ zeros (len + i) (omega arith))

-- a place whose two fields are a key and a record
pub good_place : (place key_field value_field : List ℕ) (key_len value_len : ℕ) → length place ≡ 118
    → key_field ≡ part 1 16 place → value_field ≡ part 18 100 place → key_len ≡ slice_index place 0 → value_len ≡ slice_index place 17
    → (0 < key_len) × (key_len ≤ 16) × IsZeroFrom key_len key_field → (value_len ≤ 100) × IsZeroFrom value_len value_field → IsGoodPlace place
unfolding key_length record_length
good_place place key_field value_field key_len value_len size key_is value_is k_is v_is key value = record {
  some = omega (arith, k_is, key.0);
  most = omega (arith, k_is, key.1);
  fits = omega (arith, v_is, value.0);
  behind_key = part_zero 1 16 (slice_index place 0) place (omega (arith, size)) (omega (arith, k_is, key.1)) (λ i low. ap (λ (bytes : List ℕ). slice_index bytes i) (sym key_is) ∙ key.2 i (omega (arith, k_is, low)));
  behind_record = part_zero 18 100 (slice_index place 17) place (omega (arith, size)) (omega (arith, v_is, value.0)) (λ i low. ap (λ (bytes : List ℕ). slice_index bytes i) (sym value_is) ∙ value.1 i (omega (arith, v_is, low)));
}

front_of_part : (at len width : ℕ) (bytes : List ℕ) → len ≤ width → take len (part at width bytes) ≡ part at len bytes
unfolding part
front_of_part at len width bytes short = take-take len width (drop at bytes) short

-- and its element
pub element_is : (place key_field value_field key value : List ℕ) (key_len value_len : ℕ)
    → key_field ≡ part 1 16 place → value_field ≡ part 18 100 place → key_len ≡ slice_index place 0 → value_len ≡ slice_index place 17
    → key_len ≤ 16 → value_len ≤ 100 → key ≡ take key_len key_field → value ≡ take value_len value_field → (key, value) ≡ element_in place
unfolding element_in
element_is place key_field value_field key value key_len value_len key_is value_is k_is v_is key_short value_short key_read value_read =
    let k = key_read ∙ ap (take key_len) key_is ∙ front_of_part 1 key_len 16 place key_short ∙ ap (λ (n : ℕ). part 1 n place) k_is in
    let v = value_read ∙ ap (take value_len) value_is ∙ front_of_part 18 value_len 100 place value_short ∙ ap (λ (n : ℕ). part 18 n place) v_is in
    λ i. (k i, v i)

-- one byte more of a loop that tests all bytes by one number
pub is_zero_more : (bytes : List ℕ) (i any : ℕ) → i < length bytes → (any ≡ 0 → IsZero (take i bytes)) → bit_or any (slice_index_or bytes i 0) ≡ 0 → IsZero (take (i + 1) bytes)
is_zero_more bytes i any low so_far none =
    let byte = get_or bytes i 0 in
    subst IsZero (sym (take_more bytes i 0 low))
    (Each-append (λ b. b ≡ 0) (take i bytes) (byte ∷ []) (so_far (omega (arith, le_or_l any byte, none))) (omega (arith, le_or_r any byte, none), tt))

-- what is behind a place, as a part
pub rest_part : (at width : ℕ) (bytes : List ℕ) → length bytes ≡ width → IsZero (part at (width - at) bytes) → IsZero (drop at bytes)
unfolding part
rest_part at width bytes size zero = subst IsZero (take_all (width - at) (drop at bytes) (omega (arith, size, length-drop {A = ℕ}))) zero

-- what the quick path finds of a page before it looks at the zeros of the rest
pub record Accepted (k : ℕ) (page : List ℕ) (kind : NodeKind) (count : ℕ) : Type 0 where
  pub kind_is : kind_at page ≡ Some kind
  pub count_is : count ≡ count_at page
  pub some : 0 < count
  pub most : count ≤ 2 * k
  pub good : (i : ℕ) → i < count → IsGoodPlace (place_at second_layout page i)
  pub ascends : Ascends (elements_at second_layout page count)
  pub sons : All (λ son. 0 < son) (sons_of_kind kind second_layout k page count)

kind_found : (k : ℕ) (page : List ℕ) (kind : NodeKind) (count : ℕ) → Accepted k page kind count → kind ≡ kind_read page
kind_found k page kind count a = ap (λ o. unwrap_or o Leaf) (sym a.kind_is)

-- a page that the quick pass accepts passes each test before the last
pub passes_before : (k : ℕ) (page : List ℕ) (kind : NodeKind) (count : ℕ) → Accepted k page kind count → PassesBefore second_layout k page NotZero
unfolding Passes
passes_before k page kind count a =
    let below = λ (i : ℕ) (low : i < count_at page). a.good i (omega (arith, low, a.count_is)) in (
      subst IsSome (sym a.kind_is) refl,
      (omega (arith, a.some, a.count_is), omega (arith, a.most, a.count_is)),
      record { some = λ i low. (below i low).some; most = λ i low. (below i low).most },
      record { most = λ i low. (below i low).fits },
      subst (λ n. Ascends (elements_at second_layout page n)) a.count_is a.ascends,
      subst (λ kind. All (λ son. 0 < son) (sons_of_kind kind second_layout k page (count_at page))) (kind_found k page kind count a)
          (subst (λ n. All (λ son. 0 < son) (sons_of_kind kind second_layout k page n)) a.count_is a.sons),
    )

-- and the last
pub passes_last : (k : ℕ) (page : List ℕ) (kind : NodeKind) (count sons : ℕ) → Accepted k page kind count → sons ≡ length (sons_of_kind kind second_layout k page count)
    → IsZero (part 1 1 page) → IsZero (part 4 4 page) → IsZero (part (place_start second_layout count) (place_width second_layout * (2 * k - count)) page) → IsZero (drop (sons_start second_layout k + 4 * sons) page)
    → Passes second_layout k page NotZero
unfolding Passes
passes_last k page kind count sons a sons_is second head places rest =
    let below = λ (i : ℕ) (low : i < count_at page). a.good i (omega (arith, low, a.count_is)) in
    let all_sons : sons ≡ length (sons_of_kind (kind_read page) second_layout k page (count_at page)) =
    sons_is ∙ ap (λ n. length (sons_of_kind kind second_layout k page n)) a.count_is ∙ ap (λ kind. length (sons_of_kind kind second_layout k page (count_at page))) (kind_found k page kind count a) in
    record {
      second = second;
      head = head;
      keys = λ i low. (below i low).behind_key;
      records = λ i low. (below i low).behind_record;
      places = subst (λ n. IsZero (part (place_start second_layout n) (place_width second_layout * (2 * k - n)) page)) a.count_is places;
      rest = subst (λ n. IsZero (drop (sons_start second_layout k + 4 * n) page)) all_sons rest;
    }
