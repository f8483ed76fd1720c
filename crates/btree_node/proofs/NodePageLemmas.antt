-- A page whose places and sons are tested one after another.
use Rattle.std.proofs.Common.{◌≡◌, ℕ, ◌+◌, ◌-◌, ◌<◌, ◌≤◌, List, [], ◌∷◌, ◌++◌, length, get_or, take, slice_index, subst, refl, ap, sym, ◌∙◌, arith, inl, inr}
use Rattle.std.specs.List.{All}
use Rattle.std.proofs.lemmas.Bool.{cases_lt}
use Rattle.std.proofs.lemmas.List.Elements.{All-push}
use Rattle.std.proofs.lemmas.List.FromFn.{length-map-range_with_len, get_or-map-range_with_len, map-range_with_len_more}
use Rattle.btree_node.specs.Layout.{second_layout}
use Rattle.btree_node.specs.Lists.{Element, Below, Ascends}
use Rattle.btree_node.specs.Reading.{part, place_at, element_in, elements_at, son_at, sons_at, sons_of_kind, IsGoodPlace}
use Rattle.btree_node.specs.declared.node.NodeKind.{NodeKind}
use Rattle.btree_node.proofs.ElementOrderLemmas.{ascends_first, ascends_last}
use Rattle.btree_node.proofs.QuickPassLemmas.{element_is}

-- what is known after the first places were tested, where a key was the last
pub record Tested (page last : List ℕ) (i : ℕ) : Type 0 where
  pub ascends : Ascends (elements_at second_layout page i)
  pub last_is : 0 < i → (d : Element) → last ≡ (get_or (elements_at second_layout page i) (i - 1) d).0
  pub good : (j : ℕ) → j < i → IsGoodPlace (place_at second_layout page j)

-- before the first
pub tested_none : (page last : List ℕ) → Tested page last 0
unfolding elements_at
tested_none page last = record {
  ascends = tt;
  last_is = λ some d. absurd (omega (arith, some));
  good = λ j low. absurd (omega (arith, low));
}

-- one good place more, whose key is above the last
pub tested_more : (page last key : List ℕ) (i : ℕ) → Tested page last i → IsGoodPlace (place_at second_layout page i) → key ≡ (element_in (place_at second_layout page i)).0 → (0 < i → Below last key) → Tested page key (i + 1)
unfolding elements_at
tested_more page last key i t good key_is above =
    let read = λ (n : ℕ). element_in (place_at second_layout page n) in
    let es = elements_at second_layout page i in
    let e = read i in
    let size : length es ≡ i = length-map-range_with_len read 0 i in
    let more : elements_at second_layout page (i + 1) ≡ es ++ e ∷ [] = map-range_with_len_more read 0 i i (omega arith) in
    record {
      ascends = subst Ascends (sym more) (elim (cases_lt 0 i) [
        | inl some ↦ ascends_last es i ([], []) e (omega (arith, some)) size t.ascends (subst (λ k. Below k e.0) (t.last_is some ([], [])) (subst (Below last) key_is (above some)))
        | inr none ↦ ascends_first es e (omega (arith, size, none))
      ]);
      last_is = λ some d. key_is ∙ ap (λ (x : Element). x.0) (sym (get_or-map-range_with_len read 0 (i + 1) (i + 1 - 1) i d (omega arith) (omega arith)));
      good = λ j low. elim (cases_lt j i) [
        | inl before ↦ t.good j before
        | inr here ↦ let same : i ≡ j = omega (arith, here, low) in subst (λ n. IsGoodPlace (place_at second_layout page n)) same good
      ];
    }

-- the key of a place
pub key_is : (place key_field key : List ℕ) (key_len : ℕ) → key_field ≡ part 1 16 place → key_len ≡ slice_index place 0 → key_len ≤ 16 → slice_index place 17 ≤ 100 → key ≡ take key_len key_field → key ≡ (element_in place).0
key_is place key_field key key_len field_is len_is short value_short read =
    ap (λ (x : Element). x.0) (element_is place key_field (part 18 100 place) key (take (slice_index place 17) (part 18 100 place)) key_len (slice_index place 17) field_is refl len_is refl short value_short read refl)

-- the sons are as many as are counted
pub sons_counted : (kind : NodeKind) (k : ℕ) (page : List ℕ) (count sons : ℕ) → sons_of_kind kind second_layout k page count ≡ sons_at second_layout k page sons → sons ≡ length (sons_of_kind kind second_layout k page count)
unfolding sons_at
sons_counted kind k page count sons is = sym (length-map-range_with_len (son_at second_layout k page) 0 sons) ∙ sym (ap length is)

-- one son more that is not 0
pub son_more : (k : ℕ) (page : List ℕ) (j x : ℕ) → All (λ son. 0 < son) (sons_at second_layout k page j) → x ≡ son_at second_layout k page j → 0 < x → All (λ son. 0 < son) (sons_at second_layout k page (j + 1))
unfolding sons_at
son_more k page j x so_far is some =
    let son = son_at second_layout k page in
    subst (All (λ s. 0 < s)) (sym (map-range_with_len_more son 0 j j (omega arith)))
    (All-push (λ s. 0 < s) (sons_at second_layout k page j) (son j) so_far (omega (arith, is, some)))
