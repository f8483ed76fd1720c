-- The places of the first keys, with one put among them.
use Rattle.std.proofs.Common.{◌≡◌, ℕ, zero, suc, ◌+◌, ◌-◌, ◌<◌, ◌≤◌, true, false, List, [], ◌∷◌, ◌++◌, All, IsSome, length, get_or, take, Option, Some, None, Result, Ok, Err, OnOk, length-append, refl, sym, ap, subst, ◌∙◌, arith, ◌⊎◌, inl, inr}
use Rattle.std.proofs.lemmas.Bool.{false≢true}
use Rattle.std.proofs.lemmas.List.{get_or-map, get_or-take, length-map, length-take-le, take_all, take-append-le}
use Rattle.std.proofs.lemmas.List.Edits.{length-insert, get_or-insert_at, get_or-insert_below, get_or-insert_above}
use Rattle.std.proofs.lemmas.List.FromFn.{length-range_with_len}
use Rattle.std.proofs.lemmas.List.Sorted.{length_permutation, IsPermutation-insert, IsPermutation-push_more}
use Rattle.std.specs.Cmp.Lexicographic.{slice_cmp, nat_list_cmp_total}
use Rattle.std.specs.List.{range_with_len, insert}
use Rattle.std.specs.List.Sorted.{IsPermutation}
use Rattle.std.specs.Ordering.{nat_cmp, is_lt, ordering_reverse}
use Rattle.std.specs.declared.cmp.Ordering.{Ordering}
use Rattle.std.specs.declared.cmp.Ordering.TheVariants.{Less, Equal, Greater}
use Rattle.rec_types.specs.KeyOrder.{key_at, IsOrderOf, IsOrderOfFirst}
use Rattle.rec_types.specs.Ordered.{is_key_below}
use Rattle.rec_types.proofs.KeyOrderLemmas.{within, one_more}

-- all keys have places
pub whole_order : (keys : List (List ℕ)) (places : List ℕ) → IsOrderOfFirst keys places → length places ≡ length keys → IsOrderOf keys places
whole_order keys places is all = subst (λ (ks : List (List ℕ)). IsOrderOf ks places) (take_all (length places) keys (omega (arith, all))) is.order

pub of_whole : (keys : List (List ℕ)) (places : List ℕ) → IsOrderOf keys places → IsOrderOfFirst keys places
of_whole keys places is =
    let size : length places ≡ length keys = length_permutation (range_with_len 0 (length keys)) places is.all ∙ length-range_with_len 0 (length keys) in
    record {
      few = omega (arith, size);
      order = subst (λ (ks : List (List ℕ)). IsOrderOf ks places) (sym (take_all (length places) keys (omega (arith, size)))) is;
    }

pub ok_whole : {E : Type 0} (answer : Result (Unit {0}) E) (keys : List (List ℕ)) (places : List ℕ) → OnOk answer (IsOrderOf keys places) → OnOk answer (IsOrderOfFirst keys places)
ok_whole (Ok done) keys places is = of_whole keys places is
ok_whole (Err fault) keys places is = tt

-- the places are those of keys
pub all_within : (keys : List (List ℕ)) (places : List ℕ) → IsOrderOfFirst keys places → All (λ place. place < length keys) places
all_within keys places is =
    let few = length-take-le (length places) keys is.few in
    λ k d below. omega (arith, within (length (take (length places) keys)) places is.order.all k d below, few, is.few)

-- a key more leaves the order of the first
pub first_stays : (keys new : List (List ℕ)) (places : List ℕ) (key : List ℕ) (before : Option (List ℕ)) → (IsSome before → new ≡ keys) → (before ≡ None → new ≡ keys ++ key ∷ []) → IsOrderOfFirst keys places → IsOrderOfFirst new places
first_stays keys new places key (Some r) stays more is = subst (λ (ks : List (List ℕ)). IsOrderOfFirst ks places) (sym (stays refl)) is
first_stays keys new places key None stays more is =
    subst (λ (ks : List (List ℕ)). IsOrderOfFirst ks places) (sym (more refl))
    (record {
      few = omega (arith, is.few, length-append keys (key ∷ []));
      order = subst (λ (ks : List (List ℕ)). IsOrderOf ks places) (sym (take-append-le (length places) keys (key ∷ []) is.few)) is.order;
    })

-- ---- a place put among the others

abbrev Three : ℕ → ℕ → Type 0
Three a b = (a < b) ⊎ ((a ≡ b) ⊎ (b < a))

three : (a b : ℕ) → Three a b
three zero zero = inr (inl refl)
three zero (suc b) = inl (omega arith)
three (suc a) zero = inr (inr (omega arith))
three (suc a) (suc b) = by (three a b)
  where
    by : Three a b → Three (suc a) (suc b)
    by (inl is) = inl (omega (arith, is))
    by (inr (inl is)) = inr (inl (ap suc is))
    by (inr (inr is)) = inr (inr (omega (arith, is)))

-- how two neighbours stand to a place
abbrev Cases : ℕ → ℕ → Type 0
Cases k at = (k + 1 < at) ⊎ ((k + 1 ≡ at) ⊎ ((k ≡ at) ⊎ (at < k)))

placed_by : (k at : ℕ) → Three k at → Three (k + 1) at → Cases k at
placed_by k at here (inl is) = inl is
placed_by k at here (inr (inl is)) = inr (inl is)
placed_by k at (inl is) (inr (inr over)) = absurd (omega (arith, is, over))
placed_by k at (inr (inl is)) (inr (inr over)) = inr (inr (inl is))
placed_by k at (inr (inr is)) (inr (inr over)) = inr (inr (inr is))

not_below : (o : Ordering) → is_lt o ≡ true → is_lt (ordering_reverse o) ≡ false
not_below Less is = refl
not_below Equal is = absurd (false≢true is)
not_below Greater is = absurd (false≢true is)

above_not : (x y : List ℕ) → is_key_below x y ≡ true → is_key_below y x ≡ false
above_not x y low = ap is_lt (nat_list_cmp_total.antisymm y x) ∙ not_below (slice_cmp nat_cmp x y) low

module _ (keys : List (List ℕ)) (places : List ℕ) (at : ℕ) (first : IsOrderOfFirst keys places) (more : length places < length keys) (low : at ≤ length places)
    (before : 0 < at → is_key_below (key_at keys (get_or places (at - 1) 0)) (key_at keys (length places)) ≡ true)
    (behind : at < length places → is_key_below (key_at keys (get_or places at 0)) (key_at keys (length places)) ≡ false) where
  abbrev after : List ℕ
  after = insert places at (length places)

  -- the key at a place of the first ones
  key_first : (n place : ℕ) → place < n → key_at (take n keys) place ≡ key_at keys place
  key_first n place below = get_or-take n keys place [] below

  size : length (take (length places) keys) ≡ length places
  size = length-take-le (length places) keys first.few

  known : All (λ place. place < length places) places
  known = within (length places) places (subst (λ (n : ℕ). IsPermutation (range_with_len 0 n) places) size first.order.all)

  moved : IsPermutation (range_with_len 0 (length places + 1)) after
  moved =
      subst (λ (xs : List ℕ). IsPermutation xs after) (sym (one_more (length places)))
      (IsPermutation-push_more (range_with_len 0 (length places)) places after (length places) (subst (λ (n : ℕ). IsPermutation (range_with_len 0 n) places) size first.order.all) (IsPermutation-insert places at (length places)))

  -- two old neighbours
  old : (k : ℕ) → k + 1 < length places → is_key_below (key_at keys (get_or places (k + 1) 0)) (key_at keys (get_or places k 0)) ≡ false
  old k next =
      let f = key_at (take (length places) keys) in
      let here : k < length places = omega (arith, next) in
      (λ i. is_key_below (sym (get_or-map f places (k + 1) 0 [] next ∙ key_first (length places) (get_or places (k + 1) 0) (known (k + 1) 0 next)) i) (sym (get_or-map f places k 0 [] here ∙ key_first (length places) (get_or places k 0) (known k 0 here)) i))
      ∙ first.order.sorted k [] (omega arith) (omega (arith, next, length-map places f))

  -- two neighbours, one of them new or both old
  new : (k : ℕ) → k + 1 < length places + 1 → is_key_below (key_at keys (get_or after (k + 1) 0)) (key_at keys (get_or after k 0)) ≡ false
  new k next = by (placed_by k at (three k at) (three (k + 1) at))
    where
      by : Cases k at → is_key_below (key_at keys (get_or after (k + 1) 0)) (key_at keys (get_or after k 0)) ≡ false
      by (inl under) =
          (λ i. is_key_below (key_at keys (get_or-insert_below places at (length places) 0 (k + 1) under low i)) (key_at keys (get_or-insert_below places at (length places) 0 k (omega (arith, under)) low i)))
          ∙ old k (omega (arith, under, low))
      by (inr (inl under)) =
          let is_at : k ≡ at - 1 = omega (arith, under) in
          (λ i. is_key_below (key_at keys ((ap (λ (n : ℕ). get_or after n 0) under ∙ get_or-insert_at places at (length places) 0 low) i)) (key_at keys ((get_or-insert_below places at (length places) 0 k (omega (arith, under)) low ∙ ap (λ (n : ℕ). get_or places n 0) is_at) i)))
          ∙ above_not (key_at keys (get_or places (at - 1) 0)) (key_at keys (length places)) (before (omega (arith, under)))
      by (inr (inr (inl here))) =
          (λ i. is_key_below (key_at keys ((get_or-insert_above places at (length places) 0 k (omega (arith, here)) low ∙ ap (λ (n : ℕ). get_or places n 0) here) i)) (key_at keys ((ap (λ (n : ℕ). get_or after n 0) here ∙ get_or-insert_at places at (length places) 0 low) i)))
          ∙ behind (omega (arith, here, next))
      by (inr (inr (inr over))) =
          let j = k - 1 in
          let one : k ≡ j + 1 = omega (arith, over) in
          (λ i. is_key_below (key_at keys ((get_or-insert_above places at (length places) 0 k (omega (arith, over)) low ∙ ap (λ (n : ℕ). get_or places n 0) one) i)) (key_at keys ((ap (λ (n : ℕ). get_or after n 0) one ∙ get_or-insert_above places at (length places) 0 j (omega (arith, over)) low) i)))
          ∙ old j (omega (arith, over, next))

  length_after : length after ≡ length places + 1
  length_after = length-insert places at (length places) low

  size_after : length (take (length after) keys) ≡ length after
  size_after = length-take-le (length after) keys (omega (arith, length_after, more))

  known_after : All (λ place. place < length after) after
  known_after = within (length after) after (subst (λ (n : ℕ). IsPermutation (range_with_len 0 n) after) (sym length_after) moved)

  pub placed : IsOrderOfFirst keys after
  placed = record {
    few = omega (arith, length_after, more);
    order = record {
      all = subst (λ (n : ℕ). IsPermutation (range_with_len 0 n) after) (sym length_after ∙ sym size_after) moved;
      sorted = λ k d _ next.
          let f = key_at (take (length after) keys) in
          let there : k + 1 < length after = omega (arith, next, length-map after f) in
          let here : k < length after = omega (arith, there) in
          (λ i. is_key_below ((get_or-map f after (k + 1) 0 d there ∙ key_first (length after) (get_or after (k + 1) 0) (known_after (k + 1) 0 there)) i) ((get_or-map f after k 0 d here ∙ key_first (length after) (get_or after k 0) (known_after k 0 here)) i))
          ∙ new k (omega (arith, there, length_after));
    };
  }
