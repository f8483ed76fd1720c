-- Where a key stands, and what is written there.
use Rattle.std.proofs.Common.{◌≡◌, ℕ, ◌+◌, zero, suc, Bool, true, false, not, cond, List, [], ◌∷◌, slice_get, Option, Some, None, IfSome, eq-eqb, refl, sym, ap, subst, ◌∙◌, arith}
use Rattle.std.specs.Cmp.{IsEquivalence}
use Rattle.std.proofs.lemmas.Cmp.{nat_eq_equiv, lists_equiv}
use Rattle.std.specs.List.{position_or_len}
use Rattle.std.specs.Map.{lookup_key, keys_of, values_of}
use Rattle.indexmap.specs.IndexMap.{IndexMap, insert_entry, insert_index, with_value_at, IsUnique, Updates}
use Rattle.indexmap.proofs.CallerLemmas.{updates-with_value_at}
use Rattle.tx_log.proofs.HoldingLemmas.{same_bytes-key}
use Rattle.tx_log.specs.Holdings.{holdings_in, same_bytes, Places, HeldAt, busy}
use Rattle.tx_log.specs.declared.holding.Holding.{Holding}
use Rattle.rec_types.proofs.ContentsLemmas.{same_key-is}

-- the test of keys is an equivalence
pub same_bytes-equiv : IsEquivalence same_bytes
same_bytes-equiv = lists_equiv nat_eq_equiv

-- keys that it tells to be the same are equal
pub same_bytes-is : (a b : List ℕ) → same_bytes a b ≡ true → a ≡ b
same_bytes-is a b e = same_key-is a b (sym (same_bytes-key a b) ∙ e)

key_case : (k x y : List ℕ) (o : Option (List ℕ)) → (o ≡ Some y → y ≡ k) → (b : Bool) → same_bytes k x ≡ b → cond b (Some x) o ≡ Some y → y ≡ k
key_case k x y o step true f h = let same : x ≡ y = cc in sym same ∙ sym (same_bytes-is k x f)
key_case k x y o step false f h = step h

-- the key that is found is the one looked for
pub found_key : (k : List ℕ) (es : List (List ℕ × Holding)) (y : List ℕ) → lookup_key (same_bytes k) es ≡ Some y → y ≡ k
found_key k [] y h = absurd (cc)
found_key k (e ∷ es) y h = key_case k e.0 y (lookup_key (same_bytes k) es) (found_key k es y) (same_bytes k e.0) refl h

-- where a key stands in the map
pub held_at : {S : Type 0} (m : IndexMap (List ℕ) Holding S) (k : List ℕ) (i : ℕ) (y : List ℕ) (h : Holding) → IsUnique same_bytes m → slice_get m.entries i ≡ Some (y, h) → lookup_key (same_bytes k) m.entries ≡ Some y → Some h ≡ holdings_in m k → HeldAt m k i
held_at m k i y h unique at key value = record {
  hold = h;
  entry = at ∙ ap (λ (x : List ℕ). Some (x, h)) (found_key k m.entries y key);
  there = sym value;
  unique = unique;
}

value_there : (es : List (List ℕ × Holding)) (i : ℕ) (k : List ℕ) (h d : Holding) → slice_get es i ≡ Some (k, h) → slice_get (values_of es) i ≡ Some d → d ≡ h
value_there [] i k h d at value = absurd (cc)
value_there (x ∷ es) zero k h d at value = let same : x ≡ (k, h) = cc in let here : x.1 ≡ d = cc in sym here ∙ ap (λ (y : List ℕ × Holding). y.1) same
value_there (x ∷ es) (suc i) k h d at value = value_there es i k h d at value

inserted_case : (k x : List ℕ) (v w : Holding) (es rest : List (List ℕ × Holding)) (n : ℕ) → slice_get rest n ≡ Some (k, w) → (b : Bool) → same_bytes k x ≡ b → slice_get (cond b ((x, w) ∷ es) ((x, v) ∷ rest)) (cond (not b) (1 + n) 0) ≡ Some (k, w)
inserted_case k x v w es rest n there true f = ap (λ (y : List ℕ). Some (y, w)) (sym (same_bytes-is k x f))
inserted_case k x v w es rest n there false f = ap (slice_get ((x, v) ∷ rest)) (one_more n) ∙ there
  where
    one_more : (a : ℕ) → 1 + a ≡ suc a
    one_more a = omega arith

-- a key that is put in stands where it is told
inserted_there : (es : List (List ℕ × Holding)) (k : List ℕ) (w : Holding) → slice_get (insert_entry same_bytes es k w) (position_or_len (same_bytes k) (keys_of es)) ≡ Some (k, w)
inserted_there [] k w = refl
inserted_there (e ∷ es) k w = inserted_case k e.0 e.1 w es (insert_entry same_bytes es k w) (position_or_len (same_bytes k) (keys_of es)) (inserted_there es k w) (same_bytes k e.0) refl

-- and is held there
pub held_new : {S : Type 0} (m n : IndexMap (List ℕ) Holding S) (k : List ℕ) (i : ℕ) (w : Holding) → i ≡ insert_index same_bytes m k → Updates same_bytes m n k (Some w) → n.entries ≡ insert_entry same_bytes m.entries k w → IsUnique same_bytes n → HeldAt n k i
held_new m n k i w at updates entries unique = record {
  hold = w;
  entry = (λ j. slice_get (entries j) (at j)) ∙ inserted_there m.entries k w;
  there = updates.0 k ∙ ap (λ (b : Bool). cond b (Some w) (holdings_in m k)) (same_bytes-equiv.refl k);
  unique = unique;
}

-- in the same map it stands in the same place
pub held_same : {S : Type 0} (m n : IndexMap (List ℕ) Holding S) (k : List ℕ) (i : ℕ) → m ≡ n → HeldAt n k i → HeldAt m k i
held_same m n k i same stands = subst (λ (x : IndexMap (List ℕ) Holding _). HeldAt x k i) (sym same) stands

-- what is read at the place is what is kept of the key
pub key_read : {S : Type 0} (m : IndexMap (List ℕ) Holding S) (k : List ℕ) (i : ℕ) (d : Holding) → HeldAt m k i → slice_get (values_of m.entries) i ≡ Some d → holdings_in m k ≡ Some d
key_read m k i d s value = s.there ∙ ap Some (sym (value_there m.entries i k s.hold d s.entry value))

-- what is written there is the key's
pub key_write : {S : Type 0} (m : IndexMap (List ℕ) Holding S) (k : List ℕ) (i : ℕ) (w : Holding) → HeldAt m k i → Places (holdings_in m) (holdings_in (with_value_at m i w)) k (Some w)
key_write m k i w s = (updates-with_value_at m i w same_bytes-equiv s.unique k s.hold s.entry).0

-- a key without a live change is taken out
pub idle_taken : {S : Type 0} (m n : IndexMap (List ℕ) Holding S) (k y : List ℕ) (i j : ℕ) (h : Holding) (r : Option (List ℕ × Holding)) → slice_get m.entries i ≡ Some (y, h) → i ≡ j → Some y ≡ lookup_key (same_bytes k) m.entries → Some h ≡ holdings_in m k → h.live ≡ 0 → r ≡ slice_get m.entries j → IfSome r (λ p. Updates same_bytes m n p.0 None) → Places (holdings_in m) (holdings_in n) k (busy (holdings_in m k))
idle_taken m n k y i j h r at places key value none taken updates =
    let there : r ≡ Some (y, h) = taken ∙ ap (slice_get m.entries) (sym places) ∙ at in
    let out : Updates same_bytes m n y None = subst (λ (o : Option (List ℕ × Holding)). IfSome o (λ p. Updates same_bytes m n p.0 None)) there updates in
    let gone : busy (holdings_in m k) ≡ None = ap busy (sym value) ∙ ap (λ (b : Bool). cond b None (Some h)) (eq-eqb h.live 0 none) in
    λ q. out.0 q
    ∙ ap (λ (x : List ℕ). cond (same_bytes x q) None (holdings_in m q)) (found_key k m.entries y (sym key))
    ∙ ap (λ (o : Option Holding). cond (same_bytes k q) o (holdings_in m q)) (sym gone)

-- a key is taken out of the map by its place
pub taken_there : {S : Type 0} (m n : IndexMap (List ℕ) Holding S) (k : List ℕ) (i : ℕ) (r : Option (List ℕ × Holding)) → (s : HeldAt m k i) → r ≡ slice_get m.entries i → IfSome r (λ p. Updates same_bytes m n p.0 None) → Places (holdings_in m) (holdings_in n) k None
taken_there m n k i r s taken updates = (subst (λ (o : Option (List ℕ × Holding)). IfSome o (λ p. Updates same_bytes m n p.0 None)) (taken ∙ s.entry) updates).0
