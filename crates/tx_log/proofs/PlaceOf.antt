-- Where an open transaction stands, and what is written there.
use Rattle.std.proofs.Common.{◌≡◌, ℕ, zero, suc, Bool, true, false, cond, eqb, eq-eqb, List, [], ◌∷◌, slice_get, Option, Some, None, IfSome, option_map, refl, sym, ap, subst, ◌∙◌}
use Rattle.std.specs.Cmp.{IsEquivalence}
use Rattle.std.proofs.lemmas.Cmp.{nat_eq_equiv}
use Rattle.std.specs.Map.{lookup_key, values_of}
use Rattle.indexmap.specs.IndexMap.{IndexMap, with_value_at, IsUnique, Updates}
use Rattle.indexmap.proofs.CallerLemmas.{updates-with_value_at}
use Rattle.rec_types.specs.declared.transaction.TxId.{TxId}
use Rattle.tx_log.proofs.Chains.{same_number}
use Rattle.tx_log.specs.Finds.{finding, found, same_tx, PutsAt, StandsAt}
use Rattle.tx_log.specs.declared.open_tx.OpenTx.{OpenTx}

-- the test of transactions is an equivalence
pub same_tx-equiv : IsEquivalence same_tx
same_tx-equiv = record { refl = λ x. nat_eq_equiv.refl x.0; symm = λ x y. nat_eq_equiv.symm x.0 y.0; congr = λ x y z. nat_eq_equiv.congr x.0 y.0 z.0 }

key_case : (t : ℕ) (x k : TxId) (o : Option TxId) → (o ≡ Some k → k ≡ record { 0 = t }) → (b : Bool) → eqb t x.0 ≡ b → cond b (Some x) o ≡ Some k → k ≡ record { 0 = t }
key_case t x k o step true f h = let same : x ≡ k = cc in sym same ∙ (λ i. record { 0 = sym (same_number t x.0 f) i })
key_case t x k o step false f h = step h

found_key : (t : ℕ) (es : List (TxId × OpenTx)) (k : TxId) → lookup_key (λ (y : TxId). eqb t y.0) es ≡ Some k → k ≡ record { 0 = t }
found_key t [] k h = absurd (cc)
found_key t (e ∷ es) k h = key_case t e.0 k (lookup_key (λ (y : TxId). eqb t y.0) es) (found_key t es k) (eqb t e.0.0) refl h

-- where a transaction stands in the map
pub stands_at : {S : Type 0} (m : IndexMap TxId OpenTx S) (t i : ℕ) (k : TxId) (e : OpenTx) → IsUnique same_tx m → slice_get m.entries i ≡ Some (k, e) → lookup_key (λ (y : TxId). eqb t y.0) m.entries ≡ Some k → Some e ≡ found m t → StandsAt m t i
stands_at m t i k e unique at key value = record {
  tx = e;
  entry = at ∙ ap (λ (x : TxId). Some (x, e)) (found_key t m.entries k key);
  there = sym value;
  unique = unique;
}

-- the first in the map is found, if it has the number
pub first_found : (es : List (TxId × OpenTx)) (t : ℕ) (k : TxId) (e : OpenTx) → Some (k, e) ≡ slice_get es 0 → eqb k.0 t ≡ true → Some e ≡ finding es t
first_found [] t k e at same = absurd (cc)
first_found (x ∷ es) t k e at same =
    let head : (k, e) ≡ x = cc in
    let number : t ≡ x.0.0 = sym (same_number k.0 t same) ∙ ap (λ (y : TxId × OpenTx). y.0.0) head in
    ap (λ (y : TxId × OpenTx). Some y.1) head ∙ sym (ap (λ (b : Bool). cond b (Some x.1) (finding es t)) (eq-eqb t x.0.0 number))

-- and stands there
pub first_stands : {S : Type 0} (m : IndexMap TxId OpenTx S) (t : ℕ) (k : TxId) (e : OpenTx) → IsUnique same_tx m → Some (k, e) ≡ slice_get m.entries 0 → eqb k.0 t ≡ true → StandsAt m t 0
first_stands m t k e unique at same = record {
  tx = e;
  entry = sym at ∙ (λ i. Some (record { 0 = same_number k.0 t same i }, e));
  there = sym (first_found m.entries t k e at same);
  unique = unique;
}

-- what holds of an option's value
pub at_some : {A : Type 0} (P : A → Type 0) (o : Option A) (x : A) → o ≡ Some x → IfSome o P → P x
at_some P o x e h = subst (λ (u : Option _). IfSome u P) e h

-- an option's value, mapped
pub mapped_some : {A B : Type 0} (f : A → B) (o : Option A) (x : A) (k : Option B) → o ≡ Some x → option_map f o ≡ k → Some (f x) ≡ k
mapped_some f o x k e h = ap (option_map f) (sym e) ∙ h

value_there : (es : List (TxId × OpenTx)) (i : ℕ) (k : TxId) (e d : OpenTx) → slice_get es i ≡ Some (k, e) → slice_get (values_of es) i ≡ Some d → d ≡ e
value_there [] i k e d at value = absurd (cc)
value_there (x ∷ es) zero k e d at value = let same : x ≡ (k, e) = cc in let here : x.1 ≡ d = cc in sym here ∙ ap (λ (y : TxId × OpenTx). y.1) same
value_there (x ∷ es) (suc i) k e d at value = value_there es i k e d at value

-- what is read at the place is the transaction
pub read_at : {S : Type 0} (m : IndexMap TxId OpenTx S) (t i : ℕ) (d : OpenTx) → StandsAt m t i → slice_get (values_of m.entries) i ≡ Some d → found m t ≡ Some d
read_at m t i d s value = s.there ∙ ap Some (sym (value_there m.entries i (record { 0 = t }) s.tx d s.entry value))

-- what is written there is the transaction's
pub write_at : {S : Type 0} (m : IndexMap TxId OpenTx S) (t i : ℕ) (w : OpenTx) → StandsAt m t i → PutsAt (found m) (found (with_value_at m i w)) t (Some w)
write_at m t i w s = λ q. (updates-with_value_at m i w same_tx-equiv s.unique (record { 0 = t }) s.tx s.entry).0 (record { 0 = q })

-- what is taken out there is the transaction
pub taken_at : {S : Type 0} (m n : IndexMap TxId OpenTx S) (t i : ℕ) (p : TxId × OpenTx) → StandsAt m t i → slice_get m.entries i ≡ Some p → Updates same_tx m n p.0 None → (found m t ≡ Some p.1) × PutsAt (found m) (found n) t None
taken_at m n t i p s at updates =
    let same : (record { 0 = t }, s.tx) ≡ p = some_is (sym s.entry ∙ at) in
    (s.there ∙ ap (λ (x : TxId × OpenTx). Some x.1) same, λ q. updates.0 (record { 0 = q }) ∙ ap (λ (x : TxId × OpenTx). cond (eqb x.0.0 q) None (found m q)) (sym same))
  where
    some_is : {x y : TxId × OpenTx} → Some x ≡ Some y → x ≡ y
    some_is h = cc
