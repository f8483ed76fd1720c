-- Sorted pairs, and the room of a table.
use Rattle.std.proofs.Common.{◌≡◌, ℕ, ◌+◌, ◌≤◌, Bool, true, false, if◌then◌else◌, ◌&&◌, T, List, [], ◌∷◌, Option, Some, None, is_some, is_none, nat_le, refl, sym, ap, subst, ◌∙◌, arith}
use Rattle.std.proofs.lemmas.Bool.Decides.{nat_tests}
use Rattle.std.specs.Map.{keys_of}
use Rattle.std.specs.List.Sorted.{IsStrictlySortedBy}
use Rattle.std.specs.List.{AllByRecursion}
use Rattle.std.specs.Ordering.{nat_cmp, is_lt}
use Rattle.std.specs.declared.cmp.Ordering.TheVariants.{Less}
use Rattle.std.specs.Cmp.Lexicographic.{slice_cmp}
use Rattle.std.specs.FinMap.Entries.{below_all}
use Rattle.rec_types.specs.Sorted.{Pairs, is_sorted}

both : (a b : Bool) → T a → T b → T (a && b)
both true b p q = q
both false b p q = p

below : (k : List ℕ) (es : Pairs) → AllByRecursion (λ y. slice_cmp nat_cmp k y ≡ Less) (keys_of es) → T (below_all (slice_cmp nat_cmp) k es)
below k [] all = tt
below k (e ∷ es) all = both (is_lt (slice_cmp nat_cmp k e.0)) (below_all (slice_cmp nat_cmp) k es) (subst T (sym (ap is_lt all.0)) tt) (below k es all.1)

-- keys that the library calls strictly sorted are sorted pairs
pub sorted_of : (es : Pairs) → IsStrictlySortedBy (slice_cmp nat_cmp) (keys_of es) → is_sorted es
unfolding IsStrictlySortedBy
sorted_of [] rises = tt
sorted_of (e ∷ es) rises = both (below_all (slice_cmp nat_cmp) e.0 es) _ (below e.0 es rises.0) (sorted_of es rises.1)

-- nothing isn't something
pub none_not_some : (o : Option (List ℕ)) → o ≡ None → is_some o ≡ true → false ≡ true
none_not_some o none some = sym (ap (λ (x : Option (List ℕ)). is_some x) none) ∙ some

-- room

-- a map that lost a key is within the limit that it was within
pub fewer : (b : Bool) (n m limit : ℕ) → n + (if b then 1 else 0) ≡ m → m ≤ limit → n ≤ limit
fewer true n m limit is le = omega (arith, is, le)
fewer false n m limit is le = omega (arith, is, le)

-- a table that isn't full for a key is within its limit after a put there
pub fits : (limit old new : ℕ) (o : Option (List ℕ)) → new ≡ old + (if is_some o then 0 else 1) → nat_le limit old && is_none o ≡ false → old ≤ limit → new ≤ limit
fits limit old new None is full le = at (nat_le limit old) refl full
  where
    at : (b : Bool) → nat_le limit old ≡ b → b && true ≡ false → new ≤ limit
    at true reached full = absurd (cc)
    at false below full = grind (arith, nat_tests, is, below)
fits limit old new (Some r) is full le = omega (arith, is, le)

-- a table that is at its limit is full for an absent key
pub not_full : (limit count : ℕ) (o : Option (List ℕ)) → nat_le limit count && is_none o ≡ false → o ≡ None → limit ≤ count → false ≡ true
not_full limit count None full none le = sym full ∙ both_true (nat_le limit count) (reached limit count le)
  where
    reached : (a b : ℕ) → a ≤ b → nat_le a b ≡ true
    reached a b le = grind (arith, nat_tests)

    both_true : (b : Bool) → b ≡ true → b && true ≡ true
    both_true true is = refl
    both_true false is = is
not_full limit count (Some r) full none le = absurd (cc)

-- a table is full for a key where the key is absent and the limit is reached
pub is_full : (limit count : ℕ) (o : Option (List ℕ)) → nat_le limit count && is_none o ≡ true → (o ≡ None) × (limit ≤ count)
is_full limit count None full = (refl, at (nat_le limit count) refl full)
  where
    at : (b : Bool) → nat_le limit count ≡ b → b && true ≡ true → limit ≤ count
    at true reached full = grind (arith, nat_tests, reached)
    at false below full = absurd (cc)
is_full limit count (Some r) full = at (nat_le limit count) full
  where
    at : (b : Bool) → b && false ≡ true → (Some r ≡ None) × (limit ≤ count)
    at true full = absurd (cc)
    at false full = absurd (cc)
