-- The free numbers of pages are the numbers of the set that they are made of.
use Rattle.std.proofs.Common.{◌≡◌, ◌≢◌, ℕ, ◌+◌, ◌<◌, ◌≤◌, Bool, true, false, eqb, ◌||◌, List, [], ◌∷◌, length, map, Option, Some, None, IsSome, refl, sym, ap, ◌∙◌, ◌⊎◌, is_some, slice_get, subst, inl, inr, ⊎_elim, arith, zero, suc}
use Rattle.std.specs.List.{range_with_len, AllByRecursion}
use Rattle.std.specs.List.Sorted.{IsStrictlySortedBy}
use Rattle.std.specs.Ordering.{nat_cmp}
use Rattle.std.specs.BTreeMap.{is_at}
use Rattle.std.specs.declared.cmp.Ordering.TheVariants.{Less}
use Rattle.std.proofs.lemmas.Option.{slice_get-get_or}
use Rattle.std.proofs.lemmas.Map.Keys.{sorted_head, sorted_tail}
use Rattle.std.proofs.lemmas.Bool.{cases_lt, cases_eq, false≢true}
use Rattle.std.proofs.lemmas.Bool.Decides.{nat_tests}
use Rattle.page_store.specs.PageMap.{at}
use Rattle.page_store.specs.FreeNumbers.{free_from, free_numbers, nth_or_above, candidate}
use Rattle.page_store.specs.Overlaid.{is_among, or_else, page_at, pages_of, ArePages}
use Rattle.page_store.proofs.NewestPageLemmas.{hidden, shown, length-pages_of}

-- two tests of numbers are one
pub same_number : (n k : ℕ) → is_at (nat_cmp n) k ≡ eqb n k
same_number n k = grind (arith, nat_tests)

-- what compares as less is less
pub below_from_less : (n k : ℕ) → nat_cmp n k ≡ Less → n < k
below_from_less n k is = ⊎_elim (λ (below : n < k). below) (λ (past : k ≤ n). grind (arith, nat_tests)) (cases_lt n k)

-- whether a list with one more number in front has n
pub among_cons : (k : ℕ) (ks : List ℕ) (n : ℕ) → is_among (k ∷ ks) n ≡ (eqb n k || is_among ks n)
among_cons k ks n = ap (λ b. b || is_among ks n) (same_number n k)

-- a number among greater ones is greater
pub among_above : (k : ℕ) (ks : List ℕ) (n : ℕ) → AllByRecursion (λ y. nat_cmp k y ≡ Less) ks → is_among ks n ≡ true → k < n
among_above k [] n above e = absurd (cc)
among_above k (y ∷ ks) n above e =
    ⊎_elim (λ (same : n ≡ y). let lt = below_from_less k y above.0 in omega arith)
    (λ (other : n ≢ y). let f : eqb n y ≡ false = grind (arith, nat_tests) in
    let g : is_among ks n ≡ true = sym (rw (among_cons y ks n, f) refl) ∙ e in among_above k ks n above.1 g)
    (cases_eq n y)

-- a list without numbers
pub none_among : (lo : ℕ) (ks : List ℕ) → ((n : ℕ) → is_among ks n ≡ true → (lo ≤ n) × (n < lo + 0)) → ks ≡ []
none_among lo [] bounds = refl
none_among lo (k ∷ ks) bounds =
    let e : eqb k k ≡ true = grind (arith, nat_tests) in
    let here = bounds k (among_cons k ks k ∙ ap (λ b. b || is_among ks k) e) in
    absurd (omega (arith, here))

-- ascending numbers that begin at lo or above: either lo stands first or it isn't there
record Begins (lo m : ℕ) (ks : List ℕ) : Type 0 where
  ascends : IsStrictlySortedBy nat_cmp ks
  bounds : (n : ℕ) → is_among ks n ≡ true → (lo ≤ n) × (n < lo + m)

behind_first : (lo m k : ℕ) (ks : List ℕ) → Begins lo (suc m) (k ∷ ks) → k ≡ lo → Begins (lo + 1) m ks
behind_first lo m k ks begins first = record {
  ascends = sorted_tail nat_cmp k ks begins.ascends;
  bounds = λ n e.
      let above = among_above k ks n (sorted_head nat_cmp k ks begins.ascends) e in
      let all : is_among (k ∷ ks) n ≡ true = grind (arith, nat_tests, among_cons k ks n) in
      let within = begins.bounds n all in
      (omega arith, omega (arith, within));
}

past_first : (lo m : ℕ) (ks : List ℕ) → Begins lo (suc m) ks → is_among ks lo ≡ false → Begins (lo + 1) m ks
past_first lo m ks begins gone = record {
  ascends = begins.ascends;
  bounds = λ n e.
      let within = begins.bounds n e in
      ⊎_elim (λ (same : n ≡ lo). absurd (false≢true (sym gone ∙ ap (is_among ks) (sym same) ∙ e)))
      (λ (other : n ≢ lo). (omega (arith, within), omega (arith, within)))
      (cases_eq n lo);
}

first_is : (lo m k : ℕ) (ks : List ℕ) → Begins lo (suc m) (k ∷ ks) → is_among (k ∷ ks) lo ≡ true → k ≡ lo
first_is lo m k ks begins e =
    ⊎_elim (λ (same : lo ≡ k). sym same)
    (λ (other : lo ≢ k).
    let f : eqb lo k ≡ false = grind (arith, nat_tests) in
    let g : is_among ks lo ≡ true = sym (rw (among_cons k ks lo, f) refl) ∙ e in
    let above = among_above k ks lo (sorted_head nat_cmp k ks begins.ascends) g in
    let h : eqb k k ≡ true = grind (arith, nat_tests) in
    let here = begins.bounds k (among_cons k ks k ∙ ap (λ b. b || is_among ks k) h) in
    absurd (omega (arith, here)))
    (cases_eq lo k)

-- f has no value exactly at the numbers of ks
record Misses (f : ℕ → Option (List ℕ)) (lo m : ℕ) (ks : List ℕ) : Type 0 where
  none : (n : ℕ) → lo ≤ n → n < lo + m → is_among ks n ≡ true → f n ≡ None
  some : (n : ℕ) → lo ≤ n → n < lo + m → is_among ks n ≡ false → IsSome (f n)

free_from_step : (m lo : ℕ) (f : ℕ → Option (List ℕ)) (ks : List ℕ) (o : Option (List ℕ)) (b : Bool) → ((ks' : List ℕ) → Begins (lo + 1) m ks' → Misses f (lo + 1) m ks' → free_from (lo + 1) (map f (range_with_len (lo + 1) m)) ≡ ks') → f lo ≡ o → is_among ks lo ≡ b → Begins lo (suc m) ks → Misses f lo (suc m) ks → free_from lo (o ∷ map f (range_with_len (lo + 1) m)) ≡ ks
free_from_step m lo f ks None false later e here begins misses =
    let some = misses.some lo (omega arith) (omega arith) here in
    let never : IsSome {T = List ℕ} None = subst IsSome e some in absurd (cc)
free_from_step m lo f ks (Some page) true later e here begins misses =
    let none = misses.none lo (omega arith) (omega arith) here in absurd (cc)
free_from_step m lo f ks (Some page) false later e here begins misses =
    later ks (past_first lo m ks begins here) (record {
      none = λ n above below. misses.none n (omega arith) (omega arith);
      some = λ n above below. misses.some n (omega arith) (omega arith);
    })
free_from_step m lo f [] None true later e here begins misses = absurd (cc)
free_from_step m lo f (k ∷ ks) None true later e here begins misses =
    let first = first_is lo m k ks begins here in
    let rest = later ks (behind_first lo m k ks begins first) (record {
      none = λ n above below at. misses.none n (omega arith) (omega arith) (grind (arith, nat_tests, among_cons k ks n));
      some = λ n above below gone. misses.some n (omega arith) (omega arith) (grind (arith, nat_tests, among_cons k ks n));
    }) in
    ap (λ n. n ∷ free_from (lo + 1) (map f (range_with_len (lo + 1) m))) (sym first) ∙ ap (λ (xs : List ℕ). k ∷ xs) rest

free_from_of : (m lo : ℕ) (f : ℕ → Option (List ℕ)) (ks : List ℕ) → Begins lo m ks → Misses f lo m ks → free_from lo (map f (range_with_len lo m)) ≡ ks
free_from_of zero lo f ks begins misses = sym (none_among lo ks begins.bounds)
free_from_of (suc m) lo f ks begins misses =
    free_from_step m lo f ks (f lo) (is_among ks lo) (λ ks' b s. free_from_of m (lo + 1) f ks' b s) refl refl begins misses

-- a page in use has bytes
or_else_some : (slot other : Option (List ℕ)) → (IsSome slot) ⊎ (IsSome other) → IsSome (or_else slot other)
or_else_some (Some page) other h = refl
or_else_some None other (inl h) = absurd (false≢true h)
or_else_some None other (inr h) = h

-- a page in use has bytes
pub bytes_of_used : (stored : List (List ℕ)) (slots : List (Option (List ℕ))) (free : List ℕ) (count n : ℕ) (changed : Bool) → ArePages stored slots free count changed → 1 ≤ n → n < count → is_among free n ≡ false → IsSome (page_at stored slots free n)
bytes_of_used stored slots free count n changed are above below used =
    let there : (IsSome (at slots n)) ⊎ (IsSome (slice_get stored n)) = ⊎_elim
    (λ (kept : n < length stored). inr (ap is_some (slice_get-get_or stored n [] kept)))
    (λ (past : length stored ≤ n). inl (are.there n above below used past))
    (cases_lt n (length stored)) in
    subst IsSome (sym (shown stored slots free n (omega arith) used)) (or_else_some (at slots n) (slice_get stored n) there)

-- the free numbers are those of the set
pub free_numbers_of : (stored : List (List ℕ)) (slots : List (Option (List ℕ))) (free : List ℕ) (count : ℕ) (changed : Bool) → ArePages stored slots free count changed → IsStrictlySortedBy nat_cmp free → free_numbers (pages_of stored slots free count) ≡ free
unfolding pages_of
free_numbers_of stored slots free zero changed are ascends = let some = are.some in absurd (omega arith)
free_numbers_of stored slots free (suc m) changed are ascends =
    free_from_of m 1 (page_at stored slots free) free
    (record { ascends = ascends; bounds = λ n e. let fits = are.free_fits n e in (omega arith, omega (arith, fits)) })
    (record {
      none = λ n above below here. hidden stored slots free n (λ h. let used = h.1 in false≢true (sym used ∙ here));
      some = λ n above below used. bytes_of_used stored slots free (suc m) n changed are above (omega arith) used;
    })

-- there are no more free numbers than pages
length-free_from : (n : ℕ) (pages : List (Option (List ℕ))) → length (free_from n pages) ≤ length pages
length-free_from n [] = omega arith
length-free_from n (None ∷ pages) = omega (arith, length-free_from (n + 1) pages)
length-free_from n (Some page ∷ pages) = omega (arith, length-free_from (n + 1) pages)

-- there are no more free numbers than pages
pub length-free_numbers : (pages : List (Option (List ℕ))) → length (free_numbers pages) ≤ length pages
length-free_numbers [] = omega arith
length-free_numbers (page ∷ pages) = omega (arith, length-free_from 1 pages)

-- the candidates are those of the set and the count
pub candidate_of : (stored : List (List ℕ)) (slots : List (Option (List ℕ))) (free : List ℕ) (count : ℕ) (changed : Bool) (i : ℕ) → ArePages stored slots free count changed → IsStrictlySortedBy nat_cmp free → candidate (pages_of stored slots free count) i ≡ nth_or_above free count i
candidate_of stored slots free count changed i are ascends =
    ap (λ (numbers : List ℕ). nth_or_above numbers (length (pages_of stored slots free count)) i) (free_numbers_of stored slots free count changed are ascends)
    ∙ ap (λ (n : ℕ). nth_or_above free n i) (length-pages_of stored slots free count)
