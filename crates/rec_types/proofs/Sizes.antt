-- How many keys contents have.
use Rattle.std.proofs.Common.{◌≡◌, ℕ, ◌+◌, ◌≤◌, ◌<◌, Bool, true, false, cond, ◌||◌, List, [], ◌∷◌, Option, Some, None, is_some, refl, sym, ap, subst, ◌∙◌, arith}
use Rattle.std.specs.FinMap.{get, len, entries, insert, from_entries, get-entries, get-from_entries, get-empty, len-empty, len-insert}
use Rattle.std.specs.Ordering.{nat_cmp}
use Rattle.std.specs.Cmp.Lexicographic.{slice_cmp, nat_list_cmp_total}
use Rattle.rec_types.specs.Contents.{Contents, set_to, same_key, has}
use Rattle.rec_types.proofs.ContentsLemmas.{get-set_to, same_contents, same_key-is, same_key-refl, set_to-twice, set_to-same}

-- which keys are there after one is set
pub has-set_to : (m : Contents) (k : List ℕ) (w : Option (List ℕ)) (q : List ℕ) → has (set_to m k w) q ≡ cond (same_key q k) (is_some w) (has m q)
has-set_to m k w q = ap is_some (get-set_to m k w q) ∙ at (same_key q k)
  where
    at : (b : Bool) → is_some (cond b w (get m q)) ≡ cond b (is_some w) (has m q)
    at true = refl
    at false = refl

-- the contents of their own entries
made_of : (m : Contents) → from_entries (entries m) ≡ m
made_of m = same_contents _ _ (λ q. get-from_entries nat_list_cmp_total (entries m) q ∙ sym (get-entries m q))

-- a record at a key that is there adds none
pub len_known : (m : Contents) (k v : List ℕ) → has m k ≡ true → len (insert m k v) ≡ len m
len_known m k v known = len-insert nat_list_cmp_total m k v ∙ ap (λ b. cond b (len m) (len m + 1)) known

-- a record at a new key adds one
pub len_new : (m : Contents) (k v : List ℕ) → has m k ≡ false → len (insert m k v) ≡ len m + 1
len_new m k v new = len-insert nat_list_cmp_total m k v ∙ ap (λ b. cond b (len m) (len m + 1)) new

-- taking out a key that is there
len_less : (m : Contents) (k : List ℕ) → has m k ≡ true → len (set_to m k None) + 1 ≡ len m
len_less m k known = at (get m k) refl known
  where
    gone : has (set_to m k None) k ≡ false
    gone = has-set_to m k None k ∙ ap (λ b. cond b false (has m k)) (same_key-refl k)

    at : (w : Option (List ℕ)) → get m k ≡ w → is_some w ≡ true → len (set_to m k None) + 1 ≡ len m
    at None is some = absurd (cc)
    at (Some r) is some = sym (len_new (set_to m k None) k r gone) ∙ ap len (set_to-twice m k None (Some r) ∙ set_to-same m k (Some r) (sym is))

-- the keys of the first are keys of the second
abbrev pub IsWithin : Contents → Contents → Type 0
IsWithin m n = (q : List ℕ) → has m q ≡ true → has n q ≡ true

within_entries : (es : List (List ℕ × List ℕ)) (n : Contents) → IsWithin (from_entries es) n → len (from_entries {R = slice_cmp nat_cmp} es) ≤ len n
within_entries [] n within = subst (λ (x : ℕ). x ≤ len n) (sym (len-empty (slice_cmp nat_cmp) (List ℕ))) (omega arith)
within_entries (e ∷ es) n within = at (has (from_entries es) e.0) refl (within_entries es n) (within_entries es (set_to n e.0 None))
  where
    rest : Contents
    rest = from_entries es

    here : has n e.0 ≡ true
    here = within e.0 (has-set_to rest e.0 (Some e.1) e.0 ∙ ap (λ b. cond b true (has rest e.0)) (same_key-refl e.0))

    still : (q : List ℕ) → has rest q ≡ true → has (set_to rest e.0 (Some e.1)) q ≡ true
    still q is = has-set_to rest e.0 (Some e.1) q ∙ ap (λ b. cond (same_key q e.0) true b) is ∙ either (same_key q e.0)
      where
        either : (b : Bool) → cond b true true ≡ true
        either true = refl
        either false = refl

    below : has rest e.0 ≡ false → IsWithin rest (set_to n e.0 None)
    below new q is = has-set_to n e.0 None q ∙ at_key (same_key q e.0) refl
      where
        at_key : (b : Bool) → same_key q e.0 ≡ b → cond b false (has n q) ≡ true
        at_key true same = absurd (cc (sym new ∙ ap (has rest) (sym (same_key-is q e.0 same)) ∙ is))
        at_key false apart = within q (still q is)

    at : (known : Bool) → has rest e.0 ≡ known → (IsWithin rest n → len rest ≤ len n) → (IsWithin rest (set_to n e.0 None) → len rest ≤ len (set_to n e.0 None)) → len (insert rest e.0 e.1) ≤ len n
    at true known fewer less = omega (arith, len_known rest e.0 e.1 known, fewer (λ q is. within q (still q is)))
    at false new fewer less = omega (arith, len_new rest e.0 e.1 new, less (below new), len_less n e.0 here)

-- contents whose keys are among others' have no more
pub len-within : (m n : Contents) → IsWithin m n → len m ≤ len n
len-within m n within = subst (λ (x : Contents). len x ≤ len n) (made_of m) (within_entries (entries m) n (subst (λ (x : Contents). IsWithin x n) (sym (made_of m)) within))

-- no key of either is one of the other, and together they are those of the third
pub record AreParts (a b c : Contents) : Type 0 where
  pub whole : (q : List ℕ) → has c q ≡ (has a q || has b q)
  pub apart : (q : List ℕ) → has a q ≡ true → has b q ≡ true → ⊥

same_size : (m n : Contents) → ((q : List ℕ) → has m q ≡ has n q) → len m ≤ len n
same_size m n same = len-within m n (λ q is. sym (same q) ∙ is)

parts_entries : (es : List (List ℕ × List ℕ)) (a c : Contents) → AreParts a (from_entries es) c → len c ≡ len a + len (from_entries {R = slice_cmp nat_cmp} es)
parts_entries [] a c parts =
    let none : (q : List ℕ) → has c q ≡ has a q = λ q. parts.whole q ∙ ap (λ w. has a q || is_some w) (get-empty (slice_cmp nat_cmp) q) ∙ or_false (has a q) in
    omega (arith, same_size c a none, same_size a c (λ q. sym (none q)), len-empty (slice_cmp nat_cmp) (List ℕ))
  where
    or_false : (b : Bool) → b || false ≡ b
    or_false true = refl
    or_false false = refl
parts_entries (e ∷ es) a c parts = at (has (from_entries es) e.0) refl (parts_entries es a c) (parts_entries es a (set_to c e.0 None))
  where
    rest : Contents
    rest = from_entries es

    more : (q : List ℕ) → has (set_to rest e.0 (Some e.1)) q ≡ cond (same_key q e.0) true (has rest q)
    more q = has-set_to rest e.0 (Some e.1) q

    known_parts : has rest e.0 ≡ true → AreParts a rest c
    known_parts known = record { whole = λ q. parts.whole q ∙ ap (λ b. has a q || b) (same q); apart = λ q in_a in_rest. parts.apart q in_a (same q ∙ in_rest) }
      where
        same : (q : List ℕ) → has (set_to rest e.0 (Some e.1)) q ≡ has rest q
        same q = more q ∙ at_key (same_key q e.0) refl
          where
            at_key : (b : Bool) → same_key q e.0 ≡ b → cond b true (has rest q) ≡ has rest q
            at_key true here = sym (ap (has rest) (same_key-is q e.0 here) ∙ known)
            at_key false apart = refl

    added : has (set_to rest e.0 (Some e.1)) e.0 ≡ true
    added = more e.0 ∙ ap (λ b. cond b true (has rest e.0)) (same_key-refl e.0)

    in_c : has c e.0 ≡ true
    in_c = parts.whole e.0 ∙ ap (λ b. has a e.0 || b) added ∙ or_true (has a e.0)
      where
        or_true : (b : Bool) → b || true ≡ true
        or_true true = refl
        or_true false = refl

    new_parts : has rest e.0 ≡ false → AreParts a rest (set_to c e.0 None)
    new_parts new = record { whole = λ q. has-set_to c e.0 None q ∙ at_key q (same_key q e.0) refl; apart = λ q in_a in_rest. parts.apart q in_a (more q ∙ among (same_key q e.0) (has rest q) in_rest) }
      where
        among : (b r : Bool) → r ≡ true → cond b true r ≡ true
        among true r is = refl
        among false r is = is

        at_key : (q : List ℕ) (b : Bool) → same_key q e.0 ≡ b → cond b false (has c q) ≡ (has a q || has rest q)
        at_key q true here = sym (neither (has a q) (has rest q) refl (ap (has rest) (same_key-is q e.0 here) ∙ new))
          where
            neither : (x y : Bool) → has a q ≡ x → y ≡ false → x || y ≡ false
            neither true y in_a none = absurd (parts.apart q in_a (ap (has (set_to rest e.0 (Some e.1))) (same_key-is q e.0 here) ∙ added))
            neither false y in_a none = none
        at_key q false apart = parts.whole q ∙ ap (λ b. has a q || b) (more q ∙ ap (λ b. cond b true (has rest q)) apart)

    at : (known : Bool) → has rest e.0 ≡ known → (AreParts a rest c → len c ≡ len a + len rest) → (AreParts a rest (set_to c e.0 None) → len (set_to c e.0 None) ≡ len a + len rest) → len c ≡ len a + len (insert rest e.0 e.1)
    at true known whole less = omega (arith, len_known rest e.0 e.1 known, whole (known_parts known))
    at false new whole less = omega (arith, len_new rest e.0 e.1 new, less (new_parts new), len_less c e.0 in_c)

-- contents in two parts have as many keys as the parts together
pub len-parts : (a b c : Contents) → AreParts a b c → len c ≡ len a + len b
len-parts a b c parts = subst (λ (x : Contents). len c ≡ len a + len x) (made_of b) (parts_entries (entries b) a c (subst (λ (x : Contents). AreParts a x c) (sym (made_of b)) parts))

-- where a key is one of the second alone, the first has fewer
pub room_for : (m n : Contents) (k : List ℕ) → IsWithin m n → has n k ≡ true → has m k ≡ false → len m < len n
room_for m n k within there absent =
    let fewer = len-within m (set_to n k None) (λ q is. has-set_to n k None q ∙ at_key q (same_key q k) refl is) in
    omega (arith, fewer, len_less n k there)
  where
    at_key : (q : List ℕ) (b : Bool) → same_key q k ≡ b → has m q ≡ true → cond b false (has n q) ≡ true
    at_key q true here is = absurd (cc (sym absent ∙ ap (has m) (sym (same_key-is q k here)) ∙ is))
    at_key q false apart is = within q is
