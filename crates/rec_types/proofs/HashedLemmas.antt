-- The contents that a hashed map holds.
use Rattle.std.proofs.Common.{◌≡◌, ℕ, suc, ◌+◌, Bool, true, false, cond, List, [], ◌∷◌, length, Option, Some, None, IsTrue, ◌&&◌, is_some, refl, sym, ap, subst, ◌∙◌, arith}
use Rattle.std.specs.Cmp.Lexicographic.{slice_cmp, texts_ties, nat_list_cmp_total}
use Rattle.std.specs.Map.{keys_of, lookup}
use Rattle.std.specs.List.{IsDistinct, AllByRecursion, dedup, dedup_from}
use Rattle.std.specs.List.Sorted.{IsSorted, IsStrictlySortedBy}
use Rattle.std.specs.Ordering.{nat_cmp}
use Rattle.std.specs.FinMap.{get, from_entries, from_sorted, entries, entries-from_sorted, get-from_sorted, get-from_entries, len, len-empty, len-insert}
use Rattle.std.specs.FinMap.Entries.{find}
use Rattle.std.proofs.lemmas.List.Kept.{IsStrictlySortedBy-dedup}
use Rattle.rec_types.specs.Contents.{Contents, set_to, same_key}
use Rattle.rec_types.specs.Sorted.{Pairs, same_bytes}
use Rattle.rec_types.proofs.ContentsLemmas.{get-set_to, same_contents, same_key-sym}
use Rattle.rec_types.proofs.MapLemmas.{sorted_of}

looked : (es : Pairs) (q : List ℕ) → find (slice_cmp nat_cmp) q es ≡ lookup (same_bytes q) es
looked [] q = refl
looked (e ∷ es) q = λ i. cond (sym (texts_ties q e.0) i) (Some e.1) (looked es q i)

-- what the contents have at a key is what the map has there
pub at_hash : (es : Pairs) (q : List ℕ) → get (from_entries {R = slice_cmp nat_cmp} es) q ≡ lookup (same_bytes q) es
at_hash es q = get-from_entries nat_list_cmp_total es q ∙ looked es q

-- the contents after a change of the map
pub updated : (es fs : Pairs) (k : List ℕ) (w : Option (List ℕ)) → ((q : List ℕ) → lookup (same_bytes q) fs ≡ cond (same_bytes k q) w (lookup (same_bytes q) es)) → ◌≡◌ {A = Contents} (from_entries fs) (set_to (from_entries es) k w)
updated es fs k w is = same_contents _ _ (λ q.
    at_hash fs q ∙ is q ∙ ap (λ b. cond b w (lookup (same_bytes q) es)) (texts_ties k q ∙ same_key-sym k q)
    ∙ ap (cond (same_key q k) w) (sym (at_hash es q)) ∙ sym (get-set_to (from_entries es) k w q))

-- the order of the entries does not matter
pub reordered : (es fs : Pairs) → ((q : List ℕ) → lookup (same_bytes q) fs ≡ lookup (same_bytes q) es) → ◌≡◌ {A = Contents} (from_entries fs) (from_entries es)
reordered es fs is = same_contents _ _ (λ q. at_hash fs q ∙ is q ∙ sym (at_hash es q))

absent : (k : List ℕ) (es : Pairs) → AllByRecursion (λ y. same_bytes k y ≡ false) (keys_of es) → lookup (same_bytes k) es ≡ None
absent k [] all = refl
absent k (e ∷ es) all = ap (λ b. cond b (Some e.1) (lookup (same_bytes k) es)) all.0 ∙ absent k es all.1

one_more : (a n : ℕ) → a ≡ n → a + 1 ≡ suc n
one_more a n e = omega (arith, e)

-- there are as many keys as entries
pub len_hashed : (es : Pairs) → IsDistinct same_bytes (keys_of es) → ◌≡◌ {A = ℕ} (len (from_entries {R = slice_cmp nat_cmp} es)) (length es)
unfolding IsDistinct
len_hashed [] d = len-empty (slice_cmp nat_cmp) (List ℕ)
len_hashed (e ∷ es) d =
    len-insert nat_list_cmp_total (from_entries es) e.0 e.1
    ∙ ap (λ (o : Option (List ℕ)). cond (is_some o) (len (from_entries {R = slice_cmp nat_cmp} es)) (len (from_entries {R = slice_cmp nat_cmp} es) + 1)) (at_hash es e.0 ∙ absent e.0 es d.0)
    ∙ one_more _ _ (len_hashed es d.1)

-- sorted keys of which no two are equal are strictly sorted

kept_all : (k : List ℕ) (ks : List (List ℕ)) → AllByRecursion (λ y. same_bytes k y ≡ false) ks → IsDistinct same_bytes ks → dedup_from same_bytes k ks ≡ k ∷ ks
unfolding IsDistinct
kept_all k [] all d = refl
kept_all k (x ∷ xs) all d =
    ap (λ b. cond b (dedup_from same_bytes k xs) (k ∷ dedup_from same_bytes x xs)) (texts_ties x k ∙ same_key-sym x k ∙ sym (texts_ties k x) ∙ all.0)
    ∙ ap (λ l. k ∷ l) (kept_all x xs d.0 d.1)

no_repeats : (ks : List (List ℕ)) → IsDistinct same_bytes ks → dedup same_bytes ks ≡ ks
unfolding IsDistinct
no_repeats [] d = refl
no_repeats (k ∷ ks) d = kept_all k ks d.0 d.1

pub strictly : (es : Pairs) → IsSorted (slice_cmp nat_cmp) (keys_of es) → IsDistinct same_bytes (keys_of es) → IsStrictlySortedBy (slice_cmp nat_cmp) (keys_of es)
strictly es up d = subst (IsStrictlySortedBy (slice_cmp nat_cmp)) (no_repeats (keys_of es) d) (IsStrictlySortedBy-dedup nat_list_cmp_total texts_ties (keys_of es) up)

-- the entries of a map whose pairs are sorted are the pairs
pub entries_hashed : (es : Pairs) → IsStrictlySortedBy (slice_cmp nat_cmp) (keys_of es) → entries (from_entries {R = slice_cmp nat_cmp} es) ≡ es
entries_hashed es rises = let sorted = sorted_of es rises in
    ap (λ (m : Contents). entries m) (same_contents (from_entries es) (from_sorted es) (λ q. get-from_entries nat_list_cmp_total es q ∙ sym (get-from_sorted (slice_cmp nat_cmp) es q sorted)))
    ∙ entries-from_sorted (slice_cmp nat_cmp) es sorted

-- what holds where two tests hold
pub and_parts : (a b : Bool) → IsTrue (a && b) → IsTrue a × IsTrue b
and_parts true b is = (refl, is)
and_parts false b is = absurd (cc)
