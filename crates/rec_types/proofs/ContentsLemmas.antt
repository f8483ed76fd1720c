-- Contents at one key. All later proofs about contents go by these.
use Rattle.std.proofs.Common.{◌≡◌, ℕ, Bool, true, false, cond, List, Option, Some, None, refl, sym, ap, ◌∙◌}
use Rattle.std.specs.FinMap.{get, get-insert, get-remove, same_map, slice_cmp-IsAntisymmetric, nat_cmp-IsAntisymmetric}
use Rattle.std.specs.Cmp.Lexicographic.{nat_list_cmp_total}
use Rattle.std.proofs.lemmas.Map.Lookups.{exact_bytes}
use Rattle.std.proofs.lemmas.Map.Views.{tells_apart}
use Rattle.std.specs.Cmp.{eq_by_cmp_equiv}
use Rattle.rec_types.specs.Contents.{Contents, set_to, write_to, same_key}

-- what stands at a key after a record was put at one, or one was taken out
pub get-set_to : (m : Contents) (k : List ℕ) (w : Option (List ℕ)) (q : List ℕ) → get (set_to m k w) q ≡ cond (same_key q k) w (get m q)
get-set_to m k None q = get-remove nat_list_cmp_total m k q
get-set_to m k (Some r) q = get-insert nat_list_cmp_total m k r q

-- contents that answer alike at each key are equal
pub same_contents : (m n : Contents) → ((q : List ℕ) → get m q ≡ get n q) → m ≡ n
same_contents m n alike = same_map nat_list_cmp_total (slice_cmp-IsAntisymmetric nat_cmp-IsAntisymmetric) m n alike

-- keys that are told to be the same are equal
pub same_key-is : (a b : List ℕ) → same_key a b ≡ true → a ≡ b
same_key-is a b same = tells_apart exact_bytes a b same

-- a key is the same as itself
pub same_key-refl : (a : List ℕ) → same_key a a ≡ true
same_key-refl a = (eq_by_cmp_equiv nat_list_cmp_total).refl a

-- the test doesn't hang on which key comes first
pub same_key-sym : (a b : List ℕ) → same_key a b ≡ same_key b a
same_key-sym a b = (eq_by_cmp_equiv nat_list_cmp_total).symm a b

-- equal keys are told to be the same
pub same_key-of : (a b : List ℕ) → a ≡ b → same_key a b ≡ true
same_key-of a b is = ap (λ x. same_key x b) is ∙ same_key-refl b

-- what is set at a key is what is found there
pub get-set_to-here : (m : Contents) (k : List ℕ) (w : Option (List ℕ)) → get (set_to m k w) k ≡ w
get-set_to-here m k w = get-set_to m k w k ∙ ap (λ b. cond b w (get m k)) (same_key-refl k)

-- what is set at one key leaves the others
pub get-set_to-there : (m : Contents) (k : List ℕ) (w : Option (List ℕ)) (q : List ℕ) → same_key q k ≡ false → get (set_to m k w) q ≡ get m q
get-set_to-there m k w q apart = get-set_to m k w q ∙ ap (λ b. cond b w (get m q)) apart

-- the second of two records put at a key stays
pub set_to-twice : (m : Contents) (k : List ℕ) (v w : Option (List ℕ)) → set_to (set_to m k v) k w ≡ set_to m k w
set_to-twice m k v w = same_contents _ _ (λ q. get-set_to (set_to m k v) k w q ∙ ap (cond (same_key q k) w) (get-set_to m k v q) ∙ twice (same_key q k) w v (get m q) ∙ sym (get-set_to m k w q))
  where
    twice : (b : Bool) (w v x : Option (List ℕ)) → cond b w (cond b v x) ≡ cond b w x
    twice true w v x = refl
    twice false w v x = refl

-- what stands at a key already may be put there
pub set_to-same : (m : Contents) (k : List ℕ) (w : Option (List ℕ)) → w ≡ get m k → set_to m k w ≡ m
set_to-same m k w is = same_contents _ _ (λ q. get-set_to m k w q ∙ at (same_key q k) q refl)
  where
    at : (b : Bool) (q : List ℕ) → same_key q k ≡ b → cond b w (get m q) ≡ get m q
    at true q same = is ∙ ap (get m) (sym (same_key-is q k same))
    at false q apart = refl

-- records put at two keys may be put in either order
pub set_to-other : (m : Contents) (j k : List ℕ) (v w : Option (List ℕ)) → same_key j k ≡ false → set_to (set_to m j v) k w ≡ set_to (set_to m k w) j v
set_to-other m j k v w apart = same_contents _ _ (λ q.
    get-set_to (set_to m j v) k w q ∙ ap (cond (same_key q k) w) (get-set_to m j v q)
    ∙ at q (same_key q k) (same_key q j) refl refl
    ∙ ap (cond (same_key q j) v) (sym (get-set_to m k w q)) ∙ sym (get-set_to (set_to m k w) j v q))
  where
    at : (q : List ℕ) (b c : Bool) → same_key q k ≡ b → same_key q j ≡ c → cond b w (cond c v (get m q)) ≡ cond c v (cond b w (get m q))
    at q true true same_k same_j = absurd (cc (sym apart ∙ same_key-of j k (sym (same_key-is q j same_j) ∙ same_key-is q k same_k)))
    at q true false same_k same_j = refl
    at q false true same_k same_j = refl
    at q false false same_k same_j = refl

-- what is written at one key leaves the others
pub get-write_to-there : (m : Contents) (k : List ℕ) (w : Option (Option (List ℕ))) (q : List ℕ) → same_key q k ≡ false → get (write_to m k w) q ≡ get m q
get-write_to-there m k None q apart = refl
get-write_to-there m k (Some w) q apart = get-set_to-there m k w q apart

-- what is put at a key stays, whatever was written there before
pub write_to-under : (m : Contents) (k : List ℕ) (v : Option (Option (List ℕ))) (w : Option (List ℕ)) → set_to (write_to m k v) k w ≡ set_to m k w
write_to-under m k None w = refl
write_to-under m k (Some v) w = set_to-twice m k v w

-- two keys may be written at in either order
pub write_to-other : (m : Contents) (j k : List ℕ) (v w : Option (Option (List ℕ))) → same_key j k ≡ false → write_to (write_to m j v) k w ≡ write_to (write_to m k w) j v
write_to-other m j k None w apart = refl
write_to-other m j k (Some v) None apart = refl
write_to-other m j k (Some v) (Some w) apart = set_to-other m j k v w apart
