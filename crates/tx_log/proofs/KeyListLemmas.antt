-- The keys that a transaction holds.
use Rattle.std.proofs.Common.{◌≡◌, ℕ, ◌≤◌, length, Bool, true, false, cond, not, eqb, ltb, ◌||◌, List, [], ◌∷◌, map, Option, Some, None, refl, sym, ap, subst, ◌∙◌, arith}
use Rattle.std.specs.List.{list_any, AllByRecursion, IsDistinct}
use Rattle.std.specs.Map.{keys_of, lookup}
use Rattle.std.proofs.lemmas.Bool.Decides.{nat_tests}
use Rattle.rec_types.proofs.ContentsLemmas.{same_key-is, same_key-sym}
use Rattle.tx_log.proofs.HoldingLemmas.{same_bytes-key, any_counted}
use Rattle.tx_log.specs.Holdings.{HoldsKey, same_bytes, live_held, live_at, owned_in, IsHeld, AreHeld}
use Rattle.tx_log.specs.Log.{key_of_record, stack}
use Rattle.tx_log.specs.Walks.{is_at}
use Rattle.tx_log.specs.declared.holding.Holding.{Holding}
use Rattle.tx_log.specs.declared.log_record.LogRecord.{LogRecord}

-- ---- of entries

none_there : (x : List ℕ) (es : List (List ℕ × Holding)) → AllByRecursion (λ y. same_bytes x y ≡ false) (keys_of es) → lookup (same_bytes x) es ≡ None
none_there x [] h = refl
none_there x (e ∷ es) h = ap (λ (b : Bool). cond b (Some e.1) (lookup (same_bytes x) es)) h.0 ∙ none_there x es h.1

-- the listed keys are those that are held, since none stands twice
pub listed_are_held : (t : ℕ) (es : List (List ℕ × Holding)) (q : List ℕ) → IsDistinct same_bytes (keys_of es) → list_any (same_bytes q) (owned_in t es) ≡ ltb 0 (live_held t (lookup (same_bytes q) es))
unfolding IsDistinct
listed_are_held t [] q h = refl
listed_are_held t (e ∷ es) q h = at (same_bytes q e.0) refl (ltb 0 (live_held t (Some e.1))) refl (listed_are_held t es q h.1)
  where
    at : (b : Bool) → same_bytes q e.0 ≡ b → (a : Bool) → ltb 0 (live_held t (Some e.1)) ≡ a → list_any (same_bytes q) (owned_in t es) ≡ ltb 0 (live_held t (lookup (same_bytes q) es))
        → list_any (same_bytes q) (cond a (e.0 ∷ owned_in t es) (owned_in t es)) ≡ ltb 0 (live_held t (cond b (Some e.1) (lookup (same_bytes q) es)))
    at true same true some rest = ap (λ b. b || list_any (same_bytes q) (owned_in t es)) same ∙ sym some
    at true same false none rest =
        let is : q ≡ e.0 = same_key-is q e.0 (sym (same_bytes-key q e.0) ∙ same) in
        let others : AllByRecursion (λ y. same_bytes q y ≡ false) (keys_of es) = subst (λ x. AllByRecursion (λ y. same_bytes x y ≡ false) (keys_of es)) (sym is) h.0 in
        rest ∙ ap (λ (o : Option Holding). ltb 0 (live_held t o)) (none_there q es others) ∙ sym none
    at false apart true some rest = ap (λ b. b || list_any (same_bytes q) (owned_in t es)) apart ∙ rest
    at false apart false none rest = rest

-- there are at most as many as entries
pub owned_few : (t : ℕ) (es : List (List ℕ × Holding)) → length (owned_in t es) ≤ length es
owned_few t [] = omega arith
owned_few t (e ∷ es) = at (ltb 0 (live_held t (Some e.1))) (owned_few t es)
  where
    at : (b : Bool) → length (owned_in t es) ≤ length es → length (cond b (e.0 ∷ owned_in t es) (owned_in t es)) ≤ length (e ∷ es)
    at true few = omega (arith, few)
    at false few = omega (arith, few)

-- ---- of changes

among_at : (q : List ℕ) (us : List LogRecord) → list_any (same_bytes q) (map key_of_record us) ≡ list_any (is_at q) us
among_at q [] = refl
among_at q (u ∷ us) = (λ i. (same_bytes-key q (key_of_record u) ∙ same_key-sym q (key_of_record u)) i || among_at q us i)

some_are : (n : ℕ) → not (eqb n 0) ≡ ltb 0 n
some_are n = grind (arith, nat_tests)

-- the keys of a transaction's changes are those that it holds
pub changed_are_held : (rs : List LogRecord) (is_open : ℕ → Bool) (holds : HoldsKey) (t : ℕ) → IsHeld rs is_open holds → is_open t ≡ true → AreHeld holds t (map key_of_record (stack t rs))
changed_are_held rs is_open holds t is opened q =
    among_at q (stack t rs) ∙ any_counted q (stack t rs) ∙ some_are (live_at q (stack t rs)) ∙ ap (ltb 0) (is.counted t q opened)
