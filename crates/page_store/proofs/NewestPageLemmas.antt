-- The newest bytes of a page, by where they come from.
use Rattle.std.proofs.Common.{◌≡◌, ◌≢◌, ℕ, ◌<◌, ◌≤◌, Bool, true, false, eqb, List, [], length, Option, Some, None, IsSome, slice_get, refl, sym, ap, ◌∙◌, subst, ⊎_elim, arith}
use Rattle.std.proofs.lemmas.List.{get_or_past}
use Rattle.std.proofs.lemmas.Option.{slice_get-get_or}
use Rattle.std.proofs.lemmas.List.FromFn.{length-map-range_with_len, get_or-map-range_with_len}
use Rattle.std.proofs.lemmas.Bool.{cases_lt}
use Rattle.std.proofs.lemmas.Bool.Decides.{nat_tests}
use Rattle.page_store.specs.PageMap.{at}
use Rattle.page_store.specs.Overlaid.{is_among, or_else, page_at, pages_of, ArePages}

-- there are as many pages as the count
pub length-pages_of : (stored : List (List ℕ)) (slots : List (Option (List ℕ))) (free : List ℕ) (count : ℕ) → length (pages_of stored slots free count) ≡ count
unfolding pages_of
length-pages_of stored slots free count = length-map-range_with_len (page_at stored slots free) 0 count

-- a page below the count has its newest bytes
pub at_below : (stored : List (List ℕ)) (slots : List (Option (List ℕ))) (free : List ℕ) (count n : ℕ) → n < count → at (pages_of stored slots free count) n ≡ page_at stored slots free n
unfolding pages_of
at_below stored slots free count n below = get_or-map-range_with_len (page_at stored slots free) 0 count n n None below (omega arith)

-- there is none from the count on
pub at_past : (stored : List (List ℕ)) (slots : List (Option (List ℕ))) (free : List ℕ) (count n : ℕ) → count ≤ n → at (pages_of stored slots free count) n ≡ None
at_past stored slots free count n past =
    let long = length-pages_of stored slots free count in
    get_or_past (pages_of stored slots free count) n None (omega arith)

-- page 0 and a free page have never bytes
hidden_by : (stored : List (List ℕ)) (slots : List (Option (List ℕ))) (free : List ℕ) (n : ℕ) (zero free_here : Bool) → eqb n 0 ≡ zero → is_among free n ≡ free_here → ((n ≢ 0) × (is_among free n ≡ false) → ⊥) → page_at stored slots free n ≡ None
hidden_by stored slots free n true b e f never = rw e refl
hidden_by stored slots free n false true e f never = rw (e, f) refl
hidden_by stored slots free n false false e f never = absurd (never (λ z. grind (arith, nat_tests), f))

-- page 0 and free pages aren't seen
pub hidden : (stored : List (List ℕ)) (slots : List (Option (List ℕ))) (free : List ℕ) (n : ℕ) → ((n ≢ 0) × (is_among free n ≡ false) → ⊥) → page_at stored slots free n ≡ None
hidden stored slots free n never = hidden_by stored slots free n (eqb n 0) (is_among free n) refl refl never

-- any other page has what was changed, or else what is stored
pub shown : (stored : List (List ℕ)) (slots : List (Option (List ℕ))) (free : List ℕ) (n : ℕ) → n ≢ 0 → is_among free n ≡ false → page_at stored slots free n ≡ or_else (at slots n) (slice_get stored n)
shown stored slots free n some used =
    let e : eqb n 0 ≡ false = grind (arith, nat_tests) in
    rw (e, used) refl

-- a page that isn't in use isn't seen
pub outside : (stored : List (List ℕ)) (slots : List (Option (List ℕ))) (free : List ℕ) (count n : ℕ) → ((n ≢ 0) × (n < count) × (is_among free n ≡ false) → ⊥) → at (pages_of stored slots free count) n ≡ None
outside stored slots free count n never =
    ⊎_elim (λ (below : n < count). at_below stored slots free count n below ∙ hidden stored slots free n (λ h. never (h.0, below, h.1)))
    (λ (past : count ≤ n). at_past stored slots free count n past)
    (cases_lt n count)

-- a page in use is the changed one, or else the store's
pub inside : (stored : List (List ℕ)) (slots : List (Option (List ℕ))) (free : List ℕ) (count n : ℕ) → (n ≢ 0) × (n < count) × (is_among free n ≡ false) → at (pages_of stored slots free count) n ≡ or_else (at slots n) (slice_get stored n)
inside stored slots free count n h = at_below stored slots free count n h.1 ∙ shown stored slots free n h.0 h.2

-- of a page in use the bytes are somewhere
pub somewhere : (stored : List (List ℕ)) (slots : List (Option (List ℕ))) (free : List ℕ) (count n : ℕ) (changed : Bool) → ArePages stored slots free count changed → (n ≢ 0) × (n < count) × (is_among free n ≡ false) → (length stored ≤ n → IsSome (at slots n))
somewhere stored slots free count n changed are h past = are.there n (omega arith) h.1 h.2 past

-- a changed page is what its slot has
pub from_slot : (stored : List (List ℕ)) (slots : List (Option (List ℕ))) (free : List ℕ) (count n : ℕ) (page : List ℕ) → (n ≢ 0) × (n < count) × (is_among free n ≡ false) → Some page ≡ at slots n → at (pages_of stored slots free count) n ≡ Some page
from_slot stored slots free count n page h is = inside stored slots free count n h ∙ ap (λ slot. or_else slot (slice_get stored n)) (sym is)

-- any other page in use is what the store has
pub from_store : (stored : List (List ℕ)) (slots : List (Option (List ℕ))) (free : List ℕ) (count n : ℕ) → (n ≢ 0) × (n < count) × (is_among free n ≡ false) → None ≡ at slots n → at (pages_of stored slots free count) n ≡ slice_get stored n
from_store stored slots free count n h is = inside stored slots free count n h ∙ ap (λ slot. or_else slot (slice_get stored n)) (sym is)

-- and the store has it
pub stored_in_use : (stored : List (List ℕ)) (slots : List (Option (List ℕ))) (free : List ℕ) (count n : ℕ) (changed : Bool) → ArePages stored slots free count changed → (n ≢ 0) × (n < count) × (is_among free n ≡ false) → None ≡ at slots n → slice_get stored n ≡ None → ⊥
stored_in_use stored slots free count n changed are h is gone =
    ⊎_elim (λ (below : n < length stored). let e = slice_get-get_or stored n [] below in cc)
    (λ (past : length stored ≤ n). let never : IsSome {T = List ℕ} None = subst IsSome (sym is) (are.there n (omega arith) h.1 h.2 past) in cc)
    (cases_lt n (length stored))
