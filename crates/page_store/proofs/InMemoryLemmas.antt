-- Which pages in use are in memory.
use Rattle.std.proofs.Common.{◌≡◌, ◌≢◌, ℕ, ◌<◌, ◌≤◌, Bool, true, false, not, ◌&&◌, eqb, leb, if◌then◌else◌, ◌⊎◌, ◌+◌, zero, suc, map, List, ◌∷◌, length, get_or, Option, Some, None, IsSome, is_some, slice_get, refl, sym, ap, ◌∙◌, subst, inl, inr, ⊎_elim, arith}
use Rattle.std.proofs.lemmas.List.{get_or_past}
use Rattle.std.proofs.lemmas.List.FromFn.{length-map-range_with_len, get_or-map-range_with_len}
use Rattle.std.proofs.lemmas.Bool.{cases_lt, false≢true}
use Rattle.std.proofs.lemmas.Bool.Decides.{nat_tests}
use Rattle.std.specs.List.{range_with_len}
use Rattle.page_store.specs.PageMap.{at}
use Rattle.page_store.specs.PagesView.{PagesView, is_in_memory, is_read}
use Rattle.page_store.specs.Calls.{how_many}
use Rattle.page_store.specs.Overlaid.{is_among, or_else, pages_of}
use Rattle.page_store.specs.WritingBack.{to_write, in_memory_of}
use Rattle.page_store.proofs.CallCountLemmas.{how_many_same}
use Rattle.page_store.proofs.NewestPageLemmas.{length-pages_of, inside, outside}

-- a page is in use
abbrev pub InUse : List ℕ → ℕ → ℕ → Type 0
InUse free count n = (n ≢ 0) × (n < count) × (is_among free n ≡ false)

use_by : (free : List ℕ) (count n : ℕ) (zero_is free_is : Bool) → eqb n 0 ≡ zero_is → is_among free n ≡ free_is → InUse free count n ⊎ (InUse free count n → ⊥)
use_by free count n true f z e = inr (λ h. h.0 (grind (arith, nat_tests)))
use_by free count n false true z e = inr (λ h. false≢true (sym h.2 ∙ e))
use_by free count n false false z e =
    ⊎_elim (λ (below : n < count). inl (grind (arith, nat_tests), below, e))
    (λ (past : count ≤ n). inr (λ h. omega (arith, h.1)))
    (cases_lt n count)

pub use_of : (free : List ℕ) (count n : ℕ) → InUse free count n ⊎ (InUse free count n → ⊥)
use_of free count n = use_by free count n (eqb n 0) (is_among free n) refl refl

unused_by : (slots : List (Option (List ℕ))) (free : List ℕ) (count n : ℕ) (zero_is past free_is : Bool) → eqb n 0 ≡ zero_is → leb count n ≡ past → is_among free n ≡ free_is → (InUse free count n → ⊥) → to_write slots free count n ≡ None
unused_by slots free count n true p f z above e never = rw z refl
unused_by slots free count n false true f z above e never = rw (z, above) refl
unused_by slots free count n false false true z above e never = rw (z, above, e) refl
unused_by slots free count n false false false z above e never = absurd (never (grind (arith, nat_tests), grind (arith, nat_tests), e))

pub used_written : (slots : List (Option (List ℕ))) (free : List ℕ) (count n : ℕ) → InUse free count n → to_write slots free count n ≡ at slots n
used_written slots free count n h = grind (arith, nat_tests, h.0, h.1, h.2)

-- a page that isn't in use isn't written back
pub unused_written : (slots : List (Option (List ℕ))) (free : List ℕ) (count n : ℕ) → (InUse free count n → ⊥) → to_write slots free count n ≡ None
unused_written slots free count n never = unused_by slots free count n (eqb n 0) (leb count n) (is_among free n) refl refl refl never

past_length : (slots : List (Option (List ℕ))) (free : List ℕ) (count n : ℕ) → count ≤ n → length (in_memory_of slots free count) ≤ n
unfolding in_memory_of
past_length slots free count n past =
    let long = length-map-range_with_len (λ k. is_some (to_write slots free count k)) 0 count in omega arith

below_count : (slots : List (Option (List ℕ))) (free : List ℕ) (count n : ℕ) → n < count → get_or (in_memory_of slots free count) n false ≡ is_some (to_write slots free count n)
unfolding in_memory_of
below_count slots free count n below = get_or-map-range_with_len (λ k. is_some (to_write slots free count k)) 0 count n n false below (omega arith)

-- a page is in memory where it is to be written
pub memory_at : (slots : List (Option (List ℕ))) (free : List ℕ) (count n : ℕ) → get_or (in_memory_of slots free count) n false ≡ is_some (to_write slots free count n)
memory_at slots free count n =
    ⊎_elim (λ (below : n < count). below_count slots free count n below)
    (λ (past : count ≤ n). get_or_past (in_memory_of slots free count) n false (past_length slots free count n past) ∙ sym (ap is_some (unused_written slots free count n (λ h. omega (arith, h.1)))))
    (cases_lt n count)

-- no page is in memory where no slot has one
pub none_in_memory : (slots : List (Option (List ℕ))) (free : List ℕ) (count n : ℕ) → at slots n ≡ None → get_or (in_memory_of slots free count) n false ≡ false
none_in_memory slots free count n none =
    memory_at slots free count n
    ∙ ⊎_elim (λ (h : InUse free count n). ap is_some (used_written slots free count n h ∙ none))
    (λ (never : InUse free count n → ⊥). ap is_some (unused_written slots free count n never))
    (use_of free count n)

-- a page in use is in memory where its slot has it
pub slot_in_memory : (slots : List (Option (List ℕ))) (free : List ℕ) (count n : ℕ) → InUse free count n → get_or (in_memory_of slots free count) n false ≡ is_some (at slots n)
slot_in_memory slots free count n h = memory_at slots free count n ∙ ap is_some (used_written slots free count n h)

picked : (slot other : Option (List ℕ)) → slot ≡ (if is_some slot then or_else slot other else None)
picked None other = refl
picked (Some page) other = refl

-- what is to be written is what is in memory
pub written_in_memory : (stored : List (List ℕ)) (slots : List (Option (List ℕ))) (free : List ℕ) (count n : ℕ) → to_write slots free count n ≡ (if get_or (in_memory_of slots free count) n false then at (pages_of stored slots free count) n else None)
written_in_memory stored slots free count n =
    ⊎_elim (λ (h : InUse free count n).
    used_written slots free count n h ∙ picked (at slots n) (slice_get stored n)
    ∙ ap (λ (b : Bool). if b then or_else (at slots n) (slice_get stored n) else None) (sym (slot_in_memory slots free count n h))
    ∙ ap (λ (o : Option (List ℕ)). if get_or (in_memory_of slots free count) n false then o else None) (sym (inside stored slots free count n h)))
    (λ (never : InUse free count n → ⊥).
    let none = unused_written slots free count n never in
    none ∙ ap (λ (b : Bool). if b then at (pages_of stored slots free count) n else None) (sym (memory_at slots free count n ∙ ap is_some none)))
    (use_of free count n)

some_or_else : (slot other : Option (List ℕ)) → is_some slot ≡ true → IsSome (or_else slot other)
some_or_else None other some = absurd (false≢true some)
some_or_else (Some page) other some = refl

stored_by : (slot other : Option (List ℕ)) → is_some slot ≡ false → other ≡ or_else slot other
stored_by None other none = refl
stored_by (Some page) other none = absurd (false≢true (sym none))

-- a page in memory is in use
pub memory_used : (stored : List (List ℕ)) (slots : List (Option (List ℕ))) (free : List ℕ) (count n : ℕ) → get_or (in_memory_of slots free count) n false ≡ true → IsSome (at (pages_of stored slots free count) n)
memory_used stored slots free count n there =
    ⊎_elim (λ (h : InUse free count n). subst IsSome (sym (inside stored slots free count n h)) (some_or_else (at slots n) (slice_get stored n) (sym (slot_in_memory slots free count n h) ∙ there)))
    (λ (never : InUse free count n → ⊥). absurd (false≢true (sym (memory_at slots free count n ∙ ap is_some (unused_written slots free count n never)) ∙ there)))
    (use_of free count n)

pub none_not_some : {P : Type 0} (o : Option (List ℕ)) → o ≡ None → IsSome o → P
none_not_some o none some = let never : IsSome {T = List ℕ} None = subst IsSome none some in absurd (cc)

-- any other page in use is the store's
pub stored_elsewhere : (stored : List (List ℕ)) (slots : List (Option (List ℕ))) (free : List ℕ) (count n : ℕ) → IsSome (at (pages_of stored slots free count) n) → get_or (in_memory_of slots free count) n false ≡ false → slice_get stored n ≡ at (pages_of stored slots free count) n
stored_elsewhere stored slots free count n some out =
    ⊎_elim (λ (h : InUse free count n). stored_by (at slots n) (slice_get stored n) (sym (slot_in_memory slots free count n h) ∙ out) ∙ sym (inside stored slots free count n h))
    (λ (never : InUse free count n → ⊥). none_not_some _ (outside stored slots free count n never) some)
    (use_of free count n)

-- as many pages are in memory as are to be written
pub many_in_memory : (stored : List (List ℕ)) (slots : List (Option (List ℕ))) (free : List ℕ) (count : ℕ) → how_many (λ n. get_or (in_memory_of slots free count) n false) (length (pages_of stored slots free count)) ≡ how_many (λ n. is_some (to_write slots free count n)) count
many_in_memory stored slots free count =
    ap (how_many (λ n. get_or (in_memory_of slots free count) n false)) (length-pages_of stored slots free count)
    ∙ how_many_same (λ n. get_or (in_memory_of slots free count) n false) (λ n. is_some (to_write slots free count n)) count (memory_at slots free count)

same_range : (f g : ℕ → Bool) (a n : ℕ) → ((k : ℕ) → f k ≡ g k) → map f (range_with_len a n) ≡ map g (range_with_len a n)
same_range f g a zero same = refl
same_range f g a (suc n) same = λ i. same a i ∷ same_range f g (a + 1) n same i

-- slots and free numbers that are the same at each number
pub memory_stays : (slots slots' : List (Option (List ℕ))) (free free' : List ℕ) (count : ℕ) → ((n : ℕ) → at slots' n ≡ at slots n) → ((n : ℕ) → is_among free' n ≡ is_among free n) → in_memory_of slots' free' count ≡ in_memory_of slots free count
unfolding in_memory_of
memory_stays slots slots' free free' count same_slots same_free =
    same_range (λ n. is_some (to_write slots' free' count n)) (λ n. is_some (to_write slots free count n)) 0 count (λ n. rw (same_slots n, same_free n) refl)

and_false : (b : Bool) → (b && not true) ≡ false
and_false true = refl
and_false false = refl

-- a page that isn't in use isn't read
pub unused_unread : (v : PagesView) (n : ℕ) → at v.pages n ≡ None → is_read v n ≡ false
unused_unread v n gone = ap (λ (o : Option (List ℕ)). is_some o && not (is_in_memory v n)) gone

-- nor is one in memory
pub memory_unread : (v : PagesView) (n : ℕ) → is_in_memory v n ≡ true → is_read v n ≡ false
memory_unread v n here = ap (λ b. is_some (at v.pages n) && not b) here ∙ and_false (is_some (at v.pages n))

-- any other is
pub others_read : (v : PagesView) (n : ℕ) → IsSome (at v.pages n) → is_in_memory v n ≡ false → is_read v n ≡ true
others_read v n some out = ap (λ b. is_some (at v.pages n) && not b) out ∙ ap (λ b. b && true) some
