-- One page in memory written over.
use Rattle.std.proofs.Common.{◌≡◌, ◌≢◌, ℕ, ◌<◌, ◌≤◌, Bool, true, false, cond, eqb, List, length, get_or, set, Option, Some, None, is_some, refl, sym, ap, ◌∙◌, ⊎_elim}
use Rattle.std.proofs.lemmas.Bool.{cases_lt, false≢true}
use Rattle.std.proofs.lemmas.Bool.Decides.{eqb_tells}
use Rattle.std.proofs.lemmas.List.{get_or_past, get_or-set_same, get_or-set_other}
use Rattle.page_store.specs.PageMap.{at, write_page}
use Rattle.page_store.specs.Overlaid.{pages_of, ArePages}
use Rattle.page_store.specs.WritingBack.{to_write, in_memory_of}
use Rattle.page_store.proofs.InMemoryLemmas.{InUse, use_of, used_written, unused_written, memory_at}
use Rattle.page_store.proofs.NewestPageLemmas.{at_below, at_past, from_slot}

-- a page that is in memory is in use, and has a slot
pub record HasSlot (slots : List (Option (List ℕ))) (free : List ℕ) (count n : ℕ) : Type 0 where
  pub used : InUse free count n
  pub here : is_some (at slots n) ≡ true
  pub low : n < length slots

slot_low : (slots : List (Option (List ℕ))) (n : ℕ) → is_some (at slots n) ≡ true → n < length slots
slot_low slots n here =
    ⊎_elim (λ (low : n < length slots). low)
    (λ (past : length slots ≤ n). absurd (false≢true (sym (ap is_some (get_or_past slots n None past)) ∙ here)))
    (cases_lt n (length slots))

pub has_slot : (slots : List (Option (List ℕ))) (free : List ℕ) (count n : ℕ) (bits : List Bool) → in_memory_of slots free count ≡ bits → get_or bits n false ≡ true → HasSlot slots free count n
has_slot slots free count n bits same there =
    let written : is_some (to_write slots free count n) ≡ true = sym (memory_at slots free count n) ∙ ap (λ (bs : List Bool). get_or bs n false) same ∙ there in
    ⊎_elim (λ (used : InUse free count n).
    let here = sym (ap is_some (used_written slots free count n used)) ∙ written in
    record { used = used; here = here; low = slot_low slots n here })
    (λ (never : InUse free count n → ⊥). absurd (false≢true (sym (ap is_some (unused_written slots free count n never)) ∙ written)))
    (use_of free count n)

-- such a page is what its slot has
pub slot_has : (stored : List (List ℕ)) (slots : List (Option (List ℕ))) (free : List ℕ) (count n : ℕ) (was : List ℕ) → HasSlot slots free count n → at (pages_of stored slots free count) n ≡ Some was → at slots n ≡ Some was
slot_has stored slots free count n was has is = by_slot (at slots n) refl
  where
    by_slot : (slot : Option (List ℕ)) → slot ≡ at slots n → at slots n ≡ Some was
    by_slot (Some page) here = sym here ∙ sym (from_slot stored slots free count n page has.used here) ∙ is
    by_slot None here = absurd (false≢true (ap is_some here ∙ has.here))

module _ (stored : List (List ℕ)) (slots : List (Option (List ℕ))) (free : List ℕ) (count n : ℕ) (page : List ℕ) (has : HasSlot slots free count n) where
  abbrev over : List (Option (List ℕ))
  over = set slots n (Some page)

  slot_here : at over n ≡ Some page
  slot_here = get_or-set_same slots n (Some page) None has.low

  slot_other : (q : ℕ) → q ≢ n → at over q ≡ at slots q
  slot_other q other = get_or-set_other slots n q (Some page) None other

  some_same : (q : ℕ) → is_some (at over q) ≡ is_some (at slots q)
  some_same q =
      ⊎_elim (λ (e : (eqb q n ≡ true) × (q ≡ n)). ap (λ k. is_some (at over k)) e.1 ∙ ap is_some slot_here ∙ sym has.here ∙ ap (λ k. is_some (at slots k)) (sym e.1))
      (λ (e : (eqb q n ≡ false) × (q ≢ n)). ap is_some (slot_other q e.1))
      (eqb_tells q n)

  pub pages_over : (q : ℕ) → at (pages_of stored over free count) q ≡ write_page (at (pages_of stored slots free count)) n page q
  pages_over q =
      ⊎_elim (λ (e : (eqb q n ≡ true) × (q ≡ n)).
      ap (at (pages_of stored over free count)) e.1
      ∙ from_slot stored over free count n page has.used (sym slot_here)
      ∙ ap (λ (b : Bool). cond b (Some page) (at (pages_of stored slots free count) q)) (sym e.0))
      (λ (e : (eqb q n ≡ false) × (q ≢ n)).
      unchanged q e.1 ∙ ap (λ (b : Bool). cond b (Some page) (at (pages_of stored slots free count) q)) (sym e.0))
      (eqb_tells q n)
    where
      unchanged : (q : ℕ) → q ≢ n → at (pages_of stored over free count) q ≡ at (pages_of stored slots free count) q
      unchanged q other =
          ⊎_elim (λ (below : q < count). at_below stored over free count q below ∙ rw (slot_other q other) refl ∙ sym (at_below stored slots free count q below))
          (λ (past : count ≤ q). at_past stored over free count q past ∙ sym (at_past stored slots free count q past))
          (cases_lt q count)

  pub memory_over : (q : ℕ) → get_or (in_memory_of over free count) q false ≡ get_or (in_memory_of slots free count) q false
  memory_over q =
      memory_at over free count q
      ∙ ⊎_elim (λ (used : InUse free count q). ap is_some (used_written over free count q used) ∙ some_same q ∙ sym (ap is_some (used_written slots free count q used)))
      (λ (never : InUse free count q → ⊥). ap is_some (unused_written over free count q never) ∙ sym (ap is_some (unused_written slots free count q never)))
      (use_of free count q)
      ∙ sym (memory_at slots free count q)

  never_idle : (changed : Bool) → ArePages stored slots free count changed → changed ≡ false → ⊥
  never_idle changed are kept = false≢true (sym (ap is_some (are.idle kept n)) ∙ has.here)

  pub are_over : (changed : Bool) → ArePages stored slots free count changed → ArePages stored over free count changed
  are_over changed are = record {
    some = are.some;
    most = are.most;
    store_fits = are.store_fits;
    free_fits = are.free_fits;
    there = λ q above below used past. some_same q ∙ are.there q above below used past;
    idle = λ kept. absurd (never_idle changed are kept);
  }

  -- an edit was staged before
  pub was_changed : (changed : Bool) → ArePages stored slots free count changed → changed ≡ true
  was_changed true are = refl
  was_changed false are = absurd (never_idle false are refl)
