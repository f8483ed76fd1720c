-- An edit put in place: the pages after it, and what keeps holding of them.
use Rattle.std.proofs.Common.{◌≡◌, ◌≢◌, ℕ, ◌+◌, ◌<◌, ◌≤◌, Bool, true, false, not, ◌&&◌, ◌||◌, ◌⊎◌, List, ◌∷◌, length, map, Option, Some, None, IsSome, is_some, All, slice_get, zero, suc, refl, sym, ap, subst, ◌∙◌, inl, inr, ⊎_elim, arith}
use Rattle.std.specs.List.{range_with_len}
use Rattle.std.proofs.lemmas.Bool.{cases_lt, false≢true}
use Rattle.std.proofs.lemmas.List.Elements.{All-from_recursion}
use Rattle.page_store.specs.PageMap.{at, pages_with, after, is_written, is_freed}
use Rattle.page_store.specs.FreeNumbers.{count_after}
use Rattle.page_store.specs.CanStage.{CanStage, IsTaken}
use Rattle.page_store.specs.Overlaid.{is_among, or_else, page_at, pages_of, ArePages}
use Rattle.page_store.specs.Slots.{put_slots}
use Rattle.page_store.proofs.NewestPageLemmas.{length-pages_of, at_below, at_past, inside, outside}
use Rattle.page_store.proofs.Candidates.{candidate_is_some, candidate_fits, taken_above}
use Rattle.page_store.specs.WritingBack.{to_write}
use Rattle.page_store.proofs.InMemoryLemmas.{InUse, use_of, used_written, unused_written, none_not_some}
use Rattle.page_store.proofs.Overlays.{at_written, at_freed, freed_is_none, not_freed, not_written, slot_not_written, written_is_some, slot_written, some_written}

or_else_first : (o other : Option (List ℕ)) → IsSome o → or_else o other ≡ o
or_else_first None other some = absurd (false≢true some)
or_else_first (Some page) other some = refl

or_true : (b : Bool) → ((b || true) && not false) ≡ true
or_true true = refl
or_true false = refl

and_not_true : (b : Bool) → (b && not true) ≡ false
and_not_true true = refl
and_not_true false = refl

and_true : (b : Bool) → ((b || false) && not false) ≡ b
and_true true = refl
and_true false = refl

neither_so : (b : Bool) → b ≡ ((false || b) && not false)
neither_so true = refl
neither_so false = refl

were_used : (old gone : Bool) → ((old || gone) && not false) ≡ false → (old ≡ false) × (gone ≡ false)
were_used true gone e = absurd (false≢true (sym e))
were_used false true e = absurd (false≢true (sym e))
were_used false false e = (refl, refl)

same_range : (f g : ℕ → Option (List ℕ)) (a n : ℕ) → ((k : ℕ) → f k ≡ g k) → map f (range_with_len a n) ≡ map g (range_with_len a n)
same_range f g a zero same = refl
same_range f g a (suc n) same = λ i. same a i ∷ same_range f g (a + 1) n same i

-- a page count that grows is within its limit, and one that stays is, too
pub roomy : (pages : List (Option (List ℕ))) (taken : ℕ) → length pages ≤ 1000001 → (0 < taken → count_after pages taken ≤ 1000001) → count_after pages taken ≤ 1000001
roomy pages zero most room = omega (arith, most)
roomy pages (suc taken) most room = room (omega arith)

-- what an edit put in place leaves: its pages, which of them are in memory, and what keeps holding
pub record IsStaged (stored : List (List ℕ)) (slots : List (Option (List ℕ))) (free : List ℕ) (count : ℕ) (writes : List (ℕ × List ℕ)) (freed : List ℕ) (slots2 : List (Option (List ℕ))) (free2 : List ℕ) (count2 : ℕ) : Type 0 where
  pub pages : (n : ℕ) → at (pages_of stored slots2 free2 count2) n ≡ after (at (pages_of stored slots free count)) writes freed n
  pub memory : (n : ℕ) → is_some (to_write slots2 free2 count2 n) ≡ ((is_written writes n || is_some (to_write slots free count n)) && not (is_freed freed n))
  pub are : ArePages stored slots2 free2 count2 true

module _ (stored : List (List ℕ)) (slots : List (Option (List ℕ))) (free : List ℕ) (count : ℕ) (changed : Bool) (are : ArePages stored slots free count changed) where
  -- slots and free numbers that are the same at each number make the same pages
  pub pages_stay : (slots' : List (Option (List ℕ))) (free' : List ℕ) → ((n : ℕ) → at slots' n ≡ at slots n) → ((n : ℕ) → is_among free' n ≡ is_among free n) → pages_of stored slots' free' count ≡ pages_of stored slots free count
  unfolding pages_of
  pages_stay slots' free' same_slots same_free =
      same_range (page_at stored slots' free') (page_at stored slots free) 0 count
      (λ n. rw (same_slots n, same_free n) refl)

  pub are_stay : (slots' : List (Option (List ℕ))) (free' : List ℕ) → ((n : ℕ) → at slots' n ≡ at slots n) → ((n : ℕ) → is_among free' n ≡ is_among free n) → ArePages stored slots' free' count changed
  are_stay slots' free' same_slots same_free = record {
    some = are.some;
    most = are.most;
    store_fits = are.store_fits;
    free_fits = λ n here. are.free_fits n (sym (same_free n) ∙ here);
    there = λ n above below used past. subst IsSome (sym (same_slots n)) (are.there n above below (sym (same_free n) ∙ used) past);
    idle = λ kept n. same_slots n ∙ are.idle kept n;
  }

  not_free : (n : ℕ) (b : Bool) → is_among free n ≡ b → IsSome (at (pages_of stored slots free count) n) → is_among free n ≡ false
  not_free n false e some = e
  not_free n true e some = none_not_some _ (outside stored slots free count n (λ h. false≢true (sym h.2 ∙ e))) some

  -- of a page in use
  pub in_use : (n : ℕ) → IsSome (at (pages_of stored slots free count) n) → (n ≢ 0) × (n < count) × (is_among free n ≡ false)
  in_use n some = (
    λ zero_is. none_not_some _ (outside stored slots free count n (λ h. h.0 zero_is)) some,
    ⊎_elim (λ (below : n < count). below) (λ (past : count ≤ n). none_not_some _ (at_past stored slots free count n past) some) (cases_lt n count),
    not_free n (is_among free n) refl some,
  )

  module _ (writes : List (ℕ × List ℕ)) (taken : ℕ) (freed : List ℕ) (can : CanStage (pages_of stored slots free count) writes taken freed) where
    -- what is freed isn't free before
    pub freed_not_free : (q : ℕ) → is_freed freed q ≡ true → is_among free q ≡ false
    freed_not_free q here = (in_use q (at_freed (λ n. IsSome (at (pages_of stored slots free count) n)) freed q can.freed_in_use here)).2

    fits : (n : ℕ) → IsSome (at (pages_of stored slots free count) n) ⊎ IsTaken (pages_of stored slots free count) taken n → (n ≢ 0) × (n < count_after (pages_of stored slots free count) taken)
    fits n (inl some) =
        let used = in_use n some in
        let long = length-pages_of stored slots free count in
        (used.0, omega (arith, used.1))
    fits n (inr one) =
        let long = length-pages_of stored slots free count in
        let first = are.some in
        let above = candidate_is_some (pages_of stored slots free count) one.0 (omega arith) in
        let below = candidate_fits (pages_of stored slots free count) one.0 taken one.1 in
        let is = one.2 in
        (omega arith, omega arith)

    -- each number that is written has a slot
    pub written_fit : (limit : ℕ) → (0 < length writes → count_after (pages_of stored slots free count) taken ≤ limit) → All (λ (w : ℕ × List ℕ). w.0 < limit) writes
    written_fit limit room = λ k d below.
        let fit = fits _ (All-from_recursion (λ (w : ℕ × List ℕ). IsSome (at (pages_of stored slots free count) w.0) ⊎ IsTaken (pages_of stored slots free count) taken w.0) writes can.written k d below) in
        omega (arith, fit.1, room (omega arith))

    module _ (slots1 slots2 : List (Option (List ℕ))) (free1 free2 : List ℕ) (count2 : ℕ)
        (grown : count2 ≡ count_after (pages_of stored slots free count) taken)
        (same : (n : ℕ) → at slots1 n ≡ at slots n)
        (long : 0 < length writes → count2 ≤ length slots1)
        (put : (n : ℕ) → is_freed freed n ≡ false → at slots2 n ≡ at (put_slots slots1 writes) n)
        (added : (q : ℕ) → is_among free1 q ≡ (is_among free q || is_freed freed q))
        (removed : (q : ℕ) → is_among free2 q ≡ (is_among free1 q && not (is_written writes q)))
      where
        among : (q : ℕ) (old gone here : Bool) → is_among free q ≡ old → is_freed freed q ≡ gone → is_written writes q ≡ here → is_among free2 q ≡ ((old || gone) && not here)
        among q old gone here e f w = removed q ∙ rw (added q, e, f, w) refl

        not_below : (n : ℕ) → count ≤ n → n < count2 → is_written writes n ≡ false → ⊥
        not_below n past below unwritten =
            let size = length-pages_of stored slots free count in
            let one = taken_above (pages_of stored slots free count) taken n (omega arith) (omega arith) in
            false≢true (sym unwritten ∙ ap (is_written writes) (sym one.2) ∙ can.taken_written one.0 one.1)

        written_stays : (n : ℕ) (gone : Bool) → is_freed freed n ≡ gone → is_written writes n ≡ true → is_freed freed n ≡ false
        written_stays n true f here = absurd (false≢true (sym (at_freed (λ k. is_written writes k ≡ false) freed n can.freed_not_written f) ∙ here))
        written_stays n false f here = f

        at_slot : (n : ℕ) → n < count2 → is_written writes n ≡ true → at slots2 n ≡ pages_with (at (pages_of stored slots free count)) writes n
        at_slot n below here =
            put n (written_stays n (is_freed freed n) refl here)
            ∙ slot_written slots1 (at (pages_of stored slots free count)) writes n (omega (arith, long (some_written writes n here))) (inr here)

        kept_slot : (n : ℕ) → is_freed freed n ≡ false → is_written writes n ≡ false → at slots2 n ≡ at slots n
        kept_slot n kept unwritten = put n kept ∙ slot_not_written slots1 writes n unwritten ∙ same n

        staged_freed : (n : ℕ) → is_freed freed n ≡ true → at (pages_of stored slots2 free2 count2) n ≡ after (at (pages_of stored slots free count)) writes freed n
        staged_freed n here =
            let unwritten = at_freed (λ k. is_written writes k ≡ false) freed n can.freed_not_written here in
            let now_free = among n (is_among free n) true false refl here unwritten in
            outside stored slots2 free2 count2 n (λ h. false≢true (sym h.2 ∙ now_free ∙ or_true (is_among free n)))
            ∙ sym (freed_is_none (pages_with (at (pages_of stored slots free count)) writes) freed n here)

        staged_written : (n : ℕ) → is_freed freed n ≡ false → is_written writes n ≡ true → at (pages_of stored slots2 free2 count2) n ≡ after (at (pages_of stored slots free count)) writes freed n
        staged_written n kept here =
            let fit = fits n (at_written (λ k. IsSome (at (pages_of stored slots free count) k) ⊎ IsTaken (pages_of stored slots free count) taken k) writes n can.written here) in
            let below : n < count2 = omega (arith, fit.1) in
            let used = among n (is_among free n) false true refl kept here ∙ and_not_true (is_among free n || false) in
            let slot = at_slot n below here in
            let some = written_is_some (at (pages_of stored slots free count)) writes n (inr here) in
            inside stored slots2 free2 count2 n (fit.0, below, used)
            ∙ ap (λ o. or_else o (slice_get stored n)) slot
            ∙ or_else_first (pages_with (at (pages_of stored slots free count)) writes n) (slice_get stored n) some
            ∙ sym (not_freed (pages_with (at (pages_of stored slots free count)) writes) freed n kept)

        staged_other : (n : ℕ) → is_freed freed n ≡ false → is_written writes n ≡ false → at (pages_of stored slots2 free2 count2) n ≡ at (pages_of stored slots free count) n
        staged_other n kept unwritten =
            let size = length-pages_of stored slots free count in
            let stays = among n (is_among free n) false false refl kept unwritten ∙ and_true (is_among free n) in
            ⊎_elim (λ (below : n < count).
            at_below stored slots2 free2 count2 n (omega arith)
            ∙ rw (kept_slot n kept unwritten, stays) refl
            ∙ sym (at_below stored slots free count n below))
            (λ (past : count ≤ n).
            ⊎_elim (λ (below : n < count2). absurd (not_below n past below unwritten))
            (λ (far : count2 ≤ n). at_past stored slots2 free2 count2 n far ∙ sym (at_past stored slots free count n past))
            (cases_lt n count2))
            (cases_lt n count)

        staged_by : (n : ℕ) (gone here : Bool) → is_freed freed n ≡ gone → is_written writes n ≡ here → at (pages_of stored slots2 free2 count2) n ≡ after (at (pages_of stored slots free count)) writes freed n
        staged_by n true here f w = staged_freed n f
        staged_by n false true f w = staged_written n f w
        staged_by n false false f w =
            staged_other n f w ∙ sym (not_freed (pages_with (at (pages_of stored slots free count)) writes) freed n f ∙ not_written (at (pages_of stored slots free count)) writes n w)

        -- the pages after the edit
        staged : (n : ℕ) → at (pages_of stored slots2 free2 count2) n ≡ after (at (pages_of stored slots free count)) writes freed n
        staged n = staged_by n (is_freed freed n) (is_written writes n) refl refl

        memory_by : (n : ℕ) (gone here : Bool) → is_freed freed n ≡ gone → is_written writes n ≡ here → is_some (to_write slots2 free2 count2 n) ≡ ((here || is_some (to_write slots free count n)) && not gone)
        memory_by n true here f w =
            let unwritten = at_freed (λ k. is_written writes k ≡ false) freed n can.freed_not_written f in
            let gone = among n (is_among free n) true false refl f unwritten ∙ or_true (is_among free n) in
            ap is_some (unused_written slots2 free2 count2 n (λ h. false≢true (sym h.2 ∙ gone)))
            ∙ sym (and_not_true (here || is_some (to_write slots free count n)))
        memory_by n false true f w =
            let fit = fits n (at_written (λ k. IsSome (at (pages_of stored slots free count) k) ⊎ IsTaken (pages_of stored slots free count) taken k) writes n can.written w) in
            let below : n < count2 = omega (arith, fit.1) in
            let used = among n (is_among free n) false true refl f w ∙ and_not_true (is_among free n || false) in
            ap is_some (used_written slots2 free2 count2 n (fit.0, below, used) ∙ at_slot n below w)
            ∙ written_is_some (at (pages_of stored slots free count)) writes n (inr w)
        memory_by n false false f w =
            let size = length-pages_of stored slots free count in
            let stays = among n (is_among free n) false false refl f w ∙ and_true (is_among free n) in
            ⊎_elim (λ (h : InUse free count n).
            ap is_some (used_written slots2 free2 count2 n (h.0, omega (arith, h.1), stays ∙ h.2) ∙ kept_slot n f w ∙ sym (used_written slots free count n h)))
            (λ (never : InUse free count n → ⊥).
            ap is_some (unused_written slots2 free2 count2 n (λ h.
            ⊎_elim (λ (below : n < count). never (h.0, below, sym stays ∙ h.2)) (λ (past : count ≤ n). not_below n past h.1 w) (cases_lt n count))
            ∙ sym (unused_written slots free count n never)))
            (use_of free count n)
            ∙ neither_so (is_some (to_write slots free count n))

        -- which pages are in memory after the edit
        memory_after : (n : ℕ) → is_some (to_write slots2 free2 count2 n) ≡ ((is_written writes n || is_some (to_write slots free count n)) && not (is_freed freed n))
        memory_after n = memory_by n (is_freed freed n) (is_written writes n) refl refl

        free_after : (n : ℕ) (old gone here : Bool) → is_among free n ≡ old → is_freed freed n ≡ gone → is_written writes n ≡ here → is_among free2 n ≡ true → (1 ≤ n) × (n < count2)
        free_after n true gone here e f w now_free =
            let size = length-pages_of stored slots free count in
            let fit = are.free_fits n e in (fit.0, omega (arith, fit.1))
        free_after n false true here e f w now_free =
            let size = length-pages_of stored slots free count in
            let used = in_use n (at_freed (λ k. IsSome (at (pages_of stored slots free count) k)) freed n can.freed_in_use f) in
            (omega (arith, used.0), omega (arith, used.1))
        free_after n false false here e f w now_free = absurd (false≢true (sym (among n false false here e f w) ∙ now_free))

        there_after : (n : ℕ) (here : Bool) → is_written writes n ≡ here → 1 ≤ n → n < count2 → is_among free2 n ≡ false → length stored ≤ n → IsSome (at slots2 n)
        there_after n true w above below used past =
            subst IsSome (sym (at_slot n below w)) (written_is_some (at (pages_of stored slots free count)) writes n (inr w))
        there_after n false w above below used past =
            let both = were_used (is_among free n) (is_freed freed n) (sym (among n (is_among free n) (is_freed freed n) false refl refl w) ∙ used) in
            ⊎_elim (λ (low : n < count). subst IsSome (sym (kept_slot n both.1 w)) (are.there n above low both.0 past))
            (λ (high : count ≤ n). absurd (not_below n high below w))
            (cases_lt n count)

        -- what keeps holding
        are_after : ArePages stored slots2 free2 count2 true
        are_after =
            let size = length-pages_of stored slots free count in
            let first = are.some in
            let fit = are.store_fits in
            let room = roomy (pages_of stored slots free count) taken (omega (arith, size, are.most)) can.room in
            record {
              some = omega arith;
              most = omega arith;
              store_fits = omega arith;
              free_fits = λ n here. free_after n (is_among free n) (is_freed freed n) (is_written writes n) refl refl refl here;
              there = λ n above below used past. there_after n (is_written writes n) refl above below used past;
              idle = λ kept. absurd (false≢true (sym kept));
            }

        pub is_staged : IsStaged stored slots free count writes freed slots2 free2 count2
        is_staged = record { pages = staged; memory = memory_after; are = are_after }
