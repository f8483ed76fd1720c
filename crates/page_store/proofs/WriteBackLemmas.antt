-- Pages written back: what the store has then, and what the pages are that are made of it.
use Rattle.std.proofs.Common.{◌≡◌, ◌≢◌, ℕ, ◌+◌, ◌-◌, ◌<◌, ◌≤◌, ◌++◌, Bool, eqb, List, [], ◌∷◌, length, Option, Some, None, IsSome, is_some, slice_get, refl, sym, ap, ◌∙◌, subst, inl, inr, ⊎_elim, arith, zero, suc, set, length-set, length-append, get_or-set_same, get_or-set_other, ext_get_or}
use Rattle.std.proofs.lemmas.List.{length-replicate, get_or_append_left}
use Rattle.std.proofs.lemmas.Option.{slice_get-get_or, slice_get_past}
use Rattle.std.proofs.lemmas.Bool.{cases_lt, cases_eq, false≢true}
use Rattle.std.proofs.lemmas.Bool.Decides.{nat_tests}
use Rattle.page_store.specs.PageMap.{PageMap, at}
use Rattle.page_store.specs.FreeNumbers.{free_from, free_numbers}
use Rattle.page_store.specs.Blank.{blank, blanks}
use Rattle.page_store.specs.Overlaid.{or_else, pages_of, ArePages}
use Rattle.page_store.specs.WritingBack.{to_write, AreStored, SameBut, KeepsOthers, Stopped}
use Rattle.page_store.proofs.NewestPageLemmas.{length-pages_of, at_below, inside, outside}
use Rattle.page_store.proofs.FreeNumberLemmas.{bytes_of_used}
use Rattle.page_store.proofs.InMemoryLemmas.{InUse, use_of, used_written, unused_written, none_not_some}
use Rattle.page_store.proofs.Staging.{in_use}

-- the same numbers have no page
same_free_from : (n : ℕ) (xs ys : List (Option (List ℕ))) → length xs ≡ length ys → ((k : ℕ) → is_some (at xs k) ≡ is_some (at ys k)) → free_from n xs ≡ free_from n ys
same_free_from n [] [] long same = refl
same_free_from n [] (y ∷ ys) long same = absurd (omega (arith, long))
same_free_from n (x ∷ xs) [] long same = absurd (omega (arith, long))
same_free_from n (None ∷ xs) (None ∷ ys) long same = ap (λ (ks : List ℕ). n ∷ ks) (same_free_from (n + 1) xs ys (omega (arith, long)) (λ k. same (suc k)))
same_free_from n (Some x ∷ xs) (Some y ∷ ys) long same = same_free_from (n + 1) xs ys (omega (arith, long)) (λ k. same (suc k))
same_free_from n (None ∷ xs) (Some y ∷ ys) long same = absurd (false≢true (same zero))
same_free_from n (Some x ∷ xs) (None ∷ ys) long same = absurd (false≢true (sym (same zero)))

-- lists with the same pages in use have the same free numbers
pub same_free_numbers : (xs ys : List (Option (List ℕ))) → length xs ≡ length ys → ((k : ℕ) → is_some (at xs k) ≡ is_some (at ys k)) → free_numbers xs ≡ free_numbers ys
same_free_numbers [] [] long same = refl
same_free_numbers [] (y ∷ ys) long same = absurd (omega (arith, long))
same_free_numbers (x ∷ xs) [] long same = absurd (omega (arith, long))
same_free_numbers (x ∷ xs) (y ∷ ys) long same = same_free_from 1 xs ys (omega (arith, long)) (λ k. same (suc k))

-- a page that was there is as it was when others follow
pub kept_left : (old more : List (List ℕ)) (n : ℕ) → n < length old → slice_get (old ++ more) n ≡ slice_get old n
kept_left old more n below =
    let long = length-append old more in
    slice_get-get_or (old ++ more) n [] (omega arith)
    ∙ ap (λ (page : List ℕ). Some page) (get_or_append_left old more [] n below)
    ∙ sym (slice_get-get_or old n [] below)

-- a page beside the one that is written is as it was
pub kept_beside : (old : List (List ℕ)) (n k : ℕ) (page : List ℕ) → k ≢ n → slice_get (set old n page) k ≡ slice_get old k
kept_beside old n k page other =
    ⊎_elim (λ (below : k < length old).
    slice_get-get_or (set old n page) k [] (let long = length-set old n page in omega arith)
    ∙ ap (λ (bytes : List ℕ). Some bytes) (get_or-set_other old n k page [] other)
    ∙ sym (slice_get-get_or old k [] below))
    (λ (past : length old ≤ k).
    slice_get_past (set old n page) k (let long = length-set old n page in omega arith) ∙ sym (slice_get_past old k past))
    (cases_lt k (length old))

-- the page that is written is there
pub put_there : (old : List (List ℕ)) (n : ℕ) (page : List ℕ) → n < length old → slice_get (set old n page) n ≡ Some page
put_there old n page below =
    slice_get-get_or (set old n page) n [] (let long = length-set old n page in omega arith)
    ∙ ap (λ (bytes : List ℕ). Some bytes) (get_or-set_same old n page [] below)

-- one page more is written
pub others_put : (pages : PageMap) (old mid new : List (List ℕ)) (n : ℕ) → SameBut (λ k. is_some (pages k)) old mid → IsSome (pages n) → (page : List ℕ) × (new ≡ set mid n page) → SameBut (λ k. is_some (pages k)) old new
others_put pages old mid new n was some is = record {
  long = ap (λ (ps : List (List ℕ)). length ps) is.1 ∙ length-set mid n is.0 ∙ was.long;
  same = λ k out.
      ap (λ (ps : List (List ℕ)). slice_get ps k) is.1
      ∙ kept_beside mid n k is.0 (λ here. false≢true (sym out ∙ ap (λ i. is_some (pages i)) here ∙ some))
      ∙ was.same k out;
}

-- one more page written back
pub pages_put : (pages : PageMap) (mid new : List (List ℕ)) (n : ℕ) (page : List ℕ) → n < length mid → ((k : ℕ) → k < n → IsSome (pages k) → slice_get mid k ≡ pages k) → pages n ≡ Some page → new ≡ set mid n page → (k : ℕ) → k < n + 1 → IsSome (pages k) → slice_get new k ≡ pages k
pages_put pages mid new n page fits was there is k below some =
    ap (λ (ps : List (List ℕ)). slice_get ps k) is
    ∙ ⊎_elim (λ (here : k ≡ n). ap (λ i. slice_get (set mid n page) i) here ∙ put_there mid n page fits ∙ sym (ap pages here ∙ there))
    (λ (other : k ≢ n). kept_beside mid n k page other ∙ was k (omega arith) some)
    (cases_eq k n)

-- a page that isn't to be written is passed over
pub pages_skipped : (pages : PageMap) (mid : List (List ℕ)) (n : ℕ) → ((k : ℕ) → k < n → IsSome (pages k) → slice_get mid k ≡ pages k) → pages n ≡ None → (k : ℕ) → k < n + 1 → IsSome (pages k) → slice_get mid k ≡ pages k
pages_skipped pages mid n was none k below some =
    ⊎_elim (λ (here : k ≡ n). none_not_some (pages k) (ap pages here ∙ none) some)
    (λ (other : k ≢ n). was k (omega arith) some)
    (cases_eq k n)

-- what was written after the store was made longer
pub leaves_by : (pages : PageMap) (count : ℕ) (old mid new : List (List ℕ)) → length old ≤ count → mid ≡ old ++ blanks (count - length old) → length new ≡ length mid → ((n : ℕ) → n ≢ 0 → pages n ≡ None → slice_get new n ≡ slice_get mid n) → KeepsOthers pages count old new
leaves_by pages count old mid new fits is long same =
    let size : length mid ≡ count = ap (λ (ps : List (List ℕ)). length ps) is ∙ (let l = length-append old (blanks (count - length old)) in let r = length-replicate (count - length old) blank in omega arith) in
    record {
      longer = omega arith;
      fits = omega arith;
      others = λ n some below none. same n some none ∙ ap (λ (ps : List (List ℕ)). slice_get ps n) is ∙ kept_left old (blanks (count - length old)) n below;
    }

-- page 0 and then the pages to write
pub same_two : (pages : PageMap) (mid header new : List (List ℕ)) → SameBut (λ n. eqb n 0) mid header → SameBut (λ n. is_some (pages n)) header new → (n : ℕ) → n ≢ 0 → pages n ≡ None → slice_get new n ≡ slice_get mid n
same_two pages mid header new first second n some none =
    second.same n (ap is_some none) ∙ first.same n (grind (arith, nat_tests))

module _ (stored : List (List ℕ)) (slots : List (Option (List ℕ))) (free : List ℕ) (count : ℕ) (changed : Bool) (are : ArePages stored slots free count changed) where
  module _ (new : List (List ℕ)) (leaves : KeepsOthers (to_write slots free count) count stored new) where
    stays_by : (n : ℕ) (slot : Option (List ℕ)) → InUse free count n → at slots n ≡ slot → or_else slot (slice_get new n) ≡ or_else slot (slice_get stored n)
    stays_by n (Some page) h is = refl
    stays_by n None h is =
        ⊎_elim (λ (below : n < length stored). leaves.others n h.0 below (used_written slots free count n h ∙ is))
        (λ (past : length stored ≤ n). none_not_some (at slots n) is (are.there n (omega (arith, h.0)) h.1 h.2 past))
        (cases_lt n (length stored))

    stays : (n : ℕ) → at (pages_of new slots free count) n ≡ at (pages_of stored slots free count) n
    stays n =
        ⊎_elim (λ (h : InUse free count n). inside new slots free count n h ∙ ap (λ slot. or_else slot (slice_get new n)) refl ∙ stays_by n (at slots n) h refl ∙ sym (inside stored slots free count n h))
        (λ (never : InUse free count n → ⊥). outside new slots free count n never ∙ sym (outside stored slots free count n never))
        (use_of free count n)

    -- the pages are the same where the changed ones are kept
    pub pages_kept : pages_of new slots free count ≡ pages_of stored slots free count
    pages_kept = ext_get_or None (pages_of new slots free count) (pages_of stored slots free count) (length-pages_of new slots free count ∙ sym (length-pages_of stored slots free count)) (λ n below. stays n)

    -- a page that isn't in use isn't written
    none_by : (n : ℕ) (slot : Option (List ℕ)) → InUse free count n → at slots n ≡ slot → or_else slot (slice_get stored n) ≡ None → to_write slots free count n ≡ None
    none_by n (Some page) h is none = absurd (cc)
    none_by n None h is none = used_written slots free count n h ∙ is

    pub none_written : (n : ℕ) → at (pages_of stored slots free count) n ≡ None → to_write slots free count n ≡ None
    none_written n none =
        ⊎_elim (λ (h : InUse free count n). none_by n (at slots n) h refl (sym (inside stored slots free count n h) ∙ none))
        (λ (never : InUse free count n → ⊥). unused_written slots free count n never)
        (use_of free count n)

    pub unwritten_pages : ((n : ℕ) → n ≢ 0 → to_write slots free count n ≡ None → slice_get new n ≡ slice_get (stored ++ blanks (count - length stored)) n) → (n : ℕ) → n ≢ 0 → at (pages_of stored slots free count) n ≡ None → slice_get new n ≡ slice_get (stored ++ blanks (length (pages_of stored slots free count) - length stored)) n
    unwritten_pages same n some none =
        same n some (none_written n none)
        ∙ ap (λ k. slice_get (stored ++ blanks (k - length stored)) n) (sym (length-pages_of stored slots free count))

    pub leaves_pages : KeepsOthers (at (pages_of stored slots free count)) (length (pages_of stored slots free count)) stored new
    leaves_pages = record {
      longer = leaves.longer;
      fits = let long = length-pages_of stored slots free count in omega (arith, leaves.fits);
      others = λ n some below none. leaves.others n some below (none_written n none);
    }

    now_by : (n : ℕ) (slot : Option (List ℕ)) → AreStored (to_write slots free count) new → InUse free count n → at slots n ≡ slot → slice_get new n ≡ or_else slot (slice_get stored n)
    now_by n None put h is = stays_by n None h is
    now_by n (Some page) put h is =
        let written : to_write slots free count n ≡ Some page = used_written slots free count n h ∙ is in
        put n (subst IsSome (sym written) refl) ∙ written

    now_stored : (n : ℕ) → AreStored (to_write slots free count) new → InUse free count n → slice_get new n ≡ at (pages_of stored slots free count) n
    now_stored n put h = now_by n (at slots n) put h refl ∙ sym (inside stored slots free count n h)

    -- each page in use is stored
    pub all_stored : AreStored (to_write slots free count) new → AreStored (at (pages_of stored slots free count)) new
    all_stored put n some = now_stored n put (in_use stored slots free count changed are n some)

    pub stopped_pages : (mark : List ℕ) → Stopped (to_write slots free count) mark stored new → Stopped (at (pages_of stored slots free count)) mark stored new
    stopped_pages mark (inl before) = inl before
    stopped_pages mark (inr (inl marked)) = inr (inl marked)
    stopped_pages mark (inr (inr put)) = inr (inr (all_stored put))

    module _ (long : length new ≡ count) where
      -- the same pages are in use where the changed ones are dropped
      pub same_use : (n : ℕ) → is_some (at (pages_of new [] free count) n) ≡ is_some (at (pages_of stored slots free count) n)
      same_use n =
          ⊎_elim (λ (h : InUse free count n).
          ap is_some (inside new [] free count n h ∙ slice_get-get_or new n [] (omega (arith, h.1)))
          ∙ sym (ap is_some (at_below stored slots free count n h.1) ∙ bytes_of_used stored slots free count n changed are (omega (arith, h.0)) h.1 h.2))
          (λ (never : InUse free count n → ⊥). ap is_some (outside new [] free count n never ∙ sym (outside stored slots free count n never)))
          (use_of free count n)

      pub same_free : free_numbers (pages_of new [] free count) ≡ free_numbers (pages_of stored slots free count)
      same_free = same_free_numbers (pages_of new [] free count) (pages_of stored slots free count) (length-pages_of new [] free count ∙ sym (length-pages_of stored slots free count)) same_use

      drop_at : AreStored (to_write slots free count) new → (n : ℕ) → at (pages_of new [] free count) n ≡ at (pages_of stored slots free count) n
      drop_at put n =
          ⊎_elim (λ (h : InUse free count n). inside new [] free count n h ∙ now_stored n put h)
          (λ (never : InUse free count n → ⊥). outside new [] free count n never ∙ sym (outside stored slots free count n never))
          (use_of free count n)

      -- and so are their bytes where each was stored
      pub pages_dropped : AreStored (to_write slots free count) new → pages_of new [] free count ≡ pages_of stored slots free count
      pages_dropped put = ext_get_or None (pages_of new [] free count) (pages_of stored slots free count) (length-pages_of new [] free count ∙ sym (length-pages_of stored slots free count)) (λ n below. drop_at put n)
