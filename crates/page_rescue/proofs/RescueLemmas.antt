-- What is saved of pages, one after another.
use Rattle.std.proofs.Common.{◌≡◌, ◌⊎◌, inl, inr, ℕ, ◌+◌, ◌<◌, ◌≤◌, Bool, true, false, ◌&&◌, List, None, Some, length, refl, sym, ap, subst, ◌∙◌, arith}
use Rattle.std.specs.Prelude.{IsTrue}
use Rattle.std.specs.FinMap.{empty, entries, get, get-empty}
use Rattle.std.specs.Ordering.{nat_cmp}
use Rattle.std.specs.Cmp.Lexicographic.{slice_cmp}
use Rattle.std.proofs.Math.Nat.{eq-or-lt_of_le}
use Rattle.rec_types.specs.Contents.{Contents}
use Rattle.page_store.specs.StoreCalls.{StaysStore}
use Rattle.page_store.specs.declared.store_state.StoreState.{Ghosts}
use Rattle.page_rescue.specs.Rescue.{GrowsBy, HasPage, HasPageAt, HasPagesBelow, IsInPages, SavesBelow}
use Rattle.page_rescue.specs.declared.rescue.Rescued.{Rescued}
use Rattle.page_rescue.proofs.GrowthLemmas.{grows_on, has_still}

-- a store that was read twice was read
pub stays_on : {S : Type 0} (s : Ghosts S) (a b c : S) → StaysStore s a b → StaysStore s b c → StaysStore s a c
stays_on s a b c first next = record {
  pages = next.pages ∙ first.pages;
  tail = next.tail ∙ first.tail;
  steady = next.steady ∙ first.steady;
  opening = next.opening ∙ first.opening;
  writes = next.writes ∙ first.writes;
  journal = next.journal ∙ first.journal;
  guard = next.guard ∙ first.guard;
}

-- what is true of a steady store before a read is told of it after one
pub steady_on : {S : Type 0} (s : Ghosts S) (a b : S) → StaysStore s a b → IsTrue (s.steady a) → IsTrue (s.steady b)
steady_on s a b stays steady = stays.steady ∙ steady

-- contents that grow by what stands in the pages of a store, which is read on
pub grows_more : {S : Type 0} (s : Ghosts S) (a b : S) (start old new : Contents) → StaysStore s a b
    → (IsTrue (s.steady a) → GrowsBy (IsInPages (s.pages a)) start old) → (IsTrue (s.steady b) → GrowsBy (IsInPages (s.pages b)) old new)
    → IsTrue (s.steady a) → GrowsBy (IsInPages (s.pages a)) start new
grows_more s a b start old new stays first next steady =
    grows_on start old new (first steady) (subst (λ (pages : List (List ℕ)). GrowsBy (IsInPages pages) old new) stays.pages (next (steady_on s a b stays steady)))

-- a page whose keys have records keeps them
pub page_still : {From : List ℕ → List ℕ → Type 0} (old new : Contents) (page : List ℕ) → GrowsBy From old new → HasPage old page → HasPage new page
page_still old new page grew has = λ other spelt. let was = has other spelt in (was.0, was.1, λ i within d. has_still old new _ grew (was.2 i within d))

-- the pages below a number, and the page of that number
pub pages_more : {From : List ℕ → List ℕ → Type 0} (pages : List (List ℕ)) (count : ℕ) (old new : Contents) → GrowsBy From old new → HasPagesBelow count old pages → HasPageAt count new pages → HasPagesBelow (count + 1) new pages
pages_more {From} pages count old new grew below here = λ n less. at n (eq-or-lt_of_le (below_or_at n count less))
  where
    below_or_at : (n count : ℕ) → n < count + 1 → n ≤ count
    below_or_at n count less = omega (arith, less)

    at : (n : ℕ) → (n ≡ count) ⊎ (n < count) → HasPageAt n new pages
    at n (inl same) = subst (λ (i : ℕ). HasPageAt i new pages) (sym same) here
    at n (inr less) = λ page is. page_still old new page grew (below n less page is)

-- both of two tests hold
pub both_set : (a b : Bool) → IsTrue (a && b) → IsTrue a × IsTrue b
both_set true b set = (refl, set)
both_set false b set = absurd (cc set)

-- what was read is the page that is there
pub same_page : (contents : Contents) (read page : List ℕ) → Some read ≡ Some page → HasPage contents read → HasPage contents page
same_page contents read page is has = subst (HasPage contents) (inside read page is) has
  where
    inside : (x y : List ℕ) → Some x ≡ Some y → x ≡ y
    inside x y same = cc same

-- what is saved by two passes over empty contents
pub saves : {S : Type 0} (s : Ghosts S) (a b : S) (count : ℕ) (start old new : Contents) (saved : Rescued) → start ≡ empty → StaysStore s a b
    → (IsTrue (s.steady a) → GrowsBy (IsInPages (s.pages a)) start old) → (IsTrue (s.steady b) → GrowsBy (IsInPages (s.pages b)) old new)
    → (IsTrue (s.steady b) → IsTrue saved.complete → HasPagesBelow count new (s.pages b)) → saved.records.items ≡ entries new
    → IsTrue (s.steady a) → SavesBelow count (s.pages a) saved
saves s a b count start old new saved is_empty stays first next all listed steady =
    let grew = grows_more s a b start old new stays first next steady in
    record {
      contents = new;
      records = listed;
      only = λ k v is. from_empty (s.pages a) k v (grew.only k v is);
      all = λ complete. subst (HasPagesBelow count new) stays.pages (all (steady_on s a b stays steady) complete);
    }
  where
    from_empty : (pages : List (List ℕ)) (k v : List ℕ) → (get start k ≡ Some v) ⊎ IsInPages pages k v → IsInPages pages k v
    from_empty pages k v (inl was) =
        let none : get start k ≡ None = ap (λ (m : Contents). get m k) is_empty ∙ get-empty (slice_cmp nat_cmp) k in
        absurd (cc (sym none ∙ was))
    from_empty pages k v (inr from) = from
