-- What pages spell after an edit.
use Rattle.std.proofs.Common.{◌≡◌, ℕ, Bool, true, false, not, ◌||◌, ◌&&◌, cond, eqb, Option, Some, None, is_some, is_none, IsSome, IfSome, List, [], ◌∷◌, ◌++◌, refl, ap, sym, ◌∙◌, subst}
use Rattle.page_store.specs.PageMap.{PageMap, at, write_page, pages_with, free_all, after, is_written, is_freed}
use Rattle.page_store.specs.PagesView.{PagesView, is_in_memory, OnlyReads}
use Rattle.btree_node.specs.declared.node.Node.{Node}
use Rattle.btree_node.specs.Spelling.{spelling, CanStand, IsSpelt, AreSpelt}
use Rattle.btree_node.proofs.ElementOrderLemmas.{Each-append}
use Rattle.page_store.specs.ChangedPage.{ChangesPage}
use Rattle.btree_node.specs.declared.page_change.PageChange.{PageChange}
use Rattle.btree_insert.specs.Spelt.{AreSpeltIn, CanChange}

-- one node more
pub spelt_more : (k n : ℕ) (ws ws2 : List (ℕ × List ℕ)) (node : Node) → CanStand node k → ws2 ≡ ws ++ (n, spelling node k) ∷ [] → AreSpelt k ws → AreSpelt k ws2
spelt_more k n ws ws2 node stands is spelt =
    subst (AreSpelt k) (sym is) (Each-append (λ w. IsSpelt k w.1) ws ((n, spelling node k) ∷ []) spelt ((node, stands, refl), tt))

-- the bytes of a page
abbrev pub bytes_of : Option (List ℕ) → List ℕ
bytes_of None = []
bytes_of (Some page) = page

same_bytes : (k : ℕ) (old new : List ℕ) → Some old ≡ Some new → IsSpelt k old → IsSpelt k new
same_bytes k old new is spelt = subst (IsSpelt k) (ap bytes_of is) spelt

-- a page that was not freed
unfreed : (pages : PageMap) (fs : List ℕ) (q : ℕ) (page : List ℕ) → free_all pages fs q ≡ Some page → pages q ≡ Some page
unfreed pages [] q page is = is
unfreed pages (f ∷ fs) q page is =
    unfreed pages fs q page (by_case (eqb q f) is)
  where
    by_case : (b : Bool) → cond b None (free_all pages fs q) ≡ Some page → free_all pages fs q ≡ Some page
    by_case true is = absurd (cc)
    by_case false is = is

-- a page that spelt a node before
spelt_over : (k : ℕ) (pages : PageMap) (ws : List (ℕ × List ℕ)) (q : ℕ) (page : List ℕ) → ((p : List ℕ) → pages q ≡ Some p → IsSpelt k p) → AreSpelt k ws → pages_with pages ws q ≡ Some page → IsSpelt k page
spelt_over k pages [] q page old spelt is = old page is
spelt_over k pages (w ∷ ws) q page old spelt is =
    spelt_over k (write_page pages w.0 w.1) ws q page (λ p there. by_case (eqb q w.0) p there) spelt.1 is
  where
    by_case : (b : Bool) (p : List ℕ) → cond b (Some w.1) (pages q) ≡ Some p → IsSpelt k p
    by_case true p there = same_bytes k w.1 p there spelt.0
    by_case false p there = old p there

-- a page that is written
spelt_written : (k : ℕ) (pages : PageMap) (ws : List (ℕ × List ℕ)) (q : ℕ) (page : List ℕ) → is_written ws q ≡ true → AreSpelt k ws → pages_with pages ws q ≡ Some page → IsSpelt k page
spelt_written k pages [] q page written spelt is = absurd (cc)
spelt_written k pages (w ∷ ws) q page written spelt is =
    by_case (eqb q w.0) refl written (λ rest. spelt_written k (write_page pages w.0 w.1) ws q page rest spelt.1 is)
  where
    here : eqb q w.0 ≡ true → (p : List ℕ) → write_page pages w.0 w.1 q ≡ Some p → IsSpelt k p
    here e p there = same_bytes k w.1 p (sym (ap (λ (b : Bool). cond b (Some w.1) (pages q)) e) ∙ there) spelt.0

    by_case : (b : Bool) → eqb q w.0 ≡ b → (b || is_written ws q) ≡ true → (is_written ws q ≡ true → IsSpelt k page) → IsSpelt k page
    by_case true e written rest = spelt_over k (write_page pages w.0 w.1) ws q page (here e) spelt.1 is
    by_case false e written rest = rest written

-- the pages in memory after an edit was staged
pub spelt_staged : (k : ℕ) (old new : PagesView) (ws : List (ℕ × List ℕ)) (fs : List ℕ) → ((n : ℕ) → at new.pages n ≡ after (at old.pages) ws fs n)
    → ((n : ℕ) → is_in_memory new n ≡ ((is_written ws n || is_in_memory old n) && not (is_freed fs n))) → AreSpelt k ws → AreSpeltIn k old → AreSpeltIn k new
spelt_staged k old new ws fs pages in_memory writes spelt n page here there =
    by_case (is_written ws n) (is_in_memory old n) (is_freed fs n) refl refl (sym (in_memory n) ∙ here) (unfreed (pages_with (at old.pages) ws) fs n page (sym (pages n) ∙ there))
  where
    by_case : (b c d : Bool) → is_written ws n ≡ b → is_in_memory old n ≡ c → ((b || c) && not d) ≡ true → pages_with (at old.pages) ws n ≡ Some page → IsSpelt k page
    by_case true c d written kept here is = spelt_written k (at old.pages) ws n page written writes is
    by_case false true d written kept here is = spelt_over k (at old.pages) ws n page (λ p there. spelt n p kept there) writes is
    by_case false false d written kept here is = absurd (cc)

-- the pages in memory after one of them was written over
pub spelt_written_over : (k : ℕ) (old new : PagesView) (n : ℕ) (page : List ℕ) → ((q : ℕ) → at new.pages q ≡ write_page (at old.pages) n page q) → ((q : ℕ) → is_in_memory new q ≡ is_in_memory old q) → IsSpelt k page → AreSpeltIn k old → AreSpeltIn k new
spelt_written_over k old new n page pages in_memory written spelt q bytes here there =
    by_case (eqb q n) (sym (pages q) ∙ there)
  where
    by_case : (b : Bool) → cond b (Some page) (at old.pages q) ≡ Some bytes → IsSpelt k bytes
    by_case true is = same_bytes k page bytes is written
    by_case false is = spelt q bytes (sym (in_memory q) ∙ here) is

-- what was found is there
pub some_found : {P : Type 0} (found : Option P) → is_none found ≡ false → is_some found ≡ true
some_found (Some page) is = refl
some_found None is = absurd (cc)

-- the page that was found in memory
pub found_there : {P : Type 0} (bytes : P → List ℕ) (found : Option P) (pages : PagesView) (n : ℕ) → is_none found ≡ false → IfSome found (λ page. at pages.pages n ≡ Some (bytes page)) → IsSome (at pages.pages n)
found_there bytes (Some page) pages n is there = subst IsSome (sym there) refl
found_there bytes None pages n is there = absurd (cc)

-- the pages in memory after one of them was changed
pub spelt_changed : (k n : ℕ) (change : PageChange) (old new : PagesView) → is_in_memory old n ≡ true → IsSome (at old.pages n) → ChangesPage k n change old.pages new.pages → ((q : ℕ) → is_in_memory new q ≡ is_in_memory old q) → CanChange k old n change → AreSpeltIn k old → AreSpeltIn k new
spelt_changed k n change old new here there made in_memory can spelt =
    by_page (at old.pages n) refl there
  where
    by_page : (page : Option (List ℕ)) → at old.pages n ≡ page → IsSome page → AreSpeltIn k new
    by_page (Some was) is some = spelt_written_over k old new n made.page made.pages in_memory (can.spelt here was made.page is (made.changed was is)) spelt
    by_page None is some = absurd (cc)

-- the pages in memory after calls that changed none
pub spelt_unchanged : (k : ℕ) (old new : PagesView) → OnlyReads old new → AreSpeltIn k old → AreSpeltIn k new
spelt_unchanged k old new same spelt n page here there =
    spelt n page (ap (λ (v : PagesView). is_in_memory v n) (sym same) ∙ here) (ap (λ (v : PagesView). at v.pages n) (sym same) ∙ there)

-- no page in memory
pub spelt_none : (k : ℕ) (pages : PagesView) → ((n : ℕ) → is_in_memory pages n ≡ false) → AreSpeltIn k pages
spelt_none k pages none n page here there = absurd (let never = sym here ∙ none n in cc)
