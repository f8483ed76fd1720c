-- How the pages around a tree stay when a part of it changes.
use Rattle.std.proofs.Common.{◌≡◌, ℕ, suc, ◌<◌, ◌≤◌, ◌⊎◌, ⊎_elim, inl, inr, None, List, ◌∷◌, ◌++◌, ap, sym, ◌∙◌, subst, refl, arith, length-append}
use Rattle.std.proofs.lemmas.Bool.{cases_lt}
use Rattle.page_store.specs.PageMap.{PageMap}
use Rattle.btree_node.specs.Lists.{Each}
use Rattle.btree_insert.specs.PageTrees.{IsIn, Apart}
use Rattle.btree_insert.specs.PagesGrown.{IsNew, PagesGrown}
use Rattle.btree_insert.proofs.Membership.{in_left, in_right, in_either, Apart-left, Apart-right, Apart-across, Apart-append, Apart-insert, each_in, in_each}

-- new numbers are not in use, and differ
pub record IsFree (pages : PageMap) (fresh : ℕ → ℕ) : Type 0 where
  pub free : (i : ℕ) → pages (fresh i) ≡ None
  pub apart : (i j : ℕ) → i < j → fresh i ≡ fresh j → ⊥

-- pages in use
abbrev pub InUse : PageMap → List ℕ → Type 0
InUse pages us = Each (λ q. pages q ≡ None → ⊥) us

widen : (fresh : ℕ → ℕ) (lo mid hi q : ℕ) → mid ≤ hi → IsNew fresh lo mid q → IsNew fresh lo hi q
widen fresh lo mid hi q le (i, low, high, is) = (i, low, omega arith, is)

-- a page in use is no new one
pub not_new : (pages : PageMap) (fresh : ℕ → ℕ) (lo hi q : ℕ) → IsFree pages fresh → (pages q ≡ None → ⊥) → IsNew fresh lo hi q → ⊥
not_new pages fresh lo hi q free used (i, low, high, is) = used (ap pages is ∙ free.free i)

-- nothing has changed
pub kept_none : (pages : PageMap) (fresh : ℕ → ℕ) (lo : ℕ) (us : List ℕ) → Apart us → PagesGrown pages pages fresh lo lo us us
kept_none pages fresh lo us apart = record {
  same = λ q _ _. refl;
  from = λ q is. inl is;
  stays = λ q is. ⊎_elim (λ old. old) (λ (new : IsNew fresh lo lo q). let (i, low, high, at) = new in absurd (omega arith)) is;
  apart = apart;
  count = refl;
}

-- pages in front that are in use
pub kept_behind_others : (old new : PageMap) (fresh : ℕ → ℕ) (lo hi : ℕ) (mine vs os : List ℕ) → IsFree old fresh → InUse old os → Apart (os ++ mine) → PagesGrown old new fresh lo hi mine vs
    → PagesGrown old new fresh lo hi (os ++ mine) (os ++ vs)
kept_behind_others old new fresh lo hi mine vs os free used apart kept = record {
  same = λ q out fresh_out. kept.same q (λ is. out (in_right q os mine is)) fresh_out;
  from = λ q is. ⊎_elim (λ other. inl (in_left q os mine other)) (λ own. ⊎_elim (λ was. inl (in_right q os mine was)) (λ made. inr made) (kept.from q own)) (in_either q os vs is);
  stays = λ q is. ⊎_elim (λ was. ⊎_elim (λ other. in_left q os vs other) (λ own. in_right q os vs (kept.stays q (inl own))) (in_either q os mine was)) (λ made. in_right q os vs (kept.stays q (inr made))) is;
  apart = Apart-append os vs (Apart-left os mine apart) kept.apart
      (λ q other own. ⊎_elim (λ was. Apart-across q os mine apart other was) (λ made. not_new old fresh lo hi q free (in_each (λ x. old x ≡ None → ⊥) os q used other) made) (kept.from q own));
  count = omega (arith, length-append os vs, length-append os mine, kept.count);
}

-- pages behind that are in use
pub kept_before_others : (old new : PageMap) (fresh : ℕ → ℕ) (lo hi : ℕ) (mine vs os : List ℕ) → IsFree old fresh → InUse old os → Apart (mine ++ os) → PagesGrown old new fresh lo hi mine vs
    → PagesGrown old new fresh lo hi (mine ++ os) (vs ++ os)
kept_before_others old new fresh lo hi mine vs os free used apart kept = record {
  same = λ q out fresh_out. kept.same q (λ is. out (in_left q mine os is)) fresh_out;
  from = λ q is. ⊎_elim (λ own. ⊎_elim (λ was. inl (in_left q mine os was)) (λ made. inr made) (kept.from q own)) (λ other. inl (in_right q mine os other)) (in_either q vs os is);
  stays = λ q is. ⊎_elim (λ was. ⊎_elim (λ own. in_left q vs os (kept.stays q (inl own))) (λ other. in_right q vs os other) (in_either q mine os was)) (λ made. in_left q vs os (kept.stays q (inr made))) is;
  apart = Apart-append vs os kept.apart (Apart-right mine os apart)
      (λ q own other. ⊎_elim (λ was. Apart-across q mine os apart was other) (λ made. not_new old fresh lo hi q free (in_each (λ x. old x ≡ None → ⊥) os q used other) made) (kept.from q own));
  count = omega (arith, length-append vs os, length-append mine os, kept.count);
}

-- a page of the tree written again
pub kept_write : (old mid new : PageMap) (fresh : ℕ → ℕ) (lo hi : ℕ) (us vs : List ℕ) (p : ℕ) → IsIn p us → ((q : ℕ) → (q ≡ p → ⊥) → new q ≡ mid q) → PagesGrown old mid fresh lo hi us vs → PagesGrown old new fresh lo hi us vs
kept_write old mid new fresh lo hi us vs p here own kept = record {
  same = λ q out fresh_out. own q (λ e. out (subst (λ (x : ℕ). IsIn x us) (sym e) here)) ∙ kept.same q out fresh_out;
  from = kept.from;
  stays = kept.stays;
  apart = kept.apart;
  count = kept.count;
}

-- the next new number is none of the pages so far
pub not_so_far : (old mid : PageMap) (fresh : ℕ → ℕ) (lo hi : ℕ) (us vs : List ℕ) → IsFree old fresh → InUse old us → PagesGrown old mid fresh lo hi us vs → IsIn (fresh hi) vs → ⊥
not_so_far old mid fresh lo hi us vs free used kept is =
    ⊎_elim (λ was. in_each (λ x. old x ≡ None → ⊥) us (fresh hi) used was (free.free hi))
    (λ (made : IsNew fresh lo hi (fresh hi)). let (i, low, high, at) = made in free.apart i hi high (sym at)) (kept.from (fresh hi) is)

-- one page more, where only pages of the tree changed
pub kept_more : (old mid new : PageMap) (fresh : ℕ → ℕ) (lo hi : ℕ) (us before behind : List ℕ) → IsFree old fresh → InUse old us → lo ≤ hi
    → ((q : ℕ) → (IsIn q us → ⊥) → (q ≡ fresh hi → ⊥) → new q ≡ mid q) → PagesGrown old mid fresh lo hi us (before ++ behind) → PagesGrown old new fresh lo (suc hi) us (before ++ fresh hi ∷ behind)
kept_more old mid new fresh lo hi us before behind free used le own kept =
    let r = fresh hi in
    record {
      same = λ q out fresh_out.
          own q out (λ e. fresh_out (hi, le, omega arith, e)) ∙ kept.same q out (λ made. fresh_out (widen fresh lo hi (suc hi) q (omega arith) made));
      from = λ q is.
          ⊎_elim (λ front. old_or_new q (in_left q before behind front))
          (λ rest. ⊎_elim (λ (e : q ≡ r). inr (hi, le, omega arith, e)) (λ back. old_or_new q (in_right q before behind back)) rest) (in_either q before (r ∷ behind) is);
      stays = λ q is.
          ⊎_elim (λ was. still q (kept.stays q (inl was)))
          (λ (made : IsNew fresh lo (suc hi) q). let (i, low, high, at) = made in ⊎_elim (λ (less : i < hi). still q (kept.stays q (inr (i, low, less, at)))) (λ (more : hi ≤ i). let i_is : i ≡ hi = omega arith in in_right q before (r ∷ behind) (inl (at ∙ ap fresh i_is))) (cases_lt i hi)) is;
      apart = Apart-insert before r behind kept.apart (not_so_far old mid fresh lo hi us (before ++ behind) free used kept);
      count = omega (arith, length-append before (r ∷ behind), length-append before behind, kept.count);
    }
  where
    old_or_new : (q : ℕ) → IsIn q (before ++ behind) → IsIn q us ⊎ IsNew fresh lo (suc hi) q
    old_or_new q is = ⊎_elim (λ was. inl was) (λ made. inr (widen fresh lo hi (suc hi) q (omega arith) made)) (kept.from q is)

    still : (q : ℕ) → IsIn q (before ++ behind) → IsIn q (before ++ fresh hi ∷ behind)
    still q is = ⊎_elim (λ front. in_left q before (fresh hi ∷ behind) front) (λ back. in_right q before (fresh hi ∷ behind) (inr back)) (in_either q before behind is)

-- a page of the tree written again, and one page more
pub kept_add : (old mid new : PageMap) (fresh : ℕ → ℕ) (lo hi : ℕ) (us before behind : List ℕ) (p : ℕ) → IsFree old fresh → InUse old us → lo ≤ hi → IsIn p us
    → ((q : ℕ) → (q ≡ p → ⊥) → (q ≡ fresh hi → ⊥) → new q ≡ mid q) → PagesGrown old mid fresh lo hi us (before ++ behind) → PagesGrown old new fresh lo (suc hi) us (before ++ fresh hi ∷ behind)
kept_add old mid new fresh lo hi us before behind p free used le here own kept =
    kept_more old mid new fresh lo hi us before behind free used le (λ q out not_new_page. own q (λ e. out (subst (λ (x : ℕ). IsIn x us) (sym e) here)) not_new_page) kept

-- the pages below p are as they were before p and perhaps a new page were written
pub same_below : (old mid new : PageMap) (fresh : ℕ → ℕ) (lo hi : ℕ) (us below : List ℕ) (p : ℕ) → IsFree old fresh → InUse old us → PagesGrown old mid fresh lo hi us (p ∷ below)
    → ((q : ℕ) → (q ≡ p → ⊥) → (q ≡ fresh hi → ⊥) → new q ≡ mid q) → Each (λ q. new q ≡ mid q) below
same_below old mid new fresh lo hi us below p free used kept own =
    each_in (λ q. new q ≡ mid q) below (λ q is. own q (λ e. kept.apart.0 (subst (λ (x : ℕ). IsIn x below) e is)) (λ e. not_so_far old mid fresh lo hi us (p ∷ below) free used kept (inr (subst (λ (x : ℕ). IsIn x below) e is))))
