-- How what is left of the pages around a tree composes.
use Rattle.std.proofs.Common.{◌≡◌, ℕ, ◌⊎◌, ⊎_elim, inl, inr, Bool, true, false, eqb, None, List, [], ◌∷◌, ◌++◌, refl, sym, ◌∙◌, subst, arith, length-append}
use Rattle.page_store.specs.PageMap.{PageMap}
use Rattle.btree_insert.specs.PageTrees.{IsIn, Apart}
use Rattle.btree_insert.proofs.Membership.{in_left, in_right, in_either, Apart-left, Apart-right, Apart-across, Apart-append}
use Rattle.btree_delete.specs.PagesLeft.{PagesLeft}
use Rattle.btree_delete.specs.Shrinking.{Loses}
use Rattle.btree_delete.proofs.EditedPagesLemmas.{same_number}
use Rattle.btree_delete.proofs.EditLemmas.{differ_back}

-- a number is one of a list or not
pub in_or_not : (q : ℕ) (us : List ℕ) → IsIn q us ⊎ (IsIn q us → ⊥)
in_or_not q [] = inr (λ is. is)
in_or_not q (u ∷ us) = at (eqb q u) refl (in_or_not q us)
  where
    at : (b : Bool) → eqb q u ≡ b → IsIn q us ⊎ (IsIn q us → ⊥) → IsIn q (u ∷ us) ⊎ (IsIn q (u ∷ us) → ⊥)
    at true is rest = inl (inl (same_number q u is))
    at false is rest = ⊎_elim (λ later. inl (inr later)) (λ never. inr (λ is_in. ⊎_elim (λ e. differ_back q u is e) never is_in)) rest

-- nothing has changed
pub left_none : (pages : PageMap) (us : List ℕ) → Apart us → PagesLeft pages pages us us
left_none pages us apart = record {
  same = λ q _. refl;
  within = λ q is. is;
  gone = λ q is out. absurd (out is);
  apart = apart;
}

-- two changes, one after the other
pub left_trans : (old mid new : PageMap) (us vs ws : List ℕ) → PagesLeft old mid us vs → PagesLeft mid new vs ws → PagesLeft old new us ws
left_trans old mid new us vs ws first next = record {
  same = λ q out. next.same q (λ is. out (first.within q is)) ∙ first.same q out;
  within = λ q is. first.within q (next.within q is);
  gone = λ q is out. ⊎_elim (λ mid_in. next.gone q mid_in out) (λ mid_out. next.same q mid_out ∙ first.gone q is mid_out) (in_or_not q vs);
  apart = next.apart;
}

-- pages before and behind
pub left_around : (old new : PageMap) (pre mine vs post : List ℕ) → Apart (pre ++ (mine ++ post)) → PagesLeft old new mine vs → PagesLeft old new (pre ++ (mine ++ post)) (pre ++ (vs ++ post))
left_around old new pre mine vs post apart left =
    let inner = Apart-right pre (mine ++ post) apart in
    record {
      same = λ q out. left.same q (λ is. out (in_right q pre (mine ++ post) (in_left q mine post is)));
      within = λ q is.
          ⊎_elim (λ front. in_left q pre (mine ++ post) front)
          (λ rest. ⊎_elim (λ own. in_right q pre (mine ++ post) (in_left q mine post (left.within q own))) (λ back. in_right q pre (mine ++ post) (in_right q mine post back)) (in_either q vs post rest))
          (in_either q pre (vs ++ post) is);
      gone = λ q is out.
          ⊎_elim (λ front. absurd (out (in_left q pre (vs ++ post) front)))
          (λ rest. ⊎_elim (λ own. left.gone q own (λ kept. out (in_right q pre (vs ++ post) (in_left q vs post kept)))) (λ back. absurd (out (in_right q pre (vs ++ post) (in_right q vs post back)))) (in_either q mine post rest))
          (in_either q pre (mine ++ post) is);
      apart = Apart-append pre (vs ++ post) (Apart-left pre (mine ++ post) apart)
          (Apart-append vs post left.apart (Apart-right mine post inner) (λ q own back. Apart-across q mine post inner (left.within q own) back))
          (λ q front rest. Apart-across q pre (mine ++ post) apart front (⊎_elim (λ own. in_left q mine post (left.within q own)) (λ back. in_right q mine post back) (in_either q vs post rest)));
    }

-- the same pages, perhaps in another order, with other bytes
pub left_set : (old new : PageMap) (us vs : List ℕ) → ((q : ℕ) → (IsIn q us → ⊥) → new q ≡ old q) → ((q : ℕ) → IsIn q vs → IsIn q us) → ((q : ℕ) → IsIn q us → IsIn q vs) → Apart vs → PagesLeft old new us vs
left_set old new us vs others within stays apart = record {
  same = others;
  within = within;
  gone = λ q is out. absurd (out (stays q is));
  apart = apart;
}

-- a page of the tree written again
pub left_write : (old mid new : PageMap) (us vs : List ℕ) (p : ℕ) → IsIn p vs → ((q : ℕ) → (q ≡ p → ⊥) → new q ≡ mid q) → PagesLeft old mid us vs → PagesLeft old new us vs
left_write old mid new us vs p here others left =
    left_trans old mid new us vs vs left
    (left_set mid new vs vs (λ q out. others q (λ e. out (subst (λ (x : ℕ). IsIn x vs) (sym e) here))) (λ q is. is) (λ q is. is) left.apart)

Apart-drop : (pre : List ℕ) (p : ℕ) (post : List ℕ) → Apart (pre ++ p ∷ post) → Apart (pre ++ post)
Apart-drop pre p post apart =
    Apart-append pre post (Apart-left pre (p ∷ post) apart) (Apart-right pre (p ∷ post) apart).1 (λ q front back. Apart-across q pre (p ∷ post) apart front (inr back))

-- a page freed
pub left_drop : (old new : PageMap) (pre : List ℕ) (p : ℕ) (post : List ℕ) → Apart (pre ++ p ∷ post) → new p ≡ None → ((q : ℕ) → (IsIn q (pre ++ p ∷ post) → ⊥) → new q ≡ old q) → PagesLeft old new (pre ++ p ∷ post) (pre ++ post)
left_drop old new pre p post apart none others = record {
  same = others;
  within = λ q is. ⊎_elim (λ front. in_left q pre (p ∷ post) front) (λ back. in_right q pre (p ∷ post) (inr back)) (in_either q pre post is);
  gone = λ q is out.
      ⊎_elim (λ front. absurd (out (in_left q pre post front)))
      (λ rest. ⊎_elim (λ (e : q ≡ p). subst (λ (x : ℕ). new x ≡ None) (sym e) none) (λ back. absurd (out (in_right q pre post back))) rest) (in_either q pre (p ∷ post) is);
  apart = Apart-drop pre p post apart;
}

-- nothing is lost
pub loses_none : (pages : PageMap) (lo : ℕ) (us : List ℕ) → Apart us → Loses pages pages lo lo us us
loses_none pages lo us apart = record { left = left_none pages us apart; count = refl }

-- two losses, one after the other
pub loses_trans : (old mid new : PageMap) (lo md hi : ℕ) (us vs ws : List ℕ) → Loses old mid lo md us vs → Loses mid new md hi vs ws → Loses old new lo hi us ws
loses_trans old mid new lo md hi us vs ws first next = record {
  left = left_trans old mid new us vs ws first.left next.left;
  count = omega (arith, first.count, next.count);
}

-- a part's loss is the whole's
pub loses_around : (old new : PageMap) (lo hi : ℕ) (pre mine vs post : List ℕ) → Apart (pre ++ (mine ++ post)) → Loses old new lo hi mine vs → Loses old new lo hi (pre ++ (mine ++ post)) (pre ++ (vs ++ post))
loses_around old new lo hi pre mine vs post apart loses = record {
  left = left_around old new pre mine vs post apart loses.left;
  count = omega (arith, loses.count, length-append pre (mine ++ post), length-append mine post, length-append pre (vs ++ post), length-append vs post);
}
