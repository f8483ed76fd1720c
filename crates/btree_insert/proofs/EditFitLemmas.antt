-- Which writes an edit may have, and which nodes can stand after an insertion.
use Rattle.std.proofs.Common.{◌≡◌, ℕ, zero, suc, ◌+◌, ◌^◌, ◌<◌, ◌≤◌, ◌⊎◌, ⊎_elim, inl, inr, Bool, true, false, ◌||◌, eqb, Option, IsSome, List, [], ◌∷◌, ◌++◌, length, get_or, set, take, drop, refl, ap, sym, ◌∙◌, subst, arith, eq-eqb, Some, None}
use Rattle.std.specs.List.{AllByRecursion, list_any, insert}
use Rattle.std.proofs.lemmas.List.{take-append-drop}
use Rattle.std.proofs.lemmas.List.Folds.{list_any-append}
use Rattle.std.proofs.lemmas.Bool.{cases_lt}
use Rattle.page_store.specs.PageMap.{at, is_written}
use Rattle.page_store.specs.FreeNumbers.{candidate}
use Rattle.page_store.specs.CanStage.{IsTaken}
use Rattle.page_store.specs.declared.page_edit.PageEdit.{PageEdit}
use Rattle.btree_node.specs.declared.node.Node.{Node}
use Rattle.btree_node.specs.Layout.{second_layout}
use Rattle.btree_node.specs.Lists.{Element, Each, Ascends, IsPlace}
use Rattle.btree_node.specs.Spelling.{ElementFits, IsSon}
use Rattle.btree_node.proofs.ElementOrderLemmas.{Each_at, Each-append}
use Rattle.btree_node.proofs.SplitLemmas.{Each-take, Each-drop}
use Rattle.btree_insert.specs.declared.bounds.Bounds.{Bounds}
use Rattle.btree_insert.specs.declared.insert_below.Grown.{Grown}
use Rattle.btree_insert.specs.declared.insert_below.Grown.TheVariants.{Replaced, Fits, Split}
use Rattle.btree_insert.specs.Bounds.{Over, Under, AreWithin}
use Rattle.btree_insert.specs.Contents.{set_in}
use Rattle.btree_insert.specs.Growth.{IsWithin, MayBeOverfull, WritesFit, TakesNumbers, SplitGoesUp, WritesOrSplits, replaced}
use Rattle.btree_insert.proofs.ElementMapLemmas.{put-none, put-ascends}

abbrev Written : List (Option (List ℕ)) → ℕ → ℕ × List ℕ → Type 0
Written pages taken w = IsSome (at pages w.0) ⊎ IsTaken pages taken w.0

written_push : (pages : List (Option (List ℕ))) (taken : ℕ) (ws : List (ℕ × List ℕ)) (w : ℕ × List ℕ) → AllByRecursion (Written pages taken) ws → Written pages taken w → AllByRecursion (Written pages taken) (ws ++ w ∷ [])
written_push pages taken [] w all new = (new, tt)
written_push pages taken (v ∷ ws) w all new = (all.0, written_push pages taken ws w all.1 new)

written_more : (pages : List (Option (List ℕ))) (taken : ℕ) (ws : List (ℕ × List ℕ)) → AllByRecursion (Written pages taken) ws → AllByRecursion (Written pages (taken + 1)) ws
written_more pages taken [] all = tt
written_more pages taken (w ∷ ws) all =
    (⊎_elim (λ used. inl used) (λ (new : IsTaken pages taken w.0). let (i, low, is) = new in inr (i, omega arith, is)) all.0, written_more pages taken ws all.1)

still_written : (ws : List (ℕ × List ℕ)) (w : ℕ × List ℕ) (q : ℕ) → is_written ws q ≡ true → is_written (ws ++ w ∷ []) q ≡ true
still_written ws w q is = list_any-append (λ (v : ℕ × List ℕ). eqb q v.0) ws (w ∷ []) ∙ ap (λ b. b || list_any (λ (v : ℕ × List ℕ). eqb q v.0) (w ∷ [])) is

-- where the second of two tests holds, one does
pub or_true : (b c : Bool) → c ≡ true → (b || c) ≡ true
or_true true c is = refl
or_true false c is = is

now_written : (ws : List (ℕ × List ℕ)) (q : ℕ) (page : List ℕ) → is_written (ws ++ (q, page) ∷ []) q ≡ true
now_written ws q page =
    list_any-append (λ (v : ℕ × List ℕ). eqb q v.0) ws ((q, page) ∷ [])
    ∙ or_true (list_any (λ (v : ℕ × List ℕ). eqb q v.0) ws) (list_any (λ (v : ℕ × List ℕ). eqb q v.0) ((q, page) ∷ [])) (ap (λ b. b || false) (eq-eqb q q refl))

-- a page in use is written
pub fits_write : (pages : List (Option (List ℕ))) (ws : List (ℕ × List ℕ)) (taken n : ℕ) (page : List ℕ) → IsSome (at pages n) → WritesFit pages ws taken → WritesFit pages (ws ++ (n, page) ∷ []) taken
fits_write pages ws taken n page used fits = record {
  written = written_push pages taken ws (n, page) fits.written (inl used);
  taken_written = λ i low. still_written ws (n, page) (candidate pages i) (fits.taken_written i low);
}

-- the next number is taken and written
pub fits_take : (pages : List (Option (List ℕ))) (ws : List (ℕ × List ℕ)) (taken n : ℕ) (page : List ℕ) → n ≡ candidate pages taken → WritesFit pages ws taken → WritesFit pages (ws ++ (n, page) ∷ []) (taken + 1)
fits_take pages ws taken n page is fits = record {
  written = written_push pages (taken + 1) ws (n, page) (written_more pages taken ws fits.written) (inr (taken, omega arith, is));
  taken_written = λ i low.
      ⊎_elim (λ (less : i < taken). still_written ws (n, page) (candidate pages i) (fits.taken_written i less))
      (λ (more : taken ≤ i). let i_is : n ≡ candidate pages i = is ∙ ap (candidate pages) (omega arith) in subst (λ q. is_written (ws ++ (n, page) ∷ []) q ≡ true) i_is (now_written ws n page))
      (cases_lt i taken);
}

-- the middle of a cut node can stand in the father
pub up_fits : (bounds : Bounds) (k : ℕ) (n : Node) (middle : Element) (i right : ℕ) → MayBeOverfull k n → AreWithin bounds n.elements.items → i < length n.elements.items → middle ≡ get_or n.elements.items i middle → 0 < right → right < 2 ^ 32
    → ElementFits second_layout middle × IsWithin bounds middle.0 × IsSon right
up_fits bounds k n middle i right may_be_overfull within low is some most = (
  Each_at (ElementFits second_layout) n.elements.items i middle may_be_overfull.fit low is,
  (Each_at (λ e. Over bounds.low e.0) n.elements.items i middle within.over low is, Each_at (λ e. Under bounds.high e.0) n.elements.items i middle within.under low is),
  record { some = some; most = most },
)

-- what holds of each holds with one more
pub Each-insert : {X : Type 0} (P : X → Type 0) (xs : List X) (i : ℕ) (x : X) → Each P xs → P x → Each P (insert xs i x)
Each-insert P xs i x each new = Each-append P (take i xs) (x ∷ drop i xs) (Each-take P i xs each) (new, Each-drop P i xs each)

-- and with one in another's place
pub Each-set : {X : Type 0} (P : X → Type 0) (xs : List X) (i : ℕ) (x : X) → Each P xs → P x → Each P (set xs i x)
Each-set P [] i x each new = tt
Each-set P (y ∷ ys) zero x each new = (new, each.1)
Each-set P (y ∷ ys) (suc i) x each new = (each.0, Each-set P ys i x each.1 new)

-- putting a new key in is an insertion at its place
pub put_is_insert : (key value : List ℕ) (els : List Element) (i : ℕ) → IsPlace els key i → set_in key (Some value) els ≡ insert els i (key, value)
put_is_insert key value els i place = ap (set_in key (Some value)) (sym (take-append-drop i els)) ∙ put-none key value (take i els) (drop i els) place.below place.above

-- elements ascend with one more at its place
pub insert_ascends : (e : Element) (els : List Element) (i : ℕ) → Ascends els → IsPlace els e.0 i → Ascends (insert els i e)
insert_ascends e els i up place = subst Ascends (put_is_insert e.0 e.1 els i place) (put-ascends e.0 e.1 els up)

-- a page in use may be written
pub wrote_fits : (pages : List (Option (List ℕ))) (ws next : List (ℕ × List ℕ)) (taken later n : ℕ) (page : List ℕ) → next ≡ ws ++ (n, page) ∷ [] → later ≡ taken → IsSome (at pages n) → WritesFit pages ws taken → WritesFit pages next later
wrote_fits pages ws next taken later n page next_is later_is used fits =
    subst (λ (t : ℕ). WritesFit pages next t) (sym later_is) (subst (λ (vs : List (ℕ × List ℕ)). WritesFit pages vs taken) (sym next_is) (fits_write pages ws taken n page used fits))

-- the next number may be taken and written
pub took_fits : (pages : List (Option (List ℕ))) (ws next : List (ℕ × List ℕ)) (taken later n : ℕ) (page : List ℕ) → next ≡ ws ++ (n, page) ∷ [] → later ≡ taken + 1 → n ≡ candidate pages taken → WritesFit pages ws taken → WritesFit pages next later
took_fits pages ws next taken later n page next_is later_is is fits =
    subst (λ (t : ℕ). WritesFit pages next t) (sym later_is) (subst (λ (vs : List (ℕ × List ℕ)). WritesFit pages vs (taken + 1)) (sym next_is) (fits_take pages ws taken n page is fits))

-- through one level more
pub takes_more : (height low hi : ℕ) (g : Grown) → TakesNumbers height low hi g → TakesNumbers (height + 1) low hi g
takes_more height low hi (Replaced value) takes = takes
takes_more height low hi Fits takes = (takes.0, omega (arith, takes.1))
takes_more height low hi (Split middle right) takes = (takes.0, omega (arith, takes.1))

pub nothing_splits : {P : Type 0} (middle : Element) (right : ℕ) → ((m : Element) (r : ℕ) → Split middle right ≡ Split m r → ⊥) → P
nothing_splits middle right never = absurd (never middle right refl)

-- nothing goes up where no page was split
pub stays_within : (low high : Bounds) (g : Grown) → ((m : Element) (r : ℕ) → g ≡ Split m r → ⊥) → SplitGoesUp low g → SplitGoesUp high g
stays_within low high (Replaced value) never up = tt
stays_within low high Fits never up = tt
stays_within low high (Split middle right) never up = nothing_splits middle right never

-- a node with one key more takes the place of no record
pub never_replaced : (k fresh : ℕ) (old new : PageEdit) (n : ℕ) (node : Node) (grown : Grown) → WritesOrSplits k fresh old new n node grown → replaced grown ≡ None
never_replaced k fresh old new n node (Replaced value) wrote = absurd wrote
never_replaced k fresh old new n node Fits wrote = refl
never_replaced k fresh old new n node (Split middle right) wrote = refl
