-- Pages written over where they are in memory, and those that are made.
use Rattle.std.proofs.Common.{◌≡◌, ℕ, ◌+◌, ◌<◌, Bool, true, false, not, cond, ◌&&◌, List, [], ◌∷◌, length, Option, Some, None, IsSome, is_some, Box, All, get_or, take, set, eqb, zero, suc, inr, refl, sym, ap, subst, ◌∙◌, arith, length-set}
use Rattle.std.specs.Option.{option_map, unwrap_or}
use Rattle.std.specs.Ordering.{nat_cmp}
use Rattle.std.specs.BTreeMap.{is_at}
use Rattle.std.proofs.Math.Seq.{take-suc}
use Rattle.std.proofs.lemmas.Bool.{eq-eqb, false≢true}
use Rattle.std.proofs.lemmas.List.{map-set}
use Rattle.std.proofs.lemmas.List.Elements.{recursion_from_All}
use Rattle.std.proofs.lemmas.List.Folds.{list_any_at, list_any_more}
use Rattle.page_store.specs.PageMap.{at, is_written}
use Rattle.page_store.specs.Overlaid.{slots_of}
use Rattle.page_store.specs.Slots.{put_slots, AreTheNew}
use Rattle.page_store.proofs.NumberSetLemmas.{one_out, same_number_back}
use Rattle.page_store.proofs.Overlays.{at_written, slot_written, slot_not_written, written_is_some}
use Rattle.page_store.proofs.SlotLemmas.{put_more}

-- a page written over
pub slots_set : {Z : Type 0} (items : List (Option (Box (List ℕ) Z))) (n : ℕ) (page : Box (List ℕ) Z) → slots_of (set items n (Some page)) ≡ set (slots_of items) n (Some page.value)
slots_set {Z} items n page = map-set (option_map (λ (page : Box (List ℕ) Z). page.value)) items n (Some page)

some_within : (slots : List (Option (List ℕ))) (n : ℕ) → IsSome (at slots n) → n < length slots
some_within [] zero some = absurd (false≢true some)
some_within [] (suc n) some = absurd (false≢true some)
some_within (slot ∷ slots) zero some = omega arith
some_within (slot ∷ slots) (suc n) some = omega (arith, some_within slots n some)

some_there : (slots : List (Option (List ℕ))) (writes : List (ℕ × List ℕ)) (n : ℕ) → n < length slots → is_written writes n ≡ true → IsSome (at (put_slots slots writes) n)
some_there slots writes n below here =
    subst IsSome (sym (slot_written slots (λ q. None) writes n below (inr here))) (written_is_some (λ q. None) writes n (inr here))

some_by : (slots : List (Option (List ℕ))) (writes : List (ℕ × List ℕ)) (n : ℕ) (here : Bool) → is_written writes n ≡ here → IsSome (at slots n) → IsSome (at (put_slots slots writes) n)
some_by slots writes n true here some = some_there slots writes n (some_within slots n some) here
some_by slots writes n false here some = subst IsSome (sym (slot_not_written slots writes n here)) some

-- a slot with a page keeps one
pub some_stays : (slots : List (Option (List ℕ))) (writes : List (ℕ × List ℕ)) (n : ℕ) → IsSome (at slots n) → IsSome (at (put_slots slots writes) n)
some_stays slots writes n some = some_by slots writes n (is_written writes n) refl some

-- one more page written over
pub more_written : (old slots new : List (Option (List ℕ))) (writes : List (ℕ × List ℕ)) (i : ℕ) → i < length writes → slots ≡ put_slots old (take i writes) → new ≡ set slots (get_or writes i (0, [])).0 (Some (get_or writes i (0, [])).1) → new ≡ put_slots old (take (i + 1) writes)
more_written old slots new writes i below was is =
    let next : suc i ≡ i + 1 = omega arith in
    is ∙ ap (λ (s : List (Option (List ℕ))). set s (get_or writes i (0, [])).0 (Some (get_or writes i (0, [])).1)) was
    ∙ sym (put_more old (take i writes) (get_or writes i (0, [])))
    ∙ ap (put_slots old) (sym (take-suc writes i (0, []) below) ∙ ap (λ n. take n writes) next)

-- and its number isn't free
pub more_taken : (writes : List (ℕ × List ℕ)) (i q : ℕ) (old current new : Bool) → i < length writes → new ≡ cond (is_at (nat_cmp (get_or writes i (0, [])).0) q) false current → current ≡ (old && not (is_written (take i writes) q)) → new ≡ (old && not (is_written (take (i + 1) writes) q))
more_taken writes i q old current new below is was =
    is ∙ ap (λ b. cond b false current) (same_number_back (get_or writes i (0, [])).0 q)
    ∙ ap (λ c. cond (eqb q (get_or writes i (0, [])).0) false c) was
    ∙ one_out (eqb q (get_or writes i (0, [])).0) (is_written (take i writes) q) old
    ∙ ap (λ f. old && not f) (sym (list_any_more (λ (w : ℕ × List ℕ). eqb q w.0) writes i (0, []) below))

length-put_slots : (slots : List (Option (List ℕ))) (writes : List (ℕ × List ℕ)) → length (put_slots slots writes) ≡ length slots
length-put_slots slots [] = refl
length-put_slots slots (w ∷ writes) = length-put_slots (set slots w.0 (Some w.1)) writes ∙ length-set slots w.0 (Some w.1)

both : (a b : Bool) → (a && b) ≡ true → a ≡ true
both true b is = refl
both false b is = absurd (false≢true is)

-- each element of a list is written
here_at : (writes : List (ℕ × List ℕ)) (k : ℕ) (d : ℕ × List ℕ) → k < length writes → is_written writes (get_or writes k d).0 ≡ true
here_at writes k d below =
    list_any_at (λ (w : ℕ × List ℕ). eqb (get_or writes k d).0 w.0) writes k d below (eq-eqb (get_or writes k d).0 (get_or writes k d).0 refl)

module _ (slots : List (Option (List ℕ))) (writes made : List (ℕ × List ℕ)) (fits : All (λ (w : ℕ × List ℕ). w.0 < length slots) writes) (new : AreTheNew slots writes made) where
  below_all : (n : ℕ) → is_written writes n ≡ true → n < length slots
  below_all n here = at_written (λ q. q < length slots) writes n (recursion_from_All (λ (w : ℕ × List ℕ). w.0 < length slots) writes fits) here

  -- the new pages have slots
  pub new_fit : All (λ (w : ℕ × List ℕ). w.0 < length slots) made
  new_fit = λ k d below.
      let n = (get_or made k d).0 in
      below_all n (both (is_written writes n) (not (is_some (at slots n))) (sym (new n) ∙ here_at made k d below))

  there_by : (n : ℕ) (has : Bool) → is_some (at slots n) ≡ has → is_written writes n ≡ true → IsSome (at (put_slots slots made) n)
  there_by n true some here = some_stays slots made n some
  there_by n false none here = some_there slots made n (below_all n here) (new n ∙ rw (here, none) refl)

  -- with them, each page that is written is in memory
  pub all_there : All (λ (w : ℕ × List ℕ). IsSome (at (put_slots slots made) w.0)) writes
  all_there = λ k d below. let n = (get_or writes k d).0 in there_by n (is_some (at slots n)) refl (here_at writes k d below)

  over_by : (n : ℕ) (here : Bool) → is_written writes n ≡ here → at (put_slots (put_slots slots made) writes) n ≡ at (put_slots slots writes) n
  over_by n true here =
      let below = below_all n here in
      slot_written (put_slots slots made) (λ q. None) writes n (omega (arith, below, length-put_slots slots made)) (inr here)
      ∙ sym (slot_written slots (λ q. None) writes n below (inr here))
  over_by n false gone =
      slot_not_written (put_slots slots made) writes n gone
      ∙ slot_not_written slots made n (new n ∙ rw gone refl)
      ∙ sym (slot_not_written slots writes n gone)

  -- and what is written over them is as if they had not been put there
  pub over_them : (n : ℕ) → at (put_slots (put_slots slots made) writes) n ≡ at (put_slots slots writes) n
  over_them n = over_by n (is_written writes n) refl

-- the page in a slot that was found there
pub value_in : {Z : Type 0} (items : List (Option (Box (List ℕ) Z))) (n : ℕ) (slot : Option (Box (List ℕ) Z)) (page : Box (List ℕ) Z) (was : List ℕ) → slot ≡ get_or items n slot → slot ≡ Some page → at (slots_of items) n ≡ Some was → page.value ≡ was
value_in {Z} [] n slot page was here is there = absurd (none_is_no (sym there))
  where
    none_is_no : Some was ≡ None → ⊥
    none_is_no e = absurd (cc)
value_in {Z} (item ∷ items) zero slot page was here is there =
    ap (λ (o : Option (List ℕ)). unwrap_or o []) (sym (ap (option_map (λ (page : Box (List ℕ) Z). page.value)) (sym here ∙ is)) ∙ there)
value_in {Z} (item ∷ items) (suc n) slot page was here is there = value_in items n slot page was here is there
