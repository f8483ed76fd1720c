-- What becomes of the changes that a rollback under way is to take back, while others make their calls.
use Rattle.std.proofs.Common.{◌≡◌, ℕ, zero, suc, Bool, true, false, if◌then◌else◌, ◌&&◌, eqb, nat_lt, List, [], ◌∷◌, ◌++◌, Some, slice_get, refl, sym, ap, ◌∙◌, arith}
use Rattle.std.proofs.lemmas.Bool.Decides.{nat_tests}
use Rattle.rec_types.specs.History.{Change, live_of, live_from, taken_back, take_back, take_newest}
use Rattle.rec_types.proofs.HistoryLemmas.{live_of-taken_back}
use Rattle.tx_log.specs.Remaining.{LosesLives}
use Rattle.tx_log.proofs.RemainingLemmas.{leaves-take_newest}

-- what the whole take makes of the transaction's changes stays
abbrev pub Stays : ℕ → ℕ → List Change → List Change → Type 0
Stays t p h h2 =
    (i : ℕ) (past : Change) → slice_get h i ≡ Some past → past.tx ≡ t
    → (now : Change) × (slice_get h2 i ≡ Some now) × (now.tx ≡ t) × (slice_get (take_back h2 t p) i ≡ slice_get (take_back h t p) i)

pub stays_same : (t p : ℕ) (h : List Change) → Stays t p h h
stays_same t p h i past is mine = (past, is, mine, refl)

pub stays_on : (t p : ℕ) (h h2 h3 : List Change) → Stays t p h h2 → Stays t p h2 h3 → Stays t p h h3
stays_on t p h h2 h3 first next i past is mine =
    let mid = first i past is mine in
    let last = next i mid.0 mid.1 mid.2 in
    (last.0, last.1, last.2, last.3 ∙ mid.3)

in_front : (h : List Change) (c : Change) (i : ℕ) (past : Change) → slice_get h i ≡ Some past → slice_get (h ++ c ∷ []) i ≡ Some past
in_front [] c i past is = absurd (cc)
in_front (d ∷ h) c zero past is = is
in_front (d ∷ h) c (suc i) past is = in_front h c i past is

taken_front : (t p : ℕ) (h : List Change) (c : Change) (i : ℕ) (past : Change) → slice_get h i ≡ Some past → slice_get (take_back (h ++ c ∷ []) t p) i ≡ slice_get (take_back h t p) i
taken_front t p [] c i past is = absurd (cc)
taken_front t zero (d ∷ h) c zero past is = refl
taken_front t zero (d ∷ h) c (suc i) past is = taken_front t zero h c i past is
taken_front t (suc p) (d ∷ h) c zero past is = refl
taken_front t (suc p) (d ∷ h) c (suc i) past is = at (eqb d.tx t) (taken_front t p h c i past is) (taken_front t (suc p) h c i past is)
  where
    at : (b : Bool) → slice_get (take_back (h ++ c ∷ []) t p) i ≡ slice_get (take_back h t p) i → slice_get (take_back (h ++ c ∷ []) t (suc p)) i ≡ slice_get (take_back h t (suc p)) i
        → slice_get (if b then take_back (h ++ c ∷ []) t p else take_back (h ++ c ∷ []) t (suc p)) i ≡ slice_get (if b then take_back h t p else take_back h t (suc p)) i
    at true own other = own
    at false own other = other

-- one more change
pub stays_push : (t p : ℕ) (h : List Change) (c : Change) → Stays t p h (h ++ c ∷ [])
stays_push t p h c i past is mine = (past, in_front h c i past is, mine, taken_front t p h c i past is)

lives_on : (h h2 : List Change) (i : ℕ) (past : Change) → LosesLives h h2 → slice_get h i ≡ Some past → (now : Change) × (slice_get h2 i ≡ Some now) × (now.tx ≡ past.tx)
lives_on [] [] i past leaves is = absurd (cc)
lives_on [] (d ∷ h2) i past leaves is = absurd leaves
lives_on (c ∷ h) [] i past leaves is = absurd leaves
lives_on (c ∷ h) (d ∷ h2) zero past leaves is = let here : c ≡ past = cc in (d, refl, ap (λ (x : Change). x.tx) leaves.0 ∙ ap (λ (x : Change). x.tx) here)
lives_on (c ∷ h) (d ∷ h2) (suc i) past leaves is = lives_on h h2 i past leaves.2 is

-- the transaction's own rollback goes on
mine_taken : (t p n : ℕ) (h : List Change) → take_back (take_newest h t p n) t p ≡ take_back h t p
mine_taken t p n [] = refl
mine_taken t zero n (c ∷ h) = λ i. at (live_of t c) (nat_lt (live_from h t zero) n) refl i ∷ mine_taken t zero n h i
  where
    at : (own few : Bool) → live_of t c ≡ own → (if live_of t (if own && few then taken_back c else c) then taken_back (if own && few then taken_back c else c) else (if own && few then taken_back c else c)) ≡ (if own then taken_back c else c)
    at true true is = ap (λ b. if b then taken_back (taken_back c) else taken_back c) (live_of-taken_back t c)
    at true false is = ap (λ b. if b then taken_back c else c) is
    at false few is = ap (λ b. if b then taken_back c else c) is
mine_taken t (suc p) n (c ∷ h) = ap (λ rest. c ∷ rest) (at (eqb c.tx t) (mine_taken t p n h) (mine_taken t (suc p) n h))
  where
    at : (b : Bool) → take_back (take_newest h t p n) t p ≡ take_back h t p → take_back (take_newest h t (suc p) n) t (suc p) ≡ take_back h t (suc p)
        → (if b then take_back (if b then take_newest h t p n else take_newest h t (suc p) n) t p else take_back (if b then take_newest h t p n else take_newest h t (suc p) n) t (suc p)) ≡ (if b then take_back h t p else take_back h t (suc p))
    at true own other = own
    at false own other = other

pub stays_mine : (t p n : ℕ) (h : List Change) → Stays t p h (take_newest h t p n)
stays_mine t p n h i past is mine =
    let now = lives_on h (take_newest h t p n) i past (leaves-take_newest h t p n) is in
    (now.0, now.1, now.2 ∙ mine, ap (λ (g : List Change). slice_get g i) (mine_taken t p n h))

-- a change of another transaction isn't live for this one
not_own : (u t : ℕ) (c : Change) → (u ≡ t → ⊥) → c.tx ≡ t → live_of u c ≡ false
not_own u t c apart mine = at (eqb c.tx u) refl
  where
    at : (b : Bool) → eqb c.tx u ≡ b → b && c.live ≡ false
    at true same = let is : c.tx ≡ u = grind (arith, nat_tests) in absurd (apart (sym is ∙ mine))
    at false differ = refl

other_taken : (t u : ℕ) → (u ≡ t → ⊥) → (h : List Change) (p q n i : ℕ) (past : Change) → slice_get h i ≡ Some past → past.tx ≡ t → slice_get (take_back (take_newest h u q n) t p) i ≡ slice_get (take_back h t p) i
other_taken t u apart [] p q n i past is mine = absurd (cc)
other_taken t u apart (c ∷ h) p zero n i past is mine = at p i is (live_of u c && nat_lt (live_from h u zero) n) (own_head i is) (λ p j is. other_taken t u apart h p zero n j past is mine)
  where
    own_head : (i : ℕ) → slice_get (c ∷ h) i ≡ Some past → i ≡ zero → live_of u c && nat_lt (live_from h u zero) n ≡ false
    own_head zero is first = let here : c ≡ past = cc in ap (λ b. b && nat_lt (live_from h u zero) n) (not_own u t c apart (ap (λ (x : Change). x.tx) here ∙ mine))
    own_head (suc i) is first = absurd (cc)

    by : (p i : ℕ) (b : Bool) → ((p : ℕ) → slice_get (take_back (take_newest h u zero n) t p) i ≡ slice_get (take_back h t p) i)
        → slice_get (if b then take_back (take_newest h u zero n) t p else take_back (take_newest h u zero n) t (suc p)) i ≡ slice_get (if b then take_back h t p else take_back h t (suc p)) i
    by p i true ih = ih p
    by p i false ih = ih (suc p)

    at : (p i : ℕ) → slice_get (c ∷ h) i ≡ Some past → (b : Bool) → (i ≡ zero → b ≡ false) → ((p j : ℕ) → slice_get h j ≡ Some past → slice_get (take_back (take_newest h u zero n) t p) j ≡ slice_get (take_back h t p) j)
        → slice_get (take_back ((if b then taken_back c else c) ∷ take_newest h u zero n) t p) i ≡ slice_get (take_back (c ∷ h) t p) i
    at p zero is true head ih = absurd (cc (head refl))
    at zero zero is false head ih = refl
    at (suc p) zero is false head ih = refl
    at zero (suc i) is b head ih = ih zero i is
    at (suc p) (suc i) is true head ih = by p i (eqb c.tx t) (λ k. ih k i is)
    at (suc p) (suc i) is false head ih = by p i (eqb c.tx t) (λ k. ih k i is)
other_taken t u apart (c ∷ h) p (suc q) n i past is mine = at p i is (λ p j is. later p j (eqb c.tx u) (other_taken t u apart h p q n j past is mine) (other_taken t u apart h p (suc q) n j past is mine))
  where
    later : (p j : ℕ) (b : Bool) → slice_get (take_back (take_newest h u q n) t p) j ≡ slice_get (take_back h t p) j → slice_get (take_back (take_newest h u (suc q) n) t p) j ≡ slice_get (take_back h t p) j
        → slice_get (take_back (if b then take_newest h u q n else take_newest h u (suc q) n) t p) j ≡ slice_get (take_back h t p) j
    later p j true own other = own
    later p j false own other = other

    by : (g : List Change) (p i : ℕ) (b : Bool) → ((p : ℕ) → slice_get (take_back g t p) i ≡ slice_get (take_back h t p) i)
        → slice_get (if b then take_back g t p else take_back g t (suc p)) i ≡ slice_get (if b then take_back h t p else take_back h t (suc p)) i
    by g p i true ih = ih p
    by g p i false ih = ih (suc p)

    at : (p i : ℕ) → slice_get (c ∷ h) i ≡ Some past → ((p j : ℕ) → slice_get h j ≡ Some past → slice_get (take_back (if eqb c.tx u then take_newest h u q n else take_newest h u (suc q) n) t p) j ≡ slice_get (take_back h t p) j)
        → slice_get (take_back (c ∷ (if eqb c.tx u then take_newest h u q n else take_newest h u (suc q) n)) t p) i ≡ slice_get (take_back (c ∷ h) t p) i
    at zero zero is ih = refl
    at (suc p) zero is ih = refl
    at zero (suc i) is ih = ih zero i is
    at (suc p) (suc i) is ih = by (if eqb c.tx u then take_newest h u q n else take_newest h u (suc q) n) p i (eqb c.tx t) (λ k. ih k i is)

-- another transaction's changes are taken back
pub stays_other : (t p u q n : ℕ) (h : List Change) → (u ≡ t → ⊥) → Stays t p h (take_newest h u q n)
stays_other t p u q n h apart i past is mine =
    let now = lives_on h (take_newest h u q n) i past (leaves-take_newest h u q n) is in
    (now.0, now.1, now.2 ∙ mine, other_taken t u apart h p q n i past is mine)
