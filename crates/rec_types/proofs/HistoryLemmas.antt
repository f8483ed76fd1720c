-- Taking back one change at a time, from the newest on, against taking back from a place on.
use Rattle.std.proofs.Common.{is_some, ◌≡◌, ℕ, ◌-◌, ◌<◌, ◌≤◌, zero, suc, Bool, true, false, cond, if◌then◌else◌, ◌&&◌, eqb, nat_lt, List, [], ◌∷◌, Option, Some, None, refl, sym, ap, ◌∙◌, arith}
use Rattle.std.proofs.lemmas.Bool.Decides.{nat_tests}
use Rattle.rec_types.specs.History.{Change, live_of, taken_back, live_from, take_back, take_newest, undo_last}
use Rattle.rec_types.specs.Kept.{Kept, change_of, history_of, newest_or, newest_from, newest_live, is_own, undone, undone_or}

pub live_of-taken_back : (t : ℕ) (c : Change) → live_of t (taken_back c) ≡ false
live_of-taken_back t c = at (eqb c.tx t)
  where
    at : (b : Bool) → b && false ≡ false
    at true = refl
    at false = refl

-- from a later place on there are no more
pub live_from-first : (h : List Change) (t p : ℕ) → live_from h t p ≤ live_from h t zero
live_from-first [] t p = omega arith
live_from-first (c ∷ h) t zero = omega arith
live_from-first (c ∷ h) t (suc p) = at (eqb c.tx t) (live_of t c) (live_from-first h t p) (live_from-first h t (suc p))
  where
    at : (b l : Bool) → live_from h t p ≤ live_from h t zero → live_from h t (suc p) ≤ live_from h t zero → cond b (live_from h t p) (live_from h t (suc p)) ≤ cond l (suc (live_from h t zero)) (live_from h t zero)
    at true true x y = omega arith
    at true false x y = x
    at false true x y = omega arith
    at false false x y = y

-- what is left after the newest n
pub live_from-take_newest : (h : List Change) (t p n : ℕ) → live_from (take_newest h t p n) t p ≡ live_from h t p - n
live_from-take_newest [] t p n = omega arith
live_from-take_newest (c ∷ h) t zero n = at (live_of t c) (nat_lt (live_from h t zero) n) refl refl (live_from-take_newest h t zero n)
  where
    later : ℕ
    later = live_from (take_newest h t zero n) t zero

    at : (own few : Bool) → live_of t c ≡ own → nat_lt (live_from h t zero) n ≡ few → later ≡ live_from h t zero - n → (if live_of t (if own && few then taken_back c else c) then suc later else later) ≡ (if own then suc (live_from h t zero) else live_from h t zero) - n
    at true true own few ih = ap (λ b. cond b (suc later) later) (live_of-taken_back t c) ∙ ih ∙ grind (arith, nat_tests)
    at true false own few ih = ap (λ b. cond b (suc later) later) own ∙ ap suc ih ∙ grind (arith, nat_tests)
    at false true own few ih = ap (λ b. cond b (suc later) later) own ∙ ih
    at false false own few ih = ap (λ b. cond b (suc later) later) own ∙ ih
live_from-take_newest (c ∷ h) t (suc p) n = at (eqb c.tx t) refl (live_from-take_newest h t p n) (live_from-take_newest h t (suc p) n)
  where
    at : (b : Bool) → eqb c.tx t ≡ b → live_from (take_newest h t p n) t p ≡ live_from h t p - n → live_from (take_newest h t (suc p) n) t (suc p) ≡ live_from h t (suc p) - n → (if b then live_from (if b then take_newest h t p n else take_newest h t (suc p) n) t p else live_from (if b then take_newest h t p n else take_newest h t (suc p) n) t (suc p)) ≡ (if b then live_from h t p else live_from h t (suc p)) - n
    at true same x y = x
    at false other x y = y

-- the newest none are none
pub take_newest-none : (h : List Change) (t p : ℕ) → take_newest h t p 0 ≡ h
take_newest-none [] t p = refl
take_newest-none (c ∷ h) t zero = at (live_of t c) (take_newest-none h t zero)
  where
    at : (own : Bool) → take_newest h t zero 0 ≡ h → (if own && nat_lt (live_from h t zero) 0 then taken_back c else c) ∷ take_newest h t zero 0 ≡ c ∷ h
    at true ih = none (nat_lt (live_from h t zero) 0) refl ih
      where
        none : (few : Bool) → nat_lt (live_from h t zero) 0 ≡ few → take_newest h t zero 0 ≡ h → (if few then taken_back c else c) ∷ take_newest h t zero 0 ≡ c ∷ h
        none true few ih = absurd (grind (arith, nat_tests))
        none false few ih = ap (λ xs. c ∷ xs) ih
    at false ih = ap (λ xs. c ∷ xs) ih
take_newest-none (c ∷ h) t (suc p) = at (eqb c.tx t) (take_newest-none h t p) (take_newest-none h t (suc p))
  where
    at : (b : Bool) → take_newest h t p 0 ≡ h → take_newest h t (suc p) 0 ≡ h → c ∷ (if b then take_newest h t p 0 else take_newest h t (suc p) 0) ≡ c ∷ h
    at true x y = ap (λ xs. c ∷ xs) x
    at false x y = ap (λ xs. c ∷ xs) y

-- the newest of all there are is each of them
pub take_newest-all : (h : List Change) (t p n : ℕ) → live_from h t p ≤ n → take_newest h t p n ≡ take_back h t p
take_newest-all [] t p n le = refl
take_newest-all (c ∷ h) t zero n le = at (live_of t c) (nat_lt (live_from h t zero) n) refl refl le (take_newest-all h t zero n)
  where
    at : (own few : Bool) → live_of t c ≡ own → nat_lt (live_from h t zero) n ≡ few → (if own then suc (live_from h t zero) else live_from h t zero) ≤ n → (live_from h t zero ≤ n → take_newest h t zero n ≡ take_back h t zero) → (if own && few then taken_back c else c) ∷ take_newest h t zero n ≡ (if own then taken_back c else c) ∷ take_back h t zero
    at true true own few le ih = ap (λ xs. taken_back c ∷ xs) (ih (omega arith))
    at true false own few le ih = absurd (grind (arith, nat_tests))
    at false true own few le ih = ap (λ xs. c ∷ xs) (ih le)
    at false false own few le ih = ap (λ xs. c ∷ xs) (ih le)
take_newest-all (c ∷ h) t (suc p) n le = at (eqb c.tx t) le (take_newest-all h t p n) (take_newest-all h t (suc p) n)
  where
    at : (b : Bool) → (if b then live_from h t p else live_from h t (suc p)) ≤ n → (live_from h t p ≤ n → take_newest h t p n ≡ take_back h t p) → (live_from h t (suc p) ≤ n → take_newest h t (suc p) n ≡ take_back h t (suc p)) → c ∷ (if b then take_newest h t p n else take_newest h t (suc p) n) ≡ c ∷ (if b then take_back h t p else take_back h t (suc p))
    at true le x y = ap (λ xs. c ∷ xs) (x le)
    at false le x y = ap (λ xs. c ∷ xs) (y le)

some_left : (L n : ℕ) → n < L → nat_lt 0 (L - n) ≡ true
some_left L n lt = grind (arith, nat_tests)

none_left : (L n : ℕ) → L ≤ n → nat_lt 0 (L - n) ≡ false
none_left L n le = grind (arith, nat_tests)

-- one more of the newest is the newest of what is left
pub take_newest-more : (h : List Change) (t p n : ℕ) → n < live_from h t p → take_newest h t p (suc n) ≡ undo_last t (take_newest h t p n)
take_newest-more [] t p n lt = absurd (omega arith)
take_newest-more (c ∷ h) t zero n lt = at (live_of t c) (nat_lt (live_from h t zero) n) (nat_lt (live_from h t zero) (suc n)) refl refl refl lt (take_newest-more h t zero n)
  where
    old : List Change
    old = take_newest h t zero n

    left : live_from old t zero ≡ live_from h t zero - n
    left = live_from-take_newest h t zero n

    further : (x : Change) → nat_lt 0 (live_from old t zero) ≡ true → undo_last t (x ∷ old) ≡ x ∷ undo_last t old
    further x some = ap (λ b. if b then x ∷ undo_last t old else (if live_of t x then taken_back x else x) ∷ old) some

    here : nat_lt 0 (live_from old t zero) ≡ false → live_of t c ≡ true → undo_last t (c ∷ old) ≡ taken_back c ∷ old
    here none own = ap (λ b. if b then c ∷ undo_last t old else (if live_of t c then taken_back c else c) ∷ old) none ∙ ap (λ b. (if b then taken_back c else c) ∷ old) own

    at : (own few more : Bool) → live_of t c ≡ own → nat_lt (live_from h t zero) n ≡ few → nat_lt (live_from h t zero) (suc n) ≡ more → n < (if own then suc (live_from h t zero) else live_from h t zero) → (n < live_from h t zero → take_newest h t zero (suc n) ≡ undo_last t old) → (if own && more then taken_back c else c) ∷ take_newest h t zero (suc n) ≡ undo_last t ((if own && few then taken_back c else c) ∷ old)
    at true true more own few is lt ih = absurd (grind (arith, nat_tests))
    at true false true own few is lt ih =
        let is_n : live_from h t zero ≡ n = grind (arith, nat_tests) in
        ap (λ xs. taken_back c ∷ xs) (take_newest-all h t zero (suc n) (omega arith) ∙ sym (take_newest-all h t zero n (omega arith)))
        ∙ sym (here (ap (nat_lt 0) left ∙ none_left (live_from h t zero) n (omega arith)) own)
    at true false false own few is lt ih =
        let above : n < live_from h t zero = grind (arith, nat_tests) in
        ap (λ xs. c ∷ xs) (ih above) ∙ sym (further c (ap (nat_lt 0) left ∙ some_left (live_from h t zero) n above))
    at false few more own is_few is lt ih = ap (λ xs. c ∷ xs) (ih lt) ∙ sym (further c (ap (nat_lt 0) left ∙ some_left (live_from h t zero) n lt))
take_newest-more (c ∷ h) t (suc p) n lt = at (eqb c.tx t) lt (take_newest-more h t p n) (take_newest-more h t (suc p) n)
  where
    further : (xs : List Change) (q : ℕ) → 0 < live_from xs t q → undo_last t (c ∷ xs) ≡ c ∷ undo_last t xs
    further xs q some =
        let first : 0 < live_from xs t zero = omega (arith, live_from-first xs t q) in
        let is : nat_lt 0 (live_from xs t zero) ≡ true = grind (arith, nat_tests) in
        ap (λ b. if b then c ∷ undo_last t xs else (if live_of t c then taken_back c else c) ∷ xs) is

    at : (b : Bool) → n < (if b then live_from h t p else live_from h t (suc p)) → (n < live_from h t p → take_newest h t p (suc n) ≡ undo_last t (take_newest h t p n)) → (n < live_from h t (suc p) → take_newest h t (suc p) (suc n) ≡ undo_last t (take_newest h t (suc p) n)) → c ∷ (if b then take_newest h t p (suc n) else take_newest h t (suc p) (suc n)) ≡ undo_last t (c ∷ (if b then take_newest h t p n else take_newest h t (suc p) n))
    at true lt x y = ap (λ xs. c ∷ xs) (x lt) ∙ sym (further (take_newest h t p n) p (omega (arith, live_from-take_newest h t p n)))
    at false lt x y = ap (λ xs. c ∷ xs) (y lt) ∙ sym (further (take_newest h t (suc p) n) (suc p) (omega (arith, live_from-take_newest h t (suc p) n)))

-- the newest live change exists where there is a live one
pub newest_from-some : (cs : List Kept) (t p : ℕ) → is_some (newest_from cs t p) ≡ nat_lt 0 (live_from (history_of cs) t p)
newest_from-some [] t p = refl
newest_from-some (c ∷ cs) t zero = at (newest_from cs t zero) (is_own t c) (newest_from-some cs t zero)
  where
    at : (o : Option Kept) (own : Bool) → is_some o ≡ nat_lt 0 (live_from (history_of cs) t zero) → is_some (newest_or o own c) ≡ nat_lt 0 (if own then suc (live_from (history_of cs) t zero) else live_from (history_of cs) t zero)
    at None true ih = grind (arith, nat_tests)
    at None false ih = ih
    at (Some d) true ih = grind (arith, nat_tests)
    at (Some d) false ih = ih
newest_from-some (c ∷ cs) t (suc p) = at (eqb c.tx t) (newest_from-some cs t p) (newest_from-some cs t (suc p))
  where
    at : (b : Bool) → is_some (newest_from cs t p) ≡ nat_lt 0 (live_from (history_of cs) t p) → is_some (newest_from cs t (suc p)) ≡ nat_lt 0 (live_from (history_of cs) t (suc p)) → is_some (if b then newest_from cs t p else newest_from cs t (suc p)) ≡ nat_lt 0 (if b then live_from (history_of cs) t p else live_from (history_of cs) t (suc p))
    at true x y = x
    at false x y = y

-- from a place on it is the newest of all
pub newest_from-live : (cs : List Kept) (t p : ℕ) (u : Kept) → newest_from cs t p ≡ Some u → newest_live t cs ≡ Some u
newest_from-live [] t p u is = absurd (cc)
newest_from-live (c ∷ cs) t zero u is = is
newest_from-live (c ∷ cs) t (suc p) u is = at (eqb c.tx t) is (newest_from-live cs t p u) (newest_from-live cs t (suc p) u)
  where
    later : newest_live t cs ≡ Some u → newest_or (newest_live t cs) (is_own t c) c ≡ Some u
    later is = ap (λ o. newest_or o (is_own t c) c) is

    at : (b : Bool) → (if b then newest_from cs t p else newest_from cs t (suc p)) ≡ Some u → (newest_from cs t p ≡ Some u → newest_live t cs ≡ Some u) → (newest_from cs t (suc p) ≡ Some u → newest_live t cs ≡ Some u) → newest_or (newest_live t cs) (is_own t c) c ≡ Some u
    at true is x y = later (x is)
    at false is x y = later (y is)

-- the history of what is kept, once its newest live change is taken back
pub history-undone : (t : ℕ) (cs : List Kept) → history_of (undone t cs) ≡ undo_last t (history_of cs)
history-undone t [] = refl
history-undone t (c ∷ cs) = at (newest_live t cs) (is_own t c) (newest_from-some cs t zero) (history-undone t cs) refl
  where
    at : (o : Option Kept) (own : Bool) → is_some o ≡ nat_lt 0 (live_from (history_of cs) t zero) → history_of (undone t cs) ≡ undo_last t (history_of cs) → live_of t (change_of c) ≡ own → history_of (undone_or o own c cs (undone t cs)) ≡ undo_last t (history_of (c ∷ cs))
    at (Some d) own some ih is = ap (λ h. change_of c ∷ h) ih ∙ ap (λ b. if b then change_of c ∷ undo_last t (history_of cs) else (if live_of t (change_of c) then taken_back (change_of c) else change_of c) ∷ history_of cs) some
    at None true some ih is = sym (ap (λ b. if b then change_of c ∷ undo_last t (history_of cs) else (if live_of t (change_of c) then taken_back (change_of c) else change_of c) ∷ history_of cs) (sym some) ∙ ap (λ b. (if b then taken_back (change_of c) else change_of c) ∷ history_of cs) is)
    at None false some ih is = sym (ap (λ b. if b then change_of c ∷ undo_last t (history_of cs) else (if live_of t (change_of c) then taken_back (change_of c) else change_of c) ∷ history_of cs) (sym some) ∙ ap (λ b. (if b then taken_back (change_of c) else change_of c) ∷ history_of cs) is)
