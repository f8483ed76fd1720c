-- The numbers of the pages that were not reached.
use Rattle.std.proofs.Common.{◌≡◌, ℕ, zero, suc, ◌+◌, ◌-◌, ◌<◌, ◌≤◌, ◌↔◌, Bool, true, false, not, cond, ◌&&◌, List, [], ◌∷◌, length, take, drop, get_or, eqb, nat_le, nat_lt, refl, ap, sym, ◌∙◌, arith}
use Rattle.std.proofs.lemmas.Bool.Decides.{nat_tests}
use Rattle.std.specs.Ordering.{nat_cmp}
use Rattle.std.specs.BTreeMap.{is_at}
use Rattle.page_store.proofs.NumberSetLemmas.{same_number_back}
use Rattle.btree_delete.specs.Survey.{unreached}

-- whether a number from 1 on and below n was not reached
abbrev pub is_free_below : List Bool → ℕ → ℕ → Bool
is_free_below bits n q = nat_le 1 q && (nat_lt q n && not (get_or bits q true))

all_three : (a b c : Bool) → a ≡ true → b ≡ true → c ≡ false → (a && (b && not c)) ≡ true
all_three a b c p q r = ap (λ (x : Bool). x && (b && not c)) p ∙ ap (λ (x : Bool). x && not c) q ∙ ap not r

last_one : (a b c : Bool) → c ≡ true → (a && (b && not c)) ≡ false
last_one true true c r = ap not r
last_one true false c r = refl
last_one false b c r = refl

not_below : (a b c : Bool) → b ≡ false → (a && (b && c)) ≡ false
not_below true b c r = ap (λ (x : Bool). x && c) r
not_below false b c r = refl

-- a number that was reached is none of them
pub free_kept : (bits : List Bool) (n q : ℕ) → get_or bits n true ≡ true → is_free_below bits n q ≡ is_free_below bits (n + 1) q
free_kept bits n q visited = at (eqb q n) refl
  where
    at : (b : Bool) → eqb q n ≡ b → is_free_below bits n q ≡ is_free_below bits (n + 1) q
    at true same =
        let q_is : q ≡ n = grind (arith, nat_tests) in
        let past : nat_lt q n ≡ false = grind (arith, nat_tests) in
        not_below (nat_le 1 q) (nat_lt q n) (not (get_or bits q true)) past ∙ sym (last_one (nat_le 1 q) (nat_lt q (n + 1)) (get_or bits q true) (ap (λ (x : ℕ). get_or bits x true) q_is ∙ visited))
    at false other = ap (λ (b : Bool). nat_le 1 q && (b && not (get_or bits q true))) (grind (arith, nat_tests))

-- and one that was not reached is one of them
pub free_put : (bits : List Bool) (n q : ℕ) → 1 ≤ n → get_or bits n true ≡ false → cond (eqb q n) true (is_free_below bits n q) ≡ is_free_below bits (n + 1) q
free_put bits n q some unvisited = at (eqb q n) refl
  where
    at : (b : Bool) → eqb q n ≡ b → cond (eqb q n) true (is_free_below bits n q) ≡ is_free_below bits (n + 1) q
    at true same =
        let q_is : q ≡ n = grind (arith, nat_tests) in
        let from : nat_le 1 q ≡ true = grind (arith, nat_tests) in
        let below : nat_lt q (n + 1) ≡ true = grind (arith, nat_tests) in
        ap (λ (b : Bool). cond b true (is_free_below bits n q)) same ∙ sym (all_three (nat_le 1 q) (nat_lt q (n + 1)) (get_or bits q true) from below (ap (λ (x : ℕ). get_or bits x true) q_is ∙ unvisited))
    at false other = ap (λ (b : Bool). cond b true (is_free_below bits n q)) other ∙ ap (λ (b : Bool). nat_le 1 q && (b && not (get_or bits q true))) (grind (arith, nat_tests))

-- one more number that wasn't reached is free
pub free_added : (bits : List Bool) (n q : ℕ) (old new : Bool) → 1 ≤ n → get_or bits n true ≡ false → old ≡ is_free_below bits n q → new ≡ cond (is_at (nat_cmp n) q) true old → new ≡ is_free_below bits (n + 1) q
free_added bits n q old new some unvisited was is =
    is ∙ ap (λ (b : Bool). cond b true old) (same_number_back n q) ∙ ap (λ (b : Bool). cond (eqb q n) true b) was ∙ free_put bits n q some unvisited

-- a number that wasn't reached is one of the pages'
pub within : (bits : List Bool) (q : ℕ) → get_or bits q true ≡ false → q < length bits
within [] q is = absurd (cc)
within (b ∷ bits) zero is = omega arith
within (b ∷ bits) (suc q) is = let rest = within bits q is in omega arith

both_parts : (a b c : Bool) → (a && (b && not c)) ≡ true → (a ≡ true) × (c ≡ false)
both_parts true true true is = absurd (cc)
both_parts true true false is = (refl, refl)
both_parts true false c is = absurd (cc)
both_parts false b c is = absurd (cc)

-- they are all where the end is reached
pub free_all : (bits : List Bool) (n q : ℕ) (b : Bool) → length bits ≤ n → b ≡ is_free_below bits n q → (b ≡ true) ↔ ((1 ≤ q) × (get_or bits q true ≡ false))
free_all bits n q b past is = (
  λ yes_is. let parts = both_parts (nat_le 1 q) (nat_lt q n) (get_or bits q true) (sym is ∙ yes_is) in (from q parts.0, parts.1),
  λ both. let low = within bits q both.1 in is ∙ all_three (nat_le 1 q) (nat_lt q n) (get_or bits q true) (up q both.0) (down q n (omega (arith, low, past))) both.1,
)
  where
    from : (q : ℕ) → nat_le 1 q ≡ true → 1 ≤ q
    from q is = grind (arith, nat_tests)

    up : (q : ℕ) → 1 ≤ q → nat_le 1 q ≡ true
    up q is = grind (arith, nat_tests)

    down : (q n : ℕ) → q < n → nat_lt q n ≡ true
    down q n is = grind (arith, nat_tests)

-- how many of them there are
next_visited : (bits : List Bool) (m : ℕ) → m < length bits → get_or bits m true ≡ true → unreached (take (suc m) bits) ≡ unreached (take m bits)
next_visited [] m low is = absurd (omega arith)
next_visited (true ∷ bits) zero low is = refl
next_visited (false ∷ bits) zero low is = absurd (cc)
next_visited (true ∷ bits) (suc m) low is = next_visited bits m (omega arith) is
next_visited (false ∷ bits) (suc m) low is = ap suc (next_visited bits m (omega arith) is)

next_unvisited : (bits : List Bool) (m : ℕ) → get_or bits m true ≡ false → unreached (take (suc m) bits) ≡ suc (unreached (take m bits))
next_unvisited [] m is = absurd (cc)
next_unvisited (true ∷ bits) zero is = absurd (cc)
next_unvisited (false ∷ bits) zero is = refl
next_unvisited (true ∷ bits) (suc m) is = next_unvisited bits m is
next_unvisited (false ∷ bits) (suc m) is = ap suc (next_unvisited bits m is)

-- a page that was reached adds no free number
pub count_visited : (bits : List Bool) (n : ℕ) → 1 ≤ n → n < length bits → get_or bits n true ≡ true → unreached (drop 1 (take (n + 1) bits)) ≡ unreached (drop 1 (take n bits))
count_visited bits zero some low is = absurd (omega arith)
count_visited [] (suc m) some low is = absurd (omega arith)
count_visited (b ∷ bits) (suc m) some low is = ap (λ (i : ℕ). unreached (drop 1 (take i (b ∷ bits)))) (next m) ∙ next_visited bits m (omega arith) is
  where
    next : (m : ℕ) → suc m + 1 ≡ suc (suc m)
    next m = omega arith

-- one that wasn't adds one
pub count_unvisited : (bits : List Bool) (n : ℕ) → 1 ≤ n → get_or bits n true ≡ false → unreached (drop 1 (take (n + 1) bits)) ≡ unreached (drop 1 (take n bits)) + 1
count_unvisited bits zero some is = absurd (omega arith)
count_unvisited [] (suc m) some is = absurd (cc)
count_unvisited (b ∷ bits) (suc m) some is = ap (λ (i : ℕ). unreached (drop 1 (take i (b ∷ bits)))) (next m) ∙ next_unvisited bits m is ∙ add (unreached (take m bits))
  where
    next : (m : ℕ) → suc m + 1 ≡ suc (suc m)
    next m = omega arith

    add : (x : ℕ) → suc x ≡ x + 1
    add x = omega arith

-- a number of the loop is none of those before it
pub new_number : (bits : List Bool) (n : ℕ) (old : Bool) → old ≡ is_free_below bits n n → old ≡ false
new_number bits n old is = is ∙ not_below (nat_le 1 n) (nat_lt n n) (not (get_or bits n true)) (grind (arith, nat_tests))

-- a number put into a set that hadn't it is one more
pub one_counted : (old new : ℕ) (added there : Bool) → added ≡ not there → there ≡ false → new ≡ old + cond added 1 0 → new ≡ old + 1
one_counted old new added there is absent count = count ∙ ap (λ (b : Bool). old + cond b 1 0) (is ∙ ap not absent)

-- no more pages are unreached than there are
pub few_unreached : (bits : List Bool) → unreached bits ≤ length bits
few_unreached [] = omega arith
few_unreached (true ∷ bits) = let rest = few_unreached bits in omega arith
few_unreached (false ∷ bits) = let rest = few_unreached bits in omega arith

-- page 0 is none of the free ones
pub few_free : (bits : List Bool) → unreached (drop 1 bits) ≤ length bits - 1
few_free [] = omega arith
few_free (b ∷ bits) = let rest = few_unreached bits in omega arith

-- page 0 counts among those that aren't reached
pub one_less : (bits : List Bool) → get_or bits 0 true ≡ false → unreached bits ≡ unreached (drop 1 bits) + 1
one_less [] is = absurd (cc)
one_less (true ∷ bits) is = absurd (cc)
one_less (false ∷ bits) is = omega arith
