-- Calls of a store, counted.
use Rattle.std.proofs.Common.{◌≡◌, ◌≢◌, ℕ, ◌+◌, ◌<◌, ◌≤◌, Bool, true, false, cond, zero, suc, refl, sym, ap, ◌∙◌, ⊎_elim, Result, Ok, Err, OnOk, OnErr, arith}
use Rattle.std.proofs.lemmas.Bool.{cases_eq}
use Rattle.std.proofs.Math.Numerals.{add-one}
use Rattle.rec_types.specs.Table.{counted}
use Rattle.page_store.specs.declared.store_fault.StoreFault.{StoreFault}
use Rattle.page_store.specs.Calls.{counted_times, CountedUpTo, how_many}

-- calls counted on top of calls
pub counted_again : (old calls more : ℕ) → counted_times (counted_times old calls) more ≡ counted_times old (calls + more)
counted_again old calls zero = let e : calls ≡ calls + zero = omega arith in ap (counted_times old) e
counted_again old calls (suc more) =
    ap (λ k. counted k true) (counted_again old calls more) ∙ ap (counted_times old) (let e : suc (calls + more) ≡ calls + suc more = omega arith in e)

-- one call more
pub counted_once : (old calls : ℕ) → counted (counted_times old calls) true ≡ counted_times old (calls + 1)
counted_once old calls = ap (counted_times old) (sym (add-one calls))

-- calls after others
pub after_calls : (old mid new calls most : ℕ) → mid ≡ counted_times old calls → CountedUpTo most mid new → CountedUpTo (calls + most) old new
after_calls old mid new calls most is up = (
  calls + up.0,
  let some = up.1 in omega arith,
  let few = up.2 in omega arith,
  up.3 ∙ ap (λ k. counted_times k up.0) is ∙ counted_again old calls up.0,
)

-- at most few is at most many
pub no_more : (old new few most : ℕ) → few ≤ most → CountedUpTo few old new → CountedUpTo most old new
no_more old new few most fits up = (up.0, up.1, (let below = up.2 in omega arith), up.3)

-- one more number that passes
pub one_more_yes : (test : ℕ → Bool) (n : ℕ) → test n ≡ true → how_many test (n + 1) ≡ how_many test n + 1
one_more_yes test n passes = ap (how_many test) (add-one n) ∙ ap {B = ℕ} (λ b. cond b (how_many test n + 1) (how_many test n)) passes

-- one more number that doesn't
pub one_more_no : (test : ℕ → Bool) (n : ℕ) → test n ≡ false → how_many test (n + 1) ≡ how_many test n
one_more_no test n fails = ap (how_many test) (add-one n) ∙ ap {B = ℕ} (λ b. cond b (how_many test n + 1) (how_many test n)) fails

no_fewer : (b : Bool) (k : ℕ) → k ≤ cond b (k + 1) k
no_fewer true k = omega arith
no_fewer false k = omega arith

-- among more numbers no fewer pass
pub how_many_rises : (test : ℕ → Bool) (n m : ℕ) → n ≤ m → how_many test n ≤ how_many test m
how_many_rises test n zero below = let e : n ≡ 0 = omega arith in let f = ap (how_many test) e in omega arith
how_many_rises test n (suc m) below =
    ⊎_elim (λ (same : n ≡ suc m). let f = ap (how_many test) same in omega arith)
    (λ (other : n ≢ suc m). let low = how_many_rises test n m (omega arith) in let up = no_fewer (test m) (how_many test m) in omega arith)
    (cases_eq n (suc m))

-- a number that passes is one of those below a greater one
pub how_many_below : (test : ℕ → Bool) (n m : ℕ) → n < m → test n ≡ true → how_many test n + 1 ≤ how_many test m
how_many_below test n m below passes = let up = how_many_rises test (n + 1) m (omega arith) in let e = one_more_yes test n passes in omega arith

-- tests that are alike
pub how_many_same : (test like : ℕ → Bool) (n : ℕ) → ((k : ℕ) → test k ≡ like k) → how_many test n ≡ how_many like n
how_many_same test like zero same = refl
how_many_same test like (suc n) same =
    ap {B = ℕ} (λ b. cond b (how_many test n + 1) (how_many test n)) (same n) ∙ ap {B = ℕ} (λ k. cond (like n) (k + 1) k) (how_many_same test like n same)

-- calls after others, where each was made
pub then_calls : (old mid new calls more : ℕ) → mid ≡ counted_times old calls → new ≡ counted_times mid more → new ≡ counted_times old (calls + more)
then_calls old mid new calls more is later = later ∙ ap (λ k. counted_times k more) is ∙ counted_again old calls more

-- calls that all were made are at most as many
pub all_calls : (old new calls most : ℕ) → 1 ≤ calls → calls ≤ most → new ≡ counted_times old calls → CountedUpTo most old new
all_calls old new calls most some few is = (calls, some, few, is)

-- what holds anyway holds of a value
pub always : {A E P : Type 0} (r : Result A E) → P → OnOk r P
always (Ok x) p = p
always (Err e) p = tt

-- and at a fault
pub on_err : {A E P : Type 0} (r : Result A E) → P → OnErr r P
on_err (Ok x) p = tt
on_err (Err e) p = p

-- the last calls on top of those before
pub last_calls : (r : Result (Unit {0}) StoreFault) (old mid new calls more all : ℕ) → mid ≡ counted_times old calls → calls + more ≡ all → OnOk r (new ≡ counted_times mid more) → OnOk r (new ≡ counted_times old all)
last_calls (Ok x) old mid new calls more all is sum last = then_calls old mid new calls more is last ∙ ap (counted_times old) sum
last_calls (Err e) old mid new calls more all is sum last = tt

-- the same, where the last ones may have stopped
pub last_up_to : (r : Result (Unit {0}) StoreFault) (old mid new calls most all : ℕ) → mid ≡ counted_times old calls → calls + most ≤ all → OnErr r (CountedUpTo most mid new) → OnErr r (CountedUpTo all old new)
last_up_to (Ok x) old mid new calls most all is fits last = tt
last_up_to (Err e) old mid new calls most all is fits last = no_more old new (calls + most) all fits (after_calls old mid new calls most is last)
