-- A place in the history against the number of the record that was the newest when it was set.
use Rattle.std.proofs.Common.{◌≡◌, ℕ, zero, suc, ◌+◌, ◌<◌, ◌≤◌, Bool, true, false, cond, eqb, ltb, leb, ◌&&◌, List, [], ◌∷◌, ◌++◌, length, Option, Some, None, refl, sym, ap, subst, ◌∙◌, arith, length-append}
use Rattle.std.proofs.lemmas.Bool.Decides.{nat_tests}
use Rattle.std.proofs.lemmas.List.Elements.{filter-append}
use Rattle.std.proofs.lemmas.List.{append-nil}
use Rattle.std.specs.List.{filter}
use Rattle.rec_types.specs.History.{live_from, own_count}
use Rattle.rec_types.specs.Kept.{Kept, history_of, is_own, newest_or, newest_from, newest_live, undone_or, undone}
use Rattle.tx_log.proofs.Chains.{last_of-le}
use Rattle.tx_log.proofs.Lives.{first, single, lives}
use Rattle.tx_log.specs.Log.{lsn_of, tx_of_record, tells_change, noted, kept_by, kept_of, last_of, IsNumbered}
use Rattle.tx_log.specs.Places.{place_of_number}
use Rattle.tx_log.specs.declared.log_record.LogRecord.{LogRecord}

-- the numbers of the changes rise, above low and up to high
abbrev pub Rises : ℕ → List Kept → ℕ → Type 0
Rises low [] high = low ≤ high
Rises low (c ∷ cs) high = (low < c.lsn) × Rises c.lsn cs high

rises-more : (low : ℕ) (cs : List Kept) (high more : ℕ) → high ≤ more → Rises low cs high → Rises low cs more
rises-more low [] high more h is = omega arith
rises-more low (c ∷ cs) high more h is = (is.0, rises-more c.lsn cs high more h is.1)

rises-push : (low : ℕ) (cs : List Kept) (d : Kept) (high : ℕ) → high < d.lsn → Rises low cs high → Rises low (cs ++ d ∷ []) d.lsn
rises-push low [] d high h is = (omega arith, omega arith)
rises-push low (c ∷ cs) d high h is = (is.0, rises-push c.lsn cs d high h is.1)

rises_case : (o : Option Kept) (b : Bool) (c : Kept) (cs done : List Kept) (low high : ℕ) → low < c.lsn → Rises c.lsn cs high → Rises c.lsn done high → Rises low (undone_or o b c cs done) high
rises_case (Some d) b c cs done low high h is step = (h, step)
rises_case None true c cs done low high h is step = (h, is)
rises_case None false c cs done low high h is step = (h, is)

rises-undone : (t low : ℕ) (cs : List Kept) (high : ℕ) → Rises low cs high → Rises low (undone t cs) high
rises-undone t low [] high is = is
rises-undone t low (c ∷ cs) high is = rises_case (newest_live t cs) (is_own t c) c cs (undone t cs) low high is.0 is.1 (rises-undone t c.lsn cs high is.1)

rises_step : (k : Bool) (r : LogRecord) (cs : List Kept) (high : ℕ) → lsn_of r ≡ high + 1 → Rises 0 cs high → Rises 0 (kept_by k r cs) (high + 1)
rises_step true r cs high is rises =
    let P : ℕ → Type 0 = λ n. Rises 0 (cs ++ noted r ∷ []) n in
    subst P is (rises-push 0 cs (noted r) high (omega arith) rises)
rises_step false r cs high is rises = rises-more 0 (undone (tx_of_record r) cs) high (high + 1) (omega arith) (rises-undone (tx_of_record r) 0 cs high rises)

-- the numbers of a log's updates rise along its changes
pub kept_rises : (rs : List LogRecord) → IsNumbered rs → Rises 0 (kept_of rs) (length rs)
kept_rises [] is = omega arith
kept_rises (r ∷ rs) is =
    let P : ℕ → Type 0 = λ n. Rises 0 (kept_by (tells_change r) r (kept_of rs)) n in
    let e : length rs + 1 ≡ suc (length rs) = omega arith in
    subst P e (rises_step (tells_change r) r (kept_of rs) (length rs) is.0 (kept_rises rs is.3))

-- ---- above a place

-- whether a change was logged after a number
abbrev pub above : ℕ → Kept → Bool
above s c = ltb s c.lsn

over : (m n : ℕ) → leb m n ≡ false → ltb n m ≡ true
over m n h = grind (arith, nat_tests)

not_over : (m n : ℕ) → leb m n ≡ true → ltb n m ≡ false
not_over m n h = grind (arith, nat_tests)

above_is : (m n : ℕ) → leb m n ≡ false → n < m
above_is m n h = grind (arith, nat_tests)

not_below : (m n : ℕ) → n < m → leb m n ≡ false
not_below m n h = grind (arith, nat_tests)

is_below : (m n : ℕ) → m ≤ n → leb m n ≡ true
is_below m n h = grind (arith, nat_tests)

and_nothing : (b : Bool) → (b && false) ≡ false
and_nothing true = refl
and_nothing false = refl

place_of_test : (t s : ℕ) (c : Kept) (cs : List Kept) (b : Bool) → ((eqb c.tx t) && leb c.lsn s) ≡ b → place_of_number t s (c ∷ cs) ≡ cond b (suc (place_of_number t s cs)) (place_of_number t s cs)
place_of_test t s c cs b e = ap (λ (b : Bool). cond b (suc (place_of_number t s cs)) (place_of_number t s cs)) e

-- no change at most s
pub place-none : (t s low : ℕ) (cs : List Kept) (high : ℕ) → Rises low cs high → s ≤ low → place_of_number t s cs ≡ 0
place-none t s low [] high is h = refl
place-none t s low (c ∷ cs) high is h =
    place_of_test t s c cs false (ap (λ b. eqb c.tx t && b) (not_below c.lsn s (omega (arith, is.0))) ∙ and_nothing (eqb c.tx t))
    ∙ place-none t s c.lsn cs high is.1 (omega (arith, is.0))

-- number 0 is the beginning
pub place-zero : (t : ℕ) (cs : List Kept) (high : ℕ) → Rises 0 cs high → place_of_number t 0 cs ≡ 0
place-zero t cs high is = place-none t 0 0 cs high is (omega arith)

-- a change of another transaction is in no place
live_from_other : (t : ℕ) (c : Kept) (cs : List Kept) (p : ℕ) → eqb c.tx t ≡ false → live_from (history_of (c ∷ cs)) t p ≡ live_from (history_of cs) t p
live_from_other t c cs zero e = ap (λ (b : Bool). cond (b && c.live) (suc (live_from (history_of cs) t zero)) (live_from (history_of cs) t zero)) e
live_from_other t c cs (suc p) e = ap (λ (b : Bool). cond b (live_from (history_of cs) t p) (live_from (history_of cs) t (suc p))) e

newest_or_other : (o : Option Kept) (c : Kept) → newest_or o false c ≡ o
newest_or_other None c = refl
newest_or_other (Some d) c = refl

newest_from_other : (t : ℕ) (c : Kept) (cs : List Kept) (p : ℕ) → eqb c.tx t ≡ false → newest_from (c ∷ cs) t p ≡ newest_from cs t p
newest_from_other t c cs zero e = ap (λ (b : Bool). newest_or (newest_from cs t zero) (b && c.live) c) e ∙ newest_or_other (newest_from cs t zero) c
newest_from_other t c cs (suc p) e = ap (λ (b : Bool). cond b (newest_from cs t p) (newest_from cs t (suc p))) e

-- the live changes above s: what the front adds
filter_single_low : (s : ℕ) (c : Kept) (b : Bool) (us : List Kept) → (b ≡ true → above s c ≡ false) → filter (above s) (us ++ single b c) ≡ filter (above s) us
filter_single_low s c true us e = filter-append (above s) us (c ∷ []) ∙ ap (λ (b : Bool). filter (above s) us ++ cond b (c ∷ []) []) (e refl) ∙ append-nil (filter (above s) us)
filter_single_low s c false us e = ap (filter (above s)) (append-nil us)

filter_single_high : (s : ℕ) (c : Kept) (b : Bool) (us : List Kept) → above s c ≡ true → filter (above s) (us ++ single b c) ≡ filter (above s) us ++ single b c
filter_single_high s c true us e = filter-append (above s) us (c ∷ []) ∙ ap (λ (b : Bool). filter (above s) us ++ cond b (c ∷ []) []) e
filter_single_high s c false us e = ap (filter (above s)) (append-nil us) ∙ sym (append-nil (filter (above s) us))

abbrev above_list : ℕ → ℕ → List Kept → List Kept
above_list t s cs = filter (above s) (lives t cs)

record AtPlace (t s : ℕ) (cs : List Kept) : Type 0 where
  counted : live_from (history_of cs) t (place_of_number t s cs) ≡ length (above_list t s cs)
  newest : newest_from cs t (place_of_number t s cs) ≡ first (above_list t s cs)

pub length_single : (us : List Kept) (b : Bool) (c : Kept) → length (us ++ single b c) ≡ cond b (suc (length us)) (length us)
length_single us true c = omega (arith, length-append us (c ∷ []))
length_single us false c = ap length (append-nil us)

first_single : (us : List Kept) (b : Bool) (c : Kept) → newest_or (first us) b c ≡ first (us ++ single b c)
first_single [] true c = refl
first_single [] false c = refl
first_single (u ∷ us) b c = refl

-- at a change of the transaction at most s
low_case : (t s : ℕ) (c : Kept) (cs : List Kept) → AtPlace t s cs → eqb c.tx t ≡ true → leb c.lsn s ≡ true → AtPlace t s (c ∷ cs)
low_case t s c cs at own low =
    let p = place_of_number t s cs in
    let here : place_of_number t s (c ∷ cs) ≡ suc p = place_of_test t s c cs true (ap (λ b. b && leb c.lsn s) own ∙ low) in
    let same : above_list t s (c ∷ cs) ≡ above_list t s cs = filter_single_low s c (is_own t c) (lives t cs) (λ _. not_over c.lsn s low) in
    record {
      counted = ap (live_from (history_of (c ∷ cs)) t) here ∙ ap (λ (b : Bool). cond b (live_from (history_of cs) t p) (live_from (history_of cs) t (suc p))) own ∙ at.counted ∙ ap length (sym same);
      newest = ap (newest_from (c ∷ cs) t) here ∙ ap (λ (b : Bool). cond b (newest_from cs t p) (newest_from cs t (suc p))) own ∙ at.newest ∙ ap first (sym same);
    }

-- at a change of the transaction above s, after which all are
high_case : (t s : ℕ) (c : Kept) (cs : List Kept) (high : ℕ) → Rises c.lsn cs high → AtPlace t s cs → leb c.lsn s ≡ false → AtPlace t s (c ∷ cs)
high_case t s c cs high is at up =
    let none : place_of_number t s cs ≡ 0 = place-none t s c.lsn cs high is (let h = above_is c.lsn s up in omega arith) in
    let here : place_of_number t s (c ∷ cs) ≡ 0 = place_of_test t s c cs false (ap (λ b. eqb c.tx t && b) up ∙ and_nothing (eqb c.tx t)) ∙ none in
    let more : above_list t s (c ∷ cs) ≡ above_list t s cs ++ single (is_own t c) c = filter_single_high s c (is_own t c) (lives t cs) (over c.lsn s up) in
    let counted_there : live_from (history_of cs) t 0 ≡ length (above_list t s cs) = ap (live_from (history_of cs) t) (sym none) ∙ at.counted in
    let newest_there : newest_from cs t 0 ≡ first (above_list t s cs) = ap (newest_from cs t) (sym none) ∙ at.newest in
    record {
      counted = ap (live_from (history_of (c ∷ cs)) t) here ∙ ap (λ n. cond (is_own t c) (suc n) n) counted_there ∙ sym (length_single (above_list t s cs) (is_own t c) c) ∙ ap length (sym more);
      newest = ap (newest_from (c ∷ cs) t) here ∙ ap (λ o. newest_or o (is_own t c) c) newest_there ∙ first_single (above_list t s cs) (is_own t c) c ∙ ap first (sym more);
    }

-- at a change of another transaction
other_case : (t s : ℕ) (c : Kept) (cs : List Kept) → AtPlace t s cs → eqb c.tx t ≡ false → AtPlace t s (c ∷ cs)
other_case t s c cs at other =
    let here : place_of_number t s (c ∷ cs) ≡ place_of_number t s cs = place_of_test t s c cs false (ap (λ b. b && leb c.lsn s) other) in
    let same : above_list t s (c ∷ cs) ≡ above_list t s cs = ap (λ b. filter (above s) (lives t cs ++ single (b && c.live) c)) other ∙ ap (filter (above s)) (append-nil (lives t cs)) in
    record {
      counted = ap (live_from (history_of (c ∷ cs)) t) here ∙ live_from_other t c cs (place_of_number t s cs) other ∙ at.counted ∙ ap length (sym same);
      newest = ap (newest_from (c ∷ cs) t) here ∙ newest_from_other t c cs (place_of_number t s cs) other ∙ at.newest ∙ ap first (sym same);
    }

case_at : (t s : ℕ) (c : Kept) (cs : List Kept) (high : ℕ) → Rises c.lsn cs high → AtPlace t s cs → (a : Bool) → eqb c.tx t ≡ a → (b : Bool) → leb c.lsn s ≡ b → AtPlace t s (c ∷ cs)
case_at t s c cs high is at false own b up = other_case t s c cs at own
case_at t s c cs high is at true own true up = low_case t s c cs at own up
case_at t s c cs high is at true own false up = high_case t s c cs high is at up

at_place : (t s low : ℕ) (cs : List Kept) (high : ℕ) → Rises low cs high → AtPlace t s cs
at_place t s low [] high is = record { counted = refl; newest = refl }
at_place t s low (c ∷ cs) high is = case_at t s c cs high is.1 (at_place t s c.lsn cs high is.1) (eqb c.tx t) refl (leb c.lsn s) refl

-- the live changes at a place or above are those with a number above that of the savepoint
pub live_from-place : (t s : ℕ) (cs : List Kept) (high : ℕ) → Rises 0 cs high → live_from (history_of cs) t (place_of_number t s cs) ≡ length (filter (above s) (lives t cs))
live_from-place t s cs high is = (at_place t s 0 cs high is).counted

-- the newest change from a savepoint's place on is the newest one logged after its number
pub newest_from-place : (t s : ℕ) (cs : List Kept) (high : ℕ) → Rises 0 cs high → newest_from cs t (place_of_number t s cs) ≡ first (filter (above s) (lives t cs))
newest_from-place t s cs high is = (at_place t s 0 cs high is).newest

-- ---- a place stays

-- a change logged later leaves the place
pub place-push : (t s : ℕ) (cs : List Kept) (d : Kept) → s < d.lsn → place_of_number t s (cs ++ d ∷ []) ≡ place_of_number t s cs
place-push t s [] d h = place_of_test t s d [] false (ap (λ b. eqb d.tx t && b) (not_below d.lsn s h) ∙ and_nothing (eqb d.tx t))
place-push t s (c ∷ cs) d h = ap (λ n. cond (eqb c.tx t && leb c.lsn s) (suc n) n) (place-push t s cs d h)

place_undone_case : (t s : ℕ) (o : Option Kept) (b : Bool) (c : Kept) (cs done : List Kept) → place_of_number t s done ≡ place_of_number t s cs → place_of_number t s (undone_or o b c cs done) ≡ place_of_number t s (c ∷ cs)
place_undone_case t s (Some d) b c cs done e = ap (λ n. cond (eqb c.tx t && leb c.lsn s) (suc n) n) e
place_undone_case t s None true c cs done e = refl
place_undone_case t s None false c cs done e = refl

-- so does taking one back
pub place-undone : (t s u : ℕ) (cs : List Kept) → place_of_number t s (undone u cs) ≡ place_of_number t s cs
place-undone t s u [] = refl
place-undone t s u (c ∷ cs) = place_undone_case t s (newest_live u cs) (is_own u c) c cs (undone u cs) (place-undone t s u cs)

place_step : (k : Bool) (t s : ℕ) (r : LogRecord) (cs : List Kept) → s < lsn_of r → place_of_number t s (kept_by k r cs) ≡ place_of_number t s cs
place_step true t s r cs h = place-push t s cs (noted r) h
place_step false t s r cs h = place-undone t s (tx_of_record r) cs

-- and so does a newer record
pub place-grows : (t s : ℕ) (r : LogRecord) (rs : List LogRecord) → s < lsn_of r → place_of_number t s (kept_of (r ∷ rs)) ≡ place_of_number t s (kept_of rs)
place-grows t s r rs h = place_step (tells_change r) t s r (kept_of rs) h

-- ---- a new savepoint

-- the changes of the transaction have numbers of at most s
abbrev OwnUpTo : ℕ → ℕ → List Kept → Type 0
OwnUpTo t s [] = Unit {0}
OwnUpTo t s (c ∷ cs) = (eqb c.tx t ≡ true → c.lsn ≤ s) × OwnUpTo t s cs

own_more : (t s n : ℕ) (cs : List Kept) → s ≤ n → OwnUpTo t s cs → OwnUpTo t n cs
own_more t s n [] h is = tt
own_more t s n (c ∷ cs) h is = (λ own. let low = is.0 own in omega arith, own_more t s n cs h is.1)

own_push : (t s : ℕ) (cs : List Kept) (d : Kept) → OwnUpTo t s cs → (eqb d.tx t ≡ true → d.lsn ≤ s) → OwnUpTo t s (cs ++ d ∷ [])
own_push t s [] d is h = (h, tt)
own_push t s (c ∷ cs) d is h = (is.0, own_push t s cs d is.1 h)

own_undone_case : (t s : ℕ) (o : Option Kept) (b : Bool) (c : Kept) (cs done : List Kept) → (eqb c.tx t ≡ true → c.lsn ≤ s) → OwnUpTo t s cs → OwnUpTo t s done → OwnUpTo t s (undone_or o b c cs done)
own_undone_case t s (Some d) b c cs done h is step = (h, step)
own_undone_case t s None true c cs done h is step = (h, is)
own_undone_case t s None false c cs done h is step = (h, is)

own_undone : (t s u : ℕ) (cs : List Kept) → OwnUpTo t s cs → OwnUpTo t s (undone u cs)
own_undone t s u [] is = tt
own_undone t s u (c ∷ cs) is = own_undone_case t s (newest_live u cs) (is_own u c) c cs (undone u cs) is.0 is.1 (own_undone t s u cs is.1)

own_step : (k : Bool) (t s : ℕ) (r : LogRecord) (cs : List Kept) → OwnUpTo t s cs → (eqb (tx_of_record r) t ≡ true → lsn_of r ≤ s) → OwnUpTo t s (kept_by k r cs)
own_step true t s r cs is h = own_push t s cs (noted r) is h
own_step false t s r cs is h = own_undone t s (tx_of_record r) cs is

own_case : (t : ℕ) (r : LogRecord) (rs : List LogRecord) → last_of t rs ≤ lsn_of r → OwnUpTo t (last_of t rs) (kept_of rs) → (b : Bool) → eqb (tx_of_record r) t ≡ b → OwnUpTo t (cond b (lsn_of r) (last_of t rs)) (kept_by (tells_change r) r (kept_of rs))
own_case t r rs low is true own = own_step (tells_change r) t (lsn_of r) r (kept_of rs) (own_more t (last_of t rs) (lsn_of r) (kept_of rs) low is) (λ _. omega arith)
own_case t r rs low is false own = own_step (tells_change r) t (last_of t rs) r (kept_of rs) is (λ other. absurd (let no : true ≡ false = sym other ∙ own in cc))

own_up_to : (t : ℕ) (rs : List LogRecord) → IsNumbered rs → OwnUpTo t (last_of t rs) (kept_of rs)
own_up_to t [] is = tt
own_up_to t (r ∷ rs) is = own_case t r rs (omega (arith, last_of-le rs t is.3, is.0)) (own_up_to t rs is.3) (eqb (tx_of_record r) t) refl

all_own : (t s : ℕ) (cs : List Kept) → OwnUpTo t s cs → place_of_number t s cs ≡ own_count (history_of cs) t
all_own t s [] is = refl
all_own t s (c ∷ cs) is = own_here (eqb c.tx t) refl (all_own t s cs is.1)
  where
    own_here : (b : Bool) → eqb c.tx t ≡ b → place_of_number t s cs ≡ own_count (history_of cs) t → cond (b && leb c.lsn s) (suc (place_of_number t s cs)) (place_of_number t s cs) ≡ cond b (suc (own_count (history_of cs) t)) (own_count (history_of cs) t)
    own_here true own e = ap (λ (b : Bool). cond b (suc (place_of_number t s cs)) (place_of_number t s cs)) (is_below c.lsn s (is.0 own)) ∙ ap suc e
    own_here false own e = e

-- at the newest record of the transaction the place is the count of its changes
pub place-new : (t : ℕ) (rs : List LogRecord) → IsNumbered rs → place_of_number t (last_of t rs) (kept_of rs) ≡ own_count (history_of (kept_of rs)) t
place-new t rs is = all_own t (last_of t rs) (kept_of rs) (own_up_to t rs is)
