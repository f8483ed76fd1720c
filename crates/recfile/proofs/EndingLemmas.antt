-- What ending transactions one after another does to the file.
use Rattle.std.proofs.Common.{◌≡◌, ℕ, zero, suc, ◌+◌, ◌-◌, ◌<◌, ◌≤◌, Bool, true, false, cond, not, ◌&&◌, eqb, nat_lt, List, [], ◌∷◌, Option, Some, None, is_some, refl, sym, ap, subst, ◌∙◌, IsTrue, arith, add-one}
use Rattle.std.proofs.lemmas.Bool.Decides.{nat_tests}
use Rattle.std.specs.FinMap as maps
use Rattle.std.specs.FinMap.{get, len, len-remove, len-empty, get-empty}
use Rattle.std.specs.Ordering.{nat_cmp}
use Rattle.std.specs.Cmp.{nat_cmp_total}
use Rattle.rec_types.specs.Contents.{Contents}
use Rattle.rec_types.specs.History.{Change, applied, replay, live_of, taken_back, take_back, is_pending}
use Rattle.tx_log.specs.Transactions.{Transactions, Tx, is_open}
use Rattle.record_file.specs.Abstract.{File, open_of}
use Rattle.record_file.specs.Steps.{Becomes}
use Rattle.record_file.proofs.OpenTxLemmas.{same_tx, same_tx-is, get-remove_tx}
use Rattle.recfile.specs.Examples.{change, four_changes, two_taken_back}
use Rattle.recfile.specs.Ending.{undone_in, without, rest_of, below, EndsOne, EndsOpen, EndsBelow, EndsAll}
use Rattle.rec_types.proofs.HistoryLemmas.{live_of-taken_back}
use Rattle.tx_log.proofs.OpenCount.{same_txs}

-- among the transactions below the next number is this one
next_below : (txs : Transactions) (n t : ℕ) → is_open txs n ≡ true → below txs (suc n) t ≡ cond (eqb t n) true (below txs n t)
next_below txs n t there = at (eqb t n) refl
  where
    at : (e : Bool) → eqb t n ≡ e → is_open txs t && nat_lt t (suc n) ≡ cond e true (is_open txs t && nat_lt t n)
    at true same =
        let is : t ≡ n = grind (arith, nat_tests) in
        let low : nat_lt t (suc n) ≡ true = grind (arith, nat_tests) in
        λ i. (ap (is_open txs) is ∙ there) i && low i
    at false apart =
        let low : nat_lt t (suc n) ≡ nat_lt t n = grind (arith, nat_tests) in
        ap (λ b. is_open txs t && b) low

-- a transaction isn't below its own number
not_below : (txs : Transactions) (n t : ℕ) → eqb t n ≡ true → below txs n t ≡ false
not_below txs n t same =
    let low : nat_lt t n ≡ false = grind (arith, nat_tests) in
    ap (λ b. is_open txs t && b) low ∙ at (is_open txs t)
  where
    at : (b : Bool) → b && false ≡ false
    at true = refl
    at false = refl

one_more : (txs : Transactions) (n : ℕ) (c : Change) → is_open txs n ≡ true → cond (live_of n (undone_in (below txs n) c)) (taken_back (undone_in (below txs n) c)) (undone_in (below txs n) c) ≡ undone_in (below txs (suc n)) c
one_more txs n c there = at c.live (eqb c.tx n) (below txs n c.tx) (below txs (suc n) c.tx) refl refl (not_below txs n c.tx) (next_below txs n c.tx there)
  where
    none : (e : Bool) → e && false ≡ false
    none true = refl
    none false = refl

    at : (b e p q : Bool) → c.live ≡ b → eqb c.tx n ≡ e → (e ≡ true → p ≡ false) → q ≡ cond e true p
        → cond (live_of n (cond (b && p) (taken_back c) c)) (taken_back (cond (b && p) (taken_back c) c)) (cond (b && p) (taken_back c) c) ≡ cond (b && q) (taken_back c) c
    at true true true q live same low is = absurd (cc (low refl))
    at true false true q live same low is = ap (λ x. cond x (taken_back (taken_back c)) (taken_back c)) (live_of-taken_back n c) ∙ ap (λ x. cond x (taken_back c) c) (sym is)
    at true true false q live same low is = ap (λ x. cond x (taken_back c) c) (λ i. same i && live i) ∙ ap (λ x. cond x (taken_back c) c) (sym is)
    at true false false q live same low is = ap (λ x. cond x (taken_back c) c) (λ i. same i && live i) ∙ ap (λ x. cond x (taken_back c) c) (sym is)
    at false e p q live same low is = ap (λ x. cond x (taken_back c) c) ((λ i. same i && live i) ∙ none e)

-- the changes of one more transaction are taken back
taken_next : (txs : Transactions) (n : ℕ) (h : List Change) → is_open txs n ≡ true → take_back (without (below txs n) h) n zero ≡ without (below txs (suc n)) h
taken_next txs n [] there = refl
taken_next txs n (c ∷ h) there = λ i. one_more txs n c there i ∷ taken_next txs n h there i

-- what was taken back is taken back no more
pub taken_twice : (h : List Change) (t p : ℕ) → take_back (take_back h t p) t zero ≡ take_back h t zero
taken_twice [] t p = refl
taken_twice (c ∷ h) t zero = λ i. at (live_of t c) refl i ∷ taken_twice h t zero i
  where
    at : (l : Bool) → live_of t c ≡ l → cond (live_of t (cond l (taken_back c) c)) (taken_back (cond l (taken_back c) c)) (cond l (taken_back c) c) ≡ cond l (taken_back c) c
    at true is = ap (λ x. cond x (taken_back (taken_back c)) (taken_back c)) (live_of-taken_back t c)
    at false is = ap (λ x. cond x (taken_back c) c) is
taken_twice (c ∷ h) t (suc p) = ap (λ (rest : List Change). cond (live_of t c) (taken_back c) c ∷ rest) (at (eqb c.tx t) (taken_twice h t p) (taken_twice h t (suc p)))
  where
    at : (b : Bool) → take_back (take_back h t p) t zero ≡ take_back h t zero → take_back (take_back h t (suc p)) t zero ≡ take_back h t zero → take_back (cond b (take_back h t p) (take_back h t (suc p))) t zero ≡ take_back h t zero
    at true x y = x
    at false x y = y

-- what a history without these changes leaves, the rest of it leaves
pub replay_without : (m : Contents) (these : ℕ → Bool) (h : List Change) → replay m (without these h) ≡ replay m (rest_of these h)
replay_without m these [] = refl
replay_without m these (c ∷ h) = at (is_pending these c) (replay_without m these h) (replay_without (applied c m) these h)
  where
    at : (p : Bool) → replay m (without these h) ≡ replay m (rest_of these h) → replay (applied c m) (without these h) ≡ replay (applied c m) (rest_of these h)
        → replay (applied (cond p (taken_back c) c) m) (without these h) ≡ replay m (cond (not p) (c ∷ rest_of these h) (rest_of these h))
    at true gone stays = gone
    at false gone stays = stays

-- two of four transactions taken back, by example
pub ended_changes : (f : ℕ → Bool) → f 1 ≡ true → f 2 ≡ false → f 3 ≡ true → without f four_changes ≡ two_taken_back
ended_changes f first second third = λ i.
    cond (first i) (change 1 97 (Some (120 ∷ [])) false) (change 1 97 (Some (120 ∷ [])) true)
    ∷ cond (second i) (change 2 98 (Some (121 ∷ [])) false) (change 2 98 (Some (121 ∷ [])) true)
    ∷ change 1 99 None false
    ∷ cond (third i) (change 3 100 (Some (122 ∷ [])) false) (change 3 100 (Some (122 ∷ [])) true)
    ∷ []

without_same : (f g : ℕ → Bool) (h : List Change) → ((t : ℕ) → f t ≡ g t) → without f h ≡ without g h
without_same f g h same = ap (λ (k : ℕ → Bool). without k h) (λ i t. same t i)

without_none : (f : ℕ → Bool) (h : List Change) → ((t : ℕ) → f t ≡ false) → without f h ≡ h
without_none f [] none = refl
without_none f (c ∷ h) none = λ i. (ap (λ b. cond (c.live && b) (taken_back c) c) (none c.tx) ∙ at c.live) i ∷ without_none f h none i
  where
    at : (b : Bool) → cond (b && false) (taken_back c) c ≡ c
    at true = refl
    at false = refl

-- one file becomes another by two steps
pub becomes_on : (old mid new : File) (h k : List Change) (x y : Transactions) → Becomes old h x mid → Becomes mid k y new → Becomes old k y new
becomes_on old mid new h k x y first later = later ∙ (λ i. record (first i) { opening = new.opening; history = k; txs = y })

-- the same, with the transactions said another way
pub becomes_as : (old new : File) (h : List Change) (x y : Transactions) → Becomes old h x new → x ≡ y → Becomes old new.history y new
becomes_as old new h x y is same = is ∙ (λ i. record old { opening = new.opening; history = sym (ap (λ (f : File). f.history) is) i; txs = same i })

-- a file becomes itself
pub becomes_same : (old : File) → Becomes old old.history old.txs old
becomes_same old = refl

-- each open transaction has a number from 1 on
abbrev pub Numbers : File → Type 0
Numbers f = (t : ℕ) → IsTrue (open_of f t) → (0 < t) × (t ≤ f.begun)

shut : (o : Option Tx) → is_some o ≡ false → o ≡ None
shut None is = refl
shut (Some tx) is = absurd (cc)

low_or_shut : (f : File) → Numbers f → (t : ℕ) → nat_lt t 1 ≡ true → is_open f.txs t ≡ false
low_or_shut f numbers t low = at (is_open f.txs t) refl
  where
    at : (b : Bool) → is_open f.txs t ≡ b → b ≡ false
    at true is = absurd (grind (arith, nat_tests, (numbers t is).0))
    at false is = refl

high_or_shut : (f : File) → Numbers f → (t : ℕ) → nat_lt t (f.begun + 1) ≡ false → is_open f.txs t ≡ false
high_or_shut f numbers t high = at (is_open f.txs t) refl
  where
    at : (b : Bool) → is_open f.txs t ≡ b → b ≡ false
    at true is = absurd (grind (arith, nat_tests, (numbers t is).1))
    at false is = refl

-- nothing has ended yet
pub below_first : (f : File) → Numbers f → EndsBelow f 1 f
below_first f numbers = record {
  history = sym (without_none (below f.txs 1) f.history (λ t. none t (nat_lt t 1) refl));
  txs = λ t. same t (nat_lt t 1) refl;
  rest = becomes_same f;
}
  where
    none : (t : ℕ) (b : Bool) → nat_lt t 1 ≡ b → is_open f.txs t && b ≡ false
    none t true low = ap (λ x. x && true) (low_or_shut f numbers t low)
    none t false high = at (is_open f.txs t)
      where
        at : (b : Bool) → b && false ≡ false
        at true = refl
        at false = refl

    same : (t : ℕ) (b : Bool) → nat_lt t 1 ≡ b → get f.txs t ≡ cond b None (get f.txs t)
    same t true low = shut (get f.txs t) (low_or_shut f numbers t low)
    same t false high = refl

-- a transaction that isn't below its own number is as it was
pub untouched : (old now : File) (n : ℕ) → EndsBelow old n now → get now.txs n ≡ get old.txs n
untouched old now n ended =
    let high : nat_lt n n ≡ false = grind (arith, nat_tests) in
    ended.txs n ∙ ap (λ b. cond b None (get old.txs n)) high

next_txs : (n t : ℕ) (o : Option Tx) → cond (same_tx t n) None (cond (nat_lt t n) None o) ≡ cond (nat_lt t (suc n)) None o
next_txs n t o = at (same_tx t n) (nat_lt t n) (nat_lt t (suc n)) refl refl refl
  where
    at : (e b d : Bool) → same_tx t n ≡ e → nat_lt t n ≡ b → nat_lt t (suc n) ≡ d → cond e None (cond b None o) ≡ cond d None o
    at true b true same low is = refl
    at true b false same low is = absurd (grind (arith, nat_tests, same_tx-is t n same))
    at false true true same low is = refl
    at false true false same low is = absurd (grind (arith, nat_tests))
    at false false true same low is = absurd (grind (arith, nat_tests))
    at false false false same low is = refl

-- one more transaction has ended
pub below_ended : (old now new : File) (n : ℕ) → EndsBelow old n now → EndsOne now n new → EndsBelow old (suc n) new
below_ended old now new n ended one = record {
  history = one.history ∙ ap (λ h. take_back h n zero) ended.history ∙ taken_next old.txs n old.history (sym (ap is_some (untouched old now n ended)) ∙ one.there);
  txs = λ t. ap (λ (f : File). get f.txs t) one.rest ∙ get-remove_tx now.txs n t ∙ ap (cond (same_tx t n) None) (ended.txs t) ∙ next_txs n t (get old.txs t);
  rest = becomes_as old new new.history _ new.txs (becomes_on old now new _ _ _ _ ended.rest one.rest) (sym (ap (λ (f : File). f.txs) one.rest));
}

-- one more was none that is open
pub below_passed : (old now new : File) (n : ℕ) → EndsBelow old n now → open_of now n ≡ false → new ≡ now → EndsBelow old (suc n) new
below_passed old now new n ended none same = subst (EndsBelow old (suc n)) (sym same) (record {
  history = ended.history ∙ without_same (below old.txs n) (below old.txs (suc n)) old.history (λ t. tests t (eqb t n) refl);
  txs = λ t. ended.txs t ∙ txs t (eqb t n) refl;
  rest = ended.rest;
})
  where
    here : is_open old.txs n ≡ false
    here = sym (ap is_some (untouched old now n ended)) ∙ none

    tests : (t : ℕ) (e : Bool) → eqb t n ≡ e → below old.txs n t ≡ below old.txs (suc n) t
    tests t true same =
        let is : t ≡ n = grind (arith, nat_tests) in
        let gone : is_open old.txs t ≡ false = ap (is_open old.txs) is ∙ here in
        ap (λ b. b && nat_lt t n) gone ∙ sym (ap (λ b. b && nat_lt t (suc n)) gone)
    tests t false apart =
        let low : nat_lt t n ≡ nat_lt t (suc n) = grind (arith, nat_tests) in
        ap (λ b. is_open old.txs t && b) low

    txs : (t : ℕ) (e : Bool) → eqb t n ≡ e → cond (nat_lt t n) None (get old.txs t) ≡ cond (nat_lt t (suc n)) None (get old.txs t)
    txs t true same =
        let is : t ≡ n = grind (arith, nat_tests) in
        let gone : get old.txs t ≡ None = shut (get old.txs t) (ap (is_open old.txs) is ∙ here) in
        ap (cond (nat_lt t n) None) gone ∙ both (nat_lt t n) (nat_lt t (suc n)) ∙ sym (ap (cond (nat_lt t (suc n)) None) gone)
      where
        both : (a b : Bool) → ◌≡◌ {A = Option Tx} (cond a None None) (cond b None None)
        both true true = refl
        both true false = refl
        both false true = refl
        both false false = refl
    txs t false apart =
        let low : nat_lt t n ≡ nat_lt t (suc n) = grind (arith, nat_tests) in
        ap (λ b. cond b None (get old.txs t)) low

-- an open transaction that has ended is one less
pub count_ended : (now new : File) (n ended more total : ℕ) → ended + len now.txs ≡ total → EndsOne now n new → more ≡ ended + 1 → more + len new.txs ≡ total
count_ended now new n ended more total count one is =
    let fewer = ap (λ (f : File). len f.txs) one.rest ∙ len-remove nat_cmp_total now.txs n ∙ ap (λ b. cond b (len now.txs - 1) (len now.txs)) one.there in
    omega (arith, fewer, count, is, some now.txs one.there)
  where
    some : (txs : Transactions) → is_open txs n ≡ true → 0 < len txs
    some txs there = at (len txs) refl
      where
        at : (k : ℕ) → len txs ≡ k → 0 < k
        at zero none = absurd (cc (sym there ∙ ap (λ (m : Transactions). is_open m n) (maps.empty_of_len txs none) ∙ ap is_some (get-empty nat_cmp n)))
        at (suc k) some = omega arith

-- all have ended once each number was passed
pub all_ended : (old now : File) (ended : ℕ) → Numbers old → EndsBelow old (old.begun + 1) now → ended + len now.txs ≡ len old.txs → EndsAll old ended now
all_ended old now ended numbers below_all count =
    let none : now.txs ≡ maps.empty = same_txs now.txs maps.empty (λ t. below_all.txs t ∙ gone t (nat_lt t (old.begun + 1)) refl ∙ sym (get-empty nat_cmp t)) in
    record {
      count = omega (arith, count, ap len none ∙ len-empty nat_cmp Tx);
      history = below_all.history ∙ without_same (below old.txs (old.begun + 1)) (is_open old.txs) old.history (λ t. tests t (nat_lt t (old.begun + 1)) refl);
      rest = becomes_as old now now.history now.txs maps.empty below_all.rest none;
    }
  where
    gone : (t : ℕ) (b : Bool) → nat_lt t (old.begun + 1) ≡ b → cond b None (get old.txs t) ≡ None
    gone t true low = refl
    gone t false high = shut (get old.txs t) (high_or_shut old numbers t high)

    and-true : (b : Bool) → b && true ≡ b
    and-true true = refl
    and-true false = refl

    tests : (t : ℕ) (b : Bool) → nat_lt t (old.begun + 1) ≡ b → is_open old.txs t && b ≡ is_open old.txs t
    tests t true low = and-true (is_open old.txs t)
    tests t false high = ap (λ x. x && false) (high_or_shut old numbers t high) ∙ sym (high_or_shut old numbers t high)

-- one more number was passed
pub below_next : (old now new : File) (n : ℕ) (was : Bool) → EndsBelow old n now → EndsOpen now n was new → EndsBelow old (n + 1) new
below_next old now new n true ended one = subst (λ (k : ℕ). EndsBelow old k new) (sym (add-one n)) (below_ended old now new n ended one)
below_next old now new n false ended none = subst (λ (k : ℕ). EndsBelow old k new) (sym (add-one n)) (below_passed old now new n ended none.0 none.1)

-- ended and open transactions together are as many after one more number
pub count_next : (now new : File) (n ended more total : ℕ) (was : Bool) → ended + len now.txs ≡ total → EndsOpen now n was new → more ≡ cond was 1 0 → ended + more + len new.txs ≡ total
count_next now new n ended more total true count one is = count_ended now new n ended (ended + more) total count one (ap (λ k. ended + k) is)
count_next now new n ended more total false count none is = omega (arith, count, is, ap (λ (f : File). len f.txs) none.1)

-- no more transactions have ended than numbers were looked at
pub few_next : (n ended more : ℕ) (was : Bool) → ended ≤ n → more ≡ cond was 1 0 → ended + more ≤ n + 1
few_next n ended more true few is = omega (arith, few, is)
few_next n ended more false few is = omega (arith, few, is)
