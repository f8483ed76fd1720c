-- The live changes of a transaction, newest first, are its updates that aren't taken back.
use Rattle.std.proofs.Common.{◌≡◌, ℕ, Bool, true, false, cond, eqb, ◌&&◌, List, [], ◌∷◌, ◌++◌, map, drop, Option, Some, None, refl, sym, ap, ◌∙◌, eq-eqb}
use Rattle.std.proofs.lemmas.List.{append-nil}
use Rattle.rec_types.specs.Kept.{Kept, is_own, newest_or, newest_live, undone_or, undone}
use Rattle.tx_log.proofs.Chains.{same_number}
use Rattle.tx_log.specs.Log.{tx_of_record, tells_change, noted, kept_by, kept_of, stepped, stack}
use Rattle.tx_log.specs.declared.log_record.LogRecord.{LogRecord}

-- the first of a list, where there is one
abbrev pub first : {A : Type 0} → List A → Option A
first [] = None
first (x ∷ xs) = Some x

-- a list of one, or none
abbrev pub single : {A : Type 0} → Bool → A → List A
single true x = x ∷ []
single false x = []

-- the live changes of the transaction, newest first
abbrev pub lives : ℕ → List Kept → List Kept
lives t [] = []
lives t (c ∷ cs) = lives t cs ++ single (is_own t c) c

newest_case : (b : Bool) (c : Kept) (us : List Kept) → newest_or (first us) b c ≡ first (us ++ single b c)
newest_case true c [] = refl
newest_case false c [] = refl
newest_case b c (u ∷ us) = refl

-- the newest live change of a transaction is the first of its live changes
pub newest_is : (t : ℕ) (cs : List Kept) → newest_live t cs ≡ first (lives t cs)
newest_is t [] = refl
newest_is t (c ∷ cs) = ap (λ o. newest_or o (is_own t c) c) (newest_is t cs) ∙ newest_case (is_own t c) c (lives t cs)

-- the live changes after one more change
pub lives-push : (t : ℕ) (cs : List Kept) (d : Kept) → lives t (cs ++ d ∷ []) ≡ single (is_own t d) d ++ lives t cs
lives-push t [] d = sym (append-nil (single (is_own t d) d))
lives-push t (c ∷ cs) d = ap (λ us. us ++ single (is_own t c) c) (lives-push t cs d) ∙ push_assoc (is_own t d) d (lives t cs) (single (is_own t c) c)
  where
    push_assoc : (b : Bool) (d : Kept) (us vs : List Kept) → (single b d ++ us) ++ vs ≡ single b d ++ (us ++ vs)
    push_assoc true d us vs = refl
    push_assoc false d us vs = refl

pub and_false : (b : Bool) → (b && false) ≡ false
and_false true = refl
and_false false = refl

-- a change that is taken back
abbrev pub dead : Kept → Kept
dead c = record c { live = false }

is_own-dead : (t : ℕ) (c : Kept) → is_own t (dead c) ≡ false
is_own-dead t c = and_false (eqb c.tx t)

first_none : {A : Type 0} (xs : List A) → first xs ≡ None → xs ≡ []
first_none [] e = refl
first_none (x ∷ xs) e = absurd (cc)

drop_front : {A : Type 0} (xs ys : List A) (x : A) → first xs ≡ Some x → drop 1 xs ++ ys ≡ drop 1 (xs ++ ys)
drop_front [] ys x e = absurd (cc)
drop_front (y ∷ xs) ys x e = refl

undone_case : (t : ℕ) (c : Kept) (cs done : List Kept) → lives t done ≡ drop 1 (lives t cs) → (o : Option Kept) → first (lives t cs) ≡ o → (b : Bool) → is_own t c ≡ b → lives t (undone_or o b c cs done) ≡ drop 1 (lives t cs ++ single b c)
undone_case t c cs done step (Some d) e b own = ap (λ us. us ++ single (is_own t c) c) step ∙ drop_front (lives t cs) _ d e ∙ ap (λ b. drop 1 (lives t cs ++ single b c)) own
undone_case t c cs done step None e true own =
    ap (λ b. lives t cs ++ single b (dead c)) (is_own-dead t c) ∙ append-nil (lives t cs) ∙ first_none (lives t cs) e ∙ sym (ap (λ us. drop 1 (us ++ c ∷ [])) (first_none (lives t cs) e))
undone_case t c cs done step None e false own =
    ap (λ b. lives t cs ++ single b c) own ∙ append-nil (lives t cs) ∙ first_none (lives t cs) e ∙ sym (ap (λ us. drop 1 (us ++ [])) (first_none (lives t cs) e))

-- taking the newest one back leaves the others
pub lives-undone : (t : ℕ) (cs : List Kept) → lives t (undone t cs) ≡ drop 1 (lives t cs)
lives-undone t [] = refl
lives-undone t (c ∷ cs) =
    undone_case t c cs (undone t cs) (lives-undone t cs) (newest_live t cs) (sym (newest_is t cs)) (is_own t c) refl

other_own : (t u : ℕ) (c : Kept) → eqb u t ≡ false → is_own t c ≡ true → is_own u c ≡ false
other_own t u c apart own = other_test t u c (eqb c.tx t) refl (eqb c.tx u) refl apart own
  where
    other_test : (t u : ℕ) (c : Kept) (a : Bool) → eqb c.tx t ≡ a → (b : Bool) → eqb c.tx u ≡ b → eqb u t ≡ false → (a && c.live) ≡ true → (b && c.live) ≡ false
    other_test t u c true e true f apart own =
        let joined : u ≡ t = sym (same_number c.tx u f) ∙ same_number c.tx t e in
        absurd (let no : true ≡ false = sym (eq-eqb u t joined) ∙ apart in cc)
    other_test t u c true e false f apart own = refl
    other_test t u c false e b f apart own = absurd (cc)

other_case : (t u : ℕ) (c : Kept) (cs done : List Kept) → eqb u t ≡ false → lives u done ≡ lives u cs → (o : Option Kept) → (b : Bool) → is_own t c ≡ b → lives u (undone_or o b c cs done) ≡ lives u cs ++ single (is_own u c) c
other_case t u c cs done apart step (Some d) b own = ap (λ us. us ++ single (is_own u c) c) step
other_case t u c cs done apart step None true own =
    ap (λ b. lives u cs ++ single b (dead c)) (is_own-dead u c) ∙ ap (λ b. lives u cs ++ single b c) (sym (other_own t u c apart own))
other_case t u c cs done apart step None false own = refl

-- and those of any other transaction
pub lives-other : (t u : ℕ) (cs : List Kept) → eqb u t ≡ false → lives u (undone t cs) ≡ lives u cs
lives-other t u [] apart = refl
lives-other t u (c ∷ cs) apart = other_case t u c cs (undone t cs) apart (lives-other t u cs apart) (newest_live t cs) (is_own t c) refl

-- ---- the stack of updates

-- the test of numbers doesn't hang on which comes first
pub eqb_sym : (m n : ℕ) → eqb m n ≡ eqb n m
eqb_sym m n = eqb_sym_case m n (eqb m n) refl (eqb n m) refl
  where
    eqb_sym_case : (m n : ℕ) (a : Bool) → eqb m n ≡ a → (b : Bool) → eqb n m ≡ b → a ≡ b
    eqb_sym_case m n true e true f = refl
    eqb_sym_case m n false e false f = refl
    eqb_sym_case m n true e false f = sym (eq-eqb n m (sym (same_number m n e))) ∙ f
    eqb_sym_case m n false e true f = sym e ∙ eq-eqb m n (sym (same_number n m f))

drop_noted : (us : List LogRecord) → drop 1 (map noted us) ≡ map noted (drop 1 us)
drop_noted [] = refl
drop_noted (u ∷ us) = refl

stack_case : (k : Bool) (t : ℕ) (r : LogRecord) (rs : List LogRecord) → map noted (stack t rs) ≡ lives t (kept_of rs) → (b : Bool) → eqb (tx_of_record r) t ≡ b → map noted (cond b (stepped k r (stack t rs)) (stack t rs)) ≡ lives t (kept_by k r (kept_of rs))
stack_case true t r rs step true own =
    ap (λ us. noted r ∷ us) step
    ∙ ap (λ (b : Bool). single (b && true) (noted r) ++ lives t (kept_of rs)) (sym own)
    ∙ sym (lives-push t (kept_of rs) (noted r))
stack_case true t r rs step false own =
    step
    ∙ ap (λ (b : Bool). single (b && true) (noted r) ++ lives t (kept_of rs)) (sym own)
    ∙ sym (lives-push t (kept_of rs) (noted r))
stack_case false t r rs step true own =
    sym (drop_noted (stack t rs)) ∙ ap (drop 1) step ∙ sym (lives-undone t (kept_of rs)) ∙ ap (λ u. lives t (undone u (kept_of rs))) (sym (same_number (tx_of_record r) t own))
stack_case false t r rs step false own =
    step ∙ sym (lives-other (tx_of_record r) t (kept_of rs) (eqb_sym t (tx_of_record r) ∙ own))

-- a transaction's stack, noted as changes, is its live changes
pub stack_is_lives : (t : ℕ) (rs : List LogRecord) → map noted (stack t rs) ≡ lives t (kept_of rs)
stack_is_lives t [] = refl
stack_is_lives t (r ∷ rs) = stack_case (tells_change r) t r rs (stack_is_lives t rs) (eqb (tx_of_record r) t) refl
