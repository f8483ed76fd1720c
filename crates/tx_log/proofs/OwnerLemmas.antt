-- Owners of keys, along a change and its taking back.
use Rattle.std.proofs.Common.{◌≡◌, ℕ, ◌≤◌, Bool, true, false, cond, eqb, ◌&&◌, List, [], ◌∷◌, ◌++◌, Option, Some, None, IsTrue, refl, sym, ap, subst, ◌∙◌, eq-eqb, ◌⊎◌, inl, inr, ⊎_elim}
use Rattle.std.specs.List.{find}
use Rattle.rec_types.specs.Contents.{same_key}
use Rattle.rec_types.specs.Kept.{Kept, change_of, history_of, is_own, newest_live, undone_or, undone, OnlyOf, IsOwned, AllBegun}
use Rattle.tx_log.proofs.Chains.{same_number}
use Rattle.tx_log.proofs.Lives.{single, lives}
use Rattle.tx_log.specs.Owners.{claims, owner_of, other_than, holder_of}
use Rattle.rec_types.proofs.ContentsLemmas.{same_key-is, same_key-of}

-- a test that is true holds
pub true_is : (b : Bool) → b ≡ true → IsTrue b
true_is b e = e

-- a test that holds is true
pub is_true : (b : Bool) → IsTrue b → b ≡ true
is_true b h = h

not_both : {A : Type 0} → IsTrue false → A
not_both h = absurd (let no : false ≡ true = h in cc)

-- the first of two tests
pub and_left : (a b : Bool) → (a && b) ≡ true → a ≡ true
and_left true b e = refl
and_left false b e = absurd (cc)

-- the second of two tests
pub and_right : (a b : Bool) → (a && b) ≡ true → b ≡ true
and_right true b e = e
and_right false b e = absurd (cc)

-- ---- the taking back of a change

only_undone_case : (t : ℕ) (x : List ℕ) (o : Option Kept) (b : Bool) (c : Kept) (cs done : List Kept) → (IsTrue c.live → c.key ≡ x → c.tx ≡ t) → OnlyOf t x cs → OnlyOf t x done → OnlyOf t x (undone_or o b c cs done)
only_undone_case t x (Some d) b c cs done h is step = (h, step)
only_undone_case t x None true c cs done h is step = (λ no. not_both no, is)
only_undone_case t x None false c cs done h is step = (h, is)

only_undone : (t : ℕ) (x : List ℕ) (u : ℕ) (cs : List Kept) → OnlyOf t x cs → OnlyOf t x (undone u cs)
only_undone t x u [] is = is
only_undone t x u (c ∷ cs) is = only_undone_case t x (newest_live u cs) (is_own u c) c cs (undone u cs) is.0 is.1 (only_undone t x u cs is.1)

owned_undone_case : (is_open : ℕ → Bool) (u : ℕ) (o : Option Kept) (b : Bool) (c : Kept) (cs done : List Kept) → (IsTrue c.live → IsTrue (is_open c.tx) → OnlyOf c.tx c.key cs) → ((x : List ℕ) → OnlyOf c.tx x cs → OnlyOf c.tx x done) → IsOwned is_open cs → IsOwned is_open done → IsOwned is_open (undone_or o b c cs done)
owned_undone_case is_open u (Some d) b c cs done h only is step = (λ live opened. only c.key (h live opened), step)
owned_undone_case is_open u None true c cs done h only is step = (λ no. not_both no, is)
owned_undone_case is_open u None false c cs done h only is step = (h, is)

-- each key still has one owner after a change is taken back
pub owned-undone : (is_open : ℕ → Bool) (u : ℕ) (cs : List Kept) → IsOwned is_open cs → IsOwned is_open (undone u cs)
owned-undone is_open u [] is = is
owned-undone is_open u (c ∷ cs) is = owned_undone_case is_open u (newest_live u cs) (is_own u c) c cs (undone u cs) is.0 (λ x. only_undone c.tx x u cs) is.1 (owned-undone is_open u cs is.1)

begun_undone_case : (n : ℕ) (o : Option Kept) (b : Bool) (c : Kept) (cs done : List Kept) → c.tx ≤ n → AllBegun n cs → AllBegun n done → AllBegun n (undone_or o b c cs done)
begun_undone_case n (Some d) b c cs done h is step = (h, step)
begun_undone_case n None true c cs done h is step = (h, is)
begun_undone_case n None false c cs done h is step = (h, is)

-- taking a change back leaves the transactions that the changes name
pub begun-undone : (n u : ℕ) (cs : List Kept) → AllBegun n cs → AllBegun n (undone u cs)
begun-undone n u [] is = is
begun-undone n u (c ∷ cs) is = begun_undone_case n (newest_live u cs) (is_own u c) c cs (undone u cs) is.0 is.1 (begun-undone n u cs is.1)

-- one more change of a transaction that was begun
pub begun-push : (n : ℕ) (cs : List Kept) (d : Kept) → AllBegun n cs → d.tx ≤ n → AllBegun n (cs ++ d ∷ [])
begun-push n [] d is h = (h, tt)
begun-push n (c ∷ cs) d is h = (is.0, begun-push n cs d is.1 h)

-- ---- a change that no other transaction stands against

-- each live change of an open transaction at the key is of this one
abbrev pub HeldBy : (ℕ → Bool) → ℕ → List ℕ → List Kept → Type 0
HeldBy is_open t x [] = Unit {0}
HeldBy is_open t x (c ∷ cs) = (IsTrue c.live → IsTrue (is_open c.tx) → c.key ≡ x → c.tx ≡ t) × HeldBy is_open t x cs

held_from_only : (is_open : ℕ → Bool) (t : ℕ) (x : List ℕ) (cs : List Kept) → OnlyOf t x cs → HeldBy is_open t x cs
held_from_only is_open t x [] is = tt
held_from_only is_open t x (c ∷ cs) is = (λ live opened at. is.0 live at, held_from_only is_open t x cs is.1)

-- where the owner is no other, it is oneself
pub none_other : (t u : ℕ) → other_than t (Some u) ≡ None → u ≡ t
none_other t u e = none_other_case (eqb u t) refl e
  where
    none_other_case : (b : Bool) → eqb u t ≡ b → cond b None (Some u) ≡ None → u ≡ t
    none_other_case true f e = same_number u t f
    none_other_case false f e = absurd (cc)

held_case : (is_open : ℕ → Bool) (t : ℕ) (x : List ℕ) (c : Kept) (cs : List Kept) → IsOwned is_open (c ∷ cs) → ((holder_of is_open (history_of cs) t x ≡ None) → HeldBy is_open t x cs) → (b : Bool) → claims is_open x (change_of c) ≡ b → other_than t (cond b (Some c.tx) (owner_of is_open (history_of cs) x)) ≡ None → HeldBy is_open t x (c ∷ cs)
held_case is_open t x c cs is step true claim e =
    let mine : c.tx ≡ t = none_other t c.tx e in
    let pending : (c.live && is_open c.tx) ≡ true = and_left (c.live && is_open c.tx) (same_key c.key x) claim in
    let at : c.key ≡ x = same_key-is c.key x (and_right (c.live && is_open c.tx) (same_key c.key x) claim) in
    let only : OnlyOf c.tx c.key cs = is.0 (true_is c.live (and_left c.live (is_open c.tx) pending)) (true_is (is_open c.tx) (and_right c.live (is_open c.tx) pending)) in
    (λ live opened there. mine, held_from_only is_open t x cs (subst (λ k. OnlyOf t k cs) at (subst (λ u. OnlyOf u c.key cs) mine only)))
held_case is_open t x c cs is step false claim e =
    (λ live opened there. absurd (let all : claims is_open x (change_of c) ≡ true = ap (λ a. (a && is_open c.tx) && same_key c.key x) (is_true c.live live) ∙ ap (λ a. a && same_key c.key x) (is_true (is_open c.tx) opened) ∙ same_key-of c.key x there in let no : true ≡ false = sym all ∙ claim in cc), step e)

-- where no other holds a key, its live changes are the transaction's own
pub held-free : (is_open : ℕ → Bool) (t : ℕ) (x : List ℕ) (cs : List Kept) → IsOwned is_open cs → holder_of is_open (history_of cs) t x ≡ None → HeldBy is_open t x cs
held-free is_open t x [] is e = tt
held-free is_open t x (c ∷ cs) is e = held_case is_open t x c cs is (held-free is_open t x cs is.1) (claims is_open x (change_of c)) refl e

only_push : (t : ℕ) (x : List ℕ) (cs : List Kept) (d : Kept) → OnlyOf t x cs → (d.key ≡ x → d.tx ≡ t) → OnlyOf t x (cs ++ d ∷ [])
only_push t x [] d is h = (λ live. h, tt)
only_push t x (c ∷ cs) d is h = (is.0, only_push t x cs d is.1 h)

-- each key still has one owner after a change at a key that is free
pub owned-push : (is_open : ℕ → Bool) (cs : List Kept) (d : Kept) → IsOwned is_open cs → HeldBy is_open d.tx d.key cs → IsOwned is_open (cs ++ d ∷ [])
owned-push is_open [] d is held = (λ live opened. tt, tt)
owned-push is_open (c ∷ cs) d is held = (λ live opened. only_push c.tx c.key cs d (is.0 live opened) (λ there. sym (held.0 live opened (sym there))), owned-push is_open cs d is.1 held.1)

-- fewer transactions are open, among those that have changes
pub owned-fewer : (is_open fewer : ℕ → Bool) (n : ℕ) (cs : List Kept) → AllBegun n cs → ((u : ℕ) → u ≤ n → fewer u ≡ true → is_open u ≡ true) → IsOwned is_open cs → IsOwned fewer cs
owned-fewer is_open fewer n [] begun h is = tt
owned-fewer is_open fewer n (c ∷ cs) begun h is = (λ live opened. is.0 live (true_is (is_open c.tx) (h c.tx begun.0 (is_true (fewer c.tx) opened))), owned-fewer is_open fewer n cs begun.1 h is.1)

-- ---- who the owner is

-- whether a change is at a key
abbrev pub kept_at : List ℕ → Kept → Bool
kept_at x c = same_key c.key x

find_split : (x : List ℕ) (us vs : List Kept) → find (kept_at x) (us ++ vs) ≡ None → (find (kept_at x) us ≡ None) × (find (kept_at x) vs ≡ None)
find_split x [] vs e = (refl, e)
find_split x (u ∷ us) vs e = split_case (kept_at x u) e (find_split x us vs)
  where
    split_case : (b : Bool) → cond b (Some u) (find (kept_at x) (us ++ vs)) ≡ None → (find (kept_at x) (us ++ vs) ≡ None → (find (kept_at x) us ≡ None) × (find (kept_at x) vs ≡ None)) → (cond b (Some u) (find (kept_at x) us) ≡ None) × (find (kept_at x) vs ≡ None)
    split_case true e step = absurd (cc)
    split_case false e step = step e

own_of_itself : (c : Kept) → c.live ≡ true → is_own c.tx c ≡ true
own_of_itself c live = ap (λ a. a && c.live) (eq-eqb c.tx c.tx refl) ∙ live

find_single : (x : List ℕ) (c : Kept) → find (kept_at x) (c ∷ []) ≡ None → same_key c.key x ≡ false
find_single x c e = find_single_case (same_key c.key x) e
  where
    find_single_case : (b : Bool) → cond b (Some c) None ≡ None → b ≡ false
    find_single_case true e = absurd (cc)
    find_single_case false e = refl

unowned_case : (is_open : ℕ → Bool) (x : List ℕ) (c : Kept) (cs : List Kept) → ((u : ℕ) → is_open u ≡ true → find (kept_at x) (lives u (c ∷ cs)) ≡ None) → owner_of is_open (history_of cs) x ≡ None → (b : Bool) → claims is_open x (change_of c) ≡ b → cond b (Some c.tx) (owner_of is_open (history_of cs) x) ≡ None
unowned_case is_open x c cs none rest true claim =
    let pending : (c.live && is_open c.tx) ≡ true = and_left (c.live && is_open c.tx) (same_key c.key x) claim in
    let at : same_key c.key x ≡ true = and_right (c.live && is_open c.tx) (same_key c.key x) claim in
    let own : is_own c.tx c ≡ true = own_of_itself c (and_left c.live (is_open c.tx) pending) in
    let there = (find_split x (lives c.tx cs) (single (is_own c.tx c) c) (none c.tx (and_right c.live (is_open c.tx) pending))).1 in
    let missed : same_key c.key x ≡ false = find_single x c (ap (λ b. find (kept_at x) (single b c)) (sym own) ∙ there) in
    absurd (let no : true ≡ false = sym at ∙ missed in cc)
unowned_case is_open x c cs none rest false claim = rest

-- a key at which no open transaction has a live change has no owner
pub unowned : (is_open : ℕ → Bool) (x : List ℕ) (cs : List Kept) → ((u : ℕ) → is_open u ≡ true → find (kept_at x) (lives u cs) ≡ None) → owner_of is_open (history_of cs) x ≡ None
unowned is_open x [] none = refl
unowned is_open x (c ∷ cs) none =
    unowned_case is_open x c cs none (unowned is_open x cs (λ u opened. (find_split x (lives u cs) (single (is_own u c) c) (none u opened)).0)) (claims is_open x (change_of c)) refl

find_front : (x : List ℕ) (us : List Kept) (c d : Kept) (b : Bool) → find (kept_at x) (us ++ single b c) ≡ Some d → (find (kept_at x) us ≡ Some d) ⊎ ((b ≡ true) × (same_key c.key x ≡ true))
find_front x [] c d true e = inr (refl, front_case (same_key c.key x) refl e)
  where
    front_case : (b : Bool) → same_key c.key x ≡ b → cond b (Some c) None ≡ Some d → same_key c.key x ≡ true
    front_case true f e = f
    front_case false f e = absurd (cc)
find_front x [] c d false e = inl e
find_front x (u ∷ us) c d b e = more_case (kept_at x u) e (find_front x us c d b)
  where
    more_case : (a : Bool) → cond a (Some u) (find (kept_at x) (us ++ single b c)) ≡ Some d → (find (kept_at x) (us ++ single b c) ≡ Some d → (find (kept_at x) us ≡ Some d) ⊎ ((b ≡ true) × (same_key c.key x ≡ true))) → (cond a (Some u) (find (kept_at x) us) ≡ Some d) ⊎ ((b ≡ true) × (same_key c.key x ≡ true))
    more_case true e step = inl e
    more_case false e step = step e

only_is : (t u : ℕ) (x : List ℕ) (cs : List Kept) (d : Kept) → OnlyOf u x cs → find (kept_at x) (lives t cs) ≡ Some d → t ≡ u
only_is t u x [] d is e = absurd (cc)
only_is t u x (c ∷ cs) d is e =
    ⊎_elim (only_is t u x cs d is.1)
    (λ h. sym (same_number c.tx t (and_left (eqb c.tx t) c.live h.0)) ∙ is.0 (true_is c.live (and_right (eqb c.tx t) c.live h.0)) (same_key-is c.key x h.1))
    (find_front x (lives t cs) c d (is_own t c) e)

owned_case : (is_open : ℕ → Bool) (t : ℕ) (x : List ℕ) (c d : Kept) (cs : List Kept) → IsOwned is_open (c ∷ cs) → is_open t ≡ true → ((find (kept_at x) (lives t cs) ≡ Some d) ⊎ ((is_own t c ≡ true) × (same_key c.key x ≡ true))) → (find (kept_at x) (lives t cs) ≡ Some d → owner_of is_open (history_of cs) x ≡ Some t) → (b : Bool) → claims is_open x (change_of c) ≡ b → cond b (Some c.tx) (owner_of is_open (history_of cs) x) ≡ Some t
owned_case is_open t x c d cs is opened (inl e) step true claim =
    let pending : (c.live && is_open c.tx) ≡ true = and_left (c.live && is_open c.tx) (same_key c.key x) claim in
    let at : c.key ≡ x = same_key-is c.key x (and_right (c.live && is_open c.tx) (same_key c.key x) claim) in
    let only : OnlyOf c.tx c.key cs = is.0 (true_is c.live (and_left c.live (is_open c.tx) pending)) (true_is (is_open c.tx) (and_right c.live (is_open c.tx) pending)) in
    ap Some (sym (only_is t c.tx x cs d (subst (λ k. OnlyOf c.tx k cs) at only) e))
owned_case is_open t x c d cs is opened (inr h) step true claim = ap Some (same_number c.tx t (and_left (eqb c.tx t) c.live h.0))
owned_case is_open t x c d cs is opened (inl e) step false claim = step e
owned_case is_open t x c d cs is opened (inr h) step false claim =
    let mine : c.tx ≡ t = same_number c.tx t (and_left (eqb c.tx t) c.live h.0) in
    let all : claims is_open x (change_of c) ≡ true = ap (λ a. (a && is_open c.tx) && same_key c.key x) (and_right (eqb c.tx t) c.live h.0) ∙ ap (λ a. a && same_key c.key x) (ap is_open mine ∙ opened) ∙ h.1 in
    absurd (let no : true ≡ false = sym all ∙ claim in cc)

-- a key at which a transaction has one is owned by it
pub owned_by : (is_open : ℕ → Bool) (t : ℕ) (x : List ℕ) (cs : List Kept) (d : Kept) → IsOwned is_open cs → is_open t ≡ true → find (kept_at x) (lives t cs) ≡ Some d → owner_of is_open (history_of cs) x ≡ Some t
owned_by is_open t x [] d is opened e = absurd (cc)
owned_by is_open t x (c ∷ cs) d is opened e =
    owned_case is_open t x c d cs is opened (find_front x (lives t cs) c d (is_own t c) e) (owned_by is_open t x cs d is.1 opened) (claims is_open x (change_of c)) refl
