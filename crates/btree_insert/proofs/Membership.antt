-- Lists of numbers that differ.
use Rattle.std.proofs.Common.{◌≡◌, ℕ, ◌⊎◌, ⊎_elim, inl, inr, List, [], ◌∷◌, ◌++◌, sym, subst, refl}
use Rattle.btree_node.specs.Lists.{Each}
use Rattle.btree_insert.specs.PageTrees.{IsIn, Apart}

-- what is in the first part is in the whole
pub in_left : (q : ℕ) (us vs : List ℕ) → IsIn q us → IsIn q (us ++ vs)
in_left q [] vs is = absurd is
in_left q (u ∷ us) vs is = ⊎_elim (λ e. inl e) (λ later. inr (in_left q us vs later)) is

-- so is what is in the second
pub in_right : (q : ℕ) (us vs : List ℕ) → IsIn q vs → IsIn q (us ++ vs)
in_right q [] vs is = is
in_right q (u ∷ us) vs is = inr (in_right q us vs is)

-- what is in the whole is in one of the parts
pub in_either : (q : ℕ) (us vs : List ℕ) → IsIn q (us ++ vs) → IsIn q us ⊎ IsIn q vs
in_either q [] vs is = inr is
in_either q (u ∷ us) vs is = ⊎_elim (λ e. inl (inl e)) (λ later. ⊎_elim (λ front. inl (inr front)) (λ back. inr back) (in_either q us vs later)) is

-- the first part of distinct numbers is distinct
pub Apart-left : (us vs : List ℕ) → Apart (us ++ vs) → Apart us
Apart-left [] vs apart = tt
Apart-left (u ∷ us) vs apart = (λ is. apart.0 (in_left u us vs is), Apart-left us vs apart.1)

-- so is the second
pub Apart-right : (us vs : List ℕ) → Apart (us ++ vs) → Apart vs
Apart-right [] vs apart = apart
Apart-right (u ∷ us) vs apart = Apart-right us vs apart.1

-- and nothing is in both
pub Apart-across : (q : ℕ) (us vs : List ℕ) → Apart (us ++ vs) → IsIn q us → IsIn q vs → ⊥
Apart-across q [] vs apart front back = front
Apart-across q (u ∷ us) vs apart front back =
    ⊎_elim (λ (e : q ≡ u). apart.0 (in_right u us vs (subst (λ (x : ℕ). IsIn x vs) e back))) (λ later. Apart-across q us vs apart.1 later back) front

-- two distinct parts with nothing in both are distinct together
pub Apart-append : (us vs : List ℕ) → Apart us → Apart vs → ((q : ℕ) → IsIn q us → IsIn q vs → ⊥) → Apart (us ++ vs)
Apart-append [] vs front back across = back
Apart-append (u ∷ us) vs front back across =
    (λ is. ⊎_elim (λ here. front.0 here) (λ there. across u (inl refl) there) (in_either u us vs is), Apart-append us vs front.1 back (λ q a b. across q (inr a) b))

-- one more number in the middle
pub Apart-insert : (us : List ℕ) (r : ℕ) (vs : List ℕ) → Apart (us ++ vs) → (IsIn r (us ++ vs) → ⊥) → Apart (us ++ r ∷ vs)
Apart-insert [] r vs apart new = (new, apart)
Apart-insert (u ∷ us) r vs apart new = (
  λ is. ⊎_elim (λ front. apart.0 (in_left u us vs front)) (λ back. ⊎_elim (λ (e : u ≡ r). new (inl (sym e))) (λ later. apart.0 (in_right u us vs later)) back) (in_either u us (r ∷ vs) is),
  Apart-insert us r vs apart.1 (λ is. new (inr is)),
)

-- what holds of all that is in a list holds of each
pub each_in : (P : ℕ → Type 0) (us : List ℕ) → ((q : ℕ) → IsIn q us → P q) → Each P us
each_in P [] at = tt
each_in P (u ∷ us) at = (at u (inl refl), each_in P us (λ q is. at q (inr is)))

-- what holds of each holds of one that is in it
pub in_each : (P : ℕ → Type 0) (us : List ℕ) (q : ℕ) → Each P us → IsIn q us → P q
in_each P [] q each is = absurd is
in_each P (u ∷ us) q each is = ⊎_elim (λ (e : q ≡ u). subst P (sym e) each.0) (λ later. in_each P us q each.1 later) is
