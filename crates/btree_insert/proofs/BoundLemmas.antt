-- Bounds of keys from all levels above.
use Rattle.std.proofs.Common.{◌≡◌, ℕ, zero, suc, ◌-◌, ◌<◌, ◌≤◌, ◌↔◌, Bool, IsTrue, Option, Some, None, List, [], ◌∷◌, ◌++◌, length, get_or, refl, sym, subst, arith}
use Rattle.btree_node.specs.Lists.{Element, Each, Below, Ascends}
use Rattle.btree_node.proofs.ElementOrderLemmas.{Each_at, Each-left, Each-right, Below-trans, Ascends-left, Ascends-right}
use Rattle.btree_insert.specs.declared.bounds.Bounds.{Bounds}
use Rattle.btree_insert.specs.Bounds.{Over, Under, AreWithin, Between, low_at, high_at}

-- the first son's lower bound is the page's
pub low_first : (es : List Element) (low : Option (List ℕ)) → low_at es 0 low ≡ low
low_first [] low = refl
low_first (e ∷ es) low = refl

-- any other's is the key before it
pub low_next : (es : List Element) (i : ℕ) (x : Element) (low : Option (List ℕ)) → i < length es → low_at es (suc i) low ≡ Some (get_or es i x).0
low_next [] i x low within = absurd (omega arith)
low_next (e ∷ es) zero x low within = low_first es (Some e.0)
low_next (e ∷ es) (suc i) x low within = low_next es i x (Some e.0) (omega arith)

-- the last son's upper bound is the page's
pub high_last : (es : List Element) (i : ℕ) (high : Option (List ℕ)) → length es ≤ i → high_at es i high ≡ high
high_last [] i high past = refl
high_last (e ∷ es) zero high past = absurd (omega arith)
high_last (e ∷ es) (suc i) high past = high_last es i high (omega arith)

-- any other's is the key behind it
pub high_next : (es : List Element) (i : ℕ) (x : Element) (high : Option (List ℕ)) → i < length es → high_at es i high ≡ Some (get_or es i x).0
high_next [] i x high within = absurd (omega arith)
high_next (e ∷ es) zero x high within = refl
high_next (e ∷ es) (suc i) x high within = high_next es i x high (omega arith)

-- nothing is asked of each
pub all_units : (es : List Element) → Each (λ e. Unit {0}) es
all_units [] = tt
all_units (e ∷ es) = (tt, all_units es)

later_over : (low : List ℕ) (e : Element) (es : List Element) → Below low e.0 → Each (λ later. Below e.0 later.0) es → Each (λ later. Below low later.0) es
later_over low e [] over up = tt
later_over low e (x ∷ es) over up = (Below-trans low e.0 x.0 over up.0, later_over low e es over up.1)

over_each : (low : Option (List ℕ)) (es : List Element) (first : Element) → Ascends es → first ≡ get_or es 0 first → Over low first.0 → Each (λ e. Over low e.0) es
over_each None es first up is over = all_units es
over_each (Some low) [] first up is over = tt
over_each (Some low) (e ∷ es) first up is over =
    let here : Below low e.0 = subst (λ (x : Element). Below low x.0) is over in
    (here, later_over low e es here up.0)

below_last : (high : List ℕ) (es : List Element) (m : ℕ) (last : Element) → Ascends es → suc m ≡ length es → last ≡ get_or es m last → Below last.0 high → Each (λ e. Below e.0 high) es
below_last high [] m last up end is under = tt
below_last high (e ∷ []) zero last up end is under = (subst (λ (x : Element). Below x.0 high) is under, tt)
below_last high (e ∷ []) (suc m) last up end is under = absurd (omega arith)
below_last high (e ∷ (f ∷ es)) zero last up end is under = absurd (omega arith)
below_last high (e ∷ (f ∷ es)) (suc m) last up end is under =
    let rest = below_last high (f ∷ es) m last up.1 (omega arith) is under in
    (Below-trans e.0 f.0 high up.0.0 rest.0, rest)

under_each : (high : Option (List ℕ)) (es : List Element) (m : ℕ) (last : Element) → Ascends es → suc m ≡ length es → last ≡ get_or es m last → Under high last.0 → Each (λ e. Under high e.0) es
under_each None es m last up end is under = all_units es
under_each (Some high) es m last up end is under = below_last high es m last up end is under

-- the ends tell of all keys between
pub within_ends : (bounds : Bounds) (es : List Element) (first last : Element) → 0 < length es → Ascends es → first ≡ get_or es 0 first → last ≡ get_or es (length es - 1) last
    → Over bounds.low first.0 → Under bounds.high last.0 → AreWithin bounds es
within_ends bounds es first last some up first_is last_is over under = record {
  over = over_each bounds.low es first up first_is over;
  under = under_each bounds.high es (length es - 1) last up (omega arith) last_is under;
}

-- ascending keys are within bounds where the first and the last are
pub both_within : (bounds : Bounds) (es : List Element) (first last : Element) (r : Bool) → 0 < length es → Ascends es → first ≡ get_or es 0 first → last ≡ get_or es (length es - 1) last
    → Over bounds.low (get_or es 0 first).0 → IsTrue r ↔ Under bounds.high (get_or es (length es - 1) last).0 → IsTrue r ↔ AreWithin bounds es
both_within bounds es first last r some up first_is last_is over under = (
  λ t. within_ends bounds es first last some up first_is last_is (subst (λ (x : Element). Over bounds.low x.0) (sym first_is) over) (subst (λ (x : Element). Under bounds.high x.0) (sym last_is) (under.0 t)),
  λ within. under.1 (subst (λ (x : Element). Under bounds.high x.0) last_is (Each_at (λ (e : Element). Under bounds.high e.0) es (length es - 1) last within.under (omega arith) last_is)),
)

-- the keys before one of the keys
pub Ascends-before : (xs : List Element) (e : Element) (ys : List Element) → Ascends (xs ++ e ∷ ys) → Each (λ x. Below x.0 e.0) xs
Ascends-before [] e ys up = tt
Ascends-before (x ∷ xs) e ys up = ((Each-right (λ later. Below x.0 later.0) xs (e ∷ ys) up.0).0, Ascends-before xs e ys up.1)

-- the elements before one are below it
pub Between-left : (b : Bounds) (xs : List Element) (e : Element) (ys : List Element) → Between b (xs ++ e ∷ ys) → Between (record { low = b.low; high = Some e.0 }) xs
Between-left b xs e ys is = record {
  ascends = Ascends-left xs (e ∷ ys) is.ascends;
  within = record {
    over = Each-left (λ x. Over b.low x.0) xs (e ∷ ys) is.within.over;
    under = Ascends-before xs e ys is.ascends;
  };
}

-- those behind it are above it
pub Between-right : (b : Bounds) (xs : List Element) (e : Element) (ys : List Element) → Between b (xs ++ e ∷ ys) → Between (record { low = Some e.0; high = b.high }) ys
Between-right b xs e ys is = record {
  ascends = (Ascends-right xs (e ∷ ys) is.ascends).1;
  within = record {
    over = (Ascends-right xs (e ∷ ys) is.ascends).0;
    under = (Each-right (λ x. Under b.high x.0) xs (e ∷ ys) is.within.under).1;
  };
}

-- no bounds at the root
pub Between-all : (es : List Element) → Ascends es → Between (record { low = None; high = None }) es
Between-all es up = record { ascends = up; within = record { over = all_units es; under = all_units es } }
