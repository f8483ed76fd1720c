-- Taking back makes no change live again, and a part of the live changes uses no more of the log.
use Rattle.std.proofs.Common.{◌≡◌, ℕ, ◌+◌, ◌≤◌, zero, suc, Bool, true, false, cond, if◌then◌else◌, ◌&&◌, eqb, nat_lt, List, [], ◌∷◌, length, filter, refl, sym, subst, ◌∙◌, arith, inl, inr}
use Rattle.rec_types.specs.History.{Change, live_of, taken_back, live_from, take_back, take_newest, undo_last, is_taken, is_pending, log_use}
use Rattle.tx_log.specs.Remaining.{LosesLives, IsPart}

leaves-refl : (h : List Change) → LosesLives h h
leaves-refl [] = tt
leaves-refl (c ∷ h) = (refl, λ live. live, leaves-refl h)

-- taking back the newest change makes none live
pub leaves-undo_last : (t : ℕ) (h : List Change) → LosesLives h (undo_last t h)
leaves-undo_last t [] = tt
leaves-undo_last t (c ∷ h) = at (nat_lt 0 (live_from h t zero)) (live_of t c) (leaves-undo_last t h)
  where
    at : (more own : Bool) → LosesLives h (undo_last t h) → LosesLives (c ∷ h) (if more then c ∷ undo_last t h else (if own then taken_back c else c) ∷ h)
    at true own later = (refl, λ live. live, later)
    at false true later = (refl, λ live. absurd (cc live), leaves-refl h)
    at false false later = (refl, λ live. live, leaves-refl h)

-- taking back from a place on makes none live
pub leaves-take_back : (h : List Change) (t p : ℕ) → LosesLives h (take_back h t p)
leaves-take_back [] t p = tt
leaves-take_back (c ∷ h) t zero = at (live_of t c) (leaves-take_back h t zero)
  where
    at : (own : Bool) → LosesLives h (take_back h t zero) → LosesLives (c ∷ h) ((if own then taken_back c else c) ∷ take_back h t zero)
    at true later = (refl, λ live. absurd (cc live), later)
    at false later = (refl, λ live. live, later)
leaves-take_back (c ∷ h) t (suc p) = (refl, λ live. live, at (eqb c.tx t) (leaves-take_back h t p) (leaves-take_back h t (suc p)))
  where
    at : (own : Bool) → LosesLives h (take_back h t p) → LosesLives h (take_back h t (suc p)) → LosesLives h (if own then take_back h t p else take_back h t (suc p))
    at true here later = here
    at false here later = later

-- taking back the newest few makes none live
pub leaves-take_newest : (h : List Change) (t p n : ℕ) → LosesLives h (take_newest h t p n)
leaves-take_newest [] t p n = tt
leaves-take_newest (c ∷ h) t zero n = at (live_of t c && nat_lt (live_from h t zero) n) (leaves-take_newest h t zero n)
  where
    at : (own : Bool) → LosesLives h (take_newest h t zero n) → LosesLives (c ∷ h) ((if own then taken_back c else c) ∷ take_newest h t zero n)
    at true later = (refl, λ live. absurd (cc live), later)
    at false later = (refl, λ live. live, later)
leaves-take_newest (c ∷ h) t (suc p) n = (refl, λ live. live, at (eqb c.tx t) (leaves-take_newest h t p n) (leaves-take_newest h t (suc p) n))
  where
    at : (own : Bool) → LosesLives h (take_newest h t p n) → LosesLives h (take_newest h t (suc p) n) → LosesLives h (if own then take_newest h t p n else take_newest h t (suc p) n)
    at true here later = here
    at false here later = later

count_front : (test : Change → Bool) (c : Change) (h : List Change) → length (filter test (c ∷ h)) ≡ cond (test c) 1 0 + length (filter test h)
count_front test c h = at (test c)
  where
    at : (b : Bool) → length (cond b (c ∷ filter test h) (filter test h)) ≡ cond b 1 0 + length (filter test h)
    at true = omega arith
    at false = omega arith

use_front : (is_open : ℕ → Bool) (c : Change) (h : List Change) → log_use is_open (c ∷ h) ≡ log_use is_open h + (1 + cond (is_taken c) 1 0 + cond (is_pending is_open c) 1 0)
use_front is_open c h = omega (arith, count_front is_taken c h, count_front (is_pending is_open) c h)

-- a part of the live changes uses no more of the log
pub part_use : (is_open : ℕ → Bool) (p h : List Change) → IsPart p h → log_use is_open p ≤ log_use is_open h
part_use is_open [] h part = omega arith
part_use is_open (d ∷ p) [] part = absurd part
part_use is_open (d ∷ p) (c ∷ h) (inl same) =
    subst (λ x. log_use is_open (x ∷ p) ≤ log_use is_open (c ∷ h)) (sym same.0)
    (omega (arith, use_front is_open c p, use_front is_open c h, part_use is_open p h same.2))
part_use is_open (d ∷ p) (c ∷ h) (inr later) = omega (arith, use_front is_open c h, part_use is_open (d ∷ p) h later)

-- a change that was taken back is in no part
pub none_taken : (d c : Change) → c.live ≡ false → IsPart (d ∷ []) (c ∷ []) → ⊥
none_taken d c back (inl same) = absurd (cc (sym back ∙ same.1))
none_taken d c back (inr later) = later
