-- A call that is done, and one that isn't.
use Rattle.std.proofs.Common.{◌≡◌, inl, inr, ℕ, ◌+◌, ◌≤◌, List, [], ◌∷◌, ◌++◌, length, take, drop, refl, sym, ◌∙◌, ap, arith, take-append-drop, append_assoc}
use Rattle.std.proofs.lemmas.List.{length-take, length-drop, drop-drop}
use Rattle.commit_paper.specs.Text.{Mixes}
use Rattle.commit_paper.specs.Steps.{Lengthens, Inks}

pub lengthens_none : (at : ℕ) (d : List ℕ) → Lengthens at d d
lengthens_none at d = record { more = drop at d; spelt = sym (take-append-drop at d) }

-- bytes that stay, and bytes that are written
mixes_none : (olds news : List ℕ) → length olds ≡ length news → Mixes olds news olds
mixes_none [] [] long = tt
mixes_none [] (n ∷ news) long = absurd (omega (arith, long))
mixes_none (o ∷ olds) [] long = absurd (omega (arith, long))
mixes_none (o ∷ olds) (n ∷ news) long = (inl refl, mixes_none olds news (omega (arith, long)))

mixes_all : (olds news : List ℕ) → length olds ≡ length news → Mixes olds news news
mixes_all [] [] long = tt
mixes_all [] (n ∷ news) long = absurd (omega (arith, long))
mixes_all (o ∷ olds) [] long = absurd (omega (arith, long))
mixes_all (o ∷ olds) (n ∷ news) long = (inr refl, mixes_all olds news (omega (arith, long)))

module _ (at : ℕ) (bytes d : List ℕ) where
  same_length : at + length bytes ≤ length d → length (take (length bytes) (drop at d)) ≡ length bytes
  same_length fits = omega (arith, length-take (length bytes) (drop at d), fits, length-drop at d)

  -- a write that isn't done
  pub inks_none : Inks at bytes d d
  inks_none = record {
    mixed = take (length bytes) (drop at d);
    mixes = λ fits. mixes_none (take (length bytes) (drop at d)) bytes (same_length fits);
    spelt =
        sym (take-append-drop at d)
        ∙ ap (λ (k : List ℕ). take at d ++ k) (sym (take-append-drop (length bytes) (drop at d)))
        ∙ ap (λ (k : List ℕ). take at d ++ (take (length bytes) (drop at d) ++ k)) (drop-drop (length bytes) at d)
        ∙ sym (append_assoc (take at d) (take (length bytes) (drop at d)) (drop (at + length bytes) d));
  }

  -- a write that is done
  pub inks_all : (c : List ℕ) → c ≡ take at d ++ bytes ++ drop (at + length bytes) d → Inks at bytes d c
  inks_all c is = record { mixed = bytes; mixes = λ fits. mixes_all (take (length bytes) (drop at d)) bytes (same_length fits); spelt = is }
