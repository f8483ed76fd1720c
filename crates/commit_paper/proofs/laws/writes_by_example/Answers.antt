use Rattle.std.proofs.Common.{◌≡◌, inl, inr, List, [], ◌∷◌, ◌++◌, ℕ, reverse, refl, ap, ◌∙◌}
use Rattle.std.proofs.lemmas.List.{reverse-append}
use Rattle.commit_paper.specs.Steps.{Inks}
use Rattle.commit_paper.proofs.laws.writes_by_example.Goals as goal

-- the last byte isn't written, and stays
last_stays : (mixed : List ℕ) → 0 ∷ 0 ∷ 9 ∷ [] ≡ mixed ++ 0 ∷ [] → ⊥
last_stays mixed is = absurd (cc (ap (λ (k : List ℕ). reverse k) is ∙ reverse-append mixed (0 ∷ [])))

kept : Inks 0 (7 ∷ 8 ∷ []) (0 ∷ 0 ∷ 0 ∷ []) (0 ∷ 0 ∷ 9 ∷ []) → ⊥
kept inks = last_stays inks.mixed inks.spelt

pub returns : goal.returns
returns c = record {
  none = record { mixed = 0 ∷ 0 ∷ []; mixes = λ fits. (inl refl, (inl refl, tt)); spelt = refl };
  second = record { mixed = 0 ∷ 8 ∷ []; mixes = λ fits. (inl refl, (inr refl, tt)); spelt = refl };
  both = record { mixed = 7 ∷ 8 ∷ []; mixes = λ fits. (inr refl, (inr refl, tt)); spelt = refl };
  beside = kept;
}
