-- Edits of one page in use.
use Rattle.std.proofs.Common.{◌≡◌, ◌<◌, ℕ, List, [], ◌∷◌, Option, IsSome, length, refl, sym, subst, inl, arith}
use Rattle.page_store.specs.PageMap.{at}
use Rattle.page_store.specs.CanStage.{CanStage}

can_free_one : (pages : List (Option (List ℕ))) (n : ℕ) → IsSome (at pages n) → length pages < 1000 → CanStage pages [] 0 (n ∷ [])
can_free_one pages n used room = record {
  written = tt;
  taken_written = λ i below. absurd (omega arith);
  freed_in_use = (used, tt);
  freed_not_written = (refl, tt);
  room = λ some. absurd (omega (arith, some));
}

can_write_one : (pages : List (Option (List ℕ))) (n : ℕ) (page : List ℕ) → IsSome (at pages n) → length pages < 1000 → CanStage pages ((n, page) ∷ []) 0 []
can_write_one pages n page used room = record {
  written = (inl used, tt);
  taken_written = λ i below. absurd (omega arith);
  freed_in_use = tt;
  freed_not_written = tt;
  room = λ some. absurd (omega (arith, some));
}

-- an edit that frees one page in use can be staged
pub can_free : (pages : List (Option (List ℕ))) (n : ℕ) (writes : List (ℕ × List ℕ)) (freed : List ℕ) → IsSome (at pages n) → length pages < 1000 → writes ≡ [] → freed ≡ n ∷ [] → CanStage pages writes 0 freed
can_free pages n writes freed used room none one =
    subst (λ (w : List (ℕ × List ℕ)). CanStage pages w 0 freed) (sym none) (subst (λ (f : List ℕ). CanStage pages [] 0 f) (sym one) (can_free_one pages n used room))

-- an edit that writes one page in use can be staged
pub can_write : (pages : List (Option (List ℕ))) (n : ℕ) (page : List ℕ) (writes : List (ℕ × List ℕ)) (freed : List ℕ) → IsSome (at pages n) → length pages < 1000 → writes ≡ (n, page) ∷ [] → freed ≡ [] → CanStage pages writes 0 freed
can_write pages n page writes freed used room one none =
    subst (λ (w : List (ℕ × List ℕ)). CanStage pages w 0 freed) (sym one) (subst (λ (f : List ℕ). CanStage pages ((n, page) ∷ []) 0 f) (sym none) (can_write_one pages n page used room))

-- an edit that does nothing can be staged
pub can_nothing : (pages : List (Option (List ℕ))) (writes : List (ℕ × List ℕ)) (freed : List ℕ) → length pages < 1000 → writes ≡ [] → freed ≡ [] → CanStage pages writes 0 freed
can_nothing pages writes freed room none gone =
    subst (λ (w : List (ℕ × List ℕ)). CanStage pages w 0 freed) (sym none) (subst (λ (f : List ℕ). CanStage pages [] 0 f) (sym gone) (record {
      written = tt;
      taken_written = λ i below. absurd (omega arith);
      freed_in_use = tt;
      freed_not_written = tt;
      room = λ some. absurd (omega (arith, some));
    }))
