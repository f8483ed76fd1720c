-- How the history of a run at some point stands to what has become of it in the end.
use Rattle.std.specs.Prelude.{◌≡◌, ℕ, Bool, zero, suc, false, if◌then◌else◌, List, [], ◌∷◌, IsTrue}
use Rattle.rec_types.specs.History.{Change}
use Rattle.record_file.specs.Remaining.{past_first}

-- of the changes so far none of the transaction is live in the end
abbrev pub NoneLeft : ℕ → List Change → List Change → Type 0
NoneLeft t [] g = Unit {0}
NoneLeft t (c ∷ h) [] = Unit {0}
NoneLeft t (c ∷ h) (d ∷ g) = (c.tx ≡ t → d.live ≡ false) × NoneLeft t h g

-- The changes so far are those at the front of the final ones. None is live again; and where a live
-- one was taken back, its transaction hadn't ended, and no later change of it so far is live in the
-- end.
abbrev pub LeadsTo : (ℕ → Bool) → List Change → List Change → Type 0
LeadsTo opened [] g = Unit {0}
LeadsTo opened (c ∷ h) [] = ⊥
LeadsTo opened (c ∷ h) (d ∷ g) =
    (d ≡ record c { live = d.live }) × (IsTrue d.live → IsTrue c.live)
    × (IsTrue c.live → d.live ≡ false → IsTrue (opened c.tx) × NoneLeft c.tx h g)
    × LeadsTo opened h g

-- the changes so far that are live in the end
abbrev pub part : List Change → List Change → List Change
part [] g = []
part (c ∷ h) [] = []
part (c ∷ h) (d ∷ g) = if d.live then c ∷ part h g else part h g

-- without the first n
abbrev pub past : ℕ → List Change → List Change
past zero g = g
past (suc n) g = past n (past_first g)
