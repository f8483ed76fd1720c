-- Changes with the record that stood at the key before each, or that a claim has seen there, and the log record that tells of each. They stand oldest first.
use Rattle.std.specs.Prelude.{◌≡◌, ℕ, ◌≤◌, zero, suc, Bool, true, false, ◌&&◌, ◌==◌, if◌then◌else◌, List, [], ◌∷◌, map, Option, Some, None, option_map, IsTrue}
use Rattle.std.specs.FinMap as maps
use Rattle.rec_types.specs.Contents.{Contents, write_to}
use Rattle.rec_types.specs.History.{Change, applied}

pub record Kept : Type 0 where
  pub lsn : ℕ
  pub tx : ℕ
  pub key : List ℕ
  pub before : Option (List ℕ)
  pub after : Option (Option (List ℕ))
  pub live : Bool

abbrev pub change_of : Kept → Change
change_of c = record { tx = c.tx; key = c.key; after = c.after; live = c.live }

abbrev pub history_of : List Kept → List Change
history_of cs = map change_of cs

-- what taking a change back writes at its key: nothing where it is a claim
abbrev pub back_of : Kept → Option (Option (List ℕ))
back_of c = option_map (λ _. c.before) c.after

-- The opening contents: at a key with a change, claims aside, what stood there before the first, elsewhere what stands
-- there now.
abbrev pub opening_of : List Kept → Contents → Contents
opening_of [] m = m
opening_of (c ∷ cs) m = write_to (opening_of cs m) c.key (back_of c)

abbrev pub newest_or : Option Kept → Bool → Kept → Option Kept
newest_or (Some d) b c = Some d
newest_or None true c = Some c
newest_or None false c = None

abbrev pub is_own : ℕ → Kept → Bool
is_own t c = (c.tx == t) && c.live

-- the newest live change of the transaction at place p or above
abbrev pub newest_from : List Kept → ℕ → ℕ → Option Kept
newest_from [] t p = None
newest_from (c ∷ cs) t zero = newest_or (newest_from cs t zero) (is_own t c) c
newest_from (c ∷ cs) t (suc p) = if c.tx == t then newest_from cs t p else newest_from cs t (suc p)

abbrev pub newest_live : ℕ → List Kept → Option Kept
newest_live t cs = newest_from cs t zero

abbrev pub undone_or : Option Kept → Bool → Kept → List Kept → List Kept → List Kept
undone_or (Some d) b c cs done = c ∷ done
undone_or None true c cs done = record c { live = false } ∷ cs
undone_or None false c cs done = c ∷ cs

-- the newest live change of the transaction is taken back
abbrev pub undone : ℕ → List Kept → List Kept
undone t [] = []
undone t (c ∷ cs) = undone_or (newest_live t cs) (is_own t c) c cs (undone t cs)

-- what stood there before each live change is what the live changes before it leave at its key
abbrev pub BeforesFit : Contents → List Kept → Type 0
BeforesFit m [] = Unit {0}
BeforesFit m (c ∷ cs) = (IsTrue c.live → c.before ≡ maps.get m c.key) × BeforesFit (applied (change_of c) m) cs

-- no live change of another transaction is at the key
abbrev pub OnlyOf : ℕ → List ℕ → List Kept → Type 0
OnlyOf t x [] = Unit {0}
OnlyOf t x (d ∷ ds) = (IsTrue d.live → d.key ≡ x → d.tx ≡ t) × OnlyOf t x ds

-- after a live change of an open transaction no other transaction has a live change at its key
abbrev pub IsOwned : (ℕ → Bool) → List Kept → Type 0
IsOwned is_open [] = Unit {0}
IsOwned is_open (c ∷ cs) = (IsTrue c.live → IsTrue (is_open c.tx) → OnlyOf c.tx c.key cs) × IsOwned is_open cs

-- each change is of one of the first n transactions
abbrev pub AllBegun : ℕ → List Kept → Type 0
AllBegun n [] = Unit {0}
AllBegun n (c ∷ cs) = (c.tx ≤ n) × AllBegun n cs
