-- Who owns a key: the open transaction with a live change at it.
use Rattle.std.specs.Prelude.{ℕ, Bool, true, false, ◌&&◌, ◌==◌, if◌then◌else◌, List, [], ◌∷◌, Option, Some, None, is_some, option_map}
use Rattle.std.specs.FinMap as maps
use Rattle.rec_types.specs.Contents.{Contents, set_to, write_to, same_key, has}
use Rattle.rec_types.specs.History.{Change, is_pending}
use Rattle.rec_types.specs.Kept.{Kept, change_of}

-- the transaction that a change tells of has the key
abbrev pub claims : (ℕ → Bool) → List ℕ → Change → Bool
claims is_open x c = is_pending is_open c && same_key c.key x

abbrev pub owner_of : (ℕ → Bool) → List Change → List ℕ → Option ℕ
owner_of is_open [] x = None
owner_of is_open (c ∷ h) x = if claims is_open x c then Some c.tx else owner_of is_open h x

-- the owner, where it is another transaction
abbrev pub other_than : ℕ → Option ℕ → Option ℕ
other_than t None = None
other_than t (Some u) = if u == t then None else Some u

abbrev pub holder_of : (ℕ → Bool) → List Change → ℕ → List ℕ → Option ℕ
holder_of is_open h t x = other_than t (owner_of is_open h x)

-- what stood at a key before the oldest live change there of an open transaction, or what that claim has seen; nothing where there is none
abbrev pub before_owned : (ℕ → Bool) → List Kept → List ℕ → Option (Option (List ℕ))
before_owned is_open [] x = None
before_owned is_open (c ∷ cs) x = if claims is_open x (change_of c) then Some c.before else before_owned is_open cs x

-- the contents, and beside them each owned key
abbrev pub charged : (ℕ → Bool) → List Change → Contents → Contents
charged is_open [] m = m
charged is_open (c ∷ h) m = if is_pending is_open c then set_to (charged is_open h m) c.key (Some []) else charged is_open h m

-- the keys that are owned
abbrev pub owned : (ℕ → Bool) → List Change → Contents
owned is_open h = charged is_open h maps.empty

-- the keys that the transaction owns, in order
abbrev pub keys_owned : (ℕ → Bool) → List Change → ℕ → List (List ℕ)
keys_owned is_open h t = maps.keys (owned (λ u. (u == t) && is_open u) h)

-- what a change says of its key: what it writes there, or what a claim has seen there, where nothing was said before
abbrev pub says : Option (Option (List ℕ)) → Bool → Option (List ℕ) → Option (Option (List ℕ))
says (Some w) said before = Some w
says None true before = None
says None false before = Some before

-- what stands for the absence of a record
abbrev pub lack : Option (List ℕ) → Option (List ℕ)
lack w = if is_some w then None else Some []

-- the keys that some changes name, and those of them that have no record, both as contents whose records don't matter
pub record Standing : Type 0 where
  pub owned : Contents
  pub out : Contents

abbrev pub nothing : Standing
nothing = record { owned = maps.empty; out = maps.empty }

-- after one change more
abbrev pub standing : Standing → Kept → Standing
standing s c = record { owned = set_to s.owned c.key (Some []); out = write_to s.out c.key (option_map lack (says c.after (has s.owned c.key) c.before)) }

-- after the live changes of open transactions
abbrev pub stands_by : (ℕ → Bool) → Standing → List Kept → Standing
stands_by is_open s [] = s
stands_by is_open s (c ∷ cs) = stands_by is_open (if is_pending is_open (change_of c) then standing s c else s) cs

-- The owned keys that have no record: the newest live change that writes there takes them out, or all of them are claims,
-- and the first has seen nothing there.
abbrev pub keys_absent : (ℕ → Bool) → List Kept → Contents
keys_absent is_open cs = (stands_by is_open nothing cs).out
