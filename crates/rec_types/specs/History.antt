-- Changes, the history of a session, its replay, and what taking back does to it. A history stands oldest first.
use Rattle.std.specs.Prelude.{ℕ, zero, suc, ◌+◌, Bool, false, not, ◌&&◌, ◌==◌, nat_lt, if◌then◌else◌, List, [], ◌∷◌, length, filter, Option}
use Rattle.rec_types.specs.Contents.{Contents, write_to}

-- A transaction wrote a record at the key, or took the key out, or claimed the key: then nothing is written there. The
-- change is live, or was taken back.
pub record Change : Type 0 where
  pub tx : ℕ
  pub key : List ℕ
  pub after : Option (Option (List ℕ))
  pub live : Bool

-- what a change does to the contents: nothing where it was taken back, or is a claim
abbrev pub applied : Change → Contents → Contents
applied c m = if c.live then write_to m c.key c.after else m

-- the contents that the live changes leave, in order
abbrev pub replay : Contents → List Change → Contents
replay m [] = m
replay m (c ∷ h) = replay (applied c m) h

abbrev pub live_of : ℕ → Change → Bool
live_of t c = (c.tx == t) && c.live

abbrev pub taken_back : Change → Change
taken_back c = record c { live = false }

-- how many changes the transaction made, live or taken back
abbrev pub own_count : List Change → ℕ → ℕ
own_count [] t = 0
own_count (c ∷ h) t = if c.tx == t then suc (own_count h t) else own_count h t

-- how many live changes of the transaction stand at place p or above, where its own changes are numbered from 0
abbrev pub live_from : List Change → ℕ → ℕ → ℕ
live_from [] t p = 0
live_from (c ∷ h) t zero = if live_of t c then suc (live_from h t zero) else live_from h t zero
live_from (c ∷ h) t (suc p) = if c.tx == t then live_from h t p else live_from h t (suc p)

-- every live change of the transaction at place p or above is taken back
abbrev pub take_back : List Change → ℕ → ℕ → List Change
take_back [] t p = []
take_back (c ∷ h) t zero = (if live_of t c then taken_back c else c) ∷ take_back h t zero
take_back (c ∷ h) t (suc p) = c ∷ (if c.tx == t then take_back h t p else take_back h t (suc p))

-- of those, the newest n alone: the ones after which fewer than n follow
abbrev pub take_newest : List Change → ℕ → ℕ → ℕ → List Change
take_newest [] t p n = []
take_newest (c ∷ h) t zero n = (if live_of t c && nat_lt (live_from h t zero) n then taken_back c else c) ∷ take_newest h t zero n
take_newest (c ∷ h) t (suc p) n = c ∷ (if c.tx == t then take_newest h t p n else take_newest h t (suc p) n)

-- the newest live change of the transaction is taken back
abbrev pub undo_last : ℕ → List Change → List Change
undo_last t [] = []
undo_last t (c ∷ h) = if nat_lt 0 (live_from h t zero) then c ∷ undo_last t h else (if live_of t c then taken_back c else c) ∷ h

abbrev pub is_taken : Change → Bool
is_taken c = not c.live

-- a live change of a transaction that hasn't ended
abbrev pub is_pending : (ℕ → Bool) → Change → Bool
is_pending is_open c = c.live && is_open c.tx

-- the length of the log: the changes, and once more those taken back
abbrev pub log_len : List Change → ℕ
log_len h = length h + length (filter is_taken h)

-- what the log needs at most: its length, and the changes that may still be taken back
abbrev pub log_use : (ℕ → Bool) → List Change → ℕ
log_use is_open h = log_len h + length (filter (is_pending is_open) h)
