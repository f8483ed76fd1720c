-- Who holds a key, as the log keeps it.
use Rattle.std.specs.Prelude.{◌≡◌, ℕ, ◌-◌, ◌<◌, ◌==◌, nat_lt, Bool, true, false, List, [], ◌∷◌, Option, Some, None, IfSome, slice_get, length, if◌then◌else◌}
use Rattle.std.specs.List.{filter, list_any}
use Rattle.std.specs.Cmp.Lexicographic.{pointwise}
use Rattle.indexmap.specs.IndexMap.{IndexMap, get, IsUnique}
use Rattle.rec_types.specs.declared.transaction.TxId.{TxId}
use Rattle.tx_log.specs.Log.{stack}
use Rattle.tx_log.specs.Walks.{is_at, absent_at}
use Rattle.tx_log.specs.declared.holding.Holding.{Holding}
use Rattle.tx_log.specs.declared.log_record.LogRecord.{LogRecord}

-- what is kept of each key
abbrev pub HoldsKey : Type 0
HoldsKey = List ℕ → Option Holding

abbrev pub same_bytes : List ℕ → List ℕ → Bool
same_bytes a b = pointwise ◌==◌ a b

abbrev pub holdings_in : {S : Type 0} → IndexMap (List ℕ) Holding S → HoldsKey
holdings_in m k = get same_bytes m k

-- the same keys, but for one
abbrev pub Places : HoldsKey → HoldsKey → List ℕ → Option Holding → Type 0
Places old new k h = (q : List ℕ) → new q ≡ (if same_bytes k q then h else old q)

-- the owner: no one where no change is live
abbrev pub holder : Option Holding → Option TxId
holder None = None
holder (Some h) = if nat_lt 0 h.live then Some h.owner else None

-- how many of the transaction's changes are live there, and whether the newest takes the key out
abbrev pub live_held : ℕ → Option Holding → ℕ
live_held t None = 0
live_held t (Some h) = if h.owner.0 == t then h.live else 0

abbrev pub absent_of : ℕ → Option Holding → Bool
absent_of t None = false
absent_of t (Some h) = if h.owner.0 == t then h.absent else false

-- the keys of the entries that the transaction owns
abbrev pub owned_in : ℕ → List (List ℕ × Holding) → List (List ℕ)
owned_in t [] = []
owned_in t (e ∷ es) = if nat_lt 0 (live_held t (Some e.1)) then e.0 ∷ owned_in t es else owned_in t es

-- the keys that the transaction holds, each once or more, and no others
abbrev pub AreHeld : HoldsKey → ℕ → List (List ℕ) → Type 0
AreHeld holds t ks = (q : List ℕ) → list_any (same_bytes q) ks ≡ nat_lt 0 (live_held t (holds q))

-- how many live changes are at a key
abbrev pub live_at : List ℕ → List LogRecord → ℕ
live_at k us = length (filter (is_at k) us)

-- after one live change less
abbrev pub lowered : Holding → Bool → Option Holding
lowered h absent = if h.live == 1 then None else Some (record { owner = h.owner; live = h.live - 1; absent = absent })

-- with a key at which no change may be live
abbrev pub idle : Holding
idle = record { owner = record { 0 = 0 }; live = 0; absent = false }

-- at most one key has no live change
abbrev pub AllBusy : HoldsKey → Option (List ℕ) → Type 0
AllBusy holds over = (k : List ℕ) → IfSome (holds k) (λ h. h.live ≡ 0 → over ≡ Some k)

-- without a key that has no live change
abbrev pub busy : Option Holding → Option Holding
busy None = None
busy (Some h) = if h.live == 0 then None else Some h

abbrev pub or_idle : Option Holding → Holding
or_idle None = idle
or_idle (Some h) = h

-- the key stands at the place
pub record HeldAt {S : Type 0} (m : IndexMap (List ℕ) Holding S) (k : List ℕ) (i : ℕ) : Type 0 where
  pub hold : Holding
  pub entry : slice_get m.entries i ≡ Some (k, hold)
  pub there : holdings_in m k ≡ Some hold
  pub unique : IsUnique same_bytes m

-- what is kept is what the log says of the live changes of open transactions
pub record IsHeld (rs : List LogRecord) (is_open : ℕ → Bool) (holds : HoldsKey) : Type 0 where
  pub counted : (t : ℕ) (k : List ℕ) → is_open t ≡ true → live_at k (stack t rs) ≡ live_held t (holds k)
  pub marked : (t : ℕ) (k : List ℕ) → is_open t ≡ true → absent_at k (stack t rs) ≡ absent_of t (holds k)
  pub owned : (k : List ℕ) → IfSome (holds k) (λ h. 0 < h.live → is_open h.owner.0 ≡ true)
  pub idle_there : (k : List ℕ) → IfSome (holds k) (λ h. h.live ≡ 0 → h.absent ≡ false)
