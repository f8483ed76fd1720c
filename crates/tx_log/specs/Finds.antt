-- Open transactions by their numbers.
use Rattle.std.specs.Prelude.{◌≡◌, ℕ, Bool, ◌==◌, List, Option, Some, slice_get, if◌then◌else◌}
use Rattle.std.specs.Map.{lookup}
use Rattle.indexmap.specs.IndexMap.{IndexMap, IsUnique}
use Rattle.rec_types.specs.declared.transaction.TxId.{TxId}
use Rattle.tx_log.specs.declared.open_tx.OpenTx.{OpenTx}

-- what is kept of each open transaction
abbrev pub Txs : Type 0
Txs = ℕ → Option OpenTx

abbrev pub finding : List (TxId × OpenTx) → Txs
finding es t = lookup (λ (k : TxId). t == k.0) es

abbrev pub found : {S : Type 0} → IndexMap TxId OpenTx S → Txs
found m = finding m.entries

-- the same transactions, but at the number t
abbrev pub PutsAt : Txs → Txs → ℕ → Option OpenTx → Type 0
PutsAt old new t e = (q : ℕ) → new q ≡ (if t == q then e else old q)

abbrev pub same_tx : TxId → TxId → Bool
same_tx a b = a.0 == b.0

-- the transaction stands at the place
pub record StandsAt {S : Type 0} (m : IndexMap TxId OpenTx S) (t i : ℕ) : Type 0 where
  pub tx : OpenTx
  pub entry : slice_get m.entries i ≡ Some (record { 0 = t }, tx)
  pub there : found m t ≡ Some tx
  pub unique : IsUnique same_tx m
