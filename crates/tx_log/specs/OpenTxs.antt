-- What is kept of an open transaction, and what it stands for.
use Rattle.std.specs.Prelude.{ℕ, Bool, false, List, [], ◌∷◌, map, Option, Some, None, is_some}
use Rattle.std.specs.FinMap as maps
use Rattle.rec_types.specs.Kept.{Kept}
use Rattle.rec_types.specs.declared.transaction.TxId.{TxId}
use Rattle.tx_log.specs.Finds.{Txs}
use Rattle.tx_log.specs.Places.{place_of_number}
use Rattle.tx_log.specs.Transactions.{Transactions, Tx}
use Rattle.tx_log.specs.declared.open_tx.OpenTx.{OpenTx}
use Rattle.tx_log.specs.declared.phase.Rollback.{Rollback}

abbrev pub ends_at : Option Rollback → Bool
ends_at None = false
ends_at (Some r) = r.ends

-- the rollback under way, with its place in the changes
abbrev pub rollback_at : ℕ → List Kept → Option Rollback → Option Rollback
rollback_at t cs None = None
rollback_at t cs (Some r) = Some (record { to = place_of_number t r.to cs; ends = r.ends })

abbrev pub tx_at : ℕ → List Kept → OpenTx → Tx
tx_at t cs e = record { rollback = rollback_at t cs e.rollback; places = map (λ s. place_of_number t s cs) e.saves.items }

abbrev pub txs_of : List Kept → List (TxId × OpenTx) → Transactions
txs_of cs [] = maps.empty
txs_of cs (p ∷ es) = maps.insert (txs_of cs es) p.0.0 (tx_at p.0.0 cs p.1)

-- whether the transaction is open
abbrev pub opens : Txs → ℕ → Bool
opens txs t = is_some (txs t)
