-- The transactions that are begun and haven't ended.
use Rattle.std.specs.Prelude.{ℕ, Bool, zero, suc, List, [], ◌∷◌, length, Option, Some, None, refl}
use Rattle.std.specs.Coded.{Coded, code_by, coded×, coded_ℕ, coded_bool, coded_list, coded_option}
use Rattle.std.specs.FinMap as maps
use Rattle.std.specs.Ordering.{nat_cmp}
use Rattle.rec_types.specs.History.{Change, live_from}
use Rattle.tx_log.specs.declared.phase.Rollback.{Rollback}

-- A transaction is active where no rollback is under way; one goes back to a place. Each savepoint keeps a place: how
-- many changes the transaction had made when it was set.
pub record Tx : Type 0 where
  pub rollback : Option Rollback
  pub places : List ℕ

-- by their numbers
abbrev pub Transactions : Type 0
Transactions = maps.FinMap nat_cmp Tx

abbrev pub coded_rollback : Coded Rollback
coded_rollback = code_by (ℕ × Bool) (coded× coded_ℕ coded_bool) (λ r. (r.to, r.ends)) (λ p. record { to = p.0; ends = p.1 }) (λ _. refl)

abbrev pub coded_tx : Coded Tx
coded_tx = code_by (Option Rollback × List ℕ) (coded× (coded_option coded_rollback) (coded_list coded_ℕ)) (λ t. (t.rollback, t.places)) (λ p. record { rollback = p.0; places = p.1 }) (λ _. refl)

abbrev pub coded_transactions : Coded Transactions
coded_transactions = maps.code coded_ℕ coded_tx

abbrev pub is_open : Transactions → ℕ → Bool
is_open txs t = maps.contains_key txs t

-- an active transaction with no savepoint
abbrev pub fresh : Tx
fresh = record { rollback = None; places = [] }

-- the greatest number of savepoints of a transaction
abbrev pub most_savepoints : ℕ
most_savepoints = 32

-- the place of savepoint n, and the beginning for 0
abbrev pub place_of_savepoint : List ℕ → ℕ → ℕ
place_of_savepoint places zero = 0
place_of_savepoint [] (suc n) = 0
place_of_savepoint (p ∷ places) (suc zero) = p
place_of_savepoint (p ∷ places) (suc (suc n)) = place_of_savepoint places (suc n)

-- 0 for a transaction that isn't open
abbrev pub depth_of : Option Tx → ℕ
depth_of None = 0
depth_of (Some tx) = length tx.places

-- the live changes of an open transaction
abbrev pub live_in : List Change → ℕ → Option Tx → ℕ
live_in h t None = 0
live_in h t (Some tx) = live_from h t zero

abbrev pub left_to_undo : List Change → ℕ → Option Rollback → ℕ
left_to_undo h t None = 0
left_to_undo h t (Some r) = live_from h t r.to

-- the changes that a rollback under way is still to take back
abbrev pub left_in : List Change → ℕ → Option Tx → ℕ
left_in h t None = 0
left_in h t (Some tx) = left_to_undo h t tx.rollback
