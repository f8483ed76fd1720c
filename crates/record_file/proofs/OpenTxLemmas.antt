-- Open transactions at one number, and how many there are.
use Rattle.std.proofs.Common.{◌≡◌, ℕ, Bool, true, false, cond, Option, Some, None, is_some, refl, sym, ap, ◌∙◌, arith}
use Rattle.std.proofs.lemmas.Bool.Decides.{nat_tests}
use Rattle.std.specs.FinMap.{get, insert, remove, get-insert, get-remove}
use Rattle.std.specs.Ordering.{nat_cmp, eq_by_cmp}
use Rattle.std.specs.Cmp.{nat_cmp_total, eq_by_cmp_equiv}
use Rattle.tx_log.specs.Transactions.{Transactions, Tx, is_open}
use Rattle.tx_log.proofs.OpenCount.{same_txs}

-- whether two numbers are the same
abbrev pub same_tx : ℕ → ℕ → Bool
same_tx a b = eq_by_cmp nat_cmp a b

-- a number is the same as itself
pub same_tx-refl : (t : ℕ) → same_tx t t ≡ true
same_tx-refl t = (eq_by_cmp_equiv nat_cmp_total).refl t

-- numbers that are told to be the same are equal
pub same_tx-is : (a b : ℕ) → same_tx a b ≡ true → a ≡ b
same_tx-is a b same = grind (arith, nat_tests)

-- which transaction is found after one is written
pub get-insert_tx : (txs : Transactions) (t : ℕ) (tx : Tx) (q : ℕ) → get (insert txs t tx) q ≡ cond (same_tx q t) (Some tx) (get txs q)
get-insert_tx txs t tx q = get-insert nat_cmp_total txs t tx q

-- which is found after one is taken out
pub get-remove_tx : (txs : Transactions) (t q : ℕ) → get (remove txs t) q ≡ cond (same_tx q t) None (get txs q)
get-remove_tx txs t q = get-remove nat_cmp_total txs t q

-- an open transaction stays open where another tells of itself, and only those that were open are
pub open-insert : (txs : Transactions) (t : ℕ) (tx : Tx) (q : ℕ) → is_open (insert txs t tx) q ≡ cond (same_tx q t) true (is_open txs q)
open-insert txs t tx q = ap is_some (get-insert_tx txs t tx q) ∙ at (same_tx q t)
  where
    at : (b : Bool) → is_some (cond b (Some tx) (get txs q)) ≡ cond b true (is_open txs q)
    at true = refl
    at false = refl

-- which are open after one is taken out
pub open-remove : (txs : Transactions) (t q : ℕ) → is_open (remove txs t) q ≡ cond (same_tx q t) false (is_open txs q)
open-remove txs t q = ap is_some (get-remove_tx txs t q) ∙ at (same_tx q t)
  where
    at : (b : Bool) → is_some (cond b None (get txs q)) ≡ cond b false (is_open txs q)
    at true = refl
    at false = refl

-- what is told of a transaction last is what is known of it
pub insert-insert_tx : (txs : Transactions) (t : ℕ) (old new : Tx) → insert (insert txs t old) t new ≡ insert txs t new
insert-insert_tx txs t old new = same_txs _ _ (λ q. get-insert_tx (insert txs t old) t new q ∙ ap (cond (same_tx q t) (Some new)) (get-insert_tx txs t old q) ∙ at (same_tx q t) (get txs q) ∙ sym (get-insert_tx txs t new q))
  where
    at : (b : Bool) (o : Option Tx) → cond b (Some new) (cond b (Some old) o) ≡ cond b (Some new) o
    at true o = refl
    at false o = refl

-- writing one that is taken out does nothing
pub remove-insert_tx : (txs : Transactions) (t : ℕ) (tx : Tx) → remove (insert txs t tx) t ≡ remove txs t
remove-insert_tx txs t tx = same_txs _ _ (λ q. get-remove_tx (insert txs t tx) t q ∙ ap (cond (same_tx q t) None) (get-insert_tx txs t tx q) ∙ at (same_tx q t) (get txs q) ∙ sym (get-remove_tx txs t q))
  where
    at : (b : Bool) (o : Option Tx) → cond b None (cond b (Some tx) o) ≡ cond b None o
    at true o = refl
    at false o = refl

-- what is written is found
pub get-inserted_tx : (txs : Transactions) (t : ℕ) (tx : Tx) → get (insert txs t tx) t ≡ Some tx
get-inserted_tx txs t tx = get-insert_tx txs t tx t ∙ ap (λ b. cond b (Some tx) (get txs t)) (same_tx-refl t)
