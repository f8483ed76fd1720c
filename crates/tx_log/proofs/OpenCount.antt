-- How many transactions are open.
use Rattle.std.proofs.Common.{◌≡◌, ℕ, ◌+◌, ◌-◌, ◌≤◌, ◌<◌, zero, suc, Bool, true, false, cond, is_some, List, [], ◌∷◌, length, Option, Some, None, refl, sym, ap, ◌∙◌, IsTrue, arith, option_map}
use Rattle.std.proofs.lemmas.Bool.Decides.{nat_tests}
use Rattle.std.specs.FinMap.{get, len, insert, remove, empty, get-insert, get-remove, get-empty, len-empty, len-insert, len-remove, same_map, nat_cmp-IsAntisymmetric}
use Rattle.std.specs.Ordering.{nat_cmp, eq_by_cmp}
use Rattle.std.specs.Cmp.{nat_cmp_total, eq_by_cmp_equiv}
use Rattle.std.specs.List.{AllByRecursion, IsDistinct}
use Rattle.std.specs.Map.{keys_of}
use Rattle.rec_types.specs.Kept.{Kept}
use Rattle.rec_types.specs.declared.transaction.TxId.{TxId}
use Rattle.tx_log.specs.Finds.{finding, same_tx}
use Rattle.tx_log.specs.OpenTxs.{txs_of, tx_at}
use Rattle.tx_log.specs.Transactions.{Transactions, Tx, is_open}
use Rattle.tx_log.specs.LogState.{LogState, IsLog}
use Rattle.tx_log.specs.declared.open_tx.OpenTx.{OpenTx}
use Rattle.tx_log.proofs.OpenTxLemmas.{get-txs_of}

abbrev same_no : ℕ → ℕ → Bool
same_no a b = eq_by_cmp nat_cmp a b

same_no-refl : (t : ℕ) → same_no t t ≡ true
same_no-refl t = (eq_by_cmp_equiv nat_cmp_total).refl t

same_no-is : (a b : ℕ) → same_no a b ≡ true → a ≡ b
same_no-is a b same = grind (arith, nat_tests)

get-insert_tx : (txs : Transactions) (t : ℕ) (tx : Tx) (q : ℕ) → get (insert txs t tx) q ≡ cond (same_no q t) (Some tx) (get txs q)
get-insert_tx txs t tx q = get-insert nat_cmp_total txs t tx q

get-remove_tx : (txs : Transactions) (t q : ℕ) → get (remove txs t) q ≡ cond (same_no q t) None (get txs q)
get-remove_tx txs t q = get-remove nat_cmp_total txs t q

open-remove : (txs : Transactions) (t q : ℕ) → is_open (remove txs t) q ≡ cond (same_no q t) false (is_open txs q)
open-remove txs t q = ap is_some (get-remove_tx txs t q) ∙ at (same_no q t)
  where
    at : (b : Bool) → is_some (cond b None (get txs q)) ≡ cond b false (is_open txs q)
    at true = refl
    at false = refl

pub same_txs : (m n : Transactions) → ((q : ℕ) → get m q ≡ get n q) → m ≡ n
same_txs m n same = same_map nat_cmp_total nat_cmp-IsAntisymmetric m n same

-- how many of the transactions 1 to n are open
abbrev pub open_up_to : Transactions → ℕ → ℕ
open_up_to txs zero = 0
open_up_to txs (suc n) = cond (is_open txs (suc n)) 1 0 + open_up_to txs n

len_without : (txs : Transactions) (t : ℕ) → is_open txs t ≡ true → len (remove txs t) + 1 ≡ len txs
len_without txs t is = at (get txs t) refl is
  where
    gone : is_open (remove txs t) t ≡ false
    gone = open-remove txs t t ∙ ap (λ b. cond b false (is_open txs t)) (same_no-refl t)

    back : (tx : Tx) → get txs t ≡ Some tx → insert (remove txs t) t tx ≡ txs
    back tx there = same_txs _ _ (λ q. get-insert_tx (remove txs t) t tx q ∙ ap (cond (same_no q t) (Some tx)) (get-remove_tx txs t q) ∙ here q (same_no q t) refl)
      where
        here : (q : ℕ) (b : Bool) → same_no q t ≡ b → cond b (Some tx) (cond b None (get txs q)) ≡ get txs q
        here q true same = sym (ap (get txs) (same_no-is q t same) ∙ there)
        here q false apart = refl

    at : (o : Option Tx) → get txs t ≡ o → is_some o ≡ true → len (remove txs t) + 1 ≡ len txs
    at None there some = absurd (cc)
    at (Some tx) there some = sym (len-insert nat_cmp_total (remove txs t) t tx ∙ ap (λ b. cond b (len (remove txs t)) (len (remove txs t) + 1)) gone) ∙ ap len (back tx there)

len_kept : (txs : Transactions) (t : ℕ) → is_open txs t ≡ false → len (remove txs t) ≡ len txs
len_kept txs t is = len-remove nat_cmp_total txs t ∙ ap (λ b. cond b (len txs - 1) (len txs)) is

fewer_up_to : (txs : Transactions) (t n : ℕ) → n < t → open_up_to (remove txs t) n ≡ open_up_to txs n
fewer_up_to txs t zero lt = refl
fewer_up_to txs t (suc n) lt = λ i. cond (here i) 1 0 + fewer_up_to txs t n (omega arith) i
  where
    apart : same_no (suc n) t ≡ false
    apart = at (same_no (suc n) t) refl
      where
        at : (b : Bool) → same_no (suc n) t ≡ b → same_no (suc n) t ≡ false
        at true same = absurd (omega (arith, same_no-is (suc n) t same))
        at false is = is

    here : is_open (remove txs t) (suc n) ≡ is_open txs (suc n)
    here = open-remove txs t (suc n) ∙ ap (λ b. cond b false (is_open txs (suc n))) apart

-- where each open transaction is one of 1 to n, those are all
len-open_up_to : (n : ℕ) (txs : Transactions) → ((t : ℕ) → IsTrue (is_open txs t) → (0 < t) × (t ≤ n)) → len txs ≡ open_up_to txs n
len-open_up_to zero txs within = ap len (same_txs txs empty (λ q. none q (get txs q) refl ∙ sym (get-empty nat_cmp q))) ∙ len-empty nat_cmp Tx
  where
    none : (q : ℕ) (o : Option Tx) → get txs q ≡ o → get txs q ≡ None
    none q None is = is
    none q (Some tx) is = let bound = within q (ap is_some is) in absurd (omega (arith, bound.0, bound.1))
len-open_up_to (suc n) txs within = at (is_open txs (suc n)) refl (len-open_up_to n (remove txs (suc n)) fewer)
  where
    fewer : (t : ℕ) → IsTrue (is_open (remove txs (suc n)) t) → (0 < t) × (t ≤ n)
    fewer t is = here (same_no t (suc n)) refl (sym (open-remove txs (suc n) t) ∙ is)
      where
        here : (b : Bool) → same_no t (suc n) ≡ b → cond b false (is_open txs t) ≡ true → (0 < t) × (t ≤ n)
        here true same is = absurd (cc)
        here false apart is =
            let bound = within t is in
            (bound.0, differ (λ same. absurd (cc (sym apart ∙ ap (λ x. same_no x (suc n)) same ∙ same_no-refl (suc n)))) bound.1)
          where
            differ : (t ≡ suc n → ⊥) → t ≤ suc n → t ≤ n
            differ other le = omega arith

    at : (b : Bool) → is_open txs (suc n) ≡ b → len (remove txs (suc n)) ≡ open_up_to (remove txs (suc n)) n → len txs ≡ cond b 1 0 + open_up_to txs n
    at true is rest = omega (arith, len_without txs (suc n) is, rest, fewer_up_to txs (suc n) n (omega arith))
    at false is rest = omega (arith, len_kept txs (suc n) is, rest, fewer_up_to txs (suc n) n (omega arith))

few : (txs : Transactions) (n : ℕ) → open_up_to txs n ≤ n
few txs zero = omega arith
few txs (suc n) = at (is_open txs (suc n)) (few txs n)
  where
    at : (b : Bool) → open_up_to txs n ≤ n → cond b 1 0 + open_up_to txs n ≤ suc n
    at true le = omega arith
    at false le = omega arith

-- not more are open than were begun
pub len-begun : (s : LogState) → IsLog s → len s.txs ≤ s.begun
len-begun s kept = omega (arith, len-open_up_to s.begun s.txs kept.opens, few s.txs s.begun)

-- no number stands twice
absent_key : (x : TxId) (es : List (TxId × OpenTx)) → AllByRecursion (λ (y : TxId). same_tx x y ≡ false) (keys_of es) → finding es x.0 ≡ None
absent_key x [] h = refl
absent_key x (e ∷ es) h = ap (λ (b : Bool). cond b (Some e.1) (finding es x.0)) h.0 ∙ absent_key x es h.1

-- as many transactions are open as the map has
pub len-txs_of : (cs : List Kept) (es : List (TxId × OpenTx)) → IsDistinct same_tx (keys_of es) → len (txs_of cs es) ≡ length es
unfolding IsDistinct
len-txs_of cs [] h = len-empty nat_cmp Tx
len-txs_of cs (e ∷ es) h =
    len-insert nat_cmp_total (txs_of cs es) e.0.0 (tx_at e.0.0 cs e.1)
    ∙ ap (λ b. cond b (len (txs_of cs es)) (len (txs_of cs es) + 1)) (ap is_some (get-txs_of cs es e.0.0 ∙ ap (option_map (tx_at e.0.0 cs)) (absent_key e.0 es h.0)))
    ∙ one_more (len-txs_of cs es h.1)
  where
    one_more : {a b : ℕ} → a ≡ b → a + 1 ≡ suc b
    one_more is = omega (arith, is)
