-- Open transactions: look-ups, writes, and what ties them to the log.
use Rattle.std.proofs.Common.{◌≡◌, ℕ, ◌+◌, ◌<◌, ◌≤◌, Bool, true, false, cond, not, eqb, ◌&&◌, List, [], ◌∷◌, length, map, Option, Some, None, IfSome, IsSome, option_map, is_some, refl, sym, ap, subst, ◌∙◌, arith}
use Rattle.std.specs.FinMap as maps
use Rattle.std.specs.Ordering.{nat_cmp}
use Rattle.std.proofs.lemmas.Cmp.{nat_cmp_total}
use Rattle.std.specs.FinMap.{nat_cmp-IsAntisymmetric}
use Rattle.rec_types.specs.Kept.{Kept}
use Rattle.rec_types.specs.declared.transaction.TxId.{TxId}
use Rattle.tx_log.proofs.Chains.{same_number, differs}
use Rattle.tx_log.proofs.KeyLemmas.{same_by_cmp}
use Rattle.tx_log.proofs.AbsentOwnedLemmas.{without}
use Rattle.tx_log.proofs.Lives.{eqb_sym}
use Rattle.tx_log.proofs.PlaceLemmas.{place-grows}
use Rattle.tx_log.specs.Finds.{Txs, finding, PutsAt}
use Rattle.tx_log.specs.Fits.{AllUpTo, RollbackUpTo, FitsTx, AllFit}
use Rattle.tx_log.specs.Log.{lsn_of, kept_of}
use Rattle.tx_log.specs.Places.{place_of_number}
use Rattle.tx_log.specs.OpenTxs.{rollback_at, tx_at, txs_of, opens}
use Rattle.tx_log.specs.Transactions.{Transactions, is_open}
use Rattle.tx_log.specs.declared.log_record.LogRecord.{LogRecord}
use Rattle.tx_log.specs.declared.open_tx.OpenTx.{OpenTx}
use Rattle.tx_log.specs.declared.phase.Rollback.{Rollback}

-- ---- look-ups

get_case : (cs : List Kept) (q k : ℕ) (e : OpenTx) (o : Option OpenTx) (b : Bool) → eqb q k ≡ b → cond b (Some (tx_at k cs e)) (option_map (tx_at q cs) o) ≡ option_map (tx_at q cs) (cond b (Some e) o)
get_case cs q k e o true f = ap (λ (n : ℕ). Some (tx_at n cs e)) (sym (same_number q k f))
get_case cs q k e o false f = refl

-- what the state says of a transaction is what the map has
pub get-txs_of : (cs : List Kept) (es : List (TxId × OpenTx)) (q : ℕ) → maps.get (txs_of cs es) q ≡ option_map (tx_at q cs) (finding es q)
get-txs_of cs [] q = maps.get-empty nat_cmp q
get-txs_of cs (p ∷ es) q =
    maps.get-insert nat_cmp_total (txs_of cs es) p.0.0 (tx_at p.0.0 cs p.1) q
    ∙ ap (λ b. cond b (Some (tx_at p.0.0 cs p.1)) (maps.get (txs_of cs es) q)) (same_by_cmp q p.0.0 ∙ eqb_sym p.0.0 q)
    ∙ ap (cond (eqb q p.0.0) (Some (tx_at p.0.0 cs p.1))) (get-txs_of cs es q)
    ∙ get_case cs q p.0.0 p.1 (finding es q) (eqb q p.0.0) refl

some_map : {A B : Type 0} (f : A → B) (o : Option A) → is_some (option_map f o) ≡ is_some o
some_map f None = refl
some_map f (Some x) = refl

-- the state's and the map's open transactions are the same
pub opens_is : (cs : List Kept) (es : List (TxId × OpenTx)) → is_open (txs_of cs es) ≡ opens (finding es)
opens_is cs es = λ i t. (ap is_some (get-txs_of cs es t) ∙ some_map (tx_at t cs) (finding es t)) i

-- a transaction that is found is open
pub found_open : (cs : List Kept) (es : List (TxId × OpenTx)) (t : ℕ) (e : OpenTx) → finding es t ≡ Some e → is_open (txs_of cs es) t ≡ true
found_open cs es t e found = ap (λ (o : ℕ → Bool). o t) (opens_is cs es) ∙ ap is_some found

-- ---- writes

same_txs : (m n : Transactions) → ((q : ℕ) → maps.get m q ≡ maps.get n q) → m ≡ n
same_txs m n h = maps.same_map nat_cmp_total nat_cmp-IsAntisymmetric m n h

put_case : (cs : List Kept) (t q : ℕ) (e : OpenTx) (o : Option OpenTx) (b : Bool) → eqb t q ≡ b → option_map (tx_at q cs) (cond b (Some e) o) ≡ cond b (Some (tx_at t cs e)) (option_map (tx_at q cs) o)
put_case cs t q e o true f = ap (λ (n : ℕ). Some (tx_at n cs e)) (sym (same_number t q f))
put_case cs t q e o false f = refl

none_case : (cs : List Kept) (q : ℕ) (b : Bool) (o : Option OpenTx) → option_map (tx_at q cs) (cond b None o) ≡ cond b None (option_map (tx_at q cs) o)
none_case cs q true o = refl
none_case cs q false o = refl

-- a transaction is written in the map and so in the state
pub txs-put : (cs : List Kept) (es fs : List (TxId × OpenTx)) (t : ℕ) (e : OpenTx) → PutsAt (finding es) (finding fs) t (Some e) → txs_of cs fs ≡ maps.insert (txs_of cs es) t (tx_at t cs e)
txs-put cs es fs t e puts = same_txs _ _ (λ q.
    get-txs_of cs fs q
    ∙ ap (option_map (tx_at q cs)) (puts q)
    ∙ put_case cs t q e (finding es q) (eqb t q) refl
    ∙ ap (cond (eqb t q) (Some (tx_at t cs e))) (sym (get-txs_of cs es q))
    ∙ ap (λ (b : Bool). cond b (Some (tx_at t cs e)) (maps.get (txs_of cs es) q)) (sym (same_by_cmp q t))
    ∙ sym (maps.get-insert nat_cmp_total (txs_of cs es) t (tx_at t cs e) q))

-- a transaction is taken out of the map and so of the state
pub txs-remove : (cs : List Kept) (es fs : List (TxId × OpenTx)) (t : ℕ) → PutsAt (finding es) (finding fs) t None → txs_of cs fs ≡ maps.remove (txs_of cs es) t
txs-remove cs es fs t puts = same_txs _ _ (λ q.
    get-txs_of cs fs q
    ∙ ap (option_map (tx_at q cs)) (puts q)
    ∙ none_case cs q (eqb t q) (finding es q)
    ∙ ap (cond (eqb t q) None) (sym (get-txs_of cs es q))
    ∙ ap (λ (b : Bool). cond b None (maps.get (txs_of cs es) q)) (sym (same_by_cmp q t))
    ∙ sym (maps.get-remove nat_cmp_total (txs_of cs es) t q))

-- ---- a log that grows

places_grow : (t : ℕ) (r : LogRecord) (rs : List LogRecord) (ss : List ℕ) → lsn_of r ≡ length rs + 1 → AllUpTo (length rs) ss → map (λ s. place_of_number t s (kept_of (r ∷ rs))) ss ≡ map (λ s. place_of_number t s (kept_of rs)) ss
places_grow t r rs [] is up = refl
places_grow t r rs (s ∷ ss) is up = λ i. place-grows t s r rs (omega (arith, up.0)) i ∷ places_grow t r rs ss is up.1 i

rollback_grows : (t : ℕ) (r : LogRecord) (rs : List LogRecord) (s : Option Rollback) → lsn_of r ≡ length rs + 1 → RollbackUpTo (length rs) s → rollback_at t (kept_of (r ∷ rs)) s ≡ rollback_at t (kept_of rs) s
rollback_grows t r rs None is up = refl
rollback_grows t r rs (Some s) is up = λ i. Some record { to = place-grows t s.to r rs (omega arith) i; ends = s.ends }

-- a newer record leaves what is said of a transaction
pub tx_at-grows : (t : ℕ) (r : LogRecord) (rs : List LogRecord) (e : OpenTx) → lsn_of r ≡ length rs + 1 → RollbackUpTo (length rs) e.rollback → AllUpTo (length rs) e.saves.items → tx_at t (kept_of (r ∷ rs)) e ≡ tx_at t (kept_of rs) e
tx_at-grows t r rs e is stage saves = λ i. record { rollback = rollback_grows t r rs e.rollback is stage i; places = places_grow t r rs e.saves.items is saves i }

-- ---- what ties the transactions to the log

-- what is kept of a transaction that is found fits the log
pub found_fits : (rs : List LogRecord) (n t : ℕ) (txs : Txs) (e : OpenTx) → AllFit rs n txs → txs t ≡ Some e → FitsTx rs n t e
found_fits rs n t txs e fit h = subst (λ (o : Option OpenTx). IfSome o (FitsTx rs n t)) h (fit t)

stay_case : (t q : ℕ) (r : LogRecord) (rs : List LogRecord) (n : ℕ) (o : Option OpenTx) (new : OpenTx) → lsn_of r ≡ length rs + 1 → IfSome o (FitsTx rs n q) → (b : Bool) → (b ≡ true → IfSome o (λ d. (new.rollback ≡ d.rollback) × (new.saves.items ≡ d.saves.items))) → (b ≡ true → IsSome o) → option_map (tx_at q (kept_of (r ∷ rs))) (cond b (Some new) o) ≡ option_map (tx_at q (kept_of rs)) o
stay_case t q r rs n None new is fits true same some = absurd (let no : false ≡ true = some refl in cc)
stay_case t q r rs n None new is fits false same some = refl
stay_case t q r rs n (Some d) new is fits true same some =
    let alike = same refl in
    (λ i. Some record { rollback = rollback_at q (kept_of (r ∷ rs)) (alike.0 i); places = map (λ s. place_of_number q s (kept_of (r ∷ rs))) (alike.1 i) })
    ∙ ap Some (tx_at-grows q r rs d is fits.rollback fits.saves)
stay_case t q r rs n (Some d) new is fits false same some = ap Some (tx_at-grows q r rs d is fits.rollback fits.saves)

-- an entry whose rollback and savepoints stay, beside a log that grows
pub txs_stay : (r : LogRecord) (rs : List LogRecord) (n t : ℕ) (es fs : List (TxId × OpenTx)) (new d : OpenTx) → lsn_of r ≡ length rs + 1 → AllFit rs n (finding es) → PutsAt (finding es) (finding fs) t (Some new) → finding es t ≡ Some d → new.rollback ≡ d.rollback → new.saves.items ≡ d.saves.items → txs_of (kept_of (r ∷ rs)) fs ≡ txs_of (kept_of rs) es
txs_stay r rs n t es fs new d is fit puts there rollback saves = same_txs _ _ (λ q.
    get-txs_of (kept_of (r ∷ rs)) fs q
    ∙ ap (option_map (tx_at q (kept_of (r ∷ rs)))) (puts q)
    ∙ stay_case t q r rs n (finding es q) new is (fit q) (eqb t q)
    (λ mine. subst (λ (o : Option OpenTx). IfSome o (λ x. (new.rollback ≡ x.rollback) × (new.saves.items ≡ x.saves.items))) (sym (at q mine)) (rollback, saves))
    (λ mine. ap is_some (at q mine))
    ∙ sym (get-txs_of (kept_of rs) es q))
  where
    at : (q : ℕ) → eqb t q ≡ true → finding es q ≡ Some d
    at q mine = ap (finding es) (sym (same_number t q mine)) ∙ there

-- a transaction that isn't the one
abbrev Others : List LogRecord → ℕ → List LogRecord → ℕ → ℕ → Type 0
Others rs n ss m t = (u : ℕ) (e : OpenTx) → eqb t u ≡ false → FitsTx rs n u e → FitsTx ss m u e

fit_case : (rs : List LogRecord) (n : ℕ) (ss : List LogRecord) (m t q : ℕ) (w o : Option OpenTx) → Others rs n ss m t → IfSome w (FitsTx ss m t) → IfSome o (FitsTx rs n q) → (b : Bool) → eqb t q ≡ b → IfSome (cond b w o) (FitsTx ss m q)
fit_case rs n ss m t q w o h new old true f = subst (λ (k : ℕ). IfSome w (FitsTx ss m k)) (same_number t q f) new
fit_case rs n ss m t q w None h new old false f = tt
fit_case rs n ss m t q w (Some e) h new old false f = h q e f old

-- all still fit where one is written that does
pub fit-put : (rs : List LogRecord) (n : ℕ) (ss : List LogRecord) (m t : ℕ) (old new : Txs) (w : Option OpenTx) → Others rs n ss m t → PutsAt old new t w → IfSome w (FitsTx ss m t) → AllFit rs n old → AllFit ss m new
fit-put rs n ss m t old new w h puts fits fit = λ q. subst (λ (o : Option OpenTx). IfSome o (FitsTx ss m q)) (sym (puts q)) (fit_case rs n ss m t q w (old q) h fits (fit q) (eqb t q) refl)

-- a transaction that is open was begun
pub begun_of : (rs : List LogRecord) (n t : ℕ) (txs : Txs) → AllFit rs n txs → opens txs t ≡ true → (0 < t) × (t ≤ n)
begun_of rs n t txs fit h = begun_case (txs t) (fit t) h
  where
    begun_case : (o : Option OpenTx) → IfSome o (FitsTx rs n t) → is_some o ≡ true → (0 < t) × (t ≤ n)
    begun_case None fits h = absurd (cc)
    begun_case (Some e) fits h = (fits.some, fits.begun)

-- ---- which transactions are open

open_case : (t q : ℕ) (old : Txs) (e d : OpenTx) → old t ≡ Some d → (b : Bool) → eqb t q ≡ b → is_some (cond b (Some e) (old q)) ≡ is_some (old q)
open_case t q old e d there true f = sym (ap (λ (k : ℕ). is_some (old k)) (sym (same_number t q f)) ∙ ap is_some there)
open_case t q old e d there false f = refl

-- writing an open transaction leaves which are open
pub opens-put : (t : ℕ) (old new : Txs) (e d : OpenTx) → PutsAt old new t (Some e) → old t ≡ Some d → opens new ≡ opens old
opens-put t old new e d puts there = λ k q. (ap is_some (puts q) ∙ open_case t q old e d there (eqb t q) refl) k

without_case : (b : Bool) (o : Option OpenTx) → is_some (cond b None o) ≡ (is_some o && not b)
without_case true None = refl
without_case true (Some e) = refl
without_case false None = refl
without_case false (Some e) = refl

-- taking one out leaves the others
pub opens-remove : (t : ℕ) (old new : Txs) → PutsAt old new t None → opens new ≡ without t (opens old)
opens-remove t old new puts = λ k q. (ap is_some (puts q) ∙ without_case (eqb t q) (old q) ∙ ap (λ (b : Bool). is_some (old q) && not b) (eqb_sym t q)) k

-- a transaction of a greater number leaves which of the smaller are open
pub opens-more : (t : ℕ) (old new : Txs) (e : OpenTx) (q : ℕ) → PutsAt old new t (Some e) → q < t → opens new q ≡ opens old q
opens-more t old new e q puts low = ap is_some (puts q) ∙ ap (λ (b : Bool). is_some (cond b (Some e) (old q))) (differs t q low)
