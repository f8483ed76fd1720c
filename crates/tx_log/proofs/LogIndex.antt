-- A record of the log by its number.
use Rattle.std.proofs.Common.{Bool, true, false, cond, eqb, Some, ◌≡◌, ℕ, zero, suc, ◌+◌, ◌-◌, ◌<◌, ◌≤◌, List, [], ◌∷◌, ◌++◌, length, get_or, take, drop, reverse, refl, sym, ap, subst, ◌∙◌, arith, append_assoc, add-one}
use Rattle.std.proofs.lemmas.List.{reverse-append, reverse-reverse, length-reverse, take-append-drop}
use Rattle.std.proofs.Math.Seq.{drop-cons}
use Rattle.tx_log.proofs.Chains.{chain-skip, numbered-part}
use Rattle.std.specs.List.{slice_get}
use Rattle.tx_log.specs.Log.{lsn_of, prev_of, leads_to, led, tells_change, chain, record_at, IsNumbered}
use Rattle.tx_log.specs.Transactions.{place_of_savepoint}
use Rattle.tx_log.specs.declared.log_record.LogRecord.{LogRecord}

-- a list with one more behind, turned
pub reverse-push : {A : Type 0} (xs : List A) (x : A) → reverse (xs ++ x ∷ []) ≡ x ∷ reverse xs
reverse-push xs x = reverse-append xs (x ∷ [])

-- a list with one more in front, turned
pub reverse_cons : {A : Type 0} (x : A) (xs : List A) → reverse (x ∷ xs) ≡ reverse xs ++ x ∷ []
reverse_cons x xs = reverse-append (x ∷ []) xs

-- a list cut at its element n
pub cut_at : {A : Type 0} (log : List A) (n : ℕ) (d r : A) → n < length log → get_or log n d ≡ r → reverse log ≡ reverse (drop (n + 1) log) ++ r ∷ reverse (take n log)
cut_at log n d r within read =
    let whole : log ≡ take n log ++ (r ∷ drop (n + 1) log) = sym (take-append-drop n log) ∙ ap (λ xs. take n log ++ xs) (drop-cons log n d within ∙ ap (λ x. x ∷ drop (suc n) log) read ∙ ap (λ k. r ∷ drop k log) (sym (add-one n))) in
    ap reverse whole
    ∙ reverse-append (take n log) (r ∷ drop (n + 1) log)
    ∙ ap (λ xs. xs ++ reverse (take n log)) (reverse_cons r (drop (n + 1) log))
    ∙ append_assoc (reverse (drop (n + 1) log)) (r ∷ []) (reverse (take n log))

-- a record stands at its number
pub record IsRecordAt (log : List LogRecord) (at : ℕ) (r : LogRecord) : Type 0 where
  pub lsn : lsn_of r ≡ at
  pub prev : prev_of r < at
  pub leads : leads_to r < at
  pub chain_is : chain (reverse log) at ≡ led (tells_change r) r (chain (reverse log) (leads_to r))

-- the chain below the log is empty
pub chain-zero : (rs : List LogRecord) → IsNumbered rs → chain rs 0 ≡ []
chain-zero [] is = refl
chain-zero (r ∷ rs) is = chain-skip r rs 0 is.0 (omega arith) ∙ chain-zero rs is.3

-- the place of savepoint n + 1 is the list's element n
pub place_in-read : (xs : List ℕ) (n d : ℕ) → n < length xs → place_of_savepoint xs (suc n) ≡ get_or xs n d
place_in-read [] n d h = absurd (omega arith)
place_in-read (x ∷ xs) zero d h = refl
place_in-read (x ∷ xs) (suc n) d h = place_in-read xs n d (omega arith)

-- the number of a savepoint, read at its place
pub place_in-at : (xs : List ℕ) (n d : ℕ) → 0 < n → n ≤ length xs → place_of_savepoint xs n ≡ get_or xs (n - 1) d
place_in-at xs zero d some h = absurd (omega arith)
place_in-at xs (suc n) d some h =
    let e : suc n - 1 ≡ n = omega arith in
    place_in-read xs n d (omega arith) ∙ ap (λ k. get_or xs k d) (sym e)

-- ---- an update that a chain meets stands in the log at its number

-- an update stands somewhere in a log
pub record Stands (rs : List LogRecord) (u : LogRecord) : Type 0 where
  pub newer : List LogRecord
  pub older : List LogRecord
  pub is : rs ≡ newer ++ u ∷ older

further : (r : LogRecord) (rs : List LogRecord) (u : LogRecord) → Stands rs u → Stands (r ∷ rs) u
further r rs u s = record { newer = r ∷ s.newer; older = s.older; is = ap (λ xs. r ∷ xs) s.is }

found_stands : (k : Bool) (r : LogRecord) (rs : List LogRecord) (u : LogRecord) (us : List LogRecord) → ((m : ℕ) → chain rs m ≡ u ∷ us → Stands rs u) → led k r (chain rs (leads_to r)) ≡ u ∷ us → Stands (r ∷ rs) u
found_stands true r rs u us step e = record { newer = []; older = rs; is = let same : r ≡ u = cc in ap (λ x. x ∷ rs) same }
found_stands false r rs u us step e = further r rs u (step (leads_to r) e)

stands_case : (r : LogRecord) (rs : List LogRecord) (n : ℕ) (u : LogRecord) (us : List LogRecord) → ((m : ℕ) → chain rs m ≡ u ∷ us → Stands rs u) → (b : Bool) → cond b (led (tells_change r) r (chain rs (leads_to r))) (chain rs n) ≡ u ∷ us → Stands (r ∷ rs) u
stands_case r rs n u us step true e = found_stands (tells_change r) r rs u us step e
stands_case r rs n u us step false e = further r rs u (step n e)

-- the head of a chain does
pub chain_stands : (rs : List LogRecord) (n : ℕ) (u : LogRecord) (us : List LogRecord) → chain rs n ≡ u ∷ us → Stands rs u
chain_stands [] n u us e = absurd (cc)
chain_stands (r ∷ rs) n u us e = stands_case r rs n u us (λ m. chain_stands rs m u us) (eqb (lsn_of r) n) e

get_seam : {A : Type 0} (xs : List A) (u : A) (zs : List A) → slice_get (xs ++ u ∷ zs) (length xs) ≡ Some u
get_seam [] u zs = refl
get_seam (x ∷ xs) u zs = get_seam xs u zs

-- so it is the record of its number
pub record_of_chain : (records : List LogRecord) (n : ℕ) (u : LogRecord) (us : List LogRecord) → IsNumbered (reverse records) → chain (reverse records) n ≡ u ∷ us → record_at records (lsn_of u) ≡ Some u
record_of_chain records n u us is e =
    let s = chain_stands (reverse records) n u us e in
    let part = numbered-part s.newer u s.older (subst IsNumbered s.is is) in
    let whole : records ≡ reverse s.older ++ u ∷ reverse s.newer =
    sym (reverse-reverse records) ∙ ap reverse s.is ∙ reverse-append s.newer (u ∷ s.older) ∙ ap (λ xs. xs ++ reverse s.newer) (reverse_cons u s.older) ∙ append_assoc (reverse s.older) (u ∷ []) (reverse s.newer) in
    let at : lsn_of u ≡ suc (length (reverse s.older)) = omega (arith, part.0, length-reverse s.older) in
    ap (record_at records) at ∙ ap (λ xs. slice_get xs (length (reverse s.older))) whole ∙ get_seam (reverse s.older) u (reverse s.newer)
