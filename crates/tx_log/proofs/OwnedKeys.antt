-- The keys of a transaction, in order.
use Rattle.std.proofs.Common.{◌≡◌, ℕ, Bool, true, false, cond, eqb, ◌&&◌, ◌||◌, List, [], ◌∷◌, ◌++◌, map, Option, Some, None, is_some, T, refl, sym, ap, subst, ◌∙◌}
use Rattle.std.specs.FinMap as maps
use Rattle.std.specs.FinMap.{slice_cmp-IsAntisymmetric, nat_cmp-IsAntisymmetric}
use Rattle.std.specs.FinMap.Entries.{is_sorted, below_all}
use Rattle.std.specs.Cmp.{IsEquivalence}
use Rattle.std.specs.Cmp.Lexicographic.{slice_cmp, pointwise, texts_ties}
use Rattle.std.specs.List.{list_any, dedup, AllByRecursion}
use Rattle.std.specs.List.Sorted.{IsPermutation, IsSorted, IsStrictlySortedBy}
use Rattle.std.specs.Ordering.{nat_cmp, is_lt}
use Rattle.std.specs.declared.cmp.Ordering.{Ordering}
use Rattle.std.specs.declared.cmp.Ordering.TheVariants.{Less}
use Rattle.std.proofs.lemmas.Cmp.{nat_list_cmp_total, eq_by_cmp_equiv}
use Rattle.std.proofs.lemmas.List.Kept.{IsStrictlySortedBy-dedup, Contains-dedup, Contains-from_dedup}
use Rattle.std.proofs.lemmas.List.Sorted.{Contains-permutation, IsPermutation-sym}
use Rattle.std.proofs.lemmas.Map.Views.{Contains-from_any, list_any-from_Contains}
use Rattle.rec_types.specs.Contents.{Contents, set_to, same_key}
use Rattle.rec_types.specs.History.{is_pending}
use Rattle.rec_types.specs.declared.transaction.TxId.{TxId}
use Rattle.rec_types.specs.Kept.{Kept, change_of, history_of, is_own}
use Rattle.tx_log.proofs.Chains.{same_number}
use Rattle.tx_log.proofs.KeyLemmas.{get-set_to}
use Rattle.tx_log.proofs.Lives.{single, lives, stack_is_lives}
use Rattle.tx_log.proofs.OpenTxLemmas.{opens_is}
use Rattle.tx_log.proofs.HoldingLemmas.{same_bytes-key}
use Rattle.tx_log.proofs.KeyListLemmas.{changed_are_held}
use Rattle.tx_log.specs.Finds.{finding}
use Rattle.tx_log.specs.Log.{key_of_record, kept_of, stack, noted}
use Rattle.tx_log.specs.Holdings.{HoldsKey, same_bytes, IsHeld, AreHeld}
use Rattle.tx_log.specs.Owners.{charged, keys_owned}
use Rattle.tx_log.specs.OpenTxs.{txs_of, opens}
use Rattle.tx_log.specs.Transactions.{is_open}
use Rattle.tx_log.specs.declared.log_record.LogRecord.{LogRecord}
use Rattle.tx_log.specs.declared.open_tx.OpenTx.{OpenTx}
use Rattle.rec_types.proofs.ContentsLemmas.{same_key-is}

-- ---- what a map of owned keys has

-- whether a key is one of some
abbrev pub among : List ℕ → List (List ℕ) → Bool
among q ks = list_any (same_key q) ks

-- the keys of some changes
abbrev pub keys_in : List Kept → List (List ℕ)
keys_in us = map (λ (c : Kept). c.key) us

abbrev told : Bool → Option (List ℕ)
told b = cond b (Some []) None

or_told : (a b : Bool) → cond a (Some []) (told b) ≡ told (b || a)
or_told true true = refl
or_told true false = refl
or_told false true = refl
or_told false false = refl

or_assoc : (a b c : Bool) → (a || (b || c)) ≡ ((a || b) || c)
or_assoc true b c = refl
or_assoc false b c = refl

or_none : (a : Bool) → (a || false) ≡ a
or_none true = refl
or_none false = refl

among_single : (q : List ℕ) (us : List Kept) (b : Bool) (c : Kept) → among q (keys_in (us ++ single b c)) ≡ (among q (keys_in us) || (b && same_key q c.key))
among_single q [] true c = or_none (same_key q c.key)
among_single q [] false c = refl
among_single q (u ∷ us) b c = ap (λ x. same_key q u.key || x) (among_single q us b c) ∙ or_assoc (same_key q u.key) (among q (keys_in us)) (b && same_key q c.key)

abbrev owns : ℕ → (ℕ → Bool) → ℕ → Bool
owns t is_open u = eqb u t && is_open u

own_pending : (is_open : ℕ → Bool) (t : ℕ) (c : Kept) → is_open t ≡ true → is_pending (owns t is_open) (change_of c) ≡ is_own t c
own_pending is_open t c opened = pending_case c.live (eqb c.tx t) refl
  where
    pending_case : (a b : Bool) → eqb c.tx t ≡ b → (a && (b && is_open c.tx)) ≡ (b && a)
    pending_case true true e = ap is_open (same_number c.tx t e) ∙ opened
    pending_case true false e = refl
    pending_case false true e = refl
    pending_case false false e = refl

charged_case : (q : List ℕ) (m : Contents) (x : List ℕ) (a b : Bool) → maps.get m q ≡ told a → maps.get (cond b (set_to m x (Some [])) m) q ≡ told (a || (b && same_key q x))
charged_case q m x a true e = get-set_to m x (Some []) q ∙ ap (λ o. cond (same_key q x) (Some []) o) e ∙ or_told (same_key q x) a
charged_case q m x a false e = e ∙ ap told (sym (or_none a))

get_owned : (is_open : ℕ → Bool) (t : ℕ) (cs : List Kept) (q : List ℕ) → is_open t ≡ true → maps.get (charged (owns t is_open) (history_of cs) maps.empty) q ≡ told (among q (keys_in (lives t cs)))
get_owned is_open t [] q opened = maps.get-empty (slice_cmp nat_cmp) q
get_owned is_open t (c ∷ cs) q opened =
    ap (λ (b : Bool). maps.get (cond b (set_to (charged (owns t is_open) (history_of cs) maps.empty) c.key (Some [])) (charged (owns t is_open) (history_of cs) maps.empty)) q) (own_pending is_open t c opened)
    ∙ charged_case q (charged (owns t is_open) (history_of cs) maps.empty) c.key (among q (keys_in (lives t cs))) (is_own t c) (get_owned is_open t cs q opened)
    ∙ ap told (sym (among_single q (lives t cs) (is_own t c) c))

-- ---- keys in order, each once

abbrev beside : List (List ℕ) → List (List ℕ × List ℕ)
beside ks = map (λ k. (k, [])) ks

is_less : (o : Ordering) → o ≡ Less → is_lt o ≡ true
is_less o e = ap is_lt e

below_keys : (x : List ℕ) (ks : List (List ℕ)) → AllByRecursion (λ y. slice_cmp nat_cmp x y ≡ Less) ks → below_all (slice_cmp nat_cmp) x (beside ks) ≡ true
below_keys x [] h = refl
below_keys x (k ∷ ks) h = ap (λ b. b && below_all (slice_cmp nat_cmp) x (beside ks)) (is_less _ h.0) ∙ below_keys x ks h.1

rising : (ks : List (List ℕ)) → IsStrictlySortedBy (slice_cmp nat_cmp) ks → is_sorted (slice_cmp nat_cmp) (beside ks) ≡ true
unfolding IsStrictlySortedBy
rising [] h = refl
rising (k ∷ ks) h = ap (λ b. b && is_sorted (slice_cmp nat_cmp) (beside ks)) (below_keys k ks h.0) ∙ rising ks h.1

find_beside : (q : List ℕ) (ks : List (List ℕ)) → maps.find (slice_cmp nat_cmp) q (beside ks) ≡ told (among q ks)
find_beside q [] = refl
find_beside q (k ∷ ks) = beside_case (same_key q k) (find_beside q ks)
  where
    beside_case : (b : Bool) → maps.find (slice_cmp nat_cmp) q (beside ks) ≡ told (among q ks) → cond b (Some []) (maps.find (slice_cmp nat_cmp) q (beside ks)) ≡ told (b || among q ks)
    beside_case true e = refl
    beside_case false e = e

keys_beside : (ks : List (List ℕ)) → map (λ (e : List ℕ × List ℕ). e.0) (beside ks) ≡ ks
keys_beside [] = refl
keys_beside (k ∷ ks) = ap (λ xs. k ∷ xs) (keys_beside ks)

-- a map is known by its keys where all stand for one thing
keys_are : (m : Contents) (ks : List (List ℕ)) → IsStrictlySortedBy (slice_cmp nat_cmp) ks → ((q : List ℕ) → maps.get m q ≡ told (among q ks)) → maps.keys m ≡ ks
keys_are m ks up h =
    let in_order : T (is_sorted (slice_cmp nat_cmp) (beside ks)) = subst T (sym (rising ks up)) tt in
    let same : m ≡ maps.from_sorted (beside ks) = maps.same_map nat_list_cmp_total (slice_cmp-IsAntisymmetric nat_cmp-IsAntisymmetric) m (maps.from_sorted (beside ks)) (λ q. h q ∙ sym (find_beside q ks) ∙ sym (maps.get-from_sorted (slice_cmp nat_cmp) (beside ks) q in_order)) in
    ap (λ (n : Contents). maps.keys n) same
    ∙ ap (map (λ (e : List ℕ × List ℕ). e.0)) (maps.entries-from_sorted (slice_cmp nat_cmp) (beside ks) in_order)
    ∙ keys_beside ks

-- ---- sorted, and then without repetition

both_ways : (a b : Bool) → (a ≡ true → b ≡ true) → (b ≡ true → a ≡ true) → a ≡ b
both_ways true true f g = refl
both_ways true false f g = sym (f refl)
both_ways false true f g = g refl
both_ways false false f g = refl

same_pointwise : (x y : List ℕ) → pointwise eqb x y ≡ true → x ≡ y
same_pointwise x y e = same_key-is x y (sym (texts_ties x y) ∙ e)

pointwise_equiv : IsEquivalence (pointwise eqb)
pointwise_equiv = subst IsEquivalence (λ i x y. sym (texts_ties x y) i) (eq_by_cmp_equiv nat_list_cmp_total)

among_sorted : (ks ps : List (List ℕ)) (q : List ℕ) → IsPermutation ks ps → among q (dedup (pointwise eqb) ps) ≡ among q ks
among_sorted ks ps q moved =
    let laws = eq_by_cmp_equiv nat_list_cmp_total in
    both_ways (among q (dedup (pointwise eqb) ps)) (among q ks)
    (λ h. list_any-from_Contains laws q ks (Contains-permutation ps ks q (IsPermutation-sym ks ps moved) (Contains-from_dedup (pointwise eqb) ps q (Contains-from_any same_key-is q (dedup (pointwise eqb) ps) h))))
    (λ h. list_any-from_Contains laws q (dedup (pointwise eqb) ps) (Contains-dedup pointwise_equiv same_pointwise ps q (Contains-permutation ks ps q moved (Contains-from_any same_key-is q ks h))))

keys_noted : (us : List LogRecord) → keys_in (map noted us) ≡ map key_of_record us
keys_noted [] = refl
keys_noted (u ∷ us) = ap (λ ks. key_of_record u ∷ ks) (keys_noted us)

same_among : (q : List ℕ) (ks : List (List ℕ)) → among q ks ≡ list_any (same_bytes q) ks
same_among q ks = ap (λ (test : List ℕ → Bool). list_any test ks) (λ i y. sym (same_bytes-key q y) i)

-- the sorted keys that a transaction holds, each once, are those that it owns
pub owned_keys : (rs : List LogRecord) (es : List (TxId × OpenTx)) (holds : HoldsKey) (t : ℕ) (e : OpenTx) (ks ps out : List (List ℕ)) → IsHeld rs (opens (finding es)) holds → finding es t ≡ Some e → AreHeld holds t ks → IsPermutation ks ps → IsSorted (slice_cmp nat_cmp) ps → out ≡ dedup (pointwise eqb) ps → out ≡ keys_owned (is_open (txs_of (kept_of rs) es)) (history_of (kept_of rs)) t
owned_keys rs es holds t e ks ps out is found are moved up out_is =
    let cs = kept_of rs in
    let opened : opens (finding es) t ≡ true = ap is_some found in
    let live_keys : keys_in (lives t cs) ≡ map key_of_record (stack t rs) = ap keys_in (sym (stack_is_lives t rs)) ∙ keys_noted (stack t rs) in
    let same : (q : List ℕ) → among q (keys_in (lives t cs)) ≡ among q ks = λ q.
    ap (among q) live_keys ∙ same_among q (map key_of_record (stack t rs)) ∙ changed_are_held rs (opens (finding es)) holds t is opened q ∙ sym (are q) ∙ sym (same_among q ks) in
    let strict : IsStrictlySortedBy (slice_cmp nat_cmp) (dedup (pointwise eqb) ps) = IsStrictlySortedBy-dedup nat_list_cmp_total texts_ties ps up in
    let m = charged (owns t (opens (finding es))) (history_of cs) maps.empty in
    let has : (q : List ℕ) → maps.get m q ≡ told (among q (dedup (pointwise eqb) ps)) = λ q.
    get_owned (opens (finding es)) t cs q opened ∙ ap told (same q) ∙ ap told (sym (among_sorted ks ps q moved)) in
    out_is ∙ sym (keys_are m (dedup (pointwise eqb) ps) strict has) ∙ ap (λ (o : ℕ → Bool). keys_owned o (history_of cs) t) (sym (opens_is cs es))

no_order : IsStrictlySortedBy (slice_cmp nat_cmp) []
unfolding IsStrictlySortedBy
no_order = tt

-- ---- a transaction that isn't open owns nothing

shut_pending : (is_open : ℕ → Bool) (t : ℕ) (c : Kept) → is_open t ≡ false → is_pending (owns t is_open) (change_of c) ≡ false
shut_pending is_open t c shut = pending_case c.live (eqb c.tx t) refl
  where
    pending_case : (a b : Bool) → eqb c.tx t ≡ b → (a && (b && is_open c.tx)) ≡ false
    pending_case true true e = ap is_open (same_number c.tx t e) ∙ shut
    pending_case true false e = refl
    pending_case false b e = refl

no_keys : (is_open : ℕ → Bool) (t : ℕ) (cs : List Kept) → is_open t ≡ false → charged (owns t is_open) (history_of cs) maps.empty ≡ maps.empty
no_keys is_open t [] shut = refl
no_keys is_open t (c ∷ cs) shut =
    ap (λ (b : Bool). cond b (set_to (charged (owns t is_open) (history_of cs) maps.empty) c.key (Some [])) (charged (owns t is_open) (history_of cs) maps.empty)) (shut_pending is_open t c shut)
    ∙ no_keys is_open t cs shut

-- a transaction that isn't open owns none
pub unowned_keys : (cs : List Kept) (es : List (TxId × OpenTx)) (t : ℕ) → finding es t ≡ None → [] ≡ keys_owned (is_open (txs_of cs es)) (history_of cs) t
unowned_keys cs es t none =
    let nothing : (q : List ℕ) → maps.get {X = List ℕ} {R = slice_cmp nat_cmp} maps.empty q ≡ told (among q []) = λ q. maps.get-empty (slice_cmp nat_cmp) q in
    sym (ap (λ (o : ℕ → Bool). keys_owned o (history_of cs) t) (opens_is cs es) ∙ ap (λ (m : Contents). maps.keys m) (no_keys (opens (finding es)) t cs (ap is_some none)) ∙ keys_are maps.empty [] no_order nothing)
