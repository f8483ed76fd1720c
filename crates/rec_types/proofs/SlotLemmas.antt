-- Where the records of a compact map stand after each change.
use Rattle.std.proofs.Common.{◌≡◌, ℕ, ◌+◌, ◌-◌, ◌<◌, ◌≤◌, ◌⊎◌, Bool, true, false, cond, List, [], ◌∷◌, ◌++◌, length, get_or, slice_get, set, Option, Some, None, Result, Ok, Err, OnErr, is_some, IsSome, if◌then◌else◌, inl, inr, ⊎_elim, refl, sym, ap, subst, ◌∙◌, arith}
use Rattle.std.proofs.lemmas.Bool.{cases_eq, cases_lt, false≢true}
use Rattle.std.proofs.lemmas.Cmp.{nat_list_eq_equiv}
use Rattle.std.proofs.lemmas.List.{length-append, length-map, length-set, get_or-set_same, get_or-set_other, get_or_append_left, get_or_default, get_or-map, get_or_push, map_push}
use Rattle.std.proofs.lemmas.Map.Entries.{place_from_lookup}
use Rattle.std.proofs.lemmas.Map.Keys.{IsDistinct-from_apart}
use Rattle.std.proofs.lemmas.Map.Made.{is_some-lookup, lookup-map_values}
use Rattle.std.proofs.lemmas.Map.Steps.{length-le_from_keys}
use Rattle.std.proofs.lemmas.Option.{slice_get-map, get_or_from_slice_get, slice_get_within}
use Rattle.std.specs.Cmp.Lexicographic.{texts_ties}
use Rattle.std.specs.List.{IsDistinct}
use Rattle.std.specs.Map.{keys_of, lookup}
use Rattle.std.specs.Option.{option_map}
use Rattle.rec_types.specs.Slots.{Slots, AreInPlace, pairs_in, place_of, record_in, short_in, slot_at}
use Rattle.rec_types.specs.Sorted.{Pairs, pair_at, same_bytes}
use Rattle.rec_types.specs.declared.slot.Slot.{Slot}
use Rattle.rec_types.specs.declared.slot.Slot.TheVariants.{Short, Long}
use Rattle.rec_types.proofs.ContentsLemmas.{same_key-is, same_key-of}

same_bytes-is : (a b : List ℕ) → same_bytes a b ≡ true → a ≡ b
same_bytes-is a b same = same_key-is a b (sym (texts_ties a b) ∙ same)

same_bytes-of : (a b : List ℕ) → a ≡ b → same_bytes a b ≡ true
same_bytes-of a b is = texts_ties a b ∙ same_key-of a b is

-- what the pairs say of a key
pub lookup-pairs_in : (slots : Slots) (long : Pairs) (q : List ℕ) → lookup (same_bytes q) (pairs_in slots long) ≡ option_map (record_in long) (slot_at slots q)
lookup-pairs_in slots long q = lookup-map_values (record_in long) (same_bytes q) slots

pub keys-pairs_in : (slots : Slots) (long : Pairs) → keys_of (pairs_in slots long) ≡ keys_of slots
keys-pairs_in [] long = refl
keys-pairs_in (e ∷ es) long = ap (λ ks. e.0 ∷ ks) (keys-pairs_in es long)

-- a key more
pub keys_push : (slots : Slots) (k : List ℕ) (slot : Slot) → keys_of (slots ++ (k, slot) ∷ []) ≡ keys_of slots ++ k ∷ []
keys_push slots k slot = map_push (λ (e : List ℕ × Slot). e.0) slots (k, slot)

pub length-pairs_in : (slots : Slots) (long : Pairs) → length (pairs_in slots long) ≡ length slots
length-pairs_in slots long = length-map slots (λ e. (e.0, record_in long e.1))

-- a slot has a record
read_some : (long : Pairs) (o : Option Slot) → is_some (option_map (record_in long) o) ≡ is_some o
read_some long None = refl
read_some long (Some slot) = refl

-- a key with a slot has a record
pub found-pairs_in : (slots : Slots) (long : Pairs) (q : List ℕ) → is_some (slot_at slots q) ≡ is_some (lookup (same_bytes q) (pairs_in slots long))
found-pairs_in slots long q = sym (read_some long (slot_at slots q)) ∙ ap (λ (o : Option (List ℕ)). is_some o) (sym (lookup-pairs_in slots long q))

-- what is known of slots and long records, seen as pairs
module _ (slots left : Slots) (long new : Pairs) (es : Pairs) (view : pairs_in slots long ≡ es) where
  pub record_seen : (q : List ℕ) → option_map (record_in long) (slot_at slots q) ≡ lookup (same_bytes q) es
  record_seen q = sym (lookup-pairs_in slots long q) ∙ ap (lookup (same_bytes q)) view

  pub none_seen : (q : List ℕ) → slot_at slots q ≡ None → lookup (same_bytes q) es ≡ None
  none_seen q none = sym (record_seen q) ∙ ap (option_map (record_in long)) none

  pub change_seen : (k : List ℕ) (w : Option (List ℕ)) → ((q : List ℕ) → option_map (record_in new) (slot_at left q) ≡ cond (same_bytes k q) w (option_map (record_in long) (slot_at slots q))) → (q : List ℕ) → lookup (same_bytes q) (pairs_in left new) ≡ cond (same_bytes k q) w (lookup (same_bytes q) es)
  change_seen k w is q = lookup-pairs_in left new q ∙ is q ∙ ap (cond (same_bytes k q) w) (record_seen q)

  pub keys_seen : keys_of left ≡ keys_of slots → keys_of (pairs_in left new) ≡ keys_of es
  keys_seen same = keys-pairs_in left new ∙ same ∙ sym (keys-pairs_in slots long) ∙ ap (λ (x : Pairs). keys_of x) view

  pub last_seen : (k : List ℕ) → keys_of left ≡ keys_of slots ++ k ∷ [] → keys_of (pairs_in left new) ≡ keys_of es ++ k ∷ []
  last_seen k more = keys-pairs_in left new ∙ more ∙ ap (λ (ks : List (List ℕ)). ks ++ k ∷ []) (sym (keys-pairs_in slots long) ∙ ap (λ (x : Pairs). keys_of x) view)

  -- as many records as slots: one more, where none stood at the key
  pub length_seen : (o : Option Slot) (r : Option (List ℕ)) → length left ≡ length slots + (if is_some o then 0 else 1) → r ≡ option_map (record_in long) o → length (pairs_in left new) ≡ length es + (if is_some r then 0 else 1)
  length_seen o r count is =
      length-pairs_in left new ∙ count
      ∙ ap (λ n. n + (if is_some o then 0 else 1)) (sym (length-pairs_in slots long) ∙ ap (λ (x : Pairs). length x) view)
      ∙ ap (λ (b : Bool). length es + (if b then 0 else 1)) (sym (ap (λ (x : Option (List ℕ)). is_some x) is ∙ read_some long o))

  pub distinct_seen : IsDistinct same_bytes (keys_of left) → IsDistinct same_bytes (keys_of (pairs_in left new))
  distinct_seen d = subst (IsDistinct same_bytes) (sym (keys-pairs_in left new)) d

-- a place that no slot has
no_place : (w : Option Slot) (i : ℕ) → place_of w ≡ None → w ≡ Some (Long i) → false ≡ true
no_place w i none here = ap (λ (o : Option ℕ). is_some o) (sym none ∙ ap place_of here)

-- two keys with places have two places
two_places : (o : Option Slot) (i j : ℕ) → o ≡ Some (Long i) → o ≡ Some (Long j) → i ≡ j
two_places o i j at_i at_j = ap placed (sym at_i ∙ at_j)
  where
    placed : Option Slot → ℕ
    placed None = 0
    placed (Some (Short bytes)) = 0
    placed (Some (Long at)) = at

module _ (s : List ℕ → Option Slot) (long : Pairs) (is : AreInPlace s long) where
  -- another key has another place
  apart : (k q : List ℕ) (at i : ℕ) → s k ≡ Some (Long at) → same_bytes k q ≡ false → s q ≡ Some (Long i) → i ≡ at → false ≡ true
  apart k q at i at_k other at_q same =
      sym other ∙ same_bytes-of k q (sym (is.placed k at at_k) ∙ ap (λ j. (pair_at long j).0) (sym same) ∙ is.placed q i at_q)

  -- a place other than the key's has another key
  other_key : (k : List ℕ) (at i : ℕ) → s k ≡ Some (Long at) → i < length long → (i ≡ at → false ≡ true) → same_bytes k (pair_at long i).0 ≡ false
  other_key k at i at_k within apart = by (same_bytes k (pair_at long i).0) refl
    where
      by : (b : Bool) → same_bytes k (pair_at long i).0 ≡ b → b ≡ false
      by true same = sym (apart (two_places (s k) i at (ap s (same_bytes-is k _ same) ∙ is.named i within) at_k))
      by false other = refl

  -- a key with no place stands at none
  not_placed : (k : List ℕ) (i : ℕ) → place_of (s k) ≡ None → i < length long → same_bytes k (pair_at long i).0 ≡ false
  not_placed k i none within = by (same_bytes k (pair_at long i).0) refl
    where
      by : (b : Bool) → same_bytes k (pair_at long i).0 ≡ b → b ≡ false
      by true same = sym (no_place (s k) i none (ap s (same_bytes-is k _ same) ∙ is.named i within))
      by false other = refl

  -- what stands in a slot is read alike from lists that agree at its place
  read_alike : (long' : Pairs) (o : Option Slot) → ((i : ℕ) → o ≡ Some (Long i) → pair_at long' i ≡ pair_at long i) → option_map (record_in long') o ≡ option_map (record_in long) o
  read_alike long' None alike = refl
  read_alike long' (Some (Short bytes)) alike = refl
  read_alike long' (Some (Long i)) alike = ap (λ (p : List ℕ × List ℕ). Some p.1) (alike i refl)

  -- no key stands at two places
  distinct_places : IsDistinct same_bytes (keys_of long)
  distinct_places = IsDistinct-from_apart same_bytes (keys_of long) (λ i j d before within.
      let in_j : j < length long = omega (arith, length-map {A = List ℕ × List ℕ} {B = List ℕ}, within) in
      let in_i : i < length long = omega (arith, in_j, before) in
      ap (λ (k : List ℕ). same_bytes k (get_or (keys_of long) j d)) (get_or-map (λ (e : List ℕ × List ℕ). e.0) long i ([], []) d in_i)
      ∙ ap (λ (k : List ℕ). same_bytes (pair_at long i).0 k) (get_or-map (λ (e : List ℕ × List ℕ). e.0) long j ([], []) d in_j)
      ∙ other_key (pair_at long i).0 i j (is.named i in_i) in_j (λ e. absurd (omega (arith, before, e))))

-- there are at most as many long records as keys
pub no_more_places : (slots : Slots) (long : Pairs) → AreInPlace (slot_at slots) long → length long ≤ length slots
no_more_places slots long is =
    let fits = length-le_from_keys nat_list_eq_equiv (keys_of long) slots (distinct_places (slot_at slots) long is) (λ q has. found q (lookup (same_bytes q) long) refl (is_some-lookup (same_bytes q) long ∙ has)) in
    omega (arith, fits, length-map {A = List ℕ × List ℕ} {B = List ℕ})
  where
    found : (q : List ℕ) (o : Option (List ℕ)) → lookup (same_bytes q) long ≡ o → is_some (lookup (same_bytes q) long) ≡ true → IsSome (slot_at slots q)
    found q None at has = absurd (false≢true (ap (λ (x : Option (List ℕ)). is_some x) (sym at) ∙ has))
    found q (Some r) at has =
        let p = place_from_lookup (same_bytes q) long r at in
        let key : (pair_at long p.0).0 ≡ p.1 = ap (λ (e : List ℕ × List ℕ). e.0) (get_or_from_slice_get long p.0 (p.1, r) ([], []) p.2) in
        let named = is.named p.0 (slice_get_within long p.0 (p.1, r) p.2) in
        ap (λ (o : Option Slot). is_some o) (ap (slot_at slots) (same_bytes-is q p.1 p.3 ∙ sym key) ∙ named)

-- ---- a long record is put in the place of another

keys_stay : (long : Pairs) (k r : List ℕ) (at i : ℕ) → at < length long → (pair_at long at).0 ≡ k → (pair_at (set long at (k, r)) i).0 ≡ (pair_at long i).0
keys_stay long k r at i within key = ⊎_elim
    (λ e. ap (λ (j : ℕ). (pair_at (set long at (k, r)) j).0) e ∙ ap (λ (p : List ℕ × List ℕ). p.0) (get_or-set_same long at (k, r) ([], []) within) ∙ sym key ∙ ap (λ (j : ℕ). (pair_at long j).0) (sym e))
    (λ ne. ap (λ (p : List ℕ × List ℕ). p.0) (get_or-set_other long at i (k, r) ([], []) ne))
    (cases_eq i at)

pub replaced : (s : List ℕ → Option Slot) (long : Pairs) (k r : List ℕ) (at : ℕ) → AreInPlace s long → s k ≡ Some (Long at) → AreInPlace s (set long at (k, r))
replaced s long k r at is at_k =
    let stay : (i : ℕ) → (pair_at (set long at (k, r)) i).0 ≡ (pair_at long i).0 = λ i. keys_stay long k r at i (is.within k at at_k) (is.placed k at at_k) in
    record {
      within = λ q i at_q. omega (arith, length-set long at (k, r), is.within q i at_q);
      placed = λ q i at_q. stay i ∙ is.placed q i at_q;
      named = λ i within. ap s (stay i) ∙ is.named i (omega (arith, length-set long at (k, r), within));
    }

pub replaced_records : (s : List ℕ → Option Slot) (long : Pairs) (k r : List ℕ) (at : ℕ) → AreInPlace s long → s k ≡ Some (Long at) → (q : List ℕ) → option_map (record_in (set long at (k, r))) (s q) ≡ cond (same_bytes k q) (Some r) (option_map (record_in long) (s q))
replaced_records s long k r at is at_k q = by (same_bytes k q) refl
  where
    by : (b : Bool) → same_bytes k q ≡ b → option_map (record_in (set long at (k, r))) (s q) ≡ cond b (Some r) (option_map (record_in long) (s q))
    by true same =
        ap (option_map (record_in (set long at (k, r)))) (ap s (sym (same_bytes-is k q same)) ∙ at_k)
        ∙ ap (λ (p : List ℕ × List ℕ). Some p.1) (get_or-set_same long at (k, r) ([], []) (is.within k at at_k))
    by false other = read_alike s long is (set long at (k, r)) (s q) (λ i at_q. get_or-set_other long at i (k, r) ([], []) (λ e. absurd (false≢true (apart s long is k q at i at_k other at_q e))))

-- ---- a slot that names no place is put, or taken out

pub changed : (s t : List ℕ → Option Slot) (long : Pairs) (k : List ℕ) (w : Option Slot) → AreInPlace s long → place_of (s k) ≡ None → place_of w ≡ None → ((q : List ℕ) → t q ≡ cond (same_bytes k q) w (s q)) → AreInPlace t long
changed s t long k w is none none_put puts = record {
  within = λ q i at_q. is.within q i (before q i (same_bytes k q) (sym (puts q) ∙ at_q));
  placed = λ q i at_q. is.placed q i (before q i (same_bytes k q) (sym (puts q) ∙ at_q));
  named = λ i within.
      puts (pair_at long i).0
      ∙ ap (λ b. cond b w (s (pair_at long i).0)) (not_placed s long is k i none within)
      ∙ is.named i within;
}
  where
    before : (q : List ℕ) (i : ℕ) (b : Bool) → cond b w (s q) ≡ Some (Long i) → s q ≡ Some (Long i)
    before q i true at_q = absurd (false≢true (no_place w i none_put at_q))
    before q i false at_q = at_q

pub changed_records : (s t : List ℕ → Option Slot) (long : Pairs) (k : List ℕ) (w : Option Slot) → ((q : List ℕ) → t q ≡ cond (same_bytes k q) w (s q)) → (q : List ℕ) → option_map (record_in long) (t q) ≡ cond (same_bytes k q) (option_map (record_in long) w) (option_map (record_in long) (s q))
changed_records s t long k w puts q = ap (option_map (record_in long)) (puts q) ∙ by (same_bytes k q)
  where
    by : (b : Bool) → option_map (record_in long) (cond b w (s q)) ≡ cond b (option_map (record_in long) w) (option_map (record_in long) (s q))
    by true = refl
    by false = refl

-- ---- a long record is put at a key that has none

module _ (s t : List ℕ → Option Slot) (long : Pairs) (k r : List ℕ) (is : AreInPlace s long) (none : place_of (s k) ≡ None)
    (puts : (q : List ℕ) → t q ≡ cond (same_bytes k q) (Some (Long (length long))) (s q)) where
  longer : length (long ++ (k, r) ∷ []) ≡ length long + 1
  longer = omega (arith, length-append {A = List ℕ × List ℕ})

  last : pair_at (long ++ (k, r) ∷ []) (length long) ≡ (k, r)
  last = get_or_push long (k, r) ([], []) (length long) refl

  front : (i : ℕ) → i < length long → pair_at (long ++ (k, r) ∷ []) i ≡ pair_at long i
  front i within = get_or_append_left long ((k, r) ∷ []) ([], []) i within

  put_where : (q : List ℕ) (i : ℕ) (b : Bool) → same_bytes k q ≡ b → cond b (Some (Long (length long))) (s q) ≡ Some (Long i) → ((k ≡ q) × (length long ≡ i)) ⊎ (s q ≡ Some (Long i))
  put_where q i true same at_q = inl (same_bytes-is k q same, two_places (Some (Long i)) (length long) i (sym at_q) refl)
  put_where q i false other at_q = inr at_q

  put_place : (q : List ℕ) (i : ℕ) → t q ≡ Some (Long i) → ((k ≡ q) × (length long ≡ i)) ⊎ (s q ≡ Some (Long i))
  put_place q i at_q = put_where q i (same_bytes k q) refl (sym (puts q) ∙ at_q)

  pub lengthened : AreInPlace t (long ++ (k, r) ∷ [])
  lengthened = record {
    within = λ q i at_q. ⊎_elim
        (λ here. omega (arith, longer, here.1))
        (λ there. omega (arith, longer, is.within q i there))
        (put_place q i at_q);
    placed = λ q i at_q. ⊎_elim
        (λ here. ap (λ (j : ℕ). (pair_at (long ++ (k, r) ∷ []) j).0) (sym here.1) ∙ ap (λ (p : List ℕ × List ℕ). p.0) last ∙ here.0)
        (λ there. ap (λ (p : List ℕ × List ℕ). p.0) (front i (is.within q i there)) ∙ is.placed q i there)
        (put_place q i at_q);
    named = λ i within. ⊎_elim
        (λ before.
        ap (λ (p : List ℕ × List ℕ). t p.0) (front i before)
        ∙ puts (pair_at long i).0
        ∙ ap (λ b. cond b (Some (Long (length long))) (s (pair_at long i).0)) (not_placed s long is k i none before)
        ∙ is.named i before)
        (λ past.
        let here : i ≡ length long = omega (arith, longer, within, past) in
        ap (λ (j : ℕ). t (pair_at (long ++ (k, r) ∷ []) j).0) here
        ∙ ap (λ (p : List ℕ × List ℕ). t p.0) last
        ∙ puts k
        ∙ ap (λ b. cond b (Some (Long (length long))) (s k)) (same_bytes-of k k refl)
        ∙ ap (λ (j : ℕ). Some (Long j)) (sym here))
        (cases_lt i (length long));
  }

  pub lengthened_records : (q : List ℕ) → option_map (record_in (long ++ (k, r) ∷ [])) (t q) ≡ cond (same_bytes k q) (Some r) (option_map (record_in long) (s q))
  lengthened_records q = ap (option_map (record_in (long ++ (k, r) ∷ []))) (puts q) ∙ by (same_bytes k q)
    where
      by : (b : Bool) → option_map (record_in (long ++ (k, r) ∷ [])) (cond b (Some (Long (length long))) (s q)) ≡ cond b (Some r) (option_map (record_in long) (s q))
      by true = ap (λ (p : List ℕ × List ℕ). Some p.1) last
      by false = read_alike s long is (long ++ (k, r) ∷ []) (s q) (λ i at_q. front i (is.within q i at_q))

-- ---- a long record is taken out, and the last goes to its place

pub record Taken (s t : List ℕ → Option Slot) (long left : Pairs) (k : List ℕ) (at : ℕ) : Type 0 where
  pub is : AreInPlace s long
  pub at_k : s k ≡ Some (Long at)
  pub takes : (q : List ℕ) → t q ≡ cond (same_bytes k q) None (s q)
  pub less : length left + 1 ≡ length long
  pub moves : at + 1 < length long → pair_at left at ≡ pair_at long (length long - 1)
  pub stay : (i : ℕ) → (i ≡ at → false ≡ true) → i + 1 < length long → pair_at left i ≡ pair_at long i

module _ (s t : List ℕ → Option Slot) (long left : Pairs) (k : List ℕ) (at : ℕ) (change : Taken s t long left k at) where
  is : AreInPlace s long
  is = change.is

  at_k : s k ≡ Some (Long at)
  at_k = change.at_k

  takes : (q : List ℕ) → t q ≡ cond (same_bytes k q) None (s q)
  takes = change.takes

  less : length left + 1 ≡ length long
  less = change.less

  stay : (i : ℕ) → (i ≡ at → false ≡ true) → i + 1 < length long → pair_at left i ≡ pair_at long i
  stay = change.stay

  taken_where : (q : List ℕ) (i : ℕ) (b : Bool) → same_bytes k q ≡ b → cond b None (s q) ≡ Some (Long i) → (same_bytes k q ≡ false) × (s q ≡ Some (Long i))
  taken_where q i true same at_q = absurd (false≢true (no_place None i refl at_q))
  taken_where q i false other at_q = (other, at_q)

  taken_place : (q : List ℕ) (i : ℕ) → t q ≡ Some (Long i) → (same_bytes k q ≡ false) × (s q ≡ Some (Long i))
  taken_place q i at_q = taken_where q i (same_bytes k q) refl (sym (takes q) ∙ at_q)

  left_alone : (q : List ℕ) → same_bytes k q ≡ false → t q ≡ s q
  left_alone q other = takes q ∙ ap (λ b. cond b None (s q)) other

  -- it was the last
  module _ (end : at + 1 ≡ length long) where
    below_end : (q : List ℕ) (i : ℕ) → same_bytes k q ≡ false → s q ≡ Some (Long i) → i + 1 < length long
    below_end q i other at_q = ⊎_elim
        (λ e. absurd (false≢true (apart s long is k q at i at_k other at_q e)))
        (λ ne. omega (arith, end, is.within q i at_q, ne))
        (cases_eq i at)

    pub last_taken : AreInPlace t left
    last_taken = record {
      within = λ q i at_q. let p = taken_place q i at_q in omega (arith, less, below_end q i p.0 p.1);
      placed = λ q i at_q. let p = taken_place q i at_q in
          ap (λ (e : List ℕ × List ℕ). e.0) (stay i (apart s long is k q at i at_k p.0 p.1) (below_end q i p.0 p.1)) ∙ is.placed q i p.1;
      named = λ i within.
          let not_at : i ≡ at → false ≡ true = λ e. absurd (omega (arith, less, end, within, e)) in
          let before : i < length long = omega (arith, less, within) in
          ap (λ (e : List ℕ × List ℕ). t e.0) (stay i not_at (omega (arith, less, within)))
          ∙ left_alone (pair_at long i).0 (other_key s long is k at i at_k before not_at)
          ∙ is.named i before;
    }

    pub last_taken_records : (q : List ℕ) → option_map (record_in left) (t q) ≡ cond (same_bytes k q) None (option_map (record_in long) (s q))
    last_taken_records q = ap (option_map (record_in left)) (takes q) ∙ by (same_bytes k q) refl
      where
        by : (b : Bool) → same_bytes k q ≡ b → option_map (record_in left) (cond b None (s q)) ≡ cond b None (option_map (record_in long) (s q))
        by true same = refl
        by false other = read_alike s long is left (s q) (λ i at_q. stay i (apart s long is k q at i at_k other at_q) (below_end q i other at_q))

  -- another was the last
  module _ (m : List ℕ) (further : at + 1 < length long) (m_is : (pair_at left at).0 ≡ m) where
    moves : pair_at left at ≡ pair_at long (length long - 1)
    moves = change.moves further

    at_m : s m ≡ Some (Long (length long - 1))
    at_m = ap s (sym m_is ∙ ap (λ (e : List ℕ × List ℕ). e.0) moves) ∙ is.named (length long - 1) (omega (arith, further))

    not_last : at ≡ length long - 1 → false ≡ true
    not_last e = absurd (omega (arith, further, e))

    not_m : same_bytes k m ≡ false
    not_m = by (same_bytes k m) refl
      where
        by : (b : Bool) → same_bytes k m ≡ b → b ≡ false
        by true same = sym (not_last (two_places (s m) at (length long - 1) (ap s (sym (same_bytes-is k m same)) ∙ at_k) at_m))
        by false other = refl

    -- the key that moved is found before its slot tells
    pub moved_found : t m ≡ Some (Long (length long - 1))
    moved_found = left_alone m not_m ∙ at_m

    module _ (u : List ℕ → Option Slot) (puts : (q : List ℕ) → u q ≡ cond (same_bytes m q) (Some (Long at)) (t q)) where
      moved_where : (q : List ℕ) (i : ℕ) (b : Bool) → same_bytes m q ≡ b → cond b (Some (Long at)) (t q) ≡ Some (Long i) → ((m ≡ q) × (at ≡ i)) ⊎ ((same_bytes m q ≡ false) × (same_bytes k q ≡ false) × (s q ≡ Some (Long i)))
      moved_where q i true same at_q = inl (same_bytes-is m q same, two_places (Some (Long i)) at i (sym at_q) refl)
      moved_where q i false other at_q = inr (other, (taken_place q i at_q).0, (taken_place q i at_q).1)

      moved_place : (q : List ℕ) (i : ℕ) → u q ≡ Some (Long i) → ((m ≡ q) × (at ≡ i)) ⊎ ((same_bytes m q ≡ false) × (same_bytes k q ≡ false) × (s q ≡ Some (Long i)))
      moved_place q i at_q = moved_where q i (same_bytes m q) refl (sym (puts q) ∙ at_q)

      below_last : (q : List ℕ) (i : ℕ) → same_bytes m q ≡ false → s q ≡ Some (Long i) → i + 1 < length long
      below_last q i other at_q = ⊎_elim
          (λ e. absurd (false≢true (apart s long is m q (length long - 1) i at_m other at_q e)))
          (λ ne. omega (arith, further, is.within q i at_q, ne))
          (cases_eq i (length long - 1))

      pub moved : AreInPlace u left
      moved = record {
        within = λ q i at_q. ⊎_elim
            (λ here. omega (arith, less, further, here.1))
            (λ there. omega (arith, less, below_last q i there.0 there.2))
            (moved_place q i at_q);
        placed = λ q i at_q. ⊎_elim
            (λ here. ap (λ (j : ℕ). (pair_at left j).0) (sym here.1) ∙ m_is ∙ here.0)
            (λ there. ap (λ (e : List ℕ × List ℕ). e.0) (stay i (apart s long is k q at i at_k there.1 there.2) (below_last q i there.0 there.2)) ∙ is.placed q i there.2)
            (moved_place q i at_q);
        named = λ i within. ⊎_elim
            (λ here.
            ap (λ (j : ℕ). u (pair_at left j).0) here ∙ ap u m_is ∙ puts m
            ∙ ap (λ b. cond b (Some (Long at)) (t m)) (same_bytes-of m m refl)
            ∙ ap (λ (j : ℕ). Some (Long j)) (sym here))
            (λ ne.
            let not_at : i ≡ at → false ≡ true = λ e. absurd (ne e) in
            let before : i < length long = omega (arith, less, within) in
            let not_end : i ≡ length long - 1 → false ≡ true = λ e. absurd (omega (arith, less, within, further, e)) in
            ap (λ (e : List ℕ × List ℕ). u e.0) (stay i not_at (omega (arith, less, within)))
            ∙ puts (pair_at long i).0
            ∙ ap (λ b. cond b (Some (Long at)) (t (pair_at long i).0)) (other_key s long is m (length long - 1) i at_m before not_end)
            ∙ left_alone (pair_at long i).0 (other_key s long is k at i at_k before not_at)
            ∙ is.named i before)
            (cases_eq i at);
      }

      pub moved_records : (q : List ℕ) → option_map (record_in left) (u q) ≡ cond (same_bytes k q) None (option_map (record_in long) (s q))
      moved_records q = ap (option_map (record_in left)) (puts q) ∙ by (same_bytes m q) refl
        where
          here : m ≡ q → Some (pair_at left at).1 ≡ cond (same_bytes k q) None (option_map (record_in long) (s q))
          here same =
              ap (λ (e : List ℕ × List ℕ). Some e.1) moves
              ∙ ap (option_map (record_in long)) (sym at_m)
              ∙ ap (λ b. cond b None (option_map (record_in long) (s m))) (sym not_m)
              ∙ ap (λ (x : List ℕ). cond (same_bytes k x) None (option_map (record_in long) (s x))) same

          there : same_bytes m q ≡ false → (b : Bool) → same_bytes k q ≡ b → option_map (record_in left) (cond b None (s q)) ≡ cond b None (option_map (record_in long) (s q))
          there other true same = refl
          there other false apart_k = read_alike s long is left (s q) (λ i at_q. stay i (apart s long is k q at i at_k apart_k at_q) (below_last q i other at_q))

          by : (b : Bool) → same_bytes m q ≡ b → option_map (record_in left) (cond b (Some (Long at)) (t q)) ≡ cond (same_bytes k q) None (option_map (record_in long) (s q))
          by true same = here (same_bytes-is m q same)
          by false other = ap (option_map (record_in left)) (takes q) ∙ there other (same_bytes k q) refl

-- the key at a place, read with another value for a place that isn't there
pub key_read : (long : Pairs) (at : ℕ) (p : List ℕ × List ℕ) → at < length long → p ≡ get_or long at p → (pair_at long at).0 ≡ p.0
key_read long at p within read = ap (λ (e : List ℕ × List ℕ). e.0) (get_or_default long at ([], []) p within ∙ sym read)

-- a slot without a place has its record itself
pub short_read : (long : Pairs) (o : Option Slot) → place_of o ≡ None → short_in o ≡ option_map (record_in long) o
short_read long None none = refl
short_read long (Some (Short bytes)) none = refl
short_read long (Some (Long at)) none = absurd (false≢true (no_place (Some (Long at)) at none refl))

-- what stands at an index
pub pair_seen : (slots : Slots) (long : Pairs) (es : Pairs) (index : ℕ) (k : List ℕ) (slot : Slot) → pairs_in slots long ≡ es → slice_get slots index ≡ Some (k, slot) → (k, record_in long slot) ≡ pair_at es index
pair_seen slots long es index k slot view there =
    sym (get_or_from_slice_get es index (k, record_in long slot) ([], [])
    (ap (λ (x : Pairs). slice_get x index) (sym view)
    ∙ slice_get-map (λ e. (e.0, record_in long e.1)) slots index
    ∙ ap (option_map (λ e. (e.0, record_in long e.1))) there))

-- a slot with its record is a slot
-- no slot
pub none_short : (o : Option Slot) → place_of o ≡ None → short_in o ≡ None → o ≡ None
none_short None long none = refl
none_short (Some (Short r)) long none = absurd (cc)
none_short (Some (Long at)) long none = absurd (cc)

pub short_some : (o : Option Slot) → is_some (short_in o) ≡ true → is_some o ≡ true
short_some None some = some
short_some (Some slot) some = refl

-- there is room for the keys after a put
pub room_after : (cap n m : ℕ) (o s : Option Slot) → o ≡ s → m ≡ n + (if is_some o then 0 else 1) → n + (if is_some s then 0 else 1) ≤ cap → m ≤ cap
room_after cap n m o s is count room = subst (λ x. x ≤ cap) (sym (count ∙ ap (λ (x : Option Slot). n + (if is_some x then 0 else 1)) is)) room

-- what holds however a call went
pub on_err : {A E : Type 0} {P : Type 0} (r : Result A E) → P → OnErr r P
on_err (Ok a) p = tt
on_err (Err e) p = p

-- the place that was found is the slot's
pub found_place : (o : Option Slot) (at : ℕ) → place_of o ≡ Some at → o ≡ Some (Long at)
found_place None at is = absurd (false≢true (ap (λ (x : Option ℕ). is_some x) is))
found_place (Some (Short bytes)) at is = absurd (false≢true (ap (λ (x : Option ℕ). is_some x) is))
found_place (Some (Long i)) at is = ap (λ (x : Option ℕ). place_or x) is
  where
    place_or : Option ℕ → Option Slot
    place_or None = None
    place_or (Some i) = Some (Long i)
