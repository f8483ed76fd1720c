-- When a file is full, when its log is, and what follows where neither is.
use Rattle.std.proofs.Common.{◌≡◌, ℕ, ◌+◌, ◌≤◌, ◌<◌, Bool, true, false, if◌then◌else◌, not, ◌&&◌, ◌||◌, nat_lt, nat_le, List, Option, Some, None, is_some, is_none, option_map, refl, sym, ap, subst, ◌∙◌, arith}
use Rattle.std.proofs.lemmas.Bool.Decides.{nat_tests}
use Rattle.std.specs.FinMap.{get, len}
use Rattle.rec_types.specs.Contents.{Contents, has}
use Rattle.rec_types.specs.declared.transaction.TxId.{TxId}
use Rattle.tx_log.specs.Owners.{owner_of, charged}
use Rattle.tx_log.specs.declared.phase.Phase.{Phase}
use Rattle.tx_log.specs.declared.phase.Phase.TheVariants as phases
use Rattle.record_file.specs.declared.refusal.Refusal.TheVariants.{LogFull}
use Rattle.rec_types.specs.History.{Change}
use Rattle.tx_log.specs.LogState.{LogState, open_in, history_in}
use Rattle.record_file.specs.Abstract.{File, Fits, file_of, records_of, open_of, phase_at, use_of, held_by, is_full, charged_of}
use Rattle.record_file.specs.Steps.{active_refusal, held_refusal, key_refusal}
use Rattle.record_file.proofs.ChargedLemmas.{claimed, has-charged}

none_of : (o : Option (List ℕ)) → is_none o ≡ not (is_some o)
none_of None = refl
none_of (Some r) = refl

some_by : (o : Option TxId) (p : Option ℕ) → option_map (λ (t : TxId). t.0) o ≡ p → is_some o ≡ is_some p
some_by None p is = ap is_some is
some_by (Some t) p is = ap is_some is

-- an owned key is charged
pub owned_not_full : (f : File) (x : List ℕ) (o : Option TxId) → option_map (λ (t : TxId). t.0) o ≡ owner_of (open_of f) f.history x → is_some o ≡ true → false ≡ is_full f x
owned_not_full f x o is some =
    let there : has (charged_of f) x ≡ true = has-charged (open_of f) f.history (records_of f) x ∙ ap (λ b. b || has (records_of f) x) (sym (some_by o _ is) ∙ some) in
    sym (ap (λ b. b && nat_le f.limits.records (len (charged_of f))) (none_of (get (charged_of f) x) ∙ ap not there))

-- where fewer keys are charged than the limit no key is full
pub below_not_full : (f : File) (x : List ℕ) (n : ℕ) → n ≡ len (charged_of f) → n < f.limits.records → false ≡ is_full f x
below_not_full f x n counted below = at (is_none (get (charged_of f) x)) (nat_le f.limits.records (len (charged_of f))) refl
  where
    at : (a b : Bool) → nat_le f.limits.records (len (charged_of f)) ≡ b → false ≡ a && b
    at true true is = absurd (grind (arith, nat_tests))
    at true false is = refl
    at false b is = refl

-- A key that isn't owned is full where it has no record, once the charged keys have reached the limit.
pub unowned_full : (f : File) (x : List ℕ) (n : ℕ) (o : Option TxId) (found : Option (List ℕ)) → n ≡ len (charged_of f) → f.limits.records ≤ n → option_map (λ (t : TxId). t.0) o ≡ owner_of (open_of f) f.history x → is_some o ≡ false → found ≡ get (records_of f) x → (b : Bool) → is_some found ≡ not b → b ≡ is_full f x
unowned_full f x n o found counted reached is none stood b answered =
    let there : has (charged_of f) x ≡ is_some found = has-charged (open_of f) f.history (records_of f) x ∙ ap (λ b. b || has (records_of f) x) (sym (some_by o _ is) ∙ none) ∙ ap is_some (sym stood) in
    let most : nat_le f.limits.records (len (charged_of f)) ≡ true = grind (arith, nat_tests) in
    twice b ∙ ap not (sym answered) ∙ ap not (sym there) ∙ sym (none_of (get (charged_of f) x)) ∙ and_true (is_none (get (charged_of f) x)) ∙ ap (λ b. is_none (get (charged_of f) x) && b) (sym most)
  where
    twice : (b : Bool) → b ≡ not (not b)
    twice true = refl
    twice false = refl

    and_true : (b : Bool) → b ≡ b && true
    and_true true = refl
    and_true false = refl

-- the same of a key that may be owned
pub full_where_absent : (f : File) (x : List ℕ) (n : ℕ) (o : Option TxId) → n ≡ len (charged_of f) → f.limits.records ≤ n → option_map (λ (t : TxId). t.0) o ≡ owner_of (open_of f) f.history x → (b : Bool) → is_some o ≡ not b → is_full f x ≡ b && is_none (get (records_of f) x)
full_where_absent f x n None counted reached is true unowned = sym (unowned_full f x n None (get (records_of f) x) counted reached is refl refl (is_none (get (records_of f) x)) (some_is (get (records_of f) x)))
  where
    some_is : (w : Option (List ℕ)) → is_some w ≡ not (is_none w)
    some_is None = refl
    some_is (Some r) = refl
full_where_absent f x n None counted reached is false unowned = absurd (cc)
full_where_absent f x n (Some t) counted reached is true unowned = absurd (cc)
full_where_absent f x n (Some t) counted reached is false unowned = sym (owned_not_full f x (Some t) is refl)

-- a key where a record stands isn't full
pub stands_not_full : (b full : Bool) (found : Option (List ℕ)) → full ≡ b && is_none found → is_some found ≡ true → full ≡ false
stands_not_full b full None is stands = absurd (cc)
stands_not_full true full (Some r) is stands = is
stands_not_full false full (Some r) is stands = is

-- what isn't full has room
pub room_of : (f : File) (x : List ℕ) → false ≡ is_full f x → has (charged_of f) x ≡ false → len (charged_of f) < f.limits.records
room_of f x not_full absent = at (nat_le f.limits.records (len (charged_of f))) refl (not_full ∙ ap (λ b. b && nat_le f.limits.records (len (charged_of f))) (none_of (get (charged_of f) x) ∙ ap not absent))
  where
    at : (b : Bool) → nat_le f.limits.records (len (charged_of f)) ≡ b → false ≡ nat_le f.limits.records (len (charged_of f)) → len (charged_of f) < f.limits.records
    at true is not_true = absurd (cc)
    at false is not_true = grind (arith, nat_tests)

-- a change that the file doesn't refuse has room in the log
pub change_fits : (f : File) (t : ℕ) (x : List ℕ) → key_refusal true f t x ≡ None → use_of f + 2 ≤ f.limits.log_records
change_fits f t x none = at (phase_at f t) (held_by f t x) (nat_lt f.limits.log_records (use_of f + 2)) refl none
  where
    at : (p : Option Phase) (h : Option ℕ) (l : Bool) → nat_lt f.limits.log_records (use_of f + 2) ≡ l → active_refusal (held_refusal true f h) p ≡ None → use_of f + 2 ≤ f.limits.log_records
    at None h l l_is none = absurd (cc)
    at (Some (phases.Rolling ends)) h l l_is none = absurd (cc)
    at (Some phases.Active) (Some owner) l l_is none = absurd (cc)
    at (Some phases.Active) None true l_is none = absurd (cc (ap (λ b. if b then Some LogFull else None) (sym l_is) ∙ none))
    at (Some phases.Active) None false l_is none = grind (arith, nat_tests)

-- the same of the table's present contents
pub room_now : (log : LogState) (now : Contents) (x : List ℕ) → Fits log.changes now → false ≡ is_full (file_of log now) x → has (charged (open_in log) (history_in log) now) x ≡ false → len (charged (open_in log) (history_in log) now) < log.limits.records
room_now log now x fits not_full =
    subst (λ (m : Contents). has (charged (open_in log) (history_in log) m) x ≡ false → len (charged (open_in log) (history_in log) m) < log.limits.records) (sym fits.replayed) (room_of (file_of log now) x not_full)

-- a key that has a record is charged
pub present_charged : (is_open : ℕ → Bool) (h : List Change) (now : Contents) (x : List ℕ) (found : Option (List ℕ)) → found ≡ get now x → is_some found ≡ true → has (charged is_open h now) x ≡ false → ⊥
present_charged is_open h now x found stood some absent =
    let there : has now x ≡ true = ap is_some (sym stood) ∙ some in
    absurd (cc (sym absent ∙ has-charged is_open h now x ∙ ap (λ b. claimed is_open h x || b) there ∙ or_true (claimed is_open h x)))
  where
    or_true : (b : Bool) → b || true ≡ true
    or_true true = refl
    or_true false = refl
