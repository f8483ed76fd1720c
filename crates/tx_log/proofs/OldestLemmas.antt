-- What stood at a key before the oldest live change there.
use Rattle.std.proofs.Common.{◌≡◌, ℕ, Bool, true, false, cond, eqb, ◌&&◌, if◌then◌else◌, List, [], ◌∷◌, ◌++◌, map, Option, Some, None, refl, sym, ap, ◌∙◌, eq-eqb}
use Rattle.rec_types.specs.Contents.{same_key}
use Rattle.rec_types.specs.Kept.{Kept, change_of, history_of, is_own}
use Rattle.tx_log.specs.Log.{noted, kept_of, stack, chain, old_of}
use Rattle.tx_log.specs.Owners.{claims, owner_of, before_owned}
use Rattle.tx_log.specs.Walks.{is_at, oldest_at}
use Rattle.tx_log.specs.declared.log_record.LogRecord.{LogRecord}
use Rattle.tx_log.specs.declared.undo_chain.LiveChange.{LiveChange}
use Rattle.tx_log.proofs.Chains.{same_number}
use Rattle.tx_log.proofs.Lives.{single, lives, stack_is_lives}
use Rattle.tx_log.proofs.WalkSteps.{IsStep}

-- one step of the walk
pub step_oldest : (rs : List LogRecord) (at : ℕ) (change : LiveChange) (k : List ℕ) (found : Option (Option (List ℕ))) (step : IsStep rs at change) → oldest_at k (chain rs at) found ≡ oldest_at k (chain rs change.prev) (if same_key change.key k then Some change.before else found)
step_oldest rs at change k found step =
    ap (λ (us : List LogRecord). oldest_at k us found) step.is
    ∙ ap (λ (c : LiveChange). oldest_at k step.rest (if same_key c.key k then Some c.before else found)) step.told
    ∙ ap (λ (us : List LogRecord). oldest_at k us (if same_key change.key k then Some change.before else found)) (sym step.tail)

-- the same of changes
abbrev oldest_kept : List ℕ → List Kept → Option (Option (List ℕ)) → Option (Option (List ℕ))
oldest_kept k [] found = found
oldest_kept k (c ∷ cs) found = oldest_kept k cs (if same_key c.key k then Some c.before else found)

noted_oldest : (k : List ℕ) (us : List LogRecord) (found : Option (Option (List ℕ))) → oldest_at k us found ≡ oldest_kept k (map noted us) found
noted_oldest k [] found = refl
noted_oldest k (u ∷ us) found = noted_oldest k us (if is_at k u then Some (old_of u) else found)

joined : (k : List ℕ) (cs ds : List Kept) (found : Option (Option (List ℕ))) → oldest_kept k (cs ++ ds) found ≡ oldest_kept k ds (oldest_kept k cs found)
joined k [] ds found = refl
joined k (c ∷ cs) ds found = joined k cs ds (if same_key c.key k then Some c.before else found)

-- the first of the transaction's live changes at the key
abbrev first_own : ℕ → List ℕ → List Kept → Option (Option (List ℕ))
first_own t k [] = None
first_own t k (c ∷ cs) = if is_own t c && same_key c.key k then Some c.before else first_own t k cs

lives_oldest : (t : ℕ) (k : List ℕ) (cs : List Kept) → oldest_kept k (lives t cs) None ≡ first_own t k cs
lives_oldest t k [] = refl
lives_oldest t k (c ∷ cs) =
    joined k (lives t cs) (single (is_own t c) c) None ∙ ap (oldest_kept k (single (is_own t c) c)) (lives_oldest t k cs) ∙ at (is_own t c)
  where
    at : (b : Bool) → oldest_kept k (single b c) (first_own t k cs) ≡ (if b && same_key c.key k then Some c.before else first_own t k cs)
    at true = refl
    at false = refl

-- it is that of the owner
own_first : (is_open : ℕ → Bool) (t : ℕ) (k : List ℕ) (cs : List Kept) → is_open t ≡ true → owner_of is_open (history_of cs) k ≡ Some t → first_own t k cs ≡ before_owned is_open cs k
own_first is_open t k [] opened owner = refl
own_first is_open t k (c ∷ cs) opened owner =
    at c.live (is_open c.tx) (same_key c.key k) (eqb c.tx t) refl refl owner (own_first is_open t k cs opened)
  where
    one_tx : (u v : ℕ) → Some u ≡ Some v → u ≡ v
    one_tx u v is = cc

    at : (live begun at_key mine : Bool) → is_open c.tx ≡ begun → eqb c.tx t ≡ mine → cond ((live && begun) && at_key) (Some c.tx) (owner_of is_open (history_of cs) k) ≡ Some t → (owner_of is_open (history_of cs) k ≡ Some t → first_own t k cs ≡ before_owned is_open cs k)
        → cond ((mine && live) && at_key) (Some c.before) (first_own t k cs) ≡ cond ((live && begun) && at_key) (Some c.before) (before_owned is_open cs k)
    at true true true true opens is here rest = refl
    at true true true false opens is here rest = absurd (let yes = eq-eqb c.tx t (one_tx c.tx t here) in let no : true ≡ false = sym yes ∙ is in cc)
    at true false true true opens is here rest = absurd (let no : true ≡ false = sym opened ∙ ap is_open (sym (same_number c.tx t is)) ∙ opens in cc)
    at true false true false opens is here rest = rest here
    at true true false true opens is here rest = rest here
    at true true false false opens is here rest = rest here
    at true false false true opens is here rest = rest here
    at true false false false opens is here rest = rest here
    at false begun at_key true opens is here rest = rest here
    at false begun at_key false opens is here rest = rest here

pub oldest_owned : (is_open : ℕ → Bool) (t : ℕ) (k : List ℕ) (rs : List LogRecord) → is_open t ≡ true → owner_of is_open (history_of (kept_of rs)) k ≡ Some t → oldest_at k (stack t rs) None ≡ before_owned is_open (kept_of rs) k
oldest_owned is_open t k rs opened owner =
    noted_oldest k (stack t rs) None ∙ ap (λ (cs : List Kept). oldest_kept k cs None) (stack_is_lives t rs) ∙ lives_oldest t k (kept_of rs) ∙ own_first is_open t k (kept_of rs) opened owner

-- a key without an owner
pub none_owned : (is_open : ℕ → Bool) (k : List ℕ) (cs : List Kept) → owner_of is_open (history_of cs) k ≡ None → before_owned is_open cs k ≡ None
none_owned is_open k [] none = refl
none_owned is_open k (c ∷ cs) none = at (claims is_open k (change_of c)) none (none_owned is_open k cs)
  where
    at : (b : Bool) → cond b (Some c.tx) (owner_of is_open (history_of cs) k) ≡ None → (owner_of is_open (history_of cs) k ≡ None → before_owned is_open cs k ≡ None) → cond b (Some c.before) (before_owned is_open cs k) ≡ None
    at true wrong rest = absurd (cc)
    at false wrong rest = rest wrong

-- an owner is open
pub owner_open : (is_open : ℕ → Bool) (t : ℕ) (k : List ℕ) (cs : List Kept) → owner_of is_open (history_of cs) k ≡ Some t → is_open t ≡ true
owner_open is_open t k [] owner = absurd (cc)
owner_open is_open t k (c ∷ cs) owner = at c.live (is_open c.tx) (same_key c.key k) refl owner (owner_open is_open t k cs)
  where
    one_tx : (u v : ℕ) → Some u ≡ Some v → u ≡ v
    one_tx u v is = cc

    at : (live begun at_key : Bool) → is_open c.tx ≡ begun → cond ((live && begun) && at_key) (Some c.tx) (owner_of is_open (history_of cs) k) ≡ Some t → (owner_of is_open (history_of cs) k ≡ Some t → is_open t ≡ true) → is_open t ≡ true
    at true true true opens here rest = ap is_open (sym (one_tx c.tx t here)) ∙ opens
    at true true false opens here rest = rest here
    at true false at_key opens here rest = rest here
    at false begun at_key opens here rest = rest here
