-- Which keys are owned and charged, and how a step changes that.
use Rattle.std.proofs.Common.{◌≡◌, ℕ, ◌≤◌, Bool, true, false, cond, if◌then◌else◌, ◌&&◌, ◌||◌, eqb, List, [], ◌∷◌, ◌++◌, Option, Some, None, is_some, refl, sym, ap, ◌∙◌, IsTrue, arith}
use Rattle.std.proofs.lemmas.Bool.Decides.{nat_tests}
use Rattle.rec_types.specs.Contents.{Contents, set_to, same_key, has}
use Rattle.rec_types.specs.History.{Change, is_pending}
use Rattle.rec_types.specs.Kept.{Kept, change_of, history_of, newest_or, newest_live, is_own, undone, undone_or, AllBegun}
use Rattle.rec_types.proofs.ContentsLemmas.{same_key-sym, same_key-of}
use Rattle.rec_types.proofs.Sizes.{has-set_to}
use Rattle.tx_log.specs.Owners.{claims, owner_of, charged}

-- some open transaction has a live change at the key
abbrev pub claimed : (ℕ → Bool) → List Change → List ℕ → Bool
claimed is_open h q = is_some (owner_of is_open h q)

-- a charged key is one that is owned or has a record
pub has-charged : (is_open : ℕ → Bool) (h : List Change) (m : Contents) (q : List ℕ) → has (charged is_open h m) q ≡ (claimed is_open h q || has m q)
has-charged is_open [] m q = refl
has-charged is_open (c ∷ h) m q = at (is_pending is_open c) (has-charged is_open h m q)
  where
    here : (b : Bool) → has (charged is_open h m) q ≡ (claimed is_open h q || has m q) → cond b true (has (charged is_open h m) q) ≡ (is_some (cond b (Some c.tx) (owner_of is_open h q)) || has m q)
    here true ih = refl
    here false ih = ih

    at : (b : Bool) → has (charged is_open h m) q ≡ (claimed is_open h q || has m q) → has (if b then set_to (charged is_open h m) c.key (Some []) else charged is_open h m) q ≡ (is_some (if b && same_key c.key q then Some c.tx else owner_of is_open h q) || has m q)
    at true ih = has-set_to (charged is_open h m) c.key (Some []) q ∙ ap (λ b. cond b true (has (charged is_open h m) q)) (same_key-sym q c.key) ∙ here (same_key c.key q) ih
    at false ih = ih

-- which keys are claimed after one more change
pub claimed-push : (is_open : ℕ → Bool) (h : List Change) (c : Change) (q : List ℕ) → claimed is_open (h ++ c ∷ []) q ≡ (claimed is_open h q || claims is_open q c)
claimed-push is_open [] c q = at (claims is_open q c)
  where
    at : (b : Bool) → is_some (if b then Some c.tx else None) ≡ b
    at true = refl
    at false = refl
claimed-push is_open (d ∷ h) c q = at (claims is_open q d) (claimed-push is_open h c q)
  where
    at : (b : Bool) → claimed is_open (h ++ c ∷ []) q ≡ (claimed is_open h q || claims is_open q c) → is_some (if b then Some d.tx else owner_of is_open (h ++ c ∷ []) q) ≡ (is_some (if b then Some d.tx else owner_of is_open h q) || claims is_open q c)
    at true ih = refl
    at false ih = ih

-- what is owned after a change was taken back was owned before
pub claimed-undone : (is_open : ℕ → Bool) (t : ℕ) (cs : List Kept) (q : List ℕ) → claimed is_open (history_of (undone t cs)) q ≡ true → claimed is_open (history_of cs) q ≡ true
claimed-undone is_open t [] q is = is
claimed-undone is_open t (c ∷ cs) q is = at (newest_live t cs) (is_own t c) (claimed-undone is_open t cs q) is
  where
    deeper : (b : Bool) → (claimed is_open (history_of (undone t cs)) q ≡ true → claimed is_open (history_of cs) q ≡ true) → is_some (if b then Some c.tx else owner_of is_open (history_of (undone t cs)) q) ≡ true → is_some (if b then Some c.tx else owner_of is_open (history_of cs) q) ≡ true
    deeper true ih is = refl
    deeper false ih is = ih is

    over : (b : Bool) → claimed is_open (history_of cs) q ≡ true → is_some (if b then Some c.tx else owner_of is_open (history_of cs) q) ≡ true
    over true is = refl
    over false is = is

    at : (o : Option Kept) (b : Bool) → (claimed is_open (history_of (undone t cs)) q ≡ true → claimed is_open (history_of cs) q ≡ true) → claimed is_open (history_of (undone_or o b c cs (undone t cs))) q ≡ true → claimed is_open (history_of (c ∷ cs)) q ≡ true
    at (Some d) b ih is = deeper (claims is_open q (change_of c)) ih is
    at None true ih is = over (claims is_open q (change_of c)) is
    at None false ih is = is

-- the key of an open transaction's newest live change is owned
pub claimed-newest : (is_open : ℕ → Bool) (t : ℕ) (cs : List Kept) (u : Kept) → is_open t ≡ true → newest_live t cs ≡ Some u → claimed is_open (history_of cs) u.key ≡ true
claimed-newest is_open t [] u open_t newest = absurd (cc)
claimed-newest is_open t (c ∷ cs) u open_t newest = at (newest_live t cs) (is_own t c) refl refl newest (claimed-newest is_open t cs u open_t)
  where
    over : (b : Bool) → claimed is_open (history_of cs) u.key ≡ true → is_some (if b then Some c.tx else owner_of is_open (history_of cs) u.key) ≡ true
    over true is = refl
    over false is = is

    own : (same live : Bool) → eqb c.tx t ≡ same → c.live ≡ live → same && live ≡ true → c ≡ u → claims is_open u.key (change_of c) ≡ true
    own true true same live is mine =
        let tx_is : c.tx ≡ t = grind (arith, nat_tests) in
        let key_is : same_key c.key u.key ≡ true = same_key-of c.key u.key (ap (λ (d : Kept). d.key) mine) in
        ap (λ b. (b && is_open c.tx) && same_key c.key u.key) live ∙ ap (λ b. b && same_key c.key u.key) (ap is_open tx_is ∙ open_t) ∙ key_is
    own true false same live is mine = absurd (cc)
    own false live same is_live is mine = absurd (cc)

    at : (o : Option Kept) (b : Bool) → newest_live t cs ≡ o → is_own t c ≡ b → newest_or o b c ≡ Some u → (newest_live t cs ≡ Some u → claimed is_open (history_of cs) u.key ≡ true) → claimed is_open (history_of (c ∷ cs)) u.key ≡ true
    at (Some d) b later is_mine is ih = over (claims is_open u.key (change_of c)) (ih (later ∙ is))
    at None true later is_mine is ih = ap (λ b. is_some (if b then Some c.tx else owner_of is_open (history_of cs) u.key)) (own (eqb c.tx t) c.live refl refl is_mine (let same : c ≡ u = cc in same))
    at None false later is_mine is ih = absurd (cc)

-- with fewer transactions open, or one more of which there is no change, no further key is owned
pub claimed-within : (is_open also_open : ℕ → Bool) (n : ℕ) (cs : List Kept) (q : List ℕ) → ((t : ℕ) → t ≤ n → IsTrue (also_open t) → IsTrue (is_open t)) → AllBegun n cs → claimed also_open (history_of cs) q ≡ true → claimed is_open (history_of cs) q ≡ true
claimed-within is_open also_open n [] q within begun is = is
claimed-within is_open also_open n (c ∷ cs) q within begun is = at c.live (also_open c.tx) (is_open c.tx) (same_key c.key q) refl refl is (claimed-within is_open also_open n cs q within begun.1)
  where
    at : (live also was same : Bool) → also_open c.tx ≡ also → is_open c.tx ≡ was → is_some (if (live && also) && same then Some c.tx else owner_of also_open (history_of cs) q) ≡ true → (claimed also_open (history_of cs) q ≡ true → claimed is_open (history_of cs) q ≡ true) → is_some (if (live && was) && same then Some c.tx else owner_of is_open (history_of cs) q) ≡ true
    at true true true true also was is ih = refl
    at true true true false also was is ih = ih is
    at true true false same also was is ih = absurd (cc (sym was ∙ within c.tx begun.0 also))
    at true false true true also was is ih = refl
    at true false true false also was is ih = ih is
    at true false false same also was is ih = ih is
    at false also_is was_is same also was is ih = ih is
