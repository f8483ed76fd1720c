-- Taking back the newest live change of a transaction: the contents, what stood before, who owns, and the opening contents.
use Rattle.std.proofs.Common.{◌≡◌, ℕ, ◌≤◌, Bool, true, false, cond, ◌&&◌, eqb, List, [], ◌∷◌, ◌++◌, Option, Some, None, option_map, refl, sym, ap, subst, ◌∙◌, IsTrue, arith}
use Rattle.std.specs.FinMap.{get}
use Rattle.std.proofs.lemmas.Bool.Decides.{nat_tests}
use Rattle.rec_types.specs.Contents.{Contents, set_to, write_to, same_key}
use Rattle.rec_types.specs.History.{applied, replay}
use Rattle.rec_types.specs.Kept.{Kept, change_of, history_of, back_of, opening_of, newest_or, newest_live, is_own, undone, undone_or, BeforesFit, OnlyOf, IsOwned, AllBegun}
use Rattle.rec_types.proofs.ContentsLemmas.{set_to-twice, set_to-same, write_to-under, write_to-other, get-write_to-there, same_key-is}

-- the opening contents

-- a change with what stood before it leaves the opening contents
pub opening-push : (cs : List Kept) (c : Kept) (m : Contents) → opening_of (cs ++ c ∷ []) m ≡ opening_of cs (write_to m c.key (back_of c))
opening-push [] c m = refl
opening-push (d ∷ cs) c m = ap (λ n. write_to n d.key (back_of d)) (opening-push cs c m)

-- what is put at a key beforehand doesn't matter there in the end
opening_past : (cs : List Kept) (m : Contents) (k : List ℕ) (r b : Option (List ℕ)) → set_to (opening_of cs (set_to m k r)) k b ≡ set_to (opening_of cs m) k b
opening_past [] m k r b = set_to-twice m k r b
opening_past (c ∷ cs) m k r b = at (opening_past cs m k r b) (same_key c.key k) refl
  where
    at : set_to (opening_of cs (set_to m k r)) k b ≡ set_to (opening_of cs m) k b → (same : Bool) → same_key c.key k ≡ same → set_to (opening_of (c ∷ cs) (set_to m k r)) k b ≡ set_to (opening_of (c ∷ cs) m) k b
    at later true here = ap (λ x. set_to (write_to (opening_of cs (set_to m k r)) x (back_of c)) k b) (same_key-is c.key k here) ∙ write_to-under _ k (back_of c) b ∙ later ∙ sym (write_to-under _ k (back_of c) b) ∙ ap (λ x. set_to (write_to (opening_of cs m) x (back_of c)) k b) (sym (same_key-is c.key k here))
    at later false apart = write_to-other _ c.key k (back_of c) (Some b) apart ∙ ap (λ n. write_to n c.key (back_of c)) later ∙ sym (write_to-other _ c.key k (back_of c) (Some b) apart)

-- the newest live change

-- what the newest live change of a list with one more change in front says
own_or : (o : Option Kept) (b : Bool) (c u : Kept) → newest_or o b c ≡ Some u → o ≡ None → (b ≡ true) × (c ≡ u)
own_or None true c u is none = (refl, cc)
own_or None false c u is none = absurd (cc)
own_or (Some d) b c u is none = absurd (cc)

none_or : (o : Option Kept) (b : Bool) (c : Kept) → newest_or o b c ≡ None → (o ≡ None) × (b ≡ false)
none_or None true c is = absurd (cc)
none_or None false c is = (refl, refl)
none_or (Some d) b c is = absurd (cc)

own_is : (t : ℕ) (c : Kept) → is_own t c ≡ true → (c.tx ≡ t) × (c.live ≡ true)
own_is t c own = at (eqb c.tx t) c.live refl refl own
  where
    at : (same live : Bool) → eqb c.tx t ≡ same → c.live ≡ live → same && live ≡ true → (c.tx ≡ t) × (c.live ≡ true)
    at true true same live own = (grind (arith, nat_tests), live)
    at true false same live own = absurd (cc)
    at false live same is own = absurd (cc)

is_own-of : (t : ℕ) (c : Kept) → c.tx ≡ t → c.live ≡ true → is_own t c ≡ true
is_own-of t c same live = ap (λ b. eqb c.tx t && b) live ∙ at (eqb c.tx t) refl
  where
    at : (b : Bool) → eqb c.tx t ≡ b → b && true ≡ true
    at true is = refl
    at false is = absurd (grind (arith, nat_tests))

-- what taking a live change back writes at its key, written beforehand, leaves the opening contents
pub opening-over : (t : ℕ) (cs : List Kept) (u : Kept) (m : Contents) (r : Option (List ℕ)) → newest_live t cs ≡ Some u → opening_of cs (write_to m u.key (option_map (λ _. r) u.after)) ≡ opening_of cs m
opening-over t [] u m r newest = absurd (cc)
opening-over t (c ∷ cs) u m r newest = at (opening-over t cs u m r) (newest_live t cs) refl newest
  where
    here : (w : Option (Option (List ℕ))) → write_to (opening_of cs (write_to m c.key (option_map (λ _. r) w))) c.key (option_map (λ _. c.before) w) ≡ write_to (opening_of cs m) c.key (option_map (λ _. c.before) w)
    here None = refl
    here (Some w) = opening_past cs m c.key r c.before

    at : (newest_live t cs ≡ Some u → opening_of cs (write_to m u.key (option_map (λ _. r) u.after)) ≡ opening_of cs m) → (o : Option Kept) → newest_live t cs ≡ o → newest_or o (is_own t c) c ≡ Some u → opening_of (c ∷ cs) (write_to m u.key (option_map (λ _. r) u.after)) ≡ opening_of (c ∷ cs) m
    at ih (Some d) later is = ap (λ n. write_to n c.key (back_of c)) (ih (later ∙ is))
    at ih None later is = ap (λ (d : Kept). opening_of (c ∷ cs) (write_to m d.key (option_map (λ _. r) d.after))) (sym (own_or None (is_own t c) c u is refl).1) ∙ here c.after

opening-undone_or : (o : Option Kept) (b : Bool) (c : Kept) (cs done : List Kept) (m : Contents) → opening_of done m ≡ opening_of cs m → opening_of (undone_or o b c cs done) m ≡ opening_of (c ∷ cs) m
opening-undone_or (Some d) b c cs done m same = ap (λ n. write_to n c.key (back_of c)) same
opening-undone_or None true c cs done m same = refl
opening-undone_or None false c cs done m same = refl

-- marks don't matter to the opening contents
pub opening-undone : (t : ℕ) (cs : List Kept) (m : Contents) → opening_of (undone t cs) m ≡ opening_of cs m
opening-undone t [] m = refl
opening-undone t (c ∷ cs) m = opening-undone_or (newest_live t cs) (is_own t c) c cs (undone t cs) m (opening-undone t cs m)

-- no live change is at the key
abbrev NoneAt : List ℕ → List Kept → Type 0
NoneAt x [] = Unit {0}
NoneAt x (d ∷ ds) = (IsTrue d.live → d.key ≡ x → ⊥) × NoneAt x ds

-- where only one transaction has live changes at a key, and has none, there is none
none_at : (t : ℕ) (x : List ℕ) (cs : List Kept) → OnlyOf t x cs → newest_live t cs ≡ None → NoneAt x cs
none_at t x [] only none = tt
none_at t x (d ∷ ds) only none =
    let parts = none_or (newest_live t ds) (is_own t d) d none in
    (λ live here. absurd (cc (sym parts.1 ∙ is_own-of t d (only.0 live here) live)), none_at t x ds only.1 parts.0)

pub apart_of : (a b : List ℕ) → (a ≡ b → ⊥) → same_key a b ≡ false
apart_of a b differ = at (same_key a b) refl
  where
    at : (s : Bool) → same_key a b ≡ s → same_key a b ≡ false
    at true same = absurd (differ (same_key-is a b same))
    at false same = same

-- what is written at a key passes over the changes elsewhere
replay_past : (cs : List Kept) (m : Contents) (x : List ℕ) (w : Option (Option (List ℕ))) → NoneAt x cs → replay (write_to m x w) (history_of cs) ≡ write_to (replay m (history_of cs)) x w
replay_past [] m x w none = refl
replay_past (d ∷ ds) m x w none = at (λ n. replay_past ds n x w none.1) d.live refl
  where
    at : ((n : Contents) → replay (write_to n x w) (history_of ds) ≡ write_to (replay n (history_of ds)) x w) → (live : Bool) → d.live ≡ live → replay (cond live (write_to (write_to m x w) d.key d.after) (write_to m x w)) (history_of ds) ≡ write_to (replay (cond live (write_to m d.key d.after) m) (history_of ds)) x w
    at ih true live = ap (λ n. replay n (history_of ds)) (sym (write_to-other m d.key x d.after w (apart_of d.key x (none.0 live)))) ∙ ih (write_to m d.key d.after)
    at ih false live = ih m

befores_past : (cs : List Kept) (m : Contents) (x : List ℕ) (w : Option (Option (List ℕ))) → NoneAt x cs → BeforesFit (write_to m x w) cs → BeforesFit m cs
befores_past [] m x w none fit = tt
befores_past (d ∷ ds) m x w none fit = (λ live. fit.0 live ∙ get-write_to-there m x w d.key (apart_of d.key x (none.0 live)), at (λ n. befores_past ds n x w none.1) d.live refl fit.1)
  where
    at : ((n : Contents) → BeforesFit (write_to n x w) ds → BeforesFit n ds) → (live : Bool) → d.live ≡ live → BeforesFit (cond live (write_to (write_to m x w) d.key d.after) (write_to m x w)) ds → BeforesFit (cond live (write_to m d.key d.after) m) ds
    at ih true live fit = ih (write_to m d.key d.after) (subst (λ n. BeforesFit n ds) (write_to-other m x d.key w d.after (apart_of x d.key (λ same. none.0 live (sym same)))) fit)
    at ih false live fit = ih m fit

-- The heart of every rollback: where a live change is its transaction's newest, the replay without it is the replay
-- with the record put back that stood there before it.
pub replay-undone : (is_open : ℕ → Bool) (t : ℕ) (cs : List Kept) (u : Kept) (m : Contents) → IsOwned is_open cs → IsTrue (is_open t) → BeforesFit m cs → newest_live t cs ≡ Some u → replay m (history_of (undone t cs)) ≡ set_to (replay m (history_of cs)) u.key u.before
replay-undone is_open t [] u m owned open_t fit newest = absurd (cc)
replay-undone is_open t (c ∷ cs) u m owned open_t fit newest = at (replay-undone is_open t cs u (applied (change_of c) m) owned.1 open_t fit.1) (newest_live t cs) (is_own t c) refl refl newest
  where
    last : is_own t c ≡ true → newest_live t cs ≡ None → replay m (history_of cs) ≡ set_to (replay (applied (change_of c) m) (history_of cs)) c.key c.before
    last own none =
        let is = own_is t c own in
        let before = fit.0 is.1 in
        let nothing = none_at t c.key cs (subst (λ s. OnlyOf s c.key cs) is.0 (owned.0 is.1 (subst (λ s. IsTrue (is_open s)) (sym is.0) open_t))) none in
        ap (λ n. replay n (history_of cs)) (sym (set_to-same m c.key c.before before))
        ∙ replay_past cs m c.key (Some c.before) nothing
        ∙ sym (write_to-under (replay m (history_of cs)) c.key c.after c.before)
        ∙ ap (λ n. set_to n c.key c.before) (sym (replay_past cs m c.key c.after nothing))
        ∙ ap (λ b. set_to (replay (cond b (write_to m c.key c.after) m) (history_of cs)) c.key c.before) (sym is.1)

    at : (newest_live t cs ≡ Some u → replay (applied (change_of c) m) (history_of (undone t cs)) ≡ set_to (replay (applied (change_of c) m) (history_of cs)) u.key u.before) → (o : Option Kept) (b : Bool) → newest_live t cs ≡ o → is_own t c ≡ b → newest_or o b c ≡ Some u → replay m (history_of (undone_or o b c cs (undone t cs))) ≡ set_to (replay (applied (change_of c) m) (history_of cs)) u.key u.before
    at ih (Some d) b later own is = ih (later ∙ is)
    at ih None true later own is = last own later ∙ ap (λ (d : Kept). set_to (replay (applied (change_of c) m) (history_of cs)) d.key d.before) (own_or None true c u is refl).1
    at ih None false later own is = absurd (cc)

-- where the newest live change is a claim the replay stays, whoever else has changes
pub replay-unclaimed : (t : ℕ) (cs : List Kept) (u : Kept) (m : Contents) → newest_live t cs ≡ Some u → u.after ≡ None → replay m (history_of (undone t cs)) ≡ replay m (history_of cs)
replay-unclaimed t [] u m newest claim = absurd (cc)
replay-unclaimed t (c ∷ cs) u m newest claim = at (replay-unclaimed t cs u (applied (change_of c) m)) (newest_live t cs) (is_own t c) refl newest
  where
    here : (live : Bool) (w : Option (Option (List ℕ))) → w ≡ None → m ≡ cond live (write_to m c.key w) m
    here false w none = refl
    here true w none = ap (write_to m c.key) (sym none)

    at : (newest_live t cs ≡ Some u → u.after ≡ None → replay (applied (change_of c) m) (history_of (undone t cs)) ≡ replay (applied (change_of c) m) (history_of cs)) → (o : Option Kept) (b : Bool) → newest_live t cs ≡ o → newest_or o b c ≡ Some u → replay m (history_of (undone_or o b c cs (undone t cs))) ≡ replay (applied (change_of c) m) (history_of cs)
    at ih (Some d) b later is = ih (later ∙ is) claim
    at ih None true later is = ap (λ n. replay n (history_of cs)) (here c.live c.after (ap (λ (d : Kept). d.after) (own_or None true c u is refl).1 ∙ claim))
    at ih None false later is = absurd (cc)

-- the replay without a transaction's newest live change is the one that taking it back leaves
pub replay-back : (is_open : ℕ → Bool) (t : ℕ) (cs : List Kept) (u : Kept) (m : Contents) → IsOwned is_open cs → IsTrue (is_open t) → BeforesFit m cs → newest_live t cs ≡ Some u → replay m (history_of (undone t cs)) ≡ write_to (replay m (history_of cs)) u.key (back_of u)
replay-back is_open t cs u m owned open_t fit newest = at u.after refl
  where
    at : (w : Option (Option (List ℕ))) → u.after ≡ w → replay m (history_of (undone t cs)) ≡ write_to (replay m (history_of cs)) u.key (option_map (λ _. u.before) w)
    at None claim = replay-unclaimed t cs u m newest claim
    at (Some w) is = replay-undone is_open t cs u m owned open_t fit newest

-- what stood before each live change still fits
pub befores-undone : (is_open : ℕ → Bool) (t : ℕ) (cs : List Kept) (m : Contents) → IsOwned is_open cs → IsTrue (is_open t) → BeforesFit m cs → BeforesFit m (undone t cs)
befores-undone is_open t [] m owned open_t fit = tt
befores-undone is_open t (c ∷ cs) m owned open_t fit = at (befores-undone is_open t cs (applied (change_of c) m) owned.1 open_t fit.1) (newest_live t cs) (is_own t c) refl refl
  where
    last : is_own t c ≡ true → newest_live t cs ≡ None → BeforesFit m cs
    last own none =
        let is = own_is t c own in
        let nothing = none_at t c.key cs (subst (λ s. OnlyOf s c.key cs) is.0 (owned.0 is.1 (subst (λ s. IsTrue (is_open s)) (sym is.0) open_t))) none in
        befores_past cs m c.key c.after nothing (subst (λ b. BeforesFit (cond b (write_to m c.key c.after) m) cs) is.1 fit.1)

    at : BeforesFit (applied (change_of c) m) (undone t cs) → (o : Option Kept) (b : Bool) → newest_live t cs ≡ o → is_own t c ≡ b → BeforesFit m (undone_or o b c cs (undone t cs))
    at ih (Some d) b later own = (fit.0, ih)
    at ih None true later own = (λ live. absurd (cc), last own later)
    at ih None false later own = fit

only-undone : (s t : ℕ) (x : List ℕ) (cs : List Kept) → OnlyOf s x cs → OnlyOf s x (undone t cs)
only-undone s t x [] only = tt
only-undone s t x (c ∷ cs) only = at (only-undone s t x cs only.1) (newest_live t cs) (is_own t c)
  where
    at : OnlyOf s x (undone t cs) → (o : Option Kept) (b : Bool) → OnlyOf s x (undone_or o b c cs (undone t cs))
    at ih (Some d) b = (only.0, ih)
    at ih None true = (λ live. absurd (cc), only.1)
    at ih None false = only

-- keys keep at most one owner
pub owned-undone : (is_open : ℕ → Bool) (t : ℕ) (cs : List Kept) → IsOwned is_open cs → IsOwned is_open (undone t cs)
owned-undone is_open t [] owned = tt
owned-undone is_open t (c ∷ cs) owned = at (owned-undone is_open t cs owned.1) (newest_live t cs) (is_own t c)
  where
    at : IsOwned is_open (undone t cs) → (o : Option Kept) (b : Bool) → IsOwned is_open (undone_or o b c cs (undone t cs))
    at ih (Some d) b = (λ live is. only-undone c.tx t c.key cs (owned.0 live is), ih)
    at ih None true = (λ live. absurd (cc), owned.1)
    at ih None false = owned

-- taking a change back leaves the transactions that the changes name
pub begun-undone : (n t : ℕ) (cs : List Kept) → AllBegun n cs → AllBegun n (undone t cs)
begun-undone n t [] begun = tt
begun-undone n t (c ∷ cs) begun = at (begun-undone n t cs begun.1) (newest_live t cs) (is_own t c)
  where
    at : AllBegun n (undone t cs) → (o : Option Kept) (b : Bool) → AllBegun n (undone_or o b c cs (undone t cs))
    at ih (Some d) b = (begun.0, ih)
    at ih None true = begun
    at ih None false = begun

-- one more change at the end

-- a change that knows what stands at its key
pub befores-push : (cs : List Kept) (c : Kept) (m : Contents) → BeforesFit m cs → c.before ≡ get (replay m (history_of cs)) c.key → BeforesFit m (cs ++ c ∷ [])
befores-push [] c m fit before = (λ live. before, tt)
befores-push (d ∷ cs) c m fit before = (fit.0, befores-push cs c (applied (change_of d) m) fit.1 before)

-- one more change of a transaction that was begun
pub begun-push : (n : ℕ) (cs : List Kept) (c : Kept) → AllBegun n cs → c.tx ≤ n → AllBegun n (cs ++ c ∷ [])
begun-push n [] c begun within = (within, tt)
begun-push n (d ∷ cs) c begun within = (begun.0, begun-push n cs c begun.1 within)

-- what was begun stays begun when more are
pub begun-more : (n m : ℕ) (cs : List Kept) → n ≤ m → AllBegun n cs → AllBegun m cs
begun-more n m [] le begun = tt
begun-more n m (c ∷ cs) le begun = (let here : c.tx ≤ n = begun.0 in omega arith, begun-more n m cs le begun.1)

-- the live changes of open transactions at the key are all of one
abbrev pub PendingOf : (ℕ → Bool) → ℕ → List ℕ → List Kept → Type 0
PendingOf is_open t x [] = Unit {0}
PendingOf is_open t x (d ∷ ds) = (IsTrue d.live → IsTrue (is_open d.tx) → d.key ≡ x → d.tx ≡ t) × PendingOf is_open t x ds

only-push : (t : ℕ) (x : List ℕ) (cs : List Kept) (c : Kept) → OnlyOf t x cs → (c.key ≡ x → c.tx ≡ t) → OnlyOf t x (cs ++ c ∷ [])
only-push t x [] c only mine = (λ live. mine, tt)
only-push t x (d ∷ cs) c only mine = (only.0, only-push t x cs c only.1 mine)

-- a change at a key that no other open transaction owns
pub owned-push : (is_open : ℕ → Bool) (cs : List Kept) (c : Kept) → IsOwned is_open cs → PendingOf is_open c.tx c.key cs → IsOwned is_open (cs ++ c ∷ [])
owned-push is_open [] c owned pending = (λ live is. tt, tt)
owned-push is_open (d ∷ cs) c owned pending =
    (λ live is. only-push d.tx d.key cs c (owned.0 live is) (λ same. sym (pending.0 live is (sym same))), owned-push is_open cs c owned.1 pending.1)

-- where only one transaction has live changes at a key, the pending ones are its own
pub pending-only : (is_open : ℕ → Bool) (t : ℕ) (x : List ℕ) (cs : List Kept) → OnlyOf t x cs → PendingOf is_open t x cs
pending-only is_open t x [] only = tt
pending-only is_open t x (d ∷ ds) only = (λ live is here. only.0 live here, pending-only is_open t x ds only.1)

-- with fewer transactions open, or one more of which there is no change
pub owned-within : (is_open also_open : ℕ → Bool) (n : ℕ) (cs : List Kept) → ((t : ℕ) → t ≤ n → IsTrue (also_open t) → IsTrue (is_open t)) → AllBegun n cs → IsOwned is_open cs → IsOwned also_open cs
owned-within is_open also_open n [] within begun owned = tt
owned-within is_open also_open n (c ∷ cs) within begun owned =
    (λ live is. owned.0 live (within c.tx begun.0 is), owned-within is_open also_open n cs within begun.1 owned.1)
