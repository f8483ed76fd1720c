-- A change taken out of a history: what its call answered is put back.
use Rattle.std.proofs.Common.{◌≡◌, ℕ, zero, suc, Bool, true, false, cond, ◌&&◌, eqb, List, [], ◌∷◌, ◌++◌, map, length, Option, Some, None, slice_get, refl, sym, ap, subst, ◌∙◌, IsTrue, arith}
use Rattle.std.proofs.lemmas.Bool.Decides.{nat_tests}
use Rattle.std.specs.FinMap.{get}
use Rattle.rec_types.specs.Contents.{Contents, set_to, write_to}
use Rattle.rec_types.specs.History.{Change, applied, replay, live_of, live_from}
use Rattle.rec_types.specs.Kept.{Kept, change_of, history_of, BeforesFit, OnlyOf, IsOwned}
use Rattle.rec_types.proofs.ContentsLemmas.{write_to-under, set_to-same, write_to-other}
use Rattle.record_file.specs.Abstract.{File, open_of, records_of}
use Rattle.record_file.proofs.RunLemmas.{KeptRun}
use Rattle.rec_types.proofs.TakeBackLemmas.{apart_of}

-- what a change's call answered, read off the list of answers
pub answered_is : (cs : List Kept) (m : Contents) (earlier later : List Change) (c : Change) → BeforesFit m cs → history_of cs ≡ earlier ++ c ∷ later → IsTrue c.live → slice_get (map (λ (c : Kept). c.before) cs) (length earlier) ≡ Some (get (replay m earlier) c.key)
answered_is [] m [] later c fit is live = absurd (cc)
answered_is [] m (e ∷ earlier) later c fit is live = absurd (cc)
answered_is (d ∷ ds) m [] later c fit is live =
    let same : change_of d ≡ c = cc in
    ap (λ b. Some b) (fit.0 (ap (λ (c : Change). c.live) same ∙ live) ∙ ap (λ (c : Change). get m c.key) same)
answered_is (d ∷ ds) m (e ∷ earlier) later c fit is live =
    let first : change_of d ≡ e = cc in
    let rest : history_of ds ≡ earlier ++ c ∷ later = cc in
    answered_is ds (applied (change_of d) m) earlier later c fit.1 rest live ∙ ap (λ (e : Change). Some (get (replay (applied e m) earlier) c.key)) first

-- no live change is at the key
abbrev pub NoneLiveAt : List ℕ → List Change → Type 0
NoneLiveAt x [] = Unit {0}
NoneLiveAt x (d ∷ ds) = (IsTrue d.live → d.key ≡ x → ⊥) × NoneLiveAt x ds

-- a record put at a key passes over the changes elsewhere
pub replay_past : (h : List Change) (m : Contents) (x : List ℕ) (w : Option (Option (List ℕ))) → NoneLiveAt x h → replay (write_to m x w) h ≡ write_to (replay m h) x w
replay_past [] m x w none = refl
replay_past (d ∷ ds) m x w none = at (λ n. replay_past ds n x w none.1) d.live refl
  where
    at : ((n : Contents) → replay (write_to n x w) ds ≡ write_to (replay n ds) x w) → (live : Bool) → d.live ≡ live → replay (cond live (write_to (write_to m x w) d.key d.after) (write_to m x w)) ds ≡ write_to (replay (cond live (write_to m d.key d.after) m) ds) x w
    at ih true live = ap (λ n. replay n ds) (sym (write_to-other m d.key x d.after w (apart_of d.key x (none.0 live)))) ∙ ih (write_to m d.key d.after)
    at ih false live = ih m

-- what is live at the key is of one transaction, which has nothing live there
none_later : (t : ℕ) (x : List ℕ) (ds : List Kept) → OnlyOf t x ds → live_from (history_of ds) t zero ≡ 0 → NoneLiveAt x (history_of ds)
none_later t x [] only none = tt
none_later t x (d ∷ ds) only none = at (eqb d.tx t) d.live refl refl none (none_later t x ds only.1)
  where
    at : (own live : Bool) → eqb d.tx t ≡ own → d.live ≡ live → cond (own && live) (suc (live_from (history_of ds) t zero)) (live_from (history_of ds) t zero) ≡ 0 → (live_from (history_of ds) t zero ≡ 0 → NoneLiveAt x (history_of ds)) → (IsTrue d.live → d.key ≡ x → ⊥) × NoneLiveAt x (history_of ds)
    at true true own_is live_is none ih = absurd (omega (arith, none))
    at true false own_is live_is none ih = (λ live here. absurd (cc (sym live_is ∙ live)), ih none)
    at false live own_is live_is none ih = (λ lives here. let mine : d.tx ≡ t = only.0 lives here in absurd (grind (arith, nat_tests)), ih none)

none_after : (opened : ℕ → Bool) (t : ℕ) (cs : List Kept) (earlier later : List Change) (c : Change) → IsOwned opened cs → IsTrue (opened t) → history_of cs ≡ earlier ++ c ∷ later → c.tx ≡ t → IsTrue c.live → live_from later t zero ≡ 0 → NoneLiveAt c.key later
none_after opened t [] [] later c owned there is mine live none = absurd (cc)
none_after opened t [] (e ∷ earlier) later c owned there is mine live none = absurd (cc)
none_after opened t (d ∷ ds) [] later c owned there is mine live none =
    let same : change_of d ≡ c = cc in
    let rest : history_of ds ≡ later = cc in
    let tx_is : d.tx ≡ t = ap (λ (c : Change). c.tx) same ∙ mine in
    let only : OnlyOf d.tx d.key ds = owned.0 (ap (λ (c : Change). c.live) same ∙ live) (ap opened tx_is ∙ there) in
    subst (λ (h : List Change). NoneLiveAt c.key h) rest
    (none_later t c.key ds (subst (λ x. OnlyOf t x ds) (ap (λ (c : Change). c.key) same) (subst (λ u. OnlyOf u d.key ds) tx_is only)) (ap (λ (h : List Change). live_from h t zero) rest ∙ none))
none_after opened t (d ∷ ds) (e ∷ earlier) later c owned there is mine live none =
    let rest : history_of ds ≡ earlier ++ c ∷ later = cc in
    none_after opened t ds earlier later c owned.1 there rest mine live none

-- a replay in two parts
pub replay-append : (g h : List Change) (m : Contents) → replay m (g ++ h) ≡ replay (replay m g) h
replay-append [] h m = refl
replay-append (c ∷ g) h m = replay-append g h (applied c m)

-- without a live change after which nothing is live at its key the record before it stands there
without : (m : Contents) (later : List Change) (c : Change) → IsTrue c.live → NoneLiveAt c.key later → (before : Option (List ℕ)) → before ≡ get m c.key → replay m later ≡ set_to (replay m (c ∷ later)) c.key before
without m later c live none before is =
    ap (λ n. replay n later) (sym (set_to-same m c.key before is))
    ∙ replay_past later m c.key (Some before) none
    ∙ sym (write_to-under (replay m later) c.key c.after before)
    ∙ ap (λ n. set_to n c.key before) (sym (replay_past later m c.key c.after none))
    ∙ ap (λ b. set_to (replay (cond b (write_to m c.key c.after) m) later) c.key before) (sym live)

own_live : (t : ℕ) (c : Change) → live_of t c ≡ true → (c.tx ≡ t) × (c.live ≡ true)
own_live t c own = at (eqb c.tx t) c.live refl refl own
  where
    at : (same live : Bool) → eqb c.tx t ≡ same → c.live ≡ live → same && live ≡ true → (c.tx ≡ t) × (c.live ≡ true)
    at true true same live own = (grind (arith, nat_tests), live)
    at true false same live own = absurd (cc)
    at false live same is own = absurd (cc)

-- the answer of a live change's call is what stood at its key
pub kept_answered : (m : Contents) (answered : List (Option (List ℕ))) (f : File) → KeptRun m answered f → (earlier later : List Change) (c : Change) → f.history ≡ earlier ++ c ∷ later → IsTrue c.live → slice_get answered (length earlier) ≡ Some (get (replay m earlier) c.key)
kept_answered m answered f kept earlier later c is live =
    ap (λ (bs : List (Option (List ℕ))). slice_get bs (length earlier)) (sym kept.answers) ∙ answered_is kept.cs m earlier later c kept.holds.befores (kept.history ∙ is) live

-- with a transaction's newest live change taken out, the replay is the one with its old record put back
pub kept_put_back : (m : Contents) (answered : List (Option (List ℕ))) (f : File) → KeptRun m answered f → (t : ℕ) → IsTrue (open_of f t) → (earlier later : List Change) (c : Change) → f.history ≡ earlier ++ c ∷ later → IsTrue (live_of t c) → live_from later t zero ≡ 0 → (before : Option (List ℕ)) → slice_get answered (length earlier) ≡ Some before → replay m (earlier ++ later) ≡ set_to (records_of f) c.key before
kept_put_back m answered f kept t there earlier later c is own none before answer =
    let mine = own_live t c own in
    let told : Some before ≡ Some (get (replay m earlier) c.key) = sym answer ∙ kept_answered m answered f kept earlier later c is mine.1 in
    let stood : before ≡ get (replay m earlier) c.key = cc in
    replay-append earlier later m
    ∙ without (replay m earlier) later c mine.1 (none_after (open_of f) t kept.cs earlier later c kept.holds.owned there (kept.history ∙ is) mine.0 mine.1 none) before stood
    ∙ ap (λ (n : Contents). set_to n c.key before) (sym (replay-append earlier (c ∷ later) m) ∙ (λ i. replay (sym kept.opening i) (sym is i)))

claim_leaves : (live : Bool) (k : List ℕ) (w : Option (Option (List ℕ))) (n : Contents) → w ≡ None → n ≡ cond live (write_to n k w) n
claim_leaves false k w n claim = refl
claim_leaves true k w n claim = ap (write_to n k) (sym claim)

-- with a claim taken out, the replay stays
pub kept_claimed : (m : Contents) (answered : List (Option (List ℕ))) (f : File) → KeptRun m answered f → (earlier later : List Change) (c : Change) → f.history ≡ earlier ++ c ∷ later → c.after ≡ None → replay m (earlier ++ later) ≡ records_of f
kept_claimed m answered f kept earlier later c is claim =
    replay-append earlier later m
    ∙ ap (λ n. replay n later) (claim_leaves c.live c.key c.after (replay m earlier) claim)
    ∙ sym (replay-append earlier (c ∷ later) m) ∙ (λ i. replay (sym kept.opening i) (sym is i))
