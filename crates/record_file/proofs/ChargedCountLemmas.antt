-- How many keys are charged: those that have a record, and the owned ones that have none.
use Rattle.std.proofs.Common.{◌≡◌, ℕ, ◌+◌, Bool, true, false, cond, if◌then◌else◌, not, ◌&&◌, ◌||◌, List, [], ◌∷◌, Option, Some, None, option_map, is_some, refl, sym, ap, subst, ◌∙◌}
use Rattle.std.specs.FinMap as maps
use Rattle.std.specs.FinMap.{len, get-empty}
use Rattle.std.specs.Cmp.Lexicographic.{slice_cmp}
use Rattle.std.specs.Ordering.{nat_cmp}
use Rattle.rec_types.specs.Contents.{Contents, set_to, write_to, same_key, has}
use Rattle.rec_types.specs.History.{replay}
use Rattle.rec_types.specs.Kept.{Kept, history_of, BeforesFit, OnlyOf, IsOwned}
use Rattle.rec_types.proofs.ContentsLemmas.{get-write_to-there, same_key-is, same_key-sym}
use Rattle.rec_types.proofs.Sizes.{has-set_to, len-parts}
use Rattle.tx_log.specs.Owners.{owner_of, charged, says, lack, Standing, nothing, standing, stands_by, keys_absent}
use Rattle.record_file.proofs.ChargedLemmas.{claimed, has-charged}

inverse : (w : Option (List ℕ)) → is_some (lack w) ≡ not (is_some w)
inverse None = refl
inverse (Some r) = refl

-- what a change writes at its key, and what it says of it
here_set : (s m : Contents) (k x : List ℕ) (w : Option (List ℕ)) → same_key x k ≡ true → has (set_to s k (lack w)) x ≡ not (has (set_to m k w) x)
here_set s m k x w same = has-set_to s k _ x ∙ ap (λ b. cond b (is_some (lack w)) (has s x)) same ∙ inverse w ∙ ap not (sym (has-set_to m k w x ∙ ap (λ b. cond b (is_some w) (has m x)) same))

there_set : (s : Contents) (k x : List ℕ) (w : Option (Option (List ℕ))) → same_key x k ≡ false → has (write_to s k w) x ≡ has s x
there_set s k x w apart = ap is_some (get-write_to-there s k w x apart)

-- of a key that is owned a claim says nothing
here_owned : (s : Standing) (m : Contents) (d : Kept) (x : List ℕ) → same_key x d.key ≡ true → has s.owned x ≡ true → has s.out x ≡ not (has m x) → has (standing s d).out x ≡ not (has (write_to m d.key d.after) x)
here_owned s m d x same owned now = ap (λ b. has (write_to s.out d.key (option_map lack (says d.after b d.before))) x) (sym (ap (has s.owned) (same_key-is x d.key same)) ∙ owned) ∙ at d.after
  where
    at : (w : Option (Option (List ℕ))) → has (write_to s.out d.key (option_map lack (says w true d.before))) x ≡ not (has (write_to m d.key w) x)
    at None = now
    at (Some w) = here_set s.out m d.key x w same

-- and of another it says what it has seen
here_first : (s : Standing) (m : Contents) (d : Kept) (x : List ℕ) → same_key x d.key ≡ true → has s.owned x ≡ false → d.before ≡ maps.get m d.key → has (standing s d).out x ≡ not (has (write_to m d.key d.after) x)
here_first s m d x same owned seen = ap (λ b. has (write_to s.out d.key (option_map lack (says d.after b d.before))) x) (sym (ap (has s.owned) (same_key-is x d.key same)) ∙ owned) ∙ at d.after
  where
    at : (w : Option (Option (List ℕ))) → has (write_to s.out d.key (option_map lack (says w false d.before))) x ≡ not (has (write_to m d.key w) x)
    at None = has-set_to s.out d.key (lack d.before) x ∙ ap (λ b. cond b (is_some (lack d.before)) (has s.out x)) same ∙ inverse d.before ∙ ap not (ap is_some (seen ∙ ap (maps.get m) (sym (same_key-is x d.key same))))
    at (Some w) = here_set s.out m d.key x w same

owned_here : (s : Standing) (d : Kept) (x : List ℕ) → same_key x d.key ≡ true → has (standing s d).owned x ≡ true
owned_here s d x same = has-set_to s.owned d.key (Some []) x ∙ ap (λ b. cond b true (has s.owned x)) same

owned_there : (s : Standing) (d : Kept) (x : List ℕ) → same_key x d.key ≡ false → has (standing s d).owned x ≡ has s.owned x
owned_there s d x apart = has-set_to s.owned d.key (Some []) x ∙ ap (λ b. cond b true (has s.owned x)) apart

-- what a change adds to the absences, and to the contents
pending : (is_open : ℕ → Bool) (d : Kept) (ds : List Kept) (s : Standing) (live opened : Bool) → d.live ≡ live → is_open d.tx ≡ opened → stands_by is_open s (d ∷ ds) ≡ stands_by is_open (cond (live && opened) (standing s d) s) ds
pending is_open d ds s live opened is is_opened = λ i. stands_by is_open (cond (is i && is_opened i) (standing s d) s) ds

written : (d : Kept) (ds : List Kept) (m : Contents) (live : Bool) → d.live ≡ live → replay m (history_of (d ∷ ds)) ≡ replay (if live then write_to m d.key d.after else m) (history_of ds)
written d ds m live is = ap (λ b. replay (if b then write_to m d.key d.after else m) (history_of ds)) is

-- where one open transaction alone has live changes at an owned key, it is out exactly where it has no record
settled : (is_open : ℕ → Bool) (t : ℕ) (x : List ℕ) (cs : List Kept) (s : Standing) (m : Contents) → is_open t ≡ true → OnlyOf t x cs → has s.owned x ≡ true → has s.out x ≡ not (has m x) → has (stands_by is_open s cs).out x ≡ not (has (replay m (history_of cs)) x)
settled is_open t x [] s m open_t only owned now = now
settled is_open t x (d ∷ ds) s m open_t only owned now = at d.live (is_open d.tx) (same_key x d.key) refl refl refl (λ s m. settled is_open t x ds s m open_t only.1)
  where
    at : (live opened same : Bool) → d.live ≡ live → is_open d.tx ≡ opened → same_key x d.key ≡ same → ((s : Standing) (m : Contents) → has s.owned x ≡ true → has s.out x ≡ not (has m x) → has (stands_by is_open s ds).out x ≡ not (has (replay m (history_of ds)) x)) → has (stands_by is_open s (d ∷ ds)).out x ≡ not (has (replay m (history_of (d ∷ ds))) x)
    at true true true live opened same ih = ap (λ (n : Standing). has n.out x) (pending is_open d ds s true true live opened) ∙ ih _ _ (owned_here s d x same) (here_owned s m d x same owned now) ∙ ap (λ n. not (has n x)) (sym (written d ds m true live))
    at true true false live opened apart ih = ap (λ (n : Standing). has n.out x) (pending is_open d ds s true true live opened) ∙ ih _ _ (owned_there s d x apart ∙ owned) (there_set s.out d.key x _ apart ∙ now ∙ ap not (sym (there_set m d.key x d.after apart))) ∙ ap (λ n. not (has n x)) (sym (written d ds m true live))
    at true false true live opened same ih = absurd (cc (sym opened ∙ ap is_open (only.0 live (sym (same_key-is x d.key same))) ∙ open_t))
    at true false false live opened apart ih = ap (λ (n : Standing). has n.out x) (pending is_open d ds s true false live opened) ∙ ih _ _ owned (now ∙ ap not (sym (there_set m d.key x d.after apart))) ∙ ap (λ n. not (has n x)) (sym (written d ds m true live))
    at false opened same live is_opened is_same ih = ap (λ (n : Standing). has n.out x) (pending is_open d ds s false opened live is_opened) ∙ ih _ _ owned now ∙ ap (λ n. not (has n x)) (sym (written d ds m false live))

-- a key is absent where it is owned and has no record
key_absent : (is_open : ℕ → Bool) (cs : List Kept) (s : Standing) (m : Contents) (q : List ℕ) → IsOwned is_open cs → BeforesFit m cs → has s.owned q ≡ false → has (stands_by is_open s cs).out q ≡ cond (claimed is_open (history_of cs) q) (not (has (replay m (history_of cs)) q)) (has s.out q)
key_absent is_open [] s m q owned fit none = refl
key_absent is_open (c ∷ cs) s m q owned fit none = at c.live (is_open c.tx) (same_key c.key q) refl refl refl (λ s m. key_absent is_open cs s m q owned.1)
  where
    owner_is : (live opened same : Bool) → c.live ≡ live → is_open c.tx ≡ opened → same_key c.key q ≡ same → claimed is_open (history_of (c ∷ cs)) q ≡ is_some (if (live && opened) && same then Some c.tx else owner_of is_open (history_of cs) q)
    owner_is live opened same l o k = λ i. is_some (if (l i && o i) && k i then Some c.tx else owner_of is_open (history_of cs) q)

    turn : (b : Bool) → same_key c.key q ≡ b → same_key q c.key ≡ b
    turn b is = same_key-sym q c.key ∙ is

    rest : (live : Bool) → c.live ≡ live → BeforesFit (cond live (write_to m c.key c.after) m) cs
    rest live is = subst (λ b. BeforesFit (cond b (write_to m c.key c.after) m) cs) is fit.1

    at : (live opened same : Bool) → c.live ≡ live → is_open c.tx ≡ opened → same_key c.key q ≡ same → ((s : Standing) (m : Contents) → BeforesFit m cs → has s.owned q ≡ false → has (stands_by is_open s cs).out q ≡ cond (claimed is_open (history_of cs) q) (not (has (replay m (history_of cs)) q)) (has s.out q)) → has (stands_by is_open s (c ∷ cs)).out q ≡ cond (claimed is_open (history_of (c ∷ cs)) q) (not (has (replay m (history_of (c ∷ cs))) q)) (has s.out q)
    at true true true live opened same ih =
        let key_is = same_key-is c.key q same in
        ap (λ (n : Standing). has n.out q) (pending is_open c cs s true true live opened)
        ∙ settled is_open c.tx q cs _ _ opened (subst (λ x. OnlyOf c.tx x cs) key_is (owned.0 live opened)) (owned_here s c q (turn true same)) (here_first s m c q (turn true same) none (fit.0 live))
        ∙ ap (λ n. not (has n q)) (sym (written c cs m true live))
        ∙ ap (λ b. cond b (not (has (replay m (history_of (c ∷ cs))) q)) (has s.out q)) (sym (owner_is true true true live opened same))
    at true true false live opened apart ih =
        ap (λ (n : Standing). has n.out q) (pending is_open c cs s true true live opened) ∙ ih _ _ (rest true live) (owned_there s c q (turn false apart) ∙ none)
        ∙ ap (cond (claimed is_open (history_of cs) q) (not (has (replay (write_to m c.key c.after) (history_of cs)) q))) (there_set s.out c.key q _ (turn false apart))
        ∙ (λ i. cond (sym (owner_is true true false live opened apart) i) (not (has (sym (written c cs m true live) i) q)) (has s.out q))
    at true false same live opened is_same ih =
        ap (λ (n : Standing). has n.out q) (pending is_open c cs s true false live opened) ∙ ih s (write_to m c.key c.after) (rest true live) none
        ∙ (λ i. cond (sym (owner_is true false same live opened is_same) i) (not (has (sym (written c cs m true live) i) q)) (has s.out q))
    at false opened same live is_opened is_same ih =
        ap (λ (n : Standing). has n.out q) (pending is_open c cs s false opened live is_opened) ∙ ih s m (rest false live) none
        ∙ (λ i. cond (sym (owner_is false opened same live is_opened is_same) i) (not (has (sym (written c cs m false live) i) q)) (has s.out q))

-- the charged keys are those with a record, and the absent ones
pub len-charged : (is_open : ℕ → Bool) (cs : List Kept) (b : Contents) → IsOwned is_open cs → BeforesFit b cs → len (charged is_open (history_of cs) (replay b (history_of cs))) ≡ len (replay b (history_of cs)) + len (keys_absent is_open cs)
len-charged is_open cs b owned fit = len-parts now (keys_absent is_open cs) (charged is_open (history_of cs) now) record {
  whole = λ q. has-charged is_open (history_of cs) now q ∙ joined (claimed is_open (history_of cs) q) (has now q) ∙ ap (λ b. has now q || b) (sym (absent_is q));
  apart = λ q in_now in_absent. apart (claimed is_open (history_of cs) q) (has now q) in_now (sym (absent_is q) ∙ in_absent);
}
  where
    now : Contents
    now = replay b (history_of cs)

    absent_is : (q : List ℕ) → has (keys_absent is_open cs) q ≡ cond (claimed is_open (history_of cs) q) (not (has now q)) false
    absent_is q = key_absent is_open cs nothing b q owned fit (ap is_some (get-empty (slice_cmp nat_cmp) q)) ∙ ap (λ w. cond (claimed is_open (history_of cs) q) (not (has now q)) (is_some w)) (get-empty (slice_cmp nat_cmp) q)

    joined : (c h : Bool) → c || h ≡ h || cond c (not h) false
    joined true true = refl
    joined true false = refl
    joined false true = refl
    joined false false = refl

    apart : (c h : Bool) → h ≡ true → cond c (not h) false ≡ true → ⊥
    apart true true is also = absurd (cc)
    apart true false is also = absurd (cc)
    apart false h is also = absurd (cc)
