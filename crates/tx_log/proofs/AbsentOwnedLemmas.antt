-- The owned keys that have no record, counted by transaction.
use Rattle.std.proofs.Common.{◌≡◌, ℕ, zero, suc, ◌+◌, ◌-◌, ◌<◌, Bool, true, false, cond, not, eqb, ◌&&◌, ◌||◌, List, [], ◌∷◌, ◌++◌, Option, Some, None, option_map, is_some, IsTrue, refl, sym, ap, subst, ◌∙◌, arith, eq-eqb}
use Rattle.std.specs.FinMap as maps
use Rattle.std.specs.List.{list_any, filter}
use Rattle.std.specs.Ordering.{nat_cmp}
use Rattle.std.specs.Cmp.Lexicographic.{slice_cmp}
use Rattle.std.proofs.lemmas.Cmp.{nat_list_cmp_total}
use Rattle.rec_types.specs.Contents.{Contents, set_to, write_to, same_key, has}
use Rattle.rec_types.specs.History.{Change, is_pending}
use Rattle.rec_types.specs.Kept.{Kept, change_of, history_of, is_own, newest_live, undone_or, undone, OnlyOf, IsOwned}
use Rattle.tx_log.proofs.Chains.{same_number}
use Rattle.tx_log.proofs.Lives.{single, lives}
use Rattle.tx_log.proofs.OwnerLemmas.{kept_at, and_left, and_right}
use Rattle.tx_log.specs.Owners.{says, lack, Standing, nothing, standing, stands_by, keys_absent}
use Rattle.tx_log.specs.Walks.{is_out}
use Rattle.rec_types.proofs.ContentsLemmas.{same_key-is, same_key-sym, same_key-of}
use Rattle.rec_types.proofs.Sizes.{has-set_to}

-- the live changes of open transactions
abbrev pub pending_of : (ℕ → Bool) → List Kept → List Change
pending_of is_open cs = filter (is_pending is_open) (history_of cs)

-- which keys are owned and out after some changes of open transactions
abbrev pub absent_after : (ℕ → Bool) → Standing → List Kept → Standing
absent_after is_open s cs = stands_by is_open s cs

-- the owned keys that are out
abbrev pub absent_in : (ℕ → Bool) → List Kept → Contents
absent_in is_open cs = keys_absent is_open cs

-- one transaction alone is open
abbrev pub only : ℕ → ℕ → Bool
only t u = eqb u t

-- the same transactions are open, but for one
abbrev pub without : ℕ → (ℕ → Bool) → ℕ → Bool
without t is_open u = is_open u && not (eqb u t)

-- ---- one change more

stands_push : (is_open : ℕ → Bool) (s : Standing) (cs : List Kept) (d : Kept) → stands_by is_open s (cs ++ d ∷ []) ≡ stands_by is_open (stands_by is_open s cs) (d ∷ [])
stands_push is_open s [] d = refl
stands_push is_open s (c ∷ cs) d = stands_push is_open (cond (is_pending is_open (change_of c)) (standing s c) s) cs d

-- a pending change decides at its key
after_pending : (is_open : ℕ → Bool) (s : Standing) (c : Kept) (cs : List Kept) → is_pending is_open (change_of c) ≡ true → absent_after is_open s (c ∷ cs) ≡ absent_after is_open (standing s c) cs
after_pending is_open s c cs e = ap (λ (b : Bool). stands_by is_open (cond b (standing s c) s) cs) e

after_other : (is_open : ℕ → Bool) (s : Standing) (c : Kept) (cs : List Kept) → is_pending is_open (change_of c) ≡ false → absent_after is_open s (c ∷ cs) ≡ absent_after is_open s cs
after_other is_open s c cs e = ap (λ (b : Bool). stands_by is_open (cond b (standing s c) s) cs) e

-- one more live change of an open transaction
pub stands-push : (is_open : ℕ → Bool) (cs : List Kept) (d : Kept) → d.live ≡ true → is_open d.tx ≡ true → stands_by is_open nothing (cs ++ d ∷ []) ≡ standing (stands_by is_open nothing cs) d
stands-push is_open cs d live opened = stands_push is_open nothing cs d ∙ after_pending is_open (stands_by is_open nothing cs) d [] (ap (λ b. b && is_open d.tx) live ∙ opened)

-- a change of a transaction that isn't open
pub absent-push_other : (is_open : ℕ → Bool) (cs : List Kept) (d : Kept) → is_open d.tx ≡ false → absent_in is_open (cs ++ d ∷ []) ≡ absent_in is_open cs
absent-push_other is_open cs d shut = ap (λ (s : Standing). s.out) (stands_push is_open nothing cs d ∙ after_other is_open (stands_by is_open nothing cs) d [] (ap (λ b. d.live && b) shut ∙ and_no d.live))
  where
    and_no : (b : Bool) → (b && false) ≡ false
    and_no true = refl
    and_no false = refl

-- the taking back of a change of a transaction that isn't open changes nothing
pending_dead : (is_open : ℕ → Bool) (t : ℕ) (c : Kept) → is_open t ≡ false → is_own t c ≡ true → is_pending is_open (change_of c) ≡ false
pending_dead is_open t c shut own =
    ap (λ b. b && is_open c.tx) (and_right (eqb c.tx t) c.live own) ∙ ap is_open (same_number c.tx t (and_left (eqb c.tx t) c.live own)) ∙ shut

undone_case : (is_open : ℕ → Bool) (t : ℕ) (s : Standing) (o : Option Kept) (b : Bool) (c : Kept) (cs done : List Kept) → is_open t ≡ false → is_own t c ≡ b → ((s : Standing) → stands_by is_open s done ≡ stands_by is_open s cs) → stands_by is_open s (undone_or o b c cs done) ≡ stands_by is_open s (c ∷ cs)
undone_case is_open t s (Some d) b c cs done shut own e = e (cond (is_pending is_open (change_of c)) (standing s c) s)
undone_case is_open t s None true c cs done shut own e = sym (after_other is_open s c cs (pending_dead is_open t c shut own))
undone_case is_open t s None false c cs done shut own e = refl

stands_undone : (is_open : ℕ → Bool) (t : ℕ) (cs : List Kept) (s : Standing) → is_open t ≡ false → stands_by is_open s (undone t cs) ≡ stands_by is_open s cs
stands_undone is_open t [] s shut = refl
stands_undone is_open t (c ∷ cs) s shut = undone_case is_open t s (newest_live t cs) (is_own t c) c cs (undone t cs) shut refl (λ s. stands_undone is_open t cs s shut)

-- a change of a transaction that isn't open is taken back
pub absent-undone_other : (is_open : ℕ → Bool) (t : ℕ) (cs : List Kept) → is_open t ≡ false → absent_in is_open (undone t cs) ≡ absent_in is_open cs
absent-undone_other is_open t cs shut = ap (λ (s : Standing). s.out) (stands_undone is_open t cs nothing shut)

-- ---- the absent keys of one transaction, from its live changes

-- which keys are owned and out after some changes, the newest first
abbrev pub gone_on : Standing → List Kept → Standing
gone_on s [] = s
gone_on s (u ∷ us) = standing (gone_on s us) u

-- which keys some changes leave out, the newest first
abbrev pub gone : List Kept → Standing
gone us = gone_on nothing us

gone_single : (m : Standing) (us : List Kept) (c : Kept) (b : Bool) → gone_on m (us ++ single b c) ≡ gone_on (gone_on m (single b c)) us
gone_single m [] c b = refl
gone_single m (u ∷ us) c b = ap (λ n. standing n u) (gone_single m us c b)

and_comm : (a b : Bool) → (a && b) ≡ (b && a)
and_comm true true = refl
and_comm true false = refl
and_comm false true = refl
and_comm false false = refl

only_case : (t : ℕ) (m : Standing) (c : Kept) (cs : List Kept) → ((n : Standing) → absent_after (only t) n cs ≡ gone_on n (lives t cs)) → (b : Bool) → is_own t c ≡ b → absent_after (only t) m (c ∷ cs) ≡ gone_on m (lives t cs ++ single b c)
only_case t m c cs step true own =
    after_pending (only t) m c cs (and_comm c.live (eqb c.tx t) ∙ own) ∙ step (standing m c) ∙ sym (gone_single m (lives t cs) c true)
only_case t m c cs step false own =
    after_other (only t) m c cs (and_comm c.live (eqb c.tx t) ∙ own) ∙ step m ∙ sym (gone_single m (lives t cs) c false)

absent_only : (t : ℕ) (m : Standing) (cs : List Kept) → absent_after (only t) m cs ≡ gone_on m (lives t cs)
absent_only t m [] = refl
absent_only t m (c ∷ cs) = only_case t m c cs (λ n. absent_only t n cs) (is_own t c) refl

-- what one transaction's live changes leave out
pub absent_is_gone : (t : ℕ) (cs : List Kept) → stands_by (only t) nothing cs ≡ gone (lives t cs)
absent_is_gone t cs = absent_only t nothing cs

-- whether changes, the newest first, leave the key without a record
abbrev pub lacks_at : List ℕ → List Kept → Bool
lacks_at x [] = false
lacks_at x (u ∷ us) = cond (kept_at x u) (is_out (says u.after (list_any (kept_at x) us) u.before) (lacks_at x us)) (lacks_at x us)

some_lack : (w : Option (List ℕ)) → is_some (lack w) ≡ not (is_some w)
some_lack None = refl
some_lack (Some r) = refl

-- a key is owned where a change is at it
pub has-owned : (us : List Kept) (x : List ℕ) → has (gone us).owned x ≡ list_any (kept_at x) us
has-owned [] x = ap is_some (maps.get-empty (slice_cmp nat_cmp) x)
has-owned (u ∷ us) x =
    has-set_to (gone us).owned u.key (Some []) x ∙ ap (λ b. cond b true (has (gone us).owned x)) (same_key-sym x u.key) ∙ or_case (same_key u.key x) (has-owned us x)
  where
    or_case : (b : Bool) → has (gone us).owned x ≡ list_any (kept_at x) us → cond b true (has (gone us).owned x) ≡ (b || list_any (kept_at x) us)
    or_case true e = refl
    or_case false e = e

-- what a change says of its key is so after it
has_said : (m : Contents) (k : List ℕ) (v : Option (Option (List ℕ))) → has (write_to m k (option_map lack v)) k ≡ is_out v (has m k)
has_said m k None = refl
has_said m k (Some w) = has-set_to m k (lack w) k ∙ ap (λ b. cond b (is_some (lack w)) (has m k)) (same_key-of k k refl) ∙ some_lack w

-- and leaves the others
has_unsaid : (m : Contents) (k : List ℕ) (v : Option (Option (List ℕ))) (x : List ℕ) → same_key x k ≡ false → has (write_to m k (option_map lack v)) x ≡ has m x
has_unsaid m k None x apart = refl
has_unsaid m k (Some w) x apart = has-set_to m k (lack w) x ∙ ap (λ b. cond b (is_some (lack w)) (has m x)) apart

-- a key is out where the changes at it leave it out
pub has-gone : (us : List Kept) (x : List ℕ) → has (gone us).out x ≡ lacks_at x us
has-gone [] x = ap is_some (maps.get-empty (slice_cmp nat_cmp) x)
has-gone (u ∷ us) x = at (same_key u.key x) refl (has-gone us x)
  where
    said : Option (Option (List ℕ))
    said = says u.after (has (gone us).owned u.key) u.before

    rest : Bool → Bool
    rest b = cond b (is_out (says u.after (list_any (kept_at x) us) u.before) (lacks_at x us)) (lacks_at x us)

    at : (b : Bool) → same_key u.key x ≡ b → has (gone us).out x ≡ lacks_at x us → has (write_to (gone us).out u.key (option_map lack said)) x ≡ rest (same_key u.key x)
    at true same ih =
        let key : u.key ≡ x = same_key-is u.key x same in
        ap (has (write_to (gone us).out u.key (option_map lack said))) (sym key)
        ∙ has_said (gone us).out u.key said
        ∙ (λ i. is_out (says u.after (has (gone us).owned (key i)) u.before) (has (gone us).out (key i)))
        ∙ (λ i. is_out (says u.after (has-owned us x i) u.before) (ih i))
        ∙ sym (ap rest same)
    at false apart ih = has_unsaid (gone us).out u.key said x (same_key-sym x u.key ∙ apart) ∙ ih ∙ sym (ap rest apart)

-- ---- how many

-- where a key is there, there is one
pub none_of_len : (m : Contents) (x : List ℕ) → has m x ≡ true → 0 < maps.len m
none_of_len m x e = none_case (maps.len m) refl
  where
    none_case : (n : ℕ) → maps.len m ≡ n → 0 < n
    none_case zero z =
        let none : has m x ≡ false = ap (λ n. has n x) (maps.empty_of_len m z) ∙ ap is_some (maps.get-empty (slice_cmp nat_cmp) x) in
        absurd (let no : true ≡ false = sym e ∙ none in cc)
    none_case (suc n) z = omega arith

len_case : (m : Contents) (x : List ℕ) (w : Option (List ℕ)) (b : Bool) → has m x ≡ b → maps.len (set_to m x (lack w)) + cond b 1 0 ≡ maps.len m + cond (not (is_some w)) 1 0
len_case m x None true e =
    let n : maps.len (maps.insert m x []) ≡ maps.len m = maps.len-insert nat_list_cmp_total m x [] ∙ ap (λ (b : Bool). cond b (maps.len m) (maps.len m + 1)) e in
    omega (arith, n)
len_case m x None false e =
    let n : maps.len (maps.insert m x []) ≡ maps.len m + 1 = maps.len-insert nat_list_cmp_total m x [] ∙ ap (λ (b : Bool). cond b (maps.len m) (maps.len m + 1)) e in
    omega (arith, n)
len_case m x (Some r) true e =
    let n : maps.len (maps.remove m x) ≡ maps.len m - 1 = maps.len-remove nat_list_cmp_total m x ∙ ap (λ (b : Bool). cond b (maps.len m - 1) (maps.len m)) e in
    omega (arith, n, none_of_len m x e)
len_case m x (Some r) false e =
    let n : maps.len (maps.remove m x) ≡ maps.len m = maps.len-remove nat_list_cmp_total m x ∙ ap (λ (b : Bool). cond b (maps.len m - 1) (maps.len m)) e in
    omega (arith, n)

-- how many keys there are after one is set
pub len-set_to : (m : Contents) (x : List ℕ) (w : Option (List ℕ)) → maps.len (set_to m x (lack w)) + cond (has m x) 1 0 ≡ maps.len m + cond (not (is_some w)) 1 0
len-set_to m x w = len_case m x w (has m x) refl

-- the same where a change says something of the key, or nothing
pub len-said : (m : Contents) (x : List ℕ) (v : Option (Option (List ℕ))) → maps.len (write_to m x (option_map lack v)) + cond (has m x) 1 0 ≡ maps.len m + cond (is_out v (has m x)) 1 0
len-said m x None = refl
len-said m x (Some w) = len-set_to m x w

-- how many keys are out after one change more
pub len-gone : (us : List Kept) (u : Kept) → maps.len (gone (u ∷ us)).out + cond (lacks_at u.key us) 1 0 ≡ maps.len (gone us).out + cond (lacks_at u.key (u ∷ us)) 1 0
len-gone us u =
    (λ i. maps.len (gone (u ∷ us)).out + cond (sym (has-gone us u.key) i) 1 0)
    ∙ len-said (gone us).out u.key (says u.after (has (gone us).owned u.key) u.before)
    ∙ ap (λ (b : Bool). maps.len (gone us).out + cond b 1 0) (sym (has_said (gone us).out u.key (says u.after (has (gone us).owned u.key) u.before)) ∙ has-gone (u ∷ us) u.key)

-- ---- the absent keys of one transaction beside those of the others

record Parts (a b d : Contents) : Type 0 where
  counted : maps.len a ≡ maps.len b + maps.len d
  joined : (q : List ℕ) → has a q ≡ (has b q || has d q)

-- no live change at the key is of the transaction
abbrev NoneOf : ℕ → List ℕ → List Kept → Type 0
NoneOf t x [] = Unit {0}
NoneOf t x (c ∷ cs) = (IsTrue c.live → c.key ≡ x → eqb c.tx t ≡ false) × NoneOf t x cs

record Apart (t : ℕ) (b d : Standing) (cs : List Kept) : Type 0 where
  ours : (q : List ℕ) → has d.owned q ≡ true → OnlyOf t q cs
  others : (q : List ℕ) → has b.owned q ≡ true → NoneOf t q cs

-- what is owned and what is out, in two parts
record Halves (a b d : Standing) : Type 0 where
  owned : Parts a.owned b.owned d.owned
  out : Parts a.out b.out d.out
  theirs : (q : List ℕ) → has b.out q ≡ true → has b.owned q ≡ true
  ours : (q : List ℕ) → has d.out q ≡ true → has d.owned q ≡ true

none_from_only : (t u : ℕ) (x : List ℕ) (cs : List Kept) → eqb u t ≡ false → OnlyOf u x cs → NoneOf t x cs
none_from_only t u x [] apart is = tt
none_from_only t u x (c ∷ cs) apart is = (λ live at. ap (λ v. eqb v t) (is.0 live at) ∙ apart, none_from_only t u x cs apart is.1)

or_false : (b : Bool) → (b || false) ≡ b
or_false true = refl
or_false false = refl

joined_here : (t : Bool) (w a b d : Bool) → a ≡ (b || d) → (t ≡ true → b ≡ false) → cond t w a ≡ (b || cond t w d)
joined_here true w a true d e h = absurd (let no : true ≡ false = h refl in cc)
joined_here true w a false d e h = refl
joined_here false w a b d e h = e

joined_there : (t : Bool) (w a b d : Bool) → a ≡ (b || d) → (t ≡ true → d ≡ false) → cond t w a ≡ (cond t w b || d)
joined_there true w a b true e h = absurd (let no : true ≡ false = h refl in cc)
joined_there true true a b false e h = refl
joined_there true false a b false e h = refl
joined_there false w a b d e h = e

-- a key that the others don't have
parts_here : (a b d : Contents) (x : List ℕ) (w : Option (List ℕ)) → Parts a b d → has b x ≡ false → Parts (set_to a x (lack w)) b (set_to d x (lack w))
parts_here a b d x w p none =
    let same : has a x ≡ has d x = p.joined x ∙ ap (λ v. v || has d x) none in
    let count : ◌≡◌ {A = ℕ} (cond (has a x) 1 0) (cond (has d x) 1 0) = ap (λ (v : Bool). cond v 1 0) same in
    record {
      counted = omega (arith, p.counted, len-set_to a x w, len-set_to d x w, count);
      joined = λ q. has-set_to a x (lack w) q
          ∙ joined_here (same_key q x) (is_some (lack w)) (has a q) (has b q) (has d q) (p.joined q) (λ e. ap (has b) (same_key-is q x e) ∙ none)
          ∙ ap (λ v. has b q || v) (sym (has-set_to d x (lack w) q));
    }

parts_there : (a b d : Contents) (x : List ℕ) (w : Option (List ℕ)) → Parts a b d → has d x ≡ false → Parts (set_to a x (lack w)) (set_to b x (lack w)) d
parts_there a b d x w p none =
    let same : has a x ≡ has b x = p.joined x ∙ ap (λ v. has b x || v) none ∙ or_false (has b x) in
    let count : ◌≡◌ {A = ℕ} (cond (has a x) 1 0) (cond (has b x) 1 0) = ap (λ (v : Bool). cond v 1 0) same in
    record {
      counted = omega (arith, p.counted, len-set_to a x w, len-set_to b x w, count);
      joined = λ q. has-set_to a x (lack w) q
          ∙ joined_there (same_key q x) (is_some (lack w)) (has a q) (has b q) (has d q) (p.joined q) (λ e. ap (has d) (same_key-is q x e) ∙ none)
          ∙ ap (λ v. v || has d q) (sym (has-set_to b x (lack w) q));
    }

has_case : (m : Contents) (x : List ℕ) (w : Option (List ℕ)) (q : List ℕ) (cs : List Kept) (P : List ℕ → Type 0) → P x → (has m q ≡ true → P q) → (b : Bool) → same_key q x ≡ b → cond b (is_some (lack w)) (has m q) ≡ true → P q
has_case m x w q cs P here there true e h = subst P (sym (same_key-is q x e)) here
has_case m x w q cs P here there false e h = there h

-- the keys of the map and one more
more_keys : (m : Contents) (x : List ℕ) (w : Option (List ℕ)) (cs : List Kept) (P : List ℕ → Type 0) → P x → ((q : List ℕ) → has m q ≡ true → P q) → (q : List ℕ) → has (set_to m x (lack w)) q ≡ true → P q
more_keys m x w cs P here there q h = has_case m x w q cs P here (there q) (same_key q x) refl (sym (has-set_to m x (lack w) q) ∙ h)

not_had : (m : Contents) (x : List ℕ) → (has m x ≡ true → ⊥) → has m x ≡ false
not_had m x never = not_had_case (has m x) refl
  where
    not_had_case : (b : Bool) → has m x ≡ b → b ≡ false
    not_had_case true e = absurd (never e)
    not_had_case false e = refl

unlike : (b : Bool) → b ≡ true → b ≡ false → ⊥
unlike b e f = let no : true ≡ false = sym e ∙ f in absurd (cc)

-- what a change says, or nothing, in the part whose key it is
said_here : (a b d : Contents) (x : List ℕ) (v : Option (Option (List ℕ))) → Parts a b d → has b x ≡ false → Parts (write_to a x (option_map lack v)) b (write_to d x (option_map lack v))
said_here a b d x None p none = p
said_here a b d x (Some w) p none = parts_here a b d x w p none

said_there : (a b d : Contents) (x : List ℕ) (v : Option (Option (List ℕ))) → Parts a b d → has d x ≡ false → Parts (write_to a x (option_map lack v)) (write_to b x (option_map lack v)) d
said_there a b d x None p none = p
said_there a b d x (Some w) p none = parts_there a b d x w p none

-- what is out is owned, after one change more
out_owned : (s : Standing) (c : Kept) → ((q : List ℕ) → has s.out q ≡ true → has s.owned q ≡ true) → (q : List ℕ) → has (standing s c).out q ≡ true → has (standing s c).owned q ≡ true
out_owned s c is q h = has-set_to s.owned c.key (Some []) q ∙ at (same_key q c.key) refl
  where
    at : (b : Bool) → same_key q c.key ≡ b → cond b true (has s.owned q) ≡ true
    at true same = refl
    at false apart = is q (sym (has_unsaid s.out c.key (says c.after (has s.owned c.key) c.before) q apart) ∙ h)

unless : (a b : Bool) → (a ≡ true → b ≡ true) → b ≡ false → a ≡ false
unless true b h none = absurd (let no : true ≡ false = sym (h refl) ∙ none in cc)
unless false b h none = refl

or_none : (a b d : Bool) → a ≡ (b || d) → b ≡ false → a ≡ d
or_none a true d e none = absurd (let no : true ≡ false = none in cc)
or_none a false d e none = e

or_other : (a b d : Bool) → a ≡ (b || d) → d ≡ false → a ≡ b
or_other a b true e none = absurd (let no : true ≡ false = none in cc)
or_other a true false e none = e
or_other a false false e none = e

abbrev Split : (ℕ → Bool) → ℕ → List Kept → Type 0
Split is_open t cs = (a b d : Standing) → Halves a b d → IsOwned is_open cs → Apart t b d cs → maps.len (absent_after is_open a cs).out ≡ maps.len (absent_after (without t is_open) b cs).out + maps.len (absent_after (only t) d cs).out

split_mine : (is_open : ℕ → Bool) (t : ℕ) (c : Kept) (cs : List Kept) → Split is_open t cs → is_pending is_open (change_of c) ≡ true → eqb c.tx t ≡ true → Split is_open t (c ∷ cs)
split_mine is_open t c cs step pending mine a b d p is apart =
    let live : c.live ≡ true = and_left c.live (is_open c.tx) pending in
    let opened : is_open c.tx ≡ true = and_right c.live (is_open c.tx) pending in
    let there : is_pending (only t) (change_of c) ≡ true = ap (λ v. v && eqb c.tx t) live ∙ mine in
    let shut : is_pending (without t is_open) (change_of c) ≡ false = ap (λ v. v && (is_open c.tx && not (eqb c.tx t))) live ∙ ap (λ v. v && not (eqb c.tx t)) opened ∙ ap not mine in
    let free : has b.owned c.key ≡ false = not_had b.owned c.key (λ h. unlike (eqb c.tx t) mine ((apart.others c.key h).0 live refl)) in
    let owned : OnlyOf t c.key cs = subst (λ u. OnlyOf u c.key cs) (same_number c.tx t mine) (is.0 live opened) in
    let same : has a.owned c.key ≡ has d.owned c.key = or_none _ _ _ (p.owned.joined c.key) free in
    let says_is = ap (λ (v : Bool). write_to a.out c.key (option_map lack (says c.after v c.before))) same in
    let halves : Halves (standing a c) b (standing d c) = record {
      owned = parts_here a.owned b.owned d.owned c.key None p.owned free;
      out = subst (λ (m : Contents). Parts m b.out (standing d c).out) (sym says_is) (said_here a.out b.out d.out c.key (says c.after (has d.owned c.key) c.before) p.out (unless _ _ (p.theirs c.key) free));
      theirs = p.theirs;
      ours = out_owned d c p.ours;
    } in
    let next : Apart t b (standing d c) cs = record { ours = more_keys d.owned c.key None cs (λ q. OnlyOf t q cs) owned (λ q h. (apart.ours q h).1); others = λ q h. (apart.others q h).1 } in
    let rest = step (standing a c) b (standing d c) halves is.1 next in
    ap (λ (s : Standing). maps.len s.out) (after_pending is_open a c cs pending)
    ∙ rest
    ∙ (λ i. maps.len (sym (after_other (without t is_open) b c cs shut) i).out + maps.len (sym (after_pending (only t) d c cs there) i).out)

split_other : (is_open : ℕ → Bool) (t : ℕ) (c : Kept) (cs : List Kept) → Split is_open t cs → is_pending is_open (change_of c) ≡ true → eqb c.tx t ≡ false → Split is_open t (c ∷ cs)
split_other is_open t c cs step pending other a b d p is apart =
    let live : c.live ≡ true = and_left c.live (is_open c.tx) pending in
    let opened : is_open c.tx ≡ true = and_right c.live (is_open c.tx) pending in
    let shut : is_pending (only t) (change_of c) ≡ false = ap (λ v. v && eqb c.tx t) live ∙ other in
    let there : is_pending (without t is_open) (change_of c) ≡ true = ap (λ v. v && (is_open c.tx && not (eqb c.tx t))) live ∙ ap (λ v. v && not (eqb c.tx t)) opened ∙ ap not other in
    let free : has d.owned c.key ≡ false = not_had d.owned c.key (λ h. unlike (eqb c.tx t) (eq-eqb c.tx t ((apart.ours c.key h).0 live refl)) other) in
    let owned : NoneOf t c.key cs = none_from_only t c.tx c.key cs other (is.0 live opened) in
    let same : has a.owned c.key ≡ has b.owned c.key = or_other _ _ _ (p.owned.joined c.key) free in
    let says_is = ap (λ (v : Bool). write_to a.out c.key (option_map lack (says c.after v c.before))) same in
    let halves : Halves (standing a c) (standing b c) d = record {
      owned = parts_there a.owned b.owned d.owned c.key None p.owned free;
      out = subst (λ (m : Contents). Parts m (standing b c).out d.out) (sym says_is) (said_there a.out b.out d.out c.key (says c.after (has b.owned c.key) c.before) p.out (unless _ _ (p.ours c.key) free));
      theirs = out_owned b c p.theirs;
      ours = p.ours;
    } in
    let next : Apart t (standing b c) d cs = record { ours = λ q h. (apart.ours q h).1; others = more_keys b.owned c.key None cs (λ q. NoneOf t q cs) owned (λ q h. (apart.others q h).1) } in
    let rest = step (standing a c) (standing b c) d halves is.1 next in
    ap (λ (s : Standing). maps.len s.out) (after_pending is_open a c cs pending)
    ∙ rest
    ∙ (λ i. maps.len (sym (after_pending (without t is_open) b c cs there) i).out + maps.len (sym (after_other (only t) d c cs shut) i).out)

no_pending_only : (is_open : ℕ → Bool) (t : ℕ) (c : Kept) → is_open t ≡ true → is_pending is_open (change_of c) ≡ false → is_pending (only t) (change_of c) ≡ false
no_pending_only is_open t c opened e = no_case c.live (eqb c.tx t) refl e
  where
    no_case : (a b : Bool) → eqb c.tx t ≡ b → (a && is_open c.tx) ≡ false → (a && b) ≡ false
    no_case false b f e = refl
    no_case true false f e = refl
    no_case true true f e = absurd (unlike (is_open c.tx) (ap is_open (same_number c.tx t f) ∙ opened) e)

no_pending_without : (is_open : ℕ → Bool) (t : ℕ) (c : Kept) → is_pending is_open (change_of c) ≡ false → is_pending (without t is_open) (change_of c) ≡ false
no_pending_without is_open t c e = no_case c.live (is_open c.tx) (not (eqb c.tx t)) e
  where
    no_case : (a b v : Bool) → (a && b) ≡ false → (a && (b && v)) ≡ false
    no_case false b v e = refl
    no_case true false v e = refl
    no_case true true v e = absurd (let no : true ≡ false = e in cc)

split_not : (is_open : ℕ → Bool) (t : ℕ) (c : Kept) (cs : List Kept) → is_open t ≡ true → Split is_open t cs → is_pending is_open (change_of c) ≡ false → Split is_open t (c ∷ cs)
split_not is_open t c cs opened step pending a b d p is apart =
    let next : Apart t b d cs = record { ours = λ q h. (apart.ours q h).1; others = λ q h. (apart.others q h).1 } in
    ap (λ (s : Standing). maps.len s.out) (after_other is_open a c cs pending)
    ∙ step a b d p is.1 next
    ∙ (λ i. maps.len (sym (after_other (without t is_open) b c cs (no_pending_without is_open t c pending)) i).out + maps.len (sym (after_other (only t) d c cs (no_pending_only is_open t c opened pending)) i).out)

split_case : (is_open : ℕ → Bool) (t : ℕ) (c : Kept) (cs : List Kept) → is_open t ≡ true → Split is_open t cs → (p : Bool) → is_pending is_open (change_of c) ≡ p → (m : Bool) → eqb c.tx t ≡ m → Split is_open t (c ∷ cs)
split_case is_open t c cs opened step true e true f = split_mine is_open t c cs step e f
split_case is_open t c cs opened step true e false f = split_other is_open t c cs step e f
split_case is_open t c cs opened step false e m f = split_not is_open t c cs opened step e

split : (is_open : ℕ → Bool) (t : ℕ) (cs : List Kept) → is_open t ≡ true → Split is_open t cs
split is_open t [] opened = λ a b d p is apart. p.out.counted
split is_open t (c ∷ cs) opened = split_case is_open t c cs opened (split is_open t cs opened) (is_pending is_open (change_of c)) refl (eqb c.tx t) refl

has_none : (q : List ℕ) → has maps.empty q ≡ false
has_none q = ap is_some (maps.get-empty (slice_cmp nat_cmp) q)

-- the absent keys are those of the transaction and those of the others
pub absent-parts : (is_open : ℕ → Bool) (t : ℕ) (cs : List Kept) → IsOwned is_open cs → is_open t ≡ true → maps.len (absent_in is_open cs) ≡ maps.len (absent_in (without t is_open) cs) + maps.len (absent_in (only t) cs)
absent-parts is_open t cs is opened =
    let none : maps.len {X = List ℕ} {R = slice_cmp nat_cmp} maps.empty ≡ 0 = maps.len-empty (slice_cmp nat_cmp) (List ℕ) in
    let start : Parts maps.empty maps.empty maps.empty = record { counted = omega (arith, none); joined = λ q. has_none q ∙ sym (ap (λ v. v || has maps.empty q) (has_none q) ∙ has_none q) } in
    let never : (q : List ℕ) → has maps.empty q ≡ true → ⊥ = λ q h. unlike _ h (has_none q) in
    let halves : Halves nothing nothing nothing = record { owned = start; out = start; theirs = λ q h. h; ours = λ q h. h } in
    let apart : Apart t nothing nothing cs = record { ours = λ q h. absurd (never q h); others = λ q h. absurd (never q h) } in
    split is_open t cs opened nothing nothing nothing halves is apart
