-- The changes that are live in the end, beside all changes so far: the same answers, and no more of any limit.
use Rattle.std.proofs.Common.{◌≡◌, ◌⊎◌, ℕ, ◌≤◌, zero, suc, Bool, true, false, cond, if◌then◌else◌, ◌&&◌, ◌||◌, eqb, List, [], ◌∷◌, ◌++◌, length, filter, Option, Some, None, is_some, inl, inr, refl, sym, ap, ◌∙◌, IsTrue, arith}
use Rattle.std.proofs.lemmas.Bool.Decides.{nat_tests}
use Rattle.std.specs.FinMap.{get, keys, empty}
use Rattle.rec_types.specs.Contents.{Contents, set_to, write_to, same_key, has}
use Rattle.rec_types.specs.History.{Change, replay, is_pending, log_use}
use Rattle.rec_types.specs.Kept.{Kept, history_of}
use Rattle.rec_types.proofs.ContentsLemmas.{get-set_to, get-write_to-there, same_key-of, same_key-is}
use Rattle.rec_types.proofs.Sizes.{IsWithin}
use Rattle.tx_log.specs.Remaining.{LosesLives, IsPart}
use Rattle.tx_log.specs.Owners.{claims, owner_of, other_than, holder_of, charged, keys_owned}
use Rattle.tx_log.proofs.RemainingLemmas.{part_use}
use Rattle.tx_log.proofs.OwnerLemmas.{HeldBy}
use Rattle.record_file.specs.Remaining.{past_first, first_lives}
use Rattle.record_file.specs.Leads.{NoneLeft, LeadsTo, part, past}
use Rattle.record_file.proofs.ChargedLemmas.{claimed, has-charged}
use Rattle.record_file.proofs.FileLemmas.{or_either, or_first, or_second}
use Rattle.rec_types.proofs.TakeBackLemmas.{apart_of}

-- places

-- one more change is one more
pub length-push : (h : List Change) (c : Change) → length (h ++ c ∷ []) ≡ suc (length h)
length-push [] c = refl
length-push (b ∷ h) c = ap suc (length-push h c)

-- taking back leaves as many changes
pub leaves-length : (h h2 : List Change) → LosesLives h h2 → length h2 ≡ length h
leaves-length [] [] leaves = refl
leaves-length [] (d ∷ h2) leaves = absurd leaves
leaves-length (c ∷ h) [] leaves = absurd leaves
leaves-length (c ∷ h) (d ∷ h2) leaves = ap suc (leaves-length h h2 leaves.2)

-- what lies beyond one more change
pub past-push : (n : ℕ) (g : List Change) → past (suc n) g ≡ past_first (past n g)
past-push zero g = refl
past-push (suc n) g = past-push n (past_first g)

past-none : (n : ℕ) → past n [] ≡ []
past-none zero = refl
past-none (suc n) = past-none n

-- one more change is in the part where it is live in the end
pub part-push : (h g : List Change) (c : Change) → part (h ++ c ∷ []) g ≡ (if first_lives (past (length h) g) then part h g ++ c ∷ [] else part h g)
part-push [] [] c = refl
part-push [] (d ∷ g) c = refl
part-push (b ∷ h) [] c = ap (λ (p : List Change). if first_lives p then c ∷ [] else []) (sym (past-none (length h)))
part-push (b ∷ h) (d ∷ g) c = at d.live (part-push h g c)
  where
    front : (more : Bool) → b ∷ (if more then part h g ++ c ∷ [] else part h g) ≡ (if more then b ∷ (part h g ++ c ∷ []) else b ∷ part h g)
    front true = refl
    front false = refl

    at : (live : Bool) → part (h ++ c ∷ []) g ≡ (if first_lives (past (length h) g) then part h g ++ c ∷ [] else part h g) → (if live then b ∷ part (h ++ c ∷ []) g else part (h ++ c ∷ []) g) ≡ (if first_lives (past (length h) g) then (if live then b ∷ part h g else part h g) ++ c ∷ [] else (if live then b ∷ part h g else part h g))
    at true ih = ap (λ p. b ∷ p) ih ∙ front (first_lives (past (length h) g))
    at false ih = ih

-- what is taken back and what is dead in the end are in no part
pub part-stays : (opened : ℕ → Bool) (h h2 g : List Change) → LosesLives h h2 → LeadsTo opened h2 g → part h2 g ≡ part h g
part-stays opened [] [] g leaves leads = refl
part-stays opened [] (c2 ∷ h2) g leaves leads = absurd leaves
part-stays opened (c ∷ h) [] g leaves leads = absurd leaves
part-stays opened (c ∷ h) (c2 ∷ h2) [] leaves leads = absurd leads
part-stays opened (c ∷ h) (c2 ∷ h2) (d ∷ g) leaves leads = at d.live refl (part-stays opened h h2 g leaves.2 leads.3)
  where
    at : (live : Bool) → d.live ≡ live → part h2 g ≡ part h g → (if live then c2 ∷ part h2 g else part h2 g) ≡ (if live then c ∷ part h g else part h g)
    at true live ih =
        let lives : c2.live ≡ c.live = leads.1 live ∙ sym (leaves.1 (leads.1 live)) in
        let same : c2 ≡ c = leaves.0 ∙ (λ i. record c { live = lives i }) in
        λ i. same i ∷ ih i
    at false dead ih = ih

is_part-more : (p h : List Change) (c : Change) → IsPart p h → IsPart p (c ∷ h)
is_part-more [] h c is = tt
is_part-more (d ∷ p) h c is = inr is

-- the changes that are live in the end are a part of those so far
pub part_is : (opened : ℕ → Bool) (h g : List Change) → LeadsTo opened h g → IsPart (part h g) h
part_is opened [] g leads = tt
part_is opened (c ∷ h) [] leads = absurd leads
part_is opened (c ∷ h) (d ∷ g) leads = at d.live refl (part_is opened h g leads.3)
  where
    at : (live : Bool) → d.live ≡ live → IsPart (part h g) h → IsPart (if live then c ∷ part h g else part h g) (c ∷ h)
    at true live ih = inl (refl, leads.1 live, ih)
    at false dead ih = is_part-more (part h g) h c ih

-- who is open

-- the same of these changes' transactions are open
abbrev pub AgreeOn : (ℕ → Bool) → (ℕ → Bool) → List Change → Type 0
AgreeOn opened also [] = Unit {0}
AgreeOn opened also (c ∷ p) = (also c.tx ≡ opened c.tx) × AgreeOn opened also p

-- two tests of open transactions agree on a part's transactions
pub agree-map : (opened also opened2 also2 : ℕ → Bool) (p : List Change) → ((t : ℕ) → also t ≡ opened t → also2 t ≡ opened2 t) → AgreeOn opened also p → AgreeOn opened2 also2 p
agree-map opened also opened2 also2 [] step agree = tt
agree-map opened also opened2 also2 (c ∷ p) step agree = (step c.tx agree.0, agree-map opened also opened2 also2 p step agree.1)

-- they agree with one more change
pub agree-push : (opened also : ℕ → Bool) (p : List Change) (c : Change) → AgreeOn opened also p → also c.tx ≡ opened c.tx → AgreeOn opened also (p ++ c ∷ [])
agree-push opened also [] c agree here = (here, tt)
agree-push opened also (d ∷ p) c agree here = (agree.0, agree-push opened also p c agree.1 here)

pending_agree : (opened also : ℕ → Bool) (p : List Change) → AgreeOn opened also p → length (filter (is_pending also) p) ≡ length (filter (is_pending opened) p)
pending_agree opened also [] agree = refl
pending_agree opened also (c ∷ p) agree = ap (λ b. length (cond (c.live && b) (c ∷ filter (is_pending also) p) (filter (is_pending also) p))) agree.0 ∙ at (c.live && opened c.tx) (pending_agree opened also p agree.1)
  where
    at : (b : Bool) → length (filter (is_pending also) p) ≡ length (filter (is_pending opened) p) → length (cond b (c ∷ filter (is_pending also) p) (filter (is_pending also) p)) ≡ length (cond b (c ∷ filter (is_pending opened) p) (filter (is_pending opened) p))
    at true ih = ap suc ih
    at false ih = ih

-- the part uses no more of the log
pub use_less : (opened also : ℕ → Bool) (h g : List Change) → LeadsTo opened h g → AgreeOn opened also (part h g) → log_use also (part h g) ≤ log_use opened h
use_less opened also h g leads agree = omega (arith, pending_agree opened also (part h g) agree, part_use opened (part h g) h (part_is opened h g leads))

-- one key

-- the live changes at the key are live in the end
abbrev pub KeptAt : List ℕ → List Change → List Change → Type 0
KeptAt x [] g = Unit {0}
KeptAt x (c ∷ h) [] = Unit {0}
KeptAt x (c ∷ h) (d ∷ g) = (IsTrue c.live → c.key ≡ x → IsTrue d.live) × KeptAt x h g

-- the live changes of open transactions at the key are of this one
abbrev pub PendingAll : (ℕ → Bool) → ℕ → List ℕ → List Change → Type 0
PendingAll opened t x [] = Unit {0}
PendingAll opened t x (c ∷ h) = (IsTrue c.live → IsTrue (opened c.tx) → c.key ≡ x → c.tx ≡ t) × PendingAll opened t x h

-- where no other holds a key, each live change there is the transaction's own or of one that has ended
pub pending_all : (opened : ℕ → Bool) (t : ℕ) (x : List ℕ) (cs : List Kept) → HeldBy opened t x cs → PendingAll opened t x (history_of cs)
pending_all opened t x [] held = tt
pending_all opened t x (c ∷ cs) held = (held.0, pending_all opened t x cs held.1)

none_last : (u : ℕ) (h g : List Change) (c : Change) → NoneLeft u (h ++ c ∷ []) g → c.tx ≡ u → first_lives (past (length h) g) ≡ false
none_last u [] [] c none mine = refl
none_last u [] (d ∷ g) c none mine = none.0 mine
none_last u (b ∷ h) [] c none mine = ap first_lives (past-none (length h))
none_last u (b ∷ h) (d ∷ g) c none mine = none_last u h g c none.1 mine

-- Where a change that is live in the end comes to a key that no other transaction holds, all that is live there is so in
-- the end.
pub kept_at : (opened : ℕ → Bool) (t : ℕ) (x : List ℕ) (h g : List Change) (c : Change) → PendingAll opened t x h → c.tx ≡ t → LeadsTo opened (h ++ c ∷ []) g → first_lives (past (length h) g) ≡ true → KeptAt x h g
kept_at opened t x [] g c pending mine leads last = tt
kept_at opened t x (b ∷ h) [] c pending mine leads last = tt
kept_at opened t x (b ∷ h) (d ∷ g) c pending mine leads last = (λ live here. at d.live refl live here, kept_at opened t x h g c pending.1 mine leads.3 last)
  where
    at : (lives : Bool) → d.live ≡ lives → IsTrue b.live → b.key ≡ x → IsTrue d.live
    at true is live here = is
    at false is live here =
        let taken = leads.2 live is in
        absurd (cc (sym last ∙ none_last b.tx h g c taken.1 (mine ∙ sym (pending.0 live taken.0 here))))

same_set : (m n : Contents) (k : List ℕ) (w : Option (Option (List ℕ))) (x : List ℕ) → get m x ≡ get n x → get (write_to m k w) x ≡ get (write_to n k w) x
same_set m n k None x same = same
same_set m n k (Some w) x same = get-set_to m k w x ∙ ap (cond (same_key x k) w) same ∙ sym (get-set_to n k w x)

-- the same record stands there
pub same_record : (opened : ℕ → Bool) (x : List ℕ) (h g : List Change) (m n : Contents) → LeadsTo opened h g → KeptAt x h g → get m x ≡ get n x → get (replay m (part h g)) x ≡ get (replay n h) x
same_record opened x [] g m n leads kept same = same
same_record opened x (c ∷ h) [] m n leads kept same = absurd leads
same_record opened x (c ∷ h) (d ∷ g) m n leads kept same = at d.live c.live refl refl (λ m2 n2. same_record opened x h g m2 n2 leads.3 kept.1)
  where
    at : (dl cl : Bool) → d.live ≡ dl → c.live ≡ cl → ((m2 n2 : Contents) → get m2 x ≡ get n2 x → get (replay m2 (part h g)) x ≡ get (replay n2 h) x) → get (replay m (if dl then c ∷ part h g else part h g)) x ≡ get (replay (cond cl (write_to n c.key c.after) n) h) x
    at true true dl cl ih = ap (λ b. get (replay (cond b (write_to m c.key c.after) m) (part h g)) x) cl ∙ ih (write_to m c.key c.after) (write_to n c.key c.after) (same_set m n c.key c.after x same)
    at true false dl cl ih = absurd (cc (sym cl ∙ leads.1 dl))
    at false true dl cl ih =
        let apart = apart_of x c.key (λ here. absurd (cc (sym dl ∙ kept.0 cl (sym here)))) in
        ih m (write_to n c.key c.after) (same ∙ sym (get-write_to-there n c.key c.after x apart))
    at false false dl cl ih = ih m n same

claimed_over : (b : Bool) (c : Change) (o : Option ℕ) → is_some o ≡ true → is_some (if b then Some c.tx else o) ≡ true
claimed_over true c o is = refl
claimed_over false c o is = is

-- where something live at a key isn't live in the end, an open transaction owns the key
kept_or_claimed : (opened : ℕ → Bool) (q : List ℕ) (h g : List Change) → LeadsTo opened h g → KeptAt q h g ⊎ (claimed opened h q ≡ true)
kept_or_claimed opened q [] g leads = inl tt
kept_or_claimed opened q (c ∷ h) [] leads = absurd leads
kept_or_claimed opened q (c ∷ h) (d ∷ g) leads = at c.live d.live (same_key c.key q) refl refl refl (kept_or_claimed opened q h g leads.3)
  where
    more : (IsTrue c.live → c.key ≡ q → IsTrue d.live) → KeptAt q h g ⊎ (claimed opened h q ≡ true) → KeptAt q (c ∷ h) (d ∷ g) ⊎ (claimed opened (c ∷ h) q ≡ true)
    more here (inl kept) = inl (here, kept)
    more here (inr owns) = inr (claimed_over (claims opened q c) c (owner_of opened h q) owns)

    at : (cl dl same : Bool) → c.live ≡ cl → d.live ≡ dl → same_key c.key q ≡ same → KeptAt q h g ⊎ (claimed opened h q ≡ true) → KeptAt q (c ∷ h) (d ∷ g) ⊎ (claimed opened (c ∷ h) q ≡ true)
    at true false true cl dl same ih =
        let claim : claims opened q c ≡ true = ap (λ b. (b && opened c.tx) && same_key c.key q) cl ∙ ap (λ b. b && same_key c.key q) (leads.2 cl dl).0 ∙ same in
        inr (ap (λ b. is_some (if b then Some c.tx else owner_of opened h q)) claim)
    at true false false cl dl same ih = more (λ live here. absurd (cc (sym same ∙ same_key-of c.key q here))) ih
    at true true same cl dl same_is ih = more (λ live here. dl) ih
    at false live same cl dl same_is ih = more (λ live here. absurd (cc (sym cl ∙ live))) ih

claim_agrees : (opened also : ℕ → Bool) (q : List ℕ) (c : Change) → also c.tx ≡ opened c.tx → claims also q c ≡ claims opened q c
claim_agrees opened also q c agree = ap (λ b. (c.live && b) && same_key c.key q) agree

-- a key that is owned by a part is owned
claimed_part : (opened also : ℕ → Bool) (q : List ℕ) (h g : List Change) → LeadsTo opened h g → AgreeOn opened also (part h g) → claimed also (part h g) q ≡ true → claimed opened h q ≡ true
claimed_part opened also q [] g leads agree owns = owns
claimed_part opened also q (c ∷ h) [] leads agree owns = absurd leads
claimed_part opened also q (c ∷ h) (d ∷ g) leads agree owns = at d.live agree owns (claimed_part opened also q h g leads.3)
  where
    by : (b : Bool) → (claimed also (part h g) q ≡ true → claimed opened h q ≡ true) → is_some (if b then Some c.tx else owner_of also (part h g) q) ≡ true → is_some (if b then Some c.tx else owner_of opened h q) ≡ true
    by true ih owns = refl
    by false ih owns = ih owns

    at : (live : Bool) → AgreeOn opened also (if live then c ∷ part h g else part h g) → claimed also (if live then c ∷ part h g else part h g) q ≡ true → (AgreeOn opened also (part h g) → claimed also (part h g) q ≡ true → claimed opened h q ≡ true) → claimed opened (c ∷ h) q ≡ true
    at true agree owns ih = by (claims opened q c) (ih agree.1) (ap (λ b. is_some (if b then Some c.tx else owner_of also (part h g) q)) (sym (claim_agrees opened also q c agree.0)) ∙ owns)
    at false agree owns ih = claimed_over (claims opened q c) c (owner_of opened h q) (ih agree owns)

and_parts : (a b c : Bool) → (a && b) && c ≡ true → (a ≡ true) × (b ≡ true) × (c ≡ true)
and_parts true true true is = (refl, refl, refl)
and_parts true true false is = absurd (cc)
and_parts true false c is = absurd (cc)
and_parts false b c is = absurd (cc)

-- where all that is live at a key remains, its owner does
claimed_kept : (opened also : ℕ → Bool) (x : List ℕ) (h g : List Change) → LeadsTo opened h g → AgreeOn opened also (part h g) → KeptAt x h g → claimed opened h x ≡ true → claimed also (part h g) x ≡ true
claimed_kept opened also x [] g leads agree kept owns = owns
claimed_kept opened also x (c ∷ h) [] leads agree kept owns = absurd leads
claimed_kept opened also x (c ∷ h) (d ∷ g) leads agree kept owns = at d.live (claims opened x c) refl refl agree owns (λ agreed. claimed_kept opened also x h g leads.3 agreed kept.1)
  where
    at : (live claim : Bool) → d.live ≡ live → claims opened x c ≡ claim → AgreeOn opened also (if live then c ∷ part h g else part h g) → is_some (if claim then Some c.tx else owner_of opened h x) ≡ true → (AgreeOn opened also (part h g) → claimed opened h x ≡ true → claimed also (part h g) x ≡ true) → claimed also (if live then c ∷ part h g else part h g) x ≡ true
    at true true live claim agree owns ih = ap (λ b. is_some (if b then Some c.tx else owner_of also (part h g) x)) (claim_agrees opened also x c agree.0 ∙ claim)
    at true false live claim agree owns ih = claimed_over (claims also x c) c (owner_of also (part h g) x) (ih agree.1 owns)
    at false true live claim agree owns ih =
        let parts = and_parts c.live (opened c.tx) (same_key c.key x) claim in
        absurd (cc (sym live ∙ kept.0 parts.0 (same_key-is c.key x parts.2)))
    at false false live claim agree owns ih = ih agree owns

-- a part charges no more keys
pub charged_less : (opened also : ℕ → Bool) (h g : List Change) (m : Contents) → LeadsTo opened h g → AgreeOn opened also (part h g) → IsWithin (charged also (part h g) (replay m (part h g))) (charged opened h (replay m h))
charged_less opened also h g m leads agree q is =
    has-charged opened h (replay m h) q
    ∙ or_either (claimed also (part h g) q) (has (replay m (part h g)) q) (sym (has-charged also (part h g) (replay m (part h g)) q) ∙ is) (claimed opened h q || has (replay m h) q ≡ true)
    (λ owns. or_first (claimed opened h q) (has (replay m h) q) (claimed_part opened also q h g leads agree owns))
    (λ there. by there (kept_or_claimed opened q h g leads))
  where
    by : has (replay m (part h g)) q ≡ true → KeptAt q h g ⊎ (claimed opened h q ≡ true) → claimed opened h q || has (replay m h) q ≡ true
    by there (inl kept) = or_second (claimed opened h q) (has (replay m h) q) (ap is_some (sym (same_record opened q h g m m leads kept refl)) ∙ there)
    by there (inr owns) = or_first (claimed opened h q) (has (replay m h) q) owns

-- where all that is live at a charged key remains, it is charged by the part
pub charged_kept : (opened also : ℕ → Bool) (x : List ℕ) (h g : List Change) (m : Contents) → LeadsTo opened h g → AgreeOn opened also (part h g) → KeptAt x h g → has (charged opened h (replay m h)) x ≡ true → has (charged also (part h g) (replay m (part h g))) x ≡ true
charged_kept opened also x h g m leads agree kept is =
    has-charged also (part h g) (replay m (part h g)) x
    ∙ or_either (claimed opened h x) (has (replay m h) x) (sym (has-charged opened h (replay m h) x) ∙ is) (claimed also (part h g) x || has (replay m (part h g)) x ≡ true)
    (λ owns. or_first (claimed also (part h g) x) (has (replay m (part h g)) x) (claimed_kept opened also x h g leads agree kept owns))
    (λ there. or_second (claimed also (part h g) x) (has (replay m (part h g)) x) (ap is_some (same_record opened x h g m m leads kept refl) ∙ there))

same_other : (t u : ℕ) → u ≡ t → other_than t (Some u) ≡ None
same_other t u is = at (eqb u t) refl
  where
    at : (b : Bool) → eqb u t ≡ b → (if b then None else Some u) ≡ None
    at true same = refl
    at false apart = absurd (grind (arith, nat_tests))

-- a key that no other transaction holds none holds by a part
pub free_part : (opened also : ℕ → Bool) (t : ℕ) (x : List ℕ) (h g : List Change) → LeadsTo opened h g → AgreeOn opened also (part h g) → PendingAll opened t x h → holder_of also (part h g) t x ≡ None
free_part opened also t x [] g leads agree pending = refl
free_part opened also t x (c ∷ h) [] leads agree pending = absurd leads
free_part opened also t x (c ∷ h) (d ∷ g) leads agree pending = at d.live (claims opened x c) refl agree (λ agreed. free_part opened also t x h g leads.3 agreed pending.1)
  where
    at : (live claim : Bool) → claims opened x c ≡ claim → AgreeOn opened also (if live then c ∷ part h g else part h g) → (AgreeOn opened also (part h g) → holder_of also (part h g) t x ≡ None) → holder_of also (if live then c ∷ part h g else part h g) t x ≡ None
    at true true claim agree ih =
        let parts = and_parts c.live (opened c.tx) (same_key c.key x) claim in
        ap (λ b. other_than t (if b then Some c.tx else owner_of also (part h g) x)) (claim_agrees opened also x c agree.0 ∙ claim)
        ∙ same_other t c.tx (pending.0 parts.0 parts.1 (same_key-is c.key x parts.2))
    at true false claim agree ih = ap (λ b. other_than t (if b then Some c.tx else owner_of also (part h g) x)) (claim_agrees opened also x c agree.0 ∙ claim) ∙ ih agree.1
    at false claim claim_is agree ih = ih agree

-- the end

-- at the end the part is all that is live
pub part_whole : (g : List Change) (m : Contents) → replay m (part g g) ≡ replay m g
part_whole [] m = refl
part_whole (c ∷ g) m = at c.live refl (part_whole g)
  where
    at : (live : Bool) → c.live ≡ live → ((n : Contents) → replay n (part g g) ≡ replay n g) → replay m (if live then c ∷ part g g else part g g) ≡ replay (cond live (write_to m c.key c.after) m) g
    at true live ih = ap (λ b. replay (cond b (write_to m c.key c.after) m) (part g g)) live ∙ ih (write_to m c.key c.after)
    at false live ih = ih m

charged_whole : (opened also : ℕ → Bool) (g : List Change) (m : Contents) → AgreeOn opened also (part g g) → charged also (part g g) m ≡ charged opened g m
charged_whole opened also [] m agree = refl
charged_whole opened also (c ∷ g) m agree = at c.live refl agree (charged_whole opened also g m)
  where
    by : (b : Bool) → charged also (part g g) m ≡ charged opened g m → (if b then set_to (charged also (part g g) m) c.key (Some []) else charged also (part g g) m) ≡ (if b then set_to (charged opened g m) c.key (Some []) else charged opened g m)
    by true ih = ap (λ n. set_to n c.key (Some [])) ih
    by false ih = ih

    at : (live : Bool) → c.live ≡ live → AgreeOn opened also (if live then c ∷ part g g else part g g) → (AgreeOn opened also (part g g) → charged also (part g g) m ≡ charged opened g m) → charged also (if live then c ∷ part g g else part g g) m ≡ (if live && opened c.tx then set_to (charged opened g m) c.key (Some []) else charged opened g m)
    at true live agree ih =
        (λ i. if live i && agree.0 i then set_to (charged also (part g g) m) c.key (Some []) else charged also (part g g) m)
        ∙ by (opened c.tx) (ih agree.1)
    at false live agree ih = ih agree

-- a transaction owns the same keys
pub keys_whole : (opened also : ℕ → Bool) (g : List Change) (t : ℕ) → AgreeOn opened also (part g g) → keys_owned also (part g g) t ≡ keys_owned opened g t
keys_whole opened also g t agree = ap keys (charged_whole (λ u. eqb u t && opened u) (λ u. eqb u t && also u) g empty (agree-map opened also (λ u. eqb u t && opened u) (λ u. eqb u t && also u) (part g g) (λ u is. ap (λ b. eqb u t && b) is) agree))
