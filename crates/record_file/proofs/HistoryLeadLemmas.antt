-- Each call's history leads to the next one's, and so to the last one's.
use Rattle.std.proofs.Common.{◌≡◌, ℕ, ◌≤◌, zero, suc, Bool, true, false, cond, if◌then◌else◌, ◌&&◌, eqb, nat_lt, List, [], ◌∷◌, ◌++◌, Option, Some, slice_get, refl, sym, ap, subst, ◌∙◌, IsTrue, arith}
use Rattle.std.proofs.lemmas.Bool.Decides.{nat_tests}
use Rattle.rec_types.specs.Contents.{Contents}
use Rattle.rec_types.specs.History.{Change, live_of, taken_back, live_from, take_newest, undo_last}
use Rattle.rec_types.specs.Kept.{Kept, history_of, AllBegun}
use Rattle.rec_types.proofs.HistoryLemmas.{take_newest-none, take_newest-more}
use Rattle.tx_log.specs.Transactions.{fresh}
use Rattle.record_file.specs.Abstract.{File, open_of}
use Rattle.record_file.specs.Runs.{Called, Event, Seen, Run}
use Rattle.record_file.specs.Undo.{old_record}
use Rattle.record_file.specs.Leads.{NoneLeft, LeadsTo}
use Rattle.record_file.proofs.InvariantLemmas.{OpensNone, none_by_new, none_by_end}
use Rattle.record_file.proofs.CallKindLemmas.{Move, Still, Began, PutIn, ClaimIn, TookOut, Committed, WentBack, Ended, move_of, taken_all}
use Rattle.record_file.proofs.RunLemmas.{KeptRun, step_kept, added}

-- each change is of one of the first n transactions
abbrev pub BegunAll : ℕ → List Change → Type 0
BegunAll n [] = Unit {0}
BegunAll n (c ∷ h) = (c.tx ≤ n) × BegunAll n h

begun_all : (n : ℕ) (cs : List Kept) → AllBegun n cs → BegunAll n (history_of cs)
begun_all n [] all = tt
begun_all n (c ∷ cs) all = (all.0, begun_all n cs all.1)

-- a change stays what it is but for its mark
same_tx_of : (c d : Change) → d ≡ record c { live = d.live } → d.tx ≡ c.tx
same_tx_of c d is = ap (λ (e : Change). e.tx) is

left_back : (opened : ℕ → Bool) (t : ℕ) (h h2 g : List Change) → LeadsTo opened h h2 → NoneLeft t h2 g → NoneLeft t h g
left_back opened t [] h2 g leads none = tt
left_back opened t (c ∷ h) [] g leads none = absurd leads
left_back opened t (c ∷ h) (d ∷ h2) [] leads none = tt
left_back opened t (c ∷ h) (d ∷ h2) (e ∷ g) leads none = (λ mine. none.0 (same_tx_of c d leads.0 ∙ mine), left_back opened t h h2 g leads.3 none.1)

dead_on : (a b : Bool) → (IsTrue b → IsTrue a) → a ≡ false → b ≡ false
dead_on a true up dead = absurd (cc (sym dead ∙ up refl))
dead_on a false up dead = refl

-- a history leads to itself
pub leads-refl : (opened : ℕ → Bool) (h : List Change) → LeadsTo opened h h
leads-refl opened [] = tt
leads-refl opened (c ∷ h) = (refl, λ live. live, λ live dead. absurd (cc (sym live ∙ dead)), leads-refl opened h)

-- it leads to one with a further change
pub leads-push : (opened : ℕ → Bool) (h : List Change) (c : Change) → LeadsTo opened h (h ++ c ∷ [])
leads-push opened [] c = tt
leads-push opened (d ∷ h) c = (refl, λ live. live, λ live dead. absurd (cc (sym live ∙ dead)), leads-push opened h c)

left_on : (opened also : ℕ → Bool) (t : ℕ) (h h2 g : List Change) → LeadsTo opened h h2 → LeadsTo also h2 g → NoneLeft t h h2 → NoneLeft t h g
left_on opened also t [] h2 g first next none = tt
left_on opened also t (c ∷ h) [] g first next none = absurd first
left_on opened also t (c ∷ h) (d ∷ h2) [] first next none = absurd next
left_on opened also t (c ∷ h) (d ∷ h2) (e ∷ g) first next none = (λ mine. dead_on d.live e.live next.1 (none.0 mine), left_on opened also t h h2 g first.3 next.3 none.1)

-- from step to step, where no transaction of a change opens again
pub leads-trans : (opened also : ℕ → Bool) (n : ℕ) (h h2 g : List Change) → BegunAll n h → ((t : ℕ) → t ≤ n → IsTrue (also t) → IsTrue (opened t)) → LeadsTo opened h h2 → LeadsTo also h2 g → LeadsTo opened h g
leads-trans opened also n [] h2 g begun none first next = tt
leads-trans opened also n (c ∷ h) [] g begun none first next = absurd first
leads-trans opened also n (c ∷ h) (d ∷ h2) [] begun none first next = absurd next
leads-trans opened also n (c ∷ h) (d ∷ h2) (e ∷ g) begun none first next = (
  next.0 ∙ (λ i. record (first.0 i) { live = e.live }),
  λ live. first.1 (next.1 live),
  λ live dead. at d.live refl live dead,
  leads-trans opened also n h h2 g begun.1 none first.3 next.3,
)
  where
    tx_is : d.tx ≡ c.tx
    tx_is = same_tx_of c d first.0

    at : (mid : Bool) → d.live ≡ mid → IsTrue c.live → e.live ≡ false → IsTrue (opened c.tx) × NoneLeft c.tx h g
    at true mid live dead =
        let it = next.2 mid dead in
        (none c.tx begun.0 (subst (λ t. IsTrue (also t)) tx_is it.0), left_back opened c.tx h h2 g first.3 (subst (λ t. NoneLeft t h2 g) tx_is it.1))
    at false mid live dead =
        let it = first.2 live mid in
        (it.0, left_on opened also c.tx h h2 g first.3 next.3 it.1)

none_own : (t : ℕ) (h : List Change) → live_from h t zero ≡ 0 → NoneLeft t h h
none_own t [] none = tt
none_own t (c ∷ h) none = at (eqb c.tx t) c.live refl refl none (none_own t h)
  where
    at : (own live : Bool) → eqb c.tx t ≡ own → c.live ≡ live → cond (own && live) (suc (live_from h t zero)) (live_from h t zero) ≡ 0 → (live_from h t zero ≡ 0 → NoneLeft t h h) → (c.tx ≡ t → c.live ≡ false) × NoneLeft t h h
    at true true own_is live_is none ih = absurd (omega (arith, none))
    at true false own_is live_is none ih = (λ mine. live_is, ih none)
    at false live own_is live_is none ih = (λ mine. absurd (grind (arith, nat_tests)), ih none)

-- it leads to one whose newest live change of an open transaction is taken back
pub leads-undo_last : (opened : ℕ → Bool) (t : ℕ) (h : List Change) → IsTrue (opened t) → LeadsTo opened h (undo_last t h)
leads-undo_last opened t [] there = tt
leads-undo_last opened t (c ∷ h) there = at (nat_lt 0 (live_from h t zero)) (live_of t c) refl refl (leads-undo_last opened t h there)
  where
    mine_of : live_of t c ≡ true → c.tx ≡ t
    mine_of own = at (eqb c.tx t) refl own
      where
        at : (b : Bool) → eqb c.tx t ≡ b → b && c.live ≡ true → c.tx ≡ t
        at true is own = grind (arith, nat_tests)
        at false is own = absurd (cc)

    none_of : (n : ℕ) → nat_lt 0 n ≡ false → n ≡ 0
    none_of n is = grind (arith, nat_tests)

    at : (more own : Bool) → nat_lt 0 (live_from h t zero) ≡ more → live_of t c ≡ own → LeadsTo opened h (undo_last t h) → LeadsTo opened (c ∷ h) (if more then c ∷ undo_last t h else (if own then taken_back c else c) ∷ h)
    at true own more_is own_is later = (refl, λ live. live, λ live dead. absurd (cc (sym live ∙ dead)), later)
    at false true more_is own_is later = (refl, λ live. absurd (cc live), λ live dead. (ap opened (mine_of own_is) ∙ there, subst (λ u. NoneLeft u h h) (sym (mine_of own_is)) (none_own t h (none_of (live_from h t zero) more_is))), leads-refl opened h)
    at false false more_is own_is later = leads-refl opened (c ∷ h)

begun_undo_last : (n t : ℕ) (h : List Change) → BegunAll n h → BegunAll n (undo_last t h)
begun_undo_last n t [] all = tt
begun_undo_last n t (c ∷ h) all = at (nat_lt 0 (live_from h t zero)) (live_of t c) (begun_undo_last n t h all.1)
  where
    at : (more own : Bool) → BegunAll n (undo_last t h) → BegunAll n (if more then c ∷ undo_last t h else (if own then taken_back c else c) ∷ h)
    at true own later = (all.0, later)
    at false true later = all
    at false false later = all

-- it leads to one whose newest few are taken back
pub leads-take_newest : (opened : ℕ → Bool) (m : ℕ) (h : List Change) (t p n : ℕ) → BegunAll m h → IsTrue (opened t) → n ≤ live_from h t p → LeadsTo opened h (take_newest h t p n)
leads-take_newest opened m h t p zero begun there le = subst (LeadsTo opened h) (sym (take_newest-none h t p)) (leads-refl opened h)
leads-take_newest opened m h t p (suc n) begun there le =
    subst (LeadsTo opened h) (sym (take_newest-more h t p n (omega (arith, le))))
    (leads-trans opened opened m h (take_newest h t p n) (undo_last t (take_newest h t p n)) begun (λ q low is. is)
    (leads-take_newest opened m h t p n begun there (omega (arith, le)))
    (leads-undo_last opened t (take_newest h t p n) there))

over : (old new f : File) → new ≡ f → LeadsTo (open_of old) old.history f.history → OpensNone old.txs f.txs old.begun → LeadsTo (open_of old) old.history new.history × OpensNone old.txs new.txs old.begun
over old new f is leads none = subst (λ (f : File). LeadsTo (open_of old) old.history f.history × OpensNone old.txs f.txs old.begun) (sym is) (leads, none)

-- what a call did to the history, and that no transaction of a change opened again
pub move_leads : (old : File) (called : Called) (new : File) → BegunAll old.begun old.history → Move old called new → LeadsTo (open_of old) old.history new.history × OpensNone old.txs new.txs old.begun
move_leads old called new begun (Still is no_record no_begin) = over old new old is (leads-refl (open_of old) old.history) (λ t le there. there)
move_leads old called new begun (Began tx called_is step) = over old new _ step.2 (leads-refl (open_of old) old.history) (none_by_new old.txs old.begun fresh)
move_leads old called new begun (PutIn t x r before called_is free room stood is) = over old new _ is (leads-push (open_of old) old.history _) (λ t le there. there)
move_leads old called new begun (ClaimIn t x before called_is free room stood is) = over old new _ is (leads-push (open_of old) old.history _) (λ t le there. there)
move_leads old called new begun (TookOut t x before called_is free stood is) = over old new _ is (leads-push (open_of old) old.history _) (λ t le there. there)
move_leads old called new begun (Committed t done called_is step) = over old new _ step.1 (leads-refl (open_of old) old.history) (none_by_end old.txs old.begun t.0)
move_leads old called new begun (WentBack t p n txs there le is same ends no_record no_begin) = over old new _ is (leads-take_newest (open_of old) old.begun old.history t p n begun there le) (λ q low is. sym (same q) ∙ is)
move_leads old called new begun (Ended t there is no_record no_begin) = over old new _ is
    (subst (LeadsTo (open_of old) old.history) (sym (taken_all old.history t zero)) (leads-take_newest (open_of old) old.begun old.history t zero (live_from old.history t zero) begun there (omega arith)))
    (none_by_end old.txs old.begun t)

-- each change is of a transaction that was begun
pub begun_of : (m : Contents) (answered : List (Option (List ℕ))) (f : File) → KeptRun m answered f → BegunAll f.begun f.history
begun_of m answered f kept = subst (BegunAll f.begun) kept.history (begun_all f.begun kept.cs kept.holds.all)

-- the history of each point of a run leads to the last one
pub run_leads : (m : Contents) (answered : List (Option (List ℕ))) (old new : Seen) (es : List Event) → IsTrue old.sound → KeptRun m answered old.file → Run old es new → LeadsTo (open_of old.file) old.file.history new.file.history
run_leads m answered old new [] sound kept ran = subst (λ (f : File). LeadsTo (open_of old.file) old.file.history f.history) (sym (ap (λ (s : Seen). s.file) ran)) (leads-refl (open_of old.file) old.file.history)
run_leads m answered old new (e ∷ es) sound kept ran =
    let first = move_leads old.file e.called ran.0.file (begun_of m answered old.file kept) (move_of old ran.0 e sound ran.1) in
    leads-trans (open_of old.file) (open_of ran.0.file) old.file.begun old.file.history ran.0.file.history new.file.history (begun_of m answered old.file kept) first.1 first.0
    (run_leads m (added answered (old_record e.called)) ran.0 new es (ran.1.happens.sound ∙ sound) (step_kept m answered old ran.0 e sound kept ran.1) ran.2)

-- a live change of a transaction that has ended stays live
pub ended_stays : (opened : ℕ → Bool) (h g : List Change) (n : ℕ) (c d : Change) → LeadsTo opened h g → slice_get h n ≡ Some c → IsTrue c.live → opened c.tx ≡ false → slice_get g n ≡ Some d → d.live ≡ false → ⊥
ended_stays opened [] g n c d leads is live ended final dead = absurd (cc)
ended_stays opened (b ∷ h) [] n c d leads is live ended final dead = absurd leads
ended_stays opened (b ∷ h) (e ∷ g) zero c d leads is live ended final dead =
    let here : b ≡ c = cc in
    let there : e ≡ d = cc in
    let taken = leads.2 (ap (λ (c : Change). c.live) here ∙ live) (ap (λ (c : Change). c.live) there ∙ dead) in
    absurd (cc (sym (ap (λ (c : Change). opened c.tx) here ∙ ended) ∙ taken.0))
ended_stays opened (b ∷ h) (e ∷ g) (suc n) c d leads is live ended final dead = ended_stays opened h g n c d leads.3 is live ended final dead
