-- A rollback under way, after some of its changes were taken back.
use Rattle.std.proofs.Common.{◌≡◌, ℕ, ◌+◌, ◌-◌, ◌≤◌, ◌<◌, suc, Bool, true, false, if◌then◌else◌, nat_le, take, List, Option, Some, None, Result, Ok, Err, refl, sym, ap, subst, ◌∙◌, arith, option_map}
use Rattle.std.proofs.lemmas.Bool.Decides.{nat_tests}
use Rattle.std.specs.FinMap as maps
use Rattle.rec_types.specs.Contents.{Contents}
use Rattle.rec_types.specs.Table.{counted, greatest_count}
use Rattle.rec_types.specs.History.{Change, live_from, take_newest, take_back, undo_last}
use Rattle.rec_types.proofs.HistoryLemmas.{live_from-take_newest, take_newest-none, take_newest-all, take_newest-more}
use Rattle.tx_log.specs.Transactions.{Transactions, Tx, left_in, left_to_undo, place_of_savepoint, depth_of}
use Rattle.tx_log.specs.declared.phase.Rollback.{Rollback}
use Rattle.tx_log.specs.LogState.{IsRolling, phase_of, finished, rolling_to, active_with}
use Rattle.tx_log.specs.declared.phase.Phase.TheVariants as phases
use Rattle.record_file.specs.declared.fault.Stop.{Stop}
use Rattle.record_file.specs.declared.refusal.Refusal.TheVariants.{NoSuchSave}
use Rattle.record_file.specs.declared.fault.Cause.{Cause}
use Rattle.record_file.specs.declared.fault.Cause.TheVariants as causes
use Rattle.record_file.specs.Abstract.{File, tx_of, phase_at}
use Rattle.record_file.specs.Outside.{by_device, by_memory}
use Rattle.record_file.specs.Steps.{rose, rolling_place, places_at, active_refusal, returning_refusal, RollsBack, RollsFrom, EndsBy, StopsAt, TakesBack}
use Rattle.record_file.proofs.FaultLemmas.{rose_same, rose_counted}
use Rattle.record_file.proofs.OpenTxLemmas.{get-inserted_tx, insert-insert_tx, remove-insert_tx}

-- the file after the newest n changes that a rollback has left were taken back, over these opening contents
abbrev pub rolled : File → ℕ → ℕ → Contents → File
rolled f t n m = record f { opening = m; history = take_newest f.history t (rolling_place (tx_of f t)) n }

-- what a rollback has left is what is live from its place on
pub left-rolling : (h : List Change) (t : ℕ) (o : Option Tx) → IsRolling (option_map phase_of o) → left_in h t o ≡ live_from h t (rolling_place o)
left-rolling h t None rolling = absurd rolling
left-rolling h t (Some tx) rolling = at tx.rollback rolling
  where
    at : (r : Option Rollback) → IsRolling (option_map phase_of (Some (record { rollback = r; places = tx.places }))) → left_to_undo h t r ≡ live_from h t (rolling_place (Some (record { rollback = r; places = tx.places })))
    at None rolling = absurd rolling
    at (Some r) rolling = refl

-- after n steps n fewer are left
pub rolled_left : (f : File) (t n : ℕ) → IsRolling (phase_at f t) → left_in (rolled f t n f.opening).history t (tx_of f t) ≡ left_in f.history t (tx_of f t) - n
rolled_left f t n rolling =
    left-rolling (rolled f t n f.opening).history t (tx_of f t) rolling ∙ live_from-take_newest f.history t (rolling_place (tx_of f t)) n
    ∙ ap (λ k. k - n) (sym (left-rolling f.history t (tx_of f t) rolling))

-- no step is made at first
pub rolled_none : (f : File) (t : ℕ) → f ≡ rolled f t 0 f.opening
rolled_none f t = ap (λ (h : List Change). let g : File = record f { history = h } in g) (sym (take_newest-none f.history t (rolling_place (tx_of f t))))

-- one more step
pub rolled_more : (f now new : File) (t n total : ℕ) → IsRolling (phase_at f t) → now ≡ rolled f t n now.opening → total ≡ left_in f.history t (tx_of f t) → n < total
    → new ≡ record now { opening = new.opening; history = undo_last t now.history } → new ≡ rolled f t (n + 1) new.opening
rolled_more f now new t n total rolling is total_is lt after =
    after ∙ ap (λ (g : File). let h : File = record g { opening = new.opening; history = undo_last t g.history } in h) is
    ∙ ap (λ (h : List Change). let g : File = record f { opening = new.opening; history = h } in g) (sym (take_newest-more f.history t (rolling_place (tx_of f t)) n (subst (λ k. n < k) (total_is ∙ left-rolling f.history t (tx_of f t) rolling) lt)))
    ∙ ap (λ k. rolled f t k new.opening) (one_more n)
  where
    one_more : (k : ℕ) → suc k ≡ k + 1
    one_more k = omega arith

-- something is left where fewer than there were are taken back
pub rolled_some : (f now : File) (t n total : ℕ) → IsRolling (phase_at f t) → now ≡ rolled f t n now.opening → total ≡ left_in f.history t (tx_of f t) → n < total → 0 < left_in now.history t (tx_of now t)
rolled_some f now t n total rolling is total_is lt =
    subst (λ (g : File). 0 < left_in g.history t (tx_of g t)) (sym is) (omega (arith, rolled_left f t n rolling, total_is, lt))

-- after as many as were left, none is
pub rolled_out : (f now : File) (t n total : ℕ) → IsRolling (phase_at f t) → now ≡ rolled f t n now.opening → total ≡ left_in f.history t (tx_of f t) → total ≤ n → left_in now.history t (tx_of now t) ≡ 0
rolled_out f now t n total rolling is total_is le =
    subst (λ (g : File). left_in g.history t (tx_of g t) ≡ 0) (sym is) (omega (arith, rolled_left f t n rolling, total_is, le))

-- what ended a call is what its table counted
pub ends_by : (cause : Option Cause) (d e m n : ℕ) → d < greatest_count → m < greatest_count → e ≡ counted d (by_device cause) → n ≡ counted m (by_memory cause) → ((page : ℕ) → cause ≡ Some (causes.Damaged page) → ⊥) → EndsBy (rose d e) (rose m n) cause
ends_by None d e m n few fewer counts refuses damaged = (rose_same d e counts, rose_same m n refuses)
ends_by (Some causes.Device) d e m n few fewer counts refuses damaged = (rose_counted d e few counts, rose_same m n refuses)
ends_by (Some (causes.Damaged page)) d e m n few fewer counts refuses damaged = absurd (damaged page refl)
ends_by (Some causes.Memory) d e m n few fewer counts refuses damaged = (rose_same d e counts, rose_counted m n fewer refuses)

-- the rollback is over
pub rolled_all : (f now new : File) (t n total : ℕ) → IsRolling (phase_at f t) → now ≡ rolled f t n now.opening → total ≡ left_in f.history t (tx_of f t) → total ≤ n → new ≡ record now { txs = finished now.txs t (tx_of now t) }
    → TakesBack f t (rolling_place (tx_of f t)) (finished f.txs t (tx_of f t)) total new
rolled_all f now new t n total rolling is total_is le after = (
  total_is ∙ left-rolling f.history t (tx_of f t) rolling,
  after ∙ ap (λ (g : File). let h : File = record g { txs = finished g.txs t (tx_of g t) } in h) is
      ∙ ap (λ (h : List Change). let g : File = record f { opening = now.opening; history = h; txs = finished f.txs t (tx_of f t) } in g) (take_newest-all f.history t (rolling_place (tx_of f t)) n (subst (λ k. k ≤ n) (total_is ∙ left-rolling f.history t (tx_of f t) rolling) le))
      ∙ ap (λ (m : Contents). let g : File = record f { opening = m; history = take_back f.history t (rolling_place (tx_of f t)); txs = finished f.txs t (tx_of f t) } in g) (sym (ap (λ (g : File). g.opening) after)),
)

-- the file after a rollback to savepoint n has started
abbrev pub started : File → ℕ → ℕ → Bool → File
started f t n ends = record f { txs = maps.insert f.txs t (rolling_to (places_at f t) n ends) }

-- a rollback that has started is under way
pub is_rolling : (f now : File) (t n : ℕ) (ends : Bool) → now ≡ started f t n ends → IsRolling (phase_at now t)
is_rolling f now t n ends is =
    subst (λ (g : File). IsRolling (phase_at g t)) (sym is)
    (subst (λ (o : Option Tx). IsRolling (option_map phase_of o)) (sym (get-inserted_tx f.txs t (rolling_to (places_at f t) n ends))) tt)

-- a rollback that has started was an active transaction
pub rollback_starts : (f : File) (t n : ℕ) → phase_at f t ≡ Some phases.Active → n ≤ depth_of (tx_of f t) → returning_refusal f t n ≡ None
rollback_starts f t n active le = ap (active_refusal _) active ∙ ap (λ b. if b then None else Some NoSuchSave) (below n (depth_of (tx_of f t)) le)
  where
    below : (a b : ℕ) → a ≤ b → nat_le a b ≡ true
    below a b le = grind (arith, nat_tests)

-- what taking back says of the started file, it says of the file before
started_back : (f now new : File) (t n undone : ℕ) (ends : Bool) → now ≡ started f t n ends → RollsBack now t (Ok undone) new
    → TakesBack f t (place_of_savepoint (places_at f t) n) (if ends then maps.remove f.txs t else maps.insert f.txs t (active_with (take n (places_at f t)))) undone new
started_back f now new t n undone ends is step =
    let rolling = rolling_to (places_at f t) n ends in
    let over = subst (λ (g : File). RollsBack g t (Ok undone) new) is step in
    let told = subst (λ (o : Option Tx). TakesBack (started f t n ends) t (rolling_place o) (finished (started f t n ends).txs t o) undone new) (get-inserted_tx f.txs t rolling) over in
    at ends told
  where
    at : (e : Bool) → TakesBack (started f t n ends) t (place_of_savepoint (places_at f t) n) (if e then maps.remove (maps.insert f.txs t (rolling_to (places_at f t) n ends)) t else maps.insert (maps.insert f.txs t (rolling_to (places_at f t) n ends)) t (active_with (take n (places_at f t)))) undone new
        → TakesBack f t (place_of_savepoint (places_at f t) n) (if e then maps.remove f.txs t else maps.insert f.txs t (active_with (take n (places_at f t)))) undone new
    at true told = (told.0, told.1 ∙ ap (λ (txs : Transactions). let g : File = record f { opening = new.opening; history = take_back f.history t (place_of_savepoint (places_at f t) n); txs = txs } in g) (remove-insert_tx f.txs t (rolling_to (places_at f t) n ends)))
    at false told = (told.0, told.1 ∙ ap (λ (txs : Transactions). let g : File = record f { opening = new.opening; history = take_back f.history t (place_of_savepoint (places_at f t) n); txs = txs } in g) (insert-insert_tx f.txs t (rolling_to (places_at f t) n ends) (active_with (take n (places_at f t)))))

-- a stop of a rollback, said of the file before it started
started_stop : (f now new : File) (t n : ℕ) (ends : Bool) (stop : Stop) → now ≡ started f t n ends → RollsBack now t (Err stop) new
    → StopsAt f t (place_of_savepoint (places_at f t) n) (maps.insert f.txs t (rolling_to (places_at f t) n ends)) stop.undone stop.left new
started_stop f now new t n ends stop is step =
    let over = subst (λ (g : File). RollsBack g t (Err stop) new) is step in
    subst (λ (o : Option Tx). StopsAt (started f t n ends) t (rolling_place o) (started f t n ends).txs stop.undone stop.left new) (get-inserted_tx f.txs t (rolling_to (places_at f t) n ends)) over

-- what a started rollback comes to, said of the file before
pub started_rolls : (f now new : File) (t n : ℕ) (ends : Bool) (answer : Result ℕ Stop) → now ≡ started f t n ends → RollsBack now t answer new → RollsFrom f t n ends answer new
started_rolls f now new t n ends (Ok undone) is step = started_back f now new t n undone ends is step
started_rolls f now new t n ends (Err stop) is step = started_stop f now new t n ends stop is step
